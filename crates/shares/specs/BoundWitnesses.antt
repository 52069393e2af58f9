-- The bounds of document 02, W-204 and W-210, by computation on halls of three and five: they are reached, less is too little, also where
-- the waits stop at 65,535, and neither "not restarted" nor "due at each" can be left out.
use Rattle.std.specs.Prelude.{◌≡◌, refl, Bool, true, false, List, [], ◌∷◌, ◌++◌, map, ℕ, ◌+◌, ◌-◌, ◌/◌, ◌≤◌, ◌<◌, length, replicate, set}
use Rattle.std.proofs.lemmas.Bool.{false≢true}
use Rattle.std.proofs.Common.{arith}
use Rattle.table.specs.Table.{fresh_values}
use Rattle.event.specs.Event.{event, bytes_of}
use Rattle.event.specs.Kinds as Kind
use Rattle.rules.specs.Commands.{no_commands}
use Rattle.damper.specs.declared.Drive.{Drive}
use Rattle.damper.specs.Record.{drive, last, no_run}
use Rattle.damper.specs.WellFormed.{well_formed}
use Rattle.order.specs.Order.{larger_first}
use Rattle.hall.specs.Closed as Closed
use Rattle.hall.specs.Hall.{Call, give, tick, at}
use Rattle.hall.specs.Quota.{due_now, wait_at, sends}
use Rattle.hall.specs.Turns.{Given, bytes, hall_tick, hall_step, hall_after, share}
use Rattle.shares.specs.Bound.{ticks_given, due_at_each, sent_at_one, restarted, quotas_in, quotas_from, sent_in_quotas, sent_rounded_up}

-- `unfolding computation` opens drive and hall, and what the bound speaks of
unfoldable pub computation : Unit {0}
unfolding Closed.computation ticks_given due_at_each sent_at_one restarted quotas_in quotas_from
computation = tt

-- whether a drive is sent, and whether it is due, at each hall tick of what it is given
abbrev sent_ticks : List Given → List Bool
sent_ticks [] = []
sent_ticks (bytes s ∷ gs) = sent_ticks gs
sent_ticks (hall_tick sent ∷ gs) = sent ∷ sent_ticks gs

abbrev due_ticks : Drive → List Given → List Bool
due_ticks d [] = []
due_ticks d (bytes s ∷ gs) = due_ticks (hall_step d (bytes s)).drive gs
due_ticks d (hall_tick sent ∷ gs) = due_now d ∷ due_ticks (hall_step d (hall_tick sent)).drive gs

-- a drive closed and reported so, with a MinRepTime of 1, a RepPer and a wait: due at every tick where RepPer is 1
abbrev closed : ℕ → ℕ → Drive
closed period wait = drive 0 (set (set fresh_values 3 1) 8 period) no_commands 0 no_run 0 (last 1 0 32) wait 0

-- halls of drives that are due at every tick, with one wait
abbrev eager : ℕ → ℕ → List Drive
eager drives wait = replicate drives (closed 1 wait)

-- hall ticks with these quotas, and an event given to the drive at place 2
abbrev pub ticking : List ℕ → List Call
ticking quotas = map (λ q. tick q 64) quotas

abbrev pub giving : ℕ → ℕ → Call
giving kind a = give (2 ∷ []) (bytes_of (event kind a 0 0)) 1

-- The last drive of a hall whose drives are due at every tick, over hall ticks with these quotas: the quotas together, at which ticks it is
-- sent, and its wait after them.
pub record Stretch (drives wait : ℕ) (quotas : List ℕ) (together : ℕ) (sent : List Bool) (after : ℕ) : Type 0 where
  pub formed : well_formed (at (eager drives wait) (drives - 1)) ≡ true
  pub quotas_are : quotas_in drives (ticking quotas) ≡ together
  pub ticks_are : ticks_given (share (eager drives wait) (drives - 1) (ticking quotas)) ≡ length quotas
  pub due_at_each_lem : due_at_each (at (eager drives wait) (drives - 1)) (share (eager drives wait) (drives - 1) (ticking quotas)) ≡ true
  pub unrestarted : restarted (at (eager drives wait) (drives - 1)) (share (eager drives wait) (drives - 1) (ticking quotas)) ≡ false
  pub sent_at : sent_ticks (share (eager drives wait) (drives - 1) (ticking quotas)) ≡ sent
  pub wait_after_lem : (at (hall_after (eager drives wait) (ticking quotas)) (drives - 1)).wait ≡ after

-- of three with a quota of 1: at the third tick of three, the last that the bounds leave
pub last_of_three : Stretch 3 0 (1 ∷ 1 ∷ 1 ∷ []) 3 (false ∷ false ∷ true ∷ []) 0
unfolding computation
last_of_three =
    record { formed = refl; quotas_are = refl; ticks_are = refl; due_at_each_lem = refl; unrestarted = refl; sent_at = refl; wait_after_lem = refl }

pub two_too_few : Stretch 3 0 (1 ∷ 1 ∷ []) 2 (false ∷ false ∷ []) 2
unfolding computation
two_too_few =
    record { formed = refl; quotas_are = refl; ticks_are = refl; due_at_each_lem = refl; unrestarted = refl; sent_at = refl; wait_after_lem = refl }

-- so it is from waits that have stopped: the lower number goes first among equals, and the wait stays at 65,535 while the drive is held
pub last_of_three_stopped : Stretch 3 65535 (1 ∷ 1 ∷ 1 ∷ []) 3 (false ∷ false ∷ true ∷ []) 0
unfolding computation
last_of_three_stopped =
    record { formed = refl; quotas_are = refl; ticks_are = refl; due_at_each_lem = refl; unrestarted = refl; sent_at = refl; wait_after_lem = refl }

pub two_too_few_stopped : Stretch 3 65535 (1 ∷ 1 ∷ []) 2 (false ∷ false ∷ []) 65535
unfolding computation
two_too_few_stopped =
    record { formed = refl; quotas_are = refl; ticks_are = refl; due_at_each_lem = refl; unrestarted = refl; sent_at = refl; wait_after_lem = refl }

-- of five with a quota of 2: at the third tick, which is 5 / 2 rounded up
pub third_of_five : Stretch 5 0 (2 ∷ 2 ∷ 2 ∷ []) 6 (false ∷ false ∷ true ∷ []) 0
unfolding computation
third_of_five =
    record { formed = refl; quotas_are = refl; ticks_are = refl; due_at_each_lem = refl; unrestarted = refl; sent_at = refl; wait_after_lem = refl }

pub two_of_five : Stretch 5 0 (2 ∷ 2 ∷ []) 4 (false ∷ false ∷ []) 2
unfolding computation
two_of_five =
    record { formed = refl; quotas_are = refl; ticks_are = refl; due_at_each_lem = refl; unrestarted = refl; sent_at = refl; wait_after_lem = refl }

-- with quotas that change: as soon as they add up to 5, and not before
pub quotas_of_five : Stretch 5 65535 (1 ∷ 3 ∷ 1 ∷ []) 5 (false ∷ false ∷ true ∷ []) 0
unfolding computation
quotas_of_five =
    record { formed = refl; quotas_are = refl; ticks_are = refl; due_at_each_lem = refl; unrestarted = refl; sent_at = refl; wait_after_lem = refl }

-- "Who is behind stays behind" is false where waits have stopped: of three drives that are due, that at place 0, which waited 65,534 hall
-- ticks, goes behind that at place 2, which waited 65,535; a hall tick sends that at place 1 and holds both; then place 0 goes before it.
abbrev stopping : List Drive
stopping = closed 1 65534 ∷ closed 1 65535 ∷ closed 1 65535 ∷ []

abbrev stopped : List Drive
stopped = hall_after stopping (tick 1 3 ∷ [])

pub behind_at_the_cap : (map due_now stopping ≡ true ∷ true ∷ true ∷ [])
    × (map (sends 1 stopping) (0 ∷ 1 ∷ 2 ∷ []) ≡ false ∷ true ∷ false ∷ [])
    × (larger_first (wait_at stopping) 0 2 ≡ true)
    × (larger_first (wait_at stopped) 0 2 ≡ false)
    × (map (sends 1 stopped) (0 ∷ 1 ∷ 2 ∷ []) ≡ true ∷ false ∷ false ∷ [])
unfolding computation
behind_at_the_cap = (refl, refl, refl, refl, refl)

-- Restarted after two ticks, the last of three is due at a third and not sent there either: the restart cleared its wait.
abbrev between : List Call
between = ticking (1 ∷ 1 ∷ []) ++ (giving Kind.restart 0 ∷ ticking (1 ∷ []))

pub restart_between : (quotas_in 3 between ≡ 3)
    × (due_at_each (at (eager 3 0) 2) (share (eager 3 0) 2 between) ≡ true)
    × (restarted (at (eager 3 0) 2) (share (eager 3 0) 2 between) ≡ true)
    × (sent_at_one (share (eager 3 0) 2 between) ≡ false)
unfolding computation
restart_between = (refl, refl, refl, refl)

-- A drive at place 2 that is due at every second tick only, its hand being on at these, is never sent, here of six: not due clears its
-- wait.
abbrev often : List Drive
often = closed 1 0 ∷ closed 1 0 ∷ closed 900 0 ∷ []

abbrev on_off : List Call
on_off = giving Kind.hand 1 ∷ tick 1 3 ∷ giving Kind.hand 0 ∷ tick 1 3 ∷ []

abbrev six : List Call
six = on_off ++ (on_off ++ on_off)

pub every_second : (due_ticks (at often 2) (share often 2 six) ≡ true ∷ false ∷ true ∷ false ∷ true ∷ false ∷ [])
    × (restarted (at often 2) (share often 2 six) ≡ false)
    × (sent_ticks (share often 2 six) ≡ false ∷ false ∷ false ∷ false ∷ false ∷ false ∷ [])
unfolding computation
every_second = (refl, refl, refl)

-- The bound with its operands left open: what is enough, by the number of drives and the quotas together, and what is supposed of a restart.
abbrev pub Bounded : (ℕ → ℕ → Type 0) → (Bool → Type 0) → Type 0
Bounded enough restarts =
    (row : List Drive) (cs : List Call) (i : ℕ)
    → i < length row
    → well_formed (at row i) ≡ true
    → enough (length row) (quotas_in (length row) cs)
    → due_at_each (at row i) (share row i cs) ≡ true
    → restarts (restarted (at row i) (share row i cs))
    → sent_at_one (share row i cs) ≡ true

-- That they add up to the number of drives is proved; one less, and a drive that is restarted meanwhile, and it is false.
pub bounded : Bounded (λ n q. n ≤ q) (λ r. r ≡ false)
bounded = sent_in_quotas

pub one_less_refuted : Bounded (λ n q. n ≤ q + 1) (λ r. r ≡ false) → ⊥
unfolding computation
one_less_refuted b = false≢true (b (eager 5 0) (ticking (2 ∷ 2 ∷ [])) 4 (omega arith) refl (omega arith) refl refl)

pub past_restart_refuted : Bounded (λ n q. n ≤ q) (λ r. Unit {0}) → ⊥
unfolding computation
past_restart_refuted b = false≢true (b (eager 3 0) between 2 (omega arith) refl (omega arith) refl tt)

-- W-210's with the number of hall ticks left open, by the number of drives and the quota.
abbrev pub Within : (ℕ → ℕ → ℕ) → Type 0
Within many =
    (row : List Drive) (cs : List Call) (i q : ℕ)
    → i < length row
    → well_formed (at row i) ≡ true
    → 1 ≤ q
    → quotas_from (length row) q cs ≡ true
    → many (length row) q ≤ ticks_given (share row i cs)
    → due_at_each (at row i) (share row i cs) ≡ true
    → restarted (at row i) (share row i cs) ≡ false
    → sent_at_one (share row i cs) ≡ true

-- "the number of drives divided by the quota, rounded up" is proved, and by it the last of five is sent within three hall ticks of quota 2
pub within : Within (λ n q. (n + q - 1) / q)
within = sent_rounded_up

pub five_within : sent_at_one (share (eager 5 0) 4 (ticking (2 ∷ 2 ∷ 2 ∷ []))) ≡ true
unfolding computation
five_within = within (eager 5 0) (ticking (2 ∷ 2 ∷ 2 ∷ [])) 4 2 (omega arith) refl (omega arith) refl (omega arith) refl refl

-- Rounded down it is false, and so with one tick fewer than rounded up, which with a quota of 1 is one fewer than W-204's.
pub rounded_down_refuted : Within (λ n q. n / q) → ⊥
unfolding computation
rounded_down_refuted w = false≢true (w (eager 5 0) (ticking (2 ∷ 2 ∷ [])) 4 2 (omega arith) refl (omega arith) refl (omega arith) refl refl)

pub one_tick_short_refuted : Within (λ n q. (n + q - 1) / q - 1) → ⊥
unfolding computation
one_tick_short_refuted w = false≢true (w (eager 3 0) (ticking (1 ∷ 1 ∷ [])) 2 1 (omega arith) refl (omega arith) refl (omega arith) refl refl)
