-- Wrong hall ticks of one drive (W-204) and wrong rules of who is sent (W-210), each with an input on which document 02 says otherwise.
use Rattle.std.specs.Prelude.{◌≡◌, refl, Bool, true, false, not, ◌&&◌, ◌||◌, List, [], ◌∷◌, ℕ, ◌+◌, ◌-◌, ◌*◌, ltb, eqb, length, get_or, set}
use Rattle.numbers.specs.Numbers.{pick, bit, next}
use Rattle.numbers.specs.Every.{Every}
use Rattle.numbers.specs.Places.{tabulate, count_below}
use Rattle.table.specs.Table.{fresh_values}
use Rattle.rules.specs.Commands.{no_commands, interlocked}
use Rattle.answer.specs.declared.Answer.{Answer}
use Rattle.answer.specs.declared.Answer.TheVariants.{No}
use Rattle.answer.specs.Answer.{number_of, values_of, is_report}
use Rattle.damper.specs.declared.Drive.{Drive}
use Rattle.damper.specs.declared.Outcome.{Outcome}
use Rattle.damper.specs.Record.{drive, last, no_run, fresh_drive, with_counts, with_setpoint, with_wait}
use Rattle.damper.specs.WellFormed.{well_formed}
use Rattle.damper.specs.Tick.{advance, due, reported}
use Rattle.damper.specs.Step.{outcome, tick_with}
use Rattle.hall.specs.Hall.{at}
use Rattle.hall.specs.Quota.{due_now, wait_after, hall_ticked, sends}
use Rattle.hall.specs.Turns.{tick_number}
use Rattle.refuted_hall.specs.Closed.{computation, Case, Refuted, all_refuted}

-- a drive with MinRepTime 1, due at the next tick for want of a report, that waited `w` hall ticks; one that is not due; one that is not
-- well formed
abbrev quick : ℕ → Drive
quick w = drive 0 (set fresh_values 3 1) no_commands 0 no_run 0 (last 0 0 0) w 0

abbrev undue : ℕ → Drive
undue w = with_wait fresh_drive w

abbrev broken : ℕ → Drive
broken w = drive 0 fresh_values (interlocked no_commands 0 4) 0 no_run 0 (last 0 0 0) w 0

-- Wrong hall ticks of a drive.

abbrev HallTick : Type 0
HallTick = Bool → Drive → Outcome

-- the drive that a hall tick leaves, changed where it is well formed and due and not sent
abbrev held_as : (Drive → Drive) → HallTick
held_as f sent d = let o = hall_ticked sent d in pick (due_now d && not sent) (outcome (f o.drive) o.answer) o

-- a report that is held sets since to 0
abbrev held_resets_since : HallTick
held_resets_since = held_as (λ d. with_counts d d.age 0)

-- a report that is held is stored as the last one
abbrev held_stored : HallTick
held_stored = held_as (λ d. with_wait (with_counts (reported d) d.age d.since) d.wait)

-- a wait, by whether the drive is due, whether it is sent and the wait before
abbrev waits_by : (Bool → Bool → ℕ → ℕ) → HallTick
waits_by f sent d =
    let o = hall_ticked sent d in
    pick (well_formed d) (outcome (with_wait o.drive (f (due (advance d).drive) sent d.wait)) o.answer) o

-- a drive that is not due keeps its wait; one that is sent does; a wait goes on beyond 65,535
abbrev undue_keeps_its_wait : HallTick
undue_keeps_its_wait = waits_by (λ is_due sent w. pick (is_due && not sent) (next w) (pick is_due 0 w))

abbrev sent_keeps_its_wait : HallTick
sent_keeps_its_wait = waits_by (λ is_due sent w. pick is_due (pick sent w (next w)) 0)

abbrev wait_beyond_the_last : HallTick
wait_beyond_the_last = waits_by (λ is_due sent w. pick (is_due && not sent) (w + 1) 0)

-- the wait of a drive that is not well formed is cleared; such a drive is ticked
abbrev unformed_cleared : HallTick
unformed_cleared sent d = pick (well_formed d) (hall_ticked sent d) (outcome (with_wait d 0) (No 1))

abbrev unformed_ticked : HallTick
unformed_ticked sent d =
    let a = advance d in
    let o = tick_with sent a in
    outcome (with_wait o.drive (wait_after (due a.drive) sent d.wait)) o.answer

-- since, whether there is a last report, and wait after a hall tick, and its number
abbrev shown : (Answer → ℕ) → Outcome → List ℕ
shown number o = o.drive.since ∷ o.drive.last.reported ∷ o.drive.wait ∷ number o.answer ∷ []

-- a drive, whether it is sent, and what is shown of it then by document 02
abbrev ticked_by : HallTick → Drive → Bool → List ℕ → Case
ticked_by wrong d sent after = record {
  given = shown tick_number (hall_ticked sent d);
  wrong = shown tick_number (wrong sent d);
  paper = after;
}

-- position and status of a report exchanged in its number, of a drive that is sent
abbrev status_first : Answer → ℕ
status_first a = pick (is_report a) (65536 + 256 * get_or (values_of a) 3 0 + get_or (values_of a) 0 0) (number_of a)

abbrev number_by : (Answer → ℕ) → Drive → List ℕ → Case
number_by wrong d after = record { given = shown tick_number (hall_ticked true d); wrong = shown wrong (hall_ticked true d); paper = after }

-- the move of a report that is held is not counted (W-208), and a drive that moves by 5, to which that happens
abbrev held_uncounted : HallTick
held_uncounted sent d =
    let o = hall_ticked sent d in
    let n = o.drive in
    pick (due_now d && not sent)
    (outcome (drive n.position n.params n.commands n.age n.run n.since n.last n.wait d.travel) o.answer)
    o

abbrev moving : Drive
moving = with_setpoint (quick 0) 255

-- a drive, whether it is sent, and its count then by document 02
abbrev counted_by : HallTick → Drive → Bool → ℕ → Case
counted_by wrong d sent count = record {
  given = (hall_ticked sent d).drive.travel ∷ [];
  wrong = (wrong sent d).drive.travel ∷ [];
  paper = count ∷ [];
}

abbrev pub tick_table : List Case
tick_table =
    -- "Each drive keeps how many hall ticks in a row it was due and not sent, stopping at 65,535; fresh, sent or not due it is 0, but a
    -- drive not well formed keeps it."
    ticked_by undue_keeps_its_wait (undue 7) false (1 ∷ 0 ∷ 0 ∷ 0 ∷ [])
    ∷ ticked_by sent_keeps_its_wait (quick 7) true (0 ∷ 1 ∷ 0 ∷ 65568 ∷ [])
    ∷ ticked_by wait_beyond_the_last (quick 65535) false (1 ∷ 0 ∷ 65535 ∷ 0 ∷ [])
    ∷ ticked_by unformed_cleared (broken 9) false (0 ∷ 0 ∷ 9 ∷ 1 ∷ [])
    -- "1 for a drive not well formed, which stays unticked"
    ∷ ticked_by unformed_ticked (broken 9) false (0 ∷ 0 ∷ 9 ∷ 1 ∷ [])
    -- a report that is held is none: "Spacing stays."
    ∷ ticked_by held_resets_since (quick 7) false (1 ∷ 0 ∷ 8 ∷ 0 ∷ [])
    ∷ ticked_by held_stored (quick 7) false (1 ∷ 0 ∷ 8 ∷ 0 ∷ [])
    -- "65,536 + 256 × position + status for a report": position 0 and status 32
    ∷ number_by status_first (quick 0) (0 ∷ 1 ∷ 0 ∷ 65568 ∷ [])
    -- W-208: "Each drive counts the position units it has moved"
    ∷ counted_by held_uncounted moving false 5
    ∷ []

pub ticks_refuted : Every Refuted tick_table
unfolding computation
ticks_refuted = all_refuted tick_table refl

-- Wrong rules of who is sent.

-- whether the drive at a place goes, by the quota and the row before the tick
abbrev Rule : Type 0
Rule = ℕ → List Drive → ℕ → Bool

-- W-210's rule with its operands left open: who is due, whose turn it is before that of `i`, and how many go, by the quota
abbrev Before : Type 0
Before = List Drive → ℕ → ℕ → Bool

abbrev rule_of : (Drive → Bool) → Before → (ℕ → ℕ) → Rule
rule_of is_due before most quota row i = is_due (at row i) && ltb (count_below (length row) (λ j. before row i j)) (most quota)

-- a drive that is due and goes first by a number: the larger one, or the same and the lower place
abbrev due_and : (Drive → Bool) → (Drive → ℕ) → Before
due_and is_due number row i j =
    is_due (at row j)
    && (ltb (number (at row i)) (number (at row j)) || (eqb (number (at row i)) (number (at row j)) && ltb j i))

abbrev waited : Drive → ℕ
waited d = d.wait

-- the product's rule has these operands
pub own : (quota : ℕ) (row : List Drive) (i : ℕ) → sends quota row i ≡ rule_of due_now (due_and due_now waited) (λ q. q) quota row i
unfolding sends
own quota row i = refl

-- one report fewer than the quota, and one more; one alone; all that are due
abbrev one_fewer : Rule
one_fewer = rule_of due_now (due_and due_now waited) (λ q. q - 1)

abbrev one_more : Rule
one_more = rule_of due_now (due_and due_now waited) (λ q. q + 1)

abbrev one_alone : Rule
one_alone = rule_of due_now (due_and due_now waited) (λ q. 1)

abbrev all_go : Rule
all_go = rule_of due_now (due_and due_now waited) (λ q. 64)

-- of drives that waited as long the one with the higher number first
abbrev higher_first : Rule
higher_first =
    rule_of due_now
    (λ row i j. due_now (at row j) && (ltb (waited (at row i)) (waited (at row j)) || (eqb (waited (at row i)) (waited (at row j)) && ltb i j)))
    (λ q. q)

-- the shortest wait first
abbrev shortest_first : Rule
shortest_first =
    rule_of due_now
    (λ row i j. due_now (at row j) && (ltb (waited (at row j)) (waited (at row i)) || (eqb (waited (at row i)) (waited (at row j)) && ltb j i)))
    (λ q. q)

-- by the waits as the tick leaves them where none is sent; by how long a drive was silent; by number alone
abbrev waits_after : Rule
waits_after = rule_of due_now (due_and due_now (λ d. next d.wait)) (λ q. q)

abbrev silent_longest : Rule
silent_longest = rule_of due_now (due_and due_now (λ d. d.since)) (λ q. q)

abbrev by_number : Rule
by_number = rule_of due_now (due_and due_now (λ d. 0)) (λ q. q)

-- the one that waited longest, and others by number
abbrev rest_by_number : Rule
rest_by_number quota row i =
    let first : ℕ → Bool = λ j. due_now (at row j) && eqb (count_below (length row) (λ k. due_and due_now waited row j k)) 0 in
    due_now (at row i) && (first i || ltb (count_below i (λ j. due_now (at row j) && not (first j))) (quota - 1))

-- a drive that is not due goes; one takes a place of the quota
abbrev undue_goes : Rule
undue_goes = rule_of well_formed (due_and well_formed waited) (λ q. q)

abbrev undue_takes_a_place : Rule
undue_takes_a_place = rule_of due_now (due_and (λ d. true) waited) (λ q. q)

-- due by the record as it is before the tick; also where the record is not well formed
abbrev due_before : Drive → Bool
due_before d = well_formed d && due d

abbrev due_before_the_tick : Rule
due_before_the_tick = rule_of due_before (due_and due_before waited) (λ q. q)

abbrev due_unformed : Rule
due_unformed = rule_of (λ d. due (advance d).drive) (due_and (λ d. due (advance d).drive) waited) (λ q. q)

-- a row, a quota, and who is sent by document 02, place by place: 1 if so
abbrev who_goes : Rule → ℕ → List Drive → List ℕ
who_goes rule quota row = tabulate (length row) (λ i. bit (rule quota row i) 1)

abbrev ruled_by : Rule → ℕ → List Drive → List ℕ → Case
ruled_by wrong quota row who = record { given = who_goes sends quota row; wrong = who_goes wrong quota row; paper = who }

abbrev pub rule_table : List Case
rule_table =
    -- "exactly the smaller of the quota and the number due"
    ruled_by one_fewer 2 (quick 0 ∷ quick 0 ∷ quick 0 ∷ []) (1 ∷ 1 ∷ 0 ∷ [])
    ∷ ruled_by one_more 1 (quick 0 ∷ quick 0 ∷ []) (1 ∷ 0 ∷ [])
    ∷ ruled_by one_alone 8 (quick 0 ∷ quick 0 ∷ quick 0 ∷ []) (1 ∷ 1 ∷ 1 ∷ [])
    ∷ ruled_by all_go 1 (quick 0 ∷ quick 0 ∷ quick 0 ∷ []) (1 ∷ 0 ∷ 0 ∷ [])
    -- "longest wait first": by the waits from before the tick
    ∷ ruled_by shortest_first 1 (quick 3 ∷ quick 5 ∷ []) (0 ∷ 1 ∷ [])
    ∷ ruled_by waits_after 1 (quick 65534 ∷ quick 65535 ∷ []) (0 ∷ 1 ∷ [])
    ∷ ruled_by silent_longest 1 (with_counts (quick 3) 0 9 ∷ quick 5 ∷ []) (0 ∷ 1 ∷ [])
    ∷ ruled_by by_number 1 (quick 3 ∷ quick 5 ∷ []) (0 ∷ 1 ∷ [])
    ∷ ruled_by rest_by_number 2 (quick 0 ∷ quick 3 ∷ quick 5 ∷ []) (0 ∷ 1 ∷ 1 ∷ [])
    -- "lower number among equals", also of those behind the first
    ∷ ruled_by higher_first 2 (quick 5 ∷ quick 3 ∷ quick 3 ∷ []) (1 ∷ 1 ∷ 0 ∷ [])
    -- only due drives go and count, and one that is not well formed never is due
    ∷ ruled_by undue_goes 2 (undue 0 ∷ quick 0 ∷ []) (0 ∷ 1 ∷ [])
    ∷ ruled_by undue_takes_a_place 1 (undue 9 ∷ quick 0 ∷ []) (0 ∷ 1 ∷ [])
    ∷ ruled_by due_unformed 2 (with_counts (broken 0) 0 9 ∷ quick 0 ∷ []) (0 ∷ 1 ∷ [])
    -- "due when the fourth step of a tick would report": MinRepTime is 10, and since rises from 9 to it in the tick's first step
    ∷ ruled_by due_before_the_tick 1 (with_counts fresh_drive 0 9 ∷ []) (1 ∷ [])
    ∷ []

pub rules_refuted : Every Refuted rule_table
unfolding computation
rules_refuted = all_refuted rule_table refl
