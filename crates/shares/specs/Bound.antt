-- A drive that is due at each of some hall ticks in a row, and not restarted between them, is sent at one of them if their quotas add up to
-- the number of drives or more: of every well-formed drive, whatever the waits are. So document 02's bounds follow, W-210's for one quota
-- throughout and W-204's for any.
use Rattle.std.specs.Prelude.{◌≡◌, refl, Bool, true, false, not, ◌&&◌, ◌||◌, ℕ, zero, suc, ◌+◌, ◌-◌, ◌*◌, ◌/◌, ◌<◌, ◌≤◌, leb, eqb, length}
use Rattle.std.proofs.Common.{sym, ap, ◌∙◌, arith, zero-mul, one-mul, mul-one, add-mul, div-add-mod', mod-lt, mul-le-mul_right, add-one, leb-true, eqb-true, le-leb}
use Rattle.std.proofs.lemmas.Bool.{false≢true, lt-leb}
use mathlib.Core.List.{List, [], ◌∷◌, ◌++◌, map}
use Rattle.numbers.specs.Numbers.{pick, next}
use Rattle.numbers.specs.Laws.{cases, and_left, and_right, and_intro, or_left, or_right}
use Rattle.numbers.specs.Places.{tabulate, count_below, implies}
use Rattle.numbers.specs.PlaceLaws.{implies_by, count_most, count_le, count_apart, counted, tab_at}
use Rattle.damper.specs.declared.Drive.{Drive}
use Rattle.damper.specs.Record.{fresh_drive}
use Rattle.damper.specs.WellFormed.{well_formed}
use Rattle.damper.specs.Tick.{advance, due}
use Rattle.damper.specs.Step.{step_of}
use Rattle.damper.specs.Carry.{outcomes, drive_after}
use Rattle.invariant.specs.Kept.{wf_step, formed_kept}
use Rattle.hall.specs.Hall.{Call, give, tick, tick_refusal, call_refusal, carried_out, at}
use Rattle.hall.specs.Quota.{due_now, wait_after, hall_ticked, sends}
use Rattle.hall.specs.QuotaLaws.{sent_due, held_full, sent_first}
use Rattle.hall.specs.Turns.{Given, bytes, hall_tick, hall_step, Turn, turn, turns_of, row_after, turns_in, hall_after, shared_out, share}
use Rattle.hall.specs.Laws.{row_length, ticked_fits}
use Rattle.hall.specs.TickLaws.{tick_shared, tick_row}
use Rattle.shares.specs.Shares.{shared_append, turns_drive}
use Rattle.shares.specs.WaitLaws.{restart, wait_event, wait_tick, wait_sent, wait_undue, wait_held, formed_ticked}

-- Of what a drive is given: how many hall ticks, whether it is due at each of them, whether it is sent at one, whether it is restarted.

unfoldable pub ticks_given : List Given → ℕ
ticks_given [] = 0
ticks_given (bytes s ∷ gs) = ticks_given gs
ticks_given (hall_tick sent ∷ gs) = ticks_given gs + 1

unfoldable pub due_at_each : Drive → List Given → Bool
due_at_each d [] = true
due_at_each d (bytes s ∷ gs) = due_at_each (hall_step d (bytes s)).drive gs
due_at_each d (hall_tick sent ∷ gs) = due_now d && due_at_each (hall_step d (hall_tick sent)).drive gs

unfoldable pub sent_at_one : List Given → Bool
sent_at_one [] = false
sent_at_one (bytes s ∷ gs) = sent_at_one gs
sent_at_one (hall_tick sent ∷ gs) = sent || sent_at_one gs

unfoldable pub restarted : Drive → List Given → Bool
restarted d [] = false
restarted d (bytes s ∷ gs) = restart d s || restarted (hall_step d (bytes s)).drive gs
restarted d (hall_tick sent ∷ gs) = restarted (hall_step d (hall_tick sent)).drive gs

due_formed : (d : Drive) → due_now d ≡ true → well_formed d ≡ true
unfolding due_now
due_formed d n = and_left (well_formed d) _ n

-- The well-formed drives that wait `k` or longer, and how many of a row do.

abbrev waits : ℕ → Drive → Bool
waits k d = well_formed d && leb k d.wait

abbrev waiting : ℕ → List Drive → ℕ
waiting k row = count_below (length row) (λ j. waits k (at row j))

-- a drive that does so after an event did so before it
event_waits : (k : ℕ) (d : Drive) (s : List ℕ) → waits k (step_of d s).drive ≡ true → waits k d ≡ true
event_waits k d s h =
    let t : waits k (step_of d s).drive ≡ well_formed d && leb k (pick (restart d s) 0 d.wait) = rw (formed_kept d s, wait_event d s) in
    let w = sym t ∙ h in
    and_intro (and_left (well_formed d) _ w) (go (restart d s) (and_right (well_formed d) _ w))
  where
    go : (b : Bool) → leb k (pick b 0 d.wait) ≡ true → leb k d.wait ≡ true
    go true e = let l = leb-true k 0 e in le-leb k _ (omega arith)
    go false e = e

-- one that waits longer than `k` after a hall tick waited `k` before it, and was not sent
ticked_waits : (k : ℕ) (sent : Bool) (d : Drive) → waits (k + 1) (hall_ticked sent d).drive ≡ true → waits k d ≡ true
ticked_waits k sent d h =
    let w : well_formed d ≡ true = sym (formed_ticked d sent) ∙ and_left (well_formed (hall_ticked sent d).drive) _ h in
    let t : (hall_ticked sent d).drive.wait ≡ wait_after (due (advance d).drive) sent d.wait = wait_tick d sent ∙ rw w in
    let l = leb-true (k + 1) (hall_ticked sent d).drive.wait (and_right (well_formed (hall_ticked sent d).drive) _ h) in
    and_intro w (le-leb k _ (go (due (advance d).drive && not sent) (rw t at l)))
  where
    go : (b : Bool) → k + 1 ≤ pick b (next d.wait) 0 → k ≤ d.wait
    go true e = omega arith
    go false e = absurd (omega arith)

sent_waits : (k : ℕ) (d : Drive) → waits (k + 1) (hall_ticked true d).drive ≡ false
sent_waits k d =
    cases (well_formed d)
    (λ w. rw (formed_ticked d true, w, wait_sent d w) (lt-leb (k + 1) 0 (omega arith)))
    (λ w. rw (formed_ticked d true, w))

-- A well-formed drive that waits `k` or longer and, of what it is given, is due at each hall tick, sent at none and not restarted.

record Held (d : Drive) (k : ℕ) (gs : List Given) : Type 0 where
  formed : well_formed d ≡ true
  least : k ≤ d.wait
  is_due : due_at_each d gs ≡ true
  unsent : sent_at_one gs ≡ false
  unrestarted : restarted d gs ≡ false

-- after an event
held_event : (d : Drive) (k : ℕ) (s : List ℕ) (gs : List Given) → Held d k (bytes s ∷ gs) → Held (step_of d s).drive k gs
unfolding due_at_each sent_at_one restarted
held_event d k s gs h =
    let same : (step_of d s).drive.wait ≡ d.wait = wait_event d s ∙ rw (or_left (restart d s) _ h.unrestarted) in
    record {
      formed = wf_step d s h.formed;
      least = rw same h.least;
      is_due = h.is_due;
      unsent = h.unsent;
      unrestarted = or_right (restart d s) _ h.unrestarted;
    }

-- after those that a list gives it, among which is no hall tick
held_events : (i : ℕ) (s list : List ℕ) (d : Drive) (k : ℕ) (gs : List Given) → let own = shared_out i (map (turn (bytes s)) list) in
    Held d k (own ++ gs) → Held (drive_after d (outcomes hall_step d own)) k gs
unfolding shared_out outcomes drive_after
held_events i s [] d k gs h = h
held_events i s (j ∷ list) d k gs h =
    cases (eqb j i)
    (λ q. rw q (held_events i s list (step_of d s).drive k gs (held_event d k s _ (rw q at h))))
    (λ q. rw q (held_events i s list d k gs (rw q at h)))

no_ticks : (i : ℕ) (s list : List ℕ) (gs : List Given) → ticks_given (shared_out i (map (turn (bytes s)) list) ++ gs) ≡ ticks_given gs
unfolding shared_out ticks_given
no_ticks i s [] gs = refl
no_ticks i s (j ∷ list) gs = cases (eqb j i) (λ q. rw q (no_ticks i s list gs)) (λ q. rw q (no_ticks i s list gs))

-- a drive that waits after them waited before them
events_waits : (i : ℕ) (s list : List ℕ) (k : ℕ) (d : Drive)
    → waits k (drive_after d (outcomes hall_step d (shared_out i (map (turn (bytes s)) list)))) ≡ true → waits k d ≡ true
unfolding shared_out outcomes drive_after
events_waits i s [] k d h = h
events_waits i s (j ∷ list) k d h =
    cases (eqb j i)
    (λ q. event_waits k d s (events_waits i s list k (step_of d s).drive (rw q at h)))
    (λ q. events_waits i s list k d (rw q at h))

-- after a hall tick: it was due and not sent, and waits one longer
held_tick : (d : Drive) (k : ℕ) (sent : Bool) (gs : List Given) → k < 65535 → Held d k (hall_tick sent ∷ gs)
    → (sent ≡ false) × (due_now d ≡ true) × Held (hall_ticked sent d).drive (k + 1) gs
unfolding due_at_each sent_at_one restarted
held_tick d k sent gs l h =
    let n = or_left sent _ h.unsent in
    let q = and_left (due_now d) _ h.is_due in
    let longer : (hall_ticked sent d).drive.wait ≡ next d.wait = rw n (wait_held d q) in
    let least = h.least in (
      n,
      q,
      record {
        formed = formed_ticked d sent ∙ h.formed;
        least = rw longer (omega arith);
        is_due = and_right (due_now d) _ h.is_due;
        unsent = or_right sent _ h.unsent;
        unrestarted = h.unrestarted;
      },
    )

-- it is one of those that wait
held_counts : (row : List Drive) (i k : ℕ) (gs : List Given) → i < length row → Held (at row i) k gs → 0 < waiting k row
held_counts row i k gs b h = counted (λ x. waits k (at row x)) (length row) i b (and_intro h.formed (le-leb k _ h.least))

-- A hall tick: the drives after it, and how many of them wait longer than `k`, where one that waited `k` is due and held. Who is sent waited
-- as long as that one, and waits no longer.
module _ (row : List Drive) (quota : ℕ) where
  abbrev ticked : List Drive
  ticked = row_after hall_step row (tabulate (length row) (λ x. turn (hall_tick (sends quota row x)) x))

  tick_stands : (x : ℕ) → x < length row → at ticked x ≡ (hall_ticked (sends quota row x) (at row x)).drive
  tick_stands x l =
      ap (λ (y : List Drive). at y x) (tick_row (λ y. hall_tick (sends quota row y)) hall_step row) ∙ tab_at (length row) _ fresh_drive x l

  tick_fewer : (i k : ℕ) → i < length row → k ≤ (at row i).wait → due_now (at row i) ≡ true → sends quota row i ≡ false
      → count_below (length row) (sends quota row) + waiting (k + 1) ticked ≤ waiting k row
  tick_fewer i k b least is_due held =
      rw (row_length hall_step row (tabulate (length row) (λ x. turn (hall_tick (sends quota row x)) x)))
      (count_apart (sends quota row) (λ x. waits (k + 1) (at ticked x)) (λ x. waits k (at row x)) (length row)
      (λ j l e. (
        and_intro (due_formed (at row j) (sent_due quota row j e)) (le-leb k _ (omega (arith, least, (sent_first quota row i j b is_due held e).0))),
        rw (tick_stands j l, e) (sent_waits k (at row j)),
      ))
      (λ j l e. ticked_waits k (sends quota row j) (at row j) (rw (tick_stands j l) at e)))

-- The quota of a call on `n` drives, if it is a hall tick that is carried out, and those of a list of calls together.
abbrev quota_of : ℕ → Call → ℕ
quota_of n (give list s room) = 0
quota_of n (tick quota room) = pick (carried_out n (tick quota room)) quota 0

unfoldable pub quotas_in : ℕ → List Call → ℕ
quotas_in n [] = 0
quotas_in n (c ∷ cs) = quota_of n c + quotas_in n cs

-- A call, between the rows `row` and `row'`: what the drive at `i` is given later is `gs`. A hall tick that holds the drive raises `k` by
-- one and leaves at least its quota `q` fewer that wait so long; no other call adds to them.

record Onward (row row' : List Drive) (i k q : ℕ) (gs : List Given) : Type 0 where
  least : ℕ
  held : Held (at row' i) least gs
  fewer : q + waiting least row' ≤ waiting k row
  within : least + waiting least row' ≤ k + waiting k row

-- `k` and the drives that wait so long are together at most 65,535, so that `k` stays below the stop; where the row has over 64, hall ticks
-- are refused
abbrev Room : List Drive → ℕ → Type 0
Room row k = length row ≤ 64 → k + waiting k row ≤ 65535

module _ (row : List Drive) (i k : ℕ) (b : i < length row) (gs : List Given) where
  abbrev after : List Turn → List Drive
  after ts = row_after hall_step row ts

  by_events : (s list : List ℕ) → let ts = map (turn (bytes s)) list in Held (at row i) k (shared_out i ts ++ gs)
      → Onward row (after ts) i k 0 gs
  by_events s list h =
      let ts = map (turn (bytes s)) list in
      let size : length (after ts) ≡ length row = row_length hall_step row ts in
      let few : waiting k (after ts) ≤ waiting k row =
      rw size (count_le _ _ (length row) (λ x l e. events_waits x s list k (at row x) (rw (turns_drive row ts x l) at e))) in
      record {
        least = k;
        held = rw (turns_drive row ts i b) (held_events i s list (at row i) k gs h);
        fewer = omega arith;
        within = omega arith;
      }

  by_tick : (quota room : ℕ) → Room row k → tick_refusal (length row) quota room ≡ 0
      → let ts = tabulate (length row) (λ x. turn (hall_tick (sends quota row x)) x) in Held (at row i) k (shared_out i ts ++ gs)
      → Onward row (after ts) i k quota gs
  by_tick quota room cap r h =
      let n = length row in
      let go = sends quota row in
      let ts = tabulate n (λ x. turn (hall_tick (go x)) x) in
      let h' : Held (at row i) k (hall_tick (go i) ∷ gs) = rw (tick_shared (λ x. hall_tick (go x)) n i b) at h in
      let fit = ticked_fits n quota room r in
      let below : k < 65535 = omega (arith, held_counts row i k _ b h, cap fit.0) in
      let t = held_tick (at row i) k (go i) gs below h' in
      let fewer = tick_fewer row quota i k b h.least t.1 t.0 in
      let full = held_full quota row i t.1 t.0 in
      let one = fit.2 in
      record {
        least = k + 1;
        held = rw (tick_stands row quota i b) t.2;
        fewer = omega arith;
        within = omega arith;
      }

  by_call : (c : Call) → Room row k → let ts = turns_of row c in
      Held (at row i) k (shared_out i ts ++ gs) → Onward row (after ts) i k (quota_of (length row) c) gs
  unfolding turns_of call_refusal row_after shared_out
  by_call (give list s room) cap h =
      cases (eqb (call_refusal (length row) (give list s room)) 0)
      (λ q. rw q (by_events s list (rw q at h)))
      (λ q. rw q (by_events s [] (rw q at h)))
  by_call (tick quota room) cap h =
      cases (eqb (tick_refusal (length row) quota room) 0)
      (λ q. rw q (by_tick quota room cap (eqb-true _ 0 q) (rw q at h)))
      (λ q. rw q (by_events [] [] (rw q at h)))

-- Over a list of calls: their quotas are fewer than the drives that wait `k` or longer before them.
held_fewer : (cs : List Call) (row : List Drive) (i k : ℕ) → i < length row → Room row k
    → Held (at row i) k (share row i cs) → quotas_in (length row) cs < waiting k row
unfolding turns_in shared_out quotas_in
held_fewer [] row i k b cap h = held_counts row i k [] b h
held_fewer (c ∷ cs) row i k b cap h =
    let ts = turns_of row c in
    let row' = row_after hall_step row ts in
    let size : length row' ≡ length row = row_length hall_step row ts in
    let whole : share row i (c ∷ cs) ≡ shared_out i ts ++ share row' i cs = shared_append i ts (turns_in row' cs) in
    let o = by_call row i k b (share row' i cs) c cap (rw whole at h) in
    let w = o.within in
    let r = held_fewer cs row' i o.least (rw size b) (λ l. omega (arith, w, size, cap (rw size at l))) o.held in
    omega (arith, r, o.fewer, ap (λ (m : ℕ). quotas_in m cs) size)

-- Such a drive is sent at one of the hall ticks if their quotas add up to the number of drives or more.
pub sent_in_quotas : (row : List Drive) (cs : List Call) (i : ℕ) → i < length row → well_formed (at row i) ≡ true
    → length row ≤ quotas_in (length row) cs
    → due_at_each (at row i) (share row i cs) ≡ true
    → restarted (at row i) (share row i cs) ≡ false
    → sent_at_one (share row i cs) ≡ true
sent_in_quotas row cs i b w l q r =
    cases (sent_at_one (share row i cs)) (λ e. e)
    (λ e.
    let most = count_most (λ x. waits 0 (at row x)) (length row) in
    let f =
    held_fewer cs row i 0 b (λ s. omega arith)
    record { formed = w; least = omega arith; is_due = q; unsent = e; unrestarted = r } in
    absurd (omega arith))

-- Where each hall tick that is carried out has a quota of at least `q`, the quotas of those that the drive is given add up to at least `q`
-- times their number.

unfoldable pub quotas_from : ℕ → ℕ → List Call → Bool
quotas_from n q [] = true
quotas_from n q (give list s room ∷ cs) = quotas_from n q cs
quotas_from n q (tick quota room ∷ cs) = implies (carried_out n (tick quota room)) (leb q quota) && quotas_from n q cs

quotas_least : (row : List Drive) (q i : ℕ) (cs : List Call) → i < length row → quotas_from (length row) q cs ≡ true
    → ticks_given (share row i cs) * q ≤ quotas_in (length row) cs
unfolding turns_in shared_out quotas_in quotas_from turns_of call_refusal ticks_given row_after
quotas_least row q i [] b h = omega (arith, zero-mul q)
quotas_least row q i (give list s room ∷ cs) b h =
    let n = length row in
    cases (eqb (call_refusal n (give list s room)) 0)
    (λ e.
    let ts = map (turn (bytes s)) list in
    let row' = row_after hall_step row ts in
    let size : length row' ≡ n = row_length hall_step row ts in
    let r : ticks_given (share row' i cs) * q ≤ quotas_in n cs = rw size at (quotas_least row' q i cs (rw size b) (rw size h)) in
    rw (e, shared_append i ts (turns_in row' cs), no_ticks i s list (share row' i cs)) (omega arith))
    (λ e. let r = quotas_least row q i cs b h in rw e (omega arith))
quotas_least row q i (tick quota room ∷ cs) b h =
    let n = length row in
    cases (eqb (tick_refusal n quota room) 0)
    (λ e.
    let go = sends quota row in
    let ts = tabulate n (λ x. turn (hall_tick (go x)) x) in
    let row' = row_after hall_step row ts in
    let size : length row' ≡ n = row_length hall_step row ts in
    let least = leb-true q quota (and_left (leb q quota) _ (rw e at h)) in
    let r : ticks_given (share row' i cs) * q ≤ quotas_in n cs =
    rw size at (quotas_least row' q i cs (rw size b) (rw size (and_right (leb q quota) _ (rw e at h)))) in
    let more = add-mul (ticks_given (share row' i cs)) 1 q in
    let unit = one-mul q in
    rw (e, shared_append i ts (turns_in row' cs), tick_shared (λ x. hall_tick (go x)) n i b) (omega arith))
    (λ e. let r = quotas_least row q i cs b (rw e at h) in rw e (omega arith))

-- W-210: "With one quota throughout, a drive that stays due and isn't restarted is then sent within as many hall ticks as the number of
-- drives divided by the quota, rounded up." It need not be one quota: each is at least `q`.
pub sent_rounded_up : (row : List Drive) (cs : List Call) (i q : ℕ) → i < length row → well_formed (at row i) ≡ true
    → 1 ≤ q → quotas_from (length row) q cs ≡ true
    → (length row + q - 1) / q ≤ ticks_given (share row i cs)
    → due_at_each (at row i) (share row i cs) ≡ true
    → restarted (at row i) (share row i cs) ≡ false
    → sent_at_one (share row i cs) ≡ true
sent_rounded_up row cs i q b w p f l d r =
    let m = length row + q - 1 in
    let whole = div-add-mod' m q in
    let rest = mod-lt m p in
    let more = mul-le-mul_right q l in
    let least = quotas_least row q i cs b f in
    sent_in_quotas row cs i b w (omega arith) d r

-- a hall tick that is carried out has a quota of at least 1
quotas_some : (n : ℕ) (cs : List Call) → quotas_from n 1 cs ≡ true
unfolding quotas_from call_refusal
quotas_some n [] = refl
quotas_some n (give list s room ∷ cs) = quotas_some n cs
quotas_some n (tick quota room ∷ cs) =
    and_intro
    (implies_by (eqb (tick_refusal n quota room) 0) (leb 1 quota) (λ e. le-leb 1 quota (ticked_fits n quota room (eqb-true _ 0 e)).2))
    (quotas_some n cs)

-- W-204: "A drive due at each of as many hall ticks in a row as the row has drives, and not restarted between them, is sent at one of them."
pub sent_in_time : (row : List Drive) (cs : List Call) (i : ℕ) → i < length row → well_formed (at row i) ≡ true
    → length row ≤ ticks_given (share row i cs)
    → due_at_each (at row i) (share row i cs) ≡ true
    → restarted (at row i) (share row i cs) ≡ false
    → sent_at_one (share row i cs) ≡ true
sent_in_time row cs i b w l d r =
    let least = quotas_least row 1 i cs b (quotas_some (length row) cs) in
    let unit = mul-one (ticks_given (share row i cs)) in
    sent_in_quotas row cs i b w (omega arith) d r

-- Where all waits are 0 at first, the wait of each well-formed drive stays below the number of drives, so that none meets its stop: where one
-- waits `k` hall ticks, at most the number of drives less `k` wait so long.

abbrev Waits : List Drive → Type 0
Waits row = (i k : ℕ) → i < length row → waits k (at row i) ≡ true → k + waiting k row ≤ length row

-- one that waits after a hall tick was due and held
held_waits : (k : ℕ) (sent : Bool) (d : Drive) → waits (k + 1) (hall_ticked sent d).drive ≡ true → (due_now d ≡ true) × (sent ≡ false)
held_waits k sent d h =
    let w : well_formed d ≡ true = sym (formed_ticked d sent) ∙ and_left (well_formed (hall_ticked sent d).drive) _ h in
    let l = leb-true (k + 1) (hall_ticked sent d).drive.wait (and_right (well_formed (hall_ticked sent d).drive) _ h) in (
      cases (due_now d) (λ q. q) (λ q. let z = wait_undue d sent w q in absurd (omega arith)),
      cases sent (λ q. absurd (false≢true (sym (sent_waits k d) ∙ rw q at h))) (λ q. q),
    )

module _ (row : List Drive) (w : Waits row) where
  events_below : (s list : List ℕ) → Waits (row_after hall_step row (map (turn (bytes s)) list))
  events_below s list i k l e =
      let ts = map (turn (bytes s)) list in
      let size : length (row_after hall_step row ts) ≡ length row = row_length hall_step row ts in
      let b : i < length row = rw size at l in
      let before : (x : ℕ) → x < length row → waits k (at (row_after hall_step row ts) x) ≡ true → waits k (at row x) ≡ true =
      λ x m f. events_waits x s list k (at row x) (rw (turns_drive row ts x m) at f) in
      let few : waiting k (row_after hall_step row ts) ≤ waiting k row = rw size (count_le _ _ (length row) before) in
      let old = w i k b (before i b e) in
      omega arith

  tick_below : (quota room : ℕ) → tick_refusal (length row) quota room ≡ 0 → Waits (ticked row quota)
  tick_below quota room r i zero l e =
      let row' = ticked row quota in
      let most = count_most (λ x. waits 0 (at row' x)) (length row') in
      omega arith
  tick_below quota room r i (suc k) l e =
      let n = length row in
      let go = sends quota row in
      let row' = ticked row quota in
      let size : length row' ≡ n = row_length hall_step row _ in
      let b : i < n = rw size at l in
      let one = add-one k in
      let stands = tick_stands row quota in
      let e' : waits (k + 1) (hall_ticked (go i) (at row i)).drive ≡ true = rw (← (stands i b), one) e in
      let held = held_waits k (go i) (at row i) e' in
      let least = leb-true k (at row i).wait (and_right (well_formed (at row i)) _ (ticked_waits k (go i) (at row i) e')) in
      let fewer = tick_fewer row quota i k b least held.0 held.1 in
      let full = held_full quota row i held.0 held.1 in
      let some = (ticked_fits n quota room r).2 in
      let old = w i k b (ticked_waits k (go i) (at row i) e') in
      let now : waiting (suc k) row' ≡ waiting (k + 1) row' = rw one in
      omega arith

  call_below : (c : Call) → Waits (row_after hall_step row (turns_of row c))
  unfolding turns_of call_refusal row_after
  call_below (give list s room) =
      cases (eqb (call_refusal (length row) (give list s room)) 0) (λ q. rw q (events_below s list)) (λ q. rw q w)
  call_below (tick quota room) =
      cases (eqb (tick_refusal (length row) quota room) 0) (λ q. rw q (tick_below quota room (eqb-true _ 0 q))) (λ q. rw q w)

calls_below : (cs : List Call) (row : List Drive) → Waits row → Waits (hall_after row cs)
unfolding hall_after
calls_below [] row w = w
calls_below (c ∷ cs) row w = calls_below cs (row_after hall_step row (turns_of row c)) (call_below row w c)

none_waits : (row : List Drive) → ((i : ℕ) → i < length row → (at row i).wait ≡ 0) → Waits row
none_waits row z i k l e =
    let least = leb-true k (at row i).wait (and_right (well_formed (at row i)) _ e) in
    let most = count_most (λ x. waits k (at row x)) (length row) in
    omega (arith, least, most, z i l)

pub wait_below : (row : List Drive) → ((i : ℕ) → i < length row → (at row i).wait ≡ 0) → (cs : List Call)
    → (let row' = hall_after row cs in (i : ℕ) → i < length row' → well_formed (at row' i) ≡ true → (at row' i).wait < length row')
wait_below row z cs i l w =
    let row' = hall_after row cs in
    let k = (at row' i).wait in
    let own : waits k (at row' i) ≡ true = and_intro w (le-leb k k (omega arith)) in
    omega (arith, calls_below cs row (none_waits row z) i k l own, counted (λ x. waits k (at row' x)) (length row') i l own)
