-- Laws of a call's refusal and of its turns.
use Rattle.std.specs.Prelude.{◌≡◌, Bool, true, false, ◌||◌, List, [], ◌∷◌, ◌++◌, ℕ, zero, suc, ◌+◌, ◌<◌, ◌≤◌, ltb, leb, eqb, get_or, set, take}
use Rattle.std.specs.List.{list_any}
use Rattle.std.proofs.Math.Path.{refl, sym}
use Rattle.std.proofs.Common.{ap, ◌∙◌, arith, not-suc-le-zero, le_of_suc-le-suc, add-one, length-set, length-append, length-take, length-drop, take-suc, leb-false, ltb-false, eqb-true, eq-eqb, ne_eqb}
use Rattle.std.proofs.Math.ListN.{length, get_or-map}
use Rattle.std.proofs.lemmas.List.{length-map}
use Rattle.std.proofs.Math.Seq.{take-length, length-take-le}
use Rattle.std.proofs.lemmas.Bool.{lt-leb}
use Rattle.numbers.specs.Numbers.{pick}
use Rattle.numbers.specs.Laws.{or_left, or_right, passed, cases}
use Rattle.answer.specs.declared.Answer.{Answer}
use Rattle.answer.specs.declared.refusal.Refusal.{Refusal}
use Rattle.answer.specs.declared.refusal.Refusal.TheVariants as R
use Rattle.answer.specs.Refusal.{number}
use Rattle.damper.specs.declared.Drive.{Drive}
use Rattle.damper.specs.declared.Outcome.{Outcome}
use Rattle.damper.specs.Carry.{StepOn, answers_in}
use Rattle.damper.specs.CarryLaws.{answers_more}
use Rattle.hall.specs.Hall.{Call, give, bad_row, bad_number, is_tick, bad_event, bad_quota, tick_refusal, event_refusal, refusal_to16, call_refusal, at}
use Rattle.hall.specs.Turns.{Given, bytes, Turn, turn, turns_of, row_with, turned, row_after, answer_number, answers_after}

-- the test of the whole list is the library's
pub bad_number_is : (n : ℕ) (list : List ℕ) → list_any (leb n) list ≡ bad_number n list
unfolding bad_number
bad_number_is n [] = refl
bad_number_is n (i ∷ list) = ap (λ (b : Bool). leb n i || b) (bad_number_is n list)

-- each number of a list that has no badNumber one is that of a drive
pub good_at : (n : ℕ) (list : List ℕ) → bad_number n list ≡ false → (k : ℕ) → k < length list → get_or list k 0 < n
unfolding bad_number
good_at n [] e k h = absurd (not-suc-le-zero h)
good_at n (i ∷ list) e zero h = leb-false n i (or_left (leb n i) _ e)
good_at n (i ∷ list) e (suc k) h = good_at n list (or_right (leb n i) _ e) k (le_of_suc-le-suc h)

-- and of a longer row
pub bad_longer : (n m : ℕ) (list : List ℕ) → n ≤ m → bad_number n list ≡ false → bad_number m list ≡ false
unfolding bad_number
bad_longer n m [] h e = refl
bad_longer n m (i ∷ list) h e =
    let here = leb-false n i (or_left (leb n i) _ e) in
    rw (lt-leb m i (omega arith)) (bad_longer n m list h (or_right (leb n i) _ e))

pub row_few : (n : ℕ) → bad_row n ≡ false → n ≤ 64
row_few n e = ltb-false 64 n (or_right (ltb n 1) _ e)

-- What stands behind 14 to 16 is asked where none of them fits, and nowhere else.

pub event_passed : (n : ℕ) (list s : List ℕ) (room more : ℕ) → event_refusal n list s room more ≡ 0
    → (bad_row n ≡ false) × (bad_number n list ≡ false) × (bad_event list s room ≡ false) × (more ≡ 0)
event_passed n list s room more e =
    let r = passed (bad_row n) 14 _ e (omega arith) in
    let u = passed (bad_number n list) 15 _ r.1 (omega arith) in
    let m = passed (bad_event list s room) 16 _ u.1 (omega arith) in
    (r.0, u.0, m.0, m.1)

first_of : (row number event : Bool) (more : ℕ)
    → (let first : ℕ = pick row 14 (pick number 15 (pick event 16 0)) in
    pick row 14 (pick number 15 (pick event 16 more)) ≡ pick (eqb first 0) more first)
first_of true number event more = refl
first_of false true event more = refl
first_of false false true more = refl
first_of false false false more = refl

most_of : (row number event : Bool) → pick row 14 (pick number 15 (pick event 16 0)) ≤ 16
most_of true number event = omega arith
most_of false true event = omega arith
most_of false false true = omega arith
most_of false false false = omega arith

module _ (n : ℕ) (list s : List ℕ) (room : ℕ) where
  abbrev first : ℕ
  first = refusal_to16 n list s room

  after_16 : (more : ℕ) → event_refusal n list s room more ≡ pick (eqb first 0) more first
  after_16 = first_of (bad_row n) (bad_number n list) (bad_event list s room)

  pub asked_after : (more : ℕ) → first ≡ 0 → event_refusal n list s room more ≡ more
  asked_after more e = after_16 more ∙ rw (eq-eqb first 0 e)

  pub refused_before : (more : ℕ) → (first ≡ 0 → ⊥) → event_refusal n list s room more ≡ first
  refused_before more e = after_16 more ∙ rw (ne_eqb first 0 e)

  pub first_most : first ≤ 16
  first_most = most_of (bad_row n) (bad_number n list) (bad_event list s room)

-- An accepted call has room.

abbrev Fits : ℕ → List ℕ → ℕ → Type 0
Fits n list room = ((k : ℕ) → k < length list → get_or list k 0 < n) × (length list ≤ 64) × (length list ≤ room)

given_fits : (n : ℕ) (list s : List ℕ) (room : ℕ) → call_refusal n (give list s room) ≡ 0 → Fits n list room
unfolding call_refusal
given_fits n list s room e =
    let p = event_passed n list s room _ e in
    let most = or_right (is_tick s) _ (or_left (is_tick s || ltb 64 (length list)) _ p.2) in
    (good_at n list p.1, ltb-false 64 _ most, ltb-false room _ (or_right (is_tick s || ltb 64 (length list)) _ p.2))

-- a hall tick that is carried out: 1 to 64 drives, room for their numbers, and a quota of 1 to 64
pub ticked_fits : (n quota room : ℕ) → tick_refusal n quota room ≡ 0 → (n ≤ 64) × (n ≤ room) × (1 ≤ quota)
ticked_fits n quota room e =
    let r = passed (bad_row n) 14 _ e (omega arith) in
    let m = passed (ltb room n) 16 _ r.1 (omega arith) in
    let q = passed (bad_quota quota) 18 _ m.1 (omega arith) in
    (row_few n r.0, ltb-false room n m.0, ltb-false quota 1 (or_left (ltb quota 1) _ q.0))

-- The turns of a call, by their number and each by its place.

-- a call has no more turns than it asks for
pub turns_most : (b : Bool) (n : ℕ) → pick b n 0 ≤ n
turns_most true n = omega arith
turns_most false n = omega arith

-- What a walk over the turns `ts` of an event call on `n` drives knows of them: there are `stop`, no more than the answer row has places, and
-- the `k`-th gives the bytes `s` to the drive at place `p k`.
pub record Turns (n places : ℕ) (s : List ℕ) (p : ℕ → ℕ) (stop : ℕ) (ts : List Turn) : Type 0 where
  pub count : length ts ≡ stop
  pub few : stop ≤ 64
  pub room : stop ≤ places
  pub below : (k : ℕ) → k < stop → p k < n
  pub each : (k : ℕ) → k < stop → get_or ts k (turn (bytes s) 0) ≡ turn (bytes s) (p k)

no_turns : (n room : ℕ) (s : List ℕ) (p : ℕ → ℕ) → Turns n room s p 0 []
no_turns n room s p =
    record {
      count = refl;
      few = omega arith;
      room = omega arith;
      below = λ k h. absurd (not-suc-le-zero h);
      each = λ k h. absurd (not-suc-le-zero h);
    }

pub give_turns : (row : List Drive) (room : ℕ) (s list : List ℕ) (stop : ℕ) → let n = length row in
    stop ≡ pick (eqb (call_refusal n (give list s room)) 0) (length list) 0
    → Turns n room s (λ k. get_or list k 0) stop (turns_of row (give list s room))
unfolding turns_of
give_turns row room s list stop e =
    let n = length row in
    rw e
    (cases (eqb (call_refusal n (give list s room)) 0)
    (λ h. rw h
    (let f = given_fits n list s room (eqb-true _ 0 h) in
    record {
      count = length-map list (turn (bytes s));
      few = f.1;
      room = f.2;
      below = f.0;
      each = λ k l. get_or-map (turn (bytes s)) list k 0;
    }))
    (λ h. rw h (no_turns n room s _)))

-- no refusal has the number 0
pub number_some : (r : Refusal) → 1 ≤ number r
number_some R.Record = omega arith
number_some R.Length = omega arith
number_some R.Mark = omega arith
number_some R.Kind = omega arith
number_some R.Unused = omega arith
number_some R.Value = omega arith
number_some R.Command = omega arith
number_some R.Percent = omega arith
number_some R.Property = omega arith
number_some R.Range = omega arith
number_some R.LowAboveHigh = omega arith
number_some R.RateInRun = omega arith
number_some R.Blocked = omega arith
number_some R.Row = omega arith
number_some R.Number = omega arith
number_some R.Call = omega arith
number_some R.Page = omega arith
number_some R.Quota = omega arith
number_some R.Twice = omega arith
number_some R.Bill = omega arith
number_some R.Unmoved = omega arith

-- a call that is refused changes nothing
pub untouched : (step : StepOn Given) (row : List Drive) (c : Call) (answers : List ℕ) (r : Refusal) → number r ≡ call_refusal (length row) c
    → (row ≡ row_after step row (turns_of row c)) × (answers ≡ answers_after step row c answers)
unfolding turns_of turned row_after answers_after answers_in
untouched step row c answers r judged =
    let some = number_some r in
    rw (← judged, ne_eqb (number r) 0 (λ e. omega (arith, e, some))) (refl, refl)

-- Turns in two parts: the second are taken on the row that the first left.

pub row_append : (step : StepOn Given) (row : List Drive) (ts us : List Turn) → row_after step row (ts ++ us) ≡ row_after step (row_after step row ts) us
unfolding row_after
row_append step row [] us = refl
row_append step row (t ∷ ts) us = row_append step (row_with step row t) ts us

pub turned_append : (step : StepOn Given) (row : List Drive) (ts us : List Turn)
    → turned step row (ts ++ us) ≡ turned step row ts ++ turned step (row_after step row ts) us
unfolding turned row_after
turned_append step row [] us = refl
turned_append step row (t ∷ ts) us = rw (turned_append step (row_with step row t) ts us)

-- the row keeps its length, and each turn gives one outcome
pub row_length : (step : StepOn Given) (row : List Drive) (ts : List Turn) → length (row_after step row ts) ≡ length row
unfolding row_after
row_length step row [] = refl
row_length step row (t ∷ ts) = row_length step (row_with step row t) ts ∙ length-set row t.place _

pub turned_length : (step : StepOn Given) (row : List Drive) (ts : List Turn) → length (turned step row ts) ≡ length ts
unfolding turned
turned_length step row [] = refl
turned_length step row (t ∷ ts) = ap suc (turned_length step (row_with step row t) ts)

pub answers_length : (number : Answer → ℕ) (os : List Outcome) (row : List ℕ) → length os ≤ length row → length (answers_in number os row) ≡ length row
unfolding answers_in
answers_length number os row h = simp (length-append, length-map, length-drop) (omega arith)

-- A walk over the turns of a call, after `k` of them: the row of drives and the answer row, at the start, after one more turn and at
-- the end.
module _ (step : StepOn Given) (row : List Drive) (c : Call) (answers : List ℕ) where
  abbrev ts : List Turn
  ts = turns_of row c

  abbrev pub row_by : ℕ → List Drive
  row_by k = row_after step row (take k ts)

  abbrev pub answers_by : ℕ → List ℕ
  answers_by k = answers_in (answer_number c) (turned step row (take k ts)) answers

  pub row_start : row ≡ row_by 0
  unfolding row_after
  row_start = refl

  pub answers_start : answers ≡ answers_by 0
  unfolding turned answers_in
  answers_start = refl

  module _ {s : List ℕ} {p : ℕ → ℕ} {stop : ℕ} (w : Turns (length row) (length answers) s p stop ts) where
    pub row_by_length : (k : ℕ) → length (row_by k) ≡ length row
    row_by_length k = row_length step row (take k ts)

    pub answers_by_length : (k : ℕ) → k ≤ stop → length (answers_by k) ≡ length answers
    answers_by_length k h =
        answers_length (answer_number c) _ answers (rw (turned_length step row (take k ts), length-take) (omega (arith, w.room)))

    -- the outcome of the next turn
    abbrev next : ℕ → Outcome
    next k = step (at (row_by k) (p k)) (bytes s)

    more : (k : ℕ) → k < stop → take (k + 1) ts ≡ take k ts ++ (turn (bytes s) (p k) ∷ [])
    more k h = rw (add-one, take-suc ts k (turn (bytes s) 0) (rw w.count h), w.each k h)

    pub row_turn : (k : ℕ) → k < stop → set (row_by k) (p k) (next k).drive ≡ row_by (k + 1)
    unfolding row_after
    row_turn k h = rw (more k h, row_append)

    pub answers_turn : (k : ℕ) → k < stop → set (answers_by k) k (answer_number c (next k).answer) ≡ answers_by (k + 1)
    unfolding turned
    answers_turn k h =
        let size : k ≡ length (turned step row (take k ts)) = sym (turned_length step row (take k ts) ∙ length-take-le k ts (omega (arith, w.count))) in
        answers_more (answer_number c) _ answers (next k) (omega (arith, w.room)) size refl refl ∙ rw (more k h, turned_append)

    pub row_end : (k : ℕ) → k ≡ stop → row_by k ≡ row_after step row ts
    row_end k e = rw (e, ← w.count, take-length)

    pub answers_end : (k : ℕ) → k ≡ stop → answers_by k ≡ answers_after step row c answers
    unfolding answers_after
    answers_end k e = rw (e, ← w.count, take-length)

    pub answers_end_length : length (answers_after step row c answers) ≡ length answers
    answers_end_length = ap length (sym (answers_end stop refl)) ∙ answers_by_length stop (omega arith)
