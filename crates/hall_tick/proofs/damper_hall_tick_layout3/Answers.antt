use Rattle.std.proofs.Common.{◌≡◌, true, false, ℕ, ◌+◌, ◌*◌, ◌<◌, List, Option, Some, None, length, get_or, drop, unwrap_or, IfSome, ap, ◌∙◌, arith, ◌++◌, length-set}
use Rattle.std.proofs.Math.ListN.{set}
use Rattle.std.proofs.lemmas.List.{get_or_default}
use Rattle.damper.specs.declared.Drive.{Drive}
use Rattle.damper.specs.Record.{fresh_drive, with_wait}
use Rattle.damper.specs.Tick.{reported, status_of}
use Rattle.choice.specs.Choice.{Distinct, kept, Next}
use Rattle.hall.specs.Hall.{tick, call_refusal}
use Rattle.hall.specs.Quota.{hall_ticked}
use Rattle.hall.specs.Turns.{hall_step}
use Rattle.hall.specs.Laws.{untouched}
use Rattle.hall_tick.specs.Chosen as C
use Rattle.hall_tick.specs.Chosen.{Ticks, front, held_number, held_by, due_by, picked, chosen, sent_up_to, said_up_to}
use Rattle.hall_tick.proofs.damper_hall_tick_layout3.Goals as goal

module _ (ys : List Drive) (ws : List ℕ) (quota n : ℕ) (t : Ticks ys ws n) where
  -- a turn of the first loop, of the drive at the place, whatever would be read past the row
  module _ (k : ℕ) (e : Drive) (zs : List Drive) (l : k < n) (rows : zs ≡ held_by ys ws quota n k) where
    as_it_was : get_or zs k e ≡ get_or ys k fresh_drive
    as_it_was =
        let size = C.held_length ys ws quota n k in
        get_or_default zs k e fresh_drive (rw rows (omega (arith, t.within))) ∙ rw rows (C.held_old ys ws quota n k (omega (arith, t.within)))

    next_held : (d : Drive) → d ≡ (hall_ticked false (get_or zs k e)).drive → set zs k d ≡ held_by ys ws quota n (k + 1)
    next_held d is = rw rows (C.held_turn ys ws quota n k d (omega (arith, t.within)) (is ∙ ap (λ (x : Drive). (hall_ticked false x).drive) as_it_was))

    next_due : (us : List ℕ) (x : ℕ) → us ≡ due_by ys ws quota n k → x ≡ held_number (get_or zs k e) k → set us k x ≡ due_by ys ws quota n (k + 1)
    next_due us x told is = rw told (C.due_turn ys ws quota n k x (omega (arith, t.room)) (is ∙ ap (λ (d : Drive). held_number d k) as_it_was))

  -- the choice
  keeps : (k m : ℕ) (us : List ℕ) → k ≡ n → m ≡ n → us ≡ due_by ys ws quota n k → Distinct us m
  keeps k m us all size told = rw (told, all, size) (C.distinct ys ws quota n t)

  -- where the second loop begins
  begun : (k m : ℕ) (zs : List Drive) (us vs : List ℕ) (r : Option ℕ) → k ≡ n → m ≡ n → zs ≡ held_by ys ws quota n k → us ≡ due_by ys ws quota n k
      → vs ≡ kept us m quota → Next vs 0 n (unwrap_or r n)
      → (unwrap_or r n < n → picked ys ws quota n (unwrap_or r n) ≡ true)
      × (zs ≡ sent_up_to ys ws quota n (unwrap_or r n))
      × (vs ≡ said_up_to ys ws quota n (unwrap_or r n))
  begun k m zs us vs r all size rows told is next =
      let chose : vs ≡ chosen ys ws quota n = is ∙ rw (told, all, size) (C.chosen_kept ys ws quota n) in
      let begins = rw chose at next in
      (begins.found, rows ∙ rw all (C.sent_start ys ws quota n _ begins), chose ∙ C.said_start ys ws quota n _ begins)

  -- a turn of the second loop
  module _ (k : ℕ) (e : Drive) (zs : List Drive) (l : k < n) (goes : picked ys ws quota n k ≡ true) (rows : zs ≡ sent_up_to ys ws quota n k) where
    as_held : get_or zs k e ≡ (hall_ticked false (get_or ys k fresh_drive)).drive
    as_held =
        let size = C.sent_length ys ws quota n k in
        get_or_default zs k e fresh_drive (rw rows (omega (arith, t.within))) ∙ rw rows (C.sent_old ys ws quota n t k l)

    next_turn : (d : Drive) (us : List ℕ) (x r : ℕ) → us ≡ said_up_to ys ws quota n k
        → d ≡ with_wait (reported (get_or zs k e)) 0 → x ≡ 65536 + 256 * (get_or zs k e).position + status_of (get_or zs k e)
        → Next (set us k x) (k + 1) n r
        → (r < n → picked ys ws quota n r ≡ true) × (set zs k d ≡ sent_up_to ys ws quota n r) × (set us k x ≡ said_up_to ys ws quota n r)
    next_turn d us x r told sent is found =
        let said : set us k x ≡ said_up_to ys ws quota n (k + 1) =
        rw told (C.said_turn ys ws quota n t k x l goes (is ∙ ap (λ (a : Drive). 65536 + 256 * a.position + status_of a) as_held)) in
        let next = C.next_chosen ys ws quota n t (k + 1) r (rw said at found) in (
          next.found,
          rw rows (C.sent_turn ys ws quota n t k r d l goes next (sent ∙ ap (λ (a : Drive). with_wait (reported a) 0) as_held)),
          said ∙ C.said_between ys ws quota n (k + 1) r next,
        )

-- the place that is found goes
found_goes : (r : Option ℕ) (n : ℕ) (P : ℕ → Type 0) → IfSome r (λ k. k < n) → (unwrap_or r n < n → P (unwrap_or r n)) → IfSome r P
found_goes None n P w h = tt
found_goes (Some k) n P w h = h w

-- refused
pub returns-in_err-tick_refusal-clause-row : goal.returns-in_err-tick_refusal-clause-row
unfolding call_refusal
returns-in_err-tick_refusal-clause-row c =
    let a = c.args in
    let e = c.in_err-tick_refusal in
    (untouched hall_step a.row.now (tick a.quota (length a.numbers.now)) a.numbers.now e.field-0.0 e.ensures).0

pub returns-in_err-tick_refusal-clause-numbers : goal.returns-in_err-tick_refusal-clause-numbers
unfolding call_refusal
returns-in_err-tick_refusal-clause-numbers c =
    let a = c.args in
    let e = c.in_err-tick_refusal in
    (untouched hall_step a.row.now (tick a.quota (length a.numbers.now)) a.numbers.now e.field-0.0 e.ensures).1

pub loop-place-init : goal.loop-place-init
loop-place-init c =
    let a = c.args in
    let us = front a.row.now a.numbers.now in
    record { row = C.held_start a.row.now us a.quota (length a.row.now); numbers = C.due_start a.row.now us a.quota (length a.row.now) }

pub loop-place-preserved : goal.loop-place-preserved
loop-place-preserved c =
    let a = c.args in
    let l = c.loop-place in
    let us = front a.row.now a.numbers.now in
    let n = length a.row.now in
    let t = C.front_ticks a.row.now a.numbers.now a.quota c.in_ok-tick_refusal.ensures in
    let h = c.hold_one.ensures in
    record {
      row = next_held a.row.now us a.quota n t l.place _ l.row c.loop-place-test.true l.invariant.row _ h.drive;
      numbers = next_due a.row.now us a.quota n t l.place _ l.row c.loop-place-test.true l.invariant.row l.numbers _ l.invariant.numbers h.number;
    }

pub choose-next-requires : goal.choose-next-requires
choose-next-requires c =
    let a = c.args in
    let l = c.loop-place in
    let n = length a.row.now in
    let t = C.front_ticks a.row.now a.numbers.now a.quota c.in_ok-tick_refusal.ensures in
    let size : length l.numbers ≡ n = l.auto.numbers ∙ C.front_length a.row.now a.numbers.now a.quota c.in_ok-tick_refusal.ensures in
    keeps a.row.now (front a.row.now a.numbers.now) a.quota n t l.place _ l.numbers (omega arith) size l.invariant.numbers

pub loop-next-init : goal.loop-next-init
loop-next-init c =
    let a = c.args in
    let l = c.loop-place in
    let us = front a.row.now a.numbers.now in
    let n = length a.row.now in
    let t = C.front_ticks a.row.now a.numbers.now a.quota c.in_ok-tick_refusal.ensures in
    let size : length l.numbers ≡ n = l.auto.numbers ∙ C.front_length a.row.now a.numbers.now a.quota c.in_ok-tick_refusal.ensures in
    let many : length c.choose-next.new.numbers ≡ n = c.choose-next.auto.numbers ∙ size in
    let chose = c.choose-next.ensures in
    let within = rw many at chose.within in
    let b = begun a.row.now us a.quota n t l.place _ l.row l.numbers _ c.choose-next.result (omega arith) size l.invariant.row l.invariant.numbers
    chose.kept (rw many at chose.next) in
    record {
      within = within;
      goes = found_goes c.choose-next.result n (λ (k : ℕ). picked a.row.now us a.quota n k ≡ true) within b.0;
      row = b.1;
      numbers = b.2;
    }

pub loop-next-preserved : goal.loop-next-preserved
loop-next-preserved c =
    let a = c.args in
    let l = c.loop-next in
    let us = front a.row.now a.numbers.now in
    let n = length a.row.now in
    let k = c.in-Some.place in
    let t = C.front_ticks a.row.now a.numbers.now a.quota c.in_ok-tick_refusal.ensures in
    let many : length (set l.numbers k c.send_one.result) ≡ n =
    length-set l.numbers k c.send_one.result ∙ l.auto.numbers ∙ c.choose-next.auto.numbers ∙ c.loop-place.auto.numbers
    ∙ C.front_length a.row.now a.numbers.now a.quota c.in_ok-tick_refusal.ensures in
    let found = c.next_sent-next.ensures in
    let within = rw many at found.within in
    let i = rw c.in-Some.is at l.invariant in
    let s = c.send_one.ensures in
    let b = next_turn a.row.now us a.quota n t k _ l.row i.within i.goes i.row _ l.numbers _ _ i.numbers s.drive s.number (rw many at found.next) in
    record {
      within = within;
      goes = found_goes c.next_sent-next.result n (λ (k : ℕ). picked a.row.now us a.quota n k ≡ true) within b.0;
      row = b.1;
      numbers = b.2;
    }

pub returns-clause-row : goal.returns-clause-row
returns-clause-row c =
    let a = c.args in
    let i = rw c.in_default.is at c.loop-next.invariant in
    i.row ∙ C.row_done a.row.now a.numbers.now a.quota c.in_ok-tick_refusal.ensures

pub returns-clause-numbers : goal.returns-clause-numbers
returns-clause-numbers c =
    let a = c.args in
    let i = rw c.in_default.is at c.loop-next.invariant in
    ap (λ (us : List ℕ). us ++ drop (length a.row.now) a.numbers.now) i.numbers
    ∙ C.numbers_done a.row.now a.numbers.now a.quota c.in_ok-tick_refusal.ensures
