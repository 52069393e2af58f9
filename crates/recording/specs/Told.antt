-- On any trace, each sentence of the claim at a record holds or fails by a test of what the list reads there.
use Rattle.std.specs.Prelude.{◌≡◌, refl, Bool, true, false, not, ◌&&◌, ◌||◌, ◌∷◌, ℕ, ◌+◌, ◌-◌, ◌<◌, ◌≤◌, min, ltb, leb, eqb}
use Rattle.std.proofs.Common.{sym, ◌∙◌, arith, ltb-true, ltb-false, leb-true, le-leb, eqb-true, eq-eqb}
use Rattle.std.proofs.lemmas.Bool.{false≢true, eqb-false, not-true}
use Rattle.numbers.specs.Numbers.{pick, distance, next}
use Rattle.numbers.specs.Laws.{and_left, and_right, not_false}
use Rattle.numbers.specs.Counts as Counts
use Rattle.numbers.specs.CountLaws.{quiet_last, since_stretch}
use Rattle.table.specs.Table.{min_rep_time, act_pos_cov}
use Rattle.event.specs.Event.{event_in}
use Rattle.motion.specs.Motion.{toward}
use Rattle.motion.specs.Laws.{move_distance, move_left}
use Rattle.rules.specs.Report.{changed, Sent, sent, differs}
use Rattle.history.specs.Readings as R
use Rattle.history.specs.Claim as C
use Rattle.history.specs.Waits.{same_sent, silent_in}
use Rattle.recording.specs.Recording.{Tells}
use Rattle.recording.specs.Counts.{apart, apart_least, apart_near}

-- a finding tells of its sentence what it is shown to, where it is true and where it is false
tells : (b : Bool) {S : Type 0} → (b ≡ true → S → ⊥) → (b ≡ false → S) → Tells b S
tells true f g = f refl
tells false f g = g refl

-- of a sentence that speaks of some records only
pub where_told : (b c : Bool) (S : Type 0) → (b ≡ true → Tells c S) → Tells (b && c) (b ≡ true → S)
where_told true true S k = λ s. k refl (s refl)
where_told true false S k = λ e. k refl
where_told false c S k = λ e. absurd (false≢true e)

pub unless_told : (b c : Bool) (S : Type 0) → Tells c S → Tells (not b && c) (b ≡ false → S)
unless_told true c S k = λ e. absurd (false≢true (sym e))
unless_told false true S k = λ s. k (s refl)
unless_told false false S k = λ e. k

-- that two numbers are equal, that a flag is not set, and that two flags are equal
pub equal_told : (m n : ℕ) → Tells (not (eqb m n)) (m ≡ n)
equal_told m n = tells (not (eqb m n)) (λ q e. eqb-false m n (not-true (eqb m n) q) e) (λ q. eqb-true m n (not_false (eqb m n) q))

pub unset_told : (b : Bool) → Tells b (b ≡ false)
unset_told true = λ e. false≢true (sym e)
unset_told false = refl

pub same_told : (b c : Bool) → Tells ((c && not b) || (not c && b)) (b ≡ c)
same_told true true = refl
same_told true false = λ e. false≢true (sym e)
same_told false true = λ e. false≢true e
same_told false false = refl

-- a report of position `q` and status `v`, against `p` and `s`
pub sent_told : (q v p s : ℕ) → Tells (not (eqb q p && eqb v s)) (sent q v ≡ sent p s)
sent_told q v p s =
    tells (not (eqb q p && eqb v s))
    (λ z e.
    let a : q ≡ p = cc in
    let b : v ≡ s = cc in
    false≢true (sym (not-true (eqb q p && eqb v s) z) ∙ rw (eq-eqb q p a, eq-eqb v s b)))
    (λ z.
    let k = not_false (eqb q p && eqb v s) z in
    let a = eqb-true q p (and_left (eqb q p) _ k) in
    let b = eqb-true v s (and_right (eqb q p) _ k) in
    rw (a, b))

-- who goes `s` and has that much less to go went toward the target, up or down
up_to : (p t q s : ℕ) → p ≤ t → distance p q ≡ s → distance q t + s ≡ distance p t → q ≡ p + s
up_to p t q s h x y = omega arith

down_to : (p t q s : ℕ) → t ≤ p → distance p q ≡ s → distance q t + s ≡ distance p t → q + s ≡ p
down_to p t q s h x y = omega arith

-- the latter as a difference
less : (p q s : ℕ) → q + s ≡ p → q ≡ p - s
less p q s h = omega arith

-- a move from `p` to `q` is as long as it should be, and leaves as much to the target, just where `q` is the place of document 01's step 2
pub move_told : (q p t r : ℕ)
    → Tells (not (eqb q (toward p t r))) ((distance p q ≡ min r (distance p t)) × (distance q t + min r (distance p t) ≡ distance p t))
unfolding toward
move_told q p t r =
    tells (not (eqb q (toward p t r)))
    (λ z e. eqb-false q (toward p t r) (not-true _ z) (same (ltb p t) refl e.0 e.1))
    (λ z. rw (eqb-true q (toward p t r) (not_false _ z)) (move_distance p t r, move_left p t r))
  where
    same : (b : Bool) → ltb p t ≡ b → distance p q ≡ min r (distance p t) → distance q t + min r (distance p t) ≡ distance p t
        → q ≡ pick b (p + min r (distance p t)) (p - min r (distance p t))
    same true e x y = let h : p < t = ltb-true p t e in up_to p t q _ (omega arith) x y
    same false e x y = less p q _ (down_to p t q _ (ltb-false p t e) x y)

-- with a last report of that status and near that position nothing differs
sent_same : (cov p s r : ℕ) (x : Sent) → x ≡ sent r s → changed cov p r ≡ false → differs cov p s x ≡ false
sent_same cov p s r x e c = rw (e, c, eq-eqb s s refl)

-- by what the records of a trace are counted
abbrev ticks : Counts.Test C.Moment
ticks = C.accepted_as R.is_tick

abbrev restarts : Counts.Test C.Moment
restarts = C.accepted_as R.is_restart

abbrev reported : Counts.Test C.Moment
reported m t = C.reports m

-- the accepted ticks after the latest report of a trace
abbrev pub apart_in : C.Trace → ℕ
apart_in t = apart ticks reported t

module _ (m : C.Moment) (t : C.Trace) where
  -- whether the record is an accepted tick, and whether it reports
  abbrev k : Bool
  k = C.accepted_as R.is_tick m t

  abbrev q : Bool
  q = C.reports m

  -- MinRepTime in force at it
  abbrev time : ℕ
  time = min_rep_time (C.in_force m t)

  -- two reports are too near just where the latest one is, the record counted
  pub spacing_told : time ≤ 3600 → Tells (q && ltb (pick k (next (apart_in t)) (apart_in t)) time) (C.Spacing m t)
  spacing_told most =
      let n = pick k (next (apart_in t)) (apart_in t) in
      tells (q && ltb n time)
      (λ z s.
      let near = apart_near ticks reported m t time (omega arith) (ltb-true n time (and_right q _ z)) in
      let l = s near.0 near.1 near.2 near.3 near.4 (and_left q _ z) in
      let g = near.5 in
      omega arith)
      (λ z between x old e r p.
      let l : time ≤ n = ltb-false n time (rw p at z) in
      let g = apart_least ticks reported m t between x old e r in
      omega arith)

  -- a tick is no restart
  no_restart : k ≡ true → C.accepted_as R.is_restart m t ≡ false
  no_restart z =
      let j = eqb (R.judgement (C.accepted t) m.bytes) 0 in
      rw (and_left j _ z, eqb-true (event_in m.bytes).kind 1 (and_right j _ z))

  -- without restart and report the last report is the one before
  last_kept : C.accepted_as R.is_restart m t ≡ false → q ≡ false → C.last_report (m ∷ t) ≡ C.last_report t
  unfolding C.last_report
  last_kept r s = rw (r, silent_in m.answer s)

  -- a tick without report is one tick more
  since_tick : k ≡ true → q ≡ false → C.since (m ∷ t) ≡ C.since t + 1
  unfolding Counts.since
  since_tick z s = rw (s, no_restart z, z)

  -- whether position or status that the record leaves differ from the last report
  abbrev new : Bool
  new = differs (act_pos_cov (C.in_force m t)) (R.position_in (C.accepted (m ∷ t))) (R.status_in (C.accepted (m ∷ t))) (C.last_report t)

  -- MinRepTime ticks pass without report just where since is up at a tick which does not report though something differs
  pub waiting_told : 1 ≤ time → time ≤ 3600
      → Tells (((k && not q) && leb time (pick k (next (min (C.since t) 65535)) (min (C.since t) 65535))) && new) (C.Waiting m t)
  waiting_told least most =
      let n = min (C.since t) 65535 in
      let a = leb time (pick k (next n) n) in
      tells (((k && not q) && a) && new)
      (λ z (w : C.Waiting m t).
      let y = and_left ((k && not q) && a) _ z in
      let u = and_left (k && not q) _ y in
      let tick = and_left k _ u in
      let quiet = not-true q (and_right k _ u) in
      let up : time ≤ next n = leb-true time (next n) (rw tick at (and_right (k && not q) _ y)) in
      let row = since_stretch ticks reported restarts (m ∷ t) time (rw (since_tick tick quiet) (omega arith)) in
      let r = w row.new row.old row.split tick row.ticks row.quiet in
      let f = sent_same _ _ _ r.0 (C.last_report t) (rw (last_kept (no_restart tick) quiet) at r.1) r.2 in
      false≢true (sym f ∙ and_right ((k && not q) && a) _ z))
      (λ z row old e tick n_ticks quiet.
      let l = quiet_last ticks reported restarts m t row old e (rw n_ticks least) quiet in
      let up : time ≤ C.since t + 1 = rw n_ticks at l.2 in
      let s = same_sent _ _ _ (C.last_report t) (rw (tick, l.1, le-leb time (next n) (omega arith)) at z) in
      (s.0, rw (last_kept l.0 l.1) s.1, s.2))
