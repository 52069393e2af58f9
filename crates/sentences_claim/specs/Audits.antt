-- Proofs: what an audit finds at a record, and what it keeps.
use Rattle.std.specs.Prelude.{◌≡◌, ◌↔◌, Bool, false, ◌&&◌, ◌||◌, List, [], ◌∷◌, map, ℕ, ◌<◌, ◌≤◌, get_or}
use Rattle.std.proofs.Math.Path.{refl, sym, ap, subst}
use Rattle.std.proofs.Common.{◌∙◌, arith}
use Rattle.std.proofs.Math.Bool.{true, not, or-true}
use Rattle.std.proofs.lemmas.Bool.{false≢true}
use Rattle.std.proofs.Math.Dec.{leb, ltb, eqb}
use borrow.Author.Tests.{ltb-true, ltb-false, eqb-true, eqb-false, eq-eqb}
use Rattle.numbers.specs.Numbers.{pick, next}
use Rattle.numbers.specs.Laws.{cases, and_left, and_right, and_intro}
use Rattle.numbers.specs.Says.{Says, unset, negated, both, equal, below, at_most}
use Rattle.table.specs.Table.{min_rep_time, rate}
use Rattle.event.specs.Event.{event_in, bad_kind, kind_in, record_refusal}
use Rattle.event.specs.Laws.{record_passed, admitted}
use Rattle.motion.specs.Motion.{toward}
use Rattle.rules.specs.RefusalLaws.{refusal_passed}
use Rattle.answer.specs.declared.Answer.{Answer}
use Rattle.answer.specs.declared.Answer.TheVariants.{No, Done, Par, At, Tick, Report}
use Rattle.answer.specs.Answer.{number_of, is_report, word_of, code_of, answer_of}
use Rattle.answer.specs.Laws.{answer_again}
use Rattle.damper.specs.declared.Drive.{Drive}
use Rattle.damper.specs.declared.Outcome.{Outcome}
use Rattle.damper.specs.Record.{last, with_position}
use Rattle.damper.specs.WellFormed.{well_formed}
use Rattle.damper.specs.Tick.{advance, status_of, due_with, differs_from}
use Rattle.damper.specs.Step.{refusal_of, step_of}
use Rattle.invariant.specs.Effects as F
use Rattle.invariant.specs.Kept as K
use Rattle.audit.specs.declared.Audit.{Audit}
use Rattle.audit.specs.declared.Findings.{Findings}
use Rattle.audit.specs.declared.Said.{Said}
use Rattle.audit.specs.Audit.{fresh_audit, said_in, met_by, findings_of, followed, audit_of}
use Rattle.sentences.specs.Words.{first_that_fits}
use Rattle.sentences.specs.Fields as Fields
use Rattle.sentences.specs.Fields.{◌≔◌, ◌with◌, bare}
use Rattle.sentences.specs.Paper as P
use Rattle.sentences.specs.Hands as Hands
use Rattle.sentences.specs.Prints.{same_report}
use Rattle.sentences.specs.Refusals.{same_refusals}
use Rattle.sentences.specs.Rules.{same_target, same_due}
use Rattle.sentences.specs.Ticks.{tick_steps}
use Rattle.sentences.specs.Exists.{some_tick}
use Rattle.sentences.specs.Forms.{same_formed}
use Rattle.sentences.specs.Events as Events
use Rattle.sentences_claim.specs.Paper as S
use Rattle.sentences_claim.specs.Tests.{same_number, new_flag, gives_report}
use Rattle.sentences_claim.specs.Holds.{moved_is}

-- ── What an answer says ──

pub said_number : (p : ℕ) (y : Answer) → (said_in p y).number ≡ number_of y
said_number p (No n) = refl
said_number p Done = refl
said_number p (Par v) = refl
said_number p (At q c s) = refl
said_number p (Tick q r m) = refl
said_number p (Report q r m s) = refl

said_reports : (p : ℕ) (y : Answer) → (said_in p y).reports ≡ is_report y
said_reports p (No n) = refl
said_reports p Done = refl
said_reports p (Par v) = refl
said_reports p (At q c s) = refl
said_reports p (Tick q r m) = refl
said_reports p (Report q r m s) = refl

pub same_said : (p : ℕ) (y : Answer) (n : ℕ) → ((said_in p y).number ≡ n) ↔ S.Number y n
same_said p y n = rw (said_number p y) (same_number y n)

pub same_reports : (p : ℕ) (y : Answer) → Says (said_in p y).reports (P.IsReport y)
same_reports p y = rw (said_reports p y) (same_report y)

said_shows : (p : ℕ) (y : Answer) → S.Shows p y (said_in p y).position
said_shows p (No n) = S.refused n
said_shows p Done = S.ok
said_shows p (Par v) = S.parameter v
said_shows p (At q c s) = S.position q c s
said_shows p (Tick q r m) = S.tick q r m
said_shows p (Report q r m s) = S.report q r m s

shows_said : {p : ℕ} {y : Answer} {q : ℕ} → S.Shows p y q → (said_in p y).position ≡ q
shows_said (S.refused n) = refl
shows_said S.ok = refl
shows_said (S.parameter v) = refl
shows_said (S.position q c s) = refl
shows_said (S.tick q r m) = refl
shows_said (S.report q r m s) = refl

pub same_shows : (p : ℕ) (y : Answer) (q : ℕ) → ((said_in p y).position ≡ q) ↔ S.Shows p y q
same_shows p y q = (λ e. subst (S.Shows p y) e (said_shows p y), shows_said)

pub gives_said : {y : Answer} {q s : ℕ} (p : ℕ) → S.Gives y q s → ((said_in p y).position ≡ q) × ((said_in p y).status ≡ s)
gives_said p (S.report q r m s) = (refl, refl)

said_gives : (p : ℕ) (y : Answer) → P.IsReport y → S.Gives y (said_in p y).position (said_in p y).status
said_gives p y (P.tick_with_status q r m s) = S.report q r m s

pub none_said : (p : ℕ) (y : Answer) → (P.IsReport y → ⊥) → (said_in p y).status ≡ 0
none_said p (No n) h = refl
none_said p Done h = refl
none_said p (Par v) h = refl
none_said p (At q c s) h = refl
none_said p (Tick q r m) h = refl
none_said p (Report q r m s) h = absurd (h (P.tick_with_status q r m s))

-- ── What the drive makes of a record ──

module _ (d : Drive) (s : List ℕ) (w : well_formed d ≡ true) where
  passes : refusal_of d s ≡ 0 → record_refusal s ≡ 0
  passes z = (refusal_passed s _ _ _ _ _ (sym (F.refusal_wf d s w) ∙ z)).0

  known : refusal_of d s ≡ 0 → bad_kind (event_in s).kind ≡ false
  known z = (admitted (event_in s) (record_passed s (passes z)).1).kind

  -- the number of the answer is the refusal
  step_number : number_of (step_of d s).answer ≡ refusal_of d s
  step_number =
      cases (eqb (refusal_of d s) 0)
      (λ q. let z = eqb-true _ 0 q in rw (F.step_accepted d s z) (F.number_after d (event_in s) (known z) ∙ sym z))
      (λ q. rw (F.step_refused d s (eqb-false _ 0 q)))

  pub own_number : (said_in 0 (step_of d s).answer).number ≡ first_that_fits (P.turned_down d s)
  own_number = said_number 0 (step_of d s).answer ∙ step_number ∙ same_refusals d s

  same_kind : (k : ℕ) → Says (eqb (said_in 0 (step_of d s).answer).number 0 && eqb (kind_in s) k)
      ((first_that_fits (P.turned_down d s) ≡ 0) × (get_or s 2 0 ≡ k))
  same_kind k = (there, back)
    where
      kind_is : first_that_fits (P.turned_down d s) ≡ 0 → kind_in s ≡ get_or s 2 0
      kind_is z = rw (passes (same_refusals d s ∙ z))

      there : eqb (said_in 0 (step_of d s).answer).number 0 && eqb (kind_in s) k ≡ true
          → (first_that_fits (P.turned_down d s) ≡ 0) × (get_or s 2 0 ≡ k)
      there e =
          let z = sym own_number ∙ eqb-true _ 0 (and_left (eqb (said_in 0 (step_of d s).answer).number 0) _ e) in
          (z, sym (kind_is z) ∙ eqb-true (kind_in s) k (and_right (eqb (said_in 0 (step_of d s).answer).number 0) _ e))

      back : (first_that_fits (P.turned_down d s) ≡ 0) × (get_or s 2 0 ≡ k)
          → eqb (said_in 0 (step_of d s).answer).number 0 && eqb (kind_in s) k ≡ true
      back p = and_intro (eq-eqb _ 0 (own_number ∙ p.0)) (eq-eqb (kind_in s) k (kind_is p.0 ∙ p.1))

  -- whether a tick reports
  pub tick_due : S.TickOf d s → Says (said_in 0 (step_of d s).answer).reports (S.TickDue d)
  tick_due k =
      let z : refusal_of d s ≡ 0 = same_refusals d s ∙ k.0 in
      let n = (advance d).drive in
      let e : (said_in 0 (step_of d s).answer).reports ≡ due_with n (status_of n) =
      said_reports 0 (step_of d s).answer ∙ ap (λ o. is_report o.answer) (F.step_accepted d s z)
      ∙ F.report_after d (event_in s) (known z) ∙ rw k.1 in
      rw e (same_due n (status_of n))

-- the position that a tick leads to from the place `p`
module _ (d : Drive) (p : ℕ) (w : well_formed d ≡ true) where
  abbrev there : Drive
  there = with_position d p

  -- there is a target
  pub some_target : (t : ℕ) × P.Target d.commands d.run.kind p d.params (P.ruling d) t
  some_target = let k = some_tick there ((same_formed there).0 (K.wf_position d w p)) in (k.0, k.4)

  pub tick_from : (t : ℕ) → P.Target d.commands d.run.kind p d.params (P.ruling d) t
      → (advance there).drive.position ≡ toward p t (rate d.params)
  tick_from t x =
      let f = (same_formed there).0 (K.wf_position d w p) in
      let k = some_tick there f in
      let a = tick_steps there f.low_high k.0 k.1 k.2 k.3 k.4 k.5 k.6 k.7 in
      let same = same_target d.commands d.run.kind p d.params f.low_high (P.ruling d) in
      let e : k.0 ≡ t = sym (same k.0 k.4) ∙ same t x in
      ap (λ n. n.drive.position) a ∙ (moved_is p k.0 (rate d.params) k.1).1 k.5 ∙ rw e

-- ── The findings ──

next_is : (n : ℕ) → next n ≡ P.one_more n
next_is n =
    cases (ltb n 65535)
    (λ e. let h : n < 65535 = ltb-true _ _ e in rw e (omega arith))
    (λ e. let h : 65535 ≤ n = ltb-false _ _ e in rw e (omega arith))

-- every count has one after a record
pub some_count : (d : Drive) (s : List ℕ) (n : ℕ) → (k : ℕ) × S.Counted d s n k
some_count d s n =
    let z = first_that_fits (P.turned_down d s) in
    let t = both (eqb z 0) (eqb (get_or s 2 0) 1) (equal z 0) (equal (get_or s 2 0) 1) in
    cases (eqb z 0 && eqb (get_or s 2 0) 1)
    (λ e. (P.one_more n, S.one_more (t.0 e)))
    (λ e. (n, S.as_before ((unset _ t).0 e)))

-- an equal flag says the same
by : {b c : Bool} {X : Type 0} → b ≡ c → Says c X → Says b X
by e k = (λ q. k.0 (sym e ∙ q), λ p. e ∙ k.1 p)

-- two flags are found to differ
differ : (c q : Bool) {X Y : Type 0} → Says q X → Says c Y → Says ((c && not q) || (not c && q)) ((X ↔ Y) → ⊥)
differ true true e f = (λ z. absurd (false≢true z), λ n. absurd (n (λ x. f.0 refl, λ y. e.0 refl)))
differ true false e f = (λ z k. false≢true (e.1 (k.1 (f.0 refl))), λ n. refl)
differ false true e f = (λ z k. false≢true (f.1 (k.0 (e.0 refl))), λ n. refl)
differ false false e f =
    (λ z. absurd (false≢true z), λ n. absurd (n (λ x. absurd (false≢true (e.1 x)), λ y. absurd (false≢true (f.1 y)))))

-- a flag that is looked at only where another is set
where_set : (b c : Bool) {X Y : Type 0} → Says b X → (X → Says c Y) → Says (b && c) (X × Y)
where_set true c e f = (λ q. (e.0 refl, (f (e.0 refl)).0 q), λ p. (f p.0).1 p.1)
where_set false c e f = (λ q. absurd (false≢true q), λ p. absurd (false≢true (e.1 p.0)))

regroup : (a b c e : Bool) → ((a && b) && c) && e ≡ a && (c && (b && e))
regroup true true true e = refl
regroup true true false e = refl
regroup true false true e = refl
regroup true false false e = refl
regroup false b c e = refl

module _ (a : Audit) (s : List ℕ) (y : Answer) (w : well_formed a.drive ≡ true) where
  abbrev d : Drive
  d = a.drive

  abbrev o : Outcome
  o = step_of d s

  abbrev f : Findings
  f = (audit_of a s y).findings

  abbrev after : Audit
  after = (audit_of a s y).audit

  abbrev x : Said
  x = said_in a.seen y

  abbrev tick : Bool
  tick = (met_by a s).tick

  abbrev restart : Bool
  restart = (met_by a s).restart

  pub is_tick_lem : Says tick (S.TickOf d s)
  unfolding met_by
  is_tick_lem = same_kind d s w 1

  pub is_restart : Says restart (S.RestartOf d s)
  unfolding met_by
  is_restart = same_kind d s w 9

  pub met_drive : (met_by a s).drive ≡ o.drive
  unfolding met_by
  met_drive = refl

  pub met_number : (met_by a s).number ≡ first_that_fits (P.turned_down d s)
  unfolding met_by
  met_number = own_number d s w

  pub met_reports : Says (met_by a s).reports (P.IsReport o.answer)
  unfolding met_by
  met_reports = same_reports 0 o.answer

  pub met_moved : (t : ℕ) → P.Target d.commands d.run.kind a.seen d.params (P.ruling d) t
      → P.Moved a.seen t (P.Rate d.params) (met_by a s).moved
  unfolding met_by
  met_moved t aim = (moved_is a.seen t (rate d.params) _).0 (tick_from d a.seen w t aim)

  heard : Says x.reports (P.IsReport y)
  heard = same_reports a.seen y

  -- a count after the record
  counted_is : (n k : ℕ) → S.Counted d s n k → pick tick (next n) n ≡ k
  counted_is n k (S.one_more t) = rw (is_tick_lem.1 t) (next_is n)
  counted_is n k (S.as_before t) = rw ((unset tick is_tick_lem).1 t)

  findings_are : (audit_of a s y).findings ≡ findings_of a (met_by a s) x (word_of y) (code_of y)
  unfolding audit_of
  findings_are = rw w

  audit_is : (audit_of a s y).audit ≡ followed a (met_by a s) x
  unfolding audit_of
  audit_is = rw w

  pub spacing : (n : ℕ) → S.Counted d s a.apart n → Says f.spacing (P.IsReport y × (n < P.MinRepTime o.drive.params))
  unfolding findings_of met_by
  spacing n c =
      let time = min_rep_time o.drive.params in
      by (ap (λ (k : Findings). k.spacing) findings_are ∙ ap (λ (i : ℕ). x.reports && ltb i time) (counted_is a.apart n c))
      (both x.reports (ltb n time) heard (below n time))

  pub waiting : Says f.waiting
      (S.TickOf d s × (P.IsReport y → ⊥) × (P.MinRepTime o.drive.params ≤ P.one_more d.since)
      × S.New o.drive.params o.drive.position (status_of o.drive) d.last.reported d.last.position d.last.status)
  unfolding findings_of met_by
  waiting =
      let time = min_rep_time o.drive.params in
      let up = leb time (pick tick (next d.since) d.since) in
      let new = differs_from o.drive (status_of o.drive) d.last in
      let l = d.last in
      let n = new_flag o.drive.params o.drive.position (status_of o.drive) l.reported l.position l.status in
      let in_time : S.TickOf d s → Says up (time ≤ P.one_more d.since) =
      λ k. by (ap (leb time) (counted_is d.since _ (S.one_more k))) (at_most time (P.one_more d.since)) in
      let z = both (not x.reports) new (negated x.reports heard) n in
      let all = where_set tick (up && (not x.reports && new)) is_tick_lem (λ k. both up (not x.reports && new) (in_time k) z) in
      by (ap (λ (k : Findings). k.waiting) findings_are ∙ regroup tick (not x.reports) up new)
      (λ e. let p = all.0 e in (p.0, p.1.1.0, p.1.0, p.1.1.1), λ p. all.1 (p.0, (p.2, (p.1, p.3))))

  pub moving : (t p : ℕ) → P.Target d.commands d.run.kind a.seen d.params (P.ruling d) t → S.Shows a.seen y p
      → Says f.moving (S.TickOf d s × (P.Moved a.seen t (P.Rate d.params) p → ⊥))
  unfolding findings_of met_by
  moving t p aim sh =
      let to = toward a.seen t (rate d.params) in
      let m = moved_is a.seen t (rate d.params) p in
      by (ap (λ (k : Findings). k.moving) findings_are
      ∙ (λ i. tick && not (eqb (shows_said sh i) (tick_from d a.seen w t aim i))))
      (both tick (not (eqb p to)) is_tick_lem (negated (eqb p to) (λ e. m.0 (eqb-true p to e), λ h. eq-eqb p to (m.1 h))))

  pub position : (p : ℕ) → S.Shows a.seen y p → Says f.position (p ≡ o.drive.position → ⊥)
  unfolding findings_of met_by
  position p sh =
      by (ap (λ (k : Findings). k.position) findings_are ∙ ap (λ (i : ℕ). not (eqb i o.drive.position)) (shows_said sh))
      (negated (eqb p o.drive.position) (equal p o.drive.position))

  pub content : Says f.content (P.IsReport y × (S.Gives y o.drive.position (status_of o.drive) → ⊥))
  unfolding findings_of met_by
  content =
      let p = o.drive.position in
      let v = status_of o.drive in
      let there : P.IsReport y → eqb x.position p && eqb x.status v ≡ true → S.Gives y p v =
      λ r e.
      subst (λ (k : ℕ). S.Gives y k v) (eqb-true x.position p (and_left (eqb x.position p) _ e))
      (subst (S.Gives y x.position) (eqb-true x.status v (and_right (eqb x.position p) _ e)) (said_gives a.seen y r)) in
      let back : S.Gives y p v → eqb x.position p && eqb x.status v ≡ true =
      λ g. let z = gives_said a.seen g in and_intro (eq-eqb x.position p z.0) (eq-eqb x.status v z.1) in
      let same = eqb x.position p && eqb x.status v in
      by (ap (λ (k : Findings). k.content) findings_are)
      (where_set x.reports (not same) heard (λ r. negated same (there r, back)))

  pub othermove : (p : ℕ) → S.Shows a.seen y p → Says f.othermove ((S.TickOf d s → ⊥) × (p ≡ a.seen → ⊥))
  unfolding findings_of
  othermove p sh =
      by (ap (λ (k : Findings). k.othermove) findings_are ∙ ap (λ (i : ℕ). not tick && not (eqb i a.seen)) (shows_said sh))
      (both (not tick) (not (eqb p a.seen)) (negated tick is_tick_lem) (negated (eqb p a.seen) (equal p a.seen)))

  pub otherreport : Says f.otherreport ((S.TickOf d s → ⊥) × P.IsReport y)
  unfolding findings_of
  otherreport = by (ap (λ (k : Findings). k.otherreport) findings_are) (both (not tick) x.reports (negated tick is_tick_lem) heard)

  pub due_found : Says f.due (S.TickOf d s × ((P.IsReport y ↔ S.TickDue d) → ⊥))
  unfolding findings_of met_by
  due_found =
      let own = (said_in 0 o.answer).reports in
      by (ap (λ (k : Findings). k.due) findings_are)
      (where_set tick ((own && not x.reports) || (not own && x.reports)) is_tick_lem
      (λ k. differ own x.reports heard (tick_due d s w k)))

  pub refusal : Says f.refusal (S.Number y (first_that_fits (P.turned_down d s)) → ⊥)
  unfolding findings_of met_by
  refusal =
      let k = first_that_fits (P.turned_down d s) in
      let n = same_number y k in
      by (ap (λ (z : Findings). z.refusal) findings_are ∙ (λ i. not (eqb (said_number a.seen y i) (own_number d s w i))))
      (negated (eqb (number_of y) k) (λ e. n.0 (eqb-true (number_of y) k e), λ h. eq-eqb (number_of y) k (n.1 h)))

  pub answer : P.Fits y → P.Fits o.answer → Says f.answer (y ≡ o.answer → ⊥)
  unfolding findings_of met_by
  answer h k =
      let words = eqb (word_of y) (word_of o.answer) in
      let codes = eqb (code_of y) (code_of o.answer) in
      by (ap (λ (z : Findings). z.answer) findings_are)
      (negated (words && codes) (
        λ e. same (eqb-true _ _ (and_left words codes e)) (eqb-true _ _ (and_right words codes e)),
        λ e. and_intro (eq-eqb _ _ (ap word_of e)) (eq-eqb _ _ (ap code_of e)),
      ))
    where
      same : word_of y ≡ word_of o.answer → code_of y ≡ code_of o.answer → y ≡ o.answer
      same u v =
          sym (answer_again y (Hands.fits y h)) ∙ (λ i. answer_of (u i) (v i)) ∙ answer_again o.answer (Hands.fits o.answer k)

  -- ── What is kept ──

  pub taken : (audit_of a s y).refusal ≡ 0
  unfolding audit_of
  taken = rw w

  -- all of the drive but what was heard
  pub kept : after.drive
      ≡ o.drive with (Fields.since ≔ after.drive.since ∷ Fields.reported ≔ after.drive.last.reported
      ∷ Fields.last_position ≔ after.drive.last.position ∷ Fields.last_status ≔ after.drive.last.status ∷ [])
  unfolding followed met_by
  kept = heard_kept (audit_of a s y).audit audit_is
    where
      heard_kept : (b : Audit) → b ≡ followed a (met_by a s) x → b.drive
          ≡ o.drive with (Fields.since ≔ b.drive.since ∷ Fields.reported ≔ b.drive.last.reported
          ∷ Fields.last_position ≔ b.drive.last.position ∷ Fields.last_status ≔ b.drive.last.status ∷ [])
      heard_kept b e = rw e

  pub seen : (p : ℕ) → S.Shows a.seen y p → after.seen ≡ p
  unfolding followed
  seen p sh = ap (λ (k : Audit). k.seen) audit_is ∙ shows_said sh

  pub apart_report : P.IsReport y → after.apart ≡ 0
  unfolding followed
  apart_report r = ap (λ (k : Audit). k.apart) audit_is ∙ rw (heard.1 r)

  pub apart_else : (n : ℕ) → (P.IsReport y → ⊥) → S.Counted d s a.apart n → after.apart ≡ n
  unfolding followed
  apart_else n r c = ap (λ (k : Audit). k.apart) audit_is ∙ rw ((unset x.reports heard).1 r) (counted_is a.apart n c)

  pub since_report : P.IsReport y → after.drive.since ≡ 0
  unfolding followed
  since_report r = ap (λ (k : Audit). k.drive.since) audit_is ∙ rw (heard.1 r)

  pub since_restart : S.RestartOf d s → after.drive.since ≡ 0
  unfolding followed
  since_restart r = ap (λ (k : Audit). k.drive.since) audit_is ∙ rw (is_restart.1 r, or-true x.reports)

  pub since_else : (n : ℕ) → (P.IsReport y → ⊥) → (S.RestartOf d s → ⊥) → S.Counted d s d.since n → after.drive.since ≡ n
  unfolding followed
  since_else n r z c =
      ap (λ (k : Audit). k.drive.since) audit_is
      ∙ rw ((unset x.reports heard).1 r, (unset restart is_restart).1 z) (counted_is d.since n c)

  pub last_restart : S.RestartOf d s → after.drive.last ≡ last 0 0 0
  unfolding followed
  last_restart r = ap (λ (k : Audit). k.drive.last) audit_is ∙ rw (is_restart.1 r)

  pub last_report : (p v : ℕ) → (S.RestartOf d s → ⊥) → S.Gives y p v → after.drive.last ≡ last 1 p v
  unfolding followed
  last_report p v z g =
      let e = gives_said a.seen g in
      ap (λ (k : Audit). k.drive.last) audit_is
      ∙ rw ((unset restart is_restart).1 z, heard.1 ((same_report y).0 (gives_report g))) (λ i. last 1 (e.0 i) (e.1 i))

  pub last_else : (S.RestartOf d s → ⊥) → (P.IsReport y → ⊥) → after.drive.last ≡ d.last
  unfolding followed
  last_else z r = ap (λ (k : Audit). k.drive.last) audit_is ∙ rw ((unset restart is_restart).1 z, (unset x.reports heard).1 r)

-- an audit whose drive is not well formed
pub refused : (a : Audit) (s : List ℕ) (y : Answer) → well_formed a.drive ≡ false
    → audit_of a s y ≡ record { audit = a; refusal = 1; findings = S.nothing_found }
unfolding audit_of
refused a s y n = rw n

pub fresh : fresh_audit ≡ record { drive = bare 0 (map (λ (l : P.Line). l.fresh) P.table) 0; seen = 0; apart = 65535 }
fresh = λ i. record { drive = Events.fresh i; seen = 0; apart = 65535 }
