-- Proofs: flags and what they say, answers, and what a record of a trace is.
use Rattle.std.specs.Prelude.{◌≡◌, refl, ◌↔◌, true, not, ◌&&◌, ◌||◌, List, [], ◌∷◌, ℕ, eqb, get_or}
use Rattle.std.proofs.Common.{sym, ap, subst, ◌∙◌, arith, eqb-true, ne_eqb}
use Rattle.std.proofs.Math.Bool.{or-true}
use Rattle.std.proofs.lemmas.Bool.{false≢true, eqb-false}
use Rattle.numbers.specs.Laws.{cases}
use Rattle.numbers.specs.Says.{Says, unset, negated, both, equal}
use Rattle.event.specs.declared.Event.{Event}
use Rattle.rules.specs.Report.{changed, silent, sent}
use Rattle.answer.specs.declared.Answer.{Answer}
use Rattle.answer.specs.declared.Answer.TheVariants.{No, Done, Par, At, Tick, Report}
use Rattle.answer.specs.Answer.{number_of, is_report, word_of}
use Rattle.history.specs.Readings as R
use Rattle.history.specs.Claim as C
use Rattle.history.specs.Waits.{silent_in}
use Rattle.sentences.specs.Paper as P
use Rattle.sentences.specs.Prints.{same_report}
use Rattle.sentences.specs.Rules.{same_changed}
use Rattle.sentences.specs.Shows.{one}
use Rattle.sentences_claim.specs.Paper as S

-- ── Answers ──

pub report_gives : (a : Answer) → is_report a ≡ true → (p : ℕ) × (s : ℕ) × S.Gives a p s × (C.report_in a ≡ sent p s)
report_gives (No n) e = absurd (false≢true e)
report_gives Done e = absurd (false≢true e)
report_gives (Par v) e = absurd (false≢true e)
report_gives (At p c s) e = absurd (false≢true e)
report_gives (Tick p r m) e = absurd (false≢true e)
report_gives (Report p r m s) e = (p, s, S.report p r m s, refl)

pub gives_report : {a : Answer} {p s : ℕ} → S.Gives a p s → is_report a ≡ true
gives_report (S.report p r m s) = refl

pub gives_in : {a : Answer} {p s : ℕ} → S.Gives a p s → C.report_in a ≡ sent p s
gives_in (S.report p r m s) = refl

-- what an answer reports
pub same_gives : (a : Answer) (p s : ℕ) → (C.report_in a ≡ sent p s) ↔ S.Gives a p s
same_gives a p s = (gives a, gives_in)
  where
    gives : (a : Answer) → C.report_in a ≡ sent p s → S.Gives a p s
    gives (No n) e = let z : ◌≡◌ {A = ℕ} 0 1 = cc in absurd (omega arith)
    gives Done e = let z : ◌≡◌ {A = ℕ} 0 1 = cc in absurd (omega arith)
    gives (Par v) e = let z : ◌≡◌ {A = ℕ} 0 1 = cc in absurd (omega arith)
    gives (At q c v) e = let z : ◌≡◌ {A = ℕ} 0 1 = cc in absurd (omega arith)
    gives (Tick q r m) e = let z : ◌≡◌ {A = ℕ} 0 1 = cc in absurd (omega arith)
    gives (Report q r m v) e = let x : q ≡ p = cc in let y : v ≡ s = cc in rw (← x, ← y) (S.report q r m v)

pub same_silent : (a : Answer) → (C.report_in a ≡ silent) ↔ (P.IsReport a → ⊥)
same_silent a = (
  λ e r. let g = report_gives a ((same_report a).1 r) in let z : ◌≡◌ {A = ℕ} 0 1 = cc g.3 in omega arith,
  λ n. silent_in a ((unset (is_report a) (same_report a)).1 n),
)

-- the number of a refusal
pub same_number : (a : Answer) (n : ℕ) → (number_of a ≡ n) ↔ S.Number a n
same_number a n = (λ e. subst (S.Number a) e (is a), only)
  where
    is : (a : Answer) → S.Number a (number_of a)
    is (No k) = S.no k
    is Done = S.other Done (λ k e. let z : ◌≡◌ {A = ℕ} 1 0 = ap word_of e in omega arith)
    is (Par v) = S.other (Par v) (λ k e. let z : ◌≡◌ {A = ℕ} 2 0 = ap word_of e in omega arith)
    is (At p c s) = S.other (At p c s) (λ k e. let z : ◌≡◌ {A = ℕ} 3 0 = ap word_of e in omega arith)
    is (Tick p r m) = S.other (Tick p r m) (λ k e. let z : ◌≡◌ {A = ℕ} 4 0 = ap word_of e in omega arith)
    is (Report p r m s) = S.other (Report p r m s) (λ k e. let z : ◌≡◌ {A = ℕ} 5 0 = ap word_of e in omega arith)

    none : (a : Answer) → ((k : ℕ) → a ≡ No k → ⊥) → number_of a ≡ 0
    none (No k) h = absurd (h k refl)
    none Done h = refl
    none (Par v) h = refl
    none (At p c s) h = refl
    none (Tick p r m) h = refl
    none (Report p r m s) h = refl

    only : {a : Answer} {n : ℕ} → S.Number a n → number_of a ≡ n
    only (S.no k) = refl
    only (S.other a h) = none a h

-- an answer whose number is 1 is `no 1`
pub number_one : (a : Answer) → number_of a ≡ 1 → a ≡ No 1
number_one (No n) e = ap No e
number_one Done e = absurd (omega arith)
number_one (Par v) e = absurd (omega arith)
number_one (At p c s) e = absurd (omega arith)
number_one (Tick p r m) e = absurd (omega arith)
number_one (Report p r m s) e = absurd (omega arith)

-- ── Records of a trace ──

pub events_are : (t : C.Trace) → S.Events t (C.accepted t)
unfolding C.accepted
events_are [] = S.start
events_are (m ∷ t) =
    cases (eqb (R.judgement (C.accepted t) m.bytes) 0)
    (λ q. rw q (S.taken m (events_are t) (eqb-true _ 0 q)))
    (λ q. rw q (S.refused m (events_are t) (eqb-false _ 0 q)))

pub events_only : {t : C.Trace} {h : List Event} → S.Events t h → C.accepted t ≡ h
unfolding C.accepted
events_only S.start = refl
events_only (S.taken m e j) = rw (events_only e, j)
events_only (S.refused m {h = h} e n) = rw (events_only e, ne_eqb (R.judgement h m.bytes) 0 n)

pub same_events : (t : C.Trace) (h : List Event) → (C.accepted t ≡ h) ↔ S.Events t h
same_events t h = (λ e. subst (S.Events t) e (events_are t), events_only)

pub same_in_force : (m : C.Moment) (t : C.Trace) (h : List Event) → S.Events (m ∷ t) h → C.in_force m t ≡ R.parameters h
same_in_force m t h e = ap R.parameters (events_only e)

module _ (m : C.Moment) (t : C.Trace) where
  kind_at : (k : ℕ) → Says (eqb (R.judgement (C.accepted t) m.bytes) 0 && eqb (get_or m.bytes 2 0) k)
      ((R.judgement (C.accepted t) m.bytes ≡ 0) × (get_or m.bytes 2 0 ≡ k))
  kind_at k = both (eqb (R.judgement (C.accepted t) m.bytes) 0) (eqb (get_or m.bytes 2 0) k) (equal _ 0) (equal _ k)

  pub same_tick : Says (C.accepted_as R.is_tick m t) (S.TickAt m t)
  same_tick = kind_at 1

  pub same_restart : Says (C.accepted_as R.is_restart m t) (S.RestartAt m t)
  same_restart = kind_at 9

  -- a tick is no restart
  pub no_restart : S.TickAt m t → S.RestartAt m t → ⊥
  no_restart k r = let z : ◌≡◌ {A = ℕ} 1 9 = sym k.1 ∙ r.1 in omega arith

pub reports : (m : C.Moment) → Says (C.reports m) (S.Reports m)
reports m = same_report m.answer

pub same_before : (t : C.Trace) → C.position_after t ≡ S.position_after t
same_before [] = refl
same_before (m ∷ t) = refl

-- what differs from a last report: whether there is one, its position and its status
pub new_flag : (q : List ℕ) (p s r lp ls : ℕ)
    → Says ((not (eqb r 1) || changed (P.ActPosCOV q) p lp) || not (eqb s ls)) (S.New q p s r lp ls)
new_flag q p s r lp ls = (reason, met)
  where
    reason : (not (eqb r 1) || changed (P.ActPosCOV q) p lp) || not (eqb s ls) ≡ true → S.New q p s r lp ls
    reason e =
        one (not (eqb r 1) || changed (P.ActPosCOV q) p lp) _ e
        (λ e. one (not (eqb r 1)) _ e
        (λ e. S.no_report ((negated (eqb r 1) (equal r 1)).0 e))
        (λ e. S.position_differs ((same_changed _ _ _).0 e)))
        (λ e. S.status_differs ((negated (eqb s ls) (equal s ls)).0 e))

    met : S.New q p s r lp ls → (not (eqb r 1) || changed (P.ActPosCOV q) p lp) || not (eqb s ls) ≡ true
    met (S.no_report h) = rw (ne_eqb r 1 h)
    met (S.position_differs h) = rw ((same_changed (P.ActPosCOV q) p lp).1 h, or-true)
    met (S.status_differs h) = rw (ne_eqb s ls h, or-true)
