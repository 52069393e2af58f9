-- Proofs: each sentence of W-209's claim at one call of a trace.
use Rattle.std.specs.Prelude.{◌≡◌, refl, ◌↔◌, true, false, [], ◌∷◌, ◌++◌, ℕ, ◌+◌, ◌≤◌, leb, length, take, drop, Float, Option, Some, None, Result, Ok, Err}
use Rattle.std.proofs.Common.{sym, ap, subst, ◌∙◌, arith, add-one, take-append-drop}
use Rattle.std.proofs.lemmas.Bool.{false≢true}
use Rattle.std.proofs.Math.Seq.{drop-append_seam}
use Rattle.std.specs.Float.Ieee.{up, le}
use Rattle.numbers.specs.Laws.{cases}
use Rattle.numbers.specs.Says.{Says, unset, both, at_most, same_flags}
use Rattle.numbers.specs.Counts as Counts
use Rattle.numbers.specs.CountLaws.{quiet_last, since_stretch}
use Rattle.flow.specs.declared.FlowRefusal.{FlowRefusal}
use Rattle.flow.specs.Answer.{FlowAnswer, No, Silent, Report, number_of}
use Rattle.flow.specs.Flow.{is_flow, apart, percent_of, Greatest}
use Rattle.flow.specs.FloatLaws.{below_not}
use Rattle.flow.specs.PercentLaws.{percent_greatest, greatest_unique}
use Rattle.flow.specs.Laws.{Settings, settings, measured_flow, below_cov}
use Rattle.flow_history.specs.Claim as C
use Rattle.flow_history.specs.Claim.{Moment, Trace, Sent, silent, sent}
use Rattle.flow_history.specs.Theorem.{flow_fits, near, silent_in}
use Rattle.sentences_flow.specs.Paper as S
use Rattle.sentences_flow.specs.Floats as Floats
use Rattle.sentences_flow.specs.Counts.{same_unfit, same_fit, same_accepted, refused_reading, same_gives}
use Rattle.sentences_flow.specs.Counts.{carries_is, carries_sent, carries_report, report_carries, same_reports}
use Rattle.sentences_flow.specs.Counts.{ticks_clock, clock_is, one_clock, since_only, since_is, same_last, same_none}

-- ── Numbers ──

-- the number of an answer
pub same_number : (a : FlowAnswer) (n : ℕ) → (number_of a ≡ n) ↔ S.NumberOf a n
same_number a n = (λ e. subst (S.NumberOf a) e (is a), only)
  where
    is : (a : FlowAnswer) → S.NumberOf a (number_of a)
    is (No k) = S.number_no k
    is Silent = S.number_silent
    is (Report x p) = S.number_report x p

    only : {a : FlowAnswer} {n : ℕ} → S.NumberOf a n → number_of a ≡ n
    only (S.number_no k) = refl
    only S.number_silent = refl
    only (S.number_report x p) = refl

-- ── One call after a trace ──

-- the last flow sent is one from 0 to 1,000,000
abbrev pub Known : Trace → Type 0
Known t = (y : Float) → C.last_sent t ≡ sent y → is_flow y ≡ true

module _ (s : C.Settings) (m : Moment) where
  -- a call with a flow has settings that 22 takes, and a flow from 0 to 1,000,000
  flow_settings : (x : Float) → C.flow_in s m ≡ Ok (Some x) → Settings s.nominal s.cov s.time
  flow_settings x f = settings _ _ _ (flow_fits s m x f).0

  pub flow_range : (x : Float) → C.flow_in s m ≡ Ok (Some x) → is_flow x ≡ true
  flow_range x f = measured_flow s.nominal m.reading x (flow_settings x f).nominal (flow_fits s m x f).1

module _ (s : C.Settings) (m : Moment) (t : Trace) where
  -- a call that is no report leaves the last flow sent
  last_kept : C.reports m ≡ false → C.last_sent (m ∷ t) ≡ C.last_sent t
  unfolding C.last_sent
  last_kept q = rw (silent_in m.answer q)

  -- and with an accepted one the ticks since rise
  since_tick : S.Accepted s m → C.reports m ≡ false → C.since s (m ∷ t) ≡ C.since s t + 1
  unfolding Counts.since
  since_tick a q = rw (q, (same_accepted s m t).1 a)

  pub same_spacing : C.Spacing s m t ↔ S.Spacing s m t
  same_spacing = (there, back)
    where
      there : C.Spacing s m t → S.Spacing s m t
      there f i x old c d e r q k j =
          let split : t ≡ take i t ++ (x ∷ old) = sym (take-append-drop i t) ∙ ap (λ u. take i t ++ u) e in
          let l = f (take i t) x old split ((same_reports x).1 r) ((same_reports m).1 q) in
          let n = C.ticks_in s (m ∷ take i t) (x ∷ old) in
          let z : S.Clock s (m ∷ t) (n + c) =
          subst (λ (u : Trace). S.Clock s (m ∷ u) (n + c)) (sym split) (ticks_clock s (m ∷ take i t) (x ∷ old) c k) in
          let o = one_clock s (m ∷ t) (n + c) d z j in
          omega arith

      back : S.Spacing s m t → C.Spacing s m t
      back f between x old e r q =
          let place : drop (length between) t ≡ x ∷ old = ap (drop (length between)) e ∙ drop-append_seam between (x ∷ old) in
          let c = C.ticks_in s (x ∷ old) [] in
          let n = C.ticks_in s (m ∷ between) (x ∷ old) in
          let k = clock_is s (x ∷ old) in
          let z : S.Clock s (m ∷ t) (n + c) = rw e (ticks_clock s (m ∷ between) (x ∷ old) c k) in
          let l = f (length between) x old c (n + c) place ((same_reports x).0 r) ((same_reports m).0 q) k z in
          omega arith

  pub same_content : C.Content s m t ↔ S.Content s m t
  same_content = (there, back)
    where
      there : C.Content s m t → S.Content s m t
      there f x p c = go (f (carries_report c))
        where
          go : C.Carries s m t → S.Gives s m x × S.Percent s.nominal x p
          go z =
              let a : Report x p ≡ Report z.flow z.percent = sym (carries_is c) ∙ z.said in
              let ex : z.flow ≡ x = cc in
              let ep : z.percent ≡ p = cc in
              let g : C.flow_in s m ≡ Ok (Some x) = z.given ∙ ap (λ (y : Float). Ok (Some y)) ex in
              let n = (Floats.same_setting s.nominal).0 (flow_settings s m x g).nominal in
              let w = (Floats.same_flow x).0 (flow_range s m x g) in
              let most : Greatest s.nominal x p = subst (Greatest s.nominal x) ep (rw ex at z.greatest) in
              ((same_gives s m x).0 g, (Floats.same_percent s.nominal x n w p).0 (sym (greatest_unique s.nominal x p most)))

      back : S.Content s m t → C.Content s m t
      back f r = go (report_carries m.answer r)
        where
          go : (x : Float) × (p : ℕ) × S.Carries m.answer x p → C.Carries s m t
          go (x, p, c) =
              let z = f x p c in
              let g = (same_gives s m x).1 z.0 in
              let r = (flow_settings s m x g).nominal in
              let n = (Floats.same_setting s.nominal).0 r in
              let w = flow_range s m x g in
              let e : percent_of s.nominal x ≡ p = (Floats.same_percent s.nominal x n ((Floats.same_flow x).0 w) p).1 z.1 in
              record {
                flow = x;
                percent = p;
                given = g;
                said = carries_is c;
                greatest = subst (Greatest s.nominal x) e (percent_greatest s.nominal r x w);
                last = unfold C.last_sent in rw (carries_sent c);
              }

  -- a call has a flow or none
  pub same_others : C.Others s m t ↔ S.Others s m t
  same_others = (
    λ f r. go (C.flow_in s m) refl f r,
    λ f n. (unset _ (same_reports m)).1 (λ r. let g = f r in n g.0 ((same_gives s m g.0).1 g.1)),
  )
    where
      none : C.Others s m t → S.Reports m → ((x : Float) → C.flow_in s m ≡ Ok (Some x) → ⊥) → (x : Float) × S.Gives s m x
      none f r n = absurd ((unset _ (same_reports m)).0 (f n) r)

      go : (u : Result (Option Float) FlowRefusal) → C.flow_in s m ≡ u → C.Others s m t → S.Reports m → (x : Float) × S.Gives s m x
      go (Ok (Some x)) e f r = (x, (same_gives s m x).0 e)
      go (Ok None) e f r = none f r (λ x q. let z = sym e ∙ q in cc)
      go (Err refusal) e f r = none f r (λ x q. let z = sym e ∙ q in cc)

  pub same_silence : C.Silence s m t ↔ S.Silence s m t
  same_silence = (
    λ f a n. f ((same_accepted s m t).1 a) ((unset _ (same_reports m)).1 n),
    λ f k r. f ((same_accepted s m t).0 k) ((unset _ (same_reports m)).0 r),
  )

  pub same_refusal : C.Refusal s m t ↔ S.Refusal s m t
  same_refusal = (there, back)
    where
      there : C.Refusal s m t → S.Refusal s m t
      there e =
          record {
            by_22 = λ b. (same_number m.answer 22).0 (e ∙ rw ((same_unfit s).1 b));
            by_23 = λ n b.
                (same_number m.answer 23).0 (e ∙ rw ((unset _ (same_accepted s m t)).1 (λ a. a.not_23 b), (same_fit s).1 n));
            by_none = λ a. (same_number m.answer 0).0 (e ∙ rw ((same_accepted s m t).1 a, (same_fit s).1 a.not_22));
          }

      back : S.Refusal s m t → C.Refusal s m t
      back h =
          cases (C.fit s)
          (λ q.
          cases (C.accepted s m t)
          (λ a. (same_number m.answer 0).1 (h.by_none ((same_accepted s m t).0 a)) ∙ sym (rw (a, q)))
          (λ a.
          (same_number m.answer 23).1 (h.by_23 ((same_fit s).0 q) (refused_reading s m t q a)) ∙ sym (rw (a, q))))
          (λ q. (same_number m.answer 22).1 (h.by_22 ((same_unfit s).0 q)) ∙ sym (rw q))

-- Where the last flow sent is one from 0 to 1,000,000.
module _ (s : C.Settings) (m : Moment) (t : Trace) (known : Known t) where
  -- what has to be sent
  same_new : (x : Float) → C.flow_in s m ≡ Ok (Some x) → Says (C.differs s.cov x (C.last_sent t)) (S.New s x t)
  same_new x f = (there (C.last_sent t) refl, back)
    where
      far : (y : Float) → C.last_sent t ≡ sent y → Says (le s.cov (apart x y)) (S.Differs s.cov x y)
      far y e =
          Floats.same_differs s.cov x y ((Floats.same_setting s.cov).0 (flow_settings s m x f).cov)
          ((Floats.same_flow x).0 (flow_range s m x f))
          ((Floats.same_flow y).0 (known y e))

      there : (l : Sent) → C.last_sent t ≡ l → C.differs s.cov x l ≡ true → S.New s x t
      there silent e d = S.none_yet ((same_none t).0 e)
      there (sent y) e d = S.far_from y ((same_last t y).0 e) ((far y e).0 d)

      back : S.New s x t → C.differs s.cov x (C.last_sent t) ≡ true
      back (S.none_yet w) = rw ((same_none t).1 w)
      back (S.far_from y l d) = let e = (same_last t y).1 l in rw e ((far y e).1 d)

  -- "It is due when since has reached the time and one of these holds"
  pub due_at_lem : (x : Float) (n : ℕ) → S.Gives s m x → S.Since s t n → Says (C.due_in s t x) ((s.time ≤ n + 1) × S.New s x t)
  unfolding C.due_in
  due_at_lem x n g k = rw (since_only s k) (both (leb s.time (n + 1)) _ (at_most s.time (n + 1)) (same_new x ((same_gives s m x).1 g)))

  pub same_due : C.Due s m t ↔ S.DueAt s m t
  same_due = (
    λ f x n g k.
        rw add-one at ((same_flags (C.reports m) (C.due_in s t x) (same_reports m) (due_at_lem x n g k)).0 (f x ((same_gives s m x).1 g))),
    λ f x e.
        let g = (same_gives s m x).0 e in
        let n = C.since s t in
        (same_flags (C.reports m) (C.due_in s t x) (same_reports m) (due_at_lem x n g (since_is s t))).1 (rw add-one (f x n g (since_is s t))),
  )

  pub same_waiting : C.Waiting s m t ↔ S.Waiting s m t
  same_waiting = (there, back)
    where
      there : C.Waiting s m t → S.Waiting s m t
      there w x g q n k up new =
          let silent = (unset _ (same_reports m)).1 q in
          let f = (same_gives s m x).1 g in
          let a = since_only s k in
          let b = since_tick s m t g.accepted silent in
          let up' : s.time ≤ C.since s (m ∷ t) = omega arith in
          let row = since_stretch (C.accepted s) C.reported C.never (m ∷ t) s.time up' in
          let z = w row.new row.old x row.split f row.ticks row.quiet in
          let l = rw (last_kept s m t silent) at z.1 in
          false≢true (sym (below_not s.cov (apart x z.0) z.2) ∙ rw l at ((same_new x f).1 new))

      back : S.Waiting s m t → C.Waiting s m t
      back w row old x e f n quiet =
          let p = flow_settings s m x f in
          let pos : 1 ≤ s.time = p.time_least in
          let z = quiet_last (C.accepted s) C.reported C.never m t row old e (rw n pos) quiet in
          let up : s.time ≤ C.since s t + 1 = rw n at z.2 in
          let none = w x ((same_gives s m x).0 f) ((unset _ (same_reports m)).0 z.1) (C.since s t) (since_is s t) (omega arith) in
          let d = (unset _ (same_new x f)).1 none in
          let u = near s.cov x (C.last_sent t) d in (
            u.0,
            last_kept s m t z.1 ∙ u.1,
            below_cov s.cov x u.0 p.cov (flow_range s m x f) (known u.0 u.1) u.2,
          )

  pub same_holds : C.Holds s m t ↔ S.Holds s m t
  same_holds = (
    λ h. record {
      spacing = (same_spacing s m t).0 h.spacing;
      waiting = same_waiting.0 h.waiting;
      content = (same_content s m t).0 h.content;
      due = same_due.0 h.due;
      others = (same_others s m t).0 h.others;
      refusal = (same_refusal s m t).0 h.refusal;
      silence = (same_silence s m t).0 h.silence;
    },
    λ h. record {
      spacing = (same_spacing s m t).1 h.spacing;
      waiting = same_waiting.1 h.waiting;
      content = (same_content s m t).1 h.content;
      due = same_due.1 h.due;
      others = (same_others s m t).1 h.others;
      refusal = (same_refusal s m t).1 h.refusal;
      silence = (same_silence s m t).1 h.silence;
    },
  )
