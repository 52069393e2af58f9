-- The claim, of every list of readings to a record that was fresh at first.
use Rattle.std.specs.Prelude.{◌≡◌, Bool, ◌&&◌, ◌+◌, ◌≤◌, Float, Option, Some, None, Result, Ok, Err}
use Rattle.std.proofs.Math.Path.{refl, sym, ap, subst}
use Rattle.std.proofs.Common.{◌∙◌}
use Rattle.std.proofs.Math.Bool.{true, false}
use Rattle.std.proofs.lemmas.Bool.{false≢true}
use mathlib.Core.List.{List, [], ◌∷◌}
use native.Mathlib.Omega.{arith}
use Rattle.std.proofs.Math.Dec.{leb}
use Rattle.std.specs.Float.Ieee.{le}
use borrow.Author.Tests.{leb-true, le-leb}
use Rattle.numbers.specs.Numbers.{pick}
use Rattle.numbers.specs.Laws.{cases, and_left}
use Rattle.numbers.specs.Counts as Counts
use Rattle.numbers.specs.CountLaws.{report_apart, quiet_last}
use Rattle.flow.specs.declared.Reading.{Reading}
use Rattle.flow.specs.declared.FlowRefusal.{FlowRefusal}
use Rattle.flow.specs.declared.FlowRefusal.TheVariants as By
use Rattle.flow.specs.declared.FlowRecord.{FlowRecord}
use Rattle.flow.specs.Refusal.{number}
use Rattle.flow.specs.Answer.{FlowAnswer, No, Silent, Report, number_of, is_report}
use Rattle.flow.specs.Flow.{is_flow, measured, apart, percent_of, hear_of}
use Rattle.flow.specs.PercentLaws.{percent_greatest}
use Rattle.flow.specs.Laws.{zero_flow, settings, refused_by_23, measured_flow, below_cov}
use Rattle.flow_history.specs.Claim as C
use Rattle.flow_history.specs.Claim.{Settings, Moment, moment, Trace, Sent, silent, sent}
use Rattle.flow_history.specs.Steps.{IsFlow, answer_by, stands, answered, flow_kept}

-- a call has a flow where 22 takes the settings and the reading gives it
pub flow_fits : (s : Settings) (m : Moment) (x : Float) → C.flow_in s m ≡ Ok (Some x)
    → (C.fit s ≡ true) × (measured s.nominal m.reading ≡ Ok (Some x))
flow_fits s m x f = cases (C.fit s) (λ e. (e, rw e at f)) (λ e. let g = rw e at f in cc)

-- where nothing differs a flow was sent
pub near : (cov x : Float) (l : Sent) → C.differs cov x l ≡ false → (y : Float) × (l ≡ sent y) × (le cov (apart x y) ≡ false)
near cov x silent d = absurd (false≢true (sym d))
near cov x (sent y) d = (y, refl, d)

-- what is no report sends nothing
pub silent_in : (a : FlowAnswer) → is_report a ≡ false → C.sent_in a ≡ silent
silent_in (No n) r = refl
silent_in Silent r = refl
silent_in (Report x p) r = absurd (false≢true (sym r))

-- Of a call whose answer is the one read off the list.
module _ (s : Settings) (m : Moment) (t : Trace) where
  -- which of the three a reading is
  by_flow : {A : Type 0} (f : Result (Option Float) FlowRefusal) → ((x : Float) → f ≡ Ok (Some x) → A) → (f ≡ Ok None → A)
      → ((refusal : FlowRefusal) → f ≡ Err refusal → A) → A
  by_flow (Ok (Some x)) a b c = a x refl
  by_flow (Ok None) a b c = b refl
  by_flow (Err refusal) a b c = c refusal refl

  module _ (e : m.answer ≡ pick (C.fit s) (answer_by s t (C.flow_in s m)) (No 22)) where
    answer_at : (x : Float) → C.flow_in s m ≡ Ok (Some x) → m.answer ≡ pick (C.due_in s t x) (Report x (percent_of s.nominal x)) Silent
    answer_at x f = e ∙ ap (λ (b : Bool). pick b (answer_by s t (C.flow_in s m)) (No 22)) (flow_fits s m x f).0 ∙ ap (answer_by s t) f

    due : C.Due s m t
    due x f = ap is_report (answer_at x f) ∙ go (C.due_in s t x)
      where
        go : (b : Bool) → is_report (pick b (Report x (percent_of s.nominal x)) Silent) ≡ b
        go true = refl
        go false = refl

    -- no flow, no report
    answer_else : (f : Result (Option Float) FlowRefusal) → C.flow_in s m ≡ f → m.answer ≡ pick (C.fit s) (answer_by s t f) (No 22)
    answer_else f g = e ∙ ap (λ (u : Result (Option Float) FlowRefusal). pick (C.fit s) (answer_by s t u) (No 22)) g

    unsent : (b : Bool) (a : FlowAnswer) → is_report a ≡ false → is_report (pick b a (No 22)) ≡ false
    unsent true a r = r
    unsent false a r = refl

    nothing_silent : C.flow_in s m ≡ Ok None → C.reports m ≡ false
    nothing_silent f = ap is_report (answer_else (Ok None) f) ∙ unsent (C.fit s) Silent refl

    refused_silent : (refusal : FlowRefusal) → C.flow_in s m ≡ Err refusal → C.reports m ≡ false
    refused_silent refusal f = ap is_report (answer_else (Err refusal) f) ∙ unsent (C.fit s) (No (number refusal)) refl

    others : C.Others s m t
    others h = by_flow (C.flow_in s m) (λ x f. absurd (h x f)) nothing_silent refused_silent

    refusal : C.Refusal s m t
    refusal =
        by_flow (C.flow_in s m)
        (λ x f. ap number_of (answer_at x f) ∙ go x (C.due_in s t x) ∙ sym (rw ((flow_fits s m x f).0, (flow_fits s m x f).1)))
        (λ f. ap number_of (answer_else (Ok None) f) ∙ numbered (C.fit s) Silent ∙ sym (rw f))
        (λ refusal f.
        ap number_of (answer_else (Err refusal) f) ∙ numbered (C.fit s) (No (number refusal))
        ∙ by_23 (C.fit s) refusal (λ q. refused_by_23 _ _ _ (rw q at f))
        ∙ sym (rw f))
      where
        go : (x : Float) (b : Bool) → number_of (pick b (Report x (percent_of s.nominal x)) Silent) ≡ 0
        go x true = refl
        go x false = refl

        numbered : (b : Bool) (a : FlowAnswer) → number_of (pick b a (No 22)) ≡ pick b (number_of a) 22
        numbered true a = refl
        numbered false a = refl

        by_23 : (b : Bool) (refusal : FlowRefusal) → (b ≡ true → refusal ≡ By.Reading) → pick b (number refusal) 22 ≡ pick b 23 22
        by_23 true refusal h = ap number (h refl)
        by_23 false refusal h = refl

    silence : C.Silence s m t
    silence k r =
        by_flow (C.flow_in s m)
        (λ x f. answer_at x f ∙ ap (λ (b : Bool). pick b (Report x (percent_of s.nominal x)) Silent) (sym (due x f) ∙ r))
        (λ f. answer_else (Ok None) f ∙ rw fits)
        (λ refusal f. absurd (false≢true (sym (ap C.taken f) ∙ k)))
      where
        fits : C.fit s ≡ true
        fits = cases (C.fit s) (λ e. e) (λ e. absurd (false≢true (rw e at k)))

    -- a call that reports has a flow, which is due
    sent_flow : C.reports m ≡ true → (x : Float) × (C.flow_in s m ≡ Ok (Some x)) × (C.due_in s t x ≡ true)
    sent_flow r =
        by_flow (C.flow_in s m)
        (λ x f. (x, f, sym (due x f) ∙ r))
        (λ f. absurd (false≢true (sym (nothing_silent f) ∙ r)))
        (λ refusal f. absurd (false≢true (sym (refused_silent refusal f) ∙ r)))

    content : C.Content s m t
    unfolding C.last_sent
    content r =
        let z = sent_flow r in
        let a : m.answer ≡ Report z.0 (percent_of s.nominal z.0) = answer_at z.0 z.1 ∙ rw z.2 refl in
        let k = flow_fits s m z.0 z.1 in
        let n = (settings _ _ _ k.0).nominal in
        record {
          flow = z.0;
          percent = percent_of s.nominal z.0;
          given = z.1;
          said = a;
          greatest = percent_greatest s.nominal n z.0 (measured_flow s.nominal m.reading z.0 n k.1);
          last = ap (λ (b : FlowAnswer). C.or_earlier (C.sent_in b) (C.last_sent t)) a;
        }

    spacing : C.Spacing s m t
    unfolding C.due_in
    spacing between x old q r r' =
        let z = sent_flow r' in
        let l : s.time ≤ C.since s t + 1 = leb-true _ _ (and_left (leb s.time (C.since s t + 1)) _ z.2) in
        let k : C.accepted s m t ≡ true = ap C.taken z.1 in
        let n = report_apart (C.accepted s) C.reported C.never m x t between old q r k in
        omega arith

    waiting : IsFlow (C.last_sent t) → C.Waiting s m t
    unfolding C.due_in C.last_sent
    waiting w row old x q f n quiet =
        let k = flow_fits s m x f in
        let p = settings _ _ _ k.0 in
        let pos : 1 ≤ s.time = p.time_least in
        let z = quiet_last (C.accepted s) C.reported C.never m t row old q (rw n pos) quiet in
        let up : s.time ≤ C.since s t + 1 = rw n at z.2 in
        let d : leb s.time (C.since s t + 1) && C.differs s.cov x (C.last_sent t) ≡ false = sym (due x f) ∙ z.1 in
        let u = near s.cov x (C.last_sent t) (rw (le-leb _ _ up) at d) in
        let fy : is_flow u.0 ≡ true = subst (λ (l : Sent). is_flow (C.flow_of l) ≡ true) u.1 w in
        let fx : is_flow x ≡ true = measured_flow s.nominal m.reading x p.nominal k.1 in
        (u.0, rw (silent_in m.answer z.1) u.1, below_cov s.cov x u.0 p.cov fx fy u.2)

    pub holds : IsFlow (C.last_sent t) → C.Holds s m t
    holds w = record { spacing = spacing; waiting = waiting w; content = content; due = due; others = others; refusal = refusal; silence = silence }

module _ (s : Settings) where
  -- what holds of any record that agrees with a trace, along a list
  claims : (l : List Reading) (t : Trace) → IsFlow (C.last_sent t) → C.Claim s t → C.Claim s (C.trace_on hear_of (C.standing s t) t l)
  unfolding C.trace_on
  claims [] t f c = c
  claims (got ∷ l) t f c =
      let m = moment got (hear_of (C.standing s t) got).answer in
      subst (λ (r : FlowRecord). C.Claim s (C.trace_on hear_of r (m ∷ t) l)) (sym (stands s t f got))
      (claims l (m ∷ t) (flow_kept s t f got) (holds s m t (answered s t f got) f, c))

  -- "A fresh record has since 0, nothing sent and 0 as last flow."
  fresh_stands : C.fresh_of s ≡ C.standing s []
  unfolding C.last_sent Counts.since
  fresh_stands = refl

  none_sent : IsFlow (C.last_sent [])
  unfolding C.last_sent
  none_sent = zero_flow

  -- The claim holds of every list of readings, refused ones among them, to every fresh record.
  pub flow_claim : (l : List Reading) → C.Claim s (C.trace_of hear_of s l)
  flow_claim l = subst (λ (r : FlowRecord). C.Claim s (C.trace_on hear_of r [] l)) (sym fresh_stands) (claims l [] none_sent tt)

  stood : (l : List Reading) (t : Trace) → IsFlow (C.last_sent t)
      → C.record_on hear_of (C.standing s t) l ≡ C.standing s (C.trace_on hear_of (C.standing s t) t l)
  unfolding C.trace_on C.record_on
  stood [] t f = refl
  stood (got ∷ l) t f =
      let m = moment got (hear_of (C.standing s t) got).answer in
      subst (λ (r : FlowRecord). C.record_on hear_of r l ≡ C.standing s (C.trace_on hear_of r (m ∷ t) l)) (sym (stands s t f got))
      (stood l (m ∷ t) (flow_kept s t f got))

  -- The record that a list leaves is the one read off the list: the last flow sent, whether any was, and the accepted calls since.
  pub flow_standing : (l : List Reading) → C.record_on hear_of (C.fresh_of s) l ≡ C.standing s (C.trace_of hear_of s l)
  flow_standing l =
      subst (λ (r : FlowRecord). C.record_on hear_of r l ≡ C.standing s (C.trace_on hear_of r [] l)) (sym fresh_stands) (stood l [] none_sent)
