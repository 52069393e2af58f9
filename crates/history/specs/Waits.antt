-- On any trace, spacing follows from when a tick may report and from the silence of other events, waiting from when a tick must.
use Rattle.std.specs.Prelude.{◌≡◌, refl, false, List, ◌∷◌, ◌++◌, ℕ, ◌+◌, ◌≤◌, leb}
use Rattle.std.proofs.Common.{sym, ◌∙◌, arith, leb-true, le-leb, eqb-true}
use Rattle.std.proofs.lemmas.Bool.{false≢true}
use Rattle.numbers.specs.Laws.{cases, and_left, or_left, or_right, not_false}
use Rattle.numbers.specs.CountLaws.{report_apart, quiet_last}
use Rattle.table.specs.Table.{min_rep_time, act_pos_cov}
use Rattle.rules.specs.Report.{changed, Sent, silent, sent, differs, report_due}
use Rattle.answer.specs.declared.Answer.{Answer}
use Rattle.answer.specs.declared.Answer.TheVariants.{No, Done, Par, At, Tick, Report}
use Rattle.answer.specs.Answer.{is_report}
use Rattle.history.specs.Readings as R
use Rattle.history.specs.Claim as C

pub spacing : (m : C.Moment) (t : C.Trace) → C.OnlyDue m t → C.Others m t → C.Spacing m t
unfolding report_due
spacing m t only others between x old e r q =
    cases (C.accepted_as R.is_tick m t)
    (λ k.
    let l : min_rep_time (C.in_force m t) ≤ C.since t + 1 = leb-true _ _ (and_left (leb (min_rep_time (C.in_force m t)) (C.since t + 1)) _ (only k q)) in
    let n = report_apart (C.accepted_as R.is_tick) (λ y u. C.reports y) (C.accepted_as R.is_restart) m x t between old e r k in
    omega arith)
    (λ k. absurd (false≢true (sym (others k).1 ∙ q)))

-- where nothing differs there is a last report, of that status and near that position
pub same_sent : (cov p s : ℕ) (x : Sent) → differs cov p s x ≡ false → (r : ℕ) × (x ≡ sent r s) × (changed cov p r ≡ false)
same_sent cov p s silent e = absurd (false≢true (sym e))
same_sent cov p s (sent r v) e =
    let same = eqb-true s v (not_false _ (or_right (changed cov p r) _ e)) in
    (r, rw same, or_left (changed cov p r) _ e)

-- what is not due though the time is up has a last report from which nothing differs
undue : (q : List ℕ) (n p s : ℕ) (x : Sent) → min_rep_time q ≤ n → report_due q n p s x ≡ false
    → (r : ℕ) × (x ≡ sent r s) × (changed (act_pos_cov q) p r ≡ false)
unfolding report_due
undue q n p s x l e = same_sent _ p s x (or_left (differs (act_pos_cov q) p s x) _ (rw (le-leb _ _ l) at e))

pub silent_in : (a : Answer) → is_report a ≡ false → C.report_in a ≡ silent
silent_in (No n) e = refl
silent_in Done e = refl
silent_in (Par v) e = refl
silent_in (At p c s) e = refl
silent_in (Tick p r m) e = refl
silent_in (Report p r m s) e = absurd (false≢true (sym e))

-- the last record of a row without restart and report is neither, and the ticks of the row count for step 4
row_last : (m : C.Moment) (t row old : C.Trace) → m ∷ t ≡ row ++ old → 1 ≤ C.ticks_in row old → C.Quiet old row
    → (C.accepted_as R.is_restart m t ≡ false) × (C.reports m ≡ false) × (C.ticks_in row old ≤ C.since t + 1)
row_last = quiet_last (C.accepted_as R.is_tick) (λ y u. C.reports y) (C.accepted_as R.is_restart)

-- where step 4 would not report though the ticks have passed, there is a last report, and nothing differs from it
pub waiting_undue : (m : C.Moment) (t : C.Trace) → 1 ≤ min_rep_time (C.in_force m t) → C.due_in m t ≡ false → C.Waiting m t
unfolding C.last_report
waiting_undue m t pos not_due row old e k n q =
    let z = row_last m t row old e (rw n pos) q in
    let up : min_rep_time (C.in_force m t) ≤ C.since t + 1 = rw n at z.2 in
    let u = undue _ (C.since t + 1) _ _ (C.last_report t) up not_due in
    (u.0, rw (z.0, silent_in m.answer z.1) u.1, u.2)

-- a tick that reports just where it is due, and did not report, was not due
pub waiting : (m : C.Moment) (t : C.Trace) → C.Due m t → 1 ≤ min_rep_time (C.in_force m t) → C.Waiting m t
waiting m t due pos row old e k n q =
    waiting_undue m t pos (sym (due k) ∙ (row_last m t row old e (rw n pos) q).1) row old e k n q
