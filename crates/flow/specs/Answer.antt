-- What a call is answered with, and the record that it leaves.
use Rattle.std.specs.Prelude.{ℕ, Bool, true, false, Float, Option, Some, None, Result, Ok, Err}
use Rattle.flow.specs.declared.FlowRefusal.{FlowRefusal}
use Rattle.flow.specs.declared.FlowReport.{FlowReport}
use Rattle.flow.specs.declared.FlowRecord.{FlowRecord}
use Rattle.flow.specs.Refusal.{number}

-- a refusal by its number, silence, or a report, which "carries flow and percent"
pub data FlowAnswer : Type 0 where
  No : ℕ → FlowAnswer
  Silent : FlowAnswer
  Report : Float → ℕ → FlowAnswer

pub record FlowOutcome : Type 0 where
  pub state : FlowRecord
  pub answer : FlowAnswer

-- the paper's number of an answer, 0 where nothing is refused
abbrev pub number_of : FlowAnswer → ℕ
number_of (No n) = n
number_of Silent = 0
number_of (Report x p) = 0

-- whether it is a report
abbrev pub is_report : FlowAnswer → Bool
is_report (No n) = false
is_report Silent = false
is_report (Report x p) = true

-- the answer that the code gives: a report, silence, or a refusal by its number
abbrev pub answered : Result (Option FlowReport) FlowRefusal → FlowAnswer
answered (Ok (Some report)) = Report report.flow report.percent
answered (Ok None) = Silent
answered (Err refusal) = No (number refusal)
