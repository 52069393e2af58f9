-- Document 01's rules over plain numbers and flags, so that a drive record and a list of events can both supply them.
pub mod Commands
pub mod CommandsLaws
pub mod Rank
pub mod RankLaws
pub mod TargetLaws
pub mod Report
pub mod ReportLaws
pub mod Refusal
pub mod RefusalLaws
