-- Recordings of a drive's answers, and the audit of them.
pub mod Recording
pub mod Counts
pub mod Told
pub mod Follows
pub mod Theorem
pub mod Own
pub mod Same
pub mod Witnesses
pub mod Wordings
