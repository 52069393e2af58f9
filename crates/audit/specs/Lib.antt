-- The audit of a drive's answers, one event record after the other.
pub mod Audit
