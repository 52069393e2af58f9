-- Demand 3, the audit and W-207 a second time, sentence by sentence, and that the definitions agree with it for every trace and audit.
pub mod Paper
pub mod Tests
pub mod Counts
pub mod Holds
pub mod Traces
pub mod Audits
pub mod Recordings
pub mod Arrives
pub mod Sentences
