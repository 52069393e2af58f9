-- What document 01 reads off the list of events, a second time and sentence by sentence, and that the definitions agree with it.
pub mod Paper
pub mod Latest
pub mod Values
pub mod Runs
pub mod Judging
pub mod Moves
pub mod Accepts
pub mod Logs
pub mod Sentences
