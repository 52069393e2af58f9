-- A drive carried over a row of event records.
pub mod Laws
pub mod Replay
