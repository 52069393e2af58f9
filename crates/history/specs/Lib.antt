-- Demand 3: what is read off a list of events, the claim, and its proof.
pub mod Readings
pub mod Closed
pub mod Log
pub mod Claim
pub mod ReadLaws
pub mod RunLaws
pub mod Agree
pub mod Waits
pub mod Facts
pub mod Theorem
pub mod Standing
pub mod LogLaws
pub mod Travel
