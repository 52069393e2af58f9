-- The drive record of document 01 and what one event does to it.
pub mod Record
pub mod WellFormed
pub mod Tick
pub mod Step
pub mod Laws
pub mod Carry
pub mod CarryLaws
pub mod Closed
