-- A drive arrives at the target of the source that rules, and stays there.
pub mod Arrival
pub mod Laws
pub mod Theorem
pub mod Witnesses
pub mod Wordings
