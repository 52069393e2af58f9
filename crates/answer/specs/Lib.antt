-- What an event is answered with.
pub mod Answer
pub mod Refusal
pub mod Laws
