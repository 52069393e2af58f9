-- Who was sent at a hall tick, by its numbers, and which of the due drives the code sends.
pub mod Sent
pub mod Choice
pub mod Laws
