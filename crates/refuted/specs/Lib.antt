-- Wrong drives, refused by the claim of demand 3 or by demand 2; wordings of its sentences that the right drive refutes; readings of the
-- list that a list refutes; wrong counts of the travel; and that the sentences on waits are not empty.
pub mod Events
pub mod Closed
pub mod Wrong
pub mod Sentences
pub mod Refuted
pub mod Wordings
pub mod WrongReadings
pub mod Answers
pub mod Travels
pub mod Witnesses
