-- Wrong flow boxes, that the claim about a list of readings refuses each; wrong wordings of it, that the flow box refuses each; and lists
-- on which it has something to say.
pub mod Wrong
pub mod Refuted
pub mod Wordings
pub mod Witnesses
