-- What each event does to each field of a record, that every event keeps a record well formed, and that a percent reads back as itself.
pub mod Effects
pub mod Kept
pub mod Percent
