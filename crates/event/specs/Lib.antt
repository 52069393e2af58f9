-- The event record of document 01: its reader and its writer, and the records of a row of bytes.
pub mod Kinds
pub mod Event
pub mod Laws
pub mod Records
pub mod RecordLaws
