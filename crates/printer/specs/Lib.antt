-- The printed lines of a row of event records.
pub mod Page
pub mod Laws
pub mod Pieces
pub mod Session
pub mod SessionLaws
