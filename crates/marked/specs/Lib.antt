-- The marked rows of document 01, and rows of our own beside them.
pub mod Rows
pub mod OwnRows
