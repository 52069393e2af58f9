-- The parameter table of document 01.
pub mod Table
pub mod Laws
