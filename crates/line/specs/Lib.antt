-- A printed line of document 01's drive program.
pub mod Text
pub mod Line
pub mod Laws
pub mod Writing
