-- The bill of a hall, what is promised of it, and what the code of the call leaves after each turn of its loop.
pub mod HallBill
pub mod Laws
pub mod Closed
pub mod Corners
pub mod Turns
