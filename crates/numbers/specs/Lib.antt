-- Small functions on numbers and flags, tests of the places of a row, counts along a list, what holds of
-- every member of one, and their laws.
pub mod Numbers
pub mod Laws
pub mod FlagLaws
pub mod Says
pub mod Places
pub mod PlaceLaws
pub mod Counts
pub mod CountLaws
pub mod Every
