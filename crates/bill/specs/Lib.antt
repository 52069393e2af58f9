-- How a bill is shared out, and that the shares add up to it.
pub mod Sums
pub mod Bill
pub mod Laws
pub mod Rows
pub mod Settle
pub mod Tally
pub mod Counted
