-- Wrong definitions of a hall's refusals, turns, answers, ticks, quota, page and bill, each beside an input on which document 02 says
-- otherwise.
pub mod Closed
pub mod Refusals
pub mod Turns
pub mod Ticks
pub mod Pages
pub mod Bills
