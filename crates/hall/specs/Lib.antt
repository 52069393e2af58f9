-- A hall of drives: its calls, whom a hall tick sends, the turns of the calls and each drive's share of them.
pub mod Hall
pub mod Quota
pub mod QuotaLaws
pub mod Turns
pub mod Laws
pub mod ListLaws
pub mod OnceLaws
pub mod TickLaws
pub mod EventLaws
pub mod NumberLaws
pub mod Closed
pub mod Corners
pub mod QuotaCorners
