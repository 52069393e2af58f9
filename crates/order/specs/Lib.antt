-- Who goes before whom in a row: definitions and laws.
pub mod Order
pub mod Laws
pub mod Keys
pub mod Search
