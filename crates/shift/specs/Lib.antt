-- Document 02's shift page.
pub mod Shift
pub mod Laws
pub mod Corners
