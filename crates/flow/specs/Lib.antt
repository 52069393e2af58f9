-- A flow box (document 02, W-209), over the library's account of IEEE 754: definitions and their laws.
pub mod Refusal
pub mod Answer
pub mod Flow
pub mod Literals
pub mod FloatLaws
pub mod PercentLaws
pub mod Laws
pub mod Closed
pub mod Witnesses
