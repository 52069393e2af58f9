-- Document 02's W-209 a second time: the paper, and the page to read.
pub mod Paper
pub mod Floats
pub mod Calls
pub mod Counts
pub mod Holds
pub mod Lists
pub mod Sentences
