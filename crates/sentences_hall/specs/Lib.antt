-- Document 02's W-201, W-203, W-204, W-205, W-210 and, in a hall, W-207 and W-208 a second time, sentence by sentence, and that the
-- definitions agree with it for every input.
pub mod Paper
pub mod Refused
pub mod Senders
pub mod Turns
pub mod Shared
pub mod Page
pub mod Promised
pub mod Bills
pub mod Sentences
