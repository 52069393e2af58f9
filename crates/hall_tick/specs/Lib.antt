-- What the code of the hall tick leaves after each turn of its two loops.
pub mod Chosen
