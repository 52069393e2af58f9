-- A reading as a host in C or Rust hands it over.
pub mod Host
