-- What a host in C or Rust is handed.
pub mod Host
