pub mod Examples
pub mod Lookups
pub mod Making
pub mod Scan
pub mod Undo
pub mod Writes
