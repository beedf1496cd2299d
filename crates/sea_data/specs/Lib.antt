pub mod Bytes
pub mod Calls
pub mod Ranges
pub mod Steps
