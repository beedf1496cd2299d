pub mod Placings
pub mod Records
