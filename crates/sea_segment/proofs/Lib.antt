pub mod Counts
pub mod Fronts
pub mod Headers
pub mod Seals
pub mod Supers
pub mod Victims
