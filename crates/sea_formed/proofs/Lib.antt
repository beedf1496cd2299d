pub mod Far
pub mod Filled
pub mod Gathered
pub mod Named
pub mod Placed
pub mod Refuted
pub mod Walks
pub mod WellFormed
