pub mod Faults
pub mod Laws
pub mod Parts
pub mod Ranges
pub mod Refusals
pub mod Trail
