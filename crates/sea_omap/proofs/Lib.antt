pub mod Chains
pub mod Contents
pub mod Given
pub mod Loops
pub mod Paths
pub mod Stores
