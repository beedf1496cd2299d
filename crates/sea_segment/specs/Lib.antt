pub mod Header
pub mod Seal
pub mod State
pub mod Superblock
pub mod Table
