pub mod Examples
pub mod Onodes
pub mod Order
pub mod Saving
pub mod Spelling
