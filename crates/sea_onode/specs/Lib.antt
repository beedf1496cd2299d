pub mod Calls
pub mod Onodes
pub mod Order
pub mod Spelling
