pub mod Addresses
pub mod Entries
pub mod EntryLaws
pub mod Header
pub mod Parts
pub mod Record
