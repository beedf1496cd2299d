pub mod BlockEdit
pub mod Entries
pub mod Leap
pub mod Lookup
pub mod Node
pub mod Reading
