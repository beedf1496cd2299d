pub mod Examples
pub mod Numbers
pub mod Rendering
pub mod Requests
pub mod Scripts
pub mod Spelling
pub mod Words
