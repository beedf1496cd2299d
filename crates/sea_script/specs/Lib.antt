pub mod Argument
pub mod Operation
pub mod Reading
pub mod ReadingLines
pub mod Render
pub mod Script
pub mod Table
pub mod Word
