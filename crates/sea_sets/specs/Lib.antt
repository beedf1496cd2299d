pub mod Board
pub mod Notes
pub mod Versions
