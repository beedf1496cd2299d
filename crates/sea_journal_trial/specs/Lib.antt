pub mod Bodies
pub mod Untold
