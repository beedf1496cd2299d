pub mod Crashes
pub mod Examples
pub mod Grows
pub mod Torn
