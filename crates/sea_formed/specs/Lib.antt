pub mod Blocks
pub mod Held
pub mod Place
pub mod Shares
pub mod Trees
pub mod Wrong
