pub mod Answer
pub mod Held
pub mod Objects
pub mod Op
pub mod Refusal
pub mod Request
pub mod Undo
