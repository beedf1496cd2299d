pub mod Answer
pub mod Objects
pub mod Op
pub mod Refusal
pub mod Request
pub mod Scan
pub mod Undo
