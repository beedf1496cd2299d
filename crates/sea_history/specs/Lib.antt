pub mod History
pub mod Plan
pub mod Record
