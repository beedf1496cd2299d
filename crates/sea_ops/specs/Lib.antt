pub mod Calls
pub mod Executing
pub mod Opening
pub mod Transactions
pub mod WellFormed
