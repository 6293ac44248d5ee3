pub mod Limits
pub mod Entries
pub mod Keys
pub mod Faults
pub mod Clear
