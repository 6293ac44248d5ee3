pub mod Keyed
pub mod Listed
pub mod Turns
pub mod Checks
pub mod Found
