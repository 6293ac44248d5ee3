pub mod Bundles
pub mod Accepted
