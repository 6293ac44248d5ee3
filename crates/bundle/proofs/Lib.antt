mod Chaining
mod Framing
pub mod Accepting
