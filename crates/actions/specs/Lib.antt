pub mod Sets
pub mod Maps
