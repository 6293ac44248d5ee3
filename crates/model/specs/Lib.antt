pub mod Actions
pub mod Graphs
pub mod Automata
pub mod Lists
pub mod Runs
