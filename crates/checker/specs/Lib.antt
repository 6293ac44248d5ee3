pub mod Checked
pub mod Judged
