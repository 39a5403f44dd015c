pub mod Relations
pub mod Rows
pub mod Runs
