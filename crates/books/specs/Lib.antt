pub mod Tables
pub mod Copies
pub mod Divided
pub mod Groups
pub mod Changes
