pub mod Dividing
pub mod Lookups
pub mod Changing
