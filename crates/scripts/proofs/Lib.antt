pub mod Cuts
pub mod Numbers
pub mod Sayings
