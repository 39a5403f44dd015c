pub mod Derives
pub mod References
pub mod Cases
