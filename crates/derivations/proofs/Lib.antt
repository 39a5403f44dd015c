pub mod Reached
pub mod Readings
pub mod Splitting
pub mod Cutting
pub mod Matchers
pub mod TreeMatchers
pub mod GroupMatchers
pub mod CaseTest
