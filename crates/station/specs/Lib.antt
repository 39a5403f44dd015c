pub mod Checks
pub mod Stations
pub mod Answers
pub mod Laws
pub mod Decisions
pub mod OpenVolumes
