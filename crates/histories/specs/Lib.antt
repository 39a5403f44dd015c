pub mod Histories
pub mod Processes
pub mod Places
pub mod InForce
pub mod Laws
