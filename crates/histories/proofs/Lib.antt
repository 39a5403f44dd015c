pub mod Numbers
pub mod Members
pub mod Above
pub mod Deciding
