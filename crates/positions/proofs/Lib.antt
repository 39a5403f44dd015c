pub mod Digits
pub mod Order
pub mod Least
