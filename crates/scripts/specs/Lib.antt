pub mod Understood
pub mod Numbers
pub mod Lines
