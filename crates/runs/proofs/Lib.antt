pub mod Writing
pub mod Images
pub mod Reaching
pub mod Closing
