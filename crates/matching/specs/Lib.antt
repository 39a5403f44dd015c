pub mod Steps
pub mod Readings
pub mod Judging
pub mod Ordering
pub mod Alike
pub mod Verdicts
pub mod Judgements
