pub mod Slices
pub mod Marks
pub mod Outlines
pub mod Dotted
pub mod Tables
pub mod Texts
