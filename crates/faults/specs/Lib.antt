pub mod Numbers
pub mod Answers
pub mod Printed
pub mod Lawful
