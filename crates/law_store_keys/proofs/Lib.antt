pub mod Repeats
pub mod Refusals
