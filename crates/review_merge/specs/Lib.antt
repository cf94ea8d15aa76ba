pub mod Judged
pub mod Lines
pub mod Merges
pub mod Parts
pub mod Placed
pub mod Refusals
