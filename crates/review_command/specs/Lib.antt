pub mod Commands
pub mod Diffs
pub mod Environment
pub mod Gits
pub mod Rejections
pub mod Runs
