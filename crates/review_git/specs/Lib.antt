pub mod Asked
pub mod Files
pub mod Heads
pub mod Shown
pub mod ShownFiles
pub mod Sides
pub mod Texts
pub mod Unshown
