pub mod Hinted
pub mod Hints
