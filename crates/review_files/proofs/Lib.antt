mod LineLaws
pub mod MemoryLaws
mod ToldLaws
