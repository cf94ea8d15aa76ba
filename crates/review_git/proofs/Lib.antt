pub mod AskedLaws
pub mod BothLaws
pub mod FileLaws
pub mod HeadLaws
pub mod MemoryLaws
pub mod NoneLaws
pub mod PageLaws
mod ShowLaws
pub mod ShownLaws
pub mod WarnLaws
