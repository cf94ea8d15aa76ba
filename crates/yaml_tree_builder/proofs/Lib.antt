pub mod ReachedLaws
mod LevelLaws
pub mod AnchorLaws
pub mod TagLaws
pub mod BuilderLaws
pub mod LogLaws
pub mod AlikeLaws
pub mod NodeLaws
pub mod KeyLaws
pub mod RefusalLaws
pub mod JudgedLaws
mod HighLaws
mod FirstsLaws
