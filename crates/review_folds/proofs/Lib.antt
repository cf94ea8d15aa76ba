mod FoldLaws
pub mod KeptLaws
mod KeyLaws
mod LabelLaws
mod LeftLaws
mod ListLaws
mod MoveLaws
mod NameLaws
pub mod StepLaws
mod ValueLaws
