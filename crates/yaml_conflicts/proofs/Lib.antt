pub mod ExistLaws
pub mod KeyLaws
pub mod MergedLaws
pub mod NodeLaws
pub mod RuleLaws
pub mod ShownLaws
pub mod StreamLaws
pub mod WalkLaws
