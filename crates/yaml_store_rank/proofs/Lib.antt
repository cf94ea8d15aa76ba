mod FrontParts
mod KeyOrder
mod Firsts
mod Overwriting
mod EqualLaws
mod Settling
mod LevelKeys
mod GroupLaws
mod SlotLaws
pub mod NumberKeyLaws
pub mod NodeLaws
mod KeyLaws
mod Standing
mod Repeating
pub mod StoreOf
pub mod RanksOf
pub mod RanksView
mod TagOrder
pub mod WalkedLaws
pub mod KeyOrderLaws
mod OrderLaws
mod WrittenLaws
pub mod ForestLaws
pub mod ForestTrees
pub mod ArrangedForests
