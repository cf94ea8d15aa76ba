mod ForestLaws
mod RefusedLaws
mod RootRanks
mod Measuring
pub mod SpelledLaws
mod BothLaws
pub mod ClaimLaws
mod PlacedLaws
mod AcceptLaws
mod PlaceLaws
pub mod CompareLaws
mod AcceptBoth
mod RankLaws
mod KeyLaws
mod SideLaws
mod TargetLaws
mod RunLaws
pub mod StreamLaws
mod StreamEnds
