pub mod HandlesModel
pub mod Classes
pub mod Parts
pub mod DirectiveParts
pub mod PrefixModel
pub mod Prefixes
pub mod MarkFaults
