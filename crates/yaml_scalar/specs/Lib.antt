pub mod Chains
pub mod BlockRules
pub mod BlockModel
pub mod Spelling
