pub mod BlockRules
pub mod BlockEnds
pub mod OuterRules
pub mod KeyFits
pub mod BlockCalls
pub mod DocumentCalls
