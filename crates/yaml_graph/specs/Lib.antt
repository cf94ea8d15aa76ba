pub mod GraphModel
pub mod GraphView
pub mod JoinModel
pub mod ComposerModel
pub mod Finished
pub mod Composed
