pub mod Folds
pub mod Ignored
pub mod Labels
pub mod Lists
pub mod Moves
