pub mod Texts
pub mod Escapes
pub mod Plain
pub mod Numbers
pub mod Tags
pub mod Folds
pub mod Scalars
pub mod Stops
