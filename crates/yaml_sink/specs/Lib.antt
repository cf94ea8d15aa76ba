pub mod Held
pub mod PropertyRules
pub mod ListModel
pub mod SinkModel
