pub mod Lines
pub mod Keys
pub mod NodeRules
pub mod NodeDecisions
pub mod NodeAnswer
pub mod PropertyDecisions
pub mod PropertyPlaces
pub mod NodeLevels
