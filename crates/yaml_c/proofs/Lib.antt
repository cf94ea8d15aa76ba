pub mod PositionLaws
pub mod ValuesLaws
