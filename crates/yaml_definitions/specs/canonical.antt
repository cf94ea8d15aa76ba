pub mod Block
pub mod CharText
pub mod NodeText
pub mod Serialize
pub mod Spell
pub mod TagText
pub mod Walk
