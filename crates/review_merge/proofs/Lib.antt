mod BorderLaws
pub mod JudgeLaws
mod LineLaws
mod PartLaws
mod PlaceLaws
pub mod RefusalLaws
mod SeatLaws
mod TextLaws
