mod LineLaws
mod SlotLaws
mod StartLaws
pub mod Reading
