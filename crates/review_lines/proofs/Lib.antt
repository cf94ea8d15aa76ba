mod CompareLaws
mod LineLaws
mod ListLaws
mod SameLaws
mod SideLaws
mod StatLaws
mod StringLaws
pub mod MoveLaws
