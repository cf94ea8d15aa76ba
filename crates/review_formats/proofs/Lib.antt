pub mod ChangeLaws
mod EscapeLaws
pub mod PieceLaws
mod SarifLaws
