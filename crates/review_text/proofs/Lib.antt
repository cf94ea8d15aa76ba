pub mod ForestShapes
pub mod HiddenLaws
mod KeyLaws
mod LineLaws
mod NodeLaws
pub mod OctalLaws
mod PathLaws
pub mod Pieces
mod ShownLaws
mod TagLaws
mod TerminalLaws
