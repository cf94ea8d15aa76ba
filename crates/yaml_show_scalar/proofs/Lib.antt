pub mod EscapeLaws
pub mod FoldLaws
pub mod NumberLaws
pub mod ScalarLaws
pub mod TagLaws
pub mod TextLaws
pub mod StopLaws
