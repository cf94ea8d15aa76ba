pub mod Headings
pub mod Html
pub mod Lines
pub mod Marks
pub mod Sides
pub mod Texts
