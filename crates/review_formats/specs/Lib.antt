pub mod Changes
pub mod Escaped
pub mod Findings
pub mod Github
pub mod LeftOut
pub mod Markdown
pub mod Pieces
pub mod Sarif
