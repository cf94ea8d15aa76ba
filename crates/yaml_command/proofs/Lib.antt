pub mod FileLaws
mod EventLaws
mod PageLaws
mod LineLaws
pub mod MessageLaws
mod Answering
