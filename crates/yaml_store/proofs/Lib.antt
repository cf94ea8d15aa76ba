pub mod Growing
pub mod Parts
pub mod StoreLaws
mod TagParts
mod ContentLaws
