pub mod RangeLaws
mod StreamLaws
mod ValueLaws
