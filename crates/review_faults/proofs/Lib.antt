pub mod AgainLaws
mod CauseLaws
pub mod FormLaws
mod KeyLaws
mod LabelLaws
mod NoJsonLaws
mod SpotLaws
pub mod WarnLaws
