mod StateLemmas
mod StartLemmas
pub mod FormLemmas
mod KindLemmas
mod NumberLemmas
mod TextLemmas
mod IntLemmas
mod CutLemmas
mod DecimalLemmas
mod ContentForms
mod ResolvedForms
pub mod RunLemmas
mod ResolveLemmas
