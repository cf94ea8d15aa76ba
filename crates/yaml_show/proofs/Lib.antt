pub mod AlikeLaws
pub mod CheckedJson
pub mod DraftLaws
pub mod FlowLaws
pub mod JoinLaws
pub mod JsonLaws
pub mod LayoutLaws
pub mod SharingLaws
pub mod ShownLaws
pub mod SourceLaws
pub mod StopLaws
mod StreamLaws
