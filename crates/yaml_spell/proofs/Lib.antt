pub mod Streams
pub mod PieceLaws
mod PlainLaws
mod QuotedLaws
mod SpelledLaws
pub mod PageLaws
pub mod RoomLaws
mod PartLaws
pub mod WalkLaws
mod ShortLaws
pub mod ShownLaws
mod ShortWalk
pub mod WriteLaws
mod Anchors
mod Markings
mod Linking
pub mod NamesLaws
pub mod DocumentLaws
