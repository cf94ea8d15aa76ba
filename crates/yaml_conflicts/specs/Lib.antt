pub mod Found
pub mod Keys
pub mod Laws
pub mod Merge
pub mod MergedStreams
pub mod Rooms
pub mod Streams
