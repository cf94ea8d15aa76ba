pub mod Lines
pub mod Parts
pub mod LineAnswer
pub mod Rooms
pub mod Overwriting
