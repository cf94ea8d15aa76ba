pub mod Rules
pub mod Collections
pub mod OneReading
pub mod Words
pub mod Lengths
pub mod OneEnd
