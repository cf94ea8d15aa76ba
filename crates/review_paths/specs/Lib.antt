pub mod Budget
pub mod Json
pub mod Laws
pub mod Members
pub mod Pasted
pub mod Reading
pub mod Values
