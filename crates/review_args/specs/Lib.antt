pub mod Order
pub mod Grammar
pub mod Words
