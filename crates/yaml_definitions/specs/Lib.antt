pub mod Laws
pub mod canonical
pub mod grammar
pub mod model
