pub mod FlowEnds
pub mod Depth
pub mod Laws
pub mod GoingOn
