pub mod Trace
pub mod Nodes
pub mod Layout
pub mod Seats
pub mod Trails
pub mod Told
