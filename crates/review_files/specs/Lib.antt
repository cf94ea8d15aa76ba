pub mod Lines
pub mod Named
pub mod Statuses
pub mod Told
