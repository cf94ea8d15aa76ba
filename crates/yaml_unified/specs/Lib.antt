pub mod Printed
pub mod Script
pub mod Unified
