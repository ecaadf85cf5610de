pub mod Levels
pub mod Cells
pub mod Steps
pub mod Breaches
pub mod Faults
