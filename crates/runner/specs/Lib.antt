pub mod Names
pub mod Values
pub mod Standing
pub mod Turns
pub mod Whole
