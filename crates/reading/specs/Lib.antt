pub mod Terms
pub mod Stated
pub mod Added
pub mod Blocks
pub mod Scripted
