pub mod Names
pub mod Blocks
pub mod Verdicts
pub mod Breaking
