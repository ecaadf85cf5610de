pub mod Names
pub mod Outcomes
