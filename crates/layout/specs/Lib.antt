pub mod Pairs
pub mod Tables
pub mod Plans
