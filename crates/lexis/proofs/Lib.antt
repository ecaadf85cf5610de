pub mod LookUps
pub mod Packing
pub mod Values
