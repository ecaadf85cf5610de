pub mod Codes
pub mod Table
pub mod Meaning
pub mod Values
