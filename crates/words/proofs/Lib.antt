pub mod Cutting
pub mod FirstWord
