pub mod Rows
pub mod Lots
pub mod Tables
pub mod Stores
pub mod Promises
