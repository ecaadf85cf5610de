pub mod Grown
pub mod Order
mod Pushes
mod Places
