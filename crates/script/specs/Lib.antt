pub mod Growing
pub mod Nodes
pub mod Ordered
pub mod Meaning
pub mod Pushing
