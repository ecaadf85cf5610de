pub mod Renaming
pub mod Fitting
pub mod Running
pub mod Loops
pub mod Wholes
