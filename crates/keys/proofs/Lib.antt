pub mod Prints
pub mod Sames
