pub mod Tree
pub mod Ending
pub mod Laws
