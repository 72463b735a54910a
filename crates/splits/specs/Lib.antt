pub mod Writes
pub mod Plan
pub mod Laws
