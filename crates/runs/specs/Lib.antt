pub mod Reference
pub mod Performed
pub mod Law
