pub mod Low
pub mod Bits
pub mod Lookups
pub mod Leaves
pub mod Splits
