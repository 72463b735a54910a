pub mod Rings
pub mod Showing
pub mod Leaving
pub mod Writing
pub mod Claiming
pub mod Flushing
