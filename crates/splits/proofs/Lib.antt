pub mod Finds
pub mod Splits
pub mod Stores
pub mod Rooms
pub mod Sounds
pub mod Plans
pub mod Costs
