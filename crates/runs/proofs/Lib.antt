pub mod Made
pub mod Quieted
pub mod Walked
pub mod Back
pub mod Each
pub mod Story
pub mod Wrapped
