pub mod Fetch
pub mod Step
pub mod Delete
pub mod Store
pub mod Shown
