pub mod Whole
pub mod InUse
pub mod Shown
pub mod Calls
pub mod After
pub mod Told
