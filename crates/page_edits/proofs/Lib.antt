pub mod Cut
pub mod Back
pub mod One
pub mod Packs
pub mod Kept
pub mod Fronts
pub mod Rest
pub mod Fit
mod Worked
