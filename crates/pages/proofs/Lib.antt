pub mod Held
pub mod Pages
pub mod Looks
