pub mod Page
pub mod Blank
pub mod Read
pub mod Check
