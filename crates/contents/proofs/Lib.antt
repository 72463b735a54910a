pub mod Tests
pub mod Joins
pub mod Held
pub mod Walks
