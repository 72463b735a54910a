pub mod Reads
pub mod Made
pub mod Pages
