pub mod Bytes
pub mod Write
pub mod Edit
pub mod Laws
pub mod Stay
