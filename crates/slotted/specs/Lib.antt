pub mod Bytes
pub mod Table
pub mod Records
pub mod Image
pub mod Account
