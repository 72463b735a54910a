pub mod Hash
pub mod Print
pub mod Same
