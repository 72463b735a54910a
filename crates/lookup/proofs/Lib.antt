pub mod Reading
pub mod Looking
