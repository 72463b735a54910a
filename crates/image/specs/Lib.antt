pub mod Files
pub mod Laws
