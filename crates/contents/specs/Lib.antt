pub mod Blocks
pub mod Test
pub mod Contents
pub mod Laws
