pub mod Holding
pub mod Refusals
pub mod Laws
pub mod Cases
