pub mod Ration
