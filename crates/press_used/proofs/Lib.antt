pub mod Tabled
pub mod Walked
