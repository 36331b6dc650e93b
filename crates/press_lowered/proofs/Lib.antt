pub mod Searched
pub mod Tabled
