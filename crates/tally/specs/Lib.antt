pub mod Tally
pub mod Said
