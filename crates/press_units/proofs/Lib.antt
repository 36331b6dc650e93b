pub mod Collects
pub mod Cuttings
