pub mod Peaks
pub mod Peaking
