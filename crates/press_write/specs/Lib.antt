pub mod Emittable
pub mod Reported
