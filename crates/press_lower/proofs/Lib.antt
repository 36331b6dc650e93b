pub mod Fronts
pub mod Narrowed
pub mod Sounder
pub mod Lowering
