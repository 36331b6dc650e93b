pub mod Filled
pub mod Choices
