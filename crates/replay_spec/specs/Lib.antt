pub mod Slots
pub mod Step
pub mod Steps
pub mod Replay
pub mod Refused
