pub mod LastUses
pub mod Joined
pub mod Noting
