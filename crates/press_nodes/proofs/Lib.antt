pub mod Found
pub mod Lent
pub mod Tables
pub mod Numbers
