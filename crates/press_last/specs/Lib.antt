pub mod LastUses
