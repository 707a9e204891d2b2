pub mod Fired
pub mod InTurn
