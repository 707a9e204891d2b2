-- Labels of registers turned into restrictions.
pub mod Turned
-- What an op on registers does.
pub mod Turns
-- The ticks of a common op.
pub mod Ticks
