-- The refusals, their numbers, and the order in which tests are tried.
pub mod Causes
pub mod Tests
