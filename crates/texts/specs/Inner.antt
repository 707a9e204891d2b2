-- Definitions that no public promise cites.
pub mod Storable
pub mod Sight
