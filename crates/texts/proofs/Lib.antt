-- The laws by subject: a text and its lines, what an accepted text allows, numbers and lines as they are written and read
-- back, the listing, and what the programs print.
pub mod Text
mod Pieces
pub mod Lines
pub mod Hex
pub mod Records
pub mod Ranges
pub mod Storable
pub mod Kept
pub mod Decimal
pub mod Fields
pub mod ReadBack
pub mod Listing
pub mod Bound
pub mod Buffer
pub mod Fresh
