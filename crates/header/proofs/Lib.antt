-- The verdict on the first line of a text, what an accepted one has, and that the answer of a load forgets nothing.
pub mod Heading
pub mod Room
pub mod Faithful
