-- Laws of the refusals.
pub mod Numbers
pub mod Order
