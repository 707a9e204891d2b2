pub mod Pace
pub mod Fitting
pub mod SetsLabel
