pub mod Noninterference
pub mod SteadyView
