pub mod Unseen
pub mod Lockstep
pub mod Paths
pub mod Trace
pub mod Noninterference
pub mod SteadyView
