pub mod Principals
