pub mod Witness
pub mod Certificates
pub mod Releases
pub mod Views
