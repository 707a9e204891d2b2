-- What the contracts of inner functions cite, which the public promises don't.
pub mod Breaks
pub mod Release
pub mod Watch
