-- What the contracts of inner functions cite, which the public promise doesn't.
pub mod Deciding
