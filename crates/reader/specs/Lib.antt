pub mod Alone
-- What only the contracts of inner functions cite. The other public promises cite the model alone.
pub mod Inner
