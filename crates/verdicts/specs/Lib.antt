-- What only the contracts of inner functions cite. The public promises cite the model alone.
pub mod Inner
