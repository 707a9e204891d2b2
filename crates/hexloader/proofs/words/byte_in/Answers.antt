-- `hexloader::words::byte_in` meets its contract.
-- Assumes nothing.
use Rattle.hexloader.proofs.Places.{byte_given}
use Rattle.hexloader.proofs.words.byte_in.Goals as goal

pub returns : goal.returns
returns c = byte_given c.args.places.now c.args.at _ c.requires c.unwrap_or.type_inv c.unwrap_or.ensures
