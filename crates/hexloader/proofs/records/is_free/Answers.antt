-- `hexloader::records::is_free` meets its contract: behind the end no place is free.
-- Assumes nothing.
use mathlib.Core.Path.{◌∙◌}
use lib.ListN.{length}
use borrow.Author.Tests.{le-ltb}
use Rattle.hexloader.proofs.Places.{free_at, none_free}
use Rattle.hexloader.proofs.records.is_free.Goals as goal

pub returns-then-at-places : goal.returns-then-at-places
returns-then-at-places c = free_at c.args.places.now c.args.at _ c.if-at-places.true c.is_none.ensures

pub returns-else-at-places : goal.returns-else-at-places
returns-else-at-places c =
    le-ltb c.args.at (length c.args.places.now) c.if-at-places.false ∙ none_free c.args.places.now c.args.at c.if-at-places.false
