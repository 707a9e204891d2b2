-- The library's search and the definition look at the bytes from opposite ends.
-- Assumes nothing.
use Rattle.std.proofs.Common.{◌∙◌}
use Rattle.cabinet.proofs.LineFeeds.{any_byte}
use Rattle.cabinet.proofs.names.has_line_feed.Goals as goal

pub returns : goal.returns
returns c = c.contains.ensures.value ∙ any_byte c.args.name.now
