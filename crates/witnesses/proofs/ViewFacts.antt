-- The tables of views hold: the checker computes them.
-- Assumes nothing.
use mathlib.Core.Path.{◌≡◌, refl}
use mathlib.Core.Bool.{true}
use Rattle.model.specs.Step.{finishes_by, step_by, steps_by, run_to}
use Rattle.model.specs.Listing.{listing_for}
use Rattle.model.specs.Facts.{every}
use Rattle.witnesses.specs.Views.{same_text, list_table, edge_table}
use Rattle.witnesses.proofs.WitnessFacts.{computing}

-- Alike machines list the same, and without each of the provisos two that differ.
pub lists_hold : every list_table ≡ true
unfolding computing finishes_by step_by steps_by run_to listing_for same_text
lists_hold = refl

-- A stall at the tick, a long op, the limit.
pub edges_hold : every edge_table ≡ true
unfolding computing finishes_by step_by steps_by run_to
edges_hold = refl
