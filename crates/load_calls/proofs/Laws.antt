-- The line that is told beside a load that was carried out.
-- Assumes nothing.
use Rattle.std.proofs.Common.{ℕ, ◌≡◌, Ok, Err, List, refl}
use Rattle.std.specs.Prelude.{Result}
use Rattle.machine_record.specs.declared.Machine.{Machine}
use Rattle.header.specs.declared.Refusal.{Refusal}
use Rattle.header.specs.Loading.{loading_of}
use Rattle.load_calls.specs.Loads.{loading_told}

-- With 0 told, it is the answer of the load.
pub told_none : (r : Result Machine (Refusal ℕ)) (words labels : List ℕ) → loading_told 0 r words labels ≡ loading_of r words labels
told_none (Ok m) words labels = refl
told_none (Err r) words labels = refl
