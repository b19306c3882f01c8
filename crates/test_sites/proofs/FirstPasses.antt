-- Passes that a site gave.
use Rattle.std.proofs.Common.{◌≡◌, ℕ, List, Some, slice_get, get_or}
use Rattle.std.specs.Prelude.{All}
use Rattle.std.proofs.lemmas.Option.{slice_get-get_or}
use Rattle.site.specs.declared.site.Site.{Site}
use Rattle.site.specs.Passes.{Spots}
use Rattle.site.specs.Sites.{IsOwn}
use Rattle.site.specs.Beginnings.{IsFirstPass}

pub all_own : {D N : Type 0} (site : Site D N) (passes : List (Spots D N)) → ((k : ℕ) (p : Spots D N) → slice_get passes k ≡ Some p → IsFirstPass site k p)
    → All (λ pass. IsOwn site pass) passes
all_own site passes each k d within = (each k (get_or passes k d) (slice_get-get_or passes k d within)).own
