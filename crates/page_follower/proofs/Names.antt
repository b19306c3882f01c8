-- What a taker keeps, it keeps through all records.
use Rattle.std.proofs.Common.{◌≡◌, ◌∙◌, ℕ, List, [], ◌∷◌, ap}
use Rattle.shelf.specs.PageJournal.Taken.{TakesAll}

-- what each record keeps, all keep
pub kept_by_all : {C N : Type 0} (name : C → N) (takes : C → ℕ → List ℕ → C → Type 0)
    → ((old new : C) (place : ℕ) (body : List ℕ) → takes old place body new → name new ≡ name old)
    → (bodies : List (List ℕ)) (place : ℕ) (old new : C) → TakesAll takes old place bodies new → name new ≡ name old
kept_by_all name takes step [] place old new taken = ap name taken
kept_by_all name takes step (body ∷ bodies) place old new taken =
    kept_by_all name takes step bodies _ taken.0 new taken.2 ∙ step old taken.0 place body taken.1
