-- What a worker does with the links of its porch.
use Rattle.std.specs.Prelude.{◌≡◌, ◌+◌, ◌++◌, ◌⊎◌, ◌∷◌, [], ⊤, ℕ, List, length, Option, Some, None, ◌≤◌}
use Rattle.web_outside.specs.Causes.{Rose}
use Rattle.web_outside.specs.View.{LinkView, PorchView}
use Rattle.http_forms.specs.Passes.{PassRules}
use Rattle.request_workers.specs.Linking.{Visited, Linked}
use Rattle.request_workers.specs.declared.link.LinkEnd.{LinkEnd}
use Rattle.request_workers.specs.Counting.{Count, nothing, both, link_count}
use Rattle.web_outside.specs.Porches.{LosesFirst, GainsLast}
use Rattle.request_workers.specs.declared.worker.Turn.{Turn}
use Rattle.request_workers.specs.declared.worker.Turn.TheVariants as turns
use Rattle.request_workers.specs.declared.tally.WorkEnd.{WorkEnd}
use Rattle.request_workers.specs.declared.tally.WorkEnd.TheVariants as ends

-- one link: its requests were visited, so many at most, each after a tick, and are counted
pub record Turns {P L : Type 0} (rules : PassRules P) (view : L → LinkView) (shown : Option ℕ) (requests : ℕ)
    (before after : P) (given back : L) (count : Count) : Type 0 where
  pub visited : Visited
  pub end : LinkEnd
  pub linked : Linked rules shown requests before after [] (view given) (view back) visited end
  pub few : visited.pages + visited.refused ≤ 1000
  pub number : count ≡ link_count visited end

-- the links in their order, as they were given and as they were handed back, and what they count together
abbrev pub Works : {P L : Type 0} → PassRules P → (L → LinkView) → (shown : Option ℕ) → (requests : ℕ)
    → (before after : P) (given back : List L) → Count → Type 0
Works rules view shown requests before after [] [] count = (after ≡ before) × (count ≡ nothing)
Works {P} rules view shown requests before after (link ∷ given) (returned ∷ back) count =
    (middle : P) × (first : Count) × (rest : Count) × Turns rules view shown requests before middle link returned first
    × Works rules view shown requests middle after given back rest × (count ≡ both first rest)
Works rules view shown requests before after given back count = ⊥

-- known links begin with these, and lose them
abbrev pub LosesAll : {L : Type 0} → Option (List L) → Option (List L) → List L → Type 0
LosesAll None new links = ⊤
LosesAll (Some old) None links = ⊥
LosesAll (Some old) (Some rest) links = old ≡ links ++ rest

-- known links grow by these
abbrev pub GainsAll : {L : Type 0} → Option (List L) → Option (List L) → List L → Type 0
GainsAll None new links = ⊤
GainsAll (Some old) None links = ⊥
GainsAll (Some old) (Some more) links = more ≡ old ++ links

-- what a worker did: which links its porch gave and which it took back, how many, what became of them and of the pass, and
-- what was counted
pub record Worked {P L : Type 0} (rules : PassRules P) (view : L → LinkView) (shown : Option ℕ) (requests : ℕ)
    (before after : P) (old new : PorchView L) (count : Count) : Type 0 where
  pub given : List L
  pub back : List L
  pub number : new.given ≡ old.given + length given
  pub came : LosesAll old.coming new.coming given
  pub went : GainsAll old.served new.served back
  pub works : Works rules view shown requests before after given back count

-- the end is told by its cause: no more links come, or the porch failed
abbrev pub EndsBy : {L : Type 0} → WorkEnd → (old new : PorchView L) → Type 0
EndsBy ends.Done old new = (new.given ≡ new.most) ⊎ (new.coming ≡ Some [])
EndsBy ends.Failed old new = Rose old.faults new.faults

-- one turn of a worker: a link came, was served or dropped and handed back; or none came, and nothing was done
abbrev pub Takes : {P L : Type 0} → PassRules P → (L → LinkView) → (shown : Option ℕ) → (requests : ℕ) → Turn
    → (before after : P) (porch left : PorchView L) (old new : Count) → Type 0
Takes {P} {L} rules view shown requests turns.Served before after porch left old new =
    (link : L) × (back : L) × (count : Count) × LosesFirst porch.coming left.coming link × GainsLast porch.served left.served back
    × Turns rules view shown requests before after link back count × (new ≡ both old count)
Takes rules view shown requests turns.Done before after porch left old new =
    (after ≡ before) × (left.coming ≡ porch.coming) × (left.served ≡ porch.served) × (new ≡ old)
Takes rules view shown requests turns.Failed before after porch left old new =
    (after ≡ before) × (left.coming ≡ porch.coming) × (left.served ≡ porch.served) × (new ≡ old)

-- how many links were given by the end of a turn
abbrev pub given_by : Turn → ℕ → ℕ
given_by turns.Served given = given + 1
given_by turns.Done given = given
given_by turns.Failed given = given

-- why a turn served no link
abbrev pub EndsTurn : {L : Type 0} → Turn → (old new : PorchView L) → Type 0
EndsTurn turns.Served old new = ⊤
EndsTurn turns.Done old new = (new.given ≡ new.most) ⊎ (new.coming ≡ Some [])
EndsTurn turns.Failed old new = Rose old.faults new.faults
