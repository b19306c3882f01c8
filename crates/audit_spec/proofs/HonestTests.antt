-- The tests of an audit that need no more of what was made than the book.
use Rattle.std.proofs.Common.{◌≡◌, Bool, true, List, [], ◌∷◌, length, filter, Option, refl, sym, ap, ◌∙◌}
use Rattle.std.specs.Prelude.{is_some}
use Rattle.replay_spec.specs.Tape.{present}
use Rattle.replay_spec.specs.Next.{comes_to}
use Rattle.replay_spec.specs.Book.{Instance, Change, opens, extends, ends, finishes, sweeps, Book}
use Rattle.replay_spec.specs.Change.{used_by}
use Rattle.replay_spec.specs.Eviction.{least_used}
use Rattle.replay_spec.specs.Compaction.{stays_in}
use Rattle.replay_spec.specs.Admission.{Place, why_not}
use Rattle.replay_spec.specs.Recovery.{again, extension_visit}
use Rattle.replay_spec.specs.Remade.{IsLike}
use Rattle.replay_spec.proofs.Filed.{bare, bare_like}
use Rattle.replay_spec.proofs.Living.{lives}
use Rattle.replay_spec.proofs.Compacted.{place_lives}
use Rattle.server_limits.specs.Limits.{most_fuel}
use Rattle.audit_spec.specs.Tests.{holds_of, is_none, goes_on, is_admitted, ends_so, last_segment, runs_so, are_numbers, least_go, is_due, is_in_time}

-- the tests of a change that look at the book alone
abbrev pub tests : Book → Change → List Bool
tests b c = goes_on b c ∷ (is_admitted b c ∷ (runs_so b c ∷ (least_go b c ∷ (is_in_time b c ∷ []))))

-- the change passes each of them on this book
abbrev pub IsFair : Book → Change → Type 0
IsFair b c = tests b c ≡ true ∷ (true ∷ (true ∷ (true ∷ (true ∷ []))))

-- they need no more of a book than its shelf, setup, clock and instances
tests_bare : (b : Book) (c : Change) → tests b c ≡ tests (bare b.shelf b.scripts b.clock b.instances) c
tests_bare b (opens o) = refl
tests_bare b (extends x) = refl
tests_bare b (ends e) = refl
tests_bare b (finishes f) = refl
tests_bare b (sweeps tick) = refl

-- so what passes on a book passes on one like it
pub fair_like : (b d : Book) (c : Change) → IsLike d b → IsFair b c → IsFair d c
fair_like b d c h fair = tests_bare d c ∙ (ap (λ (x : Book). tests x c) (bare_like d b h) ∙ (sym (tests_bare b c) ∙ fair))

-- a change that stays passes without what goes
tests_live : (b : Book) (ls : List Instance) (c : Change) → stays_in ls c ≡ true → tests (bare b.shelf b.scripts b.clock (filter (lives ls) b.instances)) c ≡ tests b c
tests_live b ls (opens o) stay = refl
tests_live b ls (extends x) stay =
    ap (λ (o : Option Place).
    true ∷ (holds_of (λ at. is_none (why_not b.clock at.instance at.page)) o
    ∷ (holds_of (λ at. is_some (again x.kind x.effects x.left (comes_to (extension_visit b x at) (present at.instance.cells most_fuel)))) o
    ∷ (holds_of (λ at. are_numbers x.evicted (least_used (length x.evicted) (used_by x.page x.number at.instance.used))) o ∷ (is_due b.clock x.deadline ∷ [])))))
    (place_lives b ls x.instance x.page stay)
tests_live b ls (ends e) stay =
    ap (λ (o : Option Place).
    true ∷ (holds_of (λ at. is_none (why_not b.clock at.instance at.page)) o
    ∷ (holds_of (λ at. ends_so e.effects e.left (last_segment b e.number e.answer at)) o ∷ (true ∷ (true ∷ [])))))
    (place_lives b ls e.instance e.page stay)
tests_live b ls (finishes f) stay = absurd (let no : ⊥ = cc in no)
tests_live b ls (sweeps tick) stay = refl

pub fair_live : (b d : Book) (ls : List Instance) (c : Change) → d.shelf ≡ b.shelf → d.scripts ≡ b.scripts → d.clock ≡ b.clock → d.instances ≡ filter (lives ls) b.instances → stays_in ls c ≡ true
    → IsFair b c → IsFair d c
fair_live b d ls c shelf scripts clock instances stay fair =
    tests_bare d c ∙ ((λ i. tests (bare (shelf i) (scripts i) (clock i) (instances i)) c) ∙ (tests_live b ls c stay ∙ fair))
