-- A spelling is read back.
use Rattle.std.proofs.Common.{◌≡◌, ◌∙◌, ℕ, pos, List, [], Option, Some, ap, sym, subst, append-nil}
use Rattle.std.specs.Prelude.{unwrap_or}
use Rattle.script_value.specs.Val.{Val, number}
use Rattle.wire_bytes.specs.Reading.{value_of}
use Rattle.value_bytes.specs.Spelling.{value_bytes, values_bytes, HasBytes, HaveBytes, most_levels}
use Rattle.value_bytes.specs.Reading.{Reader, read_value, read_values}
use Rattle.value_bytes.specs.Laws.{IsExact, Spells}
use Rattle.value_bytes.proofs.Lists.{list_exact}
use Rattle.value_bytes.proofs.Trees.{value_exact}
use Rattle.kept_states.specs.Forms.{read_or, value_spelled, values_spelled}

-- what is read of a spelling
read_back : {A : Type 0} (spelled : A → List ℕ) (fits : A → Type 0) (read : Reader A) → IsExact spelled fits read
    → (x : A) (bytes : List ℕ) → fits x → bytes ≡ spelled x → read bytes ≡ Some (x, [])
read_back spelled fits read exact x bytes fit same = ap read (same ∙ sym (append-nil (spelled x))) ∙ exact.back x [] fit

spells_itself : {A : Type 0} (spelled : A → List ℕ) (fits : A → Type 0) (read : Reader A) (otherwise : A) → IsExact spelled fits read
    → (x : A) (bytes : List ℕ) → fits x → bytes ≡ spelled x → read_or otherwise read bytes ≡ x
spells_itself {A} spelled fits read otherwise exact x bytes fit same =
    ap (λ (o : Option (A × List ℕ)). unwrap_or (value_of o) otherwise) (read_back spelled fits read exact x bytes fit same)

pub values_exact : IsExact values_bytes HaveBytes read_values
values_exact = list_exact value_bytes HasBytes read_value (value_exact most_levels)

pub value_read : (x : Val) (bytes : List ℕ) → HasBytes x → bytes ≡ value_bytes x → value_spelled bytes ≡ x
value_read x bytes fit same = spells_itself value_bytes HasBytes read_value (number (pos 0)) (value_exact most_levels) x bytes fit same

pub values_read : (xs : List Val) (bytes : List ℕ) → HaveBytes xs → bytes ≡ values_bytes xs → values_spelled bytes ≡ xs
values_read xs bytes fit same = spells_itself values_bytes HaveBytes read_values [] values_exact xs bytes fit same

spells : {A : Type 0} (spelled : A → List ℕ) (fits : A → Type 0) (x y : A) (bytes : List ℕ) → fits x → bytes ≡ spelled x → y ≡ x
    → Spells spelled fits bytes y []
spells {A} spelled fits x y bytes fit same is =
    subst (λ (z : A). Spells spelled fits bytes z []) (sym is) (record { whole = same ∙ sym (append-nil (spelled x)); fit = fit })

pub value_spells : (x : Val) (bytes : List ℕ) → HasBytes x → bytes ≡ value_bytes x → Spells value_bytes HasBytes bytes (value_spelled bytes) []
value_spells x bytes fit same = spells value_bytes HasBytes x (value_spelled bytes) bytes fit same (value_read x bytes fit same)

pub values_spell : (xs : List Val) (bytes : List ℕ) → HaveBytes xs → bytes ≡ values_bytes xs
    → Spells values_bytes HaveBytes bytes (values_spelled bytes) []
values_spell xs bytes fit same = spells values_bytes HaveBytes xs (values_spelled bytes) bytes fit same (values_read xs bytes fit same)

-- what is kept is read
kept : {A : Type 0} (spelled : A → List ℕ) (fits : A → Type 0) (read : Reader A) → IsExact spelled fits read
    → (x : A) (bytes : List ℕ) → Spells spelled fits bytes x [] → value_of (read bytes) ≡ Some x
kept {A} spelled fits read exact x bytes is =
    ap (λ (o : Option (A × List ℕ)). value_of o) (read_back spelled fits read exact x bytes is.fit (is.whole ∙ append-nil (spelled x)))

pub value_kept : (bytes : List ℕ) → Spells value_bytes HasBytes bytes (value_spelled bytes) []
    → value_of (read_value bytes) ≡ Some (value_spelled bytes)
value_kept bytes is = kept value_bytes HasBytes read_value (value_exact most_levels) (value_spelled bytes) bytes is

pub values_kept : (bytes : List ℕ) → Spells values_bytes HaveBytes bytes (values_spelled bytes) []
    → value_of (read_values bytes) ≡ Some (values_spelled bytes)
values_kept bytes is = kept values_bytes HaveBytes read_values values_exact (values_spelled bytes) bytes is
