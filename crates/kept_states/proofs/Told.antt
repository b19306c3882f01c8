-- What is kept of a state that bytes tell.
use Rattle.std.proofs.Common.{◌≡◌, ◌∙◌, ◌≤◌, ◌-◌, sym, ap, ℕ, suc, take, List, [], ◌∷◌, length, get_or, drop, Option, Some, None, option_map, subst, refl, arith}
use Rattle.std.proofs.lemmas.Option.{same_Some}
use Rattle.std.specs.Prelude.{IfSome, IfOk, Result, Ok, Err}
use Rattle.frame_codec.specs.ScriptNodes.Arena.{Arena}
use Rattle.value_bytes.specs.Laws.{AreBytes}
use Rattle.frame_codec.specs.MachineStates.Machine.{Suspended}
use Rattle.frame_codec.specs.MachineStates.Views.{suspended_of}
use Rattle.frame_codec.specs.MachineStates.declared.frame.Suspended as stored
use Rattle.frame_codec.specs.Stored.{IsStored}
use Rattle.frame_codec.specs.Forms.{read_form, SpellsForm, FormsAreExact}
use Rattle.frame_codec.specs.FormViews.{ReadsForm, ReadsDifference}
use Rattle.frame_codec.specs.Deltas.{joined}
use Rattle.frame_codec.specs.DeltaViews.{delta_of, FindsDelta}
use Rattle.frame_codec.specs.Difference.{read_difference}
use Rattle.frame_codec.specs.declared.difference.Delta.{Delta}
use Rattle.kept_states.specs.Kept.{form_of}
use Rattle.kept_states.specs.declared.form.ToldForm.{ToldForm}
use Rattle.kept_states.specs.Told.{TellsDelta, IsDeltaTold, IsKeptAsTold, KeepsForm, IsTold}

-- a state that is read by itself is spelled so
pub whole_spelled : {E : Type 0} → FormsAreExact → (a : Arena) (bytes : List ℕ) → AreBytes bytes → (r : Result (Option stored.Suspended) E) → IfOk r (ReadsForm a None bytes)
    → IfOk r (λ found. IfSome found (λ d. SpellsForm a None bytes (suspended_of d)))
whole_spelled exact a bytes small (Err e) read = tt
whole_spelled exact a bytes small (Ok None) read = tt
whole_spelled exact a bytes small (Ok (Some d)) read = (exact.exact a None tt).exact bytes (suspended_of d) small (sym read)

-- what bytes tell after a state
delta_read : (a : Arena) (p : stored.Suspended) (bytes spelling : List ℕ) (found : Option Delta) → bytes ≡ 1 ∷ spelling
    → option_map delta_of found ≡ read_difference a (suspended_of p) spelling → TellsDelta a p bytes found
delta_read a p bytes spelling None e read =
    ap (option_map (joined (suspended_of p))) read ∙ ap (λ (l : List ℕ). read_form a (Some (suspended_of p)) l) (sym e)
delta_read a p bytes spelling (Some x) e read =
    ap (option_map (joined (suspended_of p))) read ∙ ap (λ (l : List ℕ). read_form a (Some (suspended_of p)) l) (sym e)

pub delta_told : {E : Type 0} (a : Arena) (p : stored.Suspended) (bytes spelling : List ℕ) (r : Result (Option Delta) E) → bytes ≡ 1 ∷ spelling → IsStored a (suspended_of p)
    → IfOk r (ReadsDifference a p spelling) → IfOk r (TellsDelta a p bytes)
delta_told a p bytes spelling (Err e) same stored read = tt
delta_told a p bytes spelling (Ok found) same stored read = delta_read a p bytes spelling found same (read stored)

-- and it is a difference
pub delta_is : {E : Type 0} → FormsAreExact → (a : Arena) (p : stored.Suspended) (bytes spelling : List ℕ) → AreBytes bytes → IsStored a (suspended_of p)
    → (r : Result (Option Delta) E) → bytes ≡ 1 ∷ spelling → IfOk r (TellsDelta a p bytes) → IfOk r (FindsDelta a p spelling)
    → IfOk r (λ found. IfSome found (IsDeltaTold a p bytes))
delta_is exact a p bytes spelling small stored (Err e) same told spells = tt
delta_is exact a p bytes spelling small stored (Ok None) same told spells = tt
delta_is exact a p bytes spelling small stored (Ok (Some x)) same told spells =
    let d = joined (suspended_of p) (delta_of x) in
    let form = (exact.exact a (Some (suspended_of p)) stored).exact bytes d small (sym told) in
    record { whole = same ∙ ap (λ (l : List ℕ). 1 ∷ l) spells.whole; is = spells.is; stored = spells.stored; binds = form.binds }

-- a state that was told is kept so
pub kept_told : (a : Arena) (before : Option Suspended) (links : ℕ) (bytes : List ℕ) (o : Option ToldForm) (x : ToldForm) → o ≡ Some x → KeepsForm a before bytes o
    → IsTold a before links bytes (record { state = x.state; kept = record { links = links; form = x.form } })
kept_told a before links bytes None x is keeps = absurd (let no : ⊥ = cc in no)
kept_told a before links bytes (Some y) x is keeps =
    record { links_are = refl; kept = subst (λ (z : ToldForm). IsKeptAsTold a before bytes (suspended_of z.state) (form_of z.form)) (same_Some y x is) keeps }

-- bytes that begin with one
all_taken : (xs : List ℕ) → take (length xs) xs ≡ xs
all_taken [] = refl
all_taken (x ∷ xs) = ap (λ (l : List ℕ). x ∷ l) (all_taken xs)

pub begins_with : (bytes : List ℕ) (n d : ℕ) → 1 ≤ length bytes → n ≡ get_or bytes 0 d → n ≡ 1 → bytes ≡ 1 ∷ take (length bytes - 1) (drop 1 bytes)
begins_with [] n d some is one = absurd (omega (arith, some))
begins_with (b ∷ bytes) n d some is one =
    let rest : suc (length bytes) - 1 ≡ length bytes = omega arith in
    ap (λ (k : ℕ). k ∷ bytes) (sym is ∙ one) ∙ ap (λ (l : List ℕ). 1 ∷ l) (sym (ap (λ (k : ℕ). take k bytes) rest ∙ all_taken bytes))
