-- Both forms of states are exact.
use Rattle.std.proofs.Common.{◌≡◌, ◌∙◌, ℕ, ◌==◌, Bool, true, false, List, [], ◌∷◌, ◌++◌, Option, Some, None, refl, sym, ap, subst, cond}
use Rattle.std.specs.Prelude.{option_map}
use Rattle.std.specs.Cmp.{unsigned_Decides}
use Rattle.std.proofs.lemmas.Option.{none-some}
use Rattle.web_cells.specs.Own.{BindsAllOf}
use Rattle.script_nodes.specs.Arena.{Arena}
use Rattle.value_bytes.specs.Laws.{AreBytes}
use Rattle.value_bytes.proofs.Numbers.{tail_are_bytes}
use Rattle.machine_states.specs.Machine.{Suspended}
use Rattle.frame_codec.specs.Spelling.{state_bytes}
use Rattle.frame_codec.specs.Stored.{IsStored}
use Rattle.frame_codec.specs.Reading.{read_state}
use Rattle.frame_codec.specs.Deltas.{Delta, joined, delta_bytes}
use Rattle.frame_codec.specs.Difference.{difference, read_difference, AreDifferencesExact}
use Rattle.frame_codec.specs.Forms.{form_bytes, read_form, IsStoredBefore, RisesBefore, BindsBefore, SpellsForm, AreFormsExact, FormsAreExact}
use Rattle.frame_codec.proofs.States.{states_are_exact, found_is_spelled}
use Rattle.frame_codec.proofs.Differences.{joins, are_one, bound_still}
use Rattle.frame_codec.proofs.Computed.{differs}
use Rattle.frame_codec.proofs.Reread.{written_is_read}
use Rattle.frame_codec.proofs.Leaving.{are_exact}

same_first : (x y : ℕ) (xs ys : List ℕ) → x ∷ xs ≡ y ∷ ys → (x ≡ y) × (xs ≡ ys)
same_first x y xs ys e = (cc, cc)

-- the first byte, and what is read after it
record IsForm (form due : ℕ) (o : Option Suspended) (d : Suspended) : Type 0 where
  is : form ≡ due
  read : o ≡ Some d

is_form : (form due : ℕ) (o : Option Suspended) (d : Suspended) → cond (form == due) o None ≡ Some d → IsForm form due o d
is_form form due o d e = by_test (form == due) refl e
  where
    by_test : (b : Bool) → (form == due) ≡ b → cond b o None ≡ Some d → IsForm form due o d
    by_test true h f = record { is = (unsigned_Decides form due).0 h; read = f }
    by_test false h f = absurd (none-some d f)

-- ---- by itself

alone_exact : (a : Arena) (bytes : List ℕ) (d : Suspended) → AreBytes bytes → read_form a None bytes ≡ Some d → SpellsForm a None bytes d
alone_exact a [] d small e = absurd (none-some d e)
alone_exact a (b ∷ bytes) d small e =
    let f = is_form b 0 (read_state a bytes) d e in
    let s = found_is_spelled a bytes d f.read (tail_are_bytes b bytes small) in
    record { whole = λ i. f.is i ∷ s.whole i; stored = s.stored; binds = tt }

alone : (a : Arena) → AreFormsExact a None
alone a = record {
  exact = alone_exact a;
  none = λ bytes e d sd whole. none-some d (sym e ∙ ap (λ (b : List ℕ). read_form a None b) whole ∙ states_are_exact.back a d sd);
  prefix = λ d e rest sd se bd be same. states_are_exact.prefix a d e rest sd se (same_first 0 0 (state_bytes d ++ rest) (state_bytes e) same).1;
}

-- ---- after another one

record IsJoined (p : Suspended) (o : Option Delta) (d : Suspended) : Type 0 where
  x : Delta
  read : o ≡ Some x
  whole : joined p x ≡ d

is_joined : (p : Suspended) (o : Option Delta) (d : Suspended) → option_map (joined p) o ≡ Some d → IsJoined p o d
is_joined p None d e = absurd (none-some d e)
is_joined p (Some x) d e = let same : joined p x ≡ d = cc in record { x = x; read = refl; whole = same }

module _ (a : Arena) (p : Suspended) (sp : IsStored a p) where
  its : AreDifferencesExact a p
  its = are_exact a p sp

  whole_again : (d : Suspended) → IsStored a d → BindsAllOf p.shadows d.shadows → joined p (difference p d) ≡ d
  whole_again d sd binds = joins p d (difference p d) sp.shadows.rise sd.shadows.rise binds (differs p d)

  behind_exact : (bytes : List ℕ) (d : Suspended) → AreBytes bytes → read_form a (Some p) bytes ≡ Some d → SpellsForm a (Some p) bytes d
  behind_exact [] d small e = absurd (none-some d e)
  behind_exact (b ∷ bytes) d small e =
      let f = is_form b 1 (option_map (joined p) (read_difference a p bytes)) d e in
      let j = is_joined p (read_difference a p bytes) d f.read in
      let s = its.exact bytes j.x (tail_are_bytes b bytes small) j.read in
      let same : difference p (joined p j.x) ≡ j.x = are_one p (joined p j.x) (difference p (joined p j.x)) j.x (differs p (joined p j.x)) s.is in
      let bytes_are : bytes ≡ delta_bytes (difference p (joined p j.x)) = s.whole ∙ ap (λ (y : Delta). delta_bytes y) (sym same) in
      subst (λ (e : Suspended). SpellsForm a (Some p) (b ∷ bytes) e) j.whole
      (record { whole = λ i. f.is i ∷ bytes_are i; stored = s.stored; binds = bound_still p.shadows j.x.shadows })

  nothing_joined : (o : Option Delta) → option_map (joined p) o ≡ None → o ≡ None
  nothing_joined None e = refl
  nothing_joined (Some x) e = absurd (none-some (joined p x) (sym e))

  behind_none : (bytes : List ℕ) → read_form a (Some p) bytes ≡ None → (d : Suspended) → IsStored a d → ¬ (bytes ≡ form_bytes (Some p) d)
  behind_none bytes e d sd whole =
      let none = nothing_joined (read_difference a p (delta_bytes (difference p d))) (sym (ap (λ (b : List ℕ). read_form a (Some p) b) whole) ∙ e) in
      its.none (delta_bytes (difference p d)) none d sd refl

  behind : AreFormsExact a (Some p)
  behind = record {
    exact = behind_exact;
    none = behind_none;
    prefix = λ d e rest sd se bd be same.
        let both = its.prefix d e rest sd se (same_first 1 1 (delta_bytes (difference p d) ++ rest) (delta_bytes (difference p e)) same).1 in
        (sym (whole_again d sd bd) ∙ ap (joined p) both.0 ∙ whole_again e se be, both.1);
  }

forms_back : (a : Arena) (before : Option Suspended) (d : Suspended) → RisesBefore before → IsStored a d → BindsBefore before d
    → read_form a before (form_bytes before d) ≡ Some d
forms_back a None d rises sd binds = states_are_exact.back a d sd
forms_back a (Some p) d rises sd binds =
    ap (λ (o : Option Delta). option_map (joined p) o) (written_is_read a p d rises sd binds)
    ∙ ap (λ (e : Suspended). Some e) (joins p d (difference p d) rises sd.shadows.rise binds (differs p d))

forms_exact : (a : Arena) (before : Option Suspended) → IsStoredBefore a before → AreFormsExact a before
forms_exact a None s = alone a
forms_exact a (Some p) s = behind a p s

pub forms_are_exact : FormsAreExact
forms_are_exact = record { back = forms_back; exact = forms_exact }
