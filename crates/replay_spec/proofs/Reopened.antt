-- A shelf that is opened again with the setup that it had.
use Rattle.std.proofs.Common.{◌≡◌, List, [], ◌∷◌, Option, Bool, true, refl, ap, ◌∙◌, if◌then◌else◌}
use Rattle.std.specs.Prelude.{◌&&◌}
use Rattle.std.specs.Str.{bytes_eq}
use Rattle.std.proofs.lemmas.Bool.{and_from}
use Rattle.std.proofs.lemmas.Slice.Eq.{bytes_eq-Decides}
use Rattle.script_nodes.specs.Setup.{Named}
use Rattle.replay_spec.specs.Book.{Book, reopened, are_same}
use Rattle.replay_spec.specs.Rules.{Journal}
use Rattle.replay_spec.specs.Compaction.{renewed_length, renewed_file, setup_for, going_on_with, reopened_with}
use Rattle.replay_spec.proofs.Barred.{follower_setup, some_setup}

pub same_self : (ss : List Named) → are_same ss ss ≡ true
same_self [] = refl
same_self (s ∷ ss) =
    and_from (bytes_eq s.name s.name && bytes_eq s.text s.text) (are_same ss ss)
    (and_from (bytes_eq s.name s.name) (bytes_eq s.text s.text) ((bytes_eq-Decides s.name s.name).1 refl) ((bytes_eq-Decides s.text s.text).1 refl)) (same_self ss)

going_on_same : (journal : Option Journal) (b : Book) → going_on_with journal b.scripts b ≡ reopened b
going_on_same journal b =
    ap (λ (same : Bool). record (reopened b) {
      length = if same then b.length else renewed_length journal b.scripts b.length;
      file = if same then b.file else renewed_file journal b.scripts b.file;
    }) (same_self b.scripts)

-- an opening with the same setup leaves no record
pub reopened_same : (journal : Option Journal) (b : Book) → reopened_with journal b.scripts b ≡ reopened b
reopened_same journal b = some_setup (λ (ss : List Named). going_on_with journal ss b ≡ reopened b) b b.scripts (going_on_same journal b) (going_on_same journal b)

-- nor does one of a shelf that follows another one's journal
pub follower_opened : (journal : Option Journal) (scripts : List Named) (b : Book) → b.follows ≡ true → reopened_with journal scripts b ≡ reopened b
follower_opened journal scripts b e = ap (λ (ss : List Named). going_on_with journal ss b) (follower_setup b scripts e) ∙ going_on_same journal b
