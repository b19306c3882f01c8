-- Setups that are given at a crash, and the books of shelves that are opened with them.
use Rattle.std.proofs.Common.{◌≡◌, ◌&&◌, ℕ, List, [], ◌∷◌, Option, Some, Bool, true, false, refl, sym, ap, ◌∙◌, if◌then◌else◌}
use Rattle.std.specs.Str.{bytes_eq}
use Rattle.std.proofs.lemmas.Bool.{and_parts}
use Rattle.std.proofs.lemmas.Option.{same_Some}
use Rattle.std.proofs.lemmas.Slice.Eq.{bytes_eq-Decides}
use Rattle.script_nodes.specs.Setup.{Named}
use Rattle.replay_spec.specs.Book.{Doubt, Book, reopened, are_same}
use Rattle.replay_spec.specs.Rules.{Journal, Rules}
use Rattle.replay_spec.specs.Compaction.{reopened_with}
use Rattle.replay_spec.specs.Step.{crash, Fate, lost, kept, recovered, step}
use Rattle.replay_spec.proofs.Barred.{leader_setup, follower_setup, recovered_setup}
use Rattle.replay_spec.proofs.Reopened.{same_self, reopened_same}
use Rattle.journal_records.specs.Records.{texts_of}
use Rattle.journal_spec.specs.Lengths.{journal_rules}
use Rattle.journal_spec.specs.Making.{Texts}
use Rattle.journal_spec.specs.Opening.{IsRead, opening_bodies, renewal_body, opened_book}
use Rattle.journal_spec.specs.Keeping.{AreOver}
use Rattle.journal_spec.specs.Laws.{CrashesOpen, ASetupIsItsTexts}

-- setups of the same names and texts, each of which is what its texts are read as, are the same
same_texts : (ss ts : List Named) → are_same ss ts ≡ true → texts_of ss ≡ texts_of ts
same_texts [] [] e = refl
same_texts [] (t ∷ ts) e = absurd (let no : ⊥ = cc in no)
same_texts (s ∷ ss) [] e = absurd (let no : ⊥ = cc in no)
same_texts (s ∷ ss) (t ∷ ts) e =
    let both = and_parts (bytes_eq s.name t.name && bytes_eq s.text t.text) (are_same ss ts) e in
    let one = and_parts (bytes_eq s.name t.name) (bytes_eq s.text t.text) both.0 in
    ap (λ (n : List ℕ). (n, s.text) ∷ texts_of ss) ((bytes_eq-Decides s.name t.name).0 one.0)
    ∙ (ap (λ (x : List ℕ). (t.name, x) ∷ texts_of ss) ((bytes_eq-Decides s.text t.text).0 one.1)
    ∙ ap (λ (xs : List (List ℕ × List ℕ)). (t.name, t.text) ∷ xs) (same_texts ss ts both.1))

pub same_setup : (texts : Texts) (ss ts : List Named) → IsRead texts ss → IsRead texts ts → are_same ss ts ≡ true → ss ≡ ts
same_setup texts ss ts a b e = same_Some ss ts (sym a ∙ (ap texts (same_texts ss ts e) ∙ b))

-- ---- the setup with which a shelf is opened again

-- a shelf that follows is told none
pub bodies_fed : (scripts : List Named) (b : Book) → b.follows ≡ true → opening_bodies scripts b ≡ []
bodies_fed scripts b fed =
    ap (λ (ss : List Named). if are_same ss b.scripts then [] else renewal_body ss ∷ []) (follower_setup b scripts fed)
    ∙ ap (λ (t : Bool). if t then [] else renewal_body b.scripts ∷ []) (same_self b.scripts)

-- and one that does not the one that it is opened with
pub bodies_unfed : (scripts : List Named) (b : Book) → b.follows ≡ false → opening_bodies scripts b ≡ (if are_same scripts b.scripts then [] else renewal_body scripts ∷ [])
bodies_unfed scripts b unfed = ap (λ (ss : List Named). if are_same ss b.scripts then [] else renewal_body ss ∷ []) (leader_setup b scripts unfed)

-- a shelf that is opened with the setup that it had, and then with another one
pub opened_twice : (journal : Option Journal) (shelf : ℕ) (scripts before : List Named) (b : Book) → before ≡ b.scripts
    → opened_book shelf scripts (reopened_with journal before b) ≡ opened_book shelf scripts b
opened_twice journal shelf scripts before b same =
    ap (λ (ss : List Named). opened_book shelf scripts (reopened_with journal ss b)) same ∙ ap (opened_book shelf scripts) (reopened_same journal b)

-- a crash that gives a setup is one by which the setup stays, and then an opening with it
pub crashed_book : (rules : Rules) (shelf : ℕ) (b : Book) (nonce : ℕ) (scripts : List Named) (fate : Fate) → AreOver rules shelf
    → (step rules b nonce (crash scripts) fate).1 ≡ opened_book shelf scripts (step rules b nonce (crash b.scripts) fate).1
unfolding step
crashed_book rules shelf b nonce scripts fate over =
    let y = recovered rules fate b.down b in
    ap (λ (j : Option Journal). reopened_with j scripts y) over ∙ sym (opened_twice rules.journal shelf scripts b.scripts y (sym (recovered_setup rules fate b.down b)))

-- what a crash leaves is as after another one
pub crash_again : (rules : Rules) (b : Book) (nonce : ℕ) (scripts : List Named) (fate : Fate) → reopened (step rules b nonce (crash scripts) fate).1 ≡ (step rules b nonce (crash scripts) fate).1
unfolding step
crash_again rules b nonce scripts fate = refl

-- the book of a crash, for each setup
pub crash_book : (rules : Rules) (shelf : ℕ) (b : Book) (nonce : ℕ) (scripts : List Named) (fate : Fate) → AreOver rules shelf
    → (step rules b nonce (crash scripts) fate).1 ≡ opened_book shelf scripts (recovered rules fate b.down b)
unfolding step
crash_book rules shelf b nonce scripts fate over = ap (λ (j : Option Journal). reopened_with j scripts (recovered rules fate b.down b)) over

nothing_lost : (rules : Rules) (o : Option Doubt) (b : Book) → recovered rules lost o b ≡ b
nothing_lost rules o b = refl

pub crashes : CrashesOpen
crashes shelf rules b nonce n scripts over measures = (
  crash_book rules shelf b nonce scripts lost over ∙ ap (opened_book shelf scripts) (nothing_lost rules b.down b),
  crash_book rules shelf b nonce scripts kept over ∙ ap (opened_book shelf scripts) measures,
)

pub its_texts : ASetupIsItsTexts
its_texts texts shelf scripts b read before e =
    let same = same_setup texts scripts b.scripts read before e in
    (same, ap (λ (ss : List Named). opened_book shelf ss b) same ∙ reopened_same (Some (journal_rules shelf)) b)
