-- What a shelf goes on with is what its records make with the body that it writes.
use Rattle.std.proofs.Common.{◌≡◌, ℕ, ◌+◌, List, [], ◌∷◌, ◌++◌, length, Some, None, Bool, true, false, refl, sym, ◌∙◌, ap, if◌then◌else◌}
use Rattle.std.proofs.lemmas.List.{append-nil}
use Rattle.script_nodes.specs.Setup.{Named}
use Rattle.replay_spec.specs.Book.{Book, reopened, are_same}
use Rattle.replay_spec.specs.Compaction.{renewed_length, renewed_file}
use Rattle.replay_spec.specs.Recovery.{resettled}
use Rattle.replay_spec.proofs.Barred.{leader_opened}
use Rattle.replay_spec.proofs.Reopened.{follower_opened}
use Rattle.journal_records.specs.Laws.{AreRecordsExact}
use Rattle.journal_spec.specs.Before.{Made, plain}
use Rattle.journal_spec.specs.Lengths.{journal_rules}
use Rattle.journal_spec.specs.Making.{Texts, Making, nothing, waits, waited, begun, made, damaged, other, waiting, made_in, book_of}
use Rattle.journal_spec.specs.Opening.{IsReadUnlessFed, renewal_body, opening_bodies, opened_book, opened_on}
use Rattle.journal_spec.specs.Events.{IsGiven}
use Rattle.journal_spec.specs.Laws.{OpeningsAreRecords}
use Rattle.journal_spec.proofs.Makings.{renewed_push, made_first}
use Rattle.journal_spec.proofs.Fitting.{made_fits}
use Rattle.journal_spec.proofs.Setups.{bodies_fed, bodies_unfed, its_texts}

-- what was made, opened with this setup
abbrev Opened : (shelf : ℕ) → List Named → Made → Made
Opened shelf scripts m = record m { book = opened_book shelf scripts m.book }

pub goes_on : (shelf : ℕ) (scripts : List Named) (x : Making) (m : Made) → made_in x ≡ Some m → opened_on shelf scripts x ≡ Some (Opened shelf scripts m)
goes_on shelf scripts nothing m is = absurd (let no : ⊥ = cc in no)
goes_on shelf scripts waited m is = absurd (let no : ⊥ = cc in no)
goes_on shelf scripts (waits s) m is = let same : waiting s ≡ m = cc in ap (λ (y : Made). Some (Opened shelf scripts y)) same
goes_on shelf scripts (begun k) m is = let same : k ≡ m = cc in ap (λ (y : Made). Some (Opened shelf scripts y)) same
goes_on shelf scripts (made k) m is = let same : k ≡ m = cc in ap (λ (y : Made). Some (Opened shelf scripts y)) same
goes_on shelf scripts (damaged p) m is = absurd (let no : ⊥ = cc in no)
goes_on shelf scripts (other p) m is = absurd (let no : ⊥ = cc in no)

renewed : AreRecordsExact → (texts : Texts) (shelf : ℕ) (scripts : List Named) → IsGiven texts scripts → (bodies : List (List ℕ)) (m : Made)
    → made_in (book_of texts shelf bodies) ≡ Some m → IsReadUnlessFed texts m.book
    → made_in (book_of texts shelf (bodies ++ opening_bodies scripts m.book)) ≡ Some (Opened shelf scripts m)
renewed x texts shelf scripts given bodies m is read = by_role m.book.follows refl
  where
    again : m.book ≡ record m.book { drawn = m.book.logged; out = []; down = None }
    again = (made_fits x texts shelf bodies m is).again

    -- the body leaves what was made as it was
    same_made : opened_book shelf scripts m.book ≡ reopened m.book → made_in (book_of texts shelf (bodies ++ [])) ≡ Some (Opened shelf scripts m)
    same_made opened =
        let same : opened_book shelf scripts m.book ≡ m.book = opened ∙ sym again in
        ap (λ (bs : List (List ℕ)). made_in (book_of texts shelf bs)) (append-nil bodies)
        ∙ (is ∙ ap (λ (y : Book). Some (record m { book = y })) (sym same))

    by_test : m.book.follows ≡ false → (t : Bool) → are_same scripts m.book.scripts ≡ t
        → made_in (book_of texts shelf (bodies ++ (if t then [] else renewal_body scripts ∷ []))) ≡ Some (Opened shelf scripts m)
    by_test unfed true e = same_made (its_texts texts shelf scripts m.book given.read (read unfed) e).1
    by_test unfed false e =
        let n = length (renewal_body scripts) in
        ap made_in (renewed_push x texts shelf bodies m scripts is unfed given.renews given.read)
        ∙ (ap (λ (y : Book). Some (record m {
          book = record y { scripts = scripts; length = m.book.length + (n + 5); file = (resettled n scripts (plain m)).book.file };
        })) again
        ∙ (ap (λ (t : Bool). Some (record m {
          book = record m.book {
            drawn = m.book.logged;
            out = [];
            down = None;
            scripts = scripts;
            length = if t then m.book.length else renewed_length (Some (journal_rules shelf)) scripts m.book.length;
            file = if t then m.book.file else renewed_file (Some (journal_rules shelf)) scripts m.book.file;
          };
        })) (sym e)
        ∙ ap (λ (y : Book). Some (record m { book = y })) (sym (leader_opened (Some (journal_rules shelf)) scripts m.book unfed))))

    by_role : (fed : Bool) → m.book.follows ≡ fed → made_in (book_of texts shelf (bodies ++ opening_bodies scripts m.book)) ≡ Some (Opened shelf scripts m)
    by_role true fed =
        ap (λ (bs : List (List ℕ)). made_in (book_of texts shelf (bodies ++ bs))) (bodies_fed scripts m.book fed)
        ∙ same_made (follower_opened (Some (journal_rules shelf)) scripts m.book fed)
    by_role false unfed =
        ap (λ (bs : List (List ℕ)). made_in (book_of texts shelf (bodies ++ bs))) (bodies_unfed scripts m.book unfed) ∙ by_test unfed (are_same scripts m.book.scripts) refl

pub are_records : AreRecordsExact → OpeningsAreRecords
are_records x texts shelf scripts given = (
  λ fits. ap made_in (made_first x texts shelf scripts fits given.read),
  λ bodies m is read. (goes_on shelf scripts (book_of texts shelf bodies) m is, renewed x texts shelf scripts given bodies m is read),
)
