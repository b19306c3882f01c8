-- What a fresh shelf's file holds after a run makes the run's last book.
use Rattle.std.proofs.Common.{◌≡◌, ℕ, List, [], ◌∷◌, Some, refl, sym, ap, subst, ◌∙◌, slice_get, arith}
use Rattle.script_nodes.specs.Setup.{Named}
use Rattle.replay_spec.specs.Book.{Book, reopened}
use Rattle.replay_spec.specs.Rules.{Rules, empty_book}
use Rattle.replay_spec.specs.Step.{Event, take, publish, sweep, compact, crash}
use Rattle.replay_spec.specs.Recovery.{made_of_file}
use Rattle.replay_spec.specs.Invariant.{IsSound}
use Rattle.replay_spec.specs.Laws.{IsLawful, Moment, then_book, book_after, AreLawful}
use Rattle.replay_spec.specs.Remade.{NamesItsCells, NameTheirCells, GivesNamed, GivesByText, IsRemadeDoubt, IsExact}
use Rattle.replay_spec.proofs.Events.{stay_named}
use Rattle.replay_spec.proofs.Steps.{stepped, books_stay}
use Rattle.replay_spec.proofs.Filing.{filed, suffice, exact_made}
use Rattle.journal_records.specs.Records.{IsInGrammar, begin_of}
use Rattle.journal_spec.specs.Lengths.{journal_rules}
use Rattle.journal_spec.specs.Making.{Texts, book_of}
use Rattle.journal_spec.specs.Bodies.{bodies_of}
use Rattle.journal_spec.specs.Whole.{AreWhole}
use Rattle.journal_spec.specs.Files.{IsMade}
use Rattle.journal_spec.specs.Events.{IsGiven, Gives, IsSpelled, IsMet, AreMet, FreshFilesSuffice}
use Rattle.journal_spec.specs.Spelling.{IsInRange}
use Rattle.journal_spec.proofs.Ranges.{ranges_kept}
use Rattle.journal_spec.proofs.Owned.{names_cells}
use Rattle.journal_spec.proofs.Setups.{same_setup}
use Rattle.journal_spec.proofs.Files.{files_made}
use Rattle.journal_spec.proofs.Events.{written}
use Rattle.journal_spec.proofs.Landing.{CanLandDoubt, lands_can, doubt_can}

by_text : (texts : Texts) (event : Event) (b : Book) → Gives texts event → IsGiven texts b.scripts → GivesByText event b
by_text texts (take target answer) b h old = tt
by_text texts (publish t) b h old = tt
by_text texts (sweep tick) b h old = tt
by_text texts compact b h old = tt
by_text texts (crash scripts) b h old = same_setup texts scripts b.scripts h.read old.read

whole_named : (scripts : List Named) → AreWhole scripts → (k : ℕ) (s : Named) → slice_get scripts k ≡ Some s → NamesItsCells s
whole_named scripts h k s at = names_cells s (h k s at)

by_named : (texts : Texts) (event : Event) → Gives texts event → GivesNamed event
by_named texts (take target answer) h = tt
by_named texts (publish t) h = tt
by_named texts (sweep tick) h = tt
by_named texts compact h = tt
by_named texts (crash scripts) h = whole_named scripts h.whole

-- what holds of a book on the way
pub record Standing (texts : Texts) (shelf : ℕ) (b : Book) : Type 0 where
  pub is_shelf : b.shelf ≡ shelf
  pub sound : IsSound b
  pub named : NameTheirCells b
  pub doubt : IsRemadeDoubt b b.down
  pub exact : IsExact b
  pub spelled : IsSpelled texts b
  pub range : IsInRange b
  pub lands : CanLandDoubt b

-- it holds of the book of a fresh shelf
pub stands_first : (texts : Texts) (rules : Rules) (scripts : List Named) (shelf : ℕ) → rules.journal ≡ Some (journal_rules shelf) → IsGiven texts scripts → IsInGrammar (begin_of shelf scripts)
    → Standing texts shelf (empty_book rules scripts shelf)
stands_first texts rules scripts shelf e given begins = record {
  is_shelf = refl;
  sound = books_stay.0 rules scripts shelf;
  named = stay_named.0 rules scripts shelf (whole_named scripts given.whole);
  doubt = tt;
  exact = suffice.0 rules scripts shelf;
  spelled = written.0 texts rules scripts shelf e given begins;
  range = record { drawn = omega arith; clock = omega arith; doubt = tt };
  lands = tt;
}

-- the rules of an event that is met are over the journal of the book's shelf
pub rules_over : (texts : Texts) (shelf : ℕ) (m : Moment) (b : Book) → Standing texts shelf b → IsMet texts shelf m b → m.rules.journal ≡ Some (journal_rules b.shelf)
rules_over texts shelf m b h met = met.journal ∙ ap (λ (n : ℕ). Some (journal_rules n)) (sym h.is_shelf)

-- and of the book after an event
pub stands_next : (texts : Texts) (shelf : ℕ) (m : Moment) (b : Book) → Standing texts shelf b → IsLawful m.event b → IsMet texts shelf m b → Standing texts shelf (then_book m b)
stands_next texts shelf m b h lawful met =
    let at = rules_over texts shelf m b h met in
    let one = filed.1 m.rules b m.nonce m.event m.fate (journal_rules b.shelf) at met.fuel h.sound h.named h.doubt h.exact.filed lawful (by_text texts m.event b met.setup h.spelled.given) in
    let next = written.1 texts m.rules b m.nonce m.event m.fate at h.exact.filed (let logged = h.sound.orderly.logged in let low = h.range.drawn in omega (arith, logged, low)) (lands_can texts shelf m b met lawful h.sound.orderly h.named h.range h.lands) met.setup h.spelled in
    record {
      is_shelf = next.0 ∙ h.is_shelf;
      sound = (stepped m b h.sound lawful).sound;
      named = stay_named.1 b m h.sound.orderly h.named (by_named texts m.event met.setup);
      doubt = one.1;
      exact = one.2 h.exact;
      spelled = next.1;
      range = ranges_kept m.rules b m.nonce m.event m.fate h.sound.orderly h.range met.tick;
      lands = doubt_can texts shelf m b met lawful h.sound.orderly h.named h.range h.lands;
    }

ran : (texts : Texts) (shelf : ℕ) (ms : List Moment) (b : Book) → Standing texts shelf b → AreLawful ms b → AreMet texts shelf ms b → Standing texts shelf (book_after ms b)
ran texts shelf [] b h lawful here = h
ran texts shelf (m ∷ ms) b h lawful here = ran texts shelf ms (then_book m b) (stands_next texts shelf m b h lawful.0 here.0) lawful.1 here.1

pub fresh_suffice : FreshFilesSuffice
fresh_suffice texts rules scripts shelf ms e given begins lawful here =
    let b = empty_book rules scripts shelf in
    let c = book_after ms b in
    let end = ran texts shelf ms b (stands_first texts rules scripts shelf e given begins) lawful here in
    subst (λ (n : ℕ). IsMade (book_of texts n (bodies_of n c.file)) (made_of_file n c.file) × ((made_of_file n c.file).book ≡ reopened c)) end.is_shelf
    (files_made texts c.shelf c.file end.exact.filed.taken end.spelled.file, exact_made c end.exact)
