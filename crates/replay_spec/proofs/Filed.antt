-- Books whose files tell them.
use Rattle.std.proofs.Common.{◌≡◌, ◌+◌, ℕ, List, [], ◌∷◌, ◌++◌, Option, Some, None, Bool, true, false, refl, sym, ap, ◌∙◌, append-nil, append_assoc, arith}
use Rattle.std.specs.Prelude.{if◌then◌else◌}
use Rattle.script_value.specs.declared.outcome.TxName.{TxName}
use Rattle.script_nodes.specs.Setup.{Named}
use Rattle.replay_spec.specs.Book.{Instance, Change, opens, extends, ends, finishes, sweeps, Line, changed, renewed, Book, reopened}
use Rattle.replay_spec.specs.Rules.{Rules}
use Rattle.replay_spec.specs.Change.{instances_by, clock_by, land}
use Rattle.replay_spec.specs.Compaction.{lines_length}
use Rattle.replay_spec.specs.Recovery.{remade, Made, number_in, is_repeated, with_number, taken_in, redone, redo, of_length, resettled, lines_after}
use Rattle.replay_spec.specs.Invariant.{Among}
use Rattle.replay_spec.specs.Remade.{AreTaken, IsLike}

-- what a record tells depends on the shelf, the setup, the clock and the instances
abbrev pub bare : (shelf : ℕ) → List Named → (clock : ℕ) → List Instance → Book
bare shelf scripts clock is = record {
  shelf = shelf;
  scripts = scripts;
  clock = clock;
  drawn = 0;
  logged = 0;
  length = 0;
  file = record { scripts = []; head = 0; drawn = None; lines = [] };
  out = [];
  down = None;
  follows = false;
  instances = is;
}

pub remade_bare : (b : Book) (c : Change) → remade b c ≡ remade (bare b.shelf b.scripts b.clock b.instances) c
remade_bare b (opens o) = refl
remade_bare b (extends x) = refl
remade_bare b (ends e) = refl
remade_bare b (finishes f) = refl
remade_bare b (sweeps tick) = refl

pub bare_like : (b c : Book) → IsLike b c → bare b.shelf b.scripts b.clock b.instances ≡ bare c.shelf c.scripts c.clock c.instances
bare_like b c h =
    ap (λ (n : ℕ). bare n b.scripts b.clock b.instances) h.shelf
    ∙ (ap (λ (ss : List Named). bare c.shelf ss b.clock b.instances) h.scripts
    ∙ (ap (λ (n : ℕ). bare c.shelf c.scripts n b.instances) h.clock ∙ ap (λ (is : List Instance). bare c.shelf c.scripts c.clock is) h.instances))

pub remade_like : (b c : Book) (x : Change) → IsLike b c → remade b x ≡ remade c x
remade_like b c x h = remade_bare b x ∙ (ap (λ (d : Book). remade d x) (bare_like b c h) ∙ sym (remade_bare c x))

pub like_self : (b : Book) → IsLike b b
like_self b = record { shelf = refl; scripts = refl; clock = refl; instances = refl }

pub like_then : (b c d : Book) → IsLike b c → IsLike c d → IsLike b d
like_then b c d one two = record { shelf = one.shelf ∙ two.shelf; scripts = one.scripts ∙ two.scripts; clock = one.clock ∙ two.clock; instances = one.instances ∙ two.instances }

pub like_back : (b c : Book) → IsLike b c → IsLike c b
like_back b c h = record { shelf = sym h.shelf; scripts = sym h.scripts; clock = sym h.clock; instances = sym h.instances }

-- a change lands alike under any rules
pub land_like : (r s : Rules) (b c : Book) (x : Change) (inside : List TxName) → IsLike b c → IsLike (land r x inside b) (land s x inside c)
land_like r s b c x inside h = record {
  shelf = h.shelf;
  scripts = h.scripts;
  clock = ap (λ (n : ℕ). clock_by x n) h.clock;
  instances = ap (λ (ss : List Named). instances_by ss x inside b.instances) h.scripts ∙ ap (λ (is : List Instance). instances_by c.scripts x inside is) h.instances;
}

-- the numbers of records stay among those that were seen where more were seen
abbrev pub SeenLess : List ℕ → List ℕ → Type 0
SeenLess ns ms = (n : ℕ) → Among n ns → Among n ms

-- the book after a record that is not passed over is that after its change
pub taken_redo : (r : Rules) (c : Change) (m : Made) (inside : List TxName) → taken_in m c ≡ Some inside
    → redo r c m ≡ record { book = reopened (land r c inside m.book); seen = with_number (number_in c) m.seen }
taken_redo r c m inside e = ap (λ (o : Option (List TxName)). record { book = reopened (redone r c o m.book); seen = with_number (number_in c) m.seen }) e

-- a record lands with the names that its script tells
pub taken_parts : (m : Made) (c : Change) (inside : List TxName) → taken_in m c ≡ Some inside → (is_repeated (number_in c) m.seen ≡ false) × (remade m.book c ≡ Some inside)
taken_parts m c inside e = by_test (is_repeated (number_in c) m.seen) refl e
  where
    by_test : (b : Bool) → is_repeated (number_in c) m.seen ≡ b → (if b then None else remade m.book c) ≡ Some inside → (is_repeated (number_in c) m.seen ≡ false) × (remade m.book c ≡ Some inside)
    by_test true is f = absurd (let no : ⊥ = cc in no)
    by_test false is f = (is, f)

pub taken_from : (m : Made) (c : Change) (inside : List TxName) → is_repeated (number_in c) m.seen ≡ false → remade m.book c ≡ Some inside → taken_in m c ≡ Some inside
taken_from m c inside new e = ap (λ (b : Bool). if b then None else remade m.book c) new ∙ e

-- the file of what lines make has those lines after its own, where none of them is passed over
pub file_of_lines : (ls : List Line) (m : Made) → AreTaken ls m → (lines_after ls m).book.file ≡ record m.book.file { lines = m.book.file.lines ++ ls }
file_of_lines [] m taken = ap (λ (xs : List Line). record m.book.file { lines = xs }) (sym (append-nil m.book.file.lines))
file_of_lines (changed c n ∷ ls) m taken =
    file_of_lines ls (redo (of_length n) c m) taken.1
    ∙ (ap (λ (x : Made). record x.book.file { lines = x.book.file.lines ++ ls }) (taken_redo (of_length n) c m taken.0.0 taken.0.1)
    ∙ ap (λ (xs : List Line). record m.book.file { lines = xs }) (append_assoc m.book.file.lines (changed c n ∷ []) ls))
file_of_lines (renewed scripts n ∷ ls) m taken =
    file_of_lines ls (resettled n scripts m) taken.1 ∙ ap (λ (xs : List Line). record m.book.file { lines = xs }) (append_assoc m.book.file.lines (renewed scripts n ∷ []) ls)

pub length_of_lines : (ls : List Line) (m : Made) → AreTaken ls m → (lines_after ls m).book.length ≡ m.book.length + lines_length ls
length_of_lines [] m taken = omega arith
length_of_lines (changed c n ∷ ls) m taken =
    let rest = length_of_lines ls (redo (of_length n) c m) taken.1 in
    let one : (redo (of_length n) c m).book.length ≡ m.book.length + (n + 5) = ap (λ (x : Made). x.book.length) (taken_redo (of_length n) c m taken.0.0 taken.0.1) in
    omega (arith, rest, one)
length_of_lines (renewed scripts n ∷ ls) m taken =
    let rest = length_of_lines ls (resettled n scripts m) taken.1 in
    omega (arith, rest)
