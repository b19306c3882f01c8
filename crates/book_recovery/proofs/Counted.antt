-- A record opens one instance at most.
use Rattle.std.proofs.Common.{◌≡◌, ◌∙◌, ap, sym, subst, ℕ, ◌+◌, ◌≤◌, Bool, not, ◌==◌, List, [], length, Option, Some, None, slice_get, refl, arith}
use Rattle.script_value.specs.declared.outcome.TxName.{TxName}
use Rattle.script_nodes.specs.Setup.{Named, Library}
use Rattle.replay_spec.specs.Book.{Change, opens, extends, ends, finishes, sweeps, Instance, Book, is_live, reopened, page_by, root_by}
use Rattle.replay_spec.specs.Change.{opened_by, instances_by, shown_by, ended_by, fresh}
use Rattle.replay_spec.specs.Recovery.{redone, of_length, is_repeated, number_in}
use Rattle.book_redo.specs.InstanceBook.declared.in_order.InOrder.{InOrder}
use Rattle.book_redo.specs.InstanceBook.declared.book.Book as kept
use Rattle.book_redo.specs.InstanceBook.Makes.{count_of}
use Rattle.book_redo.specs.InstanceBook.Views.{no_journal, instance_of}
use Rattle.book_redo.specs.InstanceBook.Standing.{book_under}
use Rattle.book_redo.specs.InstanceBook.Swept.{IsEmpty}
use Rattle.book_redo.specs.InstanceBook.Makes.{rules_with}
use Rattle.book_redo.specs.Redo.{told_of, names_told}
use Rattle.book_redo.proofs.InstanceBook.Seen.{length_seen, length_mend, length_put, length_kept}
use Rattle.journal_records.specs.Records.{Record, begins, changes, renews, draws, follows, promotes}
use Rattle.book_redo.specs.declared.renew.Renewed.TheVariants as renewed
use Rattle.book_recovery.specs.declared.found.Found.{Found}
use Rattle.book_recovery.specs.declared.found.Found.TheVariants as found
use Rattle.book_recovery.specs.Reading.{seen_by, IsUnderWay, IsMadeOf, IsMadeIn, Begins, HasFew, CountsOneMore}
use Rattle.book_recovery.proofs.Made.{as_it_is}

-- how many instances a book has
count_seen : (library : Library) (b : kept.Book) → length (book_under library b).instances ≡ count_of b
count_seen library b = length_seen (instance_of library.all) b.instances.things.items

opened_count : (s : Option Named) (o : _) (inside : List TxName) (is : List Instance) → length (opened_by s o inside is) ≤ length is + 1
opened_count None o inside is = omega arith
opened_count (Some s) o inside is = length_put (shown_by o.effects o.left o.kind [] (root_by o inside) (fresh s o.number)) is

changed_count : (scripts : List Named) (c : Change) (inside : List TxName) (is : List Instance) → length (instances_by scripts c inside is) ≤ length is + 1
changed_count scripts (opens o) inside is = opened_count (slice_get scripts o.script) o inside is
changed_count scripts (extends x) inside is = omega (arith, length_mend x.instance (shown_by x.effects x.left x.kind x.evicted (page_by x inside)) is)
changed_count scripts (ends e) inside is = omega (arith, length_mend e.instance (ended_by e) is)
changed_count scripts (finishes f) inside is = omega (arith, length_kept (λ (i : Instance). not (i.number == f.instance)) is)
changed_count scripts (sweeps tick) inside is = omega (arith, length_kept (is_live tick) is)

redone_count : (c : Change) (o : Option (List TxName)) (b : Book) → length (reopened (redone (of_length 0) c o b)).instances ≤ length b.instances + 1
redone_count c None b = omega arith
redone_count c (Some inside) b = changed_count b.scripts c inside b.instances

-- a book whose instances are those of another one, or one more
pub more_counted : (library : Library) (old new : kept.Book) (b c : Book) → b.instances ≡ (book_under library old).instances → (book_under library new).instances ≡ c.instances
    → length c.instances ≤ length b.instances + 1 → count_of new ≤ count_of old + 1
more_counted library old new b c before after few =
    let one : length b.instances ≡ count_of old = ap (λ (is : List Instance). length is) before ∙ count_seen library old in
    let two : count_of new ≡ length c.instances = sym (count_seen library new) ∙ ap (λ (is : List Instance). length is) after in
    omega (arith, one, two, few)

-- a record makes a book of one instance more at most
pub redone_few : (shelf : ℕ) (alone : Bool) (library : Library) (seen : InOrder (Unit {0})) (r : Record) (old : kept.Book) (o : Option kept.Book) → IsUnderWay shelf alone seen old library
    → IsMadeOf library seen r old o → CountsOneMore old o
redone_few shelf alone library seen r old None way made = tt
redone_few shelf alone library seen (begins s named) old (Some new) way made =
    more_counted library old new (book_under library old) (book_under library old) refl (ap (λ (y : Book). y.instances) (made.1.book library no_journal)) (omega arith)
redone_few shelf alone library seen follows old (Some new) way made =
    more_counted library old new (book_under library old) (book_under library old) refl (ap (λ (y : Book). y.instances) (made.1.book library no_journal)) (omega arith)
redone_few shelf alone library seen promotes old (Some new) way made =
    more_counted library old new (book_under library old) (book_under library old) refl (ap (λ (y : Book). y.instances) (made.1.book library no_journal)) (omega arith)
redone_few shelf alone library seen (renews named) old (Some new) way made =
    more_counted library old new (book_under library old) (book_under library old) refl (ap (λ (y : Book). y.instances) (made.1.book library no_journal)) (omega arith)
redone_few shelf alone library seen (draws number) old (Some new) way made =
    more_counted library old new (book_under library old) (book_under library old) refl (ap (λ (y : Book). y.instances) (made.1.book library no_journal)) (omega arith)
redone_few shelf alone library seen (changes c state) old (Some new) way made =
    let h = made way.tells.0 way.tells.1.states in
    let x = told_of library way.tells.0 old c state in
    let names = names_told (is_repeated (number_in c) (seen_by seen)) (book_under library old) c x in
    let b = book_under library old in
    more_counted library old new b (reopened (redone (of_length 0) c names b)) refl (ap (λ (y : Book). y.instances) (h.book refl 0 no_journal)) (redone_count c names b)

-- so does a record of any format
pub told_few : (format shelf : ℕ) (alone : Bool) (library : Library) (seen : InOrder (Unit {0})) (r : Record) (old : kept.Book) (o : Option kept.Book) → IsUnderWay shelf alone seen old library
    → IsMadeIn format library seen r old o → CountsOneMore old o
told_few format shelf alone library seen r old None way made = tt
told_few format shelf alone library seen (begins s named) old (Some new) way (x, (alike, made)) =
    redone_few shelf alone library seen (begins s named) old (Some new) way (as_it_is library seen old (Some new) (begins s named) x alike made)
told_few format shelf alone library seen (renews named) old (Some new) way (x, (alike, made)) =
    redone_few shelf alone library seen (renews named) old (Some new) way (as_it_is library seen old (Some new) (renews named) x alike made)
told_few format shelf alone library seen follows old (Some new) way (x, (alike, made)) =
    redone_few shelf alone library seen follows old (Some new) way (as_it_is library seen old (Some new) follows x alike made)
told_few format shelf alone library seen promotes old (Some new) way (x, (alike, made)) =
    redone_few shelf alone library seen promotes old (Some new) way (as_it_is library seen old (Some new) promotes x alike made)
told_few format shelf alone library seen (draws number) old (Some new) way (x, (alike, made)) =
    redone_few shelf alone library seen (draws number) old (Some new) way (as_it_is library seen old (Some new) (draws number) x alike made)
told_few format shelf alone library seen (changes c state) old (Some new) way (renewed.Told l, (alike, made)) =
    redone_few shelf alone library seen (changes c alike.0) old (Some new) way (subst (λ (q : Record). IsMadeOf library seen q old (Some new)) alike.1.0 made)
told_few format shelf alone library seen (changes c state) old (Some new) way (renewed.Passed, (passes, made)) =
    more_counted library old new (book_under library old) (book_under library old) refl (ap (λ (y : Book). y.instances) (made.1.1.book library no_journal)) (omega arith)
told_few format shelf alone library seen (changes c state) old (Some new) way (renewed.Misread, (outside, made)) = absurd (let no : ⊥ = cc in no)

-- an empty book has none
pub empty_few : (shelf : ℕ) (b : kept.Book) → IsEmpty shelf b → count_of b ≡ 0
empty_few shelf b empty =
    let none : Library = record { all = []; setup = [] } in
    sym (length_seen (instance_of []) b.instances.things.items) ∙ ap (λ (y : Book). length y.instances) (empty none (rules_with 0 0 0 0))

-- what the first record makes
pub begun_few : (shelf place number : ℕ) (texts : List (List ℕ × List ℕ)) (f : Found) → Begins shelf place number texts f → (n : ℕ) → HasFew n f
begun_few shelf place number texts found.Nothing made n = absurd made
begun_few shelf place number texts (found.Made b library) made n = omega (arith, empty_few shelf b made.1.empty)
begun_few shelf place number texts (found.Damaged p) made n = tt
begun_few shelf place number texts (found.Other p) made n = tt
begun_few shelf place number texts found.Memory made n = tt
