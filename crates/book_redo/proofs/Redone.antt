-- What records that are told again make of a book.
use Rattle.std.proofs.Common.{◌≡◌, ◌∙◌, ap, sym, subst, ℕ, zero, suc, ◌+◌, ◌<◌, ◌≤◌, Bool, true, false, List, [], map, length, Option, Some, None, option_map, Result, Ok, Err, refl, arith, Bor, inl, inr}
use Rattle.std.specs.Prelude.{IfOk, IfSome, IfNone, nat_lt, ◌⊎◌, not}
use Rattle.std.specs.Option.{is_some, option_copied}
use Rattle.std.specs.declared.alloc.AllocError.{AllocError}
use Rattle.std.proofs.Math.Nat.{max-zero}
use Rattle.std.proofs.lemmas.Bool.Decides.{nat_tests}
use Rattle.script_value.specs.declared.outcome.TxName.{TxName}
use Rattle.prim_spec.specs.Same.{same}
use Rattle.instance_cells.specs.Views.{effect_of}
use Rattle.instance_cells.specs.Cells.{Effect, landed}
use Rattle.script_nodes.specs.Setup.{Named, Library}
use Rattle.script_nodes.specs.Views.{named_of}
use Rattle.replay_spec.specs.Book.{Page, Instance, Change, ends, finishes, sweeps, Book, instance_at, page_at, reopened}
use Rattle.replay_spec.specs.Change.{mend, without, ended_by, logged_by, land}
use Rattle.replay_spec.specs.Admission.{◌>>=◌, when, Place}
use Rattle.replay_spec.specs.Next.{home}
use Rattle.replay_spec.specs.Recovery.{of_length, redone, number_in}
use Rattle.replay_spec.specs.Marks.{is_kept}
use Rattle.replay_spec.proofs.Numbered.{number_of}
use Rattle.machine_states.specs.Machine.{Suspended}
use Rattle.machine_states.specs.Views.{suspended_of}
use Rattle.machine_states.specs.declared.frame.Suspended as stored
use Rattle.frame_codec.specs.Forms.{read_form}
use Rattle.frame_codec.specs.FormViews.{before_of}
use Rattle.instance_book.specs.KeptStates.Links.{next_links, behind_at}
use Rattle.journal_records.specs.Records.{Record, begins, changes, renews, draws, follows, promotes}
use Rattle.journal_records.specs.Views.{ending_of, finish_of}
use Rattle.journal_records.specs.declared.records.EndedRecord.{EndedRecord}
use Rattle.journal_records.specs.declared.records.FinishRecord.{FinishRecord}
use Rattle.journal_spec.specs.Before.{state_at, Earlier}
use Rattle.journal_spec.specs.Retaking.{Told, unread, told, if_held, held}
use Rattle.instance_book.specs.declared.numbered.Numbered.{Numbered}
use Rattle.instance_book.specs.declared.in_order.InOrder.{InOrder}
use Rattle.instance_book.specs.declared.page.KeptPage.{KeptPage}
use Rattle.instance_book.specs.declared.instance.KeptInstance.{KeptInstance}
use Rattle.instance_book.specs.declared.place.Place as lent
use Rattle.instance_book.specs.declared.after.After.{After}
use Rattle.instance_book.specs.declared.shown.ShownState.{ShownState}
use Rattle.instance_book.specs.declared.book.Book as kept
use Rattle.instance_book.specs.Views.{Beside, book_of, instances_of, instance_of, pages_of}
use Rattle.instance_book.specs.Places.{own, given, source_in, AreStatesOf, arena_of}
use Rattle.instance_book.specs.Makes.{shelf_from, HasSomeStates, KeepsStates, Makes, Reopens}
use Rattle.instance_book.specs.Changes.{answered_by, ended_with}
use Rattle.instance_book.specs.Standing.{book_under, place_of, IsKeptAt, IsPlacedAt, IsPlaceOf, IsKeptWhere}
use Rattle.instance_book.specs.Segments.{IsLeftBy}
use Rattle.instance_book.specs.Swept.{swept}
use Rattle.book_redo.specs.Redo.{no_rules, counted_to, Counts, are_held, IsStateTold, IsBeforeIn, IsAnswerTold, HasNoAnswer, told_of, is_read, names_told, told_states, IsLandedBy, IsLanded, IsEndedIn, ended_in, MakesSo, IsLandedRecord, IsRedoneBy, file_with, StandsThere}
use Rattle.instance_book.proofs.Seen.{mend_agrees}
use Rattle.book_redo.proofs.Passed.{of_some, held_on, states_unread, same_states, none_either, unread_again, unread_new, counted_passed}

-- ---- endings, finishes and sweeps, whose states are not read

pub plain_landed : (library : Library) (c : Change) (again : Bool) (old new : kept.Book) → ((earlier : Earlier) → told_of library earlier old c None ≡ unread)
    → IsLandedBy library c (λ b. names_told again b c unread) old new → KeepsStates old new → IsLanded library c None again true old new
plain_landed library c again old new its made keeps earlier has = record {
  read_is = sym (ap is_read (its earlier));
  book = λ _ beside.
      let b = book_of library beside old in
      made beside ∙ ap (λ (x : Told). redone no_rules c (names_told again b c x) b) (sym (its earlier));
  same = λ no. absurd (let never : ⊥ = cc in never);
  told = λ _ free.
      same_states library.all earlier.states (told_states library again c (told_of library earlier old c None) old earlier.states) old new
      (ap (λ (t : Told). told_states library again c t old earlier.states) (its earlier) ∙ states_unread (names_told again (book_under library old) c unread) (number_in c) earlier.states) keeps has;
  states = λ left states. keeps (own tt) library.all states;
}

-- one whose number was seen, or that can't be of the book
pub plain_off : (library : Library) (c : Change) (again : Bool) (n : ℕ) (old new : kept.Book) → logged_by c ≡ n + 1 → ((earlier : Earlier) → told_of library earlier old c None ≡ unread)
    → ((again ≡ true) ⊎ ((beside : Beside) → held (book_of library beside old) c [] ≡ None)) → Counts n old new → KeepsStates old new → IsLanded library c None again true old new
plain_off library c again n old new logged its (inl e) counts keeps =
    plain_landed library c again old new its
    (λ beside. counted_passed library old new c n logged counts beside ∙ ap (λ (o : Option (List TxName)). redone no_rules c o (book_of library beside old)) (sym (unread_again again (book_of library beside old) c e))) keeps
plain_off library c again n old new logged its (inr off) counts keeps =
    plain_landed library c again old new its
    (λ beside.
    counted_passed library old new c n logged counts beside
    ∙ ap (λ (o : Option (List TxName)). redone no_rules c o (book_of library beside old)) (sym (none_either again (held (book_of library beside old) c []) (off beside)))) keeps

-- one that lands
pub plain_on : (library : Library) (c : Change) (again : Bool) (old new : kept.Book) → ((earlier : Earlier) → told_of library earlier old c None ≡ unread) → again ≡ false
    → ((beside : Beside) → held (book_of library beside old) c [] ≡ Some []) → ((beside : Beside) → book_of library beside new ≡ land no_rules c [] (book_of library beside old))
    → KeepsStates old new → IsLanded library c None again true old new
plain_on library c again old new its e on made keeps =
    plain_landed library c again old new its
    (λ beside.
    made beside
    ∙ ap (λ (o : Option (List TxName)). redone no_rules c o (book_of library beside old)) (sym (unread_new again (book_of library beside old) c e ∙ on beside))) keeps

-- the instance where the page of an ending or finish stands
abbrev place_in : ℕ → Instance → Option Place
place_in m i = page_at m i.pages >>= (λ p. Some (record { instance = i; page = p }))

abbrev ends_at : List Effect → Option Place → Option (List TxName)
ends_at es o = o >>= (λ at. if_held es at.instance.cells [])

module _ (b : kept.Book) (k m : ℕ) (es : List Effect) where
  module _ (i : Numbered KeptInstance) (here : (all : List Named) → Some (instance_of all i) ≡ instance_at k (instances_of all b.instances)) where
    ended_is : (o : Option Page) → o ≡ page_at m (pages_of i.item.pages) → (library : Library) (beside : Beside)
        → ended_in (book_of library beside b) k m es ≡ ends_at es (o >>= (λ p. Some (record { instance = instance_of library.all i; page = p })))
    ended_is o shown library beside =
        ap (λ (y : Option Instance). ends_at es (y >>= place_in m)) (sym (here library.all))
        ∙ ap (λ (y : Option Page). ends_at es (y >>= (λ p. Some (record { instance = instance_of library.all i; page = p })))) (sym shown)

    pub ended_no_page : None ≡ page_at m (pages_of i.item.pages) → (library : Library) (beside : Beside) → ended_in (book_of library beside b) k m es ≡ None
    ended_no_page none = ended_is None none

    module _ (p : Page) (shown : Some p ≡ page_at m (pages_of i.item.pages)) where
      pub ended_off : false ≡ are_held es i.item.cells → (library : Library) (beside : Beside) → ended_in (book_of library beside b) k m es ≡ None
      ended_off off library beside = ended_is (Some p) shown library beside ∙ ap (λ (t : Bool). when t []) (sym off)

      pub ended_on : true ≡ are_held es i.item.cells → IsEndedIn b k m es i
      ended_on on = record {
        number = number_of (λ (y : Instance). y.number) k (instances_of [] b.instances) (instance_of [] i) (sym (here []));
        here = λ all. sym (here all);
        so = λ library beside. ended_is (Some p) shown library beside ∙ ap (λ (t : Bool). when t []) (sym on);
        on = held_on es i.item.cells (sym on);
      }

-- an ending that lands
pub ending_lands : (library : Library) (again : Bool) (old new : kept.Book) (r : EndedRecord) (i : Numbered KeptInstance) (after : After) → again ≡ false
    → IsEndedIn old r.instance r.page (map effect_of r.effects.items) i → IsLeftBy r.effects.items r.left.items i.item after
    → Makes (λ b. counted_to r.ticket (record b { instances = mend r.instance (ended_with r.page r.ticket after) b.instances })) old new → KeepsStates old new
    → IsLanded library (ends (ending_of r)) None again true old new
ending_lands library again old new r i after e is left lands keeps =
    plain_on library (ends (ending_of r)) again old new (λ earlier. refl) e (is.so library)
    (λ beside.
    let b = book_of library beside old in
    let at = instance_of library.all i in
    let ended : ended_with r.page r.ticket after at ≡ ended_by (ending_of r) at = ap (λ (j : Instance). answered_by r.page r.ticket j) (left library.all i.number) in
    lands library beside
    ∙ ap (λ (is : List Instance). counted_to r.ticket (record b { instances = is }))
    (mend_agrees r.instance (ended_with r.page r.ticket after) (ended_by (ending_of r)) b.instances at (is.here library.all) ended)) keeps

-- a finish that lands
pub finish_lands : (library : Library) (again : Bool) (old new : kept.Book) (r : FinishRecord) (i : Numbered KeptInstance) → again ≡ false
    → IsEndedIn old r.instance r.page (map effect_of r.effects.items) i
    → Makes (λ b. counted_to r.ticket (record b { instances = without r.instance b.instances })) old new → KeepsStates old new
    → IsLanded library (finishes (finish_of r)) None again true old new
finish_lands library again old new r i e is lands keeps = plain_on library (finishes (finish_of r)) again old new (λ earlier. refl) e (is.so library) (λ beside. lands library beside) keeps

-- a tick
pub sweep_off : (library : Library) (tick : ℕ) (old : kept.Book) → tick ≤ old.clock → IsLanded library (sweeps tick) None false true old old
sweep_off library tick old late =
    plain_landed library (sweeps tick) false old old (λ earlier. refl)
    (λ beside.
    let b = book_of library beside old in
    let test : nat_lt b.clock tick ≡ false = grind (arith, nat_tests, late) in
    ap (λ (n : ℕ). record b { logged = n }) (sym (max-zero b.logged))
    ∙ ap (λ (o : Option (List TxName)). redone no_rules (sweeps tick) o b) (sym (ap (λ (t : Bool). when t []) test))) (λ source all has. has)

pub sweep_on : (library : Library) (tick : ℕ) (old new : kept.Book) → old.clock < tick → Makes (swept tick) old new → KeepsStates old new → IsLanded library (sweeps tick) None false true old new
sweep_on library tick old new later made keeps =
    plain_on library (sweeps tick) false old new (λ earlier. refl) refl
    (λ beside.
    let b = book_of library beside old in
    let test : nat_lt b.clock tick ≡ true = grind (arith, nat_tests, later) in
    ap (λ (t : Bool). when t []) test)
    (λ beside.
    let b = book_of library beside old in
    made library beside ∙ ap (λ (n : ℕ). record (swept tick b) { logged = n }) (sym (max-zero b.logged))) keeps

-- ---- as after a crash

-- rules have to do with a record's length and its line in the file alone
lengthened : (n : ℕ) (c : Change) (o : Option (List TxName)) (b : Book)
    → record (reopened (redone no_rules c o b)) { length = b.length + (n + 5); file = file_with n c o b.file } ≡ reopened (redone (of_length n) c o b)
lengthened n c None b = refl
lengthened n c (Some inside) b = refl

pub reopens_then : (f : Book → Book) (old mid new : kept.Book) → MakesSo f old mid → Reopens (λ b. b) mid new → Reopens f old new
reopens_then f old mid new made again = record {
  book = λ library beside. again.book library beside ∙ ap (λ (b : Book). reopened b) (made.book library beside);
  states = λ source all has. again.states source all (made.states source all has);
}

pub reopened_by : (library : Library) (r : Record) (again : Bool) (old mid new : kept.Book) → IsLandedRecord library r again true old mid → Reopens (λ b. b) mid new → IsRedoneBy library r again true old new
reopened_by library (begins shelf named) again old mid new landed after = (refl, reopens_then (λ b. b) old mid new landed.1 after)
reopened_by library (renews named) again old mid new landed after = (refl, reopens_then (λ b. b) old mid new landed.1 after)
reopened_by library (draws number) again old mid new landed after = (refl, reopens_then (λ b. record b { logged = number }) old mid new landed.1 after)
reopened_by library follows again old mid new landed after = (refl, reopens_then (λ b. b) old mid new landed.1 after)
reopened_by library promotes again old mid new landed after = (refl, reopens_then (λ b. b) old mid new landed.1 after)
reopened_by library (changes c state) again old mid new landed after = λ earlier has.
    let h = landed earlier has in
    record {
      read_is = h.read_is;
      book = λ _ n beside.
          let b = book_of library beside old in
          let o = names_told again b c (told_of library earlier old c state) in
          ap (λ (y : Book). record y { length = beside.length + (n + 5); file = file_with n c o beside.file }) (after.book library beside)
          ∙ (ap (λ (y : Book). record (reopened y) { length = beside.length + (n + 5); file = file_with n c o beside.file }) (h.book refl beside) ∙ lengthened n c o b);
      same = λ no. absurd (let never : ⊥ = cc in never);
      told = λ _ free. after.states (given (λ n. state_at n (told_states library again c (told_of library earlier old c state) old earlier.states))) library.all (h.told refl free);
      states = λ left states. after.states (own tt) library.all (h.states left states);
    }

pub misread_by : (library : Library) (r : Record) (again : Bool) (old new : kept.Book) → IsLandedRecord library r again false old new → IsRedoneBy library r again false old new
misread_by library (begins shelf named) again old new landed = absurd (let no : false ≡ true = landed.0 in let never : ⊥ = cc in never)
misread_by library (renews named) again old new landed = absurd (let no : false ≡ true = landed.0 in let never : ⊥ = cc in never)
misread_by library (draws number) again old new landed = absurd (let no : false ≡ true = landed.0 in let never : ⊥ = cc in never)
misread_by library follows again old new landed = absurd (let no : false ≡ true = landed.0 in let never : ⊥ = cc in never)
misread_by library promotes again old new landed = absurd (let no : false ≡ true = landed.0 in let never : ⊥ = cc in never)
misread_by library (changes c state) again old new landed = λ earlier has.
    let h = landed earlier has in
    record {
      read_is = h.read_is;
      book = λ yes. absurd (let no : ⊥ = cc in no);
      same = h.same;
      told = λ yes. absurd (let no : ⊥ = cc in no);
      states = h.states;
    }

-- after more links than none
pub behind_more : (n : ℕ) (o : Option Suspended) → (n ≡ 0 → ⊥) → o ≡ behind_at n o
behind_more zero o more = absurd (more refl)
behind_more (suc n) o more = refl

-- what is told of an answer, of the bytes after the state that is there
pub answer_told : (s : Named) (ps : InOrder KeptPage) (p : Numbered KeptPage) (bytes : List ℕ) (before : Option Suspended) (count : ℕ) (r : Result (Option ShownState) AllocError)
    → count ≡ next_links p.item.state.links → IsBeforeIn s ps p before
    → IfOk r (λ x. IfSome x (IsStateTold (arena_of s.script) before count bytes)) → IfOk r (λ x. IfSome x (IsAnswerTold s ps p bytes))
answer_told s ps p bytes before count (Err e) many behind h = tt
answer_told s ps p bytes before count (Ok None) many behind h = tt
answer_told s ps p bytes before count (Ok (Some x)) many behind h = λ are.
    subst (λ (o : Option Suspended). IsStateTold (arena_of s.script) o (next_links p.item.state.links) bytes x) (behind are)
    (subst (λ (n : ℕ). IsStateTold (arena_of s.script) before n bytes x) many h)

pub no_answer_told : (s : Named) (ps : InOrder KeptPage) (p : Numbered KeptPage) (bytes : List ℕ) (before : Option Suspended) (r : Result (Option ShownState) AllocError)
    → IsBeforeIn s ps p before
    → IfOk r (λ x. IfNone x (read_form (arena_of s.script) before bytes ≡ None)) → IfOk r (λ x. IfNone x (HasNoAnswer s ps p bytes))
no_answer_told s ps p bytes before (Err e) behind none = tt
no_answer_told s ps p bytes before (Ok (Some x)) behind none = tt
no_answer_told s ps p bytes before (Ok None) behind none = λ are.
    subst (λ (o : Option Suspended). read_form (arena_of s.script) o bytes ≡ None) (behind are) none

-- ---- on the way

-- no page that is gone is used
pub none_is_kept : (g : Option ℕ) (r : Bool) → is_some g ≡ not r → r ≡ is_kept g
none_is_kept None true e = refl
none_is_kept None false e = absurd (let never : ⊥ = cc in never)
none_is_kept (Some n) true e = absurd (let never : ⊥ = cc in never)
none_is_kept (Some n) false e = refl

-- a page that stands under numbers
pub stands_there : (library : Library) (b : kept.Book) (k m : ℕ) (o : Option lent.Place) (p : lent.Place) → o ≡ Some p → IsPlaceOf library b k m o → IfSome o (IsPlacedAt library.all)
    → IsKeptWhere library b o → StandsThere library b k m p
stands_there library b k m o p is found placed has = record {
  found = sym found ∙ ap (option_map (place_of library.all)) is;
  placed = of_some o p (IsPlacedAt library.all) is placed;
  kept = λ source states. of_some o p (IsKeptAt library.all (shelf_from source b.shelf)) is (has source states);
}

pub place_states : (library : Library) (b : kept.Book) (k m : ℕ) (p : lent.Place) → StandsThere library b k m p → HasSomeStates library.all b
    → AreStatesOf (named_of p.script.now) p.instance.now.item.pages p.page.now
place_states library b k m p there some =
    let h = there.kept (given some.0) some.1 in
    record { home = source_in (named_of p.script.now) (shelf_from (given some.0) b.shelf) p.instance.now.number; all = h.pages; own = h.state }

-- the state that is lent
pub lent_before : (o : Option (Bor stored.Suspended)) (p : Option stored.Suspended) → option_copied o ≡ p → before_of o ≡ option_map suspended_of p
lent_before None p e = ap (option_map suspended_of) e
lent_before (Some x) p e = ap (option_map suspended_of) e
