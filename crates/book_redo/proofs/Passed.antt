-- What records that are told again are tested by, and what they make of a book that passes them over.
use Rattle.std.proofs.Common.{◌≡◌, ◌∙◌, ap, sym, subst, ℕ, zero, suc, ◌+◌, max, Bool, true, false, List, [], ◌∷◌, map, length, Option, Some, None, Result, Ok, Err, if◌then◌else◌, refl, arith}
use Rattle.std.specs.Prelude.{IsOk, IfSome, IfNone, nat_lt, ◌&&◌, ◌==◌, not, filter}
use Rattle.std.proofs.Math.Bool.{and-false}
use Rattle.std.proofs.lemmas.Bool.{and_parts, and_from, false_from_ne_true}
use Rattle.std.proofs.lemmas.Bool.Decides.{nat_tests}
use Rattle.std.proofs.lemmas.Option.{same_Some}
use Rattle.script_value.specs.Val.{Val}
use Rattle.script_value.specs.declared.outcome.TxName.{TxName}
use Rattle.prim_spec.specs.Same.{same}
use Rattle.prim_spec.proofs.Tests.{equal_is_same}
use Rattle.instance_cells.specs.Cells.{Effect, read, set, add, cell_of, cell_at, sum, landed, Stands, Holds, AreOn}
use Rattle.script_nodes.specs.Arena.{Arena, IsScript, script_of}
use Rattle.script_nodes.specs.Setup.{Named, Library}
use Rattle.replay_spec.specs.Book.{Use, Change, Book}
use Rattle.replay_spec.specs.Change.{logged_by}
use Rattle.replay_spec.specs.Admission.{when, is_one}
use Rattle.replay_spec.specs.Eviction.{but}
use Rattle.replay_spec.specs.Recovery.{is_ok, stands_over, are_on, hold_over, is_used, can_go, if_can_go, redone, number_in}
use Rattle.replay_spec.specs.Invariant.{AreAbove, IsRising}
use Rattle.replay_spec.specs.Marks.{Mark, is_kept, stays, uses_of, mark_at, number_of as number_of_mark, use_of as use_of_mark}
use Rattle.replay_spec.proofs.Tests.{holds_is, on_is}
use Rattle.machine_states.specs.Machine.{Suspended, inside_of}
use Rattle.machine_states.specs.Views.{suspended_of}
use Rattle.machine_states.specs.declared.frame.Suspended as stored
use Rattle.frame_codec.specs.Stored.{IsStored}
use Rattle.frame_codec.specs.Forms.{read_form}
use Rattle.instance_book.specs.KeptStates.Kept.{Form, IsKeptBy, IsFormed, kept_of}
use Rattle.instance_book.specs.KeptStates.Links.{behind_at}
use Rattle.instance_book.specs.KeptStates.Told as kept_told
use Rattle.instance_book.specs.KeptStates.declared.state.ToldState.{ToldState}
use Rattle.journal_spec.specs.Before.{States, state_at, Earlier}
use Rattle.journal_spec.specs.Retaking.{Told, unread, misread, told, held, states_with}
use Rattle.instance_book.specs.declared.shown.ShownState.{ShownState}
use Rattle.instance_book.specs.declared.book.Book as kept
use Rattle.instance_book.specs.Views.{Beside, no_journal, book_of}
use Rattle.instance_book.specs.Places.{own, given, arena_of}
use Rattle.instance_book.specs.Makes.{KeepsStates}
use Rattle.book_redo.specs.Redo.{no_rules, Counts, are_held, IsStateTold, told_of, HasToldStates, is_read, names_told, told_states, IsLandedBy, IsLandedBehind}
use Rattle.instance_book.proofs.Behind.{arena_again}

-- what holds of an option's value, and what holds where there is none
pub of_some : {X : Type 0} (o : Option X) (x : X) (P : X → Type 0) → o ≡ Some x → IfSome o P → P x
of_some None x P is h = absurd (let no : ⊥ = cc in no)
of_some (Some y) x P is h = subst P (same_Some y x is) h

pub of_none : {X : Type 0} (o : Option X) (P : Type 0) → o ≡ None → IfNone o P → P
of_none None P is h = h
of_none (Some y) P is h = absurd (let no : ⊥ = cc in no)

-- ---- effects that are held

ok_from : {A E : Type 0} (r : Result A E) → is_ok r ≡ true → IsOk r
ok_from (Ok x) h = refl
ok_from (Err e) h = absurd (let no : ⊥ = cc in no)

stands_from : (e : Effect) (w : Val) → stands_over e w ≡ true → (Stands e w → ⊥) → ⊥
stands_from (read c v) w h never =
    let other : same w v ≡ false = equal_is_same w v false (λ t. absurd (let not : ⊥ = cc in not), λ e. absurd (never e)) in
    let contradicts : ⊥ = cc in contradicts
stands_from (set c v) w h never = never tt
stands_from (add c n) w h never = never (ok_from (sum w n) h)

holds_from : (es : List Effect) (cells : List Val) → hold_over es cells ≡ true → (Holds es cells → ⊥) → ⊥
holds_from [] cells h never = never tt
holds_from (e ∷ es) cells h never =
    let w = cell_at cells (cell_of e) in
    let both = and_parts (stands_over e w) (hold_over es (landed e cells)) h in
    stands_from e w both.0 (λ s. holds_from es (landed e cells) both.1 (λ hs. never (s, hs)))

on_from : (n : ℕ) (es : List Effect) → are_on n es ≡ true → AreOn n es
on_from n [] h = tt
on_from n (e ∷ es) h =
    let both = and_parts (nat_lt (cell_of e) n) (are_on n es) h in
    let low = both.0 in
    (grind (arith, nat_tests, low), on_from n es both.1)

pub held_off : (es : List Effect) (cells : List Val) → (AreOn (length cells) es → ⊥) → are_held es cells ≡ false
held_off es cells off = false_from_ne_true (are_held es cells) (λ t. off (on_from (length cells) es (and_parts (are_on (length cells) es) (hold_over es cells) t).0))

pub held_by : (es : List Effect) (cells : List Val) (r : Bool) → AreOn (length cells) es → ((r ≡ true → Holds es cells) × (Holds es cells → r ≡ true)) → r ≡ are_held es cells
held_by es cells true on h = sym (and_from (are_on (length cells) es) (hold_over es cells) (on_is (length cells) es on) (holds_is es cells (h.0 refl)))
held_by es cells false on h =
    sym (false_from_ne_true (are_held es cells) (λ t. holds_from es cells (and_parts (are_on (length cells) es) (hold_over es cells) t).1
    (λ holds. let yes : false ≡ true = h.1 holds in let not : ⊥ = cc in not)))

pub held_on : (es : List Effect) (cells : List Val) → are_held es cells ≡ true → AreOn (length cells) es
held_on es cells e = on_from (length cells) es (and_parts (are_on (length cells) es) (hold_over es cells) e).0

-- these names, where the pages can go and the effects hold
pub can_when : (ns : List ℕ) (us : List Use) (t : Bool) (inside : List TxName) → if_can_go ns us (when t inside) ≡ when (can_go ns us && t) inside
can_when ns us t inside = by_test (can_go ns us) t
  where
    by_test : (b t : Bool) → (if b then when t inside else None) ≡ when (b && t) inside
    by_test true t = refl
    by_test false t = refl

-- ---- the states that were told

pub told_more : (n : ℕ) (d : Suspended) (ss : States) → state_at n ss ≡ None → (m : ℕ) (e : Suspended) → state_at m ss ≡ Some e → state_at m ((n, d) ∷ ss) ≡ Some e
told_more n d ss none m e is = by_test (n == m) refl
  where
    by_test : (t : Bool) → (n == m) ≡ t → (if t then Some d else state_at m ss) ≡ Some e
    by_test true same =
        let here : n ≡ m = grind (arith, nat_tests, same) in
        let no : None ≡ Some e = sym none ∙ (ap (λ (k : ℕ). state_at k ss) here ∙ is) in absurd (let never : ⊥ = cc in never)
    by_test false other = is

pub states_unread : (o : Option (List TxName)) (number : Option ℕ) (ss : States) → states_with o number unread ss ≡ ss
states_unread None number ss = refl
states_unread (Some names) None ss = refl
states_unread (Some names) (Some n) ss = refl

-- no state is told with it
pub same_states : (all : List Named) (ss ts : States) (old new : kept.Book) → ts ≡ ss → KeepsStates old new → HasToldStates all ss old → HasToldStates all ts new
same_states all ss ts old new same keeps has =
    subst (λ (xs : States). HasToldStates all xs new) (sym same) (keeps (given (λ n. state_at n ss)) all has)

-- ---- a record that is passed over, and one whose state can't be read

pub none_either : (again : Bool) (o : Option (List TxName)) → o ≡ None → (if again then None else o) ≡ None
none_either true o e = refl
none_either false o e = e

-- the names of a state
pub names_there : (again : Bool) (b : Book) (c : Change) (d : Suspended) (names : Option (List TxName)) → again ≡ false → held b c (inside_of d.frames) ≡ names → names_told again b c (told d) ≡ names
names_there true b c d names e h = absurd (let no : ⊥ = cc in no)
names_there false b c d names e h = h

pub names_again : (again : Bool) (b : Book) (c : Change) (d : Suspended) → again ≡ true → names_told again b c (told d) ≡ None
names_again true b c d e = refl
names_again false b c d e = absurd (let no : ⊥ = cc in no)

pub unread_again : (again : Bool) (b : Book) (c : Change) → again ≡ true → names_told again b c unread ≡ None
unread_again true b c e = refl
unread_again false b c e = absurd (let no : ⊥ = cc in no)

pub unread_new : (again : Bool) (b : Book) (c : Change) → again ≡ false → names_told again b c unread ≡ held b c []
unread_new true b c e = absurd (let no : ⊥ = cc in no)
unread_new false b c e = refl

module _ (library : Library) (old new : kept.Book) where
  -- it counts
  pub counted_passed : (c : Change) (n : ℕ) → logged_by c ≡ n + 1 → Counts n old new → IsLandedBy library c (λ b. None) old new
  counted_passed c n logged counts beside =
      let b = book_of library beside old in
      counts library beside ∙ ap (λ (m : ℕ). record b { logged = max b.logged m }) (sym logged)

  pub passed : (earlier : Earlier) (c : Change) (state : Option (List ℕ)) (again : Bool) (x : Told) (n : ℕ) → logged_by c ≡ n + 1 → Counts n old new → KeepsStates old new
      → told_of library earlier old c state ≡ x → is_read x ≡ true → ((beside : Beside) → names_told again (book_of library beside old) c x ≡ None)
      → HasToldStates library.all earlier.states old → IsLandedBehind library earlier c state again true old new
  passed earlier c state again x n logged counts keeps its so_read none has = record {
    read_is = sym (ap is_read its ∙ so_read);
    book = λ _ beside.
        let b = book_of library beside old in
        counted_passed c n logged counts beside
        ∙ sym (ap (λ (o : Option (List TxName)). redone no_rules c o b) (ap (names_told again b c) its ∙ none beside));
    same = λ no. absurd (let never : ⊥ = cc in never);
    told = λ _ free.
        same_states library.all earlier.states (told_states library again c (told_of library earlier old c state) old earlier.states) old new
        (ap (λ (t : Told). told_states library again c t old earlier.states) its ∙ ap (λ (o : Option (List TxName)). states_with o (number_in c) x earlier.states) (none no_journal)) keeps has;
    states = λ left states. keeps (own tt) library.all states;
  }

pub misread_so : (library : Library) (earlier : Earlier) (c : Change) (state : Option (List ℕ)) (again : Bool) (old : kept.Book) → told_of library earlier old c state ≡ misread
    → IsLandedBehind library earlier c state again false old old
misread_so library earlier c state again old its = record {
  read_is = sym (ap is_read its);
  book = λ yes. absurd (let no : ⊥ = cc in no);
  same = λ _ l beside. refl;
  told = λ yes. absurd (let no : ⊥ = cc in no);
  states = λ left states. states;
}

-- ---- what is kept of a state that was told

pub formed_kept : (p : Suspended) (links : ℕ) (d : Suspended) (f : Form) → IsFormed (behind_at links (Some p)) d f → IsKeptBy (Some p) links d f
formed_kept p zero d f h = h
formed_kept p (suc n) d f h = h

-- what is read of the bytes for a script is read for what it means
pub read_again : (a : Arena) (before : Option Suspended) (bytes : List ℕ) (o : Option Suspended) → IsScript a → o ≡ read_form a before bytes
    → read_form (arena_of (script_of a)) before bytes ≡ o
read_again a before bytes o script so_read = ap (λ (b : Arena). read_form b before bytes) (arena_again a script) ∙ sym so_read

pub state_told : (a : Arena) (before : Option Suspended) (links : ℕ) (bytes : List ℕ) (x : ToldState) (p : ShownState) → IsScript a → Some (suspended_of x.state) ≡ read_form a before bytes
    → kept_told.IsTold a before links bytes x → p.state ≡ x.state → p.kept ≡ x.kept → p.inside.items ≡ inside_of (suspended_of p.state).frames
    → IsStateTold (arena_of (script_of a)) before links bytes p
state_told a before links bytes x p script so_read is state kept inside = record {
  state = read_again a before bytes (Some (suspended_of p.state)) script (ap (λ (d : stored.Suspended). Some (suspended_of d)) state ∙ so_read);
  stored =
      subst (λ (b : Arena). IsStored b (suspended_of p.state)) (sym (arena_again a script))
      (subst (λ (d : stored.Suspended). IsStored a (suspended_of d)) (sym state) is.kept.stored);
  links_are = ap (λ (k : _). k.links) kept ∙ is.links_are;
  formed =
      subst (λ (d : stored.Suspended). IsFormed before (suspended_of d) (kept_of p.kept).form) (sym state)
      (subst (λ (k : _). IsFormed before (suspended_of x.state) (kept_of k).form) (sym kept) is.kept.formed);
  inside = inside;
}

-- ---- pages that can go

-- no page of later numbers is used under this one
none_later : (n : ℕ) (ms : List Mark) → AreAbove number_of_mark n ms → is_used n (uses_of ms) ≡ false
none_later n [] above = refl
none_later n (m ∷ ms) above = by_gone (none_later n ms above.1) m.gone refl
  where
    by_gone : is_used n (uses_of ms) ≡ false → (g : Option ℕ) → m.gone ≡ g → is_used n (uses_of (m ∷ ms)) ≡ false
    by_gone more None e =
        let test : (m.number == n) ≡ false = let low = above.0 in grind (arith, nat_tests, low) in
        ap (λ (t : Bool). is_used n (map use_of_mark (if t then m ∷ filter stays ms else filter stays ms))) (ap is_kept e)
        ∙ (ap (λ (t : Bool). if t then true else is_used n (uses_of ms)) test ∙ more)
    by_gone more (Some k) e =
        ap (λ (t : Bool). is_used n (map use_of_mark (if t then m ∷ filter stays ms else filter stays ms))) (ap is_kept e) ∙ more

-- whether the page of a mark is used
abbrev pub used_mark : Option Mark → Bool
used_mark None = false
used_mark (Some m) = is_kept m.gone

pub used_by_mark : (n : ℕ) (ms : List Mark) → IsRising number_of_mark ms → is_used n (uses_of ms) ≡ used_mark (mark_at n ms)
used_by_mark n [] rise = refl
used_by_mark n (m ∷ ms) rise = by_gone (used_by_mark n ms rise.1) m.gone refl (m.number == n) refl
  where
    by_gone : is_used n (uses_of ms) ≡ used_mark (mark_at n ms) → (g : Option ℕ) → m.gone ≡ g → (t : Bool) → (m.number == n) ≡ t → is_used n (uses_of (m ∷ ms)) ≡ used_mark (if t then Some m else mark_at n ms)
    by_gone more None e true test =
        ap (λ (t : Bool). is_used n (map use_of_mark (if t then m ∷ filter stays ms else filter stays ms))) (ap is_kept e)
        ∙ (ap (λ (t : Bool). if t then true else is_used n (uses_of ms)) test ∙ sym (ap is_kept e))
    by_gone more None e false test =
        ap (λ (t : Bool). is_used n (map use_of_mark (if t then m ∷ filter stays ms else filter stays ms))) (ap is_kept e)
        ∙ (ap (λ (t : Bool). if t then true else is_used n (uses_of ms)) test ∙ more)
    by_gone more (Some k) e true test =
        let here : m.number ≡ n = grind (arith, nat_tests, test) in
        ap (λ (t : Bool). is_used n (map use_of_mark (if t then m ∷ filter stays ms else filter stays ms))) (ap is_kept e)
        ∙ (none_later n ms (subst (λ (k : ℕ). AreAbove number_of_mark k ms) here rise.0) ∙ sym (ap is_kept e))
    by_gone more (Some k) e false test =
        ap (λ (t : Bool). is_used n (map use_of_mark (if t then m ∷ filter stays ms else filter stays ms))) (ap is_kept e) ∙ more

-- one that went is used no more, and the others are as they were
used_but : (m n : ℕ) (us : List Use) → is_used m (but n us) ≡ (not (n == m) && is_used m us)
used_but m n [] = by_test (n == m)
  where
    by_test : (t : Bool) → false ≡ (not t && false)
    by_test true = refl
    by_test false = refl
used_but m n (u ∷ us) = grind (arith, nat_tests, used_but m n us)

but_but : (m n : ℕ) (us : List Use) → but m (but n us) ≡ but n (but m us)
but_but m n [] = refl
but_but m n (u ∷ us) = grind (arith, nat_tests, but_but m n us)

-- pages can go after another one, where they can go and it is none of them
go_but : (n : ℕ) (ns : List ℕ) (us : List Use) → can_go ns (but n us) ≡ (not (is_one n ns) && can_go ns us)
go_but n [] us = refl
go_but n (m ∷ ns) us =
    ap (λ (t : Bool). t && can_go ns (but m (but n us))) (used_but m n us)
    ∙ (ap (λ (vs : List Use). (not (n == m) && is_used m us) && can_go ns vs) (but_but m n us)
    ∙ (ap (λ (t : Bool). (not (n == m) && is_used m us) && t) (go_but n ns (but m us)) ∙ by_tests (n == m) (m == n) (flipped n m) (is_one n ns) (is_used m us) (can_go ns (but m us))))
  where
    flipped : (i j : ℕ) → (i == j) ≡ (j == i)
    flipped i j = grind (arith, nat_tests)

    by_tests : (s t : Bool) → s ≡ t → (a b c : Bool) → ((not s && b) && (not a && c)) ≡ (not (if t then true else a) && (b && c))
    by_tests true true e a b c = refl
    by_tests true false e a b c = absurd (let no : ⊥ = cc in no)
    by_tests false true e a b c = absurd (let no : ⊥ = cc in no)
    by_tests false false e true true c = refl
    by_tests false false e true false c = refl
    by_tests false false e false true c = refl
    by_tests false false e false false c = refl

-- the first of several
pub go_first : (n : ℕ) (ns : List ℕ) (us : List Use) → can_go (n ∷ ns) us ≡ (is_used n us && (not (is_one n ns) && can_go ns us))
go_first n ns us = ap (λ (t : Bool). is_used n us && t) (go_but n ns us)

pub go_unused : (n : ℕ) (ns : List ℕ) (us : List Use) → is_used n us ≡ false → can_go (n ∷ ns) us ≡ false
go_unused n ns us e = ap (λ (t : Bool). t && can_go ns (but n us)) e

pub go_twice : (n : ℕ) (ns : List ℕ) (us : List Use) → is_one n ns ≡ true → can_go (n ∷ ns) us ≡ false
go_twice n ns us e =
    go_first n ns us ∙ (ap (λ (t : Bool). is_used n us && (not t && can_go ns us)) e ∙ and-false (is_used n us))

pub go_next : (n : ℕ) (ns : List ℕ) (us : List Use) → is_used n us ≡ true → is_one n ns ≡ false → can_go (n ∷ ns) us ≡ can_go ns us
go_next n ns us used once =
    go_first n ns us ∙ (ap (λ (t : Bool). t && (not (is_one n ns) && can_go ns us)) used ∙ ap (λ (t : Bool). not t && can_go ns us) once)
