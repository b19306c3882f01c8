use Rattle.std.specs.List.{AllByRecursion}
use Rattle.std.proofs.Common.{◌≡◌, ◌∙◌, ap, sym, subst, ℕ, zero, suc, ◌+◌, ◌<◌, map, Bool, true, false, List, [], ◌∷◌, ◌++◌, length, Option, Some, None, slice_get, refl, arith, length-append, append_assoc, inl, inr}
use Rattle.script_nodes.specs.Setup.{Named, Library}
use Rattle.script_nodes.specs.Views.{library_of}
use Rattle.page_journal.specs.Records.{framed, frames, at_rest}
use Rattle.page_journal.specs.Taken.{TakesAll}
use Rattle.page_journal.proofs.Frames.{length-framed, length-at_rest}
use Rattle.replay_spec.specs.Book.{Change, opens, extends, ends, finishes, sweeps, File, Instance, Book, reopened}
use Rattle.replay_spec.specs.Invariant.{IsOrderly}
use Rattle.book_redo.specs.InstanceBook.declared.in_order.InOrder.{InOrder}
use Rattle.book_redo.specs.InstanceBook.declared.book.Book as kept
use Rattle.book_redo.specs.InstanceBook.declared.numbered.Numbered.{Numbered}
use Rattle.book_redo.specs.InstanceBook.declared.instance.KeptInstance.{KeptInstance}
use Rattle.book_redo.specs.InstanceBook.Places.{IsPlaced}
use Rattle.book_redo.specs.InstanceBook.Views.{script_in, instance_of, instances_of, book_of}
use Rattle.book_redo.proofs.InstanceBook.Seen.{all_at}
use Rattle.book_redo.specs.InstanceBook.Standing.{book_under}
use Rattle.journal_records.specs.Records.{Record, begins, changes, renews, draws, follows, promotes}
use Rattle.journal_records.specs.Old.{read_record_in}
use Rattle.setup_reader.specs.Texts.{setup_of_texts}
use Rattle.book_redo.specs.JournalSpec.Before.{Earlier, state_at, Made}
use Rattle.book_redo.specs.JournalSpec.Retaking.{Told, unread, misread, told}
use Rattle.book_redo.specs.JournalSpec.Lengths.{state_by}
use Rattle.book_redo.specs.JournalSpec.Making.{Making, nothing, made_in as made_in_making}
use Rattle.book_redo.specs.JournalSpec.Old.{told_of, with_body_at, with_bodies_at, book_of_format as made_of_bodies}
use Rattle.book_redo.specs.JournalSpec.Owning.{IsOwnState, IsOwnRecordIn, AreOwnIn}
use Rattle.book_redo.specs.JournalSpec.Reading.{AreAllBytes}
use Rattle.book_redo.specs.JournalSpec.Spelling.{IsInRange}
use Rattle.book_redo.specs.JournalSpec.Whole.{AreWhole, IsWhole, HasWholeScripts}
use Rattle.book_redo.specs.JournalSpec.Laws.{BodiesOfAnyFormatFit}
use Rattle.book_redo.proofs.JournalSpec.Makings.{with_push_at}
use Rattle.book_recovery.specs.declared.found.Found.{Found}
use Rattle.book_recovery.specs.declared.found.Found.TheVariants as found
use Rattle.book_recovery.specs.declared.reader.Reader.{Reader}
use Rattle.book_recovery.specs.Found.{beside_file, FindsNone, Finds, IsFoundInOrder, HasStates}
use Rattle.book_recovery.specs.Reading.{seen_by, making_of, IsBefore, Gives, GivesWith, IsUnderWay, IsKept, IsOwnFor, IsTaken}

-- What a reader has made of all records.

-- a reader takes one body for a shelf of its number
pub one_given : (format : ℕ) (shelf place : ℕ) (body : List ℕ) (old new : Reader) → old.shelf ≡ shelf → old.format ≡ format → IsTaken old place body new
    → (m : Making) → Gives shelf (place + 1) old.follows old.alone old.found old.seen m
    → Gives shelf (place + 5 + length body + 1) new.follows new.alone new.found new.seen (with_body_at format setup_of_texts shelf place body m)
one_given format shelf place body old new number its t =
    subst (λ (f : ℕ). GivesWith f shelf place body old.follows old.alone old.found new.follows new.alone new.found old.seen new.seen) its
    (subst (λ (k : ℕ). GivesWith old.format k place body old.follows old.alone old.found new.follows new.alone new.found old.seen new.seen) number t.gives)

pub all_taken : (format : ℕ) (shelf place : ℕ) (bodies : List (List ℕ)) (old new : Reader) → TakesAll IsTaken old place bodies new → old.shelf ≡ shelf → old.format ≡ format
    → (m : Making) → Gives shelf (place + 1) old.follows old.alone old.found old.seen m
    → Gives shelf (place + length (frames bodies) + 1) new.follows new.alone new.found new.seen (with_bodies_at format setup_of_texts shelf place bodies m)
all_taken format shelf place [] old new t number its m is =
    let here : place + 1 ≡ place + 0 + 1 = omega arith in
    subst (λ (r : Reader). Gives shelf (place + 0 + 1) r.follows r.alone r.found r.seen m) (sym t) (subst (λ (n : ℕ). Gives shelf n old.follows old.alone old.found old.seen m) here is)
all_taken format shelf place (body ∷ bodies) old new t number its m is =
    let mid = t.0 in
    let next = with_body_at format setup_of_texts shelf place body m in
    let there : place + 5 + length body + length (frames bodies) + 1 ≡ place + length (frames (body ∷ bodies)) + 1 = omega (arith, length-append (framed body) (frames bodies), length-framed body) in
    subst (λ (n : ℕ). Gives shelf n new.follows new.alone new.found new.seen (with_bodies_at format setup_of_texts shelf (place + 5 + length body) bodies next)) there
    (all_taken format shelf (place + 5 + length body) bodies mid new t.2 (t.1.shelf ∙ number) (t.1.format ∙ its) next (one_given format shelf place body old mid number its t.1 m is))

pub all_bytes : (place : ℕ) (bodies : List (List ℕ)) (old new : Reader) → TakesAll IsTaken old place bodies new → AreAllBytes bodies
all_bytes place [] old new t = tt
all_bytes place (body ∷ bodies) old new t = (t.1.bytes, all_bytes (place + 5 + length body) bodies t.0 new t.2)

pub all_same : (place : ℕ) (bodies : List (List ℕ)) (old new : Reader) → TakesAll IsTaken old place bodies new → new.shelf ≡ old.shelf
all_same place [] old new t = ap (λ (r : Reader). r.shelf) t
all_same place (body ∷ bodies) old new t = all_same (place + 5 + length body) bodies t.0 new t.2 ∙ t.1.shelf

-- from no record on
pub at_first : (shelf : ℕ) (old : Reader) → old.found ≡ found.Nothing → old.follows ≡ false → seen_by old.seen ≡ [] → Gives shelf 9 old.follows old.alone old.found old.seen nothing
at_first shelf old empty apart none =
    subst (λ (t : Bool). Gives shelf 9 t old.alone old.found old.seen nothing) (sym apart)
    (subst (λ (f : Found). Gives shelf 9 false old.alone f old.seen nothing) (sym empty) (record { before = inl (refl, refl); none = none }))

made_of_all : (format : ℕ) (shelf : ℕ) (bodies : List (List ℕ)) (old new : Reader) → old.shelf ≡ shelf → old.format ≡ format → old.found ≡ found.Nothing → old.follows ≡ false → seen_by old.seen ≡ []
    → TakesAll IsTaken old 8 bodies new → Gives shelf (length (at_rest bodies)) new.follows new.alone new.found new.seen (made_of_bodies format setup_of_texts shelf bodies)
made_of_all format shelf bodies old new number its empty apart none t =
    let long : 8 + length (frames bodies) + 1 ≡ length (at_rest bodies) = omega (arith, length-at_rest bodies) in
    subst (λ (n : ℕ). Gives shelf n new.follows new.alone new.found new.seen (made_of_bodies format setup_of_texts shelf bodies)) long
    (all_taken format shelf 8 bodies old new t number its nothing (at_first shelf old empty apart none))

-- what is given of parts that are the same
pub gives_alike : (shelf n : ℕ) (m : Making) (s t a b : Bool) (f g : Found) (before after : InOrder (Unit {0})) → t ≡ s → b ≡ a → g ≡ f → after ≡ before → Gives shelf n s a f before m → Gives shelf n t b g after m
gives_alike shelf n m s t a b f g before after one two three four is =
    subst (λ (u : Bool). Gives shelf n u b g after m) (sym one)
    (subst (λ (u : Bool). Gives shelf n s u g after m) (sym two)
    (subst (λ (h : Found). Gives shelf n s a h after m) (sym three) (subst (λ (r : InOrder (Unit {0})). Gives shelf n s a f r m) (sym four) is)))

pub kept_alike : (shelf k : ℕ) (a b : Bool) (f g : Found) (before after : InOrder (Unit {0})) → k ≡ shelf → b ≡ a → g ≡ f → after ≡ before → IsKept k a before f → IsKept shelf b after g
kept_alike shelf k a b f g before after one two three four is =
    subst (λ (u : Bool). IsKept shelf u after g) (sym two)
    (subst (λ (h : Found). IsKept shelf a after h) (sym three)
    (subst (λ (r : InOrder (Unit {0})). IsKept shelf a r f) (sym four) (subst (λ (j : ℕ). IsKept j a before f) one is)))

-- what was kept of a reader for a shelf of its number, and that it is what the records make
pub taken_all : (format : ℕ) (shelf : ℕ) (bodies : List (List ℕ)) (old new : Reader) → old.shelf ≡ shelf → old.format ≡ format → old.found ≡ found.Nothing → old.follows ≡ false → seen_by old.seen ≡ []
    → TakesAll IsTaken old 8 bodies new → IsKept new.shelf new.alone new.seen new.found
    → IsKept shelf new.alone new.seen new.found × Gives shelf (length (at_rest bodies)) new.follows new.alone new.found new.seen (made_of_bodies format setup_of_texts shelf bodies)
taken_all format shelf bodies old new number its empty apart none t sound =
    (subst (λ (n : ℕ). IsKept n new.alone new.seen new.found) (all_same 8 bodies old new t ∙ number) sound, made_of_all format shelf bodies old new number its empty apart none t)

-- ---- what is found

again_at : (shelf : ℕ) (alone : Bool) (seen : InOrder (Unit {0})) (b : kept.Book) (library : Library) → IsUnderWay shelf alone seen b library
    → (fed : Bool) (n : ℕ) (f : File) → book_of library (beside_file fed n f) b ≡ reopened (book_of library (beside_file fed n f) b)
again_at shelf alone seen b library way fed n f = ap (λ (x : Book). record x { length = n; file = f; follows = fed }) way.orderly.again

pub is_made : (alone : Bool) (w : Made) → made_in_making (making_of alone w) ≡ Some w
is_made true w = refl
is_made false w = refl

pub finds : (shelf n : ℕ) (fed alone : Bool) (f : Found) (seen : InOrder (Unit {0})) (m : Making) → IsKept shelf alone seen f → Gives shelf n fed alone f seen m → Finds shelf n fed f m
finds shelf n fed alone found.Nothing seen m way is = none_found fed is.before
  where
    none_found : (t : Bool) → IsBefore t shelf n m → FindsNone shelf t m
    none_found true (e, long) = e
    none_found false (inl (e, long)) = inl e
    none_found false (inr (e, long)) = inr e
finds shelf n fed alone (found.Made b library) seen m way is = record {
  whole = is.whole;
  is = ap made_in_making is.is ∙ is_made alone is.whole;
  shelf_is = way.shelf_is;
  book = is.book;
  told = is.tells.states;
  again = is.book ∙ (again_at shelf alone seen b (library_of library) way fed n is.whole.book.file ∙ ap (λ (x : Book). reopened x) (sym is.book));
}
finds shelf n fed alone (found.Damaged place) seen m way is = is
finds shelf n fed alone (found.Other place) seen m way is = is
finds shelf n fed alone found.Memory seen m way is = tt

orderly_beside : (library : Library) (fed t : Bool) (n k : ℕ) (f g : File) (b : kept.Book) → IsOrderly (book_of library (beside_file fed n f) b) → IsOrderly (book_of library (beside_file t k g) b)
orderly_beside library fed t n k f g b h = record {
  below = h.below;
  different = h.different;
  doubted = h.doubted;
  logged = h.logged;
  instances = h.instances;
  doubt = h.doubt;
}

-- each script of its instances can be run
at_place : (all : List Named) (k : ℕ) → k < length all → AreWhole all → IsWhole (script_in all k)
at_place all k low whole = whole k (script_in all k) (slice_get_or all k low)
  where
    slice_get_or : (xs : List Named) (k : ℕ) → k < length xs → slice_get xs k ≡ Some (script_in xs k)
    slice_get_or [] k low = absurd (omega (arith, low))
    slice_get_or (x ∷ xs) zero low = refl
    slice_get_or (x ∷ xs) (suc k) low = slice_get_or xs k (omega (arith, low))

each_whole : (all : List Named) → AreWhole all → (xs : List (Numbered KeptInstance)) → AllByRecursion (IsPlaced all) xs → AllByRecursion (λ (i : Instance). IsWhole i.script) (map (instance_of all) xs)
each_whole all whole [] placed = tt
each_whole all whole (x ∷ xs) placed = (at_place all x.item.script placed.0 whole, each_whole all whole xs placed.1)

pub whole_by : (shelf : ℕ) (alone : Bool) (seen : InOrder (Unit {0})) (b : kept.Book) (library : Library) → IsUnderWay shelf alone seen b library → HasWholeScripts (book_under library b)
whole_by shelf alone seen b library way = record {
  setup = way.scripts.present;
  instances = λ k i found.
      all_at (λ (j : Instance). IsWhole j.script) (λ (j : Instance). j.number) k (instances_of library.all b.instances) i
      (each_whole library.all way.scripts.whole b.instances.things.items way.placed) found;
}

pub in_order : BodiesOfAnyFormatFit → (format shelf : ℕ) (bodies : List (List ℕ)) → AreAllBytes bodies → (n : ℕ) (fed alone : Bool) (f : Found) (seen : InOrder (Unit {0})) → IsKept shelf alone seen f
    → Gives shelf n fed alone f seen (made_of_bodies format setup_of_texts shelf bodies)
    → IsFoundInOrder shelf f
in_order law format shelf bodies bytes n fed alone found.Nothing seen way is = tt
in_order law format shelf bodies bytes n fed alone (found.Made b rust) seen way is =
    let library = library_of rust in
    let fits = law format setup_of_texts shelf bodies is.whole (ap made_in_making is.is ∙ is_made alone is.whole) in
    let there = whole_by shelf alone seen b library way in
    let here : HasWholeScripts (book_of library (beside_file fed n is.whole.book.file) b) = record { setup = there.setup; instances = there.instances } in
    let good = fits.recoverable (subst HasWholeScripts (sym is.book) here) in
    let orderly : IsOrderly (book_of library (beside_file fed n is.whole.book.file) b) = subst IsOrderly is.book good.orderly in
    let range : IsInRange (book_of library (beside_file fed n is.whole.book.file) b) = subst IsInRange is.book (fits.range bytes) in
    record {
      placed = way.placed;
      kept = ((λ k. state_at k way.tells.0.states), way.tells.1.states);
      shelf_is = way.shelf_is;
      read = way.scripts.read;
      orderly = λ t k g. orderly_beside library fed t n k is.whole.book.file g b orderly;
      whole = λ t k g. record { setup = there.setup; instances = there.instances };
      range = λ t k g. record { drawn = range.drawn; clock = range.clock; doubt = range.doubt };
      again = again_at shelf alone seen b library way;
    }
in_order law format shelf bodies bytes n fed alone (found.Damaged place) seen way is = tt
in_order law format shelf bodies bytes n fed alone (found.Other place) seen way is = tt
in_order law format shelf bodies bytes n fed alone found.Memory seen way is = tt

-- ---- where each record is an own one

-- a frame after others makes them longer by its body and five bytes
pub frames_behind : (front : List (List ℕ)) (body : List ℕ) → length (frames (front ++ body ∷ [])) ≡ length (frames front) + (length body + 5)
frames_behind [] body = omega (arith, length-append (framed body) [], length-framed body)
frames_behind (first ∷ front) body =
    omega (arith, length-append (framed first) (frames (front ++ body ∷ [])), length-append (framed first) (frames front), frames_behind front body)

own_beside : (format : ℕ) (library : Library) (fed : Bool) (n : ℕ) (f : File) (earlier : Earlier) (b : kept.Book) (r : Option Record)
    → IsOwnRecordIn format (record { book = book_of library (beside_file fed n f) b; earlier = earlier }) r → IsOwnRecordIn format (record { book = book_under library b; earlier = earlier }) r
own_beside format library fed n f earlier b None h = tt
own_beside format library fed n f earlier b (Some (begins shelf named)) h = tt
own_beside format library fed n f earlier b (Some (renews named)) h = tt
own_beside format library fed n f earlier b (Some (draws number)) h = tt
own_beside format library fed n f earlier b (Some follows) h = tt
own_beside format library fed n f earlier b (Some promotes) h = tt
own_beside format library fed n f earlier b (Some (changes c state)) h =
    let x : Made = record { book = book_of library (beside_file fed n f) b; earlier = earlier } in
    subst (λ (t : Told). IsOwnState (book_under library b) c t) (told_alike c) (same_state (told_of format x c state) h)
  where
    state_beside : (c : Change) → state_by (book_of library (beside_file fed n f) b) c ≡ state_by (book_under library b) c
    state_beside (opens o) = refl
    state_beside (extends x) = refl
    state_beside (ends e) = refl
    state_beside (finishes g) = refl
    state_beside (sweeps tick) = refl

    told_alike : (c : Change)
        → told_of format (record { book = book_of library (beside_file fed n f) b; earlier = earlier }) c state ≡ told_of format (record { book = book_under library b; earlier = earlier }) c state
    told_alike (opens o) = refl
    told_alike (extends x) = refl
    told_alike (ends e) = refl
    told_alike (finishes g) = refl
    told_alike (sweeps tick) = refl

    same_state : (x : Told) → IsOwnState (book_of library (beside_file fed n f) b) c x → IsOwnState (book_under library b) c x
    same_state unread h = tt
    same_state misread h = tt
    same_state (told d) h = sym (state_beside c) ∙ h

own_found : (format : ℕ) (shelf n : ℕ) (front rest : List (List ℕ)) (body : List ℕ) (fed alone : Bool) (f : Found) (seen : InOrder (Unit {0})) → AreOwnIn format setup_of_texts shelf (front ++ body ∷ rest)
    → Gives shelf n fed alone f seen (made_of_bodies format setup_of_texts shelf front) → IsOwnFor format seen f body
own_found format shelf n front rest body fed alone found.Nothing seen own is = tt
own_found format shelf n front rest body fed alone (found.Made b rust) seen own is =
    let library = library_of rust in
    let earlier = is.whole.earlier in
    let made_is = ap made_in_making is.is ∙ is_made alone is.whole in
    let there = subst (λ (x : Book). IsOwnRecordIn format (record { book = x; earlier = earlier }) (read_record_in format body)) is.book (own front rest body is.whole refl made_is) in
    (earlier, (is.tells, own_beside format library fed n is.whole.book.file earlier b (read_record_in format body) there))
own_found format shelf n front rest body fed alone (found.Damaged place) seen own is = tt
own_found format shelf n front rest body fed alone (found.Other place) seen own is = tt
own_found format shelf n front rest body fed alone found.Memory seen own is = tt

frames_more : (place : ℕ) (front : List (List ℕ)) (body : List ℕ) → place ≡ 8 + length (frames front) → place + 5 + length body ≡ 8 + length (frames (front ++ body ∷ []))
frames_more place front body at = omega (arith, at, frames_behind front body)

all_owned : (format : ℕ) (shelf place : ℕ) (front bodies : List (List ℕ)) (old new : Reader) → TakesAll IsTaken old place bodies new → old.shelf ≡ shelf → old.format ≡ format
    → place ≡ 8 + length (frames front) → AreOwnIn format setup_of_texts shelf (front ++ bodies)
    → Gives shelf (place + 1) old.follows old.alone old.found old.seen (made_of_bodies format setup_of_texts shelf front) → HasStates old.found → HasStates new.found
all_owned format shelf place front [] old new t number its at own is states = subst (λ (r : Reader). HasStates r.found) (sym t) states
all_owned format shelf place front (body ∷ bodies) old new t number its at own is states =
    let mid = t.0 in
    let here : IsOwnFor format old.seen old.found body = own_found format shelf (place + 1) front bodies body old.follows old.alone old.found old.seen own is in
    let given = one_given format shelf place body old mid number its t.1 (made_of_bodies format setup_of_texts shelf front) is in
    let pushed : with_body_at format setup_of_texts shelf place body (made_of_bodies format setup_of_texts shelf front) ≡ made_of_bodies format setup_of_texts shelf (front ++ body ∷ []) =
    ap (λ (p : ℕ). with_body_at format setup_of_texts shelf p body (made_of_bodies format setup_of_texts shelf front)) at ∙ sym (with_push_at format setup_of_texts shelf 8 front body nothing) in
    let more : front ++ body ∷ bodies ≡ (front ++ body ∷ []) ++ bodies = sym (append_assoc front (body ∷ []) bodies) in
    let next : place + 5 + length body ≡ 8 + length (frames (front ++ body ∷ [])) = frames_more place front body at in
    all_owned format shelf (place + 5 + length body) (front ++ body ∷ []) bodies mid new t.2 (t.1.shelf ∙ number) (t.1.format ∙ its) next
    (subst (AreOwnIn format setup_of_texts shelf) more own) (subst (Gives shelf (place + 5 + length body + 1) mid.follows mid.alone mid.found mid.seen) pushed given) (t.1.owns (subst (λ (f : ℕ). IsOwnFor f old.seen old.found body) (sym its) here) states)

-- from no record on
pub owned_of_all : (format : ℕ) (shelf : ℕ) (bodies : List (List ℕ)) (old new : Reader) → old.shelf ≡ shelf → old.format ≡ format → old.found ≡ found.Nothing → old.follows ≡ false → seen_by old.seen ≡ []
    → TakesAll IsTaken old 8 bodies new → AreOwnIn format setup_of_texts shelf bodies → HasStates new.found
owned_of_all format shelf bodies old new number its empty apart none t own =
    all_owned format shelf 8 [] bodies old new t number its refl own (at_first shelf old empty apart none) (subst HasStates (sym empty) tt)
