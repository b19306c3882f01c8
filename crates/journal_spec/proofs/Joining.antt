-- Of sweeps that stand together the last one makes the same.
use Rattle.std.proofs.Common.{◌≡◌, ℕ, ◌+◌, ◌≤◌, ◌<◌, max, List, [], ◌∷◌, ◌++◌, map, length, Option, Some, None, Bool, true, false, refl, sym, ap, subst, ◌∙◌, arith, if◌then◌else◌, append_assoc}
use Rattle.std.specs.Prelude.{◌&&◌, nat_lt}
use Rattle.std.specs.List.{AllByRecursion}
use Rattle.std.proofs.lemmas.List.{append-nil}
use Rattle.std.proofs.lemmas.Bool.Decides.{nat_tests}
use Rattle.script_value.specs.declared.outcome.TxName.{TxName}
use Rattle.replay_spec.specs.Book.{Change, opens, extends, ends, finishes, sweeps, Line, changed, renewed, Book}
use Rattle.replay_spec.specs.Change.{logged_by}
use Rattle.replay_spec.specs.Compaction.{is_sweep, ahead_of, last_sweeps, lines_length}
use Rattle.replay_spec.specs.Admission.{when}
use Rattle.replay_spec.specs.Recovery.{of_length, number_in, is_repeated}
use Rattle.replay_spec.specs.Remade.{IsLike, IsOrderlyMade}
use Rattle.replay_spec.proofs.Admitted.{when_is}
use Rattle.replay_spec.proofs.Living.{swept_twice}
use Rattle.replay_spec.proofs.Filed.{bare, bare_like, like_self, like_then, land_like}
use Rattle.replay_spec.proofs.Compacted.{line_orderly}
use Rattle.journal_spec.specs.Before.{Earlier, Made, plain}
use Rattle.journal_spec.specs.Retaking.{Told, unread, misread, told, told_in, held, landing, then_told, retaken}
use Rattle.journal_spec.specs.Making.{Texts, made, damaged, has_script, told_next, next_setup, next_by, with_body, with_bodies}
use Rattle.journal_spec.specs.Copying.{inside_told, Entry, tells, settles, body_in, line_of, then_entry, entries_after, entry_ahead, entries_joined}
use Rattle.journal_spec.proofs.Retaken.{held_script, landing_is, retaken_orderly}
use Rattle.journal_spec.proofs.Beside.{held_bare}
use Rattle.journal_spec.proofs.Copied.{IsTakenEntry, AreTakenEntries, IsReadEntry, IsBelowEntry, AreFacts}

-- what was made twice is alike, and told the same
pub record Alike (m k : Made) : Type 0 where
  pub like : IsLike k.book m.book
  pub earlier : k.earlier ≡ m.earlier

alike_self : (m : Made) → Alike m m
alike_self m = record { like = like_self m.book; earlier = refl }

alike_then : (m k j : Made) → Alike m k → Alike k j → Alike m j
alike_then m k j one two = record { like = like_then j.book k.book m.book two.like one.like; earlier = two.earlier ∙ one.earlier }

pub told_bare : (earlier : Earlier) (b : Book) (c : Change) (state : Option (List ℕ)) → told_in earlier b c state ≡ told_in earlier (bare b.shelf b.scripts b.clock b.instances) c state
told_bare earlier b (opens o) state = refl
told_bare earlier b (extends x) state = refl
told_bare earlier b (ends e) state = refl
told_bare earlier b (finishes f) state = refl
told_bare earlier b (sweeps tick) state = refl

pub told_like : (m k : Made) (c : Change) (state : Option (List ℕ)) → Alike m k → told_in k.earlier k.book c state ≡ told_in m.earlier m.book c state
told_like m k c state h =
    told_bare k.earlier k.book c state
    ∙ (ap (λ (b : Book). told_in k.earlier b c state) (bare_like k.book m.book h.like)
    ∙ (ap (λ (e : Earlier). told_in e (bare m.book.shelf m.book.scripts m.book.clock m.book.instances) c state) h.earlier ∙ sym (told_bare m.earlier m.book c state)))

landing_like : (m k : Made) (c : Change) (inside : List TxName) → Alike m k → landing k c inside ≡ landing m c inside
landing_like m k c inside h =
    let same : held k.book c inside ≡ held m.book c inside =
    held_bare k.book c inside ∙ (ap (λ (b : Book). held b c inside) (bare_like k.book m.book h.like) ∙ sym (held_bare m.book c inside)) in
    ap (λ (e : Earlier). if is_repeated (number_in c) e.seen then None else held k.book c inside) h.earlier
    ∙ ap (λ (o : Option (List TxName)). if is_repeated (number_in c) m.earlier.seen then None else o) same

retaken_like : (n : ℕ) (c : Change) (names : List TxName) (x : Told) (m k : Made) → Alike m k → Alike (retaken n c (Some names) x m) (retaken n c (Some names) x k)
retaken_like n c names x m k h =
    let l = land_like (of_length n) (of_length n) k.book m.book c names h.like in
    record {
      like = record { shelf = l.shelf; scripts = l.scripts; clock = l.clock; instances = l.instances };
      earlier = ap (λ (e : Earlier). then_told c (Some names) x e) h.earlier;
    }

-- an entry that lands is told so
then_is : (m : Made) (c : Change) (state : Option (List ℕ)) (body : List ℕ) (x : Told) (names : List TxName) → told_in m.earlier m.book c state ≡ x → landing m c (inside_told x) ≡ Some names
    → then_entry (tells c state body) m ≡ retaken (length body) c (Some names) x m
then_is m c state body x names is f =
    ap (λ (y : Told). retaken (length body) c (landing m c (inside_told y)) y m) is ∙ ap (λ (o : Option (List TxName)). retaken (length body) c o x m) f

pub alike_entry : (e : Entry) (m k : Made) → IsTakenEntry m e → Alike m k → IsTakenEntry k e × Alike (then_entry e m) (then_entry e k)
alike_entry (settles scripts body) m k taken h = (
  tt,
  record { like = record { shelf = h.like.shelf; scripts = refl; clock = h.like.clock; instances = h.like.instances }; earlier = h.earlier },
)
alike_entry (tells c state body) m k (names, (f, sure)) h =
    let x = told_in m.earlier m.book c state in
    let same : told_in k.earlier k.book c state ≡ x = told_like m k c state h in
    let fk : landing k c (inside_told x) ≡ Some names = landing_like m k c (inside_told x) h ∙ f in
    let both = retaken_like (length body) c names x m k h in (
      (names, (ap (λ (y : Told). landing k c (inside_told y)) same ∙ fk, λ mis. sure (sym same ∙ mis))),
      subst (λ (y : Made). Alike y (then_entry (tells c state body) k)) (sym (then_is m c state body x names refl f))
          (subst (λ (y : Made). Alike (retaken (length body) c (Some names) x m) y) (sym (then_is k c state body x names same fk)) both),
    )

alike_entries : (es : List Entry) (m k : Made) → AreTakenEntries es m → Alike m k → AreTakenEntries es k × Alike (entries_after es m) (entries_after es k)
alike_entries [] m k taken h = (tt, h)
alike_entries (e ∷ es) m k taken h =
    let one = alike_entry e m k taken.0 h in
    let rest = alike_entries es (then_entry e m) (then_entry e k) taken.1 one.1 in
    ((one.0, rest.0), rest.1)

-- a sweep directly before another one makes no difference
pub sweep_skips : (s t : ℕ) (p q : Option (List ℕ)) (a b : List ℕ) (m : Made) → IsTakenEntry m (tells (sweeps s) p a) → IsTakenEntry (then_entry (tells (sweeps s) p a) m) (tells (sweeps t) q b)
    → IsTakenEntry m (tells (sweeps t) q b) × Alike (then_entry (tells (sweeps t) q b) (then_entry (tells (sweeps s) p a) m)) (then_entry (tells (sweeps t) q b) m)
sweep_skips s t p q a b m (inside, (e, sure)) (names, (f, surely)) =
    let first = retaken (length a) (sweeps s) (Some inside) unread m in
    let one : then_entry (tells (sweeps s) p a) m ≡ first = then_is m (sweeps s) p a unread inside refl e in
    let before : m.book.clock < s = (let w = (when_is (nat_lt m.book.clock s) [] inside e).0 in grind (arith, nat_tests, w)) in
    let g : when (nat_lt s t) [] ≡ Some names = subst (λ (x : Made). landing x (sweeps t) [] ≡ Some names) one f in
    let parts = when_is (nat_lt s t) [] names g in
    let later : s < t = (let w = parts.0 in grind (arith, nat_tests, w)) in
    let up : nat_lt m.book.clock t ≡ true = grind (arith, nat_tests, before, later) in
    let into : landing m (sweeps t) [] ≡ Some names = ap (λ (c : Bool). when c []) up ∙ ap (λ (ns : List TxName). Some ns) parts.1 in
    let two : then_entry (tells (sweeps t) q b) (then_entry (tells (sweeps s) p a) m) ≡ retaken (length b) (sweeps t) (Some names) unread first =
    ap (λ (x : Made). then_entry (tells (sweeps t) q b) x) one ∙ then_is first (sweeps t) q b unread names refl g in
    let both : Alike (retaken (length b) (sweeps t) (Some names) unread first) (retaken (length b) (sweeps t) (Some names) unread m) =
    record { like = record { shelf = refl; scripts = refl; clock = refl; instances = sym (swept_twice s t m.book.instances (omega (arith, later))) }; earlier = refl } in (
      (names, (into, λ mis. let no : ⊥ = cc in no)),
      subst (λ (x : Made). Alike x (then_entry (tells (sweeps t) q b) m)) (sym two)
          (subst (λ (x : Made). Alike (retaken (length b) (sweeps t) (Some names) unread first) x) (sym (then_is m (sweeps t) q b unread names refl into)) both),
    )

abbrev pub Joins : List Entry → Made → Made → Type 0
Joins es m j = AreTakenEntries es m × Alike j (entries_after es m)

join_ahead : (e : Entry) (es : List Entry) (m j : Made) → IsTakenEntry m e → Joins es (then_entry e m) j → Joins (entry_ahead e es) m j
join_ahead e [] m j taken h = ((taken, tt), h.1)
join_ahead (settles scripts a) (f ∷ es) m j taken h = ((taken, h.0), h.1)
join_ahead (tells (opens o) p a) (f ∷ es) m j taken h = ((taken, h.0), h.1)
join_ahead (tells (extends x) p a) (f ∷ es) m j taken h = ((taken, h.0), h.1)
join_ahead (tells (ends x) p a) (f ∷ es) m j taken h = ((taken, h.0), h.1)
join_ahead (tells (finishes x) p a) (f ∷ es) m j taken h = ((taken, h.0), h.1)
join_ahead (tells (sweeps s) p a) (settles scripts b ∷ es) m j taken h = ((taken, h.0), h.1)
join_ahead (tells (sweeps s) p a) (tells (opens o) q b ∷ es) m j taken h = ((taken, h.0), h.1)
join_ahead (tells (sweeps s) p a) (tells (extends x) q b ∷ es) m j taken h = ((taken, h.0), h.1)
join_ahead (tells (sweeps s) p a) (tells (ends x) q b ∷ es) m j taken h = ((taken, h.0), h.1)
join_ahead (tells (sweeps s) p a) (tells (finishes x) q b ∷ es) m j taken h = ((taken, h.0), h.1)
join_ahead (tells (sweeps s) p a) (tells (sweeps t) q b ∷ es) m j taken h =
    let mid = then_entry (tells (sweeps s) p a) m in
    let one = sweep_skips s t p q a b m taken h.0.0 in
    let rest = alike_entries es (then_entry (tells (sweeps t) q b) mid) (then_entry (tells (sweeps t) q b) m) h.0.1 one.1 in
    ((one.0, rest.0), alike_then j (entries_after es (then_entry (tells (sweeps t) q b) mid)) (entries_after es (then_entry (tells (sweeps t) q b) m)) h.1 rest.1)

pub join_entries : (es : List Entry) (m : Made) → AreTakenEntries es m → Joins (entries_joined es) m (entries_after es m)
join_entries [] m taken = (tt, alike_self m)
join_entries (e ∷ es) m taken = join_ahead e (entries_joined es) m (entries_after es (then_entry e m)) taken.0 (join_entries es (then_entry e m) taken.1)

-- ---- what else joined entries have

facts_ahead : (sure : List ℕ → Type 0) (texts : Texts) (top : ℕ) (e : Entry) (es : List Entry) → IsReadEntry sure texts e × IsBelowEntry top e → AreFacts sure texts top es
    → AreFacts sure texts top (entry_ahead e es)
facts_ahead sure texts top e [] one all = (one, tt)
facts_ahead sure texts top e (f ∷ es) one all = by_test (is_sweep (line_of e) && is_sweep (line_of f))
  where
    by_test : (t : Bool) → AreFacts sure texts top (if t then f ∷ es else e ∷ f ∷ es)
    by_test true = all
    by_test false = (one, all)

pub facts_joined : (sure : List ℕ → Type 0) (texts : Texts) (top : ℕ) (es : List Entry) → AreFacts sure texts top es → AreFacts sure texts top (entries_joined es)
facts_joined sure texts top [] h = tt
facts_joined sure texts top (e ∷ es) h = facts_ahead sure texts top e (entries_joined es) h.0 (facts_joined sure texts top es h.1)

lines_ahead : (e : Entry) (es : List Entry) → map line_of (entry_ahead e es) ≡ ahead_of (line_of e) (map line_of es)
lines_ahead e [] = refl
lines_ahead e (f ∷ es) = by_test (is_sweep (line_of e) && is_sweep (line_of f))
  where
    by_test : (t : Bool) → map line_of (if t then f ∷ es else e ∷ f ∷ es) ≡ (if t then line_of f ∷ map line_of es else line_of e ∷ line_of f ∷ map line_of es)
    by_test true = refl
    by_test false = refl

pub lines_joined : (es : List Entry) → map line_of (entries_joined es) ≡ last_sweeps (map line_of es)
lines_joined [] = refl
lines_joined (e ∷ es) = lines_ahead e (entries_joined es) ∙ ap (ahead_of (line_of e)) (lines_joined es)

-- ---- what entries make of a file

pub entries_orderly : (es : List Entry) (k : Made) → IsOrderlyMade (plain k) → IsOrderlyMade (plain (entries_after es k))
entries_orderly [] k g = g
entries_orderly (settles scripts body ∷ es) k g = entries_orderly es (then_entry (settles scripts body) k) (line_orderly (renewed scripts (length body)) (plain k) g)
entries_orderly (tells c state body ∷ es) k g =
    let x = told_in k.earlier k.book c state in
    entries_orderly es (then_entry (tells c state body) k) (retaken_orderly (length body) c (inside_told x) x k g)

pub file_of_entries : (es : List Entry) (k : Made) → AreTakenEntries es k → (entries_after es k).book.file ≡ record k.book.file { lines = k.book.file.lines ++ map line_of es }
file_of_entries [] k taken = ap (λ (xs : List Line). record k.book.file { lines = xs }) (sym (append-nil k.book.file.lines))
file_of_entries (settles scripts body ∷ es) k taken =
    file_of_entries es (then_entry (settles scripts body) k) taken.1
    ∙ ap (λ (xs : List Line). record k.book.file { lines = xs }) (append_assoc k.book.file.lines (renewed scripts (length body) ∷ []) (map line_of es))
file_of_entries (tells c state body ∷ es) k ((names, (f, sure)), taken) =
    file_of_entries es (then_entry (tells c state body) k) taken
    ∙ (ap (λ (x : Made). record x.book.file { lines = x.book.file.lines ++ map line_of es }) (then_is k c state body (told_in k.earlier k.book c state) names refl f)
    ∙ ap (λ (xs : List Line). record k.book.file { lines = xs }) (append_assoc k.book.file.lines (changed c (length body) ∷ []) (map line_of es)))

pub length_of_entries : (es : List Entry) (k : Made) → AreTakenEntries es k → (entries_after es k).book.length ≡ k.book.length + lines_length (map line_of es)
length_of_entries [] k taken = omega arith
length_of_entries (settles scripts body ∷ es) k taken = let rest = length_of_entries es (then_entry (settles scripts body) k) taken.1 in omega (arith, rest)
length_of_entries (tells c state body ∷ es) k ((names, (f, sure)), taken) =
    let rest = length_of_entries es (then_entry (tells c state body) k) taken in
    let one : (then_entry (tells c state body) k).book.length ≡ k.book.length + (length body + 5) =
    ap (λ (x : Made). x.book.length) (then_is k c state body (told_in k.earlier k.book c state) names refl f) in
    omega (arith, rest, one)

-- no entry makes a shelf follow another one's journal
pub follows_of_entries : (es : List Entry) (k : Made) → AreTakenEntries es k → (entries_after es k).book.follows ≡ k.book.follows
follows_of_entries [] k taken = refl
follows_of_entries (settles scripts body ∷ es) k taken = follows_of_entries es (then_entry (settles scripts body) k) taken.1
follows_of_entries (tells c state body ∷ es) k ((names, (f, sure)), taken) =
    follows_of_entries es (then_entry (tells c state body) k) taken
    ∙ ap (λ (x : Made). x.book.follows) (then_is k c state body (told_in k.earlier k.book c state) names refl f)

pub logged_of_entries : (sure : List ℕ → Type 0) (texts : Texts) (top : ℕ) (es : List Entry) (k : Made) → AreTakenEntries es k → AreFacts sure texts top es → k.book.logged ≡ top → (entries_after es k).book.logged ≡ top
logged_of_entries sure texts top [] k taken facts is = is
logged_of_entries sure texts top (settles scripts body ∷ es) k taken facts is = logged_of_entries sure texts top es (then_entry (settles scripts body) k) taken.1 facts.1 is
logged_of_entries sure texts top (tells c state body ∷ es) k ((names, (f, told_so)), taken) facts is =
    let one : (then_entry (tells c state body) k).book.logged ≡ max k.book.logged (logged_by c) =
    ap (λ (x : Made). x.book.logged) (then_is k c state body (told_in k.earlier k.book c state) names refl f) in
    let less : logged_by c ≤ top = facts.0.1 in
    logged_of_entries sure texts top es (then_entry (tells c state body) k) taken facts.1 (omega (arith, one, is, less))

-- ---- bodies of entries make what the entries make

next_told : (place n : ℕ) (k : Made) (c : Change) (x : Told) → (x ≡ misread → ⊥) → told_next place n k c x ≡ made (retaken n c (landing k c (inside_told x)) x k)
next_told place n k c unread sure = refl
next_told place n k c misread sure = absurd (sure refl)
next_told place n k c (told d) sure = refl

-- each of these bodies may be written
abbrev pub AreSure : (sure : List ℕ → Type 0) → List (List ℕ) → Type 0
AreSure sure bodies = AllByRecursion sure bodies

pub entry_made : (sure : List ℕ → Type 0) (texts : Texts) (shelf place : ℕ) (e : Entry) (k : Made) → IsTakenEntry k e → IsReadEntry sure texts e → sure (body_in e)
    → with_body texts shelf place (body_in e) (made k) ≡ made (then_entry e k)
entry_made sure texts shelf place (settles scripts body) k taken (named, (read, is)) may = ap (next_by texts place (length body) k) read ∙ ap (next_setup place (length body) k) is
entry_made sure texts shelf place (tells c state body) k (names, (f, told_so)) read may =
    let n = length body in
    let x = told_in k.earlier k.book c state in
    let has : has_script (length k.book.scripts) c ≡ true = held_script k.book c (inside_told x) names (landing_is k c (inside_told x) names f).0 in
    ap (next_by texts place n k) (read may) ∙ (ap (λ (t : Bool). if t then told_next place n k c x else damaged place) has ∙ next_told place n k c x told_so)

pub bodies_made : (sure : List ℕ → Type 0) (texts : Texts) (top shelf place : ℕ) (es : List Entry) (k : Made) → AreTakenEntries es k → AreFacts sure texts top es → AreSure sure (map body_in es)
    → with_bodies texts shelf place (map body_in es) (made k) ≡ made (entries_after es k)
bodies_made sure texts top shelf place [] k taken facts all = refl
bodies_made sure texts top shelf place (e ∷ es) k taken facts all =
    let later = place + 5 + length (body_in e) in
    ap (with_bodies texts shelf later (map body_in es)) (entry_made sure texts shelf place e k taken.0 facts.0.0 all.0)
    ∙ bodies_made sure texts top shelf later es (then_entry e k) taken.1 facts.1 all.1
