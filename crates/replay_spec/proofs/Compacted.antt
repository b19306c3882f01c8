-- The compacted file of a book makes the same book.
use Rattle.std.proofs.Common.{◌≡◌, ◌≤◌, ◌<◌, ◌==◌, ℕ, List, [], ◌∷◌, Option, Some, None, Bool, true, false, not, filter, refl, sym, ap, subst, ◌∙◌, inl, inr, ⊎_elim, slice_get, if◌then◌else◌, arith}
use Rattle.std.specs.Prelude.{◌&&◌, nat_lt, ⊤}
use Rattle.std.proofs.lemmas.Bool.Decides.{nat_tests}
use Rattle.script_value.specs.declared.outcome.TxName.{TxName}
use Rattle.script_nodes.specs.Setup.{Named}
use Rattle.replay_spec.specs.Book.{Instance, Change, opens, extends, ends, finishes, sweeps, Line, changed, renewed, File, Book, reopened, instance_at, page_at, is_live, page_by}
use Rattle.replay_spec.specs.Rules.{Rules}
use Rattle.replay_spec.specs.Change.{mend, shown_by, ended_by, opened_by, instances_by, logged_by, clock_by, land}
use Rattle.server_limits.specs.Limits.{most_fuel}
use Rattle.replay_spec.specs.Tape.{present}
use Rattle.replay_spec.specs.Next.{comes_to}
use Rattle.replay_spec.specs.Admission.{is_one, when, ◌>>=◌, Place}
use Rattle.replay_spec.specs.Compaction.{is_there, stays_in, stays, is_sweep, ahead_of, last_sweeps, compaction, file_length}
use Rattle.replay_spec.specs.Recovery.{page_of_numbers, if_can_go, again, extension_visit, ended_so, remade, Made, number_in, is_repeated, with_number, taken_in, redone, redo, of_length, resettled, then_line, lines_after, first_of, made_of_file}
use Rattle.replay_spec.specs.Invariant.{Among, IsOf}
use Rattle.replay_spec.specs.Remade.{IsTakenIn, IsTakenLine, AreTaken, IsLike, IsFiled, IsOrderlyMade, CompactionKeepsTheBook}
use Rattle.replay_spec.proofs.Admitted.{came_from, when_is}
use Rattle.replay_spec.proofs.Numbered.{put_other}
use Rattle.replay_spec.proofs.Found.{KeepsNumber, without_none}
use Rattle.replay_spec.proofs.Stand.{none_orderly}
use Rattle.replay_spec.proofs.Landed.{none_by, never}
use Rattle.replay_spec.proofs.Differ.{mend_from}
use Rattle.replay_spec.proofs.Recovered.{Unseen, among_is, new_number, place_is, redone_logged, made_orderly}
use Rattle.replay_spec.proofs.Living.{lives, none_there, kept_at, mend_lives, mend_dead, keeps_commute, without_dead, all_live, opened_lives, opened_dead, swept_twice}
use Rattle.replay_spec.proofs.Filed.{bare, remade_bare, remade_like, like_self, like_then, land_like, SeenLess, taken_redo, taken_parts, taken_from, file_of_lines, length_of_lines}

pub not_one : (n : ℕ) (ns : List ℕ) → (Among n ns → ⊥) → is_one n ns ≡ false
not_one n [] h = refl
not_one n (m ∷ ns) h = let rest = not_one n ns (λ there. h (inr there)) in let other : m ≡ n → ⊥ = λ e. h (inl e) in grind (arith, nat_tests, rest, other)

pub not_repeated : (c : Change) (seen : List ℕ) → ((m : ℕ) → IsOf m c → Among m seen → ⊥) → is_repeated (number_in c) seen ≡ false
not_repeated (opens o) seen h = not_one o.number seen (h o.number refl)
not_repeated (extends x) seen h = not_one x.number seen (h x.number refl)
not_repeated (ends e) seen h = not_one e.number seen (h e.number refl)
not_repeated (finishes f) seen h = not_one f.number seen (h f.number refl)
not_repeated (sweeps tick) seen h = refl

-- a number that the test finds is one of these
pub one_among : (n : ℕ) (ns : List ℕ) → is_one n ns ≡ true → Among n ns
one_among n [] h = absurd (let no : ⊥ = cc in no)
one_among n (m ∷ ns) h = by_test (m == n) refl h (one_among n ns)
  where
    by_test : (b : Bool) → (m == n) ≡ b → (if b then true else is_one n ns) ≡ true → (is_one n ns ≡ true → Among n ns) → Among n (m ∷ ns)
    by_test true e f rest = inl (grind (arith, nat_tests, e))
    by_test false e f rest = inr (rest f)

-- each instance of an orderly made book has a number that was seen
seen_of : (m : Made) (n : ℕ) (i : Instance) → IsOrderlyMade m → instance_at n m.book.instances ≡ Some i → Among n m.seen
seen_of m n i g found = by_test (is_one n m.seen) refl
  where
    by_test : (b : Bool) → is_one n m.seen ≡ b → Among n m.seen
    by_test true e = one_among n m.seen e
    by_test false e = absurd (never (instance_at n m.book.instances) i (g.instances.no_instance n (λ there. let yes = among_is n m.seen there in let no : ⊥ = cc in no)) found)

pub more_among : (c : Change) (seen : List ℕ) (n : ℕ) → Among n seen → Among n (with_number (number_in c) seen)
more_among (opens o) seen n h = inr h
more_among (extends x) seen n h = inr h
more_among (ends e) seen n h = inr h
more_among (finishes f) seen n h = inr h
more_among (sweeps tick) seen n h = h

pub with_less : (c : Change) (ns ms : List ℕ) → SeenLess ns ms → SeenLess (with_number (number_in c) ns) (with_number (number_in c) ms)
with_less (opens o) ns ms less n h = ⊎_elim (λ e. inl e) (λ old. inr (less n old)) h
with_less (extends x) ns ms less n h = ⊎_elim (λ e. inl e) (λ old. inr (less n old)) h
with_less (ends e) ns ms less n h = ⊎_elim (λ e. inl e) (λ old. inr (less n old)) h
with_less (finishes f) ns ms less n h = ⊎_elim (λ e. inl e) (λ old. inr (less n old)) h
with_less (sweeps tick) ns ms less n h = less n h

-- what was made stays orderly with more lines
pub line_orderly : (l : Line) (m : Made) → IsOrderlyMade m → IsOrderlyMade (then_line l m)
line_orderly (changed c n) m g = (made_orderly (of_length n)).1 c m g
line_orderly (renewed scripts n) m g = record {
  instances = g.instances;
  counted = g.counted;
  again = ap (λ (b : Book). (resettled n scripts (record { book = b; seen = m.seen })).book) g.again;
}

pub lines_orderly : (ls : List Line) (m : Made) → IsOrderlyMade m → IsOrderlyMade (lines_after ls m)
lines_orderly [] m g = g
lines_orderly (l ∷ ls) m g = lines_orderly ls (then_line l m) (line_orderly l m g)

pub first_orderly : (shelf : ℕ) (f : File) → IsOrderlyMade (first_of shelf f)
first_orderly shelf f = record { instances = none_orderly (Unseen []); counted = λ n there. absurd there; again = refl }

-- no later record opens an instance of a number that was seen
mend_still : (n k : ℕ) (f : Instance → Instance) (is : List Instance) → KeepsNumber f → instance_at n is ≡ None → instance_at n (mend k f is) ≡ None
mend_still n k f is same none = none_by (instance_at n (mend k f is))
    (λ j found. ⊎_elim (λ old. never (instance_at n is) j none old) (λ (i, (there, e)). never (instance_at n is) i none there) (mend_from n k f is j same found))

filter_still : (n : ℕ) (g : Instance → Bool) (is : List Instance) → instance_at n is ≡ None → instance_at n (filter g is) ≡ None
filter_still n g [] none = refl
filter_still n g (i ∷ is) none = grind (arith, filter_still n g is)

gone_by : (scripts : List Named) (c : Change) (inside : List TxName) (is : List Instance) (n : ℕ) → (IsOf n c → ⊥) → instance_at n is ≡ None → instance_at n (instances_by scripts c inside is) ≡ None
gone_by scripts (opens o) inside is n other none = by_script (slice_get scripts o.script)
  where
    by_script : (a : Option Named) → instance_at n (opened_by a o inside is) ≡ None
    by_script None = none
    by_script (Some s) = put_other (λ (i : Instance). i.number) n _ is other ∙ none
gone_by scripts (extends x) inside is n other none = mend_still n x.instance (shown_by x.effects x.left x.kind x.evicted (page_by x inside)) is (λ i. refl) none
gone_by scripts (ends e) inside is n other none = mend_still n e.instance (ended_by e) is (λ i. refl) none
gone_by scripts (finishes f) inside is n other none = filter_still n (λ i. not (i.number == f.instance)) is none
gone_by scripts (sweeps tick) inside is n other none = filter_still n (is_live tick) is none

pub gone_stays : (ls : List Line) (m : Made) (n : ℕ) → AreTaken ls m → Among n m.seen → instance_at n m.book.instances ≡ None → instance_at n (lines_after ls m).book.instances ≡ None
gone_stays [] m n taken seen none = none
gone_stays (changed c k ∷ ls) m n ((inside, e), taken) seen none =
    let parts = taken_parts m c inside e in
    let next = taken_redo (of_length k) c m inside e in
    let behind : instance_at n (redo (of_length k) c m).book.instances ≡ None =
    ap (λ (x : Made). instance_at n x.book.instances) next ∙ gone_by m.book.scripts c inside m.book.instances n (λ is_it. new_number c m.seen parts.0 n is_it seen) none in
    gone_stays ls (redo (of_length k) c m) n taken (more_among c m.seen n seen) behind
gone_stays (renewed scripts k ∷ ls) m n taken seen none = gone_stays ls (resettled k scripts m) n taken.1 seen none

-- what is made of the lines that stay goes beside what is made of all
pub record Follows (ls : List Instance) (m k : Made) : Type 0 where
  pub shelf : k.book.shelf ≡ m.book.shelf
  pub scripts : k.book.scripts ≡ m.book.scripts
  pub clock : k.book.clock ≡ m.book.clock
  pub instances : k.book.instances ≡ filter (lives ls) m.book.instances
  pub seen : SeenLess k.seen m.seen

-- a record that stays tells the same beside the others and without those that go
kept_line : (ls : List Instance) (c : Change) (n : ℕ) (m k : Made) (inside : List TxName) → taken_in m c ≡ Some inside → Follows ls m k → remade k.book c ≡ remade m.book c
    → instances_by m.book.scripts c inside k.book.instances ≡ filter (lives ls) (instances_by m.book.scripts c inside m.book.instances)
    → IsTakenIn k c × Follows ls (redo (of_length n) c m) (redo (of_length n) c k)
kept_line ls c n m k inside e h same is =
    let parts = taken_parts m c inside e in
    let new : is_repeated (number_in c) k.seen ≡ false = not_repeated c k.seen (λ x is_it there. new_number c m.seen parts.0 x is_it (h.seen x there)) in
    let into : taken_in k c ≡ Some inside = taken_from k c inside new (same ∙ parts.1) in
    let both : Follows ls (record { book = reopened (land (of_length n) c inside m.book); seen = with_number (number_in c) m.seen }) (record { book = reopened (land (of_length n) c inside k.book); seen = with_number (number_in c) k.seen }) =
    record {
      shelf = h.shelf;
      scripts = h.scripts;
      clock = ap (λ (t : ℕ). clock_by c t) h.clock;
      instances = ap (λ (ss : List Named). instances_by ss c inside k.book.instances) h.scripts ∙ is;
      seen = with_less c k.seen m.seen h.seen;
    } in (
      (inside, into),
      subst (λ (x : Made). Follows ls x (redo (of_length n) c k)) (sym (taken_redo (of_length n) c m inside e))
          (subst (λ (x : Made). Follows ls (record { book = reopened (land (of_length n) c inside m.book); seen = with_number (number_in c) m.seen }) x) (sym (taken_redo (of_length n) c k inside into)) both),
    )

-- a record that goes tells of no instance that stays
left_line : (ls : List Instance) (c : Change) (n : ℕ) (m k : Made) (inside : List TxName) → taken_in m c ≡ Some inside → Follows ls m k → clock_by c m.book.clock ≡ m.book.clock
    → filter (lives ls) m.book.instances ≡ filter (lives ls) (instances_by m.book.scripts c inside m.book.instances) → Follows ls (redo (of_length n) c m) k
left_line ls c n m k inside e h clock is =
    let one : Follows ls (record { book = reopened (land (of_length n) c inside m.book); seen = with_number (number_in c) m.seen }) k = record {
      shelf = h.shelf;
      scripts = h.scripts;
      clock = h.clock ∙ sym clock;
      instances = h.instances ∙ is;
      seen = λ x there. more_among c m.seen x (h.seen x there);
    } in
    subst (λ (x : Made). Follows ls x k) (sym (taken_redo (of_length n) c m inside e)) one

-- a record of an instance that lives on, and one of a start, tells the same
same_bare : (ls : List Instance) (m k : Made) (c : Change) → Follows ls m k
    → remade (bare m.book.shelf m.book.scripts m.book.clock (filter (lives ls) m.book.instances)) c ≡ remade m.book c → remade k.book c ≡ remade m.book c
same_bare ls m k c h e =
    remade_bare k.book c
    ∙ (ap (λ (n : ℕ). remade (bare n k.book.scripts k.book.clock k.book.instances) c) h.shelf
    ∙ (ap (λ (ss : List Named). remade (bare m.book.shelf ss k.book.clock k.book.instances) c) h.scripts
    ∙ (ap (λ (n : ℕ). remade (bare m.book.shelf m.book.scripts n k.book.instances) c) h.clock
    ∙ (ap (λ (is : List Instance). remade (bare m.book.shelf m.book.scripts m.book.clock is) c) h.instances ∙ e))))

pub place_lives : (b : Book) (ls : List Instance) (n p : ℕ) → is_there n ls ≡ true
    → page_of_numbers (bare b.shelf b.scripts b.clock (filter (lives ls) b.instances)) n p ≡ page_of_numbers b n p
place_lives b ls n p h = ap (λ (o : Option Instance). o >>= (λ i. page_at p i.pages >>= (λ q. Some (record { instance = i; page = q })))) (kept_at ls n b.instances h)

abbrev pub Both : List Instance → (b : Bool) → Change → (n : ℕ) → Made → Made → Type 0
Both ls true c n m k = IsTakenIn k c × Follows ls (redo (of_length n) c m) (redo (of_length n) c k)
Both ls false c n m k = Follows ls (redo (of_length n) c m) k

-- the instance stands whose page a record answers
answered_there : (m : Made) (n p : ℕ) (at : Place) → page_of_numbers m.book n p ≡ Some at → instance_at n m.book.instances ≡ Some at.instance
answered_there m n p at e = (place_is m.book n p at e).0

pub both_lines : (ls : List Instance) (c : Change) (n : ℕ) (m k : Made) → IsOrderlyMade m → IsTakenIn m c → Follows ls m k
    → ((x : ℕ) → Among x m.seen → (IsOf x c → ⊥) → instance_at x (redo (of_length n) c m).book.instances ≡ None → is_there x ls ≡ false)
    → (b : Bool) → stays_in ls c ≡ b → Both ls b c n m k
both_lines ls (opens o) n m k g (inside, e) h gone true stay =
    let none = g.instances.no_instance o.number (new_number (opens o) m.seen (taken_parts m (opens o) inside e).0 o.number refl) in
    kept_line ls (opens o) n m k inside e h (same_bare ls m k (opens o) h refl)
    (ap (λ (is : List Instance). opened_by (slice_get m.book.scripts o.script) o inside is) h.instances
    ∙ opened_lives (slice_get m.book.scripts o.script) o inside ls m.book.instances g.instances.rising none stay)
both_lines ls (opens o) n m k g (inside, e) h gone false stay =
    let none = g.instances.no_instance o.number (new_number (opens o) m.seen (taken_parts m (opens o) inside e).0 o.number refl) in
    left_line ls (opens o) n m k inside e h refl (opened_dead (slice_get m.book.scripts o.script) o inside ls m.book.instances none stay)
both_lines ls (extends x) n m k g (inside, e) h gone true stay =
    let f = shown_by x.effects x.left x.kind x.evicted (page_by x inside) in
    kept_line ls (extends x) n m k inside e h
    (same_bare ls m k (extends x) h (ap (λ (o : Option Place). o >>= (λ at. if_can_go x.evicted at.instance.used (again x.kind x.effects x.left (comes_to (extension_visit m.book x at) (present at.instance.cells most_fuel)))))
    (place_lives m.book ls x.instance x.page stay)))
    (ap (λ (is : List Instance). mend x.instance f is) h.instances ∙ sym (mend_lives x.instance f ls m.book.instances (λ i. refl) stay))
both_lines ls (extends x) n m k g (inside, e) h gone false stay =
    left_line ls (extends x) n m k inside e h refl (sym (mend_dead x.instance (shown_by x.effects x.left x.kind x.evicted (page_by x inside)) ls m.book.instances (λ i. refl) stay))
both_lines ls (ends x) n m k g (inside, e) h gone true stay =
    kept_line ls (ends x) n m k inside e h
    (same_bare ls m k (ends x) h (ap (λ (o : Option Place). o >>= (λ at. ended_so x.effects at.instance.cells)) (place_lives m.book ls x.instance x.page stay)))
    (ap (λ (is : List Instance). mend x.instance (ended_by x) is) h.instances ∙ sym (mend_lives x.instance (ended_by x) ls m.book.instances (λ i. refl) stay))
both_lines ls (ends x) n m k g (inside, e) h gone false stay =
    left_line ls (ends x) n m k inside e h refl (sym (mend_dead x.instance (ended_by x) ls m.book.instances (λ i. refl) stay))
both_lines ls (finishes f) n m k g (inside, e) h gone true stay = absurd (let no : ⊥ = cc in no)
both_lines ls (finishes f) n m k g (inside, e) h gone false stay =
    let at = came_from (page_of_numbers m.book f.instance f.page) _ inside (taken_parts m (finishes f) inside e).1 in
    let there = answered_there m f.instance f.page at.0 at.1.0 in
    let seen = seen_of m f.instance at.0.instance g there in
    let dead : is_there f.instance ls ≡ false =
    gone f.instance seen
    (λ same. new_number (finishes f) m.seen (taken_parts m (finishes f) inside e).0 f.instance same seen)
    (ap (λ (x : Made). instance_at f.instance x.book.instances) (taken_redo (of_length n) (finishes f) m inside e) ∙ without_none f.instance m.book.instances) in
    left_line ls (finishes f) n m k inside e h refl (sym (without_dead f.instance ls m.book.instances dead))
both_lines ls (sweeps tick) n m k g (inside, e) h gone true stay =
    kept_line ls (sweeps tick) n m k inside e h (same_bare ls m k (sweeps tick) h refl)
    (ap (λ (is : List Instance). filter (is_live tick) is) h.instances ∙ keeps_commute (is_live tick) (lives ls) m.book.instances)
both_lines ls (sweeps tick) n m k g (inside, e) h gone false stay = absurd (let no : ⊥ = cc in no)

abbrev pub Rest : List Instance → List Line → Made → Made → Type 0
Rest ls xs m k = AreTaken (filter (stays ls) xs) k × Follows ls (lines_after xs m) (lines_after (filter (stays ls) xs) k)

go_on : (ls : List Instance) (c : Change) (n : ℕ) (xs : List Line) (m k : Made) → ((j : Made) → Follows ls (redo (of_length n) c m) j → Rest ls xs (redo (of_length n) c m) j)
    → (b : Bool) → Both ls b c n m k
    → let ys = if b then changed c n ∷ filter (stays ls) xs else filter (stays ls) xs in
    AreTaken ys k × Follows ls (lines_after xs (redo (of_length n) c m)) (lines_after ys k)
go_on ls c n xs m k rest true both = let r = rest (redo (of_length n) c k) both.1 in ((both.0, r.0), r.1)
go_on ls c n xs m k rest false both = rest k both

-- without the records of instances that are gone the rest makes the same of those that stay
pub drop_dead : (ls : List Instance) (xs : List Line) (m k : Made) → IsOrderlyMade m → AreTaken xs m → Follows ls m k
    → ((x : ℕ) → instance_at x (lines_after xs m).book.instances ≡ None → is_there x ls ≡ false) → Rest ls xs m k
drop_dead ls [] m k g taken h over = (tt, h)
drop_dead ls (renewed scripts n ∷ xs) m k g taken h over =
    let rest = drop_dead ls xs (resettled n scripts m) (resettled n scripts k) (line_orderly (renewed scripts n) m g) taken.1
    (record { shelf = h.shelf; scripts = refl; clock = h.clock; instances = h.instances; seen = h.seen }) over in
    ((tt, rest.0), rest.1)
drop_dead ls (changed c n ∷ xs) m k g taken h over =
    let next = redo (of_length n) c m in
    go_on ls c n xs m k
    (λ j f. drop_dead ls xs next j (line_orderly (changed c n) m g) taken.1 f over)
    (stays_in ls c)
    (both_lines ls c n m k g taken.0 h
    (λ x seen other none. over x (gone_stays xs next x taken.1 (more_among c m.seen x seen) none))
    (stays_in ls c) refl)

-- what was made twice is alike, and counts the same numbers
pub record Alike (m k : Made) : Type 0 where
  pub like : IsLike k.book m.book
  pub seen : k.seen ≡ m.seen

alike_self : (m : Made) → Alike m m
alike_self m = record { like = like_self m.book; seen = refl }

alike_then : (m k j : Made) → Alike m k → Alike k j → Alike m j
alike_then m k j one two = record { like = like_then j.book k.book m.book two.like one.like; seen = two.seen ∙ one.seen }

pub alike_line : (c : Change) (n : ℕ) (m k : Made) → IsTakenIn m c → Alike m k → IsTakenIn k c × Alike (redo (of_length n) c m) (redo (of_length n) c k)
alike_line c n m k (inside, e) h =
    let parts = taken_parts m c inside e in
    let into : taken_in k c ≡ Some inside =
    taken_from k c inside (ap (λ (ns : List ℕ). is_repeated (number_in c) ns) h.seen ∙ parts.0) (remade_like k.book m.book c h.like ∙ parts.1) in
    let both : Alike (record { book = reopened (land (of_length n) c inside m.book); seen = with_number (number_in c) m.seen }) (record { book = reopened (land (of_length n) c inside k.book); seen = with_number (number_in c) k.seen }) =
    record {
      like = (let l = land_like (of_length n) (of_length n) k.book m.book c inside h.like in record { shelf = l.shelf; scripts = l.scripts; clock = l.clock; instances = l.instances });
      seen = ap (λ (ns : List ℕ). with_number (number_in c) ns) h.seen;
    } in (
      (inside, into),
      subst (λ (x : Made). Alike x (redo (of_length n) c k)) (sym (taken_redo (of_length n) c m inside e))
          (subst (λ (x : Made). Alike (record { book = reopened (land (of_length n) c inside m.book); seen = with_number (number_in c) m.seen }) x) (sym (taken_redo (of_length n) c k inside into)) both),
    )

pub alike_lines : (ls : List Line) (m k : Made) → AreTaken ls m → Alike m k → AreTaken ls k × Alike (lines_after ls m) (lines_after ls k)
alike_lines [] m k taken h = (tt, h)
alike_lines (changed c n ∷ ls) m k taken h =
    let one = alike_line c n m k taken.0 h in
    let rest = alike_lines ls (redo (of_length n) c m) (redo (of_length n) c k) taken.1 one.1 in
    ((one.0, rest.0), rest.1)
alike_lines (renewed scripts n ∷ ls) m k taken h =
    let rest = alike_lines ls (resettled n scripts m) (resettled n scripts k) taken.1
    (record { like = record { shelf = h.like.shelf; scripts = refl; clock = h.like.clock; instances = h.like.instances }; seen = h.seen }) in
    ((tt, rest.0), rest.1)

-- a sweep directly before another one makes no difference
pub sweep_skips : (s t n p : ℕ) (m : Made) → IsTakenIn m (sweeps s) → IsTakenIn (redo (of_length n) (sweeps s) m) (sweeps t)
    → IsTakenIn m (sweeps t) × Alike (redo (of_length p) (sweeps t) (redo (of_length n) (sweeps s) m)) (redo (of_length p) (sweeps t) m)
sweep_skips s t n p m (inside, e) (names, f) =
    let one = taken_redo (of_length n) (sweeps s) m inside e in
    let before : m.book.clock < s = (let w = (when_is (nat_lt m.book.clock s) [] inside (taken_parts m (sweeps s) inside e).1).0 in grind (arith, nat_tests, w)) in
    let g : taken_in (record { book = reopened (land (of_length n) (sweeps s) inside m.book); seen = m.seen }) (sweeps t) ≡ Some names = subst (λ (x : Made). taken_in x (sweeps t) ≡ Some names) one f in
    let parts = when_is (nat_lt s t) [] names g in
    let later : s < t = (let w = parts.0 in grind (arith, nat_tests, w)) in
    let up : nat_lt m.book.clock t ≡ true = grind (arith, nat_tests, before, later) in
    let into : taken_in m (sweeps t) ≡ Some names = ap (λ (b : Bool). when b []) up ∙ ap (λ (ns : List TxName). Some ns) parts.1 in
    let two : redo (of_length p) (sweeps t) (redo (of_length n) (sweeps s) m) ≡ record { book = reopened (land (of_length p) (sweeps t) names (reopened (land (of_length n) (sweeps s) inside m.book))); seen = m.seen } =
    ap (λ (x : Made). redo (of_length p) (sweeps t) x) one ∙ taken_redo (of_length p) (sweeps t) (record { book = reopened (land (of_length n) (sweeps s) inside m.book); seen = m.seen }) names g in
    let both : Alike (record { book = reopened (land (of_length p) (sweeps t) names (reopened (land (of_length n) (sweeps s) inside m.book))); seen = m.seen }) (record { book = reopened (land (of_length p) (sweeps t) names m.book); seen = m.seen }) =
    record { like = record { shelf = refl; scripts = refl; clock = refl; instances = sym (swept_twice s t m.book.instances (omega (arith, later))) }; seen = refl } in (
      (names, into),
      subst (λ (x : Made). Alike x (redo (of_length p) (sweeps t) m)) (sym two)
          (subst (λ (x : Made). Alike (record { book = reopened (land (of_length p) (sweeps t) names (reopened (land (of_length n) (sweeps s) inside m.book))); seen = m.seen }) x) (sym (taken_redo (of_length p) (sweeps t) m names into)) both),
    )

abbrev pub Joins : List Line → Made → Made → Type 0
Joins ys m j = AreTaken ys m × Alike j (lines_after ys m)

-- a line before others whose sweeps were joined makes what it makes before the others
join_ahead : (l : Line) (ys : List Line) (m j : Made) → IsTakenLine m l → Joins ys (then_line l m) j → Joins (ahead_of l ys) m j
join_ahead l [] m j taken h = ((taken, tt), h.1)
join_ahead (renewed scripts n) (y ∷ ys) m j taken h = ((taken, h.0), h.1)
join_ahead (changed (opens o) n) (y ∷ ys) m j taken h = ((taken, h.0), h.1)
join_ahead (changed (extends x) n) (y ∷ ys) m j taken h = ((taken, h.0), h.1)
join_ahead (changed (ends e) n) (y ∷ ys) m j taken h = ((taken, h.0), h.1)
join_ahead (changed (finishes f) n) (y ∷ ys) m j taken h = ((taken, h.0), h.1)
join_ahead (changed (sweeps s) n) (renewed scripts p ∷ ys) m j taken h = ((taken, h.0), h.1)
join_ahead (changed (sweeps s) n) (changed (opens o) p ∷ ys) m j taken h = ((taken, h.0), h.1)
join_ahead (changed (sweeps s) n) (changed (extends x) p ∷ ys) m j taken h = ((taken, h.0), h.1)
join_ahead (changed (sweeps s) n) (changed (ends e) p ∷ ys) m j taken h = ((taken, h.0), h.1)
join_ahead (changed (sweeps s) n) (changed (finishes f) p ∷ ys) m j taken h = ((taken, h.0), h.1)
join_ahead (changed (sweeps s) n) (changed (sweeps t) p ∷ ys) m j taken h =
    let one = sweep_skips s t n p m taken h.0.0 in
    let rest = alike_lines ys (redo (of_length p) (sweeps t) (redo (of_length n) (sweeps s) m)) (redo (of_length p) (sweeps t) m) h.0.1 one.1 in
    ((one.0, rest.0), alike_then j (lines_after ys (redo (of_length p) (sweeps t) (redo (of_length n) (sweeps s) m))) (lines_after ys (redo (of_length p) (sweeps t) m)) h.1 rest.1)

pub join_sweeps : (ls : List Line) (m : Made) → AreTaken ls m → Joins (last_sweeps ls) m (lines_after ls m)
join_sweeps [] m taken = (tt, alike_self m)
join_sweeps (l ∷ ls) m taken = join_ahead l (last_sweeps ls) m (lines_after ls (then_line l m)) taken.0 (join_sweeps ls (then_line l m) taken.1)

-- a count is above the numbers of these records
abbrev pub AreBelow : ℕ → List Line → Type 0
AreBelow top [] = ⊤
AreBelow top (changed c n ∷ ls) = (logged_by c ≤ top) × AreBelow top ls
AreBelow top (renewed scripts n ∷ ls) = AreBelow top ls

pub rises : (ls : List Line) (m : Made) → m.book.logged ≤ (lines_after ls m).book.logged
rises [] m = omega arith
rises (changed c n ∷ ls) m =
    let rest = rises ls (redo (of_length n) c m) in let one = redone_logged (of_length n) c (taken_in m c) m.book in omega (arith, rest, one)
rises (renewed scripts n ∷ ls) m = rises ls (resettled n scripts m)

pub are_below : (top : ℕ) (ls : List Line) (m : Made) → (lines_after ls m).book.logged ≤ top → AreBelow top ls
are_below top [] m h = tt
are_below top (changed c n ∷ ls) m h =
    let rest = rises ls (redo (of_length n) c m) in let one = redone_logged (of_length n) c (taken_in m c) m.book in
    (omega (arith, rest, one, h), are_below top ls (redo (of_length n) c m) h)
are_below top (renewed scripts n ∷ ls) m h = are_below top ls (resettled n scripts m) h

below_stay : (top : ℕ) (is : List Instance) (ls : List Line) → AreBelow top ls → AreBelow top (filter (stays is) ls)
below_stay top is [] h = tt
below_stay top is (renewed scripts n ∷ ls) h = below_stay top is ls h
below_stay top is (changed c n ∷ ls) h = by_test (stays_in is c) (below_stay top is ls h.1)
  where
    by_test : (b : Bool) → AreBelow top (filter (stays is) ls) → AreBelow top (if b then changed c n ∷ filter (stays is) ls else filter (stays is) ls)
    by_test true rest = (h.0, rest)
    by_test false rest = rest

below_ahead : (top : ℕ) (l : Line) (ys : List Line) → AreBelow top (l ∷ ys) → AreBelow top ys → AreBelow top (ahead_of l ys)
below_ahead top l [] h rest = h
below_ahead top l (y ∷ ys) h rest = by_test (is_sweep l && is_sweep y)
  where
    by_test : (b : Bool) → AreBelow top (if b then y ∷ ys else l ∷ y ∷ ys)
    by_test true = rest
    by_test false = h

below_joined : (top : ℕ) (ls : List Line) → AreBelow top ls → AreBelow top (last_sweeps ls)
below_joined top [] h = tt
below_joined top (changed c n ∷ ls) h = let rest = below_joined top ls h.1 in below_ahead top (changed c n) (last_sweeps ls) (h.0, rest) rest
below_joined top (renewed scripts n ∷ ls) h = let rest = below_joined top ls h in below_ahead top (renewed scripts n) (last_sweeps ls) rest rest

logged_stays : (top : ℕ) (ls : List Line) (m : Made) → AreBelow top ls → m.book.logged ≡ top → (lines_after ls m).book.logged ≡ top
logged_stays top [] m h e = e
logged_stays top (changed c n ∷ ls) m h e =
    let one = redone_logged (of_length n) c (taken_in m c) m.book in let less = h.0 in
    logged_stays top ls (redo (of_length n) c m) h.1 (omega (arith, one, e, less))
logged_stays top (renewed scripts n ∷ ls) m h e = logged_stays top ls (resettled n scripts m) h e

-- a book that is as after a crash is known by its parts
abbrev pub parted : (shelf : ℕ) → List Named → (clock logged length : ℕ) → File → List Instance → Book
parted shelf scripts clock logged length file is = record {
  shelf = shelf;
  scripts = scripts;
  clock = clock;
  drawn = logged;
  logged = logged;
  length = length;
  file = file;
  out = [];
  down = None;
  follows = false;
  instances = is;
}

pub parts_same : (c b : Book) (length : ℕ) (file : File) → c.shelf ≡ b.shelf → c.scripts ≡ b.scripts → c.clock ≡ b.clock → c.logged ≡ b.logged → c.length ≡ length → c.file ≡ file → c.instances ≡ b.instances
    → parted c.shelf c.scripts c.clock c.logged c.length c.file c.instances ≡ parted b.shelf b.scripts b.clock b.logged length file b.instances
parts_same c b length file e1 e2 e3 e4 e5 e6 e7 = cc

redone_follows : (r : Rules) (c : Change) (o : Option (List TxName)) (b : Book) → (redone r c o b).follows ≡ b.follows
redone_follows r c None b = refl
redone_follows r c (Some inside) b = refl

-- lines make no shelf follow, and none cease to
pub lines_follow : (ls : List Line) (m : Made) → (lines_after ls m).book.follows ≡ m.book.follows
lines_follow [] m = refl
lines_follow (changed c n ∷ ls) m = lines_follow ls (redo (of_length n) c m) ∙ redone_follows (of_length n) c (taken_in m c) m.book
lines_follow (renewed scripts n ∷ ls) m = lines_follow ls (resettled n scripts m)

-- a book of a shelf that does not follow is known by its parts
pub unfollowed : (c : Book) → c.follows ≡ false → reopened c ≡ parted c.shelf c.scripts c.clock c.logged c.length c.file c.instances
unfollowed c e = ap (λ (f : Bool). record (reopened c) { follows = f }) e

-- the compacted file of a book makes a book like it, and passes over no record
pub compacted_parts : (b : Book) → IsFiled b
    → AreTaken (compaction b).lines (first_of b.shelf (compaction b)) × IsLike (made_of_file b.shelf (compaction b)).book b
    × ((made_of_file b.shelf (compaction b)).book.logged ≡ b.logged)
    × SeenLess (made_of_file b.shelf (compaction b)).seen (made_of_file b.shelf b.file).seen
compacted_parts b h =
    let f = b.file in
    let is = b.instances in
    let m = first_of b.shelf f in
    let k = first_of b.shelf (compaction b) in
    let end = lines_after f.lines m in
    let rest = drop_dead is f.lines m k (first_orderly b.shelf f) h.taken (record { shelf = refl; scripts = refl; clock = refl; instances = refl; seen = λ n there. there })
    (λ n none. none_there n is (ap (λ (js : List Instance). instance_at n js) (sym h.made.instances) ∙ none)) in
    let joined = join_sweeps (filter (stays is) f.lines) k rest.0 in
    let mid = lines_after (filter (stays is) f.lines) k in
    let whole : mid.book.instances ≡ is = rest.1.instances ∙ (ap (λ (js : List Instance). filter (lives is) js) h.made.instances ∙ all_live is is (λ n e. e)) in (
      joined.0,
      record {
        shelf = joined.1.like.shelf ∙ (rest.1.shelf ∙ h.made.shelf);
        scripts = joined.1.like.scripts ∙ (rest.1.scripts ∙ h.made.scripts);
        clock = joined.1.like.clock ∙ (rest.1.clock ∙ h.made.clock);
        instances = joined.1.like.instances ∙ whole;
      },
      logged_stays b.logged (last_sweeps (filter (stays is) f.lines)) k
          (below_joined b.logged (filter (stays is) f.lines) (below_stay b.logged is f.lines (are_below b.logged f.lines m h.logged))) refl,
      λ n there. rest.1.seen n (subst (λ (ns : List ℕ). Among n ns) joined.1.seen there),
    )

pub keeps_the_book : CompactionKeepsTheBook
keeps_the_book b h =
    let g = compaction b in
    let k = first_of b.shelf g in
    let c = (made_of_file b.shelf g).book in
    let parts = compacted_parts b h in
    let like = parts.1 in
    let again : c ≡ reopened c = (lines_orderly g.lines k (first_orderly b.shelf g)).again in
    let file : c.file ≡ g = file_of_lines g.lines k parts.0 in
    let size : c.length ≡ file_length g = length_of_lines g.lines k parts.0 in
    (again ∙ unfollowed c (lines_follow g.lines k) ∙ parts_same c b (file_length g) g like.shelf like.scripts like.clock parts.2 size file like.instances, parts.0)
