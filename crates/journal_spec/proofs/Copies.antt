-- A compacted file has the bodies that stay.
use Rattle.std.proofs.Common.{◌≡◌, ℕ, List, [], ◌∷◌, map, Option, None, Bool, true, false, filter, refl, sym, ap, ◌∙◌, if◌then◌else◌}
use Rattle.script_nodes.specs.Setup.{Named}
use Rattle.replay_spec.specs.Book.{Instance, Change, opens, extends, ends, finishes, sweeps, Line, changed, renewed, Book, instance_at}
use Rattle.replay_spec.specs.Admission.{◌>>=◌, Place}
use Rattle.replay_spec.specs.Compaction.{is_there, stays_in, stays, ahead_of, last_sweeps, compaction}
use Rattle.replay_spec.specs.Recovery.{extension_visit, Made, redo, of_length, resettled, then_line, lines_after, first_of}
use Rattle.replay_spec.specs.Remade.{IsTakenLine, AreTaken, IsLike, IsOrderlyMade}
use Rattle.replay_spec.proofs.Filed.{bare, bare_like}
use Rattle.replay_spec.proofs.Living.{lives, none_there}
use Rattle.replay_spec.proofs.Compacted.{Follows, Alike, Both, both_lines, gone_stays, more_among, line_orderly, first_orderly, drop_dead, alike_line, sweep_skips, join_sweeps, place_lives}
use Rattle.instance_cells.specs.Cells.{reads_of}
use Rattle.replay_spec.specs.Tape.{recorded}
use Rattle.replay_spec.specs.Next.{tape_for}
use Rattle.kept_states.specs.Links.{behind_at}
use Rattle.journal_records.specs.Records.{begin_of, changes, draws, body_of}
use Rattle.journal_spec.specs.Before.{links_behind}
use Rattle.journal_spec.specs.Lengths.{state_over, told_bytes, own_state, own_body}
use Rattle.journal_spec.specs.Bodies.{spelled, with_spelled, ahead, joined, CompactionCopies}

-- a body depends on the shelf, the setup and the instances
own_bare : (b : Book) (c : Change) → own_body b c ≡ own_body (bare b.shelf b.scripts b.clock b.instances) c
own_bare b (opens o) = refl
own_bare b (extends x) = refl
own_bare b (ends e) = refl
own_bare b (finishes f) = refl
own_bare b (sweeps tick) = refl

own_like : (b d : Book) (c : Change) → IsLike b d → own_body b c ≡ own_body d c
own_like b d c h = own_bare b c ∙ (ap (λ (x : Book). own_body x c) (bare_like b d h) ∙ sym (own_bare d c))

pub spelled_like : (b d : Book) (l : Line) → IsLike b d → spelled b l ≡ spelled d l
spelled_like b d (changed c n) h = own_like b d c h
spelled_like b d (renewed scripts n) h = refl

-- and of an instance that lives on, on that instance alone
own_lives : (ls : List Instance) (m k : Made) (c : Change) → Follows ls m k → stays_in ls c ≡ true → own_body k.book c ≡ own_body m.book c
own_lives ls m k c h stay =
    own_bare k.book c
    ∙ (ap (λ (n : ℕ). own_body (bare n k.book.scripts k.book.clock k.book.instances) c) h.shelf
    ∙ (ap (λ (ss : List Named). own_body (bare m.book.shelf ss k.book.clock k.book.instances) c) h.scripts
    ∙ (ap (λ (n : ℕ). own_body (bare m.book.shelf m.book.scripts n k.book.instances) c) h.clock
    ∙ (ap (λ (is : List Instance). own_body (bare m.book.shelf m.book.scripts m.book.clock is) c) h.instances ∙ at ls m c stay))))
  where
    at : (is : List Instance) (j : Made) (x : Change) → stays_in is x ≡ true
        → own_body (bare j.book.shelf j.book.scripts j.book.clock (filter (lives is) j.book.instances)) x ≡ own_body j.book x
    at is j (opens o) e = refl
    at is j (extends x) e =
        ap (λ (o : Option Place). body_of (changes (extends x) (
        (o >>= (λ p. state_over p.instance.script.script (tape_for (extension_visit j.book x p) (recorded (reads_of x.effects)))))
        >>= told_bytes (o >>= (λ p. behind_at (links_behind p) (own_state j.book.shelf p)))
        ))) (place_lives j.book is x.instance x.page e)
    at is j (ends x) e = refl
    at is j (finishes f) e = absurd (let no : ⊥ = cc in no)
    at is j (sweeps tick) e = refl

abbrev Pair : Type 0
Pair = Line × List ℕ

abbrev stands : List Instance → Pair → Bool
stands is x = stays is x.0

spell_on : (ls : List Instance) (c : Change) (n : ℕ) (xs : List Line) (m k : Made) → Follows ls m k
    → ((j : Made) → Follows ls (redo (of_length n) c m) j → with_spelled (filter (stays ls) xs) j ≡ filter (stands ls) (with_spelled xs (redo (of_length n) c m)))
    → (b : Bool) → stays_in ls c ≡ b → Both ls b c n m k
    → with_spelled (if b then changed c n ∷ filter (stays ls) xs else filter (stays ls) xs) k
    ≡ (if b then (changed c n, own_body m.book c) ∷ filter (stands ls) (with_spelled xs (redo (of_length n) c m)) else filter (stands ls) (with_spelled xs (redo (of_length n) c m)))
spell_on ls c n xs m k h rest true stay both =
    ap (λ (bytes : List ℕ). (changed c n, bytes) ∷ with_spelled (filter (stays ls) xs) (redo (of_length n) c k)) (own_lives ls m k c h stay)
    ∙ ap (λ (ys : List Pair). (changed c n, own_body m.book c) ∷ ys) (rest (redo (of_length n) c k) both.1)
spell_on ls c n xs m k h rest false stay both = rest k both

-- the records of instances that are gone are left out
filter_spelled : (ls : List Instance) (xs : List Line) (m k : Made) → IsOrderlyMade m → AreTaken xs m → Follows ls m k
    → ((x : ℕ) → instance_at x (lines_after xs m).book.instances ≡ None → is_there x ls ≡ false)
    → with_spelled (filter (stays ls) xs) k ≡ filter (stands ls) (with_spelled xs m)
filter_spelled ls [] m k g taken h over = refl
filter_spelled ls (renewed scripts n ∷ xs) m k g taken h over =
    ap (λ (ys : List Pair). (renewed scripts n, spelled m.book (renewed scripts n)) ∷ ys)
    (filter_spelled ls xs (resettled n scripts m) (resettled n scripts k) (line_orderly (renewed scripts n) m g) taken.1
    (record { shelf = h.shelf; scripts = refl; clock = h.clock; instances = h.instances; seen = h.seen }) over)
filter_spelled ls (changed c n ∷ xs) m k g taken h over =
    let next = redo (of_length n) c m in
    spell_on ls c n xs m k h
    (λ j f. filter_spelled ls xs next j (line_orderly (changed c n) m g) taken.1 f over)
    (stays_in ls c) refl
    (both_lines ls c n m k g taken.0 h (λ x seen other none. over x (gone_stays xs next x taken.1 (more_among c m.seen x seen) none)) (stays_in ls c) refl)

-- two that are like one another spell alike
spelled_alike : (ls : List Line) (m k : Made) → AreTaken ls m → Alike m k → with_spelled ls m ≡ with_spelled ls k
spelled_alike [] m k taken h = refl
spelled_alike (changed c n ∷ ls) m k taken h =
    let one = alike_line c n m k taken.0 h in
    ap (λ (bytes : List ℕ). (changed c n, bytes) ∷ with_spelled ls (redo (of_length n) c m)) (sym (own_like k.book m.book c h.like))
    ∙ ap (λ (ys : List Pair). (changed c n, own_body k.book c) ∷ ys) (spelled_alike ls (redo (of_length n) c m) (redo (of_length n) c k) taken.1 one.1)
spelled_alike (renewed scripts n ∷ ls) m k taken h =
    ap (λ (ys : List Pair). (renewed scripts n, spelled m.book (renewed scripts n)) ∷ ys)
    (spelled_alike ls (resettled n scripts m) (resettled n scripts k) taken.1
    (record { like = record { shelf = h.like.shelf; scripts = refl; clock = h.like.clock; instances = h.like.instances }; seen = h.seen }))

abbrev Ahead : Line → List Line → Made → Type 0
Ahead l ys m = with_spelled (ahead_of l ys) m ≡ ahead (l, spelled m.book l) (with_spelled ys (then_line l m))

spell_ahead : (l : Line) (ys : List Line) (m : Made) → IsTakenLine m l → AreTaken ys (then_line l m) → Ahead l ys m
spell_ahead l [] m one taken = refl
spell_ahead (renewed scripts n) (y ∷ ys) m one taken = refl
spell_ahead (changed (opens o) n) (y ∷ ys) m one taken = refl
spell_ahead (changed (extends x) n) (y ∷ ys) m one taken = refl
spell_ahead (changed (ends e) n) (y ∷ ys) m one taken = refl
spell_ahead (changed (finishes f) n) (y ∷ ys) m one taken = refl
spell_ahead (changed (sweeps s) n) (renewed scripts p ∷ ys) m one taken = refl
spell_ahead (changed (sweeps s) n) (changed (opens o) p ∷ ys) m one taken = refl
spell_ahead (changed (sweeps s) n) (changed (extends x) p ∷ ys) m one taken = refl
spell_ahead (changed (sweeps s) n) (changed (ends e) p ∷ ys) m one taken = refl
spell_ahead (changed (sweeps s) n) (changed (finishes f) p ∷ ys) m one taken = refl
spell_ahead (changed (sweeps s) n) (changed (sweeps t) p ∷ ys) m one taken =
    let skip = sweep_skips s t n p m one taken.0 in
    ap (λ (zs : List Pair). (changed (sweeps t) p, own_body m.book (sweeps t)) ∷ zs)
    (sym (spelled_alike ys (redo (of_length p) (sweeps t) (redo (of_length n) (sweeps s) m)) (redo (of_length p) (sweeps t) m) taken.1 skip.1))

join_spelled : (ls : List Line) (m : Made) → AreTaken ls m → with_spelled (last_sweeps ls) m ≡ joined (with_spelled ls m)
join_spelled [] m taken = refl
join_spelled (l ∷ ls) m taken =
    spell_ahead l (last_sweeps ls) m taken.0 (join_sweeps ls (then_line l m) taken.1).0
    ∙ ap (λ (ys : List Pair). ahead (l, spelled m.book l) ys) (join_spelled ls (then_line l m) taken.1)

pub copies : CompactionCopies
copies b h =
    let f = b.file in
    let is = b.instances in
    let m = first_of b.shelf f in
    let k = first_of b.shelf (compaction b) in
    let start : Follows is m k = record { shelf = refl; scripts = refl; clock = refl; instances = refl; seen = λ n there. there } in
    let over : (x : ℕ) → instance_at x (lines_after f.lines m).book.instances ≡ None → is_there x is ≡ false =
    λ x none. none_there x is (ap (λ (js : List Instance). instance_at x js) (sym h.made.instances) ∙ none) in
    let rest = drop_dead is f.lines m k (first_orderly b.shelf f) h.taken start over in
    let same = join_spelled (filter (stays is) f.lines) k rest.0 ∙ ap joined (filter_spelled is f.lines m k (first_orderly b.shelf f) h.taken start over) in
    ap (λ (xs : List Pair). body_of (begin_of b.shelf f.scripts) ∷ (body_of (draws b.logged) ∷ map (λ (x : Pair). x.1) xs)) same
