-- Records of a file that pass the tests of their books go on to do so, with one more and where the file is compacted.
use Rattle.std.proofs.Common.{◌≡◌, ℕ, List, [], ◌∷◌, ◌++◌, filter, None, Bool, true, false, refl, sym, ap, ◌∙◌, if◌then◌else◌}
use Rattle.std.specs.Prelude.{⊤, nat_lt}
use Rattle.replay_spec.specs.Book.{Instance, Change, opens, extends, ends, finishes, sweeps, Line, changed, renewed, Book, instance_at}
use Rattle.replay_spec.specs.Compaction.{is_there, stays_in, stays, ahead_of, last_sweeps, compaction}
use Rattle.replay_spec.specs.Recovery.{Made, redo, of_length, resettled, then_line, lines_after, first_of}
use Rattle.replay_spec.specs.Remade.{IsTakenIn, IsTakenLine, AreTaken, IsFiled, IsOrderlyMade}
use Rattle.replay_spec.proofs.Admitted.{when_is}
use Rattle.replay_spec.proofs.Living.{none_there}
use Rattle.replay_spec.proofs.Filed.{taken_parts}
use Rattle.replay_spec.proofs.Compacted.{Follows, Both, both_lines, gone_stays, more_among, line_orderly, first_orderly, drop_dead, Alike, alike_line, sweep_skips, join_sweeps}
use Rattle.audit_spec.proofs.HonestTests.{IsFair, fair_like, fair_live}

-- a line passes on what was made, if it tells of a change
abbrev pub IsFairLine : Made → Line → Type 0
IsFairLine m (changed c n) = IsFair m.book c
IsFairLine m (renewed scripts n) = ⊤

-- each of these lines passes, on what those before it make
abbrev pub AreFair : List Line → Made → Type 0
AreFair [] m = ⊤
AreFair (l ∷ ls) m = IsFairLine m l × AreFair ls (then_line l m)

pub fair_more : (ls : List Line) (l : Line) (m : Made) → AreFair ls m → IsFairLine (lines_after ls m) l → AreFair (ls ++ l ∷ []) m
fair_more [] l m fair one = (one, tt)
fair_more (k ∷ ls) l m fair one = (fair.0, fair_more ls l (then_line k m) fair.1 one)

-- ---- without the records of instances that are gone

fair_follows : (ls : List Instance) (c : Change) (m k : Made) → Follows ls m k → stays_in ls c ≡ true → IsFair m.book c → IsFair k.book c
fair_follows ls c m k h stay fair = fair_live m.book k.book ls c h.shelf h.scripts h.clock h.instances stay fair

fair_on : (ls : List Instance) (c : Change) (n : ℕ) (xs : List Line) (m k : Made) → Follows ls m k → IsFair m.book c
    → ((j : Made) → Follows ls (redo (of_length n) c m) j → AreFair (filter (stays ls) xs) j)
    → (b : Bool) → stays_in ls c ≡ b → Both ls b c n m k → AreFair (if b then changed c n ∷ filter (stays ls) xs else filter (stays ls) xs) k
fair_on ls c n xs m k h fair rest true stay both = (fair_follows ls c m k h stay fair, rest (redo (of_length n) c k) both.1)
fair_on ls c n xs m k h fair rest false stay both = rest k both

fair_left : (ls : List Instance) (xs : List Line) (m k : Made) → IsOrderlyMade m → AreTaken xs m → AreFair xs m → Follows ls m k
    → ((x : ℕ) → instance_at x (lines_after xs m).book.instances ≡ None → is_there x ls ≡ false) → AreFair (filter (stays ls) xs) k
fair_left ls [] m k g taken fair h over = tt
fair_left ls (renewed scripts n ∷ xs) m k g taken fair h over = (
  tt,
  fair_left ls xs (resettled n scripts m) (resettled n scripts k) (line_orderly (renewed scripts n) m g) taken.1 fair.1
      (record { shelf = h.shelf; scripts = refl; clock = h.clock; instances = h.instances; seen = h.seen }) over,
)
fair_left ls (changed c n ∷ xs) m k g taken fair h over =
    let next = redo (of_length n) c m in
    fair_on ls c n xs m k h fair.0
    (λ j f. fair_left ls xs next j (line_orderly (changed c n) m g) taken.1 fair.1 f over)
    (stays_in ls c) refl
    (both_lines ls c n m k g taken.0 h (λ x seen other none. over x (gone_stays xs next x taken.1 (more_among c m.seen x seen) none)) (stays_in ls c) refl)

-- ---- with sweeps joined

fair_alike : (ls : List Line) (m k : Made) → AreTaken ls m → Alike m k → AreFair ls m → AreFair ls k
fair_alike [] m k taken h fair = tt
fair_alike (changed c n ∷ ls) m k taken h fair = (
  fair_like m.book k.book c h.like fair.0,
  fair_alike ls (redo (of_length n) c m) (redo (of_length n) c k) taken.1 (alike_line c n m k taken.0 h).1 fair.1,
)
fair_alike (renewed scripts n ∷ ls) m k taken h fair = (
  tt,
  fair_alike ls (resettled n scripts m) (resettled n scripts k) taken.1
      (record { like = record { shelf = h.like.shelf; scripts = refl; clock = h.like.clock; instances = h.like.instances }; seen = h.seen }) fair.1,
)

-- a sweep passes above the clock
pub fair_sweep : (b : Book) (tick : ℕ) → nat_lt b.clock tick ≡ true → IsFair b (sweeps tick)
fair_sweep b tick later = ap (λ (t : Bool). t ∷ (true ∷ (true ∷ (true ∷ (true ∷ []))))) later

fair_tick : (m : Made) (tick : ℕ) → IsTakenIn m (sweeps tick) → IsFair m.book (sweeps tick)
fair_tick m tick (inside, e) = fair_sweep m.book tick (when_is (nat_lt m.book.clock tick) [] inside (taken_parts m (sweeps tick) inside e).1).0

fair_ahead : (l : Line) (ys : List Line) (m : Made) → IsTakenLine m l → AreTaken ys (then_line l m) → AreFair (l ∷ ys) m → AreFair (ahead_of l ys) m
fair_ahead l [] m one taken fair = fair
fair_ahead (renewed scripts n) (y ∷ ys) m one taken fair = fair
fair_ahead (changed (opens o) n) (y ∷ ys) m one taken fair = fair
fair_ahead (changed (extends x) n) (y ∷ ys) m one taken fair = fair
fair_ahead (changed (ends e) n) (y ∷ ys) m one taken fair = fair
fair_ahead (changed (finishes f) n) (y ∷ ys) m one taken fair = fair
fair_ahead (changed (sweeps s) n) (renewed scripts p ∷ ys) m one taken fair = fair
fair_ahead (changed (sweeps s) n) (changed (opens o) p ∷ ys) m one taken fair = fair
fair_ahead (changed (sweeps s) n) (changed (extends x) p ∷ ys) m one taken fair = fair
fair_ahead (changed (sweeps s) n) (changed (ends e) p ∷ ys) m one taken fair = fair
fair_ahead (changed (sweeps s) n) (changed (finishes f) p ∷ ys) m one taken fair = fair
fair_ahead (changed (sweeps s) n) (changed (sweeps t) p ∷ ys) m one taken fair =
    let skip = sweep_skips s t n p m one taken.0 in (
      fair_tick m t skip.0,
      fair_alike ys (redo (of_length p) (sweeps t) (redo (of_length n) (sweeps s) m)) (redo (of_length p) (sweeps t) m) taken.1 skip.1 fair.1.1,
    )

fair_joined : (ls : List Line) (m : Made) → AreTaken ls m → AreFair ls m → AreFair (last_sweeps ls) m
fair_joined [] m taken fair = tt
fair_joined (l ∷ ls) m taken fair =
    fair_ahead l (last_sweeps ls) m taken.0 (join_sweeps ls (then_line l m) taken.1).0 (fair.0, fair_joined ls (then_line l m) taken.1 fair.1)

-- the records of the compacted file pass
pub fair_compacted : (b : Book) → IsFiled b → AreFair b.file.lines (first_of b.shelf b.file) → AreFair (compaction b).lines (first_of b.shelf (compaction b))
fair_compacted b h fair =
    let f = b.file in
    let is = b.instances in
    let m = first_of b.shelf f in
    let k = first_of b.shelf (compaction b) in
    let start : Follows is m k = record { shelf = refl; scripts = refl; clock = refl; instances = refl; seen = λ n there. there } in
    let over : (x : ℕ) → instance_at x (lines_after f.lines m).book.instances ≡ None → is_there x is ≡ false =
    λ x none. none_there x is (ap (λ (js : List Instance). instance_at x js) (sym h.made.instances) ∙ none) in
    let rest = drop_dead is f.lines m k (first_orderly b.shelf f) h.taken start over in
    fair_joined (filter (stays is) f.lines) k rest.0 (fair_left is f.lines m k (first_orderly b.shelf f) h.taken fair start over)
