-- A compacted file can be written.
use Rattle.std.proofs.Common.{◌≡◌, ℕ, List, [], ◌∷◌, length, Option, None, Bool, true, false, filter, refl, sym, ap, subst, ◌∙◌, if◌then◌else◌}
use Rattle.script_nodes.specs.Setup.{Named}
use Rattle.instance_cells.specs.Cells.{reads_of}
use Rattle.replay_spec.specs.Tape.{recorded}
use Rattle.replay_spec.specs.Next.{tape_for}
use Rattle.replay_spec.specs.Book.{Instance, Change, opens, extends, ends, finishes, sweeps, Line, changed, renewed, Book, instance_at}
use Rattle.replay_spec.specs.Admission.{◌>>=◌, Place}
use Rattle.replay_spec.specs.Compaction.{is_there, stays_in, stays, ahead_of, last_sweeps, compaction}
use Rattle.replay_spec.specs.Recovery.{extension_visit, Made, redo, of_length, resettled, then_line, lines_after, first_of}
use Rattle.replay_spec.specs.Remade.{IsTakenLine, AreTaken, IsLike, IsOrderlyMade}
use Rattle.replay_spec.proofs.Filed.{bare, bare_like}
use Rattle.replay_spec.proofs.Living.{lives, none_there}
use Rattle.replay_spec.proofs.Compacted.{Follows, Alike, Both, both_lines, gone_stays, more_among, line_orderly, first_orderly, drop_dead, alike_line, sweep_skips, join_sweeps, place_lives}
use Rattle.machine_states.specs.Machine.{Suspended}
use Rattle.kept_states.specs.Links.{behind_at}
use Rattle.journal_records.specs.Records.{changes, body_of, IsInGrammar}
use Rattle.journal_spec.specs.Before.{links_behind}
use Rattle.journal_spec.specs.Lengths.{state_over, told_bytes, own_state, state_by, state_told, own_body}
use Rattle.journal_spec.specs.Making.{Texts}
use Rattle.journal_spec.specs.Whole.{IsSpelledState, CanBeWritten}
use Rattle.journal_spec.specs.Files.{AreWritten, CompactionIsWritten}

-- what is written of a change's page
abbrev pub State : Type 0
State = Option Suspended × Option (List ℕ)

abbrev pub state_of : Book → Change → State
state_of b c = (state_by b c, state_told b c)

state_bare : (b : Book) (c : Change) → state_of b c ≡ state_of (bare b.shelf b.scripts b.clock b.instances) c
state_bare b (opens o) = refl
state_bare b (extends x) = refl
state_bare b (ends e) = refl
state_bare b (finishes f) = refl
state_bare b (sweeps tick) = refl

pub state_like : (b d : Book) (c : Change) → IsLike b d → state_of b c ≡ state_of d c
state_like b d c h = state_bare b c ∙ (ap (λ (x : Book). state_of x c) (bare_like b d h) ∙ sym (state_bare d c))

state_lives : (ls : List Instance) (m k : Made) (c : Change) → Follows ls m k → stays_in ls c ≡ true → state_of k.book c ≡ state_of m.book c
state_lives ls m k c h stay =
    state_bare k.book c
    ∙ (ap (λ (n : ℕ). state_of (bare n k.book.scripts k.book.clock k.book.instances) c) h.shelf
    ∙ (ap (λ (ss : List Named). state_of (bare m.book.shelf ss k.book.clock k.book.instances) c) h.scripts
    ∙ (ap (λ (n : ℕ). state_of (bare m.book.shelf m.book.scripts n k.book.instances) c) h.clock
    ∙ (ap (λ (is : List Instance). state_of (bare m.book.shelf m.book.scripts m.book.clock is) c) h.instances ∙ at ls m c stay))))
  where
    at : (is : List Instance) (j : Made) (x : Change) → stays_in is x ≡ true
        → state_of (bare j.book.shelf j.book.scripts j.book.clock (filter (lives is) j.book.instances)) x ≡ state_of j.book x
    at is j (opens o) e = refl
    at is j (extends x) e =
        ap (λ (o : Option Place).
        let s = o >>= (λ p. state_over p.instance.script.script (tape_for (extension_visit j.book x p) (recorded (reads_of x.effects)))) in
        let t : State = (s, s >>= told_bytes (o >>= (λ p. behind_at (links_behind p) (own_state j.book.shelf p)))) in t) (place_lives j.book is x.instance x.page e)
    at is j (ends x) e = refl
    at is j (finishes f) e = absurd (let no : ⊥ = cc in no)
    at is j (sweeps tick) e = refl

-- what can be written on one book can on another
abbrev pub IsSame : Change → Book → Book → Type 0
IsSame c b d = state_of b c ≡ state_of d c

pub can_same : (c : Change) (b d : Book) → IsSame c b d → CanBeWritten b c → CanBeWritten d c
can_same c b d e h = record {
  body = subst (λ (s : State). IsInGrammar (changes c s.1)) e h.body;
  state = subst (λ (s : State). IsSpelledState s.0) e h.state;
}

pub long_same : (c : Change) (b d : Book) (n : ℕ) → IsSame c b d → n ≡ length (own_body b c) → n ≡ length (own_body d c)
long_same c b d n e h = h ∙ ap (λ (s : State). length (body_of (changes c s.1))) e

write_on : (texts : Texts) (ls : List Instance) (c : Change) (n : ℕ) (xs : List Line) (m k : Made) → Follows ls m k → CanBeWritten m.book c → n ≡ length (own_body m.book c)
    → ((j : Made) → Follows ls (redo (of_length n) c m) j → AreWritten texts (filter (stays ls) xs) j)
    → (b : Bool) → stays_in ls c ≡ b → Both ls b c n m k
    → AreWritten texts (if b then changed c n ∷ filter (stays ls) xs else filter (stays ls) xs) k
write_on texts ls c n xs m k h can long rest true stay both =
    let same : IsSame c m.book k.book = sym (state_lives ls m k c h stay) in
    (can_same c m.book k.book same can, long_same c m.book k.book n same long, rest (redo (of_length n) c k) both.1)
write_on texts ls c n xs m k h can long rest false stay both = rest k both

filter_written : (texts : Texts) (ls : List Instance) (xs : List Line) (m k : Made) → IsOrderlyMade m → AreTaken xs m → AreWritten texts xs m → Follows ls m k
    → ((x : ℕ) → instance_at x (lines_after xs m).book.instances ≡ None → is_there x ls ≡ false)
    → AreWritten texts (filter (stays ls) xs) k
filter_written texts ls [] m k g taken written h over = tt
filter_written texts ls (renewed scripts n ∷ xs) m k g taken written h over = (
  written.0,
  written.1,
  written.2,
  written.3,
  filter_written texts ls xs (resettled n scripts m) (resettled n scripts k) (line_orderly (renewed scripts n) m g) taken.1 written.4
      (record { shelf = h.shelf; scripts = refl; clock = h.clock; instances = h.instances; seen = h.seen }) over,
)
filter_written texts ls (changed c n ∷ xs) m k g taken written h over =
    let next = redo (of_length n) c m in
    write_on texts ls c n xs m k h written.0 written.1
    (λ j f. filter_written texts ls xs next j (line_orderly (changed c n) m g) taken.1 written.2 f over)
    (stays_in ls c) refl
    (both_lines ls c n m k g taken.0 h (λ x seen other none. over x (gone_stays xs next x taken.1 (more_among c m.seen x seen) none)) (stays_in ls c) refl)

written_alike : (texts : Texts) (ls : List Line) (m k : Made) → AreTaken ls m → AreWritten texts ls m → Alike m k → AreWritten texts ls k
written_alike texts [] m k taken written h = tt
written_alike texts (changed c n ∷ ls) m k taken written h =
    let same : IsSame c m.book k.book = sym (state_like k.book m.book c h.like) in
    let one = alike_line c n m k taken.0 h in
    (can_same c m.book k.book same written.0, long_same c m.book k.book n same written.1, written_alike texts ls (redo (of_length n) c m) (redo (of_length n) c k) taken.1 written.2 one.1)
written_alike texts (renewed scripts n ∷ ls) m k taken written h = (
  written.0,
  written.1,
  written.2,
  written.3,
  written_alike texts ls (resettled n scripts m) (resettled n scripts k) taken.1 written.4
      (record { like = record { shelf = h.like.shelf; scripts = refl; clock = h.like.clock; instances = h.like.instances }; seen = h.seen }),
)

-- a line ahead of others that were joined
abbrev pub OneWritten : Texts → Line → Made → Type 0
OneWritten texts l m = AreWritten texts (l ∷ []) m

behind_one : (texts : Texts) (l : Line) (ys : List Line) (m : Made) → OneWritten texts l m → AreWritten texts ys (then_line l m) → AreWritten texts (l ∷ ys) m
behind_one texts (changed c n) ys m one rest = (one.0, one.1, rest)
behind_one texts (renewed scripts n) ys m one rest = (one.0, one.1, one.2, one.3, rest)

write_ahead : (texts : Texts) (l : Line) (ys : List Line) (m : Made) → IsTakenLine m l → OneWritten texts l m → AreTaken ys (then_line l m) → AreWritten texts ys (then_line l m)
    → AreWritten texts (ahead_of l ys) m
write_ahead texts l [] m taken one rest written = behind_one texts l [] m one written
write_ahead texts (renewed scripts n) (y ∷ ys) m taken one rest written = behind_one texts (renewed scripts n) (y ∷ ys) m one written
write_ahead texts (changed (opens o) n) (y ∷ ys) m taken one rest written = behind_one texts (changed (opens o) n) (y ∷ ys) m one written
write_ahead texts (changed (extends x) n) (y ∷ ys) m taken one rest written = behind_one texts (changed (extends x) n) (y ∷ ys) m one written
write_ahead texts (changed (ends e) n) (y ∷ ys) m taken one rest written = behind_one texts (changed (ends e) n) (y ∷ ys) m one written
write_ahead texts (changed (finishes f) n) (y ∷ ys) m taken one rest written = behind_one texts (changed (finishes f) n) (y ∷ ys) m one written
write_ahead texts (changed (sweeps s) n) (renewed scripts p ∷ ys) m taken one rest written = behind_one texts (changed (sweeps s) n) (renewed scripts p ∷ ys) m one written
write_ahead texts (changed (sweeps s) n) (changed (opens o) p ∷ ys) m taken one rest written = behind_one texts (changed (sweeps s) n) (changed (opens o) p ∷ ys) m one written
write_ahead texts (changed (sweeps s) n) (changed (extends x) p ∷ ys) m taken one rest written = behind_one texts (changed (sweeps s) n) (changed (extends x) p ∷ ys) m one written
write_ahead texts (changed (sweeps s) n) (changed (ends e) p ∷ ys) m taken one rest written = behind_one texts (changed (sweeps s) n) (changed (ends e) p ∷ ys) m one written
write_ahead texts (changed (sweeps s) n) (changed (finishes f) p ∷ ys) m taken one rest written = behind_one texts (changed (sweeps s) n) (changed (finishes f) p ∷ ys) m one written
write_ahead texts (changed (sweeps s) n) (changed (sweeps t) p ∷ ys) m taken one rest written =
    let before = redo (of_length n) (sweeps s) m in
    let skip = sweep_skips s t n p m taken rest.0 in (
      record { body = written.0.body; state = written.0.state },
      written.1,
      written_alike texts ys (redo (of_length p) (sweeps t) before) (redo (of_length p) (sweeps t) m) rest.1 written.2 skip.1,
    )

one_of : (texts : Texts) (l : Line) (ls : List Line) (m : Made) → AreWritten texts (l ∷ ls) m → OneWritten texts l m × AreWritten texts ls (then_line l m)
one_of texts (changed c n) ls m h = ((h.0, h.1, tt), h.2)
one_of texts (renewed scripts n) ls m h = ((h.0, h.1, h.2, h.3, tt), h.4)

join_written : (texts : Texts) (ls : List Line) (m : Made) → AreTaken ls m → AreWritten texts ls m → AreWritten texts (last_sweeps ls) m
join_written texts [] m taken written = tt
join_written texts (l ∷ ls) m taken written =
    let parts = one_of texts l ls m written in
    write_ahead texts l (last_sweeps ls) m taken.0 parts.0 (join_sweeps ls (then_line l m) taken.1).0 (join_written texts ls (then_line l m) taken.1 parts.1)

pub compaction_written : CompactionIsWritten
compaction_written texts b h written below =
    let f = b.file in
    let is = b.instances in
    let m = first_of b.shelf f in
    let k = first_of b.shelf (compaction b) in
    let start : Follows is m k = record { shelf = refl; scripts = refl; clock = refl; instances = refl; seen = λ n there. there } in
    let over : (x : ℕ) → instance_at x (lines_after f.lines m).book.instances ≡ None → is_there x is ≡ false =
    λ x none. none_there x is (ap (λ (js : List Instance). instance_at x js) (sym h.made.instances) ∙ none) in
    let rest = drop_dead is f.lines m k (first_orderly b.shelf f) h.taken start over in
    record {
      begins = written.begins;
      read = written.read;
      whole = written.whole;
      head = written.head;
      drawn = below;
      lines = join_written texts (filter (stays is) f.lines) k rest.0 (filter_written texts is f.lines m k (first_orderly b.shelf f) h.taken written.lines start over);
    }
