-- A file that was read in an older format tells its book in the one that is written.
use Rattle.std.proofs.Common.{◌≡◌, ◌≤◌, max, ℕ, List, [], ◌∷◌, Some, refl, sym, ap, subst, ◌∙◌}
use Rattle.replay_spec.specs.Book.{Change, Line, changed, renewed, Book, reopened}
use Rattle.replay_spec.specs.Rules.{Journal}
use Rattle.replay_spec.specs.Change.{logged_by, record_length, land}
use Rattle.replay_spec.specs.Recovery.{number_in, is_repeated, with_number, taken_in, redo, Made, of_length, resettled, lines_after, first_of, made_of_file}
use Rattle.replay_spec.specs.Invariant.{Among}
use Rattle.replay_spec.specs.Remade.{IsTakenIn, AreTaken, IsLike, IsFiled}
use Rattle.replay_spec.specs.Migration.{remeasured, in_format, MigrationKeepsTheBook}
use Rattle.replay_spec.proofs.Filed.{remade_like, like_then, land_like, taken_redo, taken_parts, taken_from}
use Rattle.replay_spec.proofs.Compacted.{keeps_the_book}

-- what two rows of records made is alike but for lengths and the file
pub record Same (m k : Made) : Type 0 where
  pub like : IsLike k.book m.book
  pub seen : k.seen ≡ m.seen
  pub logged : k.book.logged ≡ m.book.logged

pub same_line : (c : Change) (n p : ℕ) (m k : Made) → IsTakenIn m c → Same m k → IsTakenIn k c × Same (redo (of_length n) c m) (redo (of_length p) c k)
same_line c n p m k (inside, e) h =
    let parts = taken_parts m c inside e in
    let into : taken_in k c ≡ Some inside =
    taken_from k c inside (ap (λ (ns : List ℕ). is_repeated (number_in c) ns) h.seen ∙ parts.0) (remade_like k.book m.book c h.like ∙ parts.1) in
    let both : Same (record { book = reopened (land (of_length n) c inside m.book); seen = with_number (number_in c) m.seen }) (record { book = reopened (land (of_length p) c inside k.book); seen = with_number (number_in c) k.seen }) =
    record {
      like = (let l = land_like (of_length p) (of_length n) k.book m.book c inside h.like in record { shelf = l.shelf; scripts = l.scripts; clock = l.clock; instances = l.instances });
      seen = ap (λ (ns : List ℕ). with_number (number_in c) ns) h.seen;
      logged = ap (λ (x : ℕ). max x (logged_by c)) h.logged;
    } in (
      (inside, into),
      subst (λ (x : Made). Same x (redo (of_length p) c k)) (sym (taken_redo (of_length n) c m inside e))
          (subst (λ (x : Made). Same (record { book = reopened (land (of_length n) c inside m.book); seen = with_number (number_in c) m.seen }) x) (sym (taken_redo (of_length p) c k inside into)) both),
    )

same_lines : (j : Journal) (ls : List Line) (m k : Made) → AreTaken ls m → Same m k → AreTaken (remeasured j ls m) k × Same (lines_after ls m) (lines_after (remeasured j ls m) k)
same_lines j [] m k taken h = (tt, h)
same_lines j (changed c n ∷ ls) m k taken h =
    let p = record_length j m.book c in
    let one = same_line c n p m k taken.0 h in
    let rest = same_lines j ls (redo (of_length n) c m) (redo (of_length p) c k) taken.1 one.1 in
    ((one.0, rest.0), rest.1)
same_lines j (renewed scripts n ∷ ls) m k taken h =
    let rest = same_lines j ls (resettled n scripts m) (resettled (j.renewed scripts) scripts k) taken.1
    (record { like = record { shelf = h.like.shelf; scripts = refl; clock = h.like.clock; instances = h.like.instances }; seen = h.seen; logged = h.logged }) in
    ((tt, rest.0), rest.1)

format_filed : (j : Journal) (b : Book) → IsFiled b → IsFiled (in_format j b)
format_filed j b h =
    let f = (in_format j b).file in
    let m = first_of b.shelf b.file in
    let k = first_of b.shelf f in
    let all = same_lines j b.file.lines m k h.taken (record { like = record { shelf = refl; scripts = refl; clock = refl; instances = refl }; seen = refl; logged = refl }) in
    let same = all.1 in
    let like = like_then (made_of_file b.shelf f).book (made_of_file b.shelf b.file).book b same.like h.made in
    record {
      taken = all.0;
      made = record { shelf = like.shelf; scripts = like.scripts; clock = like.clock; instances = like.instances };
      logged = subst (λ (n : ℕ). n ≤ b.logged) (sym same.logged) h.logged;
      used = λ n there x. h.used n (subst (λ (ns : List ℕ). Among n ns) same.seen there) x;
    }

pub migrated : MigrationKeepsTheBook
migrated j b h =
    let f = format_filed j b h in
    let kept = keeps_the_book (in_format j b) f in
    (f, kept.0, kept.1)
