-- Whatever records tell, the book that they make is told by its file.
use Rattle.std.proofs.Common.{◌≡◌, ◌≤◌, max, ℕ, List, [], ◌∷◌, Option, Some, None, refl, sym, subst, ◌∙◌, ⊎_elim, arith}
use Rattle.script_value.specs.declared.outcome.TxName.{TxName}
use Rattle.replay_spec.specs.Book.{Change, Line, changed, renewed, Book, reopened}
use Rattle.replay_spec.specs.Change.{logged_by, land}
use Rattle.replay_spec.specs.Recovery.{Made, number_in, with_number, taken_in, redone, of_length, resettled, then_line, lines_after, first_of, made_of_file}
use Rattle.replay_spec.specs.Invariant.{Among}
use Rattle.replay_spec.specs.Remade.{AreTaken, IsLike, IsFiled, IsOrderlyMade, RecordsMakeFiledBooks}
use Rattle.replay_spec.proofs.Filed.{remade_like, land_like, SeenLess, taken_redo, taken_parts, taken_from}
use Rattle.replay_spec.proofs.Recovered.{new_number}
use Rattle.replay_spec.proofs.Compacted.{not_repeated, more_among, with_less, line_orderly, first_orderly}
use Rattle.replay_spec.proofs.Filing.{after_more, taken_more}

-- the numbers of what was made are counted, and its file tells no others
record IsTold (m : Made) : Type 0 where
  orderly : IsOrderlyMade m
  taken : AreTaken m.book.file.lines (first_of m.book.shelf m.book.file)
  made : IsLike (made_of_file m.book.shelf m.book.file).book m.book
  logged : (made_of_file m.book.shelf m.book.file).book.logged ≤ m.book.logged
  seen : SeenLess (made_of_file m.book.shelf m.book.file).seen m.seen

told_more : (c : Change) (n : ℕ) (m : Made) (inside : List TxName) → taken_in m c ≡ Some inside → IsTold m
    → IsTold (record { book = reopened (land (of_length n) c inside m.book); seen = with_number (number_in c) m.seen })
told_more c n m inside e h =
    let ls = m.book.file.lines in
    let k = first_of m.book.shelf m.book.file in
    let end = lines_after ls k in
    let parts = taken_parts m c inside e in
    let into : taken_in end c ≡ Some inside =
    taken_from end c inside (not_repeated c end.seen (λ x is_it there. new_number c m.seen parts.0 x is_it (h.seen x there))) (remade_like end.book m.book c h.made ∙ parts.1) in
    let next = after_more ls (changed c n) k ∙ taken_redo (of_length n) c end inside into in
    let like = land_like (of_length n) (of_length n) end.book m.book c inside h.made in
    record {
      orderly = subst IsOrderlyMade (taken_redo (of_length n) c m inside e) (line_orderly (changed c n) m h.orderly);
      taken = taken_more ls (changed c n) k h.taken (inside, into);
      made = subst (λ (x : Made). IsLike x.book (reopened (land (of_length n) c inside m.book))) (sym next)
          (record { shelf = like.shelf; scripts = like.scripts; clock = like.clock; instances = like.instances });
      logged = subst (λ (x : Made). x.book.logged ≤ max m.book.logged (logged_by c)) (sym next) (let less = h.logged in omega (arith, less));
      seen = λ x there. with_less c end.seen m.seen h.seen x (subst (λ (y : Made). Among x y.seen) next there);
    }

told_over : (c : Change) (n : ℕ) (m : Made) (o : Option (List TxName)) → taken_in m c ≡ o → IsTold m
    → IsTold (record { book = reopened (redone (of_length n) c o m.book); seen = with_number (number_in c) m.seen })
told_over c n m (Some inside) e h = told_more c n m inside e h
told_over c n m None e h = record {
  orderly = subst (λ (o : Option (List TxName)). IsOrderlyMade (record { book = reopened (redone (of_length n) c o m.book); seen = with_number (number_in c) m.seen })) e (line_orderly (changed c n) m h.orderly);
  taken = h.taken;
  made = record { shelf = h.made.shelf; scripts = h.made.scripts; clock = h.made.clock; instances = h.made.instances };
  logged = (let less = h.logged in omega (arith, less));
  seen = λ x there. more_among c m.seen x (h.seen x there);
}

told_line : (l : Line) (m : Made) → IsTold m → IsTold (then_line l m)
told_line (changed c n) m h = told_over c n m (taken_in m c) refl h
told_line (renewed scripts n) m h =
    let ls = m.book.file.lines in
    let k = first_of m.book.shelf m.book.file in
    let next = after_more ls (renewed scripts n) k in
    record {
      orderly = line_orderly (renewed scripts n) m h.orderly;
      taken = taken_more ls (renewed scripts n) k h.taken tt;
      made = subst (λ (x : Made). IsLike x.book (resettled n scripts m).book) (sym next)
          (record { shelf = h.made.shelf; scripts = refl; clock = h.made.clock; instances = h.made.instances });
      logged = subst (λ (x : Made). x.book.logged ≤ m.book.logged) (sym next) h.logged;
      seen = λ x there. h.seen x (subst (λ (y : Made). Among x y.seen) next there);
    }

told_lines : (ls : List Line) (m : Made) → IsTold m → IsTold (lines_after ls m)
told_lines [] m h = h
told_lines (l ∷ ls) m h = told_lines ls (then_line l m) (told_line l m h)

-- of a book as after a crash all numbers from the count on are unused
told_filed : (b : Book) (seen : List ℕ) → IsTold (record { book = b; seen = seen }) → IsFiled (reopened b)
told_filed b seen h = record {
  taken = h.taken;
  made = record { shelf = h.made.shelf; scripts = h.made.scripts; clock = h.made.clock; instances = h.made.instances };
  logged = h.logged;
  used = λ n there x. let low = h.orderly.counted n (h.seen n there) in ⊎_elim (λ no. no) (λ y. ⊎_elim (λ no. no) (λ high. absurd (omega (arith, low, high))) y) x;
}

pub records_filed : RecordsMakeFiledBooks
records_filed shelf f ls =
    let first : IsTold (first_of shelf f) = record {
      orderly = first_orderly shelf f;
      taken = tt;
      made = record { shelf = refl; scripts = refl; clock = refl; instances = refl };
      logged = omega arith;
      seen = λ n there. there;
    } in
    let h = told_lines ls (first_of shelf f) first in
    let m = lines_after ls (first_of shelf f) in
    subst IsFiled (sym h.orderly.again) (told_filed m.book m.seen h)
