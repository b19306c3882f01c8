use Rattle.std.proofs.Common.{◌≡◌, ap, subst, List, ℕ, ◌==◌, not, filter, rules, Contains, Bool}
use Rattle.std.proofs.lemmas.List.Elements.{All-contains, All-contains_itself, All-filter}
use Rattle.std.proofs.lemmas.Fn.{filter_same}
use Rattle.instance_book.specs.Views.{book_of}
use Rattle.instance_book.proofs.book.Book.spend.Goals as goal

contains_kept : (p : ℕ → Bool) (xs : List ℕ) (x : ℕ) → Contains (filter p xs) x → Contains xs x
contains_kept p xs x h = All-contains (Contains xs) (filter p xs) x (All-filter p (Contains xs) xs (All-contains_itself xs)) h

pub invariant_of-self : goal.invariant_of-self
invariant_of-self c =
    let kept : c.retain.new.self.items ≡ filter (λ m. not (m == c.args.number)) c.args.self.now.out.items = filter_same _ (λ m. not (m == c.args.number)) _ (λ x b q h. (search rules, search rules)) _ _ c.retain.ensures.filtered in
    record {
      ticks = c.args.self.now.ticks;
      numbers = c.args.self.now.numbers;
      few = c.args.self.now.few;
      below = λ n h. c.args.self.now.below n (contains_kept (λ m. not (m == c.args.number)) c.args.self.now.out.items n (subst (λ (ms : List ℕ). Contains ms n) kept h));
    }

pub returns-clause-book : goal.returns-clause-book
returns-clause-book c library beside =
    ap (λ (ms : List ℕ). record (book_of library beside c.args.self.now) { out = ms })
    (filter_same _ (λ m. not (m == c.args.number)) _ (λ x b q h. (search rules, search rules)) _ _ c.retain.ensures.filtered)

pub returns-clause-states : goal.returns-clause-states
returns-clause-states c source scripts all = all

pub returns-clause-placed : goal.returns-clause-placed
returns-clause-placed c scripts all = all
