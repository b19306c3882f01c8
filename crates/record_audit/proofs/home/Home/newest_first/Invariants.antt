use Rattle.std.proofs.Common.{◌-◌, map, option_map}
use Rattle.segments.specs.Views.{answer_of}
use Rattle.replay_spec.specs.Book.{chain}
use Rattle.replay_spec.specs.Next.{answered}
use Rattle.book_redo.specs.InstanceBook.Views.{page_of, pages_of}
use Rattle.record_audit.specs.Runs.{home_of}
use Rattle.record_audit.proofs.Chains.{IsLeft}
use Rattle.record_audit.proofs.home.Home.newest_first.Given as goal

abbrev pub invariant-loop : goal.invariant-loop
invariant-loop l =
    IsLeft (answered (home_of l.self)) (pages_of l.pages) (map (answered (home_of l.self)) (chain (pages_of l.pages) (page_of l.page))) (l.end - l.counter)
    (option_map (λ p. page_of p.now) l.next) (map answer_of l.past.items)
