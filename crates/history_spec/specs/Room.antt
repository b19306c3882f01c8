-- What holds of pages that go for others, while there is room.
use Rattle.std.specs.Prelude.{◌≡◌, ◌≤◌, ◌+◌, ◌-◌, length, Some}
use Rattle.replay_spec.specs.Book.{Instance, Extension, extends, Book, instance_at}
use Rattle.replay_spec.specs.Rules.{Rules}
use Rattle.replay_spec.specs.Next.{Ticket}
use Rattle.replay_spec.specs.Step.{publish, Fate}
use Rattle.replay_spec.specs.Runs.{lands}

-- For a page that a publish shows no more pages of its instance go than are too many with it: none, while there is room for it.
abbrev pub NoneGoesTooSoon : Type 0
NoneGoesTooSoon =
    (rules : Rules) (b : Book) (t : Ticket) (fate : Fate) (x : Extension) (i : Instance)
    → lands rules b (publish t) fate ≡ Some (extends x) → instance_at x.instance b.instances ≡ Some i
    → length x.evicted ≤ (length i.used + 1) - rules.pages
