-- Lists of things in the order of their numbers.
use Rattle.std.specs.Prelude.{◌≡◌, ◌==◌, ◌<◌, not, ℕ, List, filter, Option, None, vec_len, vec_capacity}
use Rattle.journal_records.specs.ReplaySpec.Book.{at_number}
use Rattle.journal_records.specs.ReplaySpec.Change.{put_in_order}
use Rattle.instance_book.specs.declared.numbered.Numbered.{Numbered}
use Rattle.instance_book.specs.declared.in_order.InOrder.{InOrder}
use Rattle.instance_book.specs.Orders.{numbers_of}

-- there is room for one thing more
abbrev pub HasRoom : {T : Type 0} → InOrder T → Type 0
HasRoom list = vec_len list.things < vec_capacity list.things

-- the thing of a number in the list, if there is one
abbrev pub thing_at : {T : Type 0} → ℕ → InOrder T → Option (Numbered T)
thing_at n list = at_number (λ thing. thing.number) n list.things.items

-- no thing of the list has the number
abbrev pub HasNone : {T : Type 0} → ℕ → InOrder T → Type 0
HasNone n list = thing_at n list ≡ None

-- the things of a list with one more, in the place of the one of its number
abbrev pub things_with : {T : Type 0} → Numbered T → InOrder T → List (Numbered T)
things_with thing list = put_in_order (λ t. t.number) thing list.things.items

-- the things of a list but the one of a number
abbrev pub things_without : {T : Type 0} → ℕ → InOrder T → List (Numbered T)
things_without n list = filter (λ thing. not (thing.number == n)) list.things.items

-- two lists have the same numbers
abbrev pub HasNumbersOf : {T U : Type 0} → InOrder T → InOrder U → Type 0
HasNumbersOf list other = numbers_of other.things.items ≡ numbers_of list.things.items
