-- Disks that are asked for, one after the other.
use Rattle.std.proofs.Common.{◌≡◌, ◌∙◌, ap, inr, refl, sym, subst, ℕ, suc, ◌+◌, ◌<◌, List, [], ◌++◌, append_assoc, arith}
use Rattle.std.proofs.lemmas.List.{append-nil}
use Rattle.web_disk.specs.View.{RackView}
use Rattle.trio_rack.specs.Numbers.{three_numbers}
use Rattle.play_steps.specs.Rules.{StaysFirst}
use Rattle.play_desk.specs.Asking.{AsksForAll, AsksForFirst, AsksForNone, AsksForOne, AsksForSome, AsksUntil, HasAsked, numbers_below}

-- at first there is none
pub asked_none : (rack : RackView) → AsksForFirst 0 rack rack
asked_none rack = sym (append-nil rack.asked)

-- all three are those up to the last
pub asked_all : (shelf : ℕ) (old new : RackView) → AsksForOne shelf old new → AsksForSome shelf old new
asked_all shelf old new one = (three_numbers shelf, (inr (inr refl), one))

-- after the disks of so many those of the next
pub asked_more : (count : ℕ) (first old new : RackView) → AsksForFirst count first old → AsksForOne count old new → AsksForFirst (suc count) first new
asked_more count first old new before one =
    one ∙ (ap (λ (ns : List ℕ). ns ++ three_numbers count) before ∙ append_assoc first.asked (numbers_below count) (three_numbers count))

-- the next was the last
pub asked_until : (limit count : ℕ) (first old mid new : RackView) → count < limit → AsksForFirst count first old → AsksForSome count old mid
    → AsksForNone mid new → AsksUntil limit count first new
asked_until limit count first old mid new low before some none = record {
  low = low;
  numbers = some.0;
  first = some.1.0;
  asked = none ∙ (some.1.1 ∙ (ap (λ (ns : List ℕ). ns ++ some.0) before ∙ append_assoc first.asked (numbers_below count) some.0));
}

-- with those of the next there is one more
pub asked_one_more : (count : ℕ) (first old mid new : RackView) → AsksForFirst count first old → AsksForOne count old mid → AsksForNone mid new
    → AsksForFirst (count + 1) first new
asked_one_more count first old mid new before one none =
    let next : suc count ≡ count + 1 = omega arith in subst (λ n. AsksForFirst n first new) next (none ∙ asked_more count first old mid before one)

-- what was asked for first stays first
first_stays : (numbers : List ℕ) (old new : RackView) → new.asked ≡ old.asked ++ numbers → StaysFirst (HasAsked old) (HasAsked new)
first_stays numbers old new more front first =
    (first.0 ++ numbers, sym (append_assoc front first.0 numbers) ∙ (ap (λ (ns : List ℕ). ns ++ numbers) first.1 ∙ sym more))

pub first_goes_on : (shelf : ℕ) (old new : RackView) → AsksForSome shelf old new → StaysFirst (HasAsked old) (HasAsked new)
first_goes_on shelf old new some = first_stays some.0 old new some.1.1

pub first_rests : (old new : RackView) → AsksForNone old new → StaysFirst (HasAsked old) (HasAsked new)
first_rests old new none front first = (first.0, first.1 ∙ sym none)

-- those of so many stand there first, whatever was asked for after them
pub asked_through : (count : ℕ) (first opened played last : RackView) → AsksForFirst count first opened → StaysFirst (HasAsked opened) (HasAsked played)
    → AsksForNone played last → AsksForAll count first last
asked_through count first opened played last asked stays none =
    let all = first.asked ++ numbers_below count in
    first_rests played last none all (stays all ([], append-nil all ∙ sym asked))
