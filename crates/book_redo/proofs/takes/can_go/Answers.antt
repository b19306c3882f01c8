use Rattle.std.proofs.Common.{◌≡◌, ◌∙◌, ◌+◌, ℕ, ap, sym, List, ◌∷◌, drop, get_or}
use Rattle.std.proofs.lemmas.List.{drop_more, take_rest}
use Rattle.replay_spec.specs.Admission.{is_one}
use Rattle.replay_spec.specs.Recovery.{can_go}
use Rattle.instance_book.specs.Views.{used_of}
use Rattle.book_redo.proofs.Passed.{go_unused, go_twice, go_next}
use Rattle.book_redo.proofs.takes.can_go.Goals as goal
use Rattle.book_redo.proofs.takes.can_go.Goals.{then-not-is_used-via-then-not-is_used, then-not-is_used-via-else-not-is_used+then-is_among}

pub returns-then-not-is_used : goal.returns-then-not-is_used
returns-then-not-is_used c =
    let ns = c.args.pages.now in
    let us = used_of c.args.shown.now in
    let k = c.loop-place.place in
    let n = get_or ns k 0 in
    let all : can_go ns us ≡ can_go (n ∷ drop (k + 1) ns) us = c.loop-place.invariant ∙ ap (λ (l : List ℕ). can_go l us) (drop_more ns k 0 c.loop-place-test.true) in
    elim c.then-not-is_used.branch [
      | then-not-is_used-via-then-not-is_used w ↦ sym (all ∙ go_unused n (drop (k + 1) ns) us (sym w.if-not-is_used.ensures))
      | then-not-is_used-via-else-not-is_used+then-is_among w ↦ sym (all ∙ go_twice n (drop (k + 1) ns) us (sym (w.if-is_among.ensures ∙ ap (is_one n) (take_rest ns (k + 1)))))
    ]

pub loop-place-preserved : goal.loop-place-preserved
loop-place-preserved c =
    let ns = c.args.pages.now in
    let us = used_of c.args.shown.now in
    let k = c.loop-place.place in
    let n = get_or ns k 0 in
    let all : can_go ns us ≡ can_go (n ∷ drop (k + 1) ns) us = c.loop-place.invariant ∙ ap (λ (l : List ℕ). can_go l us) (drop_more ns k 0 c.loop-place-test.true) in
    all ∙ go_next n (drop (k + 1) ns) us (sym c.if-not-is_used.ensures) (sym (c.if-is_among.ensures ∙ ap (is_one n) (take_rest ns (k + 1))))
