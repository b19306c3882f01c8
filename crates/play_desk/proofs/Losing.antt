-- The tickets of a shelf that crashes.
use Rattle.std.proofs.Common.{◌≡◌, ◌≢◌, ◌∙◌, ap, sym, subst, refl, ⊎_elim, ℕ, ◌+◌, ◌<◌, ◌≤◌, zero, suc, List, [], ◌∷◌, length, map, slice_get, slice_set, Option, Some, None, option_map, arith}
use Rattle.std.proofs.lemmas.Bool.{cases_eq}
use Rattle.std.proofs.lemmas.List.{length-map, length-set}
use Rattle.std.proofs.lemmas.Option.{slice_get-map, slice_get_within, same_Some}
use Rattle.replay_spec.specs.Next as next
use Rattle.shelf.specs.Visits.{ticket_of, Ticket}
use Rattle.play_desk.specs.Desk.{left_of, without_shelf}
use Rattle.play_desk.specs.Staff.{KeepsOthers, place_of}
use Rattle.play_desk.proofs.Places.{get_other, get_set}

-- what is left at a place
without_at : (n k from w : ℕ) (held : List (Option next.Ticket))
    → slice_get (without_shelf n k from held) w ≡ option_map (left_of n k (from + w)) (slice_get held w)
without_at n k from w [] = refl
without_at n k from zero (t ∷ ts) = (let is : from ≡ from + 0 = omega arith in ap (λ m. Some (left_of n k m t)) is)
without_at n k from (suc w) (t ∷ ts) =
    let is : from + 1 + w ≡ from + suc w = omega arith in
    without_at n k (from + 1) w ts ∙ ap (λ m. option_map (left_of n k m) (slice_get ts w)) is

without_length : (n k from : ℕ) (held : List (Option next.Ticket)) → length (without_shelf n k from held) ≡ length held
without_length n k from [] = refl
without_length n k from (t ∷ ts) = ap suc (without_length n k (from + 1) ts)

-- lists that have the same at each place
same_lists : {A : Type 0} (xs ys : List A) → length xs ≡ length ys → ((w : ℕ) → w < length xs → slice_get xs w ≡ slice_get ys w) → xs ≡ ys
same_lists [] [] len same = refl
same_lists [] (y ∷ ys) len same = absurd (omega (arith, len))
same_lists (x ∷ xs) [] len same = absurd (omega (arith, len))
same_lists (x ∷ xs) (y ∷ ys) len same =
    let first : x ≡ y = same_Some x y (same zero (omega arith)) in
    ap (λ z. z ∷ xs) first ∙ ap (λ zs. y ∷ zs) (same_lists xs ys (omega (arith, len)) (λ w low. same (suc w) (omega (arith, low))))

-- the tickets of the first workers are looked at
pub record Loses (count place worker : ℕ) (old now : List (Option Ticket)) : Type 0 where
  pub size : length now ≡ length old
  pub done : (w : ℕ) → w < worker → slice_get (map (option_map ticket_of) now) w ≡ slice_get (without_shelf count place 0 (map (option_map ticket_of) old)) w
  pub left : (w : ℕ) → worker ≤ w → slice_get now w ≡ slice_get old w
  pub kept : (w : ℕ) (t : Ticket) → w < worker → slice_get now w ≡ Some (Some t)
      → (slice_get old w ≡ Some (Some t)) × (place_of count w t ≢ place)

pub none_lost : (count place : ℕ) (ts : List (Option Ticket)) → Loses count place 0 ts ts
none_lost count place ts = record {
  size = refl;
  done = λ w low. absurd (omega (arith, low));
  left = λ w high. refl;
  kept = λ w t low. absurd (omega (arith, low));
}

pub one_lost : (count place worker : ℕ) (old now : List (Option Ticket)) (held new : Option Ticket) → worker < length old → Loses count place worker old now
    → slice_get now worker ≡ Some held → option_map ticket_of new ≡ left_of count place worker (option_map ticket_of held)
    → ((t : Ticket) → new ≡ Some t → (held ≡ Some t) × (place_of count worker t ≢ place))
    → Loses count place (worker + 1) old (slice_set (slice_set now worker None) worker new)
one_lost count place worker old now held new low h here is keeps = record {
  size = length-set (slice_set now worker None) worker new ∙ length-set now worker None ∙ h.size;
  done = λ w below. ⊎_elim (at_it w) (before w below) (cases_eq worker w);
  left = λ w high.
      let other : worker ≢ w = λ e. omega (arith, e, high) in
      get_other (slice_set now worker None) worker w new other ∙ get_other now worker w None other ∙ h.left w (omega (arith, high));
  kept = λ w t below there. ⊎_elim (kept_it w t there) (kept_before w t below there) (cases_eq worker w);
}
  where
    spec : List (Option next.Ticket)
    spec = without_shelf count place 0 (map (option_map ticket_of) old)

    now_low : worker < length now
    now_low = omega (arith, low, h.size)

    size : length (slice_set now worker None) ≡ length now
    size = length-set now worker None

    is_new : slice_get (slice_set (slice_set now worker None) worker new) worker ≡ Some new
    is_new = get_set (slice_set now worker None) worker new (omega (arith, now_low, size))

    was : slice_get old worker ≡ Some held
    was = sym (h.left worker (omega arith)) ∙ here

    at_it : (w : ℕ) → worker ≡ w
        → slice_get (map (option_map ticket_of) (slice_set (slice_set now worker None) worker new)) w ≡ slice_get spec w
    at_it w e =
        let zero_more : 0 + worker ≡ worker = omega arith in
        subst (λ i. slice_get (map (option_map ticket_of) (slice_set (slice_set now worker None) worker new)) i ≡ slice_get spec i) e
        (slice_get-map (option_map ticket_of) (slice_set (slice_set now worker None) worker new) worker
        ∙ ap (option_map (option_map ticket_of)) is_new ∙ ap Some is
        ∙ sym (without_at count place 0 worker (map (option_map ticket_of) old)
        ∙ ap (λ i. option_map (left_of count place i) (slice_get (map (option_map ticket_of) old) worker)) zero_more
        ∙ ap (option_map (left_of count place worker)) (slice_get-map (option_map ticket_of) old worker ∙ ap (option_map (option_map ticket_of)) was)))

    unchanged : (w : ℕ) → worker ≢ w → slice_get (slice_set (slice_set now worker None) worker new) w ≡ slice_get now w
    unchanged w other = get_other (slice_set now worker None) worker w new other ∙ get_other now worker w None other

    before : (w : ℕ) → w < worker + 1 → worker ≢ w
        → slice_get (map (option_map ticket_of) (slice_set (slice_set now worker None) worker new)) w ≡ slice_get spec w
    before w below other =
        slice_get-map (option_map ticket_of) (slice_set (slice_set now worker None) worker new) w
        ∙ ap (option_map (option_map ticket_of)) (unchanged w other) ∙ sym (slice_get-map (option_map ticket_of) now w)
        ∙ h.done w (omega (arith, below, other))

    kept_it : (w : ℕ) (t : Ticket) → slice_get (slice_set (slice_set now worker None) worker new) w ≡ Some (Some t) → worker ≡ w
        → (slice_get old w ≡ Some (Some t)) × (place_of count w t ≢ place)
    kept_it w t there e =
        let mine : new ≡ Some t = same_Some new (Some t) (sym is_new ∙ ap (slice_get (slice_set (slice_set now worker None) worker new)) e ∙ there) in
        let it = keeps t mine in
        subst (λ i. (slice_get old i ≡ Some (Some t)) × (place_of count i t ≢ place)) e (was ∙ ap Some it.0, it.1)

    kept_before : (w : ℕ) (t : Ticket) → w < worker + 1 → slice_get (slice_set (slice_set now worker None) worker new) w ≡ Some (Some t) → worker ≢ w
        → (slice_get old w ≡ Some (Some t)) × (place_of count w t ≢ place)
    kept_before w t below there other = h.kept w t (omega (arith, below, other)) (sym (unchanged w other) ∙ there)

pub all_lost : (count place worker : ℕ) (old now : List (Option Ticket)) → length old ≤ worker → Loses count place worker old now
    → (map (option_map ticket_of) now ≡ without_shelf count place 0 (map (option_map ticket_of) old)) × KeepsOthers count place old now
all_lost count place worker old now all h = (
  same_lists (map (option_map ticket_of) now) (without_shelf count place 0 (map (option_map ticket_of) old))
      (length-map now (option_map ticket_of) ∙ h.size ∙ sym (without_length count place 0 (map (option_map ticket_of) old) ∙ length-map old (option_map ticket_of)))
      (λ w low. h.done w (let len = length-map now (option_map ticket_of) in omega (arith, low, len, h.size, all))),
  λ w t there.
      h.kept w t (let low = slice_get_within now w (Some t) there in omega (arith, low, h.size, all)) there,
)
