-- Variables in a scope, the innermost first: one more, one fewer, and the first ones in turn.
use Rattle.std.proofs.Common.{◌≡◌, ℕ, ◌+◌, ◌<◌, true, false, List, [], ◌∷◌, ◌++◌, length, take, drop, get_or, reverse, Some, is_some, refl, sym, ap, subst, ◌∙◌, inl, inr}
use Rattle.std.specs.Borrow.{Bor}
use Rattle.std.specs.BTreeMap.{BTreeMap}
use Rattle.std.specs.Map.{update}
use Rattle.std.specs.Option.{IsSome}
use Rattle.std.specs.Str.{bytes_eq}
use Rattle.std.proofs.lemmas.List.{reverse-append, map-append, take_more, take-append-drop, length-map, length-reverse}
use Rattle.std.proofs.lemmas.Slice.Eq.{bytes_eq-Decides}
use Rattle.std.proofs.lemmas.Bool.{cases_Bool, false_from_ne_true, false≢true}
use Rattle.std.proofs.Math.Bool.{or-true}
use Rattle.core_syntax.specs.declared.names.Named.{Named}
use Rattle.core_syntax.specs.Names.{place_of, has_name, repeats}
use Rattle.core_syntax.specs.Scope.{texts, IsLinked, place_at, HasNewest, HasPlaces, PutsPlace}

reverse_behind : (names : List Named) (n : Named) → reverse (names ++ n ∷ []) ≡ n ∷ reverse names
reverse_behind names n = reverse-append names (n ∷ [])

same_text : (x y : List ℕ) → bytes_eq x y ≡ true → y ≡ x
same_text x y e = sym ((bytes_eq-Decides x y).0 e)

is_itself : (x : List ℕ) → bytes_eq x x ≡ true
is_itself x = (bytes_eq-Decides x x).1 refl

other_text : (x y : List ℕ) → bytes_eq x y ≡ false → bytes_eq y x ≡ false
other_text x y e =
    false_from_ne_true (bytes_eq y x) (λ f. false≢true (sym e ∙ (bytes_eq-Decides x y).1 (same_text y x f)))

-- the place of each name after one more
newest_within : (old new : BTreeMap (Bor (List ℕ)) ℕ) (x : List ℕ) (outer : List (List ℕ)) → HasNewest old outer
    → PutsPlace old new x (Some (length outer))
    → HasNewest new (x ∷ outer)
newest_within old new x outer newest updates y =
    elim (cases_Bool (bytes_eq x y)) [
      | inl e ↦ updates y ∙ rw (e, same_text x y e, is_itself x) refl
      | inr e ↦ updates y ∙ rw (e, other_text x y e) (newest y)
    ]

-- the place of each name after the innermost has left
newest_without : (old new : BTreeMap (Bor (List ℕ)) ℕ) (x : List ℕ) (outer : List (List ℕ)) → HasNewest old (x ∷ outer)
    → PutsPlace old new x (place_of x outer)
    → HasNewest new outer
newest_without old new x outer newest updates y =
    elim (cases_Bool (bytes_eq x y)) [
      | inl e ↦ updates y ∙ rw (e, same_text x y e) refl
      | inr e ↦ updates y ∙ rw e (newest y ∙ rw (other_text x y e) refl)
    ]

pub one_more : (names : List Named) (n : Named) (old new : BTreeMap (Bor (List ℕ)) ℕ) → HasPlaces old names → n.earlier ≡ place_at old n.name.now
    → PutsPlace old new n.name.now (Some (length names))
    → HasPlaces new (names ++ n ∷ [])
one_more names n old new kept earlier updates =
    let outer = texts (reverse names) in
    let count : length outer ≡ length names = length-map (reverse names) (λ (m : Named). m.name.now) ∙ length-reverse names in
    rw (reverse_behind names n)
    (record {
      linked = (earlier ∙ kept.newest n.name.now, kept.linked);
      newest = newest_within old new n.name.now outer kept.newest (λ y. updates y ∙ ap (λ c. update bytes_eq (place_at old) n.name.now (Some c) y) (sym count));
    })

pub has_innermost : (names : List Named) (n : Named) (places : BTreeMap (Bor (List ℕ)) ℕ) → HasPlaces places (names ++ n ∷ []) → IsSome (place_at places n.name.now)
has_innermost names n places kept = rw (kept.newest n.name.now, reverse_behind names n, is_itself n.name.now) refl

pub one_fewer : (names : List Named) (n : Named) (old new : BTreeMap (Bor (List ℕ)) ℕ) → HasPlaces old (names ++ n ∷ [])
    → PutsPlace old new n.name.now n.earlier
    → HasPlaces new names
one_fewer names n old new kept updates =
    let outer = texts (reverse names) in
    let linked : IsLinked (n ∷ reverse names) = subst IsLinked (reverse_behind names n) kept.linked in
    let newest : HasNewest old (n.name.now ∷ outer) = subst (λ (ns : List Named). HasNewest old (texts ns)) (reverse_behind names n) kept.newest in
    record {
      linked = linked.1;
      newest = newest_without old new n.name.now outer newest (λ y. updates y ∙ ap (λ w. update bytes_eq (place_at old) n.name.now w y) linked.0);
    }

reverse_split : (names : List Named) (k : ℕ) → reverse names ≡ reverse (drop k names) ++ reverse (take k names)
reverse_split names k = ap reverse (sym (take-append-drop k names)) ∙ reverse-append (take k names) (drop k names)

-- the first ones and the next
pub reverse_more : (names : List Named) (i : ℕ) (n : Named) → i < length names → n ≡ get_or names i n → reverse (take (i + 1) names) ≡ n ∷ reverse (take i names)
reverse_more names i n h p = rw (take_more names i n h, ← p) (reverse_behind (take i names) n)

split_at : (names : List Named) (i : ℕ) (n : Named) → i < length names → n ≡ get_or names i n → reverse names ≡ reverse (drop (i + 1) names) ++ n ∷ reverse (take i names)
split_at names i n h p =
    reverse_split names (i + 1) ∙ ap (λ (outer : List Named). reverse (drop (i + 1) names) ++ outer) (reverse_more names i n h p)

linked_back : (inner outer : List Named) → IsLinked (inner ++ outer) → IsLinked outer
linked_back [] outer h = h
linked_back (n ∷ inner) outer h = linked_back inner outer h.1

-- what the name at a place is linked to
pub linked_at : (names : List Named) (i : ℕ) (n : Named) → i < length names → n ≡ get_or names i n → IsLinked (reverse names)
    → n.earlier ≡ place_of n.name.now (texts (reverse (take i names)))
linked_at names i n h p linked =
    (linked_back (reverse (drop (i + 1) names)) (n ∷ reverse (take i names)) (subst IsLinked (split_at names i n h p) linked)).0

repeats_front : (inner outer : List (List ℕ)) → repeats outer ≡ true → repeats (inner ++ outer) ≡ true
repeats_front [] outer h = h
repeats_front (x ∷ inner) outer h = rw (repeats_front inner outer h) (or-true (has_name x (inner ++ outer)))

texts_at : (names : List Named) (i : ℕ) (n : Named) → i < length names → n ≡ get_or names i n
    → texts (reverse names) ≡ texts (reverse (drop (i + 1) names)) ++ n.name.now ∷ texts (reverse (take i names))
texts_at names i n h p =
    ap texts (split_at names i n h p) ∙ map-append (λ (m : Named). m.name.now) (reverse (drop (i + 1) names)) (n ∷ reverse (take i names))

-- a name with an outer one of the same name repeats it
pub repeats_found : (names : List Named) (i : ℕ) (n : Named) → i < length names → n ≡ get_or names i n → IsLinked (reverse names) → is_some n.earlier ≡ true
    → repeats (texts (reverse names)) ≡ true
repeats_found names i n h p linked has =
    let link = linked_at names i n h p linked in
    let outer = texts (reverse (take i names)) in
    rw (texts_at names i n h p) (repeats_front (texts (reverse (drop (i + 1) names))) (n.name.now ∷ outer) (rw (← link, has) refl))

pub repeats_none : (names : List Named) (i : ℕ) (n : Named) → i < length names → n ≡ get_or names i n → IsLinked (reverse names) → is_some n.earlier ≡ false
    → repeats (texts (reverse (take i names))) ≡ false → repeats (texts (reverse (take (i + 1) names))) ≡ false
repeats_none names i n h p linked has none =
    let link = linked_at names i n h p linked in
    rw (reverse_more names i n h p, ← link, has) none
