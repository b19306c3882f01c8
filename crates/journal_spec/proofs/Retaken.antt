-- What records that carry states make is orderly.
use Rattle.std.proofs.Common.{◌≡◌, ◌<◌, ℕ, List, [], length, Option, Some, None, Bool, true, false, refl, sym, ap, subst, ◌∙◌, arith, slice_get}
use Rattle.std.specs.Prelude.{if◌then◌else◌, nat_lt}
use Rattle.std.proofs.lemmas.Bool.Decides.{nat_tests}
use Rattle.std.proofs.lemmas.Option.{slice_get_within, same_Some}
use Rattle.script_value.specs.declared.outcome.TxName.{TxName}
use Rattle.replay_spec.specs.Book.{Instance, Change, opens, extends, ends, finishes, sweeps, Book}
use Rattle.replay_spec.specs.Admission.{is_one}
use Rattle.replay_spec.specs.Recovery.{can_go, of_length, page_of_numbers, number_in, is_repeated, with_number, taken_in, redone}
use Rattle.replay_spec.specs.Invariant.{AreOrderly, IsOrderlyChange}
use Rattle.replay_spec.specs.Remade.{IsOrderlyMade}
use Rattle.replay_spec.proofs.Admitted.{came_from, when_is}
use Rattle.replay_spec.proofs.Stand.{orderly_less}
use Rattle.replay_spec.proofs.Landed.{land_well}
use Rattle.replay_spec.proofs.Goers.{pages_of, go_used}
use Rattle.replay_spec.proofs.Recovered.{place_is, if_can, made_orderly, Unseen, page_there, new_number, more_seen, redone_logged}
use Rattle.journal_spec.specs.Making.{has_script, in_file}
use Rattle.journal_spec.specs.Before.{Made, plain}
use Rattle.journal_spec.specs.Retaking.{Told, held, landing, retaken}

-- what is held can land
pub held_fits : (b : Book) (c : Change) (inside names : List TxName) → held b c inside ≡ Some names → IsOrderlyChange b.clock b.instances c
held_fits b (opens o) inside names e = tt
held_fits b (extends x) inside names e =
    let at = came_from (page_of_numbers b x.instance x.page) _ names e in
    let place = place_is b x.instance x.page at.0 at.1.0 in
    let can = (if_can (can_go x.evicted at.0.instance.used) _ names at.1.1).0 in (
      page_there b x.instance x.page at.0 at.1.0,
      λ i found n gone.
          let same : at.0.instance ≡ i = same_Some at.0.instance i (sym place.0 ∙ found) in
          subst (λ (j : Instance). is_one n (pages_of j.used) ≡ true) same (go_used x.evicted at.0.instance.used n can gone),
    )
held_fits b (ends x) inside names e = let at = came_from (page_of_numbers b x.instance x.page) _ names e in page_there b x.instance x.page at.0 at.1.0
held_fits b (finishes f) inside names e = let at = came_from (page_of_numbers b f.instance f.page) _ names e in page_there b f.instance f.page at.0 at.1.0
held_fits b (sweeps tick) inside names e = let later = (when_is (nat_lt b.clock tick) [] names e).0 in grind (arith, nat_tests, later)

-- and is of a script that is there
pub held_script : (b : Book) (c : Change) (inside names : List TxName) → held b c inside ≡ Some names → has_script (length b.scripts) c ≡ true
held_script b (opens o) inside names e =
    let s = came_from (slice_get b.scripts o.script) _ names e in
    let within = slice_get_within b.scripts o.script s.0 s.1.0 in
    grind (arith, nat_tests, within)
held_script b (extends x) inside names e = refl
held_script b (ends x) inside names e = refl
held_script b (finishes f) inside names e = refl
held_script b (sweeps tick) inside names e = refl

-- a record that lands has a number that was not seen
pub landing_is : (m : Made) (c : Change) (inside names : List TxName) → landing m c inside ≡ Some names
    → (held m.book c inside ≡ Some names) × (is_repeated (number_in c) m.earlier.seen ≡ false)
landing_is m c inside names e = by_test (is_repeated (number_in c) m.earlier.seen) refl e
  where
    by_test : (b : Bool) → is_repeated (number_in c) m.earlier.seen ≡ b → (if b then None else held m.book c inside) ≡ Some names
        → (held m.book c inside ≡ Some names) × (is_repeated (number_in c) m.earlier.seen ≡ false)
    by_test true is f = absurd (let no : ⊥ = cc in no)
    by_test false is f = (f, is)

landed_orderly : (n : ℕ) (c : Change) (m : Made) (inside : List TxName) (o : Option (List TxName)) → IsOrderlyMade (plain m) → landing m c inside ≡ o
    → AreOrderly (Unseen (with_number (number_in c) m.earlier.seen)) (redone (of_length n) c o m.book).instances
landed_orderly n c m inside None h e =
    orderly_less (Unseen m.earlier.seen) (Unseen (with_number (number_in c) m.earlier.seen)) m.book.instances (λ k x. (more_seen c m.earlier.seen k x).0) h.instances
landed_orderly n c m inside (Some names) h e =
    let t = landing_is m c inside names e in
    (land_well m.book.scripts m.book.clock (Unseen m.earlier.seen) (Unseen (with_number (number_in c) m.earlier.seen)) m.book.instances c names h.instances (held_fits m.book c inside names t.0)
    (new_number c m.earlier.seen t.1) (more_seen c m.earlier.seen)).0

pub retaken_orderly : (n : ℕ) (c : Change) (inside : List TxName) (x : Told) (m : Made) → IsOrderlyMade (plain m) → IsOrderlyMade (plain (retaken n c (landing m c inside) x m))
retaken_orderly n c inside x m h = record {
  instances = landed_orderly n c m inside (landing m c inside) h refl;
  counted = λ k there.
      let p = plain m in
      let same = redone_logged (of_length n) c (taken_in p c) m.book ∙ sym (redone_logged (of_length n) c (landing m c inside) m.book) in
      subst (λ (l : ℕ). k < l) same (((made_orderly (of_length n)).1 c p h).counted k there);
  again = refl;
}

-- so is what a record that is passed over makes
pub passed_orderly : (n : ℕ) (c : Change) (x : Told) (m : Made) → IsOrderlyMade (plain m) → IsOrderlyMade (plain (retaken n c None x m))
passed_orderly n c x m h = record {
  instances =
      orderly_less (Unseen m.earlier.seen) (Unseen (with_number (number_in c) m.earlier.seen)) m.book.instances (λ k y. (more_seen c m.earlier.seen k y).0) h.instances;
  counted = λ k there.
      let p = plain m in
      let same = redone_logged (of_length n) c (taken_in p c) m.book ∙ sym (redone_logged (of_length n) c None m.book) in
      subst (λ (l : ℕ). k < l) same (((made_orderly (of_length n)).1 c p h).counted k there);
  again = refl;
}

-- how long the file is, and whether the shelf follows another one's journal, make no difference
pub filed_orderly : (fed : Bool) (n : ℕ) (m : Made) → IsOrderlyMade (plain m) → IsOrderlyMade (plain (in_file fed n m))
filed_orderly fed n m h =
    record { instances = h.instances; counted = h.counted; again = ap (λ (b : Book). record b { length = n; follows = fed }) h.again }
