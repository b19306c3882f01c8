use Rattle.std.proofs.Common.{rules, ◌≡◌, ◌≤◌, ◌<◌, ◌++◌, ◌∷◌, ◌+◌, [], ℕ, List, Some, slice_get, length, length-append, refl, ap, sym, ◌∙◌, subst, arith, append_assoc, map, reverse}
use Rattle.std.proofs.lemmas.List.{reverse-append, reverse-reverse, length-reverse}
use Rattle.std.proofs.lemmas.Option.{slice_get_within}
use Rattle.std.specs.Vec.{vec_len}
use Rattle.script_nodes.specs.Views.{scripts_of}
use Rattle.lock_row.proofs.Lockings.{reverse_snoc}
use Rattle.lock_row.proofs.Places.{map_snoc, map_length}
use Rattle.site.specs.Beginnings.{IsFreshOn, AreFreshOn, IsUnopened, AreUnopened, AreNew}
use Rattle.site.proofs.Begins.{at_here, fresh_on, unopened_none, unopened_at, disk_in, nonces_in, new_front, new_last}
use Rattle.disk_trio.specs.Trio.{trio_view}
use Rattle.disk_trio.specs.Laws.{only_left}
use Rattle.disk_trio.specs.declared.trio.Disks.{Disks}
use Rattle.site.proofs.begin.open_all.Goals as goal

pub returns-in_default-clause-unopened : goal.returns-in_default-clause-unopened
returns-in_default-clause-unopened g c =
    let range = c.requires.range.shelves in
    let disks = c.requires.disks in
    let turned = length-reverse c.args.disks.now.items in
    unopened_none {D = Disks g.row.F.Denot g.F.Disk} trio_view g.F.Disk.tells (scripts_of c.args.setup.now) (only_left g.F.Disk) (reverse c.args.disks.now.items) (omega arith)

-- a disk is left for each shelf that is not opened yet
pub unwrap-disk-requires : goal.unwrap-disk-requires
unwrap-disk-requires g c =
    let within : c.loop-number.number < c.args.rules.shelves = (let test : _ = c.loop-number-test.true in search (rules, arith)) in
    let left = c.loop-number.invariant.left.0 in
    let ok = c.loop-number.disks.ok.0 in
    let some : 0 < length c.loop-number.disks.items = omega (arith, within, left, ok) in
    search (rules, arith)

-- the disk that is opened was not
pub open_one-requires-clause-fresh : goal.open_one-requires-clause-fresh
open_one-requires-clause-fresh g c =
    let items_d : c.loop-number.disks.items ≡ c.pop.new.self.items ++ c.unwrap-disk.result ∷ [] = search rules in
    new_last c.pop.new.self.items c.unwrap-disk.result (subst AreNew items_d c.loop-number.invariant.unopened)

pub loop-number-init : goal.loop-number-init
loop-number-init g c =
    let none : c.in-Ok.shelves.items ≡ [] = search rules in
    record {
      fresh = λ k d n s d_is n_is s_is. absurd (let within = slice_get_within c.in-Ok.shelves.items k s s_is in let no = ap length none in omega arith);
      unopened = c.requires.fresh;
      many = search (rules, arith);
      room = search (rules, arith);
      left = search (rules, arith);
      capacity = (refl, refl);
      disks = ([], refl, refl);
      nonces = ap (λ l. map (λ k. k.shelf.nonces) l ++ reverse c.args.nonces.now.items) (sym none);
    }

pub loop-number-preserved : goal.loop-number-preserved
loop-number-preserved g c =
    let i = c.loop-number.invariant in
    let front = i.disks.0 in
    let s = c.in-Ok-open_one.shelf in
    let shelves = c.loop-number.shelves.items in
    let d = c.unwrap-disk.result in
    let n = c.unwrap-source.result in
    let pushed = c.push_reserved.ensures.items in
    let left_d = c.pop.new.self.items in
    let left_n = c.pop-in-loop-number.new.self.items in
    let items_d : c.loop-number.disks.items ≡ c.pop.new.self.items ++ c.unwrap-disk.result ∷ [] = search rules in
    let items_n : c.loop-number.nonces.items ≡ c.pop-in-loop-number.new.self.items ++ c.unwrap-source.result ∷ [] = search rules in
    let there_d : reverse c.args.disks.now.items ≡ front ++ d ∷ reverse left_d = i.disks.1 ∙ ap (λ l. front ++ l) (ap reverse items_d ∙ reverse_snoc left_d d) in
    let there_n : reverse c.args.nonces.now.items ≡ map nonces_in shelves ++ n ∷ reverse left_n = i.nonces ∙ ap (λ l. map nonces_in shelves ++ l) (ap reverse items_n ∙ reverse_snoc left_n n) in
    let at_d : slice_get (reverse c.args.disks.now.items) c.loop-number.number ≡ Some d =
    ap (λ l. slice_get l c.loop-number.number) there_d ∙ subst (λ (k : ℕ). slice_get (front ++ d ∷ reverse left_d) k ≡ Some d) i.disks.2 (at_here front d (reverse left_d)) in
    let at_n : slice_get (reverse c.args.nonces.now.items) c.loop-number.number ≡ Some n =
    ap (λ l. slice_get l c.loop-number.number) there_n
    ∙ subst (λ (k : ℕ). slice_get (map nonces_in shelves ++ n ∷ reverse left_n) k ≡ Some n) (map_length nonces_in shelves ∙ i.many.1) (at_here (map nonces_in shelves) n (reverse left_n)) in
    let opened = subst (λ r. IsFreshOn {D = Disks g.row.F.Denot g.F.Disk} {N = g.row.N.Denot} trio_view g.F.Disk.tells g.N.Nonces.nonce (scripts_of c.args.setup.now) r d n s) c.numbered.ensures c.in-Ok-open_one.ensures.opened in
    record {
      fresh = subst (λ l. AreFreshOn {D = Disks g.row.F.Denot g.F.Disk} {N = g.row.N.Denot} trio_view g.F.Disk.tells g.N.Nonces.nonce (scripts_of c.args.setup.now) c.args.rules (reverse c.args.disks.now.items) (reverse c.args.nonces.now.items) l) (sym pushed)
          (fresh_on {D = Disks g.row.F.Denot g.F.Disk} {N = g.row.N.Denot} trio_view g.F.Disk.tells g.N.Nonces.nonce (scripts_of c.args.setup.now) c.args.rules (reverse c.args.disks.now.items) (reverse c.args.nonces.now.items) shelves c.loop-number.number d n s i.fresh i.many.1 at_d at_n opened);
      unopened = new_front left_d d (subst AreNew items_d i.unopened);
      many = search (rules, arith);
      room = search (rules, arith);
      left = search (rules, arith);
      capacity = search (rules, arith);
      disks = (
        front ++ d ∷ [],
        there_d ∙ sym (append_assoc front (d ∷ []) (reverse left_d)),
        length-append front (d ∷ []) ∙ ap (λ (k : ℕ). k + 1) i.disks.2,
      );
      nonces = there_n
          ∙ (ap (λ z. map nonces_in shelves ++ z ∷ reverse left_n) (sym opened.shelf.nonces_are)
          ∙ (sym (append_assoc (map nonces_in shelves) (nonces_in s ∷ []) (reverse left_n))
          ∙ ap (λ l. l ++ reverse left_n) (sym (map_snoc nonces_in shelves s) ∙ ap (map nonces_in) (sym pushed))));
    }

pub returns-in-Err-clause-unopened : goal.returns-in-Err-clause-unopened
returns-in-Err-clause-unopened g c =
    let i = c.loop-number.invariant in
    let front = i.disks.0 in
    let shelves = c.loop-number.shelves.items in
    let d = c.unwrap-disk.result in
    let e = c.in-Err.disk in
    let left_d = c.pop.new.self.items in
    let items_d : c.loop-number.disks.items ≡ c.pop.new.self.items ++ c.unwrap-disk.result ∷ [] = search rules in
    let there_d : reverse c.args.disks.now.items ≡ front ++ d ∷ reverse left_d = i.disks.1 ∙ ap (λ l. front ++ l) (ap reverse items_d ∙ reverse_snoc left_d d) in
    let un : IsUnopened {D = Disks g.row.F.Denot g.F.Disk} trio_view g.F.Disk.tells (scripts_of c.args.setup.now) c.numbered.result.number d e c.in-Err.fault = search rules in
    let unopened = subst (λ (k : ℕ). IsUnopened {D = Disks g.row.F.Denot g.F.Disk} trio_view g.F.Disk.tells (scripts_of c.args.setup.now) k d e c.in-Err.fault) (ap (λ r. r.number) c.numbered.ensures) un in
    let back : reverse c.give_back.new.disks.items ≡ map disk_in shelves ++ e ∷ reverse left_d =
    ap reverse (c.give_back.ensures.disks ∙ ap (λ l. l ++ reverse (map disk_in shelves)) c.push_reserved-in-Err.ensures.items)
    ∙ (reverse-append (left_d ++ e ∷ []) (reverse (map disk_in shelves)) ∙ (λ j. reverse-reverse (map disk_in shelves) j ++ reverse_snoc left_d e j)) in
    let long : length (reverse c.args.nonces.now.items) ≡ length (reverse c.args.disks.now.items) =
    length-reverse c.args.nonces.now.items ∙ (c.requires.nonces ∙ (sym c.requires.disks ∙ sym (length-reverse c.args.disks.now.items))) in
    subst (λ l. AreUnopened {D = Disks g.row.F.Denot g.F.Disk} trio_view g.F.Disk.tells (scripts_of c.args.setup.now) (reverse c.args.disks.now.items) l c.loop-number.number c.in-Err.fault) (sym back)
    (unopened_at {D = Disks g.row.F.Denot g.F.Disk} {N = g.row.N.Denot} trio_view g.F.Disk.tells g.N.Nonces.nonce (scripts_of c.args.setup.now) c.args.rules (reverse c.args.disks.now.items) (reverse c.args.nonces.now.items) shelves long i.fresh (only_left g.F.Disk)
    front (reverse left_d) d e c.loop-number.number c.in-Err.fault there_d i.disks.2 i.many.1 unopened)

pub returns-in-Err-clause-sources : goal.returns-in-Err-clause-sources
returns-in-Err-clause-sources g c =
    let i = c.loop-number.invariant in
    let shelves = c.loop-number.shelves.items in
    let n = c.unwrap-source.result in
    let left_n = c.pop-in-loop-number.new.self.items in
    let items_n : c.loop-number.nonces.items ≡ c.pop-in-loop-number.new.self.items ++ c.unwrap-source.result ∷ [] = search rules in
    let there_n : reverse c.args.nonces.now.items ≡ map nonces_in shelves ++ n ∷ reverse left_n = i.nonces ∙ ap (λ l. map nonces_in shelves ++ l) (ap reverse items_n ∙ reverse_snoc left_n n) in
    let same : c.in-Err.source ≡ c.unwrap-source.result = search rules in
    let back : reverse c.give_back.new.nonces.items ≡ map nonces_in shelves ++ c.in-Err.source ∷ reverse left_n =
    ap reverse (c.give_back.ensures.nonces ∙ ap (λ l. l ++ reverse (map nonces_in shelves)) c.push_reserved-in-Err-2.ensures.items)
    ∙ (reverse-append (left_n ++ c.in-Err.source ∷ []) (reverse (map nonces_in shelves)) ∙ (λ j. reverse-reverse (map nonces_in shelves) j ++ reverse_snoc left_n c.in-Err.source j)) in
    back ∙ (ap (λ z. map nonces_in shelves ++ z ∷ reverse left_n) same ∙ sym there_n)

none_left : {A : Type 0} (xs : List A) → length xs ≡ 0 → xs ≡ []
none_left [] e = refl
none_left (x ∷ xs) e = absurd (omega (arith, e))

-- after the last shelf no disk and no source is left
pub returns-clause-gone : goal.returns-clause-gone
returns-clause-gone g c =
    let end : c.args.rules.shelves ≤ c.loop-number.number = (let test : _ = c.loop-number-test.false in search (rules, arith)) in
    let left = c.loop-number.invariant.left in
    let disks : vec_len c.loop-number.disks ≡ 0 = omega (arith, end, left.0) in
    let nonces : vec_len c.loop-number.nonces ≡ 0 = omega (arith, end, left.1) in
    (none_left _ (omega (arith, disks, c.loop-number.disks.ok.0)), none_left _ (omega (arith, nonces, c.loop-number.nonces.ok.0)), disks, nonces)
