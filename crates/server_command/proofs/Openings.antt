-- What opening and closing the shelves of a server leaves of its rack.
use Rattle.std.proofs.Common.{◌≡◌, ◌≢◌, ◌<◌, ◌≤◌, ◌+◌, ◌-◌, ◌^◌, ◌++◌, ◌∷◌, ◌∙◌, ◌⊎◌, ⊎_elim, inl, inr, ℕ, zero, suc, List, [], length, Bool, true, false, IsTrue, refl, sym, ap, subst, arith}
use Rattle.std.specs.Prelude.{min, ◌&&◌}
use Rattle.std.specs.List.{AllByRecursion}
use Rattle.std.proofs.lemmas.Bool.{and_parts}
use Rattle.std.proofs.lemmas.List.{length-append}
use Rattle.web_disk.specs.View.{View, RackView, AreAmong}
use Rattle.trio_rack.specs.Trios.{KeepsHome, LeavesAllDisks, shelves_of}
use Rattle.script_nodes.specs.Setup.{Named}
use Rattle.disk_trio.proofs.Views.{rose_later}
use Rattle.trio_rack.proofs.Homes.{below_or_not}
use Rattle.play_steps.specs.Rules.{StaysUp}
use Rattle.play_desk.specs.Asking.{AsksForFirst, AsksForNone, AsksForOne, AsksUntil}
use Rattle.play_desk.specs.Opening.{FailedFor}
use Rattle.play_steps.specs.declared.stage.Reopen.{Reopen}
use Rattle.play_steps.specs.declared.stage.Reopen.TheVariants as reopen
use Rattle.server_command.specs.Opening.{AsksAsTaken, AsksByCause, HasTaken, IsRefused, IsUntaken, RefusesInOrder, TakesBack, seen_on}
use Rattle.play_desk.proofs.Asking.{asked_more}
use Rattle.server_command.proofs.Racks.{held_more}

-- ---- what one disk does that is given back

-- the disks of this shelf were given back, with so many faults
pub record Gives (before after : RackView) (number faults : ℕ) : Type 0 where
  pub home : (shelves_of after).out number ≡ false
  pub others_out : (n : ℕ) → n ≢ number → (shelves_of after).out n ≡ (shelves_of before).out n
  pub counts : after.faults ≡ min (before.faults + faults) (2 ^ 64 - 1)
  pub counted : (shelves_of before).failed number + faults ≤ (shelves_of after).failed number
  pub others_counted : (n : ℕ) → n ≢ number → (shelves_of after).failed n ≡ (shelves_of before).failed n
  pub asked : AsksForNone before after

pub same_or_not : (m n : ℕ) → (m ≡ n) ⊎ (m ≢ n)
same_or_not zero zero = inl refl
same_or_not zero (suc n) = inr (λ e. omega arith)
same_or_not (suc m) zero = inr (λ e. omega arith)
same_or_not (suc m) (suc n) = elim (same_or_not m n) [ inl e ↦ inl (ap suc e) | inr d ↦ inr (λ e. d (omega arith)) ]

keeps_home : (before now after : RackView) (number faults : ℕ) → KeepsHome before now → Gives now after number faults → KeepsHome before after
keeps_home before now after number faults kept g k home =
    elim (same_or_not k number) [
      | inl e ↦ subst (λ n. (shelves_of after).out n ≡ false) (sym e) g.home
      | inr d ↦ g.others_out k d ∙ kept k home
    ]

-- no count of a number fell where one more was given back
counts_up : (before now after : RackView) (number faults : ℕ) → StaysUp (shelves_of before).failed (shelves_of now).failed → Gives now after number faults → StaysUp (shelves_of before).failed (shelves_of after).failed
counts_up before now after number faults up g k =
    elim (same_or_not k number) [
      | inl e ↦ subst (λ n. (shelves_of before).failed n ≤ (shelves_of after).failed n) (sym e) (let was = up number in let is = g.counted in omega (arith, was, is))
      | inr d ↦ (let was = up k in let is = g.others_counted k d in omega (arith, was, is))
    ]

-- the numbers from this one up to the count are home, and those below it as they were
pub record GivesDownTo (before now : RackView) (number count : ℕ) : Type 0 where
  pub home : KeepsHome before now
  pub back : (k : ℕ) → number ≤ k → k < count → (shelves_of now).out k ≡ false
  pub lower : (k : ℕ) → k < number → (shelves_of now).out k ≡ (shelves_of before).out k
  pub later : before.faults ≤ now.faults
  pub failed_later : StaysUp (shelves_of before).failed (shelves_of now).failed
  pub asked : AsksForNone before now
  pub low : now.faults ≤ 2 ^ 64 - 1

pub gives_last : (before : RackView) (count : ℕ) → before.faults ≤ 2 ^ 64 - 1 → GivesDownTo before before count count
gives_last before count low = record {
  home = λ k home. home;
  back = λ k above below. absurd (omega (arith, above, below));
  lower = λ k below. refl;
  later = omega arith;
  failed_later = λ n. omega arith;
  asked = refl;
  low = low;
}

pub gives_before : (before now after : RackView) (number next count faults : ℕ) → number + 1 ≡ next → GivesDownTo before now next count → Gives now after number faults
    → GivesDownTo before after number count
gives_before before now after number next count faults is p g = record {
  home = keeps_home before now after number faults p.home g;
  back = λ k above below. elim (same_or_not k number) [
    | inl e ↦ subst (λ n. (shelves_of after).out n ≡ false) (sym e) g.home
    | inr d ↦ g.others_out k d ∙ p.back k (omega (arith, above, d, is)) below
  ];
  lower = λ k below. g.others_out k (λ e. omega (arith, e, below)) ∙ p.lower k (omega (arith, below, is));
  later = omega (arith, p.later, p.low, g.counts);
  failed_later = counts_up before now after number faults p.failed_later g;
  asked = g.asked ∙ p.asked;
  low = omega (arith, g.counts);
}

pub gives_down : (before after : RackView) (count : ℕ) → GivesDownTo before after 0 count → TakesBack before after 0 count
gives_down before after count p = record {
  home = p.home;
  back = λ k above below. p.back k above (omega (arith, below));
  later = p.later;
  failed_later = p.failed_later;
  asked = p.asked;
}

-- ---- what was refused

-- nor had those of a number, before the calls failed that were made for it
pub failed_since : (number : ℕ) (before mid after : RackView) → before.faults ≤ mid.faults → StaysUp (shelves_of before).failed (shelves_of mid).failed → FailedFor number mid after
    → FailedFor number before after
failed_since number before mid after le up failed =
    let here = up number in let rose = failed.here in record { all = rose_later before.faults mid.faults after.faults le failed.all; here = omega (arith, here, rose) }

-- no disk that holds something was looked at
pub untaken_refused : (told : Type 0) (risen : ℕ → Type 0) (scripts : List Named) (images : List (List ℕ)) (shelf : ℕ) (why : Reopen)
    → IsUntaken risen shelf why → IsRefused told risen scripts images shelf why
untaken_refused told risen scripts images shelf reopen.Disk h = h
untaken_refused told risen scripts images shelf reopen.NotEmpty h = h
untaken_refused told risen scripts images shelf (reopen.Damaged place) h = absurd h
untaken_refused told risen scripts images shelf (reopen.Other place) h = absurd h
untaken_refused told risen scripts images shelf (reopen.Full length) h = absurd h
untaken_refused told risen scripts images shelf reopen.Memory h = tt

-- disks that were taken came home
pub all_home : (told : Type 0) (before mid after : RackView) (count : ℕ) (images : List (List ℕ)) → HasTaken told before mid count images → TakesBack mid after 0 count
    → KeepsHome before after
all_home told before mid after count images taken back k home =
    elim (below_or_not k count) [
      | inl below ↦ back.back k (omega arith) (omega (arith, below))
      | inr above ↦ back.home k (taken.others k above home)
    ]

-- ---- what was taken

-- one disk more was taken
pub record TakesOne (before after : RackView) (number : ℕ) : Type 0 where
  pub out : (shelves_of after).out number ≡ true
  pub others_out : (n : ℕ) → n ≢ number → (shelves_of after).out n ≡ (shelves_of before).out n
  pub others : (n : ℕ) → n ≢ number → AreAmong ((shelves_of after).holds n) ((shelves_of before).holds n)
  pub later : before.faults ≤ after.faults
  pub failed : (shelves_of after).failed number ≡ (shelves_of before).failed number
  pub others_failed : (n : ℕ) → n ≢ number → (shelves_of after).failed n ≡ (shelves_of before).failed n
  pub asked : AsksForOne number before after

-- so many were taken; those above are as they were
pub record TakesUpTo (told : Type 0) (before now : RackView) (number : ℕ) (images : List (List ℕ)) : Type 0 where
  pub taken : HasTaken told before now number images
  pub above : (n : ℕ) → number ≤ n → AreAmong ((shelves_of now).holds n) ((shelves_of before).holds n)
  pub home : (n : ℕ) → number ≤ n → (shelves_of now).out n ≡ (shelves_of before).out n

pub one_longer : (xs : List (List ℕ)) (image : List ℕ) (n : ℕ) → length xs ≡ n → length (xs ++ image ∷ []) ≡ n + 1
one_longer xs image n e = omega (arith, e, length-append xs (image ∷ []))

pub takes_next : (told : Type 0) (before now after : RackView) (number : ℕ) (images : List (List ℕ)) (image : List ℕ) → TakesUpTo told before now number images
    → TakesOne now after number → (told → (shelves_of now).holds number image) → TakesUpTo told before after (number + 1) (images ++ image ∷ [])
takes_next told before now after number images image p one here = record {
  taken = record {
    many = one_longer images image number p.taken.many;
    held = λ t. held_more (shelves_of before).holds 0 number images image (omega (arith, p.taken.many)) (p.taken.held t) (p.above number (omega arith) image (here t));
    out = λ k below. elim (same_or_not k number) [
      | inl e ↦ subst (λ n. (shelves_of after).out n ≡ true) (sym e) one.out
      | inr d ↦ one.others_out k d ∙ p.taken.out k (omega (arith, d, below))
    ];
    others = λ k above home. one.others_out k (λ e. omega (arith, e, above)) ∙ (p.home k (omega (arith, above)) ∙ home);
    rest = λ n le x h. p.above n (omega (arith, le)) x (one.others n (λ e. omega (arith, e, le)) x h);
    later = omega (arith, p.taken.later, one.later);
    failed_later = λ n. elim (same_or_not n number) [
      | inl e ↦ subst (λ m. (shelves_of before).failed m ≤ (shelves_of after).failed m) (sym e) (let was = p.taken.failed_later number in let is = one.failed in omega (arith, was, is))
      | inr d ↦ (let was = p.taken.failed_later n in let is = one.others_failed n d in omega (arith, was, is))
    ];
    asked =
        (let next : suc number ≡ number + 1 = omega arith in
        subst (λ n. AsksForFirst n before after) next (asked_more number before now after p.taken.asked one.asked));
  };
  above = λ n le x h. p.above n (omega (arith, le)) x (one.others n (λ e. omega (arith, e, le)) x h);
  home = λ n le. one.others_out n (λ e. omega (arith, e, le)) ∙ p.home n (omega (arith, le));
}

pub seen_more : {D : Type 0} (view : D → View) (front : List D) (disk : D) → seen_on view (front ++ disk ∷ []) ≡ seen_on view front ++ (view disk).seen ∷ []
seen_more view [] disk = refl
seen_more view (d ∷ front) disk = ap (λ xs. (view d).seen ∷ xs) (seen_more view front disk)

pub seen_size : {D : Type 0} (view : D → View) (front : List D) → length (seen_on view front) ≡ length front
seen_size view [] = refl
seen_size view (d ∷ front) = ap suc (seen_size view front)

-- what holds of all, and of one more
pub all_more : {A : Type 0} (K : A → Type 0) (xs : List A) (x : A) → AllByRecursion K xs → K x → AllByRecursion K (xs ++ x ∷ [])
all_more K [] x all new = (new, tt)
all_more K (y ∷ xs) x all new = (all.0, all_more K xs x all.1 new)

-- both the rack and its disks tell
pub both_tell : (a b : Bool) → IsTrue (a && b) → IsTrue a × IsTrue b
both_tell a b h = and_parts a b h

until_disk : (before after : RackView) (count shelf : ℕ) → AsksAsTaken before after count shelf reopen.Disk → AsksUntil count shelf before after
until_disk before after count shelf (inl until) = until
until_disk before after count shelf (inr none) = absurd (let is = none.0 in let no : ⊥ = cc is in no)

-- a disk was not taken, and nothing was written on any
pub untaken_in_order : (scripts : List Named) (before after : RackView) (count : ℕ) (risen : ℕ → Type 0) (shelf : ℕ) (why : Reopen)
    → IsUntaken risen shelf why → AsksAsTaken before after count shelf why → LeavesAllDisks before after
    → RefusesInOrder scripts before after count [] shelf why
untaken_in_order scripts before after count risen shelf reopen.Disk h asked left =
    inl (until_disk before after count shelf asked, left)
untaken_in_order scripts before after count risen shelf reopen.NotEmpty h asked left = absurd h
untaken_in_order scripts before after count risen shelf (reopen.Damaged place) h asked left = absurd h
untaken_in_order scripts before after count risen shelf (reopen.Other place) h asked left = absurd h
untaken_in_order scripts before after count risen shelf (reopen.Full length) h asked left = absurd h
untaken_in_order scripts before after count risen shelf reopen.Memory h asked left = tt

pub untaken_asked : (before after : RackView) (count : ℕ) (risen : ℕ → Type 0) (shelf : ℕ) (why : Reopen)
    → IsUntaken risen shelf why → AsksAsTaken before after count shelf why → AsksByCause before after count shelf why
untaken_asked before after count risen shelf reopen.Disk h asked = inr (until_disk before after count shelf asked)
untaken_asked before after count risen shelf reopen.NotEmpty h asked = absurd h
untaken_asked before after count risen shelf (reopen.Damaged place) h asked = absurd h
untaken_asked before after count risen shelf (reopen.Other place) h asked = absurd h
untaken_asked before after count risen shelf (reopen.Full length) h asked = absurd h
untaken_asked before after count risen shelf reopen.Memory h asked = ⊎_elim (λ until. inr (inr until)) (λ none. inl none.1) asked

-- all disks were taken
pub taken_asked : (before after : RackView) (count shelf : ℕ) (why : Reopen) → AsksForFirst count before after → AsksByCause before after count shelf why
taken_asked before after count shelf reopen.Disk asked = inl asked
taken_asked before after count shelf reopen.NotEmpty asked = asked
taken_asked before after count shelf (reopen.Damaged place) asked = asked
taken_asked before after count shelf (reopen.Other place) asked = asked
taken_asked before after count shelf (reopen.Full length) asked = asked
taken_asked before after count shelf reopen.Memory asked = inr (inl asked)

-- disks that were taken came home
pub given_asked : (count : ℕ) (before middle after : RackView) → AsksForFirst count before middle → AsksForNone middle after → AsksForFirst count before after
given_asked count before middle after asked none = none ∙ asked
