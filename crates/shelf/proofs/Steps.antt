-- What the events of a shelf come to.
use Rattle.std.proofs.Common.{◌≡◌, ◌∙◌, ap, subst, refl, ℕ, ◌^◌, ◌<◌, ◌≤◌, ◌==◌, nat_le, arith, Bool, true, false, List, [], Option, Some, None}
use Rattle.std.specs.Prelude.{nat_lt, ⊤}
use Rattle.std.proofs.lemmas.Bool.Decides.{nat_tests}
use Rattle.script_value.specs.Val.{Val}
use Rattle.script_value.specs.declared.outcome.Refusal.{Refusal}
use Rattle.script_value.specs.declared.outcome.TxName.{TxName}
use Rattle.page_names.specs.Names.{Destination}
use Rattle.replay_spec.specs.Book.{Change, sweeps, landing, compacting, Doubt, Book, draw, spend}
use Rattle.replay_spec.specs.Compaction.{compaction, file_length, rewritten}
use Rattle.replay_spec.specs.Change.{land}
use Rattle.replay_spec.specs.Rules.{Rules}
use Rattle.replay_spec.specs.Admission.{when, or_else, refusal_of, admit}
use Rattle.replay_spec.specs.Next as next
use Rattle.replay_spec.specs.Step as step
use Rattle.replay_spec.specs.Step.{Decision, replies, records, compacts, unless, decide, settle, publish_comes, sweep_comes, freed, plain, no_memory, disk_fault}
use Rattle.replay_spec.specs.Runs.{lands, recorded_under}
use Rattle.replay_spec.specs.Remade.{through}
use Rattle.replay_spec.proofs.Last.{last}
use Rattle.journal_records.specs.Records.{record_length}
use Rattle.book_recovery.specs.JournalSpec.Lengths.{state_told}
use Rattle.shelf.specs.declared.rules.Rules as limits_of
use Rattle.shelf.specs.Views.{unmeasured, rules_of, fate_by}
use Rattle.shelf.specs.Recording.{refusal_of_size}

-- the reply tells what bars a shelf
abbrev pub IsBar : step.Reply → Type 0
IsBar (step.down count) = ⊤
IsBar step.following = ⊤
IsBar _ = ⊥

-- what is told is the reply, whatever fate is read off it, and nothing is recorded
pub record IsTold (rules : Rules) (b : Book) (x : step.Reply) : Type 0 where
  pub settled : settle rules b (fate_by x) (replies x) ≡ (x, b)
  pub unrecorded : recorded_under (fate_by x) (replies x) ≡ None

told : (rs : Rules) (b : Book) (x : step.Reply) → IsTold rs b x
told rs b (step.taken number nonce) = record { settled = refl; unrecorded = refl }
told rs b (step.shown page url) = record { settled = refl; unrecorded = refl }
told rs b (step.finished page) = record { settled = refl; unrecorded = refl }
told rs b (step.ended page) = record { settled = refl; unrecorded = refl }
told rs b (step.refusal r) = record { settled = refl; unrecorded = refl }
told rs b (step.fault f) = record { settled = refl; unrecorded = refl }
told rs b (step.out_of_fuel cost) = record { settled = refl; unrecorded = refl }
told rs b (step.shelf_full count) = record { settled = refl; unrecorded = refl }
told rs b (step.compacted n) = record { settled = refl; unrecorded = refl }
told rs b (step.disk_failed count) = record { settled = refl; unrecorded = refl }
told rs b (step.down count) = record { settled = refl; unrecorded = refl }
told rs b (step.oversize n) = record { settled = refl; unrecorded = refl }
told rs b (step.journal_full n) = record { settled = refl; unrecorded = refl }
told rs b step.following = record { settled = refl; unrecorded = refl }
told rs b step.worn = record { settled = refl; unrecorded = refl }
told rs b step.memory = record { settled = refl; unrecorded = refl }
told rs b (step.swept n) = record { settled = refl; unrecorded = refl }
told rs b (step.live n) = record { settled = refl; unrecorded = refl }

-- an event makes this of the book, with this reply, whatever nonce comes next, and this is recorded of it
pub record Comes (rules : Rules) (b : Book) (event : step.Event) (fate : step.Fate) (x : step.Reply) (after : Book) (c : Option Change) : Type 0 where
  pub step : (nonce : ℕ) → step.step rules b nonce event fate ≡ (x, after)
  pub landed : lands rules b event fate ≡ c

module _ (r : limits_of.Rules) (b : Book) where
  abbrev pub over : Rules
  over = rules_of r

  -- a publish is decided as beside no journal, and then measured
  measured : (t : next.Ticket) → publish_comes over b t ≡ through over.journal b (publish_comes (unmeasured r) b t)
  measured t = last over b t

  pub told_same : (t : next.Ticket) (x : step.Reply) → publish_comes (unmeasured r) b t ≡ replies x → publish_comes over b t ≡ replies x
  told_same t x is = measured t ∙ ap (through over.journal b) is

  pub too_long : (t : next.Ticket) (x y : step.Reply) (c : Change) (inside : List TxName) → publish_comes (unmeasured r) b t ≡ records x c inside
      → refusal_of_size b.length (record_length c (state_told b c)) ≡ Some y → publish_comes over b t ≡ replies y
  too_long t x y c inside is long =
      measured t ∙ (ap (through over.journal b) is ∙ ap (λ (o : Option step.Reply). unless o (records x c inside)) long)

  pub short_enough : (t : next.Ticket) (x : step.Reply) (c : Change) (inside : List TxName) → publish_comes (unmeasured r) b t ≡ records x c inside
      → refusal_of_size b.length (record_length c (state_told b c)) ≡ None → publish_comes over b t ≡ records x c inside
  short_enough t x c inside is short =
      measured t ∙ (ap (through over.journal b) is ∙ ap (λ (o : Option step.Reply). unless o (records x c inside)) short)

  -- a publish that only tells something; one that finds no memory
  pub replied : (t : next.Ticket) (x : step.Reply) → publish_comes over b t ≡ replies x → Comes over b (step.publish t) (fate_by x) x (spend t.number b) None
  unfolding step.step
  replied t x is = record {
    step = λ nonce. ap (settle over (spend t.number b) (fate_by x)) is ∙ (told over (spend t.number b) x).settled;
    landed = ap (recorded_under (fate_by x)) is ∙ (told over b x).unrecorded;
  }

  pub wanting : (t : next.Ticket) → Comes over b (step.publish t) no_memory step.memory (spend t.number b) None
  unfolding step.step
  wanting t = record { step = λ nonce. refl; landed = refl }

  -- one that lands, or leaves in doubt what it would have landed
  pub landed : (t : next.Ticket) (x : step.Reply) (c : Change) (inside : List TxName) → publish_comes over b t ≡ records x c inside → fate_by x ≡ plain
      → Comes over b (step.publish t) (fate_by x) x (land over c inside (spend t.number b)) (Some c)
  unfolding step.step
  landed t x c inside is fate = record {
    step = λ nonce. ap (λ (f : step.Fate). settle over (spend t.number b) (step.fate_of over.journal f) (publish_comes over b t)) fate ∙ ap (settle over (spend t.number b) plain) is;
    landed = ap (λ (f : step.Fate). recorded_under (step.fate_of over.journal f) (publish_comes over b t)) fate ∙ ap (recorded_under plain) is;
  }

  abbrev pub doubting : (count : ℕ) → Change → List TxName → Book → Book
  doubting count c inside d = record d { down = Some (record { count = count; work = landing c inside }) }

  pub doubted : (t : next.Ticket) (x : step.Reply) (c : Change) (inside : List TxName) (count : ℕ) → publish_comes over b t ≡ records x c inside
      → Comes over b (step.publish t) (disk_fault count) (step.disk_failed count) (doubting count c inside (spend t.number b)) None
  unfolding step.step
  doubted t x c inside count is = record { step = λ nonce. ap (settle over (spend t.number b) (disk_fault count)) is; landed = refl }

  -- a publish on a shelf that is barred
  pub barred_publish : (t : next.Ticket) (x : step.Reply) → step.barred b ≡ Some x → publish_comes over b t ≡ replies x
  barred_publish t x is = ap (λ (o : Option step.Reply). unless o (decide over b t (admit b t.target))) is

  -- a tick at or below the clock, and later ones
  pub early : (tick : ℕ) → nat_le tick b.clock ≡ true → Comes over b (step.sweep tick) plain (step.swept 0) b None
  unfolding step.step
  early tick h = record { step = λ nonce. rw h refl; landed = rw h refl }

  module _ (tick : ℕ) (late : nat_le tick b.clock ≡ false) where
    told_late : (x : step.Reply) → sweep_comes over b tick ≡ replies x → Comes over b (step.sweep tick) (fate_by x) x b None
    unfolding step.step
    told_late x is = record {
      step = λ nonce. rw late (ap (settle over b (fate_by x)) is ∙ (told over b x).settled);
      landed = rw late (ap (recorded_under (fate_by x)) is ∙ (told over b x).unrecorded);
    }

    pub barred_sweep : (x : step.Reply) → step.barred b ≡ Some x → Comes over b (step.sweep tick) (fate_by x) x b None
    barred_sweep x is = told_late x (ap (λ (o : Option step.Reply). unless o (step.decide_sweep over tick b)) is)

    pub wanting_sweep : Comes over b (step.sweep tick) no_memory step.memory b None
    unfolding step.step
    wanting_sweep = record { step = λ nonce. rw late refl; landed = rw late refl }

    module _ (free : step.barred b ≡ None) where
      -- the body of a tick's record has nine bytes
      sweep_decided : sweep_comes over b tick ≡ unless (refusal_of_size b.length (record_length (sweeps tick) None)) (records (step.swept (freed tick b)) (sweeps tick) [])
      sweep_decided = ap (λ (o : Option step.Reply). unless o (step.decide_sweep over tick b)) free

      pub full_sweep : (x : step.Reply) → refusal_of_size b.length (record_length (sweeps tick) None) ≡ Some x → Comes over b (step.sweep tick) (fate_by x) x b None
      full_sweep x long =
          told_late x (sweep_decided ∙ ap (λ (o : Option step.Reply). unless o (records (step.swept (freed tick b)) (sweeps tick) [])) long)

      module _ (short : refusal_of_size b.length (record_length (sweeps tick) None) ≡ None) where
        recorded : sweep_comes over b tick ≡ records (step.swept (freed tick b)) (sweeps tick) []
        recorded = sweep_decided ∙ ap (λ (o : Option step.Reply). unless o (records (step.swept (freed tick b)) (sweeps tick) [])) short

        pub landed_sweep : Comes over b (step.sweep tick) plain (step.swept (freed tick b)) (land over (sweeps tick) [] b) (Some (sweeps tick))
        unfolding step.step
        landed_sweep = record {
          step = λ nonce. rw late (ap (settle over b plain) recorded);
          landed = rw late (ap (recorded_under plain) recorded);
        }

        pub doubted_sweep : (count : ℕ) → Comes over b (step.sweep tick) (disk_fault count) (step.disk_failed count) (doubting count (sweeps tick) [] b) None
        unfolding step.step
        doubted_sweep count = record {
          step = λ nonce. rw late (ap (settle over b (disk_fault count)) recorded);
          landed = rw late refl;
        }

  -- a compaction
  told_compact : (x : step.Reply) → step.compact_comes over b ≡ replies x → Comes over b step.compact (fate_by x) x b None
  unfolding step.step
  told_compact x is = record {
    step = λ nonce. ap (settle over b (fate_by x)) is ∙ (told over b x).settled;
    landed = refl;
  }

  pub barred_compact : (x : step.Reply) → step.barred b ≡ Some x → Comes over b step.compact (fate_by x) x b None
  barred_compact x is = told_compact x (ap (λ (o : Option step.Reply). unless o (step.decide_compact over b)) is)

  pub wanting_compact : Comes over b step.compact no_memory step.memory b None
  unfolding step.step
  wanting_compact = record { step = λ nonce. refl; landed = refl }

  module _ (free : step.barred b ≡ None) where
    abbrev pub compacted : ℕ
    compacted = file_length (compaction b)

    abbrev too_far : Option step.Reply → Decision
    too_far o = unless o (compacts (step.compacted compacted))

    compact_decided : step.compact_comes over b ≡ too_far (when (nat_lt step.most_of_journal compacted) (step.journal_full compacted))
    compact_decided = ap (λ (o : Option step.Reply). unless o (step.decide_compact over b)) free

    pub full_compact : 2 ^ 30 < compacted → Comes over b step.compact plain (step.journal_full compacted) b None
    full_compact long =
        let so : nat_lt step.most_of_journal compacted ≡ true = grind (arith, nat_tests, long) in
        told_compact (step.journal_full compacted) (compact_decided ∙ ap (λ (t : Bool). too_far (when t (step.journal_full compacted))) so)

    module _ (short : compacted ≤ 2 ^ 30) where
      rewriting : step.compact_comes over b ≡ compacts (step.compacted compacted)
      rewriting =
          let so : nat_lt step.most_of_journal compacted ≡ false = grind (arith, nat_tests, short) in
          compact_decided ∙ ap (λ (t : Bool). too_far (when t (step.journal_full compacted))) so

      pub rewritten_compact : Comes over b step.compact plain (step.compacted compacted) (rewritten over b) None
      unfolding step.step
      rewritten_compact = record { step = λ nonce. ap (settle over b plain) rewriting; landed = refl }

      pub doubted_compact : (count : ℕ) → Comes over b step.compact (disk_fault count) (step.disk_failed count) (step.doubting count compacting b) None
      unfolding step.step
      doubted_compact count = record { step = λ nonce. ap (settle over b (disk_fault count)) rewriting; landed = refl }

  -- the takes
  pub no_take : (target : Destination) (answer : Val) (x : step.Reply) → step.no_take b target ≡ Some x → fate_by x ≡ plain → Comes over b (step.take target answer) (fate_by x) x b None
  unfolding step.step
  no_take target answer x is fate = record {
    step = λ nonce. ap (step.take_by b target nonce) fate ∙ ap (λ (o : Option step.Reply). step.take_unless o b nonce) is;
    landed = refl;
  }

  pub wanting_take : (target : Destination) (answer : Val) → Comes over b (step.take target answer) no_memory step.memory b None
  unfolding step.step
  wanting_take target answer = record { step = λ nonce. refl; landed = refl }

  pub taken : (target : Destination) (answer : Val) (nonce : ℕ) → step.no_take b target ≡ None → step.step over b nonce (step.take target answer) plain ≡ (step.taken b.drawn nonce, draw b)
  unfolding step.step
  taken target answer nonce is = ap (λ (o : Option step.Reply). step.take_unless o b nonce) is

-- why there is no take
abbrev behind_bars : (b : Book) (x : Destination) → Option step.Reply → Option step.Reply
behind_bars b x o = or_else o (or_else (when (b.drawn == 2 ^ 62) step.worn) (step.refused_by (refusal_of (admit b x))))

pub barred_take : (b : Book) (x : Destination) (r : step.Reply) → step.barred b ≡ Some r → step.no_take b x ≡ Some r
barred_take b x r is = ap (behind_bars b x) is

pub worn_take : (b : Book) (x : Destination) → step.barred b ≡ None → (b.drawn == 2 ^ 62) ≡ true → step.no_take b x ≡ Some step.worn
worn_take b x free is = ap (behind_bars b x) free ∙ ap (λ (t : Bool). or_else (when t step.worn) (step.refused_by (refusal_of (admit b x)))) is

-- on a shelf whose numbers are not used up
free_is : (b : Book) (x : Destination) → step.barred b ≡ None → (b.drawn == 2 ^ 62) ≡ false → step.no_take b x ≡ step.refused_by (refusal_of (admit b x))
free_is b x free not = ap (behind_bars b x) free ∙ ap (λ (t : Bool). or_else (when t step.worn) (step.refused_by (refusal_of (admit b x)))) not

pub refused_take : (b : Book) (x : Destination) (r : Refusal) → step.barred b ≡ None → (b.drawn == 2 ^ 62) ≡ false → refusal_of (admit b x) ≡ Some r → step.no_take b x ≡ Some (step.refusal r)
refused_take b x r free not is = free_is b x free not ∙ ap step.refused_by is

pub free_take : (b : Book) (x : Destination) → step.barred b ≡ None → (b.drawn == 2 ^ 62) ≡ false → refusal_of (admit b x) ≡ None → step.no_take b x ≡ None
free_take b x free not is = free_is b x free not ∙ ap step.refused_by is

-- what bars a shelf that does not follow another one's journal and on which nothing is in doubt: nothing
pub free_bars : (b : Book) → b.down ≡ None → b.follows ≡ false → step.barred b ≡ None
free_bars b up leads =
    ap (λ (o : Option Doubt). or_else (step.down_by o) (when b.follows step.following)) up ∙ ap (λ (t : Bool). or_else (step.down_by None) (when t step.following)) leads

-- what bars a shelf is told as it is
pub barred_by : (b : Book) (x : step.Reply) → step.barred b ≡ Some x → IsBar x
barred_by b x is = by_both b.down b.follows x is
  where
    by_both : (o : Option Doubt) (t : Bool) (x : step.Reply) → or_else (step.down_by o) (when t step.following) ≡ Some x → IsBar x
    by_both None true x e = subst IsBar (let same : step.following ≡ x = cc e in same) tt
    by_both None false x e = absurd (let no : ⊥ = cc e in no)
    by_both (Some d) t x e = subst IsBar (let same : step.down d.count ≡ x = cc e in same) tt
