-- What a run of steps on a desk leaves, by what its opening, its steps and its closing tell.
use Rattle.web_outside.specs.Causes.{Rose}
use Rattle.std.proofs.Common.{◌≡◌, ◌<◌, ◌≤◌, ◌∙◌, inl, inr, ℕ, List, length, Option, Some, ap, subst}
use Rattle.trio_rack.specs.Trios.{MayBeBare, shelves_of}
use Rattle.command_words.specs.declared.Options.{Options}
use Rattle.page_audit.specs.JournalSpec.Lengths.{journal_rules}
use Rattle.script_nodes.specs.Setup.{Named}
use Rattle.site_serving.specs.Shelves.{Rules}
use Rattle.play_steps.specs.Step.{Step}
use Rattle.play_steps.specs.Transcript.{End}
use Rattle.play_steps.specs.Played as played
use Rattle.play_steps.specs.Played.{Leaves, Plays, RunsOut, Scene, played as played_on}
use Rattle.play_steps.specs.declared.run.PlayEnd.TheVariants.{Reopen as Lost_at, Write}
use Rattle.play_steps.specs.declared.stage.Reopen.{Reopen}
use Rattle.play_steps.specs.declared.stage.Reopen.TheVariants as reopen
use Rattle.play_desk.specs.Desk.{Desk, desk_rules, first_desk}
use Rattle.play_desk.specs.Asking.{AsksForAll}
use Rattle.play_desk.specs.Opening.{HoldTheBooks, IsLeft, rules_at}
use Rattle.server_command.specs.Opening.{AreAsked}
use Rattle.server_command.specs.Output.{desk_for}
use Rattle.server_command.specs.Racks.{Racks}
use Rattle.server_command.proofs.Playing.{Begins, Halted, Lost, Ran, RanOut}

-- the desk of these limits
abbrev desk_by : List Named → (shelves fuel life instances pages : ℕ) → Desk
desk_by scripts shelves fuel life instances pages =
    first_desk (λ k. record { fuel = fuel; life = life; instances = instances; pages = pages; journal = Some (journal_rules k) }) scripts shelves

desk_asked : (o : Options) (scripts : List Named) (r : Rules) → AreAsked o r → first_desk (rules_at r) scripts r.shelves ≡ desk_for o scripts
desk_asked o scripts r a =
    ap (λ n. desk_by scripts n r.fuel r.life r.instances r.pages) a.shelves
    ∙ (ap (λ n. desk_by scripts o.shelves n r.life r.instances r.pages) a.fuel
    ∙ (ap (λ n. desk_by scripts o.shelves o.fuel n r.instances r.pages) a.life
    ∙ (ap (λ n. desk_by scripts o.shelves o.fuel o.life n r.pages) a.instances
    ∙ ap (λ n. desk_by scripts o.shelves o.fuel o.life o.instances n) a.pages)))

-- a desk that was opened is the first of a run
pub begins : (rack : Racks) (o : Options) (scripts : List Named) (r : Rules) (d : Desk) → AreAsked o r → d ≡ first_desk (rules_at r) scripts r.shelves
    → ((k : ℕ) → k < r.shelves → MayBeBare rack.before k) → AsksForAll r.shelves rack.before rack.after → Begins rack o scripts d
begins rack o scripts r d a is empty asked = record {
  first = is ∙ desk_asked o scripts r a;
  began = record {
    empty = subst (λ n. (k : ℕ) → k < n → MayBeBare rack.before k) a.shelves empty;
    asked = subst (λ n. AsksForAll n rack.before rack.after) a.shelves asked;
  };
}

-- a run came to a crash of this shelf, which was not opened again for this
pub record LosesBy (left : Desk → ℕ → Reopen → Type 0) (steps : List (Option Step)) (shelf : ℕ) (why : Reopen) (before after : Scene desk_rules) : Type 0 where
  pub loses : played.Loses desk_rules left steps shelf why before after
  pub rose : why ≡ reopen.Disk → Rose loses.middle.faults after.spot.faults

-- what was left by it is left after the closing too
unfoldable pub loses_with : (left left' : Desk → ℕ → Reopen → Type 0) → ((d : Desk) (k : ℕ) (w : Reopen) → left d k w → left' d k w) → (steps : List (Option Step))
    (shelf : ℕ) (why : Reopen) (before after : Scene desk_rules) → played.Loses desk_rules left steps shelf why before after
    → played.Loses desk_rules left' steps shelf why before after
loses_with left left' f steps shelf why before after p = record {
  front = p.front;
  step = p.step;
  rest = p.rest;
  cut = p.cut;
  crashed = p.crashed;
  fates = p.fates;
  told = p.told;
  middle = p.middle;
  is = p.is;
  risen = p.risen;
  later = p.later;
  fitting = p.fitting;
  stands = f p.middle.state shelf why p.stands;
  written = p.written;
}

-- the steps of a text on the desk that a run begins with
abbrev steps_on : Options → List Named → (text : List ℕ) → List (Option Step)
steps_on o scripts text = played_on desk_rules (desk_for o scripts) text

-- what holds of the steps on the desk that was opened
on_first : (o : Options) (scripts : List Named) (first : Desk) (text : List ℕ) (P : List (Option Step) → Type 0) → first ≡ desk_for o scripts
    → P (played_on desk_rules first text) → P (steps_on o scripts text)
on_first o scripts first text P is h = subst (λ (d : Desk). P (played_on desk_rules d text)) is h

pub ran : (rack : Racks) (o : Options) (scripts : List Named) (text : List ℕ) (end : End) (old mid : Option (List ℕ)) (first last : Desk) (before after : ℕ)
    → Begins rack o scripts first
    → Plays desk_rules (played_on desk_rules first text) end (played.scene desk_rules old first before) (played.scene desk_rules mid last after)
    → HoldTheBooks last (shelves_of rack.after).holds → rack.before.faults ≤ before → after ≤ rack.after.faults → Ran rack o scripts (steps_on o scripts text) end old mid
ran rack o scripts text end old mid first last before after b h left from to = record {
  first = first;
  last = last;
  begins = b;
  before = before;
  after = after;
  plays = on_first o scripts first text (λ steps. Plays desk_rules steps end (played.scene desk_rules old first before) (played.scene desk_rules mid last after)) b.first h;
  left = left;
  from = from;
  to = to;
}

-- a run whose replies could not be written whole
abbrev Unwritten : (rack : Racks) → Options → List Named → (steps : List (Option Step)) → (old mid : Option (List ℕ)) → Type 0
Unwritten rack o scripts steps old mid = (shown : List ℕ) × (p : Halted rack o scripts steps shown old mid) × (0 < length p.halts.hidden)

pub halted : (rack : Racks) (o : Options) (scripts : List Named) (text : List ℕ) (old mid : Option (List ℕ)) (first last : Desk) (before after : ℕ)
    → Begins rack o scripts first
    → Leaves desk_rules (λ d k w. ⊥) (played_on desk_rules first text) Write (played.scene desk_rules old first before) (played.scene desk_rules mid last after)
    → HoldTheBooks last (shelves_of rack.after).holds → rack.before.faults ≤ before → after ≤ rack.after.faults → Unwritten rack o scripts (steps_on o scripts text) old mid
halted rack o scripts text old mid first last before after b h left from to = by_steps h
  where
    here : List (Option Step) → Type 0
    here steps = Leaves desk_rules (λ d k w. ⊥) steps Write (played.scene desk_rules old first before) (played.scene desk_rules mid last after)

    by_steps : here (played_on desk_rules first text) → Unwritten rack o scripts (steps_on o scripts text) old mid
    by_steps x =
        let y = on_first o scripts first text here b.first x in
        (y.0, record { first = first; last = last; begins = b; before = before; after = after; halts = y.1; left = left; from = from; to = to }, y.2)

pub lost : (rack : Racks) (o : Options) (scripts : List Named) (text : List ℕ) (shelf : ℕ) (why : Reopen) (old mid : Option (List ℕ)) (first last : Desk) (before after : ℕ)
    → Begins rack o scripts first → (left : Desk → ℕ → Reopen → Type 0) → ((d : Desk) (k : ℕ) (w : Reopen) → left d k w → IsLeft rack.after d k w)
    → LosesBy left (played_on desk_rules first text) shelf why (played.scene desk_rules old first before) (played.scene desk_rules mid last after)
    → rack.before.faults ≤ before → after ≤ rack.after.faults → Lost rack o scripts (steps_on o scripts text) shelf why old mid
unfolding loses_with
lost rack o scripts text shelf why old mid first last before after b left f h from to =
    let p = on_first o scripts first text
    (λ steps. LosesBy left steps shelf why (played.scene desk_rules old first before) (played.scene desk_rules mid last after)) b.first h in
    record {
      first = first;
      last = last;
      begins = b;
      before = before;
      after = after;
      loses = loses_with left (IsLeft rack.after) f (steps_on o scripts text) shelf why (played.scene desk_rules old first before)
          (played.scene desk_rules mid last after) p.loses;
      rose = p.rose;
      from = from;
      to = to;
    }

pub paused : (rack : Racks) (o : Options) (scripts : List Named) (text : List ℕ) (old mid : Option (List ℕ)) (first last : Desk) (before after : ℕ)
    → Begins rack o scripts first → (left : Desk → ℕ → Reopen → Type 0) → ((d : Desk) (k : ℕ) (w : Reopen) → left d k w → IsLeft rack.after d k w)
    → RunsOut desk_rules left (played_on desk_rules first text) (played.scene desk_rules old first before) (played.scene desk_rules mid last after)
    → HoldTheBooks last (shelves_of rack.after).holds → rack.before.faults ≤ before → after ≤ rack.after.faults → RanOut rack o scripts (steps_on o scripts text) old mid
paused rack o scripts text old mid first last before after b left f h books from to =
    by_steps (on_first o scripts first text
    (λ steps. RunsOut desk_rules left steps (played.scene desk_rules old first before) (played.scene desk_rules mid last after)) b.first h)
  where
    by_steps : RunsOut desk_rules left (steps_on o scripts text) (played.scene desk_rules old first before) (played.scene desk_rules mid last after)
        → RanOut rack o scripts (steps_on o scripts text) old mid
    by_steps (inl x) = inl (record { first = first; last = last; begins = b; before = before; after = after; halts = x; left = books; from = from; to = to })
    by_steps (inr (inl (shelf, x))) =
        inr (inl (
          shelf,
          reopen.Memory,
          record {
            first = first;
            last = last;
            begins = b;
            before = before;
            after = after;
            loses = loses_with left (IsLeft rack.after) f (steps_on o scripts text) shelf reopen.Memory (played.scene desk_rules old first before)
                (played.scene desk_rules mid last after) x;
            rose = λ e. absurd (let no : ⊥ = cc e in no);
            from = from;
            to = to;
          },
        ))
    by_steps (inr (inr x)) =
        inr (inr (record { first = first; last = last; begins = b; before = before; after = after; waits = x; left = books; from = from; to = to }))

-- a shelf was not opened again, for whatever cause
pub loses : (left : Desk → ℕ → Reopen → Type 0) (steps : List (Option Step)) (shelf : ℕ) (why : Reopen) (before after : Scene desk_rules)
    → Leaves desk_rules left steps (Lost_at shelf why) before after → LosesBy left steps shelf why before after
loses left steps shelf reopen.Disk before after p = record { loses = p.loses; rose = λ e. p.rose }
loses left steps shelf reopen.NotEmpty before after p = record { loses = p; rose = λ e. absurd (let no : ⊥ = cc e in no) }
loses left steps shelf (reopen.Damaged place) before after p = record { loses = p; rose = λ e. absurd (let no : ⊥ = cc e in no) }
loses left steps shelf (reopen.Other place) before after p = record { loses = p; rose = λ e. absurd (let no : ⊥ = cc e in no) }
loses left steps shelf (reopen.Full size) before after p = record { loses = p; rose = λ e. absurd (let no : ⊥ = cc e in no) }
loses left steps shelf reopen.Memory before after p = absurd p
