-- What is published on the book of a shelf does not depend on whether the shelf follows another one's journal.
use Rattle.std.proofs.Common.{◌≡◌, ℕ, List, [], length, Option, Some, None, refl, ap, ◌∙◌}
use Rattle.script_value.specs.declared.outcome.TxName.{TxName}
use Rattle.page_names.specs.Names.{Destination, start, page}
use Rattle.replay_spec.specs.Tape.{present, Outcome, paged}
use Rattle.replay_spec.specs.Tape as tape
use Rattle.replay_spec.specs.Eval.{Segment}
use Rattle.replay_spec.specs.Book.{Change, opens, extends, ends, finishes, sweeps, Doubt, Book}
use Rattle.replay_spec.specs.Rules.{Rules}
use Rattle.replay_spec.specs.Admission.{or_else, Admission, begins, resumes, refused, admit}
use Rattle.replay_spec.specs.Next.{Ticket, Visit, url_for, comes_to, start_visit, page_visit}
use Rattle.replay_spec.specs.Step.{Reply, Decision, unless, down_by, with_room, change_by, reply_by, full, stopped, gone_for, decide, publish_comes}
use Rattle.replay_spec.specs.Invariant.{IsOrderly}
use Rattle.replay_spec.specs.Remade.{NameTheirCells}
use Rattle.replay_spec.proofs.Last.{without}
use Rattle.journal_spec.specs.Lengths.{own_told}
use Rattle.journal_spec.specs.Whole.{HasWholeScripts}
use Rattle.journal_spec.specs.Keeping.{IsTakenAs}
use Rattle.audit_spec.specs.Meaning.{unfed}

admit_unfed : (b : Book) (d : Destination) → admit (unfed b) d ≡ admit b d
admit_unfed b (start name) = refl
admit_unfed b (page name n) = refl

room_unfed : (rules : Rules) (b : Book) (r : Reply) (inside : List TxName) (o : Option Change) → with_room (without rules) (unfed b) r inside o ≡ with_room (without rules) b r inside o
room_unfed rules b r inside None = refl
room_unfed rules b r inside (Some c) = refl

stopped_unfed : (rules : Rules) (b : Book) (gone : List ℕ) (v : Visit) (s : Segment) (o : Outcome) → stopped (without rules) (unfed b) gone v s o ≡ stopped (without rules) b gone v s o
stopped_unfed rules b gone v s (paged how bytes) =
    ap (λ (d : Decision). unless (full (without rules) how v.origin (length b.instances)) d)
    (room_unfed rules b (reply_by how bytes (url_for v)) s.entered (change_by rules b gone v s v.origin how))
stopped_unfed rules b gone v s (tape.faulted f) = refl
stopped_unfed rules b gone v s (tape.out_of_fuel cost) = refl

decide_unfed : (rules : Rules) (b : Book) (t : Ticket) (a : Admission) → decide (without rules) (unfed b) t a ≡ decide (without rules) b t a
decide_unfed rules b t (begins k s) =
    let v = start_visit b t k s in let m = comes_to v (present s.script.cells rules.fuel) in stopped_unfed rules b [] v m m.outcome
decide_unfed rules b t (resumes at) =
    let v = page_visit b t at in let m = comes_to v (present at.instance.cells rules.fuel) in stopped_unfed rules b (gone_for rules t at) v m m.outcome
decide_unfed rules b t (refused r) = refl

-- a publish on a shelf that is up
pub publish_unfed : (rules : Rules) (b : Book) (t : Ticket) → b.down ≡ None → publish_comes (without rules) (unfed b) t ≡ decide (without rules) b t (admit b t.target)
publish_unfed rules b t up =
    ap (λ (o : Option Doubt). unless (or_else (down_by o) None) (decide (without rules) (unfed b) t (admit (unfed b) t.target))) up
    ∙ (ap (λ (a : Admission). decide (without rules) (unfed b) t a) (admit_unfed b t.target) ∙ decide_unfed rules b t (admit b t.target))

pub orderly_unfed : (b : Book) → IsOrderly b → IsOrderly (unfed b)
orderly_unfed b g = record { below = g.below; different = g.different; doubted = g.doubted; logged = g.logged; instances = g.instances; doubt = g.doubt }

pub whole_unfed : (b : Book) → HasWholeScripts b → HasWholeScripts (unfed b)
whole_unfed b h = record { setup = h.setup; instances = h.instances }

pub names_unfed : (b : Book) → NameTheirCells b → NameTheirCells (unfed b)
names_unfed b h = record { setup = h.setup; instances = h.instances }

-- what is taken on the one is taken on the other
pub taken_unfed : (b : Book) (c : Change) (inside : List TxName) → IsTakenAs (unfed b) c inside (own_told (unfed b) c) → IsTakenAs b c inside (own_told b c)
taken_unfed b (opens o) inside h = h
taken_unfed b (extends x) inside h = h
taken_unfed b (ends e) inside h = h
taken_unfed b (finishes f) inside h = h
taken_unfed b (sweeps tick) inside h = h
