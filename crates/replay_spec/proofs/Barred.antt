-- Shelves that are down, and such as follow another one's journal.
use Rattle.std.proofs.Common.{◌≡◌, List, [], Option, Some, None, Bool, true, false, refl, ap, if◌then◌else◌}
use Rattle.script_nodes.specs.Setup.{Named}
use Rattle.replay_spec.specs.Book.{Work, landing, compacting, Doubt, Book, reopened}
use Rattle.replay_spec.specs.Rules.{Journal, Rules}
use Rattle.replay_spec.specs.Compaction.{worked, setup_for, going_on_with, reopened_with}
use Rattle.replay_spec.specs.Admission.{when, or_else}
use Rattle.replay_spec.specs.Step.{Fate, plain, no_memory, disk_fault, lost, kept, Reply, following, down, down_by, barred, recovered}
use Rattle.replay_spec.specs.Promises.{follower_reply}

-- what bars events, by what is in doubt and by whether the shelf follows
abbrev pub barred_by : Option Doubt → Bool → Option Reply
barred_by o follows = or_else (down_by o) (when follows following)

up_by : (o : Option Doubt) (follows : Bool) → barred_by o follows ≡ None → (o ≡ None) × (follows ≡ false)
up_by None false e = (refl, refl)
up_by None true e = absurd (let no : ⊥ = cc in no)
up_by (Some doubt) follows e = absurd (let no : ⊥ = cc in no)

-- a shelf that is not barred is up, and does not follow
pub not_barred : (b : Book) → barred b ≡ None → (b.down ≡ None) × (b.follows ≡ false)
not_barred b e = up_by b.down b.follows e

-- what is in doubt bars a shelf, whether it follows or not
pub down_barred : (b : Book) (doubt : Doubt) → b.down ≡ Some doubt → barred b ≡ Some (down doubt.count)
down_barred b doubt is = ap (λ (o : Option Doubt). barred_by o b.follows) is

leader_by : (o : Option Doubt) (follows : Bool) → follows ≡ false → barred_by o follows ≡ down_by o
leader_by None follows e = ap (λ (f : Bool). barred_by None f) e
leader_by (Some doubt) follows e = refl

-- a shelf that does not follow is barred where it is down
pub leader_barred : (b : Book) → b.follows ≡ false → barred b ≡ down_by b.down
leader_barred b e = leader_by b.down b.follows e

follower_by : (o : Option Doubt) (follows : Bool) → follows ≡ true → barred_by o follows ≡ Some (follower_reply o)
follower_by None follows e = ap (λ (f : Bool). barred_by None f) e
follower_by (Some doubt) follows e = refl

-- a shelf that follows is barred
pub follower_barred : (b : Book) → b.follows ≡ true → barred b ≡ Some (follower_reply b.down)
follower_barred b e = follower_by b.down b.follows e

-- a shelf that does not follow goes on with the setup that it is opened with
pub leader_setup : (b : Book) (scripts : List Named) → b.follows ≡ false → setup_for b scripts ≡ scripts
leader_setup b scripts e = ap (λ (f : Bool). if f then b.scripts else scripts) e

-- one that follows keeps its own
pub follower_setup : (b : Book) (scripts : List Named) → b.follows ≡ true → setup_for b scripts ≡ b.scripts
follower_setup b scripts e = ap (λ (f : Bool). if f then b.scripts else scripts) e

-- a shelf goes on with its own setup or with the one that it is opened with
pub some_setup : (P : List Named → Type 0) (b : Book) (scripts : List Named) → P b.scripts → P scripts → P (setup_for b scripts)
some_setup P b scripts own given = by_test b.follows
  where
    by_test : (f : Bool) → P (if f then b.scripts else scripts)
    by_test true = own
    by_test false = given

-- a shelf that does not follow is opened again with the setup that is given
pub leader_opened : (journal : Option Journal) (scripts : List Named) (b : Book) → b.follows ≡ false → reopened_with journal scripts b ≡ going_on_with journal scripts b
leader_opened journal scripts b e = ap (λ (ss : List Named). going_on_with journal ss b) (leader_setup b scripts e)

worked_setup : (rules : Rules) (w : Work) (b : Book) → (worked rules w b).scripts ≡ b.scripts
worked_setup rules (landing c inside) b = refl
worked_setup rules compacting b = refl

-- what was in doubt tells no setup
pub recovered_setup : (rules : Rules) (fate : Fate) (o : Option Doubt) (b : Book) → (recovered rules fate o b).scripts ≡ b.scripts
recovered_setup rules kept (Some doubt) b = worked_setup rules doubt.work b
recovered_setup rules kept None b = refl
recovered_setup rules plain o b = refl
recovered_setup rules no_memory o b = refl
recovered_setup rules (disk_fault count) o b = refl
recovered_setup rules lost o b = refl
