-- The records that tell whether a shelf follows another one's journal: where they stand, and the records of a journal without them.
use Rattle.std.specs.Prelude.{◌≡◌, ℕ, Bool, true, false, not, List, [], ◌∷◌, filter, if◌then◌else◌, refl}
use Rattle.journal_records.specs.Records.{Record, follows, promotes, draws, body_of}
use Rattle.journal_records.specs.Old.{is_role_kind}

-- whether a record tells whether the shelf follows another one's journal
abbrev pub tells_role : Record → Bool
tells_role follows = true
tells_role promotes = true
tells_role _ = false

-- whether this is the body of a record that tells whether the shelf follows another one's journal
abbrev pub is_role : List ℕ → Bool
is_role (kind ∷ []) = is_role_kind kind
is_role _ = false

-- the bodies of such records in front of all others
abbrev pub front_of : List (List ℕ) → List (List ℕ)
front_of [] = []
front_of (body ∷ bodies) = if is_role body then body ∷ front_of bodies else []

-- the bodies after those: the one that a journal begins with, and the others
abbrev pub behind_front : List (List ℕ) → List (List ℕ)
behind_front [] = []
behind_front (body ∷ bodies) = if is_role body then behind_front bodies else body ∷ bodies

-- The bodies that a shelf is fed that follows the journal of these: all but those that tell whether a shelf follows.
abbrev pub feed_of : List (List ℕ) → List (List ℕ)
feed_of bodies = filter (λ body. not (is_role body)) bodies

-- a number that was drawn, for a record that has a body of its own
abbrev drawn : List ℕ
drawn = body_of (draws 3)

-- in front of a journal stand the two records that its shelf followed, and follows no longer
in_front : front_of (body_of follows ∷ body_of promotes ∷ drawn ∷ []) ≡ body_of follows ∷ body_of promotes ∷ []
in_front = refl

-- after the records that a shelf followed, and follows no longer, stands the rest of its journal
behind : behind_front (body_of follows ∷ body_of promotes ∷ drawn ∷ []) ≡ drawn ∷ []
behind = refl

-- the record that a shelf follows no longer is in no front where it stands after others
not_in_front : behind_front (body_of follows ∷ drawn ∷ body_of promotes ∷ drawn ∷ []) ≡ drawn ∷ body_of promotes ∷ drawn ∷ []
not_in_front = refl

-- a shelf is fed the records that tell nothing of following, wherever those that do may stand
fed : feed_of (body_of follows ∷ drawn ∷ body_of promotes ∷ drawn ∷ []) ≡ drawn ∷ drawn ∷ []
fed = refl
