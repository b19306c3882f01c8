-- What holds of the bytes of every link.
use Rattle.std.specs.Prelude.{◌≡◌, ◌<◌, ◌≤◌, ◌++◌, ℕ, Bool, true, false, List, length, take}
use Rattle.http_forms.specs.Request.{Visit, Outcome, unfinished, visits, Decides}
use Rattle.http_forms.specs.Stream.{Stop, pending, cut, Streams}

-- the bytes of a link come to one thing
abbrev pub OutcomesAreOne : Type 0
OutcomesAreOne = (bytes : List ℕ) (ended : Bool) (o p : Outcome) → Decides bytes ended o → Decides bytes ended p → o ≡ p

-- What bytes come to that are not unfinished, they come to whatever follows them and wherever the link ends. So no request is
-- the front of another one, and no byte after a request changes it.
abbrev pub RequestsStandAlone : Type 0
RequestsStandAlone =
    (bytes more : List ℕ) (ended : Bool) (o : Outcome) → Decides bytes false o → (o ≡ unfinished → ⊥) → Decides (bytes ++ more) ended o

-- the bytes of a link that has ended, where there are some, are a request or refused
abbrev pub EndedLinksAreDecided : Type 0
EndedLinksAreDecided = (bytes : List ℕ) → 0 < length bytes → Decides bytes true unfinished → ⊥

-- A request has no more bytes than were read, and is just the first of them: the next request of the link may begin after it.
abbrev pub RequestsAreFronts : Type 0
RequestsAreFronts =
    (bytes : List ℕ) (ended : Bool) (v : Visit) → Decides bytes ended (visits v)
    → (v.length ≤ length bytes) × Decides (take v.length bytes) false (visits v)

-- The requests of a link are one list, and they stop in one way, unless nobody looked at what follows them.
abbrev pub StreamsAreOne : Type 0
StreamsAreOne =
    (left : ℕ) (bytes : List ℕ) (ended : Bool) (vs ws : List Visit) (s t : Stop)
    → Streams left bytes ended vs s → Streams left bytes ended ws t → (s ≡ cut → ⊥) → (t ≡ cut → ⊥) → (vs ≡ ws) × (s ≡ t)

-- requests after which nobody looked on are the first of those that come on the link
abbrev pub CutStreamsAreFronts : Type 0
CutStreamsAreFronts =
    (left : ℕ) (bytes : List ℕ) (ended : Bool) (vs ws : List Visit) (t : Stop)
    → Streams left bytes ended vs cut → Streams left bytes ended ws t → (t ≡ cut → ⊥) → (more : List Visit) × (ws ≡ vs ++ more)

-- The requests of the first bytes of a link are those of all its bytes, and stop so, wherever it ends: in whatever pieces the bytes
-- come, nothing is said before it stands. Only those that stop open may go on.
abbrev pub StreamsStandAlone : Type 0
StreamsStandAlone =
    (left : ℕ) (bytes more : List ℕ) (ended : Bool) (vs : List Visit) (stop : Stop)
    → Streams left bytes false vs stop → (stop ≡ pending → ⊥) → Streams left (bytes ++ more) ended vs stop
