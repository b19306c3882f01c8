-- What a crash may leave of a follower's disk at each moment, and which records were acknowledged by then.
use Rattle.std.specs.Prelude.{◌≡◌, ◌≤◌, ◌^◌, ℕ, ◌+◌, ◌++◌, List, [], ◌∷◌, length}
use Rattle.shelf.specs.WebOutside.View.{SinkView}
use Rattle.shelf.specs.WebDisk.View.{View, LeavesOnly}
use Rattle.shelf.specs.PageJournal.Records.{newest, at_rest}
use Rattle.shelf.specs.PageJournal.Holding.{IsClosed, MayHold}
use Rattle.page_follower.specs.Acks.{IsAcked}

-- ---- one call of the disk

-- a crash now leaves these records
abbrev pub HoldsOnly : View → (bodies : List (List ℕ)) → Type 0
HoldsOnly v bodies = (image : List ℕ) → v.images image → IsClosed newest bodies image

-- no record was added to these: a crash at any moment left them, and one now does
pub record HasRested (old new : View) (bodies : List (List ℕ)) : Type 0 where
  pub moments : LeavesOnly old new (IsClosed newest bodies)
  pub left : HoldsOnly new bodies

-- A record was added to these: a crash at any moment left them, with it or without it, and one now leaves all.
pub record HasGained (old new : View) (bodies : List (List ℕ)) (body : List ℕ) : Type 0 where
  pub moments : LeavesOnly old new (MayHold newest bodies body)
  pub left : HoldsOnly new (bodies ++ body ∷ [])
  pub fits : length (at_rest (bodies ++ body ∷ [])) ≤ 2 ^ 30

-- ---- all of them

-- Records were added to those that a disk held, and each was acknowledged before the next one. While one was added nothing was written on the
-- output, and while it was acknowledged the disk stayed as it was.
abbrev pub AreFed : {D : Type 0} → (D → View) → (held : List (List ℕ)) → (old : D) → (sink : SinkView) → (acks : ℕ) → (more : List (List ℕ)) → (told : SinkView)
    → (new : D) → Type 0
AreFed view held old sink acks [] told new = (told ≡ sink) × (new ≡ old)
AreFed {D} view held old sink acks (body ∷ more) told new =
    (mid : D) × (between : SinkView) × HasGained (view old) (view mid) held body × IsAcked sink between (acks + 1)
    × AreFed view (held ++ body ∷ []) mid between (acks + 1) more told new

-- The record that was offered after others and not acknowledged. There was none; or it was refused, and the disk was not asked to write it; or the
-- disk was asked to write it, whatever came of that.
pub data Offer : Type 0 where
  no_record : Offer
  refused_record : (body : List ℕ) → Offer
  written_record : (body : List ℕ) → Offer

-- What became of a disk that held these records, while another one was offered and not acknowledged. Without one it was left alone. Where it was
-- refused, a crash at any moment left these records and no other, and one now does. Where the disk was asked to write it, a crash at any moment left
-- these, with it or without it.
abbrev pub IsOffered : {D : Type 0} → (D → View) → (bodies : List (List ℕ)) → (old : D) → Offer → (new : D) → Type 0
IsOffered view bodies old no_record new = new ≡ old
IsOffered view bodies old (refused_record body) new = HasRested (view old) (view new) bodies
IsOffered view bodies old (written_record body) new = LeavesOnly (view old) (view new) (MayHold newest bodies body)

-- records were added and acknowledged, and then one was offered, if one was
abbrev pub IsFedOn : {D : Type 0} → (D → View) → (held : List (List ℕ)) → (old new : D) → (sink : SinkView) → (acks : ℕ) → (more : List (List ℕ))
    → (told : SinkView) → Offer → Type 0
IsFedOn {D} view held old new sink acks more told offer =
    (mid : D) × AreFed view held old sink acks more told mid × IsOffered view (held ++ more) mid offer new

-- The records that a disk held were read, which changed nothing. Then those after them were added and acknowledged, and one was offered, if one
-- was.
abbrev pub HasFed : {D : Type 0} → (D → View) → (held : List (List ℕ)) → (old new : D) → (sink : SinkView) → (acks : ℕ) → (more : List (List ℕ))
    → (told : SinkView) → Offer → Type 0
HasFed {D} view held old new sink acks more told offer =
    (read : D) × HasRested (view old) (view read) held × IsFedOn view held read new sink acks more told offer

-- what is told of a follower's disk by the records that were adopted and acknowledged, from one output to another, and the one that was offered
-- after them, if one was
abbrev pub Moments : Type 1
Moments = (sink : SinkView) → (acks : ℕ) → (more : List (List ℕ)) → (told : SinkView) → Offer → Type 0

-- ---- what a crash finds

-- the record that may be in flight after others: the one that the disk was asked to write, if there is one, alone
abbrev pub in_flight : Offer → List (List ℕ)
in_flight no_record = []
in_flight (refused_record body) = []
in_flight (written_record body) = body ∷ []

-- bytes hold these records, or these with the first of the others in flight
abbrev pub HoldsWith : (bodies others : List (List ℕ)) → (bytes : List ℕ) → Type 0
HoldsWith bodies [] bytes = IsClosed newest bodies bytes
HoldsWith bodies (body ∷ others) bytes = MayHold newest bodies body bytes

-- bytes hold these records, and after them the first of the others, of which the next one may be in flight
pub record HoldsFirst (bodies others : List (List ℕ)) (bytes : List ℕ) : Type 0 where
  pub first : List (List ℕ)
  pub rest : List (List ℕ)
  pub all : others ≡ first ++ rest
  pub holds : HoldsWith (bodies ++ first) rest bytes
