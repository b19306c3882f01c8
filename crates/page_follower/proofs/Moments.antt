-- What a crash may leave of a disk while records are added to it.
use Rattle.std.proofs.Common.{◌≡◌, ◌≤◌, ◌+◌, ◌++◌, ◌∷◌, ◌∙◌, ◌^◌, inl, inr, ℕ, suc, List, [], length, arith, sym, ap, refl, subst, append_assoc, append-nil, length-append}
use Rattle.shelf.specs.WebOutside.View.{SinkView}
use Rattle.shelf.specs.WebDisk.View.{View, LeavesOnly}
use Rattle.shelf.specs.PageJournal.Records.{Intact, at_rest, frames, framed, newest, records, IsBeforeOrAfter}
use Rattle.shelf.specs.PageJournal.Holding.{IsClosed, MayHold}
use Rattle.shelf.proofs.PageJournal.Frames.{length-at_rest, length-framed}
use Rattle.shelf.proofs.PageJournal.Holds.{before_or_after, just_these}
use Rattle.shelf.proofs.PageJournal.Mending.{leaves_map, leaves_then}
use Rattle.page_follower.specs.Acks.{IsAcked}
use Rattle.page_follower.specs.Laws.{AcknowledgedRecordsAreHeld, FirstRecordsAreFound}
use Rattle.page_follower.specs.Moments.{AreFed, HasFed, HasGained, HoldsFirst, HoldsOnly, HoldsWith, IsFedOn, IsOffered, Offer, in_flight, no_record, refused_record, written_record}

-- since a moment there is no other
abbrev pub OnlyNow : {D : Type 0} → (D → View) → Type 0
OnlyNow {D} view = (disk : D) (image : List ℕ) → (view disk).since (view disk).moment image → (view disk).images image

-- this moment is one of those since an earlier one
abbrev pub CountsNow : {D : Type 0} → (D → View) → Type 0
CountsNow {D} view = (disk : D) (t : ℕ) (image : List ℕ) → t ≤ (view disk).moment → (view disk).images image → (view disk).since t image

-- a record in front of others, after those that are held
one_behind : (held : List (List ℕ)) (body : List ℕ) (more : List (List ℕ)) → (held ++ body ∷ []) ++ more ≡ held ++ body ∷ more
one_behind held body more = append_assoc held (body ∷ []) more

-- ---- records that were added

-- records were added, and then another
pub fed_last : {D : Type 0} (view : D → View) (held : List (List ℕ)) (old mid new : D) (sink between told : SinkView) (acks : ℕ) (more : List (List ℕ))
    (body : List ℕ) → AreFed view held old sink acks more between mid → HasGained (view mid) (view new) (held ++ more) body
    → IsAcked between told (acks + length more + 1) → AreFed view held old sink acks (more ++ body ∷ []) told new
fed_last view held old mid new sink between told acks [] body fed gained acked = (
  new,
  told,
  subst (λ d. HasGained (view d) (view new) held body) fed.1
      (subst (λ l. HasGained (view mid) (view new) l body) (append-nil held) gained),
  subst (λ s. IsAcked s told (acks + 1)) fed.0 (subst (IsAcked between told) (let e : acks + 0 + 1 ≡ acks + 1 = omega arith in e) acked),
  (refl, refl),
)
fed_last view held old mid new sink between told acks (b ∷ more) body fed gained acked = (
  fed.0,
  fed.1,
  fed.2,
  fed.3,
  fed_last view (held ++ b ∷ []) fed.0 mid new fed.1 between told (acks + 1) more body fed.4
      (subst (λ l. HasGained (view mid) (view new) l body) (sym (one_behind held b more)) gained)
      (subst (IsAcked between told) (let e : acks + suc (length more) + 1 ≡ acks + 1 + length more + 1 = omega arith in e) acked),
)

-- when the first of them had been added and acknowledged, and no others
pub fed_cut : {D : Type 0} (view : D → View) (held : List (List ℕ)) (old new : D) (sink told : SinkView) (acks : ℕ) (first rest : List (List ℕ))
    → AreFed view held old sink acks (first ++ rest) told new
    → (mid : D) × (so_far : SinkView) × AreFed view held old sink acks first so_far mid
    × AreFed view (held ++ first) mid so_far (acks + length first) rest told new
fed_cut view held old new sink told acks [] rest fed = (
  old,
  sink,
  (refl, refl),
  subst (λ n. AreFed view (held ++ []) old sink n rest told new) (let e : acks ≡ acks + 0 = omega arith in e)
      (subst (λ l. AreFed view l old sink acks rest told new) (sym (append-nil held)) fed),
)
fed_cut view held old new sink told acks (b ∷ first) rest fed =
    let later = fed_cut view (held ++ b ∷ []) fed.0 new fed.1 told (acks + 1) first rest fed.4 in (
      later.0,
      later.1,
      (fed.0, fed.1, fed.2, fed.3, later.2),
      subst (λ n. AreFed view (held ++ b ∷ first) later.0 later.1 n rest told new)
          (let e : acks + 1 + length first ≡ acks + suc (length first) = omega arith in e)
          (subst (λ l. AreFed view l later.0 later.1 (acks + 1 + length first) rest told new) (one_behind held b first) later.3),
    )

-- a crash after them leaves all
pub fed_left : {D : Type 0} (view : D → View) (held : List (List ℕ)) (old new : D) (sink told : SinkView) (acks : ℕ) (more : List (List ℕ))
    → HoldsOnly (view old) held → AreFed view held old sink acks more told new → HoldsOnly (view new) (held ++ more)
fed_left view held old new sink told acks [] left fed =
    subst (λ l. HoldsOnly (view new) l) (sym (append-nil held)) (subst (λ d. HoldsOnly (view d) held) (sym fed.1) left)
fed_left view held old new sink told acks (b ∷ more) left fed =
    subst (λ l. HoldsOnly (view new) l) (one_behind held b more)
    (fed_left view (held ++ b ∷ []) fed.0 new fed.1 told (acks + 1) more fed.2.left fed.4)

-- ---- the first of records

-- these alone, whatever others come
first_none : (held others : List (List ℕ)) (image : List ℕ) → IsClosed newest held image → HoldsFirst held others image
first_none held others image closed = record {
  first = [];
  rest = others;
  all = refl;
  holds = subst (λ l. HoldsWith l others image) (sym (append-nil held)) (by_others others);
}
  where
    by_others : (l : List (List ℕ)) → HoldsWith held l image
    by_others [] = closed
    by_others (b ∷ l) = inl closed

-- these, with the first of the others in flight
first_may : (held : List (List ℕ)) (body : List ℕ) (others : List (List ℕ)) (image : List ℕ) → MayHold newest held body image
    → HoldsFirst held (body ∷ others) image
first_may held body others image may = record {
  first = [];
  rest = body ∷ others;
  all = refl;
  holds = subst (λ l. MayHold newest l body image) (sym (append-nil held)) may;
}

-- some of those that come first, and then the first of the others
first_behind : (held more others : List (List ℕ)) (image : List ℕ) → HoldsFirst (held ++ more) others image → HoldsFirst held (more ++ others) image
first_behind held more others image h = record {
  first = more ++ h.first;
  rest = h.rest;
  all = ap (λ l. more ++ l) h.all ∙ sym (append_assoc more h.first h.rest);
  holds = subst (λ l. HoldsWith l h.rest image) (append_assoc held more h.first) h.holds;
}

-- ---- at each moment

-- nothing was done on a disk that holds these
rested_on : {D : Type 0} (view : D → View) → OnlyNow view → (disk : D) (bodies others : List (List ℕ)) → HoldsOnly (view disk) bodies
    → LeavesOnly (view disk) (view disk) (HoldsFirst bodies others)
rested_on view only_now disk bodies others left = record {
  later = omega arith;
  each = λ image now. first_none bodies others image (left image (only_now disk image now));
  before = λ t image early was. inl was;
}

-- records were added
fed_moments : {D : Type 0} (view : D → View) → OnlyNow view → (held : List (List ℕ)) (old new : D) (sink told : SinkView) (acks : ℕ)
    (more others : List (List ℕ)) → HoldsOnly (view old) held → AreFed view held old sink acks more told new
    → LeavesOnly (view old) (view new) (HoldsFirst held (more ++ others))
fed_moments view only_now held old new sink told acks [] others left fed =
    subst (λ d. LeavesOnly (view old) (view d) (HoldsFirst held others)) (sym fed.1) (rested_on view only_now old held others left)
fed_moments view only_now held old new sink told acks (b ∷ more) others left fed =
    let P = HoldsFirst held (b ∷ (more ++ others)) in
    leaves_then (view old) (view fed.0) (view new) P
    (leaves_map (view old) (view fed.0) (MayHold newest held b) P (first_may held b (more ++ others)) fed.2.moments)
    (leaves_map (view fed.0) (view new) (HoldsFirst (held ++ b ∷ []) (more ++ others)) P (first_behind held (b ∷ []) (more ++ others))
    (fed_moments view only_now (held ++ b ∷ []) fed.0 new fed.1 told (acks + 1) more others fed.2.left fed.4))

-- a record was offered, if one was
offered_moments : {D : Type 0} (view : D → View) → OnlyNow view → (bodies : List (List ℕ)) (old new : D) (offer : Offer)
    → HoldsOnly (view old) bodies → IsOffered view bodies old offer new → LeavesOnly (view old) (view new) (HoldsFirst bodies (in_flight offer))
offered_moments view only_now bodies old new no_record left same =
    subst (λ d. LeavesOnly (view old) (view d) (HoldsFirst bodies [])) (sym same) (rested_on view only_now old bodies [] left)
offered_moments view only_now bodies old new (refused_record body) left rested =
    leaves_map (view old) (view new) (IsClosed newest bodies) (HoldsFirst bodies []) (first_none bodies []) rested.moments
offered_moments view only_now bodies old new (written_record body) left run =
    leaves_map (view old) (view new) (MayHold newest bodies body) (HoldsFirst bodies (body ∷ [])) (first_may bodies body []) run

-- records were added, and then one was offered, if one was
fed_on_moments : {D : Type 0} (view : D → View) → OnlyNow view → (held : List (List ℕ)) (old new : D) (sink : SinkView) (acks : ℕ)
    (more : List (List ℕ)) (told : SinkView) (offer : Offer) → HoldsOnly (view old) held
    → IsFedOn view held old new sink acks more told offer → LeavesOnly (view old) (view new) (HoldsFirst held (more ++ in_flight offer))
fed_on_moments view only_now held old new sink acks more told offer left (mid, fed, last) =
    let P = HoldsFirst held (more ++ in_flight offer) in
    leaves_then (view old) (view mid) (view new) P
    (fed_moments view only_now held old mid sink told acks more (in_flight offer) left fed)
    (leaves_map (view mid) (view new) (HoldsFirst (held ++ more) (in_flight offer)) P (first_behind held more (in_flight offer))
    (offered_moments view only_now (held ++ more) mid new offer (fed_left view held old mid sink told acks more left fed) last))

-- and before that those that were held were read
pub has_fed_moments : {D : Type 0} (view : D → View) → OnlyNow view → (held : List (List ℕ)) (old new : D) (sink : SinkView) (acks : ℕ)
    (more : List (List ℕ)) (told : SinkView) (offer : Offer) → HasFed view held old new sink acks more told offer
    → LeavesOnly (view old) (view new) (HoldsFirst held (more ++ in_flight offer))
has_fed_moments view only_now held old new sink acks more told offer (read, rested, fed) =
    let P = HoldsFirst held (more ++ in_flight offer) in
    leaves_then (view old) (view read) (view new) P
    (leaves_map (view old) (view read) (IsClosed newest held) P (first_none held (more ++ in_flight offer)) rested.moments)
    (fed_on_moments view only_now held read new sink acks more told offer rested.left fed)

-- ---- laws

pub acknowledged_records_are_held : {D : Type 0} (view : D → View) → OnlyNow view → CountsNow view → AcknowledgedRecordsAreHeld view
acknowledged_records_are_held view only_now counts_now held first rest offer old new sink told acks (read, rested, (end, fed, last)) =
    let cut = fed_cut view held read end sink told acks first rest fed in
    let left = fed_left view held read cut.0 sink cut.1 acks first rested.left cut.2 in
    let later : IsFedOn view (held ++ first) cut.0 new cut.1 (acks + length first) rest told offer =
    (end, cut.3, subst (λ l. IsOffered view l end offer new) (sym (append_assoc held first rest)) last) in
    let run = fed_on_moments view only_now (held ++ first) cut.0 new cut.1 (acks + length first) rest told offer left later in (
      has_fed_moments view only_now held old new sink acks (first ++ rest) told offer (read, rested, (end, fed, last)),
      (
        cut.0,
        cut.1,
        (read, rested, (cut.0, cut.2, refl)),
        left,
        later,
        run,
        λ image now. run.each image (counts_now new (view cut.0).moment image run.later now),
      ),
    )

-- the frames of records one after the other are as long as those of both together
length-frames : (bodies others : List (List ℕ)) → length (frames (bodies ++ others)) ≡ length (frames bodies) + length (frames others)
length-frames [] others = let e : length (frames []) ≡ 0 = refl in omega arith
length-frames (b ∷ bodies) others =
    let later = length-frames bodies others in
    let all = length-append (framed b) (frames (bodies ++ others)) in
    let these = length-append (framed b) (frames bodies) in omega arith

-- the first of records have room where all have
first_fit : (bodies first rest : List (List ℕ)) → length (at_rest (bodies ++ (first ++ rest))) ≤ 2 ^ 30
    → length (at_rest (bodies ++ first)) + length (frames rest) ≤ 2 ^ 30
first_fit bodies first rest fits =
    let a = length-at_rest (bodies ++ (first ++ rest)) in
    let b = length-at_rest (bodies ++ first) in
    let c = length-frames (bodies ++ first) rest in
    let d : length (frames ((bodies ++ first) ++ rest)) ≡ length (frames (bodies ++ (first ++ rest))) = ap (λ l. length (frames l)) (append_assoc bodies first rest) in
    omega arith

pub first_records_are_found : FirstRecordsAreFound
first_records_are_found bodies others bytes h fits =
    by_rest h.first h.rest h.all h.holds (first_fit bodies h.first h.rest (subst (λ l. length (at_rest (bodies ++ l)) ≤ 2 ^ 30) h.all fits))
  where
    by_flight : (first : List (List ℕ)) (body : List ℕ) (rest : List (List ℕ)) → others ≡ first ++ body ∷ rest → IsBeforeOrAfter (bodies ++ first) body bytes
        → (front back : List (List ℕ)) × (others ≡ front ++ back) × (records bytes ≡ Intact (bodies ++ front))
    by_flight first body rest all (inl before) = (first, body ∷ rest, all, before)
    by_flight first body rest all (inr with) = (
      first ++ body ∷ [],
      rest,
      all ∙ sym (one_behind first body rest),
      with ∙ ap Intact (append_assoc bodies first (body ∷ [])),
    )

    by_rest : (first rest : List (List ℕ)) → others ≡ first ++ rest → HoldsWith (bodies ++ first) rest bytes
        → length (at_rest (bodies ++ first)) + length (frames rest) ≤ 2 ^ 30
        → (front back : List (List ℕ)) × (others ≡ front ++ back) × (records bytes ≡ Intact (bodies ++ front))
    by_rest first [] all closed room = (first, [], all, just_these newest (bodies ++ first) bytes refl (omega arith) closed)
    by_rest first (body ∷ rest) all may room =
        by_flight first body rest all (before_or_after newest (bodies ++ first) body bytes refl (room_for body rest room) may)
      where
        room_for : (b : List ℕ) (l : List (List ℕ)) → length (at_rest (bodies ++ first)) + length (frames (b ∷ l)) ≤ 2 ^ 30
            → length (at_rest (bodies ++ first)) + 5 + length b ≤ 2 ^ 30
        room_for b l fits = let m = length-append (framed b) (frames l) in let n = length-framed b in omega arith
