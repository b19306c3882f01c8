-- What following computes of records that are held, of those that are adopted, and of the one at which it ends.
use Rattle.std.proofs.Common.{◌≡◌, ◌≤◌, ◌+◌, ◌++◌, ◌∷◌, ◌∙◌, ◌<◌, inl, inr, ℕ, suc, Bool, true, false, List, [], Option, Some, None, if◌then◌else◌, ◌==◌, nat_le, length, take, arith, sym, ap, refl, append_assoc, append-nil, length-append}
use Rattle.std.proofs.lemmas.Bool.{cases_eq}
use Rattle.std.proofs.lemmas.Bool.Decides.{nat_tests}
use Rattle.shelf.specs.PageJournal.Records.{behind, framed}
use Rattle.page_follower.specs.Computed.{AdmitsEach, does}
use Rattle.page_follower.specs.Feed.{Feed, FeedEnd, ends_so, by_head, fed, feed_head, feed_in, feed_within, headless, cut, most_of_feed, overlong}
use Rattle.page_follower.specs.Following.{Outcome, acked, adopts, differs_at, followed, follows, is_same, is_spent, outcome_of, refused_at, stops}
use Rattle.page_follower.proofs.Feeds.{length_framed}
use Rattle.shelf.proofs.PageJournal.Scans.{behind_is}
use Rattle.page_follower.proofs.Parsed.{in_front}

-- ---- bodies

-- what stands after a front of a text
pub behind_own : (front rest : List ℕ) → behind front (front ++ rest) ≡ Some rest
behind_own [] rest = refl
behind_own (b ∷ front) rest =
    let same : (b == b) ≡ true = grind (arith, nat_tests) in
    ap (λ (t : Bool). if t then behind front (front ++ rest) else None) same ∙ behind_own front rest

-- nothing stands after a text in its own front
pub behind_longer : (front : List ℕ) (b : ℕ) (rest : List ℕ) → behind (front ++ b ∷ rest) front ≡ None
behind_longer [] b rest = refl
behind_longer (x ∷ front) b rest =
    let same : (x == x) ≡ true = grind (arith, nat_tests) in
    ap (λ (t : Bool). if t then behind (front ++ b ∷ rest) front else None) same ∙ behind_longer front b rest

-- a body is the same as itself
is_same_self : (body : List ℕ) → is_same body body ≡ true
is_same_self body = ap is_spent (ap (behind body) (sym (append-nil body)) ∙ behind_own body [])

-- it is not the same as another
is_same_not : (held body : List ℕ) → (held ≡ body → ⊥) → is_same held body ≡ false
is_same_not held body other = cases (behind held body) refl
  where
    cases : (o : Option (List ℕ)) → behind held body ≡ o → is_spent o ≡ false
    cases None is = refl
    cases (Some []) is = absurd (other (sym (behind_is held body [] is ∙ append-nil held)))
    cases (Some (b ∷ bs)) is = refl

-- ---- records

-- records that are held come first
same_first : (admits : List (List ℕ) → List ℕ → Bool) (so_far same rest : List (List ℕ)) (place : ℕ) (feed : Feed) (acks : ℕ)
    (adopted : List (List ℕ)) (o : Outcome)
    → follows admits (so_far ++ same) rest (place + length (fed same)) feed.bodies feed.ends ≡ does acks adopted o
    → follows admits so_far (same ++ rest) place (in_front same feed).bodies (in_front same feed).ends ≡ does (length same + acks) adopted o
same_first admits so_far [] rest place feed acks adopted o later =
    ap (λ l. follows admits l rest place feed.bodies feed.ends) (sym (append-nil so_far))
    ∙ ap (λ p. follows admits (so_far ++ []) rest p feed.bodies feed.ends) (let e : place ≡ place + 0 = omega arith in e)
    ∙ later ∙ ap (λ n. does n adopted o) (let e : acks ≡ 0 + acks = omega arith in e)
same_first admits so_far (b ∷ same) rest place feed acks adopted o later =
    let l = length-append (framed b) (fed same) in
    let m = length_framed b in
    let more : follows admits ((so_far ++ b ∷ []) ++ same) rest (place + 4 + length b + length (fed same)) feed.bodies feed.ends ≡ does acks adopted o =
    ap (λ x. follows admits x rest (place + 4 + length b + length (fed same)) feed.bodies feed.ends) (append_assoc so_far (b ∷ []) same)
    ∙ ap (λ p. follows admits (so_far ++ b ∷ same) rest p feed.bodies feed.ends)
    (let e : place + 4 + length b + length (fed same) ≡ place + length (framed b ++ fed same) = omega arith in e) ∙ later in
    ap (λ (t : Bool). if t then acked (follows admits (so_far ++ b ∷ []) (same ++ rest) (place + 4 + length b) (in_front same feed).bodies (in_front same feed).ends) else stops (differs_at place))
    (is_same_self b)
    ∙ ap acked (same_first admits (so_far ++ b ∷ []) same rest (place + 4 + length b) feed acks adopted o more)
    ∙ ap (λ n. does n adopted o) (let e : 1 + (length same + acks) ≡ suc (length same) + acks = omega arith in e)

-- records that are adopted come first
adopted_first : (admits : List (List ℕ) → List ℕ → Bool) (so_far more : List (List ℕ)) (place : ℕ) (feed : Feed) (acks : ℕ)
    (adopted : List (List ℕ)) (o : Outcome) → AdmitsEach admits so_far more
    → follows admits (so_far ++ more) [] (place + length (fed more)) feed.bodies feed.ends ≡ does acks adopted o
    → follows admits so_far [] place (in_front more feed).bodies (in_front more feed).ends ≡ does (length more + acks) (more ++ adopted) o
adopted_first admits so_far [] place feed acks adopted o each later =
    ap (λ l. follows admits l [] place feed.bodies feed.ends) (sym (append-nil so_far))
    ∙ ap (λ p. follows admits (so_far ++ []) [] p feed.bodies feed.ends) (let e : place ≡ place + 0 = omega arith in e)
    ∙ later ∙ ap (λ n. does n adopted o) (let e : acks ≡ 0 + acks = omega arith in e)
adopted_first admits so_far (b ∷ more) place feed acks adopted o each later =
    let l = length-append (framed b) (fed more) in
    let m = length_framed b in
    let rest : follows admits ((so_far ++ b ∷ []) ++ more) [] (place + 4 + length b + length (fed more)) feed.bodies feed.ends ≡ does acks adopted o =
    ap (λ x. follows admits x [] (place + 4 + length b + length (fed more)) feed.bodies feed.ends) (append_assoc so_far (b ∷ []) more)
    ∙ ap (λ p. follows admits (so_far ++ b ∷ more) [] p feed.bodies feed.ends)
    (let e : place + 4 + length b + length (fed more) ≡ place + length (framed b ++ fed more) = omega arith in e) ∙ later in
    ap (λ (t : Bool). if t then adopts b (follows admits (so_far ++ b ∷ []) [] (place + 4 + length b) (in_front more feed).bodies (in_front more feed).ends) else stops (refused_at place))
    each.0
    ∙ ap (adopts b) (adopted_first admits (so_far ++ b ∷ []) more (place + 4 + length b) feed acks adopted o each.1 rest)
    ∙ ap (λ n. does n (b ∷ (more ++ adopted)) o) (let e : 1 + (length more + acks) ≡ suc (length more) + acks = omega arith in e)

-- following ends at a record that is held, or after all of the feed
pub compared_so : (admits : List (List ℕ) → List ℕ → Bool) (held same rest : List (List ℕ)) (bytes : List ℕ) (feed : Feed) (o : Outcome)
    → held ≡ same ++ rest → feed_in bytes ≡ in_front same feed
    → follows admits same rest (8 + length (fed same)) feed.bodies feed.ends ≡ does 0 [] o → followed admits held (feed_in bytes) ≡ does (length same) [] o
compared_so admits held same rest bytes feed o all is ends =
    ap (λ h. followed admits h (feed_in bytes)) all ∙ ap (followed admits (same ++ rest)) is ∙ same_first admits [] same rest 8 feed 0 [] o ends
    ∙ ap (λ n. does n [] o) (let e : length same + 0 ≡ length same = omega arith in e)

-- following ends after all that are held, and after records that were adopted
pub adopted_so : (admits : List (List ℕ) → List ℕ → Bool) (held more : List (List ℕ)) (bytes : List ℕ) (feed : Feed) (o : Outcome)
    → feed_in bytes ≡ in_front held (in_front more feed) → AdmitsEach admits held more
    → follows admits (held ++ more) [] (8 + length (fed held) + length (fed more)) feed.bodies feed.ends ≡ does 0 [] o
    → followed admits held (feed_in bytes) ≡ does (length held + length more) more o
adopted_so admits held more bytes feed o is each ends =
    ap (followed admits held) is
    ∙ ap (λ h. followed admits h (in_front held (in_front more feed))) (sym (append-nil held))
    ∙ same_first admits [] held [] 8 (in_front more feed) (length more + 0) (more ++ []) o
    (adopted_first admits held more (8 + length (fed held)) feed 0 [] o each ends)
    ∙ ap (λ n. does n (more ++ []) o) (let e : length held + (length more + 0) ≡ length held + length more = omega arith in e)
    ∙ ap (λ l. does (length held + length more) l o) (append-nil more)

-- a feed that holds no more ends so, whatever else is held
pub ends_here : (admits : List (List ℕ) → List ℕ → Bool) (so_far rest : List (List ℕ)) (place : ℕ) (end : FeedEnd)
    → follows admits so_far rest place [] end ≡ does 0 [] (outcome_of end)
ends_here admits so_far [] place end = refl
ends_here admits so_far (h ∷ rest) place end = refl

-- another record than the one that is held ends it
pub differs_here : (admits : List (List ℕ) → List ℕ → Bool) (so_far rest : List (List ℕ)) (held body : List ℕ) (place : ℕ) (feed : Feed)
    → (held ≡ body → ⊥) → follows admits so_far (held ∷ rest) place (body ∷ feed.bodies) feed.ends ≡ does 0 [] (differs_at place)
differs_here admits so_far rest held body place feed other =
    ap (λ (t : Bool). if t then acked (follows admits (so_far ++ body ∷ []) rest (place + 4 + length body) feed.bodies feed.ends) else stops (differs_at place))
    (is_same_not held body other)

-- a record that is refused ends it
pub refused_here : (admits : List (List ℕ) → List ℕ → Bool) (so_far : List (List ℕ)) (body : List ℕ) (place : ℕ) (feed : Feed)
    → admits so_far body ≡ false → follows admits so_far [] place (body ∷ feed.bodies) feed.ends ≡ does 0 [] (refused_at place)
refused_here admits so_far body place feed refuses =
    ap (λ (t : Bool). if t then adopts body (follows admits (so_far ++ body ∷ []) [] (place + 4 + length body) feed.bodies feed.ends) else stops (refused_at place)) refuses

-- ---- without a head

-- bytes that are no front of each other stay so with others after the one
apart : (a b more : List ℕ) → behind a b ≡ None → behind b a ≡ None → (behind a (b ++ more) ≡ None) × (behind (b ++ more) a ≡ None)
apart [] b more p q = absurd (cc p)
apart (x ∷ a) [] more p q = absurd (cc q)
apart (x ∷ a) (y ∷ b) more p q = elim (cases_eq x y) [
  | inl same ↦ (
      let fore : (x == y) ≡ true = grind (arith, nat_tests, same) in
      let back : (y == x) ≡ true = grind (arith, nat_tests, same) in
      let first = sym (ap (λ (t : Bool). if t then behind a b else None) fore) ∙ p in
      let second = sym (ap (λ (t : Bool). if t then behind b a else None) back) ∙ q in
      let rest = apart a b more first second in
      (ap (λ (t : Bool). if t then behind a (b ++ more) else None) fore ∙ rest.0, ap (λ (t : Bool). if t then behind (b ++ more) a else None) back ∙ rest.1))
  | inr other ↦ (
      let fore : (x == y) ≡ false = grind (arith, nat_tests, other) in
      let back : (y == x) ≡ false = grind (arith, nat_tests, other) in
      (ap (λ (t : Bool). if t then behind a (b ++ more) else None) fore, ap (λ (t : Bool). if t then behind (b ++ more) a else None) back))
]

-- bytes that are not too many hold what stands after their head, or what is missing of it
within : (bytes : List ℕ) → length bytes ≤ most_of_feed → feed_in bytes ≡ feed_within bytes
within bytes fits =
    let short : nat_le (length bytes) most_of_feed ≡ true = grind (arith, nat_tests, fits) in
    ap (λ (t : Bool). if t then feed_within bytes else overlong (feed_within (take most_of_feed bytes))) short

-- other first bytes are those of no feed
pub no_head_in : (bytes came rest : List ℕ) → length bytes ≤ most_of_feed → bytes ≡ came ++ rest → behind feed_head came ≡ None → behind came feed_head ≡ None
    → feed_in bytes ≡ ends_so headless
no_head_in bytes came rest fits is other no_front =
    let far = apart feed_head came rest other no_front in
    within bytes fits ∙ ap (λ b. by_head (behind feed_head b) (behind b feed_head)) is
    ∙ ap (λ o. by_head o (behind (came ++ rest) feed_head)) far.0 ∙ ap (by_head None) far.1

-- a front of the head is cut at its first byte
pub cut_head_in : (bytes missing : List ℕ) → length bytes ≤ most_of_feed → feed_head ≡ bytes ++ missing → 0 < length missing → feed_in bytes ≡ ends_so (cut 0)
cut_head_in bytes [] fits is some = absurd (omega arith)
cut_head_in bytes (b ∷ missing) fits is some =
    within bytes fits
    ∙ ap (λ o. by_head o (behind bytes feed_head)) (ap (λ h. behind h bytes) is ∙ behind_longer bytes b missing)
    ∙ ap (by_head None) (ap (behind bytes) is ∙ behind_own bytes (b ∷ missing))
