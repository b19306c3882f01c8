-- What a pass has seen, and how its calls compose.
use Rattle.std.proofs.Common.{◌≡◌, ◌≢◌, ◌==◌, ℕ, Bool, true, false, cond, List, [], ◌∷◌, ◌++◌, length, Contains, refl, sym, ◌∙◌, ap, subst, inl, inr, arith, append_assoc, length-append}
use Rattle.std.proofs.lemmas.Bool.Decides.{nat_tests}
use Rattle.std.proofs.lemmas.List.{append-nil}
use Rattle.std.proofs.lemmas.List.Elements.{filter-append, Contains-push}
use mathlib.Core.List.{IsPrefix}
use Rattle.replay_spec.specs.Next.{Ticket}
use Rattle.replay_spec.specs.Step.{Event, publish}
use Rattle.replay_spec.specs.Laws.{tickets_by}
use Rattle.history_spec.specs.Histories.{Entry, own_of, owed_by, Owes, IsNext}
use Rattle.history_spec.specs.Laws.{take_of}
use Rattle.history_spec.specs.Passes.{publish_of, TwoCallsVisit, IsSeenBy, Goes, Makes, ATurnGoes, CallsCompose, SeenStays, ATakeIsOwed}
use Rattle.history_spec.proofs.Going.{push}
use Rattle.history_spec.proofs.Owing.{left_push, left_by}

-- the entries of a caller among two lists, one after the other
pub own_append : (c : ℕ) (es more : List Entry) → own_of c (es ++ more) ≡ own_of c es ++ own_of c more
own_append c es more = filter-append (λ (e : Entry). e.caller == c) es more

-- an entry of a caller is the one of it
pub own_one : (e : Entry) (c : ℕ) → e.caller ≡ c → own_of c (e ∷ []) ≡ e ∷ []
own_one e c is = let yes : (e.caller == c) ≡ true = grind (arith, nat_tests) in ap (λ (b : Bool). cond b (e ∷ []) []) yes

own_none : (e : Entry) (c : ℕ) → e.caller ≢ c → own_of c (e ∷ []) ≡ []
own_none e c is = let no : (e.caller == c) ≡ false = grind (arith, nat_tests) in ap (λ (b : Bool). cond b (e ∷ []) []) no

pub turn : ATurnGoes
turn source opened now s caller seen es known legal = (
  record {
    between = known.front.0;
    is = sym known.front.1 ∙ sym (append-nil (seen ++ known.front.0));
    legal = legal;
    own = known.own ∙ sym (append-nil (own_of caller seen));
  },
  λ (e : Entry) (next : IsNext source opened now s es e) (is : e.caller ≡ caller). record {
    between = known.front.0;
    is = ap (λ (l : List Entry). l ++ e ∷ []) (sym known.front.1);
    legal = push source opened now s [] es e legal next;
    own =
        own_append caller es (e ∷ [])
        ∙ (ap (λ (l : List Entry). l ++ own_of caller (e ∷ [])) known.own ∙ ap (λ (l : List Entry). own_of caller seen ++ l) (own_one e caller is));
  },
)

pub prefix_of : (a b c : List Entry) → IsPrefix a b → IsPrefix b c → IsPrefix a c
prefix_of a b c one two = (one.0 ++ two.0, sym (append_assoc a one.0 two.0) ∙ (ap (λ (l : List Entry). l ++ two.0) one.1 ∙ two.1))

pub compose : CallsCompose
compose source opened now s caller seen = (
  λ (added es : List Entry) (g : Goes source opened now s caller seen added es). record {
    front = (g.between ++ added, sym (append_assoc seen g.between added) ∙ sym g.is);
    legal = g.legal;
    own = g.own;
  },
  λ (one two mid es : List Entry) (then : ℕ) (g : Makes source opened then s caller seen one mid) (h : Makes source opened now s caller mid two es). record {
    front = prefix_of seen mid es g.front h.front;
    legal = h.legal;
    own = h.own ∙ (ap (λ (l : List Entry). l ++ two) g.own ∙ append_assoc (own_of caller seen) one two);
  },
)

-- a front of a list that is no longer than it is all of it
none_more : (xs ys : List Entry) → length (xs ++ ys) ≡ length xs → ys ≡ []
none_more xs [] h = refl
none_more xs (y ∷ ys) h = let long = length-append xs (y ∷ ys) in absurd (omega (arith, h, long))

front_none : (xs ys : List Entry) → xs ++ ys ≡ [] → xs ≡ []
front_none [] ys h = refl
front_none (x ∷ xs) ys h = absurd (let no : ⊥ = cc in no)

pub stays : SeenStays
stays caller seen es known = (
  λ (e : Entry) (other : e.caller ≢ caller). record {
    front = prefix_of seen es (es ++ e ∷ []) known.front (e ∷ [], refl);
    own = own_append caller es (e ∷ []) ∙ (ap (λ (l : List Entry). own_of caller es ++ l) (own_none e caller other) ∙ (append-nil (own_of caller es) ∙ known.own));
  },
  λ (told : List Entry) (one : IsPrefix seen told) (two : IsPrefix told es).
      let first : own_of caller told ≡ own_of caller seen ++ own_of caller one.0 = ap (own_of caller) (sym one.1) ∙ own_append caller seen one.0 in
      let all : own_of caller es ≡ own_of caller told ++ own_of caller two.0 = ap (own_of caller) (sym two.1) ∙ own_append caller told two.0 in
      let whole : own_of caller seen ++ (own_of caller one.0 ++ own_of caller two.0) ≡ own_of caller seen =
      sym (append_assoc (own_of caller seen) (own_of caller one.0) (own_of caller two.0))
      ∙ (ap (λ (l : List Entry). l ++ own_of caller two.0) (sym first) ∙ (sym all ∙ known.own)) in
      let none : own_of caller one.0 ≡ [] =
      front_none (own_of caller one.0) (own_of caller two.0) (none_more (own_of caller seen) (own_of caller one.0 ++ own_of caller two.0) (ap length whole)) in
      record {
        front = two;
        own = known.own ∙ sym (first ∙ (ap (λ (l : List Entry). own_of caller seen ++ l) none ∙ append-nil (own_of caller seen)));
      },
)

no_longer_left : (t : Ticket) (own : List Entry) (e : Entry) → e.event ≡ publish t → Contains (owed_by (own ++ e ∷ [])) t → ⊥
no_longer_left t own e is h =
    let there : Contains (tickets_by e.event e.reply (owed_by own)) t = subst (λ (ts : List Ticket). Contains ts t) (left_push own e []) h in
    let after : Contains (tickets_by (publish t) e.reply (owed_by own)) t = subst (λ (x : Event). Contains (tickets_by x e.reply (owed_by own)) t) is there in
    elim (left_by (publish t) e.reply (owed_by own) t after) [ inl old ↦ old.1 refl | inr given ↦ given ]

pub owed : ATakeIsOwed
owed source opened now s caller seen es t = (
  λ (g : Goes source opened now s caller seen (take_of caller t ∷ []) es).
      subst (λ (ts : List Ticket). Contains ts t)
      (sym (ap owed_by g.own ∙ left_push (own_of caller seen) (take_of caller t) []))
      (Contains-push (owed_by (own_of caller seen)) t),
  λ (known : IsSeenBy caller seen es) (owes : Owes caller t seen). subst (λ (l : List Entry). Contains (owed_by l) t) (sym known.own) owes,
  λ (e : Entry) (is : e.event ≡ publish t) (g : Goes source opened now s caller seen (e ∷ []) es) (owes : Owes caller t es).
      no_longer_left t (own_of caller seen) e is (subst (λ (l : List Entry). Contains (owed_by l) t) g.own owes),
)

pub visits : TwoCallsVisit
visits source opened then now s caller seen mid es t reply took published =
    let made = compose source opened now s caller seen in
    let first = (compose source opened then s caller seen).0 (take_of caller t ∷ []) mid took in
    let second = (compose source opened now s caller mid).0 (publish_of caller t reply ∷ []) es published in
    inl (t, refl, refl, made.1 (take_of caller t ∷ []) (publish_of caller t reply ∷ []) mid es then first second)
