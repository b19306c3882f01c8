-- The numbers that are out and the nonces to come, after one event more on any shelf.
use Rattle.std.proofs.Common.{◌≡◌, ◌==◌, ℕ, ◌+◌, Bool, true, cond, List, [], ◌∷◌, ◌++◌, length, length-append, filter, not, Contains, refl, sym, ◌∙◌, ap, subst, arith}
use Rattle.std.proofs.lemmas.Bool.Decides.{nat_tests}
use Rattle.std.proofs.lemmas.List.Elements.{Contains-push, filter-append}
use Rattle.std.specs.Prelude.{Result, Ok, Err}
use Rattle.script_value.specs.Val.{Val}
use Rattle.script_value.specs.declared.outcome.Reply as answers
use Rattle.page_names.specs.Names.{Destination}
use Rattle.replay_spec.specs.Book.{Book}
use Rattle.replay_spec.specs.Rules.{Rules}
use Rattle.replay_spec.specs.Next.{Ticket}
use Rattle.replay_spec.specs.Step.{Event, take, publish, sweep, compact, swept, compacted, Fate, Reply, step}
use Rattle.replay_spec.specs.Runs.{drawn_by}
use Rattle.replay_spec.specs.Invariant.{IsOrderly}
use Rattle.replay_spec.specs.Laws.{IsLawful, Moment, tickets_by}
use Rattle.replay_spec.proofs.Numbers.{numbers, numbers_spent, tickets_out}
use Rattle.replay_spec.proofs.Stand.{among_of}
use Rattle.shelf.specs.Visits.{reply_of}
use Rattle.shelf.specs.Views.{swept_of, compacted_of}
use Rattle.shelf.proofs.Order.{quiet}
use Rattle.history_spec.specs.Histories.{Entry, MayCome, Owes, own_of, owed_by, tickets_left}
use Rattle.history_spec.specs.Laws.{take_of, given_by, tickets_taken}
use Rattle.history_spec.proofs.Members.{contains_mapped, contains_none}
use Rattle.history_spec.proofs.Numbers.{given_next}
use Rattle.history_spec.proofs.Owing.{IsFresh, held_then, left_push}
use Rattle.history_spec.proofs.Twice.{taken_push}
use Rattle.site.specs.Entries.{entry}
use Rattle.site.specs.Sound.{AreOut}

-- the entries of a caller, with one more
pub own_more : (caller : ℕ) (es : List Entry) (e : Entry) → e.caller ≡ caller → own_of caller (es ++ e ∷ []) ≡ own_of caller es ++ e ∷ []
own_more caller es e is =
    let yes : (e.caller == caller) ≡ true = grind (arith, nat_tests) in
    filter-append (λ (x : Entry). x.caller == caller) es (e ∷ []) ∙ ap (λ (b : Bool). own_of caller es ++ cond b (e ∷ []) []) yes

-- a ticket that was just taken is owed
pub owes_taken : (es : List Entry) (caller : ℕ) (t : Ticket) → Owes caller t (es ++ take_of caller t ∷ [])
owes_taken es caller t =
    let own = own_of caller es in
    subst (λ (ts : List Ticket). Contains ts t) (sym (ap owed_by (own_more caller es (take_of caller t) refl) ∙ left_push own (take_of caller t) [])) (Contains-push (owed_by own) t)

-- no number is out at first
pub none_out : (out : List ℕ) → out ≡ [] → AreOut out []
none_out out is = record { numbers = is; owned = λ c t h. h; apart = λ c d t u h k same. absurd (contains_none t h) }

-- a number that is owed is out
pub owed_out : (out : List ℕ) (es : List Entry) (caller : ℕ) (t : Ticket) → AreOut out es → Owes caller t es → Contains out t.number
owed_out out es caller t are owes =
    subst (λ (ns : List ℕ). Contains ns t.number) (sym are.numbers) (contains_mapped (λ (u : Ticket). u.number) (tickets_left es []) t (are.owned caller t owes))

-- after one entry more
pub out_then : (out more : List ℕ) (es : List Entry) (e : Entry) → AreOut out es → MayCome e.caller e.event es → IsFresh e (tickets_left es [])
    → more ≡ numbers (tickets_by e.event e.reply (tickets_left es [])) → AreOut more (es ++ e ∷ [])
out_then out more es e are comes fresh is =
    let all = tickets_left es [] in
    let held = held_then es all e (record { owned = are.owned; apart = are.apart }) comes fresh in
    let grown = left_push es e [] in
    record {
      numbers = is ∙ ap numbers (sym grown);
      owned = λ c t h. subst (λ (ts : List Ticket). Contains ts t) (sym grown) (held.owned c t h);
      apart = held.apart;
    }

module _ (rules : Rules) (b c : Book) (nonce : ℕ) (x : Event) (fate : Fate) (r : Reply) (ts : List Ticket) (orderly : IsOrderly b) (is : step rules b nonce x fate ≡ (r, c)) (out : b.out ≡ numbers ts) where
  -- what is out after a lawful event
  pub stepped_out : IsLawful x b → c.out ≡ numbers (tickets_by x r ts)
  stepped_out lawful =
      let m : Moment = record { rules = rules; nonce = nonce; event = x; fate = fate } in
      let behind = (tickets_out (m ∷ []) b ts orderly (lawful, tt) (sym out)).0 in
      subst (λ (p : Reply × Book). p.1.out ≡ numbers (tickets_by x p.0 ts)) is (sym behind)

  -- what it gives is new
  pub stepped_fresh : (caller : ℕ) → IsFresh (entry caller x r) ts
  stepped_fresh caller t u given there same =
      let drawn = (given_next rules b nonce x fate r t (ap (λ (p : Reply × Book). p.0) is) given).0 in
      let old = subst (λ (ns : List ℕ). Contains ns u.number) (sym out) (contains_mapped (λ (v : Ticket). v.number) ts u there) in
      let below = orderly.below u.number (among_of b.out u.number old) in
      omega (arith, below, same, drawn)

-- after a publish its number is out no more, whatever else it did
pub spent_out : (out more : List ℕ) (es : List Entry) (caller : ℕ) (t : Ticket) (r : Reply) → AreOut out es → Owes caller t es → more ≡ filter (λ m. not (m == t.number)) out
    → AreOut more (es ++ entry caller (publish t) r ∷ [])
spent_out out more es caller t r are owes is =
    out_then out more es (entry caller (publish t) r) are owes (λ u v given there same. absurd given)
    (is ∙ (ap (filter (λ m. not (m == t.number))) are.numbers ∙ sym (numbers_spent t.number (tickets_left es []))))

-- how many nonces were drawn after one entry more
drawn_then : (es : List Entry) (caller : ℕ) (x : Event) (r : Reply) → drawn_by r (length (tickets_taken es)) ≡ length (tickets_taken es) + length (given_by x r [])
    → drawn_by r (length (tickets_taken es)) ≡ length (tickets_taken (es ++ entry caller x r ∷ []))
drawn_then es caller x r is =
    is ∙ (sym (length-append (tickets_taken es) (given_by x r [])) ∙ ap length (sym (taken_push es (entry caller x r))))

none_drawn : (r : answers.Reply) (k : ℕ) → drawn_by (reply_of r) k ≡ k + 0
none_drawn r k = quiet r k ∙ (let z : k ≡ k + 0 = omega arith in z)

take_draws : (target : Destination) (answer : Val) (r : Reply) (k : ℕ) → drawn_by r k ≡ k + length (given_by (take target answer) r [])
take_draws target answer r k = grind arith

pub drawn_take : (es : List Entry) (caller : ℕ) (target : Destination) (answer : Val) (r : Reply)
    → drawn_by r (length (tickets_taken es)) ≡ length (tickets_taken (es ++ entry caller (take target answer) r ∷ []))
drawn_take es caller target answer r = drawn_then es caller (take target answer) r (take_draws target answer r (length (tickets_taken es)))

pub drawn_publish : (es : List Entry) (caller : ℕ) (t : Ticket) (r : answers.Reply)
    → drawn_by (reply_of r) (length (tickets_taken es)) ≡ length (tickets_taken (es ++ entry caller (publish t) (reply_of r) ∷ []))
drawn_publish es caller t r = drawn_then es caller (publish t) (reply_of r) (none_drawn r (length (tickets_taken es)))

pub drawn_sweep : (es : List Entry) (caller tick : ℕ) (result : Result ℕ answers.Reply)
    → drawn_by (swept_of result) (length (tickets_taken es)) ≡ length (tickets_taken (es ++ entry caller (sweep tick) (swept_of result) ∷ []))
drawn_sweep es caller tick (Ok n) = drawn_then es caller (sweep tick) (swept n) (let z : length (tickets_taken es) ≡ length (tickets_taken es) + 0 = omega arith in z)
drawn_sweep es caller tick (Err r) = drawn_then es caller (sweep tick) (reply_of r) (none_drawn r (length (tickets_taken es)))

pub drawn_compact : (es : List Entry) (caller : ℕ) (result : Result ℕ answers.Reply)
    → drawn_by (compacted_of result) (length (tickets_taken es)) ≡ length (tickets_taken (es ++ entry caller compact (compacted_of result) ∷ []))
drawn_compact es caller (Ok n) = drawn_then es caller compact (compacted n) (let z : length (tickets_taken es) ≡ length (tickets_taken es) + 0 = omega arith in z)
drawn_compact es caller (Err r) = drawn_then es caller compact (reply_of r) (none_drawn r (length (tickets_taken es)))
