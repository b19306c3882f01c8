-- What tickets and effects of these tests stand for.
use Rattle.std.proofs.Common.{◌≡◌, ℕ, List, [], map, length, Option, Some, None, Contains, IfSome, ap, sym, subst}
use Rattle.std.proofs.lemmas.List.Elements.{Contains-push}
use Rattle.replay_spec.specs.Book as spec
use Rattle.replay_spec.specs.Next as next
use Rattle.instance_book.specs.Makes.{Makes}
use Rattle.book_visits.specs.Views.{ticket_of, ticket_for}
use Rattle.instance_book.specs.Views.{no_journal}
use Rattle.page_names.specs.declared.names.ScriptName.{ScriptName}
use Rattle.page_names.specs.declared.names.Target.{Target}
use Rattle.page_names.specs.declared.names.Target.TheVariants.{Start}
use Rattle.script_value.specs.declared.value.Value.{Value}
use Rattle.script_value.specs.Val.{Val}
use Rattle.instance_cells.specs.Cells.{AreOn}
use Rattle.instance_cells.specs.Views.{effect_of}
use Rattle.instance_cells.specs.declared.effect.Effect.{Effect}
use Rattle.page_names.specs.Names.{Destination, start, page}
use Rattle.page_names.specs.Views.{target_of}
use Rattle.book_visits.specs.Prepares.{AreOnBy, AreOnCells, IsNew, IsNewBy}
use Rattle.instance_book.specs.Swept.{cells_at}
use Rattle.instance_book.specs.declared.book.Book.{Book}
use Rattle.book_visits.specs.declared.ticket.Ticket.{Ticket}

none_in : (cells : Option (List Val)) → IfSome cells (λ vs. AreOn (length vs) [])
none_in None = tt
none_in (Some vs) = tt

none_by : (b : Book) (t : Ticket) (d : Destination) → AreOnBy b t d []
none_by b t (start name) = tt
none_by b t (page name n) = none_in (cells_at n.instance b)

pub none_on : (b : Book) (t : Ticket) (effects : List Effect) → effects ≡ [] → AreOnCells b t (map effect_of effects)
none_on b t effects e = subst (λ es. AreOnCells b t (map effect_of es)) (sym e) (none_by b t (target_of t.target))

-- a number that was drawn is out
drawn_out : (old new : Book) → Makes spec.draw old new → Contains new.out.items old.drawn
drawn_out old new made =
    subst (λ (ns : List ℕ). Contains ns old.drawn) (sym (ap (λ (b : spec.Book). b.out) (made (record { all = []; setup = [] }) no_journal))) (Contains-push old.out.items old.drawn)

pub ticket_out : (old new : Book) (t : Ticket) (target : Target) (answer : Value) (nonce : ℕ) → Makes spec.draw old new
    → ticket_of t ≡ ticket_for target answer old.drawn nonce → Contains new.out.items t.number
ticket_out old new t target answer nonce made is =
    subst (λ (n : ℕ). Contains new.out.items n) (sym (ap (λ (x : next.Ticket). x.number) is)) (drawn_out old new made)

-- a start answers no page
pub new_start : (b : Book) (t : Ticket) (name : ScriptName) → t.target ≡ Start name → IsNew b t
new_start b t name is = subst (λ (x : Target). IsNewBy b t (target_of x)) (sym is) tt
