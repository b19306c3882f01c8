-- Rows of recovery that compute: what records make, which of them are passed over, and a setup that changes at a crash.
use Rattle.std.specs.Prelude.{◌≡◌, ℕ, ◌+◌, pos, negsuc, List, [], ◌∷◌, ◌++◌, Some, None, codes, refl}
use Rattle.script_value.specs.Val.{number, text}
use Rattle.script_value.specs.declared.outcome.TxName.{TxName}
use Rattle.script_value.specs.declared.outcome.Refusal.TheVariants.{Unknown}
use Rattle.script_nodes.specs.PageNames.Names.{start}
use Rattle.instance_cells.specs.Cells.{Effect, read, set, add}
use Rattle.script_nodes.specs.declared.script.SendKind.{SendKind}
use Rattle.script_nodes.specs.declared.script.SendKind.TheVariants.{Suspend, Forward}
use Rattle.script_nodes.specs.Setup.{Named}
use Rattle.replay_spec.specs.Rules.{Rules}
use Rattle.replay_spec.specs.Book.{Change, opens, extends, ends, finishes, sweeps, reopened}
use Rattle.replay_spec.specs.Runs.{after, records_of}
use Rattle.replay_spec.specs.Recovery.{Made, nothing_made, taken_in, redo}
use Rattle.replay_spec.specs.Step.{Event, sweep, crash, Fate, plain, lost, disk_fault, kept, taken, ended, refusal, disk_failed, live, step}
use Rattle.replay_spec.specs.Samples.{name, rules, script, opened, counted, Answers, at, link_to, takes, publishing, get, nothing, plain_start, plain_answer, says, link, hotel, shop, pay, transaction}

-- what these changes make, each as recovery redoes it, after what is made
abbrev records_after : Rules → List Change → Made → Made
records_after r [] m = m
records_after r (c ∷ cs) m = records_after r cs (redo r c m)

-- a start of the script of this place, which shows a page of this kind with these effects
abbrev opening : (number place : ℕ) → SendKind → List Effect → Change
opening n place kind effects = opens (record plain_start { number = n; nonce = n; script = place; effects = effects; kind = kind })

-- an answer to a page of an instance with a last page, with these effects
abbrev ending : (number instance page : ℕ) → List Effect → Change
ending n k m effects =
    ends (record { number = n; instance = k; page = m; answer = nothing; effects = effects; left = [] })

-- an answer to a page of an instance that shows another page, with these effects and these transactions left
abbrev extension : (number instance page : ℕ) → SendKind → List Effect → List TxName → Change
extension n k m kind effects left =
    extends (record plain_answer { number = n; nonce = n; instance = k; page = m; effects = effects; left = left; kind = kind })

-- the shop's one instance, with its page 0, and one item
abbrev begun : Made
begun = records_after rules (opening 0 0 Suspend [] ∷ []) (nothing_made rules (shop ∷ []) 0)

-- the effects of a visit that buys one of one item
abbrev bought : List Effect
bought = read 0 (number (pos 1)) ∷ add 0 (negsuc 0) ∷ []

-- the record of a start lands in an empty book
pub start_is_taken_in : taken_in (nothing_made rules (shop ∷ []) 0) (opening 0 0 Suspend []) ≡ Some []
start_is_taken_in = refl

-- the record of an answer with a last page lands
pub end_is_taken_in : taken_in begun (ending 1 0 0 bought) ≡ Some []
end_is_taken_in = refl

-- a script that is not there; one that shows no page of this kind, or not with these effects
pub no_such_script : taken_in begun (opening 1 1 Suspend []) ≡ None
no_such_script = refl

-- a start is passed over whose script shows no page of this kind
pub another_kind : taken_in begun (opening 1 0 Forward []) ≡ None
another_kind = refl

-- a start is passed over whose script has not these effects
pub other_effects : taken_in begun (opening 1 0 Suspend (read 0 (number (pos 1)) ∷ [])) ≡ None
other_effects = refl

-- a page that its script ends with does not wait for an answer
pub no_page_shown : taken_in begun (extension 1 0 0 Suspend bought []) ≡ None
no_page_shown = refl

-- an instance that is not there, and a page
pub no_such_instance : taken_in begun (ending 1 1 0 bought) ≡ None
no_such_instance = refl

-- an answer to a page that is not there is passed over
pub no_such_page : taken_in begun (ending 1 0 1 bought) ≡ None
no_such_page = refl

-- an answer to a page that is not there frees no instance
pub no_such_page_finishes : taken_in begun (finishes (record { number = 1; instance = 0; page = 1; answer = nothing; effects = [] })) ≡ None
no_such_page_finishes = refl

-- the number of an earlier record, of one that was passed over too
pub repeated : taken_in begun (ending 0 0 0 bought) ≡ None
repeated = refl

-- a record is passed over that has the number of one that was passed over
pub repeats_what_was_passed_over : taken_in (records_after rules (ending 1 0 1 [] ∷ []) begun) (ending 1 0 0 bought) ≡ None
repeats_what_was_passed_over = refl

-- effects that do not hold over the cells, and a cell that is not there
pub sold_before : taken_in (records_after rules (ending 1 0 0 bought ∷ []) begun) (ending 2 0 0 bought) ≡ None
sold_before = refl

-- an answer is passed over that changes a cell that is not there
pub no_such_cell : taken_in begun (ending 1 0 0 (set 1 nothing ∷ [])) ≡ None
no_such_cell = refl

-- a tick at the clock
pub late_tick : taken_in (records_after rules (sweeps 5 ∷ []) begun) (sweeps 5) ≡ None
late_tick = refl

-- a tick after the clock lands
pub next_tick : taken_in (records_after rules (sweeps 5 ∷ []) begun) (sweeps 6) ≡ Some []
next_tick = refl

-- what is passed over counts all the same
pub counts_all_the_same :
    (records_after rules (ending 7 3 0 [] ∷ sweeps 0 ∷ []) begun).book
    ≡ record begun.book { drawn = 8; logged = 8; length = begun.book.length + 110 }
counts_all_the_same = refl

-- a start of the script that pays, an answer to its first page, and a tick
abbrev paying : List (Event × Fate)
paying = get (start name) nothing 0 ++ get (at 0 0 0) nothing 1 ++ (sweep 5, plain) ∷ []

-- an answer is passed over that leaves a transaction which its segment does not leave
pub other_names_left :
    taken_in (records_after rules (opening 0 0 Suspend [] ∷ []) (nothing_made rules (pay ∷ []) 0)) (extension 1 0 0 Suspend [] (transaction 0 ∷ []))
    ≡ None
other_names_left = refl

-- an answer lands with the transaction that its page is inside, as its script tells
pub names_are_told :
    taken_in (records_after rules (opening 0 0 Suspend [] ∷ []) (nothing_made rules (pay ∷ []) 0)) (extension 1 0 0 Suspend [] [])
    ≡ Some (transaction 1 ∷ [])
names_are_told = refl

-- the records of a run make its book, as after a crash
pub records_make_the_book :
    (records_after rules (records_of counted paying (opened rules pay)) (nothing_made rules (pay ∷ []) 0)).book
    ≡ reopened (after counted paying (opened rules pay)).book
unfolding step
records_make_the_book = refl

-- another script of the same name
abbrev renewed : Named
renewed = script [] [] (link (codes "new") ∷ says (codes "end") ∷ [])

-- an instance goes on with its own script where a crash tells another setup, and a start is of the new one
pub setup_changes :
    Answers (opened rules hotel)
    (get (start name) nothing 0 ++ (crash (renewed ∷ []), lost) ∷ get (start name) nothing 1 ++ get (at 0 0 0) (text (codes "A")) 2 ++ get (at 1 1 1) nothing 3)
    (taken 0 0 ∷ link_to (codes "list") 0 0 ∷ live 1 ∷ taken 1 1 ∷ link_to (codes "new") 1 1 ∷ taken 2 2 ∷ link_to (codes "confirm") 0 2
    ∷ taken 3 3 ∷ ended (codes "end") ∷ [])
unfolding step
setup_changes = refl

-- a start that is in doubt begins the script of its setup, also where it is kept at a crash with another
pub kept_start :
    Answers (opened rules hotel)
    (takes (start name) nothing ∷ (publishing (start name) nothing 0 0, disk_fault 1) ∷ (crash (renewed ∷ []), kept) ∷ get (at 0 0 0) (text (codes "A")) 1)
    (taken 0 0 ∷ disk_failed 1 ∷ live 1 ∷ taken 1 1 ∷ link_to (codes "confirm") 0 1 ∷ [])
unfolding step
kept_start = refl

-- a script that is gone has no start, and its instance goes on
pub script_gone :
    Answers (opened rules hotel)
    (get (start name) nothing 0 ++ (crash [], lost) ∷ takes (start name) nothing ∷ get (at 0 0 0) (text (codes "A")) 1)
    (taken 0 0 ∷ link_to (codes "list") 0 0 ∷ live 1 ∷ refusal Unknown ∷ taken 1 1 ∷ link_to (codes "confirm") 0 1 ∷ [])
unfolding step
script_gone = refl
