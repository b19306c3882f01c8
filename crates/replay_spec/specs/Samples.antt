-- What the computed rows share: small scripts, rules, events of one shelf, and pages and records of pages of which a row says what differs.
use Rattle.std.specs.Prelude.{◌≡◌, ℕ, pos, negsuc, List, [], ◌∷◌, Some, None, codes}
use Rattle.script_value.specs.Val.{Val, number, text, list, no_vals}
use Rattle.script_value.specs.declared.outcome.Op.TheVariants as op
use Rattle.script_value.specs.declared.outcome.TxName.{TxName}
use Rattle.script_nodes.specs.PageNames.Names.{Destination, page}
use Rattle.script_nodes.specs.declared.script.SendKind.TheVariants.{Suspend, Forward}
use Rattle.script_nodes.specs.Core.{Core, lit, var, bind, seq, branch, prim, send, finish, isolate, cell_ref, cell_shadow, inst_ref, inst_set, inst_add, no_cores, cores_of}
use Rattle.script_nodes.specs.Setup.{Named}
use Rattle.replay_spec.specs.Book.{Page, Opening, Extension}
use Rattle.replay_spec.specs.Rules.{Rules, Journal}
use Rattle.replay_spec.specs.Next.{url_of}
use Rattle.replay_spec.specs.Step.{Event, take, publish, Fate, plain, Reply, shown}
use Rattle.replay_spec.specs.Runs.{Shelf, answers_to, empty_shelf}

-- the name of the scripts of the rows
abbrev pub name : List ℕ
name = codes "s"

-- a script of these web cells, instance cells and parts
abbrev pub script : List Val → List Val → List Core → Named
script web cells parts = record { name = name; text = []; script = record { web = web; cells = cells; tasks = no_cores; body = seq (cores_of parts) } }

-- a journal whose records are of one length
abbrev pub journal : (begun length : ℕ) → Journal
journal begun length = record { begun = λ ss. begun; renewed = λ ss. length; length_of = λ b c. length }

-- the rules of the rows' shelf, whose journal has 100 bytes with its setup and 50 more by each change
abbrev pub rules : Rules
rules = record { fuel = 100000; life = 3600; instances = 256; pages = 64; journal = Some (journal 100 50) }

-- a shelf of number 0 that is empty, under these rules and a setup of one script
abbrev pub opened : Rules → Named → Shelf
opened r s = empty_shelf r (s ∷ []) 0

-- nonces as a counter gives them
abbrev pub counted : ℕ → ℕ
counted k = k

-- what the events of a run from this shelf are answered
abbrev pub Answers : Shelf → List (Event × Fate) → List Reply → Type 0
Answers s events expected = answers_to counted events s ≡ expected

-- the target that is a page of an instance
abbrev pub at : (instance n nonce : ℕ) → Destination
at instance n nonce = page name (record { shelf = 0; instance = instance; page = n; nonce = nonce })

-- the URL of a page of an instance
abbrev pub url : (instance n nonce : ℕ) → List ℕ
url instance n nonce = url_of (record { name = name; shelf = 0; instance = instance }) n nonce

-- a page of these words under the URL of an instance's page, whose nonce is its number
abbrev pub link_to : (words : List ℕ) → (instance n : ℕ) → Reply
link_to words instance n = shown words (url instance n n)

-- a take of a target with these pairs, where memory is there
abbrev pub takes : Destination → Val → Event × Fate
takes d v = (take d v, plain)

-- the publish of the ticket of this number and nonce, as an event
abbrev pub publishing : Destination → Val → (n nonce : ℕ) → Event
publishing d v n nonce = publish (record { target = d; answer = v; number = n; nonce = nonce })

-- a publish of the ticket of this number, where memory is there
abbrev pub publishes : Destination → Val → (n : ℕ) → Event × Fate
publishes d v n = (publishing d v n n, plain)

-- a whole visit, with the number and nonce that it draws
abbrev pub get : Destination → Val → (n : ℕ) → List (Event × Fate)
get d v n = takes d v ∷ publishes d v n ∷ []

-- the answer without a pair
abbrev pub nothing : Val
nothing = list no_vals

-- the first page of an instance, of the shelf's first segment, which read nothing, and waits until second 3,600
abbrev pub plain_page : Page
plain_page = record { number = 0; nonce = 0; parent = None; answer = nothing; reads = []; inside = []; deadline = 3600 }

-- a start of the first script that showed a page, as the shelf's first segment, and did nothing else
abbrev pub plain_start : Opening
plain_start = record { number = 0; nonce = 0; script = 0; effects = []; left = []; kind = Suspend; deadline = 3600; evicted = [] }

-- an answer without fields to that start's page, as the shelf's second segment, which showed a page and did nothing else
abbrev pub plain_answer : Extension
plain_answer = record {
  number = 1;
  nonce = 1;
  instance = 0;
  page = 0;
  answer = nothing;
  effects = [];
  left = [];
  kind = Suspend;
  deadline = 3600;
  evicted = [];
}

-- an expression whose value is a text, as the body of a page
abbrev pub says : List ℕ → Core
says words = lit (text words)

-- a page that waits for an answer
abbrev pub link : List ℕ → Core
link words = send Suspend (says words)

-- a hotel, where what a guest picked is a web cell
abbrev pub hotel : Named
hotel = script (text (codes "none") ∷ []) []
    (bind (cores_of (link (codes "list") ∷ [])) (seq (cores_of (cell_shadow 0 (var 0) ∷ link (codes "confirm") ∷ cell_ref 0 ∷ []))) ∷ [])

-- a script whose second page forwards, and revokes the older
abbrev pub fwd : Named
fwd = script [] [] (link (codes "1") ∷ send Forward (says (codes "2")) ∷ says (codes "done") ∷ [])

-- a script that finishes its instance, which is then gone
abbrev pub fin : Named
fin = script [] [] (link (codes "1") ∷ finish (says (codes "bye")) ∷ [])

-- a shop where one item is there to be sold
abbrev pub shop : Named
shop = script [] (number (pos 1) ∷ []) (
    link (codes "buy")
    ∷ branch (prim op.Less (cores_of (inst_ref 0 ∷ lit (number (pos 1)) ∷ []))) (says (codes "sold out"))
    (seq (cores_of (inst_add 0 (lit (number (negsuc 0))) ∷ says (codes "bought") ∷ [])))
    ∷ [])

-- a cart; in a transaction the card and the payment; and the receipt, with the number of payments
abbrev pub pay : Named
pay = script [] (number (pos 0) ∷ []) (
    link (codes "cart")
    ∷ isolate (seq (cores_of (link (codes "card") ∷ link (codes "pay") ∷ inst_add 0 (lit (number (pos 1))) ∷ [])))
    ∷ send Suspend (prim op.NumberToString (cores_of (inst_ref 0 ∷ []))) ∷ says (codes "end") ∷ [])

-- the transaction that the segment of this number entered first
abbrev pub transaction : ℕ → TxName
transaction n = record { ticket = n; entry = 0 }

-- a script where what is said is an instance cell
abbrev pub note : Named
note = script [] (text (codes "none") ∷ [])
    (bind (cores_of (link (codes "say") ∷ [])) (branch (var 0) (seq (cores_of (inst_set 0 (var 0) ∷ says (codes "ok") ∷ []))) (inst_ref 0)) ∷ [])
