-- What a visit is prepared as.
use Rattle.std.specs.Prelude.{◌≡◌, ◌⊎◌, ℕ, ◌+◌, List, [], ◌∷◌, length, Option, Some, None, IfSome, Result, Ok, Err, ⊤, slice_get, IfOk}
use Rattle.script_value.specs.Val.{list, no_vals}
use Rattle.script_value.specs.Views.{meaning}
use Rattle.script_value.specs.declared.outcome.Reply.{Reply}
use Rattle.script_value.specs.declared.outcome.Reply.TheVariants as reply
use Rattle.script_value.specs.declared.outcome.TxName.{TxName}
use Rattle.script_nodes.specs.Setup.{Named, Library}
use Rattle.instance_cells.specs.Cells.{Effect, AreOn, reads_of}
use Rattle.page_names.specs.Names.{Destination, start, page}
use Rattle.page_names.specs.Views.{target_of}
use Rattle.page_names.specs.declared.names.PageName.{PageName}
use Rattle.replay_spec.specs.Eval.{Segment}
use Rattle.replay_spec.specs.Book as spec
use Rattle.replay_spec.specs.Book.{root_by, instance_at, spend}
use Rattle.replay_spec.specs.Change.{extended_by}
use Rattle.replay_spec.specs.Rules.{Rules}
use Rattle.replay_spec.specs.Admission.{Place, Admission, begins, resumes, refused, refusal_of, admit}
use Rattle.replay_spec.specs.Next.{start_visit, page_visit}
use Rattle.replay_spec.specs.Step as step
use Rattle.replay_spec.specs.Step.{Decision, replies, records, compacts, settles, gone_for, carried_out, refusal, shown, ended, finished}
use Rattle.machine_states.specs.Machine.{Suspended}
use Rattle.machine_states.specs.Views.{origin_of, suspended_of, segment_of, state_of}
use Rattle.machine_states.specs.declared.segment.Segment as stored
use Rattle.instance_book.specs.declared.numbered.Numbered.{Numbered}
use Rattle.instance_book.specs.declared.page.KeptPage.{KeptPage}
use Rattle.instance_book.specs.declared.change.Opening.{Opening}
use Rattle.instance_book.specs.declared.change.Extension.{Extension}
use Rattle.book_visits.specs.declared.prepared.Prepared.{Prepared}
use Rattle.instance_book.specs.declared.change.Change.{Change}
use Rattle.instance_book.specs.declared.change.Change.TheVariants.{Opens, Extends, Ends}
use Rattle.instance_book.specs.declared.book.Book.{Book}
use Rattle.book_visits.specs.declared.ticket.Ticket.{Ticket}
use Rattle.instance_book.specs.Views.{page_of, pages_of, Beside, book_of}
use Rattle.book_visits.specs.Views.{ticket_of, reply_of}
use Rattle.instance_book.specs.KeptStates.Kept.{IsKeptFrom}
use Rattle.instance_book.specs.Places.{kept_at, shown_in}
use Rattle.instance_book.specs.Changes.{begun_with, gone_in, shown_with, ended_with, begun_at}
use Rattle.book_visits.specs.Changes.{decision_of, put_into}
use Rattle.instance_book.specs.Swept.{cells_at}
use Rattle.book_visits.specs.Swept.{pages_at}
use Rattle.book_visits.specs.Fits.{IsFor, FitsStart, FitsAs}
use Rattle.instance_book.specs.Makes.{rules_with}

-- the decision changes the book
abbrev pub IsRecord : Decision → Type 0
IsRecord (replies r) = ⊥
IsRecord (records r c inside) = ⊤
IsRecord (compacts r) = ⊥

-- What is prepared is the decision, and what it makes of the book carries the decision out, also where numbers are spent.
pub record IsCarriedOut (library : Library) (rules : Rules) (b : spec.Book) (d : Decision) (p : Prepared) : Type 0 where
  pub decision : decision_of p ≡ d
  pub lands : (n : ℕ) → carried_out rules (spend n b) d ≡ (reply_of p.reply, put_into library p (spend n b))

-- What is prepared carries the decision out, and a refusal is the decision. Want of memory is told only of a decision that changes the
-- book.
abbrev pub Prepares : Library → Rules → spec.Book → Decision → Result Prepared Reply → Type 0
Prepares library rules b d (Ok p) = IsCarriedOut library rules b d p
Prepares library rules b d (Err reply.Memory) = IsRecord d
Prepares library rules b d (Err r) = d ≡ replies (reply_of r)

-- what a run that can be landed is answered with
abbrev pub IsOfRun : step.Reply → Type 0
IsOfRun (step.shown bytes url) = ⊤
IsOfRun (step.finished bytes) = ⊤
IsOfRun (step.ended bytes) = ⊤
IsOfRun (step.refusal r) = ⊤
IsOfRun (step.fault f) = ⊤
IsOfRun (step.out_of_fuel cost) = ⊤
IsOfRun _ = ⊥

-- what is answered where there is no room for what a run came to
abbrev pub WantsRoom : step.Reply → Type 0
WantsRoom (step.shelf_full count) = ⊤
WantsRoom step.memory = ⊤
WantsRoom _ = ⊥

-- a page as the first one of the instance that a ticket's start begins, after a segment of these effects inside these transactions
abbrev pub first_page : Ticket → List Effect → (inside : List TxName) → spec.Page → spec.Page
first_page t effects inside p = record p {
  number = t.number;
  nonce = t.nonce;
  parent = None;
  answer = list no_vals;
  reads = reads_of effects;
  inside = inside;
}

-- a page as the one that a ticket's answer to the page of this number shows, after a segment of these effects inside these transactions
abbrev pub next_page : Ticket → (parent : ℕ) → List Effect → (inside : List TxName) → spec.Page → spec.Page
next_page t parent effects inside p = record p {
  number = t.number;
  nonce = t.nonce;
  parent = Some parent;
  answer = meaning t.answer;
  reads = reads_of effects;
  inside = inside;
}

-- an opening as that of a ticket's segment, of these effects, which left these transactions
abbrev pub opening_by : Ticket → List Effect → (left : List TxName) → spec.Opening → spec.Opening
opening_by t effects left o =
    record o { number = t.number; nonce = t.nonce; script = t.start; effects = effects; left = left; evicted = [] }

-- an extension as that of a ticket's segment which answered this page of this instance, of these effects, which left these transactions
abbrev pub extension_by : Ticket → (instance answered : ℕ) → List Effect → (left : List TxName) → spec.Extension → spec.Extension
extension_by t instance answered effects left x = record x {
  number = t.number;
  nonce = t.nonce;
  instance = instance;
  page = answered;
  answer = meaning t.answer;
  effects = effects;
  left = left;
}

-- the instance that a ticket's start begins, with the page of this opening inside these transactions
abbrev pub first_instance : List Named → Ticket → spec.Opening → (inside : List TxName) → spec.Instance
first_instance all t o inside = record (begun_at all t.script t.cells t.number o.effects o.left) {
  used = record { page = t.number; last = t.number } ∷ [];
  pages = root_by o inside ∷ [];
}

-- the ending by a ticket's segment
abbrev pub ending_by : Ticket → (instance answered : ℕ) → List Effect → List TxName → spec.Ending
ending_by t instance answered effects left = record {
  number = t.number;
  instance = instance;
  page = answered;
  answer = meaning t.answer;
  effects = effects;
  left = left;
}

-- the finish by a ticket's segment
abbrev pub finish_by : Ticket → (instance answered : ℕ) → List Effect → spec.Finish
finish_by t instance answered effects = record {
  number = t.number;
  instance = instance;
  page = answered;
  answer = meaning t.answer;
  effects = effects;
}

-- the change is an opening, and the instance that it begins is this one under each list of scripts
abbrev pub OpensWith : Option Change → (List Named → spec.Instance) → Type 0
OpensWith (Some (Opens o)) f = (all : List Named) → begun_with all o ≡ f all
OpensWith _ f = ⊥

-- the change is an extension of this instance, and makes of it what f does
abbrev pub ExtendsBy : Option Change → spec.Instance → (spec.Instance → spec.Instance) → Type 0
ExtendsBy (Some (Extends x)) i f = (x.instance ≡ i.number) × (shown_with x.show (gone_in x) i ≡ f i)
ExtendsBy _ i f = ⊥

-- the change is an ending of this instance, and makes of it what f does
abbrev pub EndsBy : Option Change → spec.Instance → (spec.Instance → spec.Instance) → Type 0
EndsBy (Some (Ends e)) i f =
    (e.record.instance ≡ i.number) × (ended_with e.record.page e.record.ticket e.after i ≡ f i)
EndsBy _ i f = ⊥

-- the number of the ticket is logged, and this was decided
pub record IsLogged (p : Prepared) (t : Ticket) (d : Decision) : Type 0 where
  pub decision : decision_of p ≡ d
  pub logged : p.logged ≡ t.number + 1

-- what is prepared is this opening by a start that showed this page, inside these transactions
pub record IsOpening (p : Prepared) (t : Ticket) (bytes : List ℕ) (o : spec.Opening) (inside : List TxName) : Type 0 where
  pub recorded : IsLogged p t (records (shown bytes t.url) (spec.opens o) inside)
  pub change : OpensWith p.change (λ all. first_instance all t o inside)

-- what is prepared is this extension of the instance by an answer that showed this page, inside these transactions
pub record IsExtension (p : Prepared) (t : Ticket) (i : spec.Instance) (bytes : List ℕ) (x : spec.Extension) (inside : List TxName) : Type 0 where
  pub recorded : IsLogged p t (records (shown bytes t.url) (spec.extends x) inside)
  pub change : ExtendsBy p.change i (extended_by x inside)

-- what is prepared is the ending of the instance by an answer with this page, and makes of the instance what f does
pub record IsEnding (p : Prepared) (t : Ticket) (i : spec.Instance) (answered : ℕ) (bytes : List ℕ) (effects : List Effect) (inside left : List TxName) (f : spec.Instance → spec.Instance) : Type 0 where
  pub recorded : IsLogged p t (records (ended bytes) (spec.ends (ending_by t i.number answered effects left)) inside)
  pub change : EndsBy p.change i f

-- what is prepared is the finish by an answer that freed the instance with this page
abbrev pub IsFinish : Prepared → Ticket → (instance answered : ℕ) → (bytes : List ℕ) → List Effect → (inside : List TxName) → Type 0
IsFinish p t instance answered bytes effects inside =
    IsLogged p t (records (finished bytes) (spec.finishes (finish_by t instance answered effects)) inside)

-- what is prepared for a start that is admitted
abbrev pub StartsOn : Book → Ticket → Segment → (instances life : ℕ) → Result Prepared Reply → Type 0
StartsOn book t s instances life result =
    (library : Library) (beside : Beside) (fuel pages k : ℕ) (named : Named)
    → let b = book_of library beside book in FitsStart library.all b t k named
    → let rules = rules_with fuel life instances pages in
    Prepares library rules b (settles rules b [] (start_visit b (ticket_of t) k named) s) result

-- what is prepared for an answer to a page that is admitted
abbrev pub AnswersOn : Book → Ticket → PageName → Segment → (pages life : ℕ) → Result Prepared Reply → Type 0
AnswersOn book t n s pages life result =
    (library : Library) (beside : Beside) (fuel instances : ℕ) (at : Place)
    → let b = book_of library beside book in instance_at n.instance b.instances ≡ Some at.instance → at.page.number ≡ n.page
    → IsFor library.all t (page_visit b (ticket_of t) at)
    → let rules = rules_with fuel life instances pages in
    Prepares library rules b (settles rules b (gone_for rules (ticket_of t) at) (page_visit b (ticket_of t) at) s) result

-- what is prepared for an answer to a page that is admitted, with what the program's segment came to
abbrev pub AnswersBy : Book → Ticket → PageName → stored.Segment → (pages life : ℕ) → Result Prepared Reply → Type 0
AnswersBy book t n r pages life result = AnswersOn book t n (segment_of r) pages life result

-- no page of the instance of this number has that number, where there is such an instance
abbrev pub IsNewIn : Book → (instance number : ℕ) → Type 0
IsNewIn b n m = IfSome (pages_at n b) (λ ps. spec.page_at m ps ≡ None)

-- the number of an answer's ticket is new in the instance whose page it answers
abbrev pub IsNewBy : Book → Ticket → Destination → Type 0
IsNewBy b t (start name) = ⊤
IsNewBy b t (page name n) = IsNewIn b n.instance t.number

-- the number of the ticket, where it is for an answer, is new in the instance whose page it answers
abbrev pub IsNew : Book → Ticket → Type 0
IsNew b t = IsNewBy b t (target_of t.target)

-- the effects are on the cells of the instance of this number, if there is one
abbrev pub IsOnCells : Book → (instance : ℕ) → List Effect → Type 0
IsOnCells b n effects = IfSome (cells_at n b) (λ cells. AreOn (length cells) effects)

-- the effects are on the cells of a start's ticket, or of the instance whose page is answered
abbrev pub AreOnBy : Book → Ticket → Destination → List Effect → Type 0
AreOnBy b t (start name) effects = AreOn (length t.cells) effects
AreOnBy b t (page name n) effects = IsOnCells b n.instance effects

-- the effects are on the cells of the ticket, where it is for a start, or of the instance whose page it answers
abbrev pub AreOnCells : Book → Ticket → List Effect → Type 0
AreOnCells b t effects = AreOnBy b t (target_of t.target) effects

-- the decision on a visit whose new segment came to this
abbrev pub settled : Rules → spec.Book → Ticket → Admission → Segment → Decision
settled rules b t (begins k named) s = settles rules b [] (start_visit b (ticket_of t) k named) s
settled rules b t (resumes at) s = settles rules b (gone_for rules (ticket_of t) at) (page_visit b (ticket_of t) at) s
settled rules b t (refused r) s = replies (refusal r)

-- what is prepared, where the target is admitted and the ticket is for the visit
abbrev pub IsPrepared : Book → Ticket → Segment → (instances pages life : ℕ) → Result Prepared Reply → Type 0
IsPrepared book t s instances pages life result =
    (library : Library) (beside : Beside) (fuel : ℕ) (a : Admission)
    → let b = book_of library beside book in admit b (target_of t.target) ≡ a → refusal_of a ≡ None → FitsAs library.all b t a
    → let rules = rules_with fuel life instances pages in Prepares library rules b (settled rules b t a s) result

-- what is prepared with what the program's segment came to, where the target is admitted and the ticket is for the visit
abbrev pub IsPreparedBy : Book → Ticket → stored.Segment → (instances pages life : ℕ) → Result Prepared Reply → Type 0
IsPreparedBy book t r instances pages life result = IsPrepared book t (segment_of r) instances pages life result

-- this is kept of the state of a ticket's page: as many links from one kept by itself as the ticket says, after that from which it goes on
abbrev pub IsKeptOfTicket : Ticket → Suspended → Numbered KeptPage → Type 0
IsKeptOfTicket t d p = IsKeptFrom (origin_of t.from) t.links d (kept_at p)

-- a start's instance begins with its page alone: this is the page of the ticket, after what its segment did, and has this state
pub record OpensAs (t : Ticket) (effects : List Effect) (inside : List TxName) (d : Suspended) (o : Opening) : Type 0 where
  pub script : o.instance.script ≡ t.script
  pub pages : pages_of o.instance.pages ≡ []
  pub shown : shown_in o.instance.pages ≡ []
  pub page : page_of o.page ≡ first_page t effects inside (page_of o.page)
  pub state : IsKeptFrom None 0 d (kept_at o.page)
  pub told : suspended_of o.state ≡ d

-- an answer's page follows the one that was answered: it is the page of the ticket, after what its segment did, and has this state
pub record ExtendsAs (t : Ticket) (number answered : ℕ) (effects : List Effect) (inside : List TxName) (d : Suspended) (x : Extension) : Type 0 where
  pub instance : x.instance ≡ number
  pub page : page_of x.show.page ≡ next_page t answered effects inside (page_of x.show.page)
  pub state : IsKeptOfTicket t d x.show.page
  pub told : suspended_of x.state ≡ d

-- the change is the opening of a start, and its page has this state
abbrev pub OpensTo : Ticket → List Effect → (inside : List TxName) → Suspended → Option Change → Type 0
OpensTo t effects inside d (Some (Opens o)) = OpensAs t effects inside d o
OpensTo t effects inside d _ = ⊥

-- the change is the extension by an answer to this page, and its new page has this state
abbrev pub ExtendsTo : Ticket → (instance answered : ℕ) → List Effect → (inside : List TxName) → Suspended → Option Change → Type 0
ExtendsTo t instance answered effects inside d (Some (Extends x)) = ExtendsAs t instance answered effects inside d x
ExtendsTo t instance answered effects inside d _ = ⊥

-- the change is the opening of a start, and its page has the state of the segment
abbrev pub OpensFrom : Ticket → stored.Segment → Option Change → Type 0
OpensFrom t r c =
    (d : Suspended) × ((state_of r.outcome ≡ Some d) × OpensTo t (segment_of r).effects r.entered.items d c)

-- the change is the extension by an answer to this page, and its new page has the state of the segment
abbrev pub ExtendsFrom : Ticket → stored.Segment → (instance answered : ℕ) → Option Change → Type 0
ExtendsFrom t r instance answered c =
    (d : Suspended) × ((state_of r.outcome ≡ Some d) × ExtendsTo t instance answered (segment_of r).effects r.entered.items d c)

-- the change, if there is one, shows no page
abbrev pub ShowsNone : Option Change → Type 0
ShowsNone (Some (Opens o)) = ⊥
ShowsNone (Some (Extends x)) = ⊥
ShowsNone _ = ⊤

-- the change shows no page, or it is the opening of a start, and its page has the state of the segment
abbrev pub StartKeepsState : Ticket → stored.Segment → Option Change → Type 0
StartKeepsState t r c = ShowsNone c ⊎ OpensFrom t r c

-- the change shows no page, or it is the extension by an answer to this page, and its new page has the state of the segment
abbrev pub AnswerKeepsState : Ticket → stored.Segment → (instance answered : ℕ) → Option Change → Type 0
AnswerKeepsState t r instance answered c = ShowsNone c ⊎ ExtendsFrom t r instance answered c

-- what is prepared for an answer to the page of this name shows no page, or one that has the state of the segment
abbrev pub KeepsAnswerState : Ticket → stored.Segment → PageName → Prepared → Type 0
KeepsAnswerState t r n p = AnswerKeepsState t r n.instance n.page p.change

-- the new page of a visit of this destination, if there is one, has the state of the ticket's segment
abbrev pub KeepsStateOf : Ticket → stored.Segment → Destination → Option Change → Type 0
KeepsStateOf t r (start name) c = StartKeepsState t r c
KeepsStateOf t r (page name n) c = AnswerKeepsState t r n.instance n.page c

-- the new page of a ticket, if there is one, has the state of its segment
abbrev pub KeepsItsState : Ticket → stored.Segment → Option Change → Type 0
KeepsItsState t r c = KeepsStateOf t r (target_of t.target) c

-- ---- whatever the ticket is for

-- the change is the opening of a ticket's segment
abbrev pub IsStartBy : Ticket → Segment → spec.Change → Type 0
IsStartBy t s (spec.opens o) = o ≡ opening_by t s.effects s.left o
IsStartBy t s _ = ⊥

-- the change is that of a ticket's segment which answered this page of this instance
abbrev pub IsAnswerBy : Ticket → Segment → (instance answered : ℕ) → spec.Change → Type 0
IsAnswerBy t s n m (spec.extends x) = x ≡ extension_by t n m s.effects s.left x
IsAnswerBy t s n m (spec.ends e) = e ≡ ending_by t n m s.effects s.left
IsAnswerBy t s n m (spec.finishes f) = f ≡ finish_by t n m s.effects
IsAnswerBy t s n m _ = ⊥

-- the change is that of a ticket's segment: of a start, or of an answer to the page of this destination
abbrev pub IsChangeBy : Ticket → Segment → Destination → spec.Change → Type 0
IsChangeBy t s (start name) c = IsStartBy t s c
IsChangeBy t s (page name n) c = IsAnswerBy t s n.instance n.page c

-- the change, if there is one, is that of a ticket's segment, and its page is inside the transactions in which the segment stopped
abbrev pub IsDecisionBy : Ticket → Segment → Destination → Decision → Type 0
IsDecisionBy t s d (replies r) = ⊤
IsDecisionBy t s d (compacts r) = ⊥
IsDecisionBy t s d (records r c inside) = IsChangeBy t s d c × (inside ≡ s.entered)

-- the ticket's script stands at its places in the present setup and among all, and the ticket has the cells that it begins with
pub record BeginsWithIts (library : Library) (t : Ticket) : Type 0 where
  pub named : Named
  pub told : slice_get library.all t.script ≡ Some named
  pub present : slice_get library.setup t.start ≡ Some named
  pub cells : t.cells ≡ named.script.cells

-- what a start asks of the library: the ticket's script stands there
abbrev pub HasItsScript : Library → Ticket → Destination → Type 0
HasItsScript library t (start name) = BeginsWithIts library t
HasItsScript library t (page name n) = ⊤

-- what is prepared carries out what it decides
abbrev pub CarriesItself : Book → Ticket → Destination → Prepared → Type 0
CarriesItself book t d p =
    (library : Library) (beside : Beside) → HasItsScript library t d
    → IsCarriedOut library (rules_with 0 0 0 0) (book_of library beside book) (decision_of p) p

-- a change is answered with the page that its segment came to
abbrev pub AnswersWithPage : Decision → Type 0
AnswersWithPage (replies r) = ⊤
AnswersWithPage (compacts r) = ⊥
AnswersWithPage (records (shown bytes url) c inside) = ⊤
AnswersWithPage (records (finished bytes) c inside) = ⊤
AnswersWithPage (records (ended bytes) c inside) = ⊤
AnswersWithPage (records r c inside) = ⊥

-- What is prepared for a ticket is a change of its segment, or none, and carries itself out.
pub record IsOfSegment (book : Book) (t : Ticket) (s : Segment) (d : Destination) (p : Prepared) : Type 0 where
  pub decision : IsDecisionBy t s d (decision_of p)
  pub reply : AnswersWithPage (decision_of p)
  pub lands : CarriesItself book t d p

-- what is prepared for a start, whatever its script's name, is a change of its segment, or none, and carries itself out
abbrev pub IsOfStart : Book → Ticket → stored.Segment → Result Prepared Reply → Type 0
IsOfStart book t r result = (name : List ℕ) → IfOk result (IsOfSegment book t (segment_of r) (start name))

-- what is prepared for an answer to this page is a change of its segment, or none, and carries itself out
abbrev pub IsOfAnswer : Book → Ticket → stored.Segment → PageName → Result Prepared Reply → Type 0
IsOfAnswer book t r n result = (name : List ℕ) → IfOk result (IsOfSegment book t (segment_of r) (page name n))

-- what is prepared for what the ticket is for is a change of its segment, or none, and carries itself out
abbrev pub IsOfItsSegment : Book → Ticket → stored.Segment → Prepared → Type 0
IsOfItsSegment book t r p = IsOfSegment book t (segment_of r) (target_of t.target) p
