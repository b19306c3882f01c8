-- Records of a journal: how each is written, and which can be.
use Rattle.std.specs.Prelude.{◌≡◌, ℕ, Bool, true, false, ◌&&◌, ◌<◌, ◌+◌, ◌^◌, List, [], ◌∷◌, ◌++◌, length, drop, slice_get, min, Option, Some, None, IfSome, if◌then◌else◌, ⊤}
use Rattle.std.specs.List.{list_all, flat_map, AllByRecursion}
use Rattle.script_value.specs.declared.outcome.TxName.{TxName}
use Rattle.instance_cells.specs.Cells.{Effect}
use Rattle.script_nodes.specs.declared.script.SendKind.{SendKind}
use Rattle.script_nodes.specs.Setup.{Named}
pub use Rattle.script_nodes.specs.Setup.{text_of, texts_of}
use Rattle.replay_spec.specs.Book.{Opening, Extension, Ending, Finish, Change, opens, extends, ends, finishes, sweeps}
use Rattle.wire_bytes.specs.Spelling.{u32_bytes, u64_bytes, byte_string}
use Rattle.value_bytes.specs.Spelling.{value_bytes, list_bytes, FitsList}
use Rattle.journal_records.specs.Fields.{numbers_end, deadlines_end, name_bytes, NameFits, effect_bytes, EffectFits, send_byte, script_bytes, ScriptFits, Origin, start, answered, origin_bytes, OriginFits, AnswerFits, is_shallow, is_shallow_effect, IsTyped, IsTypedEffect}

-- What a record says: a journal of this shelf begins, with these names and texts of its scripts; the book changes, by a new page with
-- the bytes of its state, or without one; these are the names and texts of the scripts from here on; the file was compacted, and this
-- number is one more than the greatest in a record before; the shelf follows another one's journal; or it follows no longer.
pub data Record : Type 0 where
  begins : (shelf : ℕ) (scripts : List (List ℕ × List ℕ)) → Record
  changes : Change → (state : Option (List ℕ)) → Record
  renews : (scripts : List (List ℕ × List ℕ)) → Record
  draws : (number : ℕ) → Record
  follows : Record
  promotes : Record

-- what the record of a page that was shown says, a start's or an answer's
pub record Page : Type 0 where
  pub ticket : ℕ
  pub nonce : ℕ
  pub origin : Origin
  pub effects : List Effect
  pub left : List TxName
  pub kind : SendKind
  pub deadline : ℕ
  pub evicted : List ℕ
  pub state : List ℕ

-- the page that is written of an instance's opening, with these bytes as its state
abbrev pub opening_page : Opening → (state : List ℕ) → Page
opening_page o state = record {
  ticket = o.number;
  nonce = o.nonce;
  origin = start o.script;
  effects = o.effects;
  left = o.left;
  kind = o.kind;
  deadline = o.deadline;
  evicted = o.evicted;
  state = state;
}

-- the page that is written where an instance goes on, with these bytes as its state
abbrev pub extension_page : Extension → (state : List ℕ) → Page
extension_page e state = record {
  ticket = e.number;
  nonce = e.nonce;
  origin = answered e.instance e.page e.answer;
  effects = e.effects;
  left = e.left;
  kind = e.kind;
  deadline = e.deadline;
  evicted = e.evicted;
  state = state;
}

-- effects, one after the other, after their count
abbrev pub effects_bytes : List Effect → List ℕ
effects_bytes es = list_bytes effect_bytes es

-- the names of transactions that were left, one after the other, after their count
abbrev pub names_bytes : List TxName → List ℕ
names_bytes ts = list_bytes name_bytes ts

-- a page: its ticket, its nonce, where its segment began, what it did, what it left, how it was sent, its deadline, the pages
-- that went for it, and its state
abbrev pub page_bytes : Page → List ℕ
page_bytes p =
    u64_bytes p.ticket ++ (u64_bytes p.nonce ++ (origin_bytes p.origin
    ++ (effects_bytes p.effects ++ (names_bytes p.left ++ (send_byte p.kind ∷ [] ++ (u64_bytes p.deadline ++ (list_bytes u64_bytes p.evicted ++ byte_string p.state)))))))

-- a number of a page can be written
abbrev pub IsNumber : ℕ → Type 0
IsNumber n = n < numbers_end

-- the time until which a page can be answered can be written
abbrev pub TimeFits : Page → Type 0
TimeFits p = p.deadline < deadlines_end

-- a page can be written
pub record PageFits (p : Page) : Type 0 where
  pub ticket : p.ticket < numbers_end
  pub nonce : p.nonce < 2 ^ 64
  pub origin : OriginFits p.origin
  pub effects : FitsList EffectFits p.effects
  pub left : FitsList NameFits p.left
  pub time : TimeFits p
  pub evicted : FitsList IsNumber p.evicted
  pub state : length p.state < 2 ^ 32

-- a last page that has no name: its ticket, the page that was answered, and with what; what its segment did, and what it left
abbrev pub ending_bytes : Ending → List ℕ
ending_bytes e =
    u64_bytes e.number ++ (u64_bytes e.instance ++ (u64_bytes e.page ++ (value_bytes e.answer ++ (effects_bytes e.effects ++ names_bytes e.left))))

-- an answer with a last page can be written
pub record EndingFits (e : Ending) : Type 0 where
  pub ticket : e.number < numbers_end
  pub answered : AnswerFits e.instance e.page e.answer
  pub effects : FitsList EffectFits e.effects
  pub left : FitsList NameFits e.left

-- a last page with which the instance went: its ticket, the page that was answered, and with what; and what its segment did
abbrev pub finish_bytes : Finish → List ℕ
finish_bytes f =
    u64_bytes f.number ++ (u64_bytes f.instance ++ (u64_bytes f.page ++ (value_bytes f.answer ++ effects_bytes f.effects)))

-- an answer that freed its instance can be written
pub record FinishFits (f : Finish) : Type 0 where
  pub ticket : f.number < numbers_end
  pub answered : AnswerFits f.instance f.page f.answer
  pub effects : FitsList EffectFits f.effects

-- the bytes of a state, if there is one
abbrev pub bytes_in : Option (List ℕ) → List ℕ
bytes_in None = []
bytes_in (Some bytes) = bytes

-- a change, where these are the bytes of its new page's state: a byte for its kind, and its fields
abbrev pub change_bytes : Change → (state : List ℕ) → List ℕ
change_bytes (opens o) state = 2 ∷ page_bytes (opening_page o state)
change_bytes (extends e) state = 2 ∷ page_bytes (extension_page e state)
change_bytes (ends e) state = 3 ∷ ending_bytes e
change_bytes (finishes f) state = 4 ∷ finish_bytes f
change_bytes (sweeps tick) state = 5 ∷ u64_bytes tick

-- a change can be written: each field fits, and just where it shows a page it has a state
abbrev pub ChangeFits : Change → Option (List ℕ) → Type 0
ChangeFits (opens o) (Some state) = PageFits (opening_page o state)
ChangeFits (opens o) None = ⊥
ChangeFits (extends e) (Some state) = PageFits (extension_page e state)
ChangeFits (extends e) None = ⊥
ChangeFits (ends e) None = EndingFits e
ChangeFits (ends e) (Some state) = ⊥
ChangeFits (finishes f) None = FinishFits f
ChangeFits (finishes f) (Some state) = ⊥
ChangeFits (sweeps tick) None = tick < numbers_end
ChangeFits (sweeps tick) (Some state) = ⊥

-- The body of a record: a byte for its kind, and its fields. The first one has the number of the shelf and the scripts; the last two
-- have no fields.
abbrev pub body_of : Record → List ℕ
body_of (begins shelf scripts) = 1 ∷ (u32_bytes shelf ++ list_bytes script_bytes scripts)
body_of (changes c state) = change_bytes c (bytes_in state)
body_of (renews scripts) = 6 ∷ list_bytes script_bytes scripts
body_of (draws number) = 7 ∷ u64_bytes number
body_of follows = 8 ∷ []
body_of promotes = 9 ∷ []

-- a record has a body: each field fits
abbrev pub IsInGrammar : Record → Type 0
IsInGrammar (begins shelf scripts) = (shelf < 2 ^ 32) × FitsList ScriptFits scripts
IsInGrammar (changes c state) = ChangeFits c state
IsInGrammar (renews scripts) = FitsList ScriptFits scripts
IsInGrammar (draws number) = number < numbers_end + 1
IsInGrammar follows = ⊤
IsInGrammar promotes = ⊤

-- the length of a record's body, also where a part is too long for its count; one above 2^63 counts as 2^63
abbrev pub body_length : Record → ℕ
body_length r = min (length (body_of r)) (2 ^ 63)

-- whether the values of a change nest no deeper than one may that is written
abbrev pub are_shallow : Change → Bool
are_shallow (opens o) = list_all is_shallow_effect o.effects
are_shallow (extends x) = is_shallow x.answer && list_all is_shallow_effect x.effects
are_shallow (ends e) = is_shallow e.answer && list_all is_shallow_effect e.effects
are_shallow (finishes f) = is_shallow f.answer && list_all is_shallow_effect f.effects
are_shallow (sweeps tick) = true

-- whether a page that is shown has the bytes of its state
abbrev pub has_state : Change → Option (List ℕ) → Bool
has_state (opens o) None = false
has_state (extends x) None = false
has_state _ state = true

-- the length of a change's record; where a value nests too deep, or the new page's state has no spelling, the record has no body,
-- and counts as 2^63
abbrev pub record_length : Change → (state : Option (List ℕ)) → ℕ
record_length c state = if are_shallow c && has_state c state then body_length (changes c state) else 2 ^ 63

-- what the program's types say of the parts of a change that came of a run
abbrev pub PartsFit : Change → Type 0
PartsFit (opens o) = AllByRecursion IsTypedEffect o.effects × AllByRecursion NameFits o.left
PartsFit (extends x) = IsTyped x.answer × AllByRecursion IsTypedEffect x.effects × AllByRecursion NameFits x.left
PartsFit (ends e) = IsTyped e.answer × AllByRecursion IsTypedEffect e.effects × AllByRecursion NameFits e.left
PartsFit (finishes f) = IsTyped f.answer × AllByRecursion IsTypedEffect f.effects
PartsFit (sweeps tick) = ⊤

-- a fact of the change that a record tells of
abbrev pub IfChanges : Record → (Change → Type 0) → Type 0
IfChanges (begins shelf scripts) P = ⊤
IfChanges (renews scripts) P = ⊤
IfChanges (draws number) P = ⊤
IfChanges follows P = ⊤
IfChanges promotes P = ⊤
IfChanges (changes c state) P = P c

-- a fact of the change that a record tells of, and of the bytes of its state
abbrev pub IfChangesWith : Record → (Change → Option (List ℕ) → Type 0) → Type 0
IfChangesWith (begins shelf scripts) P = ⊤
IfChangesWith (renews scripts) P = ⊤
IfChangesWith (draws number) P = ⊤
IfChangesWith follows P = ⊤
IfChangesWith promotes P = ⊤
IfChangesWith (changes c state) P = P c state

-- this is the length of the record, where it tells of a change
abbrev pub IsRecordLength : Record → ℕ → Type 0
IsRecordLength r n = IfChangesWith r (λ c state. n ≡ record_length c state)

-- where a script stands at this place, this is the length of its name and its text as bytes; one above 2^63 counts as 2^63
abbrev pub IsTextLength : List Named → (place n : ℕ) → Type 0
IsTextLength scripts place n = IfSome (slice_get (texts_of scripts) place) (λ t. n ≡ min (length (script_bytes t)) (2 ^ 63))

-- the names and the texts from a place on can be written
abbrev pub FitFrom : (place : ℕ) → List Named → Type 0
FitFrom place scripts = AllByRecursion ScriptFits (drop place (texts_of scripts))

-- the bytes of the names and the texts of scripts, one after the other
abbrev pub each_text : List Named → List ℕ
each_text scripts = flat_map script_bytes (texts_of scripts)

-- the bytes of the names and the texts of scripts from a place on, one after the other
abbrev pub each_text_from : (place : ℕ) → List Named → List ℕ
each_text_from place scripts = flat_map script_bytes (drop place (texts_of scripts))

-- The name and the text of the script at this place were written: those after it may follow.
abbrev pub WritesPlace : List Named → (place : ℕ) → (old new : List ℕ) → Type 0
WritesPlace scripts place old new = new ++ each_text_from (place + 1) scripts ≡ old ++ each_text_from place scripts

-- the record that a journal of these scripts begins with
abbrev pub begin_of : (shelf : ℕ) → List Named → Record
begin_of shelf scripts = begins shelf (texts_of scripts)

-- how long a journal of its first record alone is: 8 bytes before it, a gate, four bytes of length, the body, and a gate
abbrev pub begun_length : (shelf : ℕ) → List Named → ℕ
begun_length shelf scripts = 14 + length (body_of (begin_of shelf scripts))

-- the record that tells another setup
abbrev pub renewal_of : List Named → Record
renewal_of scripts = renews (texts_of scripts)

-- how long the body of the record is that tells another setup
abbrev pub renewed_length : List Named → ℕ
renewed_length scripts = length (body_of (renewal_of scripts))
