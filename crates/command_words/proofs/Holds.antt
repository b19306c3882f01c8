-- Words that clap takes hold each value that their command needs, in its range.
use Rattle.std.proofs.Common.{◌≡◌, ◌∙◌, ◌<◌, ◌≤◌, ◌⊎◌, ◌||◌, inl, inr, length, ℕ, Bool, cond, true, false, sym, ap, subst, List, [], ◌∷◌, drop, Option, Some, None, is_some, option_map, refl, codes}
use Rattle.std.specs.Prelude.{option_and_then, slice_get}
use Rattle.std.specs.List.{AllByRecursion as Each, find, fold}
use Rattle.std.specs.Option.{option_map_or}
use Rattle.std.specs.Str.{bytes_eq}
use Rattle.std.proofs.lemmas.Slice.Eq.{bytes_eq-Decides}
use Rattle.clap.specs.Facts.{parser_of_value}
use Rattle.clap.specs.Faults.{check_fault, entered_fault, fault_of, level_fault, settle_fault, defaults_fault, values_fault, walk_fault}
use Rattle.clap.specs.Kinds.{value_kinds}
use Rattle.clap.specs.Takes.{is_given}
use Rattle.clap.specs.Simple.{Shape, built, entered, label_of, names_of, rows_at, subcommand_of}
use Rattle.clap.specs.Values.{Accepts, read_as, refused_kind}
use Rattle.clap.specs.ValueTests.{accepts}
use Rattle.clap.specs.Walk.{Row, Rule, Text, answers_to, arg_by_id, finished, first_of, nothing_held, one_of, reading_by, row_text, rows_after, settled, walk, walk_from, with_default}
use Rattle.clap.specs.declared.builder.value_parser.Reading.{Reading}
use Rattle.clap.specs.declared.builder.value_parser.Reading.TheVariants.{AsWritten}
use Rattle.clap.specs.declared.builder.value_parser.ValueParser.{ValueParser}
use Rattle.clap.specs.declared.builder.value_parser.ValueParser.TheVariants as vp
use Rattle.clap.specs.declared.error.kind.ErrorKind.TheVariants.{MissingRequiredArgument}
use Rattle.clap.proofs.OnLiterals.{clap_on_literals}
use Rattle.clap.proofs.ValueTestLemmas.{accepts-Accepts}
use Rattle.command_words.specs.App.{app, audit_shape, check_shape, export_shape, follow_shape, load_shape, play_shape, promote_shape, serve_shape}
use Rattle.server_limits.specs.Limits.{most_connections, most_fuel, most_instances, most_life, most_pages, most_shelves, most_requests}
use Rattle.server_limits.specs.Counts.{most_workers}
use Rattle.command_words.specs.Options.{Item, Kind, shelves_items, bare, directory, feed_items, flag, last_shelf, load_items, most_run, number, play_items, serve_items}
use Rattle.command_words.specs.Plain.{AreInRange, CanFeed, HasShelves, CanLoad, CanServe, IsInRange}
use Rattle.command_words.specs.Reads.{Holds, HoldsAs, HoldsAsked, HoldsFlag, HoldsFor, HoldsNumber, HoldsText, asked_as, asked_from, feed_at, shelves_at, for_audit, for_check, for_export, for_follow, for_load, for_play, for_promote, for_serve, load_at, number_at, options_at, service_at, text_at}
use Rattle.command_words.specs.declared.Command.{Command}
use Rattle.command_words.specs.declared.Command.TheVariants.{Audit, Check, Export, Follow, Load, Play, Promote, Serve}
use Rattle.command_words.proofs.Found.{HasDefault}
use Rattle.command_words.proofs.Rows.{filled_in, find_row, has_of, kept}
use Rattle.command_words.proofs.Sound.{AllKnown, Level, Sound, find_all, good_row, level_sound, neither, sets_flag, sets_value, shows_help}
use Rattle.command_words.proofs.Tables.{IsIn, audit_in, built_sub, export_in, follow_in, has_default, load_in, load_rules, play_in, promote_in, serve_in}
use Rattle.command_words.proofs.Uses.{Fits, built_rule, value_fault}

-- ---- one value

same_some : {X : Type 0} (o : Option X) (a b : X) → o ≡ Some a → o ≡ Some b → a ≡ b
same_some o a b e f = cc

-- the value that the rows hold for the rule a
record Value (a : Rule) (rows : List Row) (id : Text) : Type 0 where
  text : Text
  one : one_of id rows ≡ Some text
  first : first_of id rows ≡ Some text
  passes : value_fault a text ≡ []

value_of : (c : List Rule) (a : Rule) (rows : List Row) (id : Text) (r : Row) → Sound c rows → find_row id rows ≡ Some r → arg_by_id c id ≡ Some a → reading_by a ≡ AsWritten → Value a rows id
value_of c a rows id r sound e by_id reading =
    let found = good_row c rows id r sound e in
    let good = found.0 in
    let id_is : r.id ≡ id = (bytes_eq-Decides r.id id).0 found.1 in
    let rule_is : good.rule ≡ a = same_some (arg_by_id c id) good.rule a (ap (arg_by_id c) (sym id_is) ∙ good.is) by_id in
    let how : r.reading ≡ AsWritten = good.reading ∙ ap reading_by rule_is ∙ reading in
    let values : r.values ≡ good.some.0 ∷ good.some.1 = good.some.2 in
    let first : slice_get r.values 0 ≡ Some good.some.0 = ap (λ (l : List Text). slice_get l 0) values in
    let passes : values_fault a (good.some.0 ∷ good.some.1) ≡ [] =
    subst (λ (x : Rule). values_fault x (good.some.0 ∷ good.some.1) ≡ []) rule_is (subst (λ (l : List Text). values_fault good.rule l ≡ []) values good.passes) in
    record {
      text = good.some.0;
      one = ap (option_and_then row_text) e ∙ ap (λ (h : Reading). option_map (read_as h) (slice_get r.values 0)) how ∙ ap (option_map (read_as AsWritten)) first;
      first = ap (option_and_then (λ (x : Row). slice_get x.values 0)) e ∙ first;
      passes = (neither (value_fault a good.some.0) _ passes).0;
    }

accepted : (b : Bool) (p : ValueParser) (text : Text) → value_kinds b p text ≡ [] → accepts b p text ≡ true
accepted b p text e = go (accepts b p text) e
  where
    go : (x : Bool) → cond x [] (refused_kind p ∷ []) ≡ [] → x ≡ true
    go true e = refl
    go false e = cc

accepted_by : (a : Rule) (p : ValueParser) (text : Text) → parser_of_value a.parser ≡ p → value_fault a text ≡ [] → Accepts a.ignore_case p text
accepted_by a p text is fine = accepts-Accepts a.ignore_case p text (accepted a.ignore_case p text (ap (λ (q : ValueParser). value_kinds a.ignore_case q text) (sym is) ∙ fine))

number_in : (a : Rule) (rows : List Row) (id : Text) (low high : ℕ) → parser_of_value a.parser ≡ vp.Unsigned low high → Value a rows id → HoldsNumber low high rows id
number_in a rows id low high is v = (v.text, v.one, accepted_by a (vp.Unsigned low high) v.text is v.passes)

-- a text that a flag's parser takes is one of two
flag_text : (text : Text) (b c : Bool) → bytes_eq text (codes "true") ≡ b → bytes_eq text (codes "false") ≡ c → (b || c) ≡ true
    → (text ≡ codes "true") ⊎ (text ≡ codes "false")
flag_text text true c e f either = inl ((bytes_eq-Decides text (codes "true")).0 e)
flag_text text false true e f either = inr ((bytes_eq-Decides text (codes "false")).0 f)
flag_text text false false e f either = cc

flag_in : (a : Rule) (rows : List Row) (id : Text) → parser_of_value a.parser ≡ vp.Bool → Value a rows id → HoldsFlag rows id
flag_in a rows id is v = elim (flag_text v.text _ _ refl refl (accepted_by a vp.Bool v.text is v.passes)) [
  | inl set ↦ inl (v.one ∙ ap (λ t. Some t) set)
  | inr unset ↦ inr (v.one ∙ ap (λ t. Some t) unset)
]

-- ---- an option with a default has a row

default_row : (c : List Rule) (before : List Row) (i : Item) (text : Text) → HasDefault c i text → (r : Row) × (find_row i.name (fold with_default before c) ≡ Some r)
default_row c before i text d = go (find_row i.name before) refl
  where
    go : (o : Option Row) → find_row i.name before ≡ o → (r : Row) × (find_row i.name (fold with_default before c) ≡ Some r)
    go None e = (_, filled_in c i.name before (built_rule i) text [] e (ap (λ n. bytes_eq n i.name) d.named.id ∙ d.own) (has_of (built_rule i).id before ∙ ap (λ n. is_some (find_row n before)) d.named.id ∙ ap is_some e) d.by_id d.defaults)
    go (Some r) e = (r, kept c i.name before r e)

-- the rows have a value for each option of the table, where those without a default are given
value_in : (s : Shape) (table : List Item) (words : List Text) (i : Item) → Level s words → IsIn s.rules table i
    → (i.default ≡ None → is_some (find_row i.name (rows_after s.rules [] words)) ≡ true) → Value (built_rule i) (rows_after s.rules [] words) i.name
value_in s table words i l in_table there = by_row (row_of i.default refl)
  where
    by_row : (r : Row) × (find_row i.name (rows_after s.rules [] words) ≡ Some r) → Value (built_rule i) (rows_after s.rules [] words) i.name
    by_row row = value_of s.rules (built_rule i) (rows_after s.rules [] words) i.name row.0 l.sound row.1 in_table.by_id in_table.named.reading

    some_row : (o : Option Row) → is_some o ≡ true → (r : Row) × (o ≡ Some r)
    some_row None e = cc
    some_row (Some r) e = (r, refl)

    row_of : (o : Option Text) → i.default ≡ o → (r : Row) × (find_row i.name (rows_after s.rules [] words) ≡ Some r)
    row_of None e = some_row (find_row i.name (rows_after s.rules [] words)) (there e)
    row_of (Some text) e =
        let row = default_row s.rules l.before i text (has_default s.rules table i text in_table e) in
        (row.0, ap (find_row i.name) l.filled ∙ row.1)

holds_as : (kind : Kind) (c : List Rule) (a : Rule) (rows : List Row) (id : Text) → Fits c kind id a → Value a rows id → HoldsAs kind rows id
holds_as (number low high) c a rows id fits v = number_in a rows id low high fits.1 v
holds_as (bare low high) c a rows id fits v = number_in a rows id low high fits.1 v
holds_as directory c a rows id fits v = (v.text, v.first, accepted_by a vp.NonEmptyString v.text fits.1 v.passes)
holds_as flag c a rows id fits v = flag_in a rows id fits.3 v

holds_each : (s : Shape) (whole table : List Item) (words : List Text) → Level s words → Each (IsIn s.rules whole) table
    → Each (λ i. i.default ≡ None → is_some (find_row i.name (rows_after s.rules [] words)) ≡ true) table → Holds table (rows_after s.rules [] words)
holds_each s whole [] words l all there = tt
holds_each s whole (i ∷ table) words l all there = (
  holds_as i.kind s.rules (built_rule i) (rows_after s.rules [] words) i.name all.0.fits (value_in s whole words i l all.0 there.0),
  holds_each s whole table words l all.1 there.1,
)

play_known : AllKnown (built_sub play_shape).rules
unfolding clap_on_literals
play_known = (record { does = sets_value refl refl; by_id = refl }, (record { does = sets_value refl refl; by_id = refl }, (record { does = sets_value refl refl; by_id = refl }, (record { does = sets_value refl refl; by_id = refl }, (record { does = sets_value refl refl; by_id = refl }, (record { does = sets_value refl refl; by_id = refl }, (record { does = shows_help refl; by_id = refl }, tt)))))))

play_holds : (words : List Text) → level_fault (built_sub play_shape) [] nothing_held words false [] ≡ [] → HoldsFor (codes "play") (rows_after (built_sub play_shape).rules [] words)
play_holds words fine =
    for_play refl
    (holds_each (built_sub play_shape) play_items play_items words (level_sound (built_sub play_shape) words refl play_known fine) play_in
    (λ e. cc, (λ e. cc, (λ e. cc, (λ e. cc, (λ e. cc, (λ e. cc, tt)))))))

-- ---- `serve`

serve_known : AllKnown (built_sub serve_shape).rules
unfolding clap_on_literals
serve_known = (record { does = sets_value refl refl; by_id = refl }, (record { does = sets_value refl refl; by_id = refl }, (record { does = sets_value refl refl; by_id = refl }, (record { does = sets_value refl refl; by_id = refl }, (record { does = sets_value refl refl; by_id = refl }, (record { does = sets_value refl refl; by_id = refl }, (record { does = sets_value refl refl; by_id = refl }, (record { does = sets_value refl refl; by_id = refl }, (record { does = sets_value refl refl; by_id = refl }, (record { does = sets_value refl refl; by_id = refl }, (record { does = sets_flag refl (_, _, refl); by_id = refl }, (record { does = shows_help refl; by_id = refl }, tt))))))))))))

no_port : (rows : List Row) → is_given (codes "port") rows ≡ false → check_fault (built_sub serve_shape) rows false ≡ MissingRequiredArgument ∷ []
unfolding clap_on_literals
no_port rows e = simp e

-- no fault is left only where the port is given
port_given : (rows : List Row) → check_fault (built_sub serve_shape) rows false ≡ [] → is_given (codes "port") rows ≡ true
port_given rows e = go (is_given (codes "port") rows) refl
  where
    go : (b : Bool) → is_given (codes "port") rows ≡ b → b ≡ true
    go true given = refl
    go false given = let missing = no_port rows given in cc

given_row : (p : Row → Bool) (o : Option Row) → option_map_or p o false ≡ true → is_some o ≡ true
given_row p None e = cc
given_row p (Some x) e = refl

port_row : (rows : List Row) → check_fault (built_sub serve_shape) rows false ≡ [] → is_some (find_row (codes "port") rows) ≡ true
unfolding clap_on_literals
port_row rows e = given_row _ (find_row (codes "port") rows) (port_given rows e)

serve_holds : (words : List Text) → level_fault (built_sub serve_shape) [] nothing_held words false [] ≡ [] → HoldsFor (codes "serve") (rows_after (built_sub serve_shape).rules [] words)
serve_holds words fine =
    let l = level_sound (built_sub serve_shape) words refl serve_known fine in
    let port = port_row (rows_after (built_sub serve_shape).rules [] words) l.checked in
    for_serve refl
    (holds_each (built_sub serve_shape) serve_items serve_items words l serve_in
    (λ e. cc, (λ e. cc, (λ e. cc, (λ e. cc, (λ e. cc, (λ e. cc, (λ e. port, (λ e. cc, (λ e. cc, (λ e. cc, (λ e. cc, tt))))))))))))

-- ---- `load`

load_known : AllKnown load_rules
unfolding clap_on_literals
load_known = (record { does = sets_value refl refl; by_id = refl }, (record { does = sets_value refl refl; by_id = refl }, (record { does = sets_value refl refl; by_id = refl }, (record { does = sets_value refl refl; by_id = refl }, (record { does = sets_value refl refl; by_id = refl }, (record { does = sets_value refl refl; by_id = refl }, (record { does = sets_value refl refl; by_id = refl }, (record { does = shows_help refl; by_id = refl }, tt))))))))

no_number : (rows : List Row) → is_given (codes "number") rows ≡ false → check_fault (built_sub load_shape) rows false ≡ MissingRequiredArgument ∷ []
unfolding clap_on_literals
no_number rows e = simp e

-- no fault is left only where the number is given
number_given : (rows : List Row) → check_fault (built_sub load_shape) rows false ≡ [] → is_given (codes "number") rows ≡ true
number_given rows e = go (is_given (codes "number") rows) refl
  where
    go : (b : Bool) → is_given (codes "number") rows ≡ b → b ≡ true
    go true given = refl
    go false given = let missing = no_number rows given in cc

number_row : (rows : List Row) → check_fault (built_sub load_shape) rows false ≡ [] → is_some (find_row (codes "number") rows) ≡ true
unfolding clap_on_literals
number_row rows e = given_row _ (find_row (codes "number") rows) (number_given rows e)

load_holds : (words : List Text) → level_fault (built_sub load_shape) [] nothing_held words false [] ≡ [] → HoldsFor (codes "load") (rows_after load_rules [] words)
load_holds words fine =
    let l = level_sound (built_sub load_shape) words refl load_known fine in
    let given = number_row (rows_after load_rules [] words) l.checked in
    for_load refl
    (holds_each (built_sub load_shape) load_items load_items words l load_in
    (λ e. given, (λ e. cc, (λ e. cc, (λ e. cc, (λ e. cc, (λ e. cc, (λ e. cc, tt))))))))

-- ---- `audit`

audit_known : AllKnown (built_sub audit_shape).rules
unfolding clap_on_literals
audit_known = (record { does = sets_value refl refl; by_id = refl }, (record { does = sets_value refl refl; by_id = refl }, (record { does = shows_help refl; by_id = refl }, tt)))

audit_holds : (words : List Text) → level_fault (built_sub audit_shape) [] nothing_held words false [] ≡ [] → HoldsFor (codes "audit") (rows_after (built_sub audit_shape).rules [] words)
audit_holds words fine =
    for_audit refl
    (holds_each (built_sub audit_shape) shelves_items shelves_items words (level_sound (built_sub audit_shape) words refl audit_known fine) audit_in
    (λ e. cc, (λ e. cc, tt)))

-- ---- `export`

export_known : AllKnown (built_sub export_shape).rules
unfolding clap_on_literals
export_known = (record { does = sets_value refl refl; by_id = refl }, (record { does = sets_value refl refl; by_id = refl }, (record { does = shows_help refl; by_id = refl }, tt)))

export_holds : (words : List Text) → level_fault (built_sub export_shape) [] nothing_held words false [] ≡ [] → HoldsFor (codes "export") (rows_after (built_sub export_shape).rules [] words)
export_holds words fine =
    for_export refl
    (holds_each (built_sub export_shape) feed_items feed_items words (level_sound (built_sub export_shape) words refl export_known fine) export_in
    (λ e. cc, (λ e. cc, tt)))

-- ---- `follow`

follow_known : AllKnown (built_sub follow_shape).rules
unfolding clap_on_literals
follow_known = (record { does = sets_value refl refl; by_id = refl }, (record { does = sets_value refl refl; by_id = refl }, (record { does = shows_help refl; by_id = refl }, tt)))

follow_holds : (words : List Text) → level_fault (built_sub follow_shape) [] nothing_held words false [] ≡ [] → HoldsFor (codes "follow") (rows_after (built_sub follow_shape).rules [] words)
follow_holds words fine =
    for_follow refl
    (holds_each (built_sub follow_shape) feed_items feed_items words (level_sound (built_sub follow_shape) words refl follow_known fine) follow_in
    (λ e. cc, (λ e. cc, tt)))

-- ---- `promote`

promote_known : AllKnown (built_sub promote_shape).rules
unfolding clap_on_literals
promote_known = (record { does = sets_value refl refl; by_id = refl }, (record { does = sets_value refl refl; by_id = refl }, (record { does = shows_help refl; by_id = refl }, tt)))

promote_holds : (words : List Text) → level_fault (built_sub promote_shape) [] nothing_held words false [] ≡ [] → HoldsFor (codes "promote") (rows_after (built_sub promote_shape).rules [] words)
promote_holds words fine =
    for_promote refl
    (holds_each (built_sub promote_shape) shelves_items shelves_items words (level_sound (built_sub promote_shape) words refl promote_known fine) promote_in
    (λ e. cc, (λ e. cc, tt)))

-- ---- the command

data IsSub (s : Shape) : Type 0 where
  sub_check : s ≡ built_sub check_shape → IsSub s
  sub_play : s ≡ built_sub play_shape → IsSub s
  sub_serve : s ≡ built_sub serve_shape → IsSub s
  sub_load : s ≡ built_sub load_shape → IsSub s
  sub_audit : s ≡ built_sub audit_shape → IsSub s
  sub_export : s ≡ built_sub export_shape → IsSub s
  sub_follow : s ≡ built_sub follow_shape → IsSub s
  sub_promote : s ≡ built_sub promote_shape → IsSub s

all_subs : Each IsSub (built app).subs
all_subs = (sub_check refl, (sub_play refl, (sub_serve refl, (sub_load refl, (sub_audit refl, (sub_export refl, (sub_follow refl, (sub_promote refl, tt))))))))

sub_holds : (s : Shape) (words : List Text) → IsSub s → level_fault s [] nothing_held words false [] ≡ [] → HoldsFor s.name (rows_after s.rules [] words)
sub_holds s words (sub_check e) fine = for_check (ap (λ (x : Shape). x.name) e)
sub_holds s words (sub_play e) fine =
    subst (λ (x : Shape). HoldsFor x.name (rows_after x.rules [] words)) (sym e) (play_holds words (subst (λ (x : Shape). level_fault x [] nothing_held words false [] ≡ []) e fine))
sub_holds s words (sub_serve e) fine =
    subst (λ (x : Shape). HoldsFor x.name (rows_after x.rules [] words)) (sym e) (serve_holds words (subst (λ (x : Shape). level_fault x [] nothing_held words false [] ≡ []) e fine))
sub_holds s words (sub_load e) fine =
    subst (λ (x : Shape). HoldsFor x.name (rows_after x.rules [] words)) (sym e) (load_holds words (subst (λ (x : Shape). level_fault x [] nothing_held words false [] ≡ []) e fine))
sub_holds s words (sub_audit e) fine =
    subst (λ (x : Shape). HoldsFor x.name (rows_after x.rules [] words)) (sym e) (audit_holds words (subst (λ (x : Shape). level_fault x [] nothing_held words false [] ≡ []) e fine))
sub_holds s words (sub_export e) fine =
    subst (λ (x : Shape). HoldsFor x.name (rows_after x.rules [] words)) (sym e) (export_holds words (subst (λ (x : Shape). level_fault x [] nothing_held words false [] ≡ []) e fine))
sub_holds s words (sub_follow e) fine =
    subst (λ (x : Shape). HoldsFor x.name (rows_after x.rules [] words)) (sym e) (follow_holds words (subst (λ (x : Shape). level_fault x [] nothing_held words false [] ≡ []) e fine))
sub_holds s words (sub_promote e) fine =
    subst (λ (x : Shape). HoldsFor x.name (rows_after x.rules [] words)) (sym e) (promote_holds words (subst (λ (x : Shape). level_fault x [] nothing_held words false [] ≡ []) e fine))

no_command : (rows : List Row) → check_fault (built app).top rows false ≡ [] → ⊥
unfolding clap_on_literals
no_command rows e = cc

found_holds : (found : Option Shape) (rows : List Row) (words : List Text) → ((s : Shape) → found ≡ Some s → IsSub s) → option_map_or (λ s. level_fault s [] nothing_held words false []) found [] ≡ []
    → check_fault (built app).top rows (is_some (option_map (λ s. rows_at s words) found)) ≡ [] → HoldsAsked (option_map (λ s. rows_at s words) found)
found_holds None rows words is fine checked = no_command rows checked
found_holds (Some s) rows words is fine checked = sub_holds s words (is s refl) fine

entered_holds : (stop : Option (Text × List Text)) (rows : List Row) → entered_fault (built app) stop ≡ [] → check_fault (built app).top rows (is_some (entered (built app) stop)) ≡ [] → HoldsAsked (entered (built app) stop)
entered_holds None rows fine checked = no_command rows checked
entered_holds (Some p) rows fine checked =
    found_holds (find (λ s. answers_to p.0 (label_of s)) (built app).subs) rows p.1 (λ s e. (find_all IsSub (λ (x : Shape). answers_to p.0 (label_of x)) (built app).subs s all_subs e).0) fine checked

pub holds : (words : List Text) → fault_of app words ≡ [] → HoldsAsked (subcommand_of app words)
holds words fine =
    let top = (built app).top in
    let w = walk top.rules (names_of (built app)) nothing_held (drop 1 words) in
    let one = neither (walk_fault top (names_of (built app)) (walk_from nothing_held) (drop 1 words)) _ fine in
    let two = neither (entered_fault (built app) w.stopped) _ one.1 in
    let three = neither (settle_fault top.rules top.args_override_self w.held) _ two.1 in
    let four = neither (defaults_fault (settled top.rules w.held).rows top.rules) _ three.1 in
    entered_holds w.stopped (finished top.rules w.held) two.0 four.1

-- ---- the ranges

number_range : (low high : ℕ) (rows : List Row) (id : Text) → HoldsNumber low high rows id → (low ≤ number_at rows id) × (number_at rows id ≤ high)
number_range low high rows id h = rw h.1 (h.2.2, h.2.3)

text_range : (rows : List Row) (id : Text) → HoldsText rows id → 0 < length (text_at rows id)
text_range rows id h = rw h.1 h.2

options_range : (rows : List Row) → Holds play_items rows → AreInRange (options_at rows)
options_range rows h = record {
  fuel = number_range 1 most_fuel rows (codes "fuel") h.0;
  life = number_range 1 most_life rows (codes "life") h.1.0;
  instances = number_range 1 most_instances rows (codes "instances") h.1.1.0;
  pages = number_range 1 most_pages rows (codes "pages") h.1.1.1.0;
  journal = text_range rows (codes "journal") h.1.1.1.1.0;
  shelves = number_range 1 most_shelves rows (codes "shelves") h.1.1.1.1.1.0;
}

service_range : (rows : List Row) → Holds serve_items rows → CanServe (service_at rows)
service_range rows h = record {
  options = options_range rows (h.0, (h.1.0, (h.1.1.0, (h.1.1.1.0, (h.1.1.1.1.0, (h.1.1.1.1.1.0, tt))))));
  port = (number_range 0 65535 rows (codes "port") h.1.1.1.1.1.1.0).1;
  connections = number_range 1 most_connections rows (codes "connections") h.1.1.1.1.1.1.1.0;
  workers = number_range 1 most_workers rows (codes "workers") h.1.1.1.1.1.1.1.1.0;
  requests = number_range 1 most_requests rows (codes "requests") h.1.1.1.1.1.1.1.1.1.0;
}

load_range : (rows : List Row) → Holds load_items rows → CanLoad (load_at rows)
load_range rows h =
    let number = number_range 1 most_run rows (codes "number") h.0 in
    record { options = options_range rows h.1; low = number.0; high = number.1 }

shelves_range : (rows : List Row) → Holds shelves_items rows → HasShelves (shelves_at rows)
shelves_range rows h = record {
  journal = text_range rows (codes "journal") h.0;
  shelves = number_range 1 most_shelves rows (codes "shelves") h.1.0;
}

feed_range : (rows : List Row) → Holds feed_items rows → CanFeed (feed_at rows)
feed_range rows h = record {
  journal = text_range rows (codes "journal") h.0;
  shelf = (number_range 0 last_shelf rows (codes "shelf") h.1.0).1;
}

for_range : (name : Text) (rows : List Row) (asked : Command) → HoldsFor name rows → asked_as name rows ≡ Some asked → IsInRange asked
for_range name rows asked (for_check is) e = subst IsInRange (same_some (asked_as name rows) Check asked (ap (λ n. asked_as n rows) is) e) tt
for_range name rows asked (for_play is h) e = subst IsInRange (same_some (asked_as name rows) (Play (options_at rows)) asked (ap (λ n. asked_as n rows) is) e) (options_range rows h)
for_range name rows asked (for_serve is h) e = subst IsInRange (same_some (asked_as name rows) (Serve (service_at rows)) asked (ap (λ n. asked_as n rows) is) e) (service_range rows h)
for_range name rows asked (for_load is h) e = subst IsInRange (same_some (asked_as name rows) (Load (load_at rows)) asked (ap (λ n. asked_as n rows) is) e) (load_range rows h)
for_range name rows asked (for_audit is h) e = subst IsInRange (same_some (asked_as name rows) (Audit (shelves_at rows)) asked (ap (λ n. asked_as n rows) is) e) (shelves_range rows h)
for_range name rows asked (for_export is h) e = subst IsInRange (same_some (asked_as name rows) (Export (feed_at rows)) asked (ap (λ n. asked_as n rows) is) e) (feed_range rows h)
for_range name rows asked (for_follow is h) e = subst IsInRange (same_some (asked_as name rows) (Follow (feed_at rows)) asked (ap (λ n. asked_as n rows) is) e) (feed_range rows h)
for_range name rows asked (for_promote is h) e = subst IsInRange (same_some (asked_as name rows) (Promote (shelves_at rows)) asked (ap (λ n. asked_as n rows) is) e) (shelves_range rows h)

in_range : (o : Option (Text × List Row)) (asked : Command) → HoldsAsked o → asked_from o ≡ Some asked → IsInRange asked
in_range None asked held e = absurd held
in_range (Some p) asked held e = for_range p.0 p.1 asked held e

pub ranges : (words : List Text) (asked : Command) → HoldsAsked (subcommand_of app words) → asked_from (subcommand_of app words) ≡ Some asked → IsInRange asked
ranges words asked held e = in_range (subcommand_of app words) asked held e

pub same_asked : (o : Option Command) (a b : Command) → o ≡ Some a → o ≡ Some b → a ≡ b
same_asked o a b e f = cc
