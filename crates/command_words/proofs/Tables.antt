-- The rules of the commands that clap builds, and how they stand to the tables of options.
use Rattle.std.proofs.Common.{◌≡◌, ◌∙◌, ◌<◌, ℕ, Bool, true, false, refl, sym, ap, subst, List, [], ◌∷◌, inl, inr, Option, Some, None, map, codes, unwrap_or, nat_lt, ltb-true, arith}
use Rattle.std.specs.List.{AllByRecursion as Each, list_all}
use Rattle.std.specs.Option.{option_map_or}
use Rattle.std.specs.Prelude.{◌||◌, not}
use Rattle.std.specs.Str.{bytes_eq}
use Rattle.std.specs.Str.Parse.{without_leading_plus}
use Rattle.clap.specs.Facts.{parser_of_value, unwrap_or_range}
use Rattle.clap.specs.Faults.{is_simple_and_free, values_fault}
use Rattle.clap.specs.Kinds.{Kinds}
use Rattle.clap.specs.Lexer.{long_of}
use Rattle.clap.specs.Simple.{Shape, built_leaf, inherited, is_simple, marked_built, with_leaf_noted}
use Rattle.clap.specs.Walk.{Rule, action_of, arg_by_id, arg_by_long, most_values, reading_by}
use Rattle.clap.specs.declared.builder.action.ArgAction.{ArgAction}
use Rattle.clap.specs.declared.builder.action.ArgAction.TheVariants.{Set, SetTrue}
use Rattle.clap.specs.declared.builder.value_parser.Reading.{Reading}
use Rattle.clap.specs.declared.builder.value_parser.Reading.TheVariants.{AsWritten}
use Rattle.clap.specs.declared.builder.value_parser.ValueParser.{ValueParser}
use Rattle.clap.specs.declared.builder.value_parser.ValueParser.TheVariants as vp
use Rattle.clap.proofs.OnLiterals.{clap_on_literals}
use Rattle.command_words.specs.App.{app, audit_shape, export_shape, follow_shape, load_shape, play_shape, promote_shape, serve_shape}
use Rattle.command_words.specs.Options.{IsOneOf, Item, Kind, Text, shelves_items, bare, directory, feed_items, flag, load_items, number, play_items, run_number, serve_items}
use Rattle.command_words.proofs.Uses.{Fits, IsTaken, built_rule, dashed, has_name}
use Rattle.command_words.proofs.Found.{HasDefault, IsNamed}

pub simple : is_simple app ≡ true
unfolding clap_on_literals
simple = refl

pub simple_and_free : is_simple_and_free app ≡ true
unfolding clap_on_literals
simple_and_free = refl

abbrev pub built_sub : Shape → Shape
built_sub s = built_leaf (inherited (with_leaf_noted (marked_built app.top)) s)

-- ---- an option of a table, as clap has it

abbrev pub is_number : Kind → Bool
is_number (number low high) = nat_lt high 18446744073709551616
is_number (bare low high) = nat_lt high 18446744073709551616
is_number _ = false

-- each option of this name in the table takes a number
abbrev pub is_numeric : Text → List Item → Bool
is_numeric name table = list_all (λ i. not (bytes_eq i.name name) || is_number i.kind) table

abbrev missing_by : Kind → List Text → List Text
missing_by flag values = values
missing_by kind values = []

-- what is computed of an option of the table under a command's rules
pub record Facts : Type 0 where
  pub by_name : Bool
  pub longer : Bool
  pub long : Option (Text × Option Text)
  pub by_long : Option Rule
  pub by_id : Option Rule
  pub id : Text
  pub own : Bool
  pub action : ArgAction
  pub least : ℕ
  pub most : ℕ
  pub reading : Reading
  pub parser : ValueParser
  pub missing : List Text
  pub passes : Kinds
  pub bounded : Bool
  pub numeric : Bool
  pub defaults : List Text
  pub unsigned : Text

abbrev pub facts_by : List Rule → List Item → Kind → Item → Facts
facts_by c table kind i = record {
  by_name = has_name kind;
  longer = bytes_eq (dashed i.name) (45 ∷ 45 ∷ []);
  long = long_of (dashed i.name);
  by_long = arg_by_long c i.name;
  by_id = arg_by_id c i.name;
  id = (built_rule i).id;
  own = bytes_eq i.name i.name;
  action = action_of (built_rule i);
  least = (unwrap_or_range (built_rule i).range).start_inclusive;
  most = most_values (built_rule i);
  reading = reading_by (built_rule i);
  parser = parser_of_value (built_rule i).parser;
  missing = missing_by kind (built_rule i).missing;
  passes = values_fault (built_rule i) (missing_by kind (built_rule i).missing);
  bounded = is_number kind;
  numeric = is_numeric i.name table;
  defaults = (built_rule i).defaults;
  unsigned = without_leading_plus (unwrap_or i.default []);
}

abbrev pub facts : List Rule → List Item → Item → Facts
facts c table i = facts_by c table i.kind i

-- and what it has to be, for an option that does this, this often
abbrev standing : ArgAction → ℕ → ValueParser → List Text → Bool → Item → Facts
standing action uses parser missing numbers i = record {
  by_name = true;
  longer = false;
  long = Some (i.name, None);
  by_long = Some (built_rule i);
  by_id = Some (built_rule i);
  id = i.name;
  own = true;
  action = action;
  least = uses;
  most = uses;
  reading = AsWritten;
  parser = parser;
  missing = missing;
  passes = [];
  bounded = numbers;
  numeric = numbers;
  defaults = option_map_or (λ text. text ∷ []) i.default [];
  unsigned = unwrap_or i.default [];
}

abbrev wanted_by : Kind → Item → Facts
wanted_by (number low high) i = standing Set 1 (vp.Unsigned low high) [] true i
wanted_by (bare low high) i = standing Set 1 (vp.Unsigned low high) [] true i
wanted_by directory i = standing Set 1 vp.NonEmptyString [] false i
wanted_by flag i = standing SetTrue 0 vp.Bool (codes "true" ∷ []) false i

abbrev wanted : Item → Facts
wanted i = wanted_by i.kind i

-- an option of this kind stands so in the table
pub record StandsAs (c : List Rule) (table : List Item) (kind : Kind) (i : Item) : Type 0 where
  pub fits : Fits c kind i.name (built_rule i)
  pub named : IsNamed i
  pub by_id : arg_by_id c i.name ≡ Some (built_rule i)
  pub own : bytes_eq i.name i.name ≡ true
  pub defaults : (built_rule i).defaults ≡ option_map_or (λ text. text ∷ []) i.default []
  pub numeric : is_numeric i.name table ≡ is_number kind
  pub unsigned : without_leading_plus (unwrap_or i.default []) ≡ unwrap_or i.default []

abbrev pub IsIn : List Rule → List Item → Item → Type 0
IsIn c table i = StandsAs c table i.kind i

taken : (c : List Rule) (table : List Item) (kind : Kind) (i : Item) (action : ArgAction) (uses : ℕ) (p : ValueParser) (missing : List Text) (numbers : Bool)
    → facts_by c table kind i ≡ standing action uses p missing numbers i → IsTaken c i.name (built_rule i) action uses
taken c table kind i action uses p missing numbers e = record {
  longer = ap (λ (x : Facts). x.longer) e;
  long = ap (λ (x : Facts). x.long) e;
  by_long = ap (λ (x : Facts). x.by_long) e;
  by_id = ap (λ (x : Facts). x.by_id) e;
  id = ap (λ (x : Facts). x.id) e;
  own = ap (λ (x : Facts). x.own) e;
  action = ap (λ (x : Facts). x.action) e;
  least = ap (λ (x : Facts). x.least) e;
  most = ap (λ (x : Facts). x.most) e;
}

stands : (c : List Rule) (table : List Item) (kind : Kind) (i : Item) (action : ArgAction) (uses : ℕ) (p : ValueParser) (missing : List Text) (numbers : Bool)
    → facts_by c table kind i ≡ standing action uses p missing numbers i → Fits c kind i.name (built_rule i) → StandsAs c table kind i
stands c table kind i action uses p missing numbers e fits = record {
  fits = fits;
  named = record { id = ap (λ (x : Facts). x.id) e; reading = ap (λ (x : Facts). x.reading) e };
  by_id = ap (λ (x : Facts). x.by_id) e;
  own = ap (λ (x : Facts). x.own) e;
  defaults = ap (λ (x : Facts). x.defaults) e;
  numeric = ap (λ (x : Facts). x.numeric) e ∙ sym (ap (λ (x : Facts). x.bounded) e);
  unsigned = ap (λ (x : Facts). x.unsigned) e;
}

stands_as : (c : List Rule) (table : List Item) (kind : Kind) (i : Item) → facts_by c table kind i ≡ wanted_by kind i → StandsAs c table kind i
stands_as c table (number low high) i e =
    let below : high < 18446744073709551616 = ltb-true _ _ (ap (λ (x : Facts). x.bounded) e) in
    stands c table (number low high) i _ _ _ _ _ e (taken c table (number low high) i _ _ _ _ _ e, ap (λ (x : Facts). x.parser) e, omega arith)
stands_as c table (bare low high) i e =
    let clash : false ≡ true = ap (λ (x : Facts). x.by_name) e in absurd (let no : ⊥ = cc in no)
stands_as c table directory i e =
    stands c table directory i _ _ _ _ _ e (taken c table directory i _ _ _ _ _ e, ap (λ (x : Facts). x.parser) e)
stands_as c table flag i e =
    stands c table flag i _ _ _ _ _ e (taken c table flag i _ _ _ _ _ e, ap (λ (x : Facts). x.passes) e, ap (λ (x : Facts). x.missing) e, ap (λ (x : Facts). x.parser) e)

is_in : (c : List Rule) (table : List Item) (i : Item) → facts c table i ≡ wanted i → IsIn c table i
is_in c table i e = stands_as c table i.kind i e

each_same : {A B : Type 0} (f g : A → B) (P : A → Type 0) (xs : List A) → ((x : A) → f x ≡ g x → P x) → map f xs ≡ map g xs → Each P xs
each_same f g P [] to e = tt
each_same f g P (x ∷ xs) to e =
    let first : f x ≡ g x = cc in
    let rest : map f xs ≡ map g xs = cc in (to x first, each_same f g P xs to rest)

-- ---- the tables

pub play_in : Each (IsIn (built_sub play_shape).rules play_items) play_items
unfolding clap_on_literals
play_in = each_same (facts (built_sub play_shape).rules play_items) wanted _ play_items (is_in _ play_items) refl

pub serve_in : Each (IsIn (built_sub serve_shape).rules serve_items) serve_items
unfolding clap_on_literals
serve_in = each_same (facts (built_sub serve_shape).rules serve_items) wanted _ serve_items (is_in _ serve_items) refl

pub audit_in : Each (IsIn (built_sub audit_shape).rules shelves_items) shelves_items
unfolding clap_on_literals
audit_in = each_same (facts (built_sub audit_shape).rules shelves_items) wanted _ shelves_items (is_in _ shelves_items) refl

pub export_in : Each (IsIn (built_sub export_shape).rules feed_items) feed_items
unfolding clap_on_literals
export_in = each_same (facts (built_sub export_shape).rules feed_items) wanted _ feed_items (is_in _ feed_items) refl

pub follow_in : Each (IsIn (built_sub follow_shape).rules feed_items) feed_items
unfolding clap_on_literals
follow_in = each_same (facts (built_sub follow_shape).rules feed_items) wanted _ feed_items (is_in _ feed_items) refl

pub promote_in : Each (IsIn (built_sub promote_shape).rules shelves_items) shelves_items
unfolding clap_on_literals
promote_in = each_same (facts (built_sub promote_shape).rules shelves_items) wanted _ shelves_items (is_in _ shelves_items) refl

abbrev pub load_rules : List Rule
load_rules = (built_sub load_shape).rules

load_number : IsIn load_rules load_items run_number
unfolding clap_on_literals
load_number = record {
  fits = (
    record { by_index = refl; by_id = refl; id = refl; action = refl; least = refl; most = refl; single = refl; last = refl },
    refl,
    omega arith,
  );
  named = record { id = refl; reading = refl };
  by_id = refl;
  own = refl;
  defaults = refl;
  numeric = refl;
  unsigned = refl;
}

pub load_in : Each (IsIn load_rules load_items) load_items
unfolding clap_on_literals
load_in = (load_number, each_same (facts load_rules load_items) wanted (IsIn load_rules load_items) play_items (is_in load_rules load_items) refl)

pub at_item : (P : Item → Type 0) (table : List Item) (i : Item) → Each P table → IsOneOf i table → P i
at_item P [] i all one = absurd one
at_item P (x ∷ xs) i all (inl e) = subst P (sym e) all.0
at_item P (x ∷ xs) i all (inr one) = at_item P xs i all.1 one

pub has_default : (c : List Rule) (table : List Item) (i : Item) (text : Text) → IsIn c table i → i.default ≡ Some text → HasDefault c i text
has_default c table i text in_table e =
    record { named = in_table.named; own = in_table.own; by_id = in_table.by_id; defaults = in_table.defaults ∙ ap (λ o. option_map_or (λ t. t ∷ []) o []) e }
