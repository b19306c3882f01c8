-- The program's command line, as clap's words tell it.
use Rattle.std.specs.Prelude.{◌≡◌, ◌∷◌, ℕ, true, false, List, [], codes, map, Option, Some, None, fold}
use Rattle.std.specs.Borrow.{Bor}
use Rattle.clap.specs.Simple.{App, Shape, new_shape, new_rule, with_rule, subcommand_of}
use Rattle.clap.specs.Faults.{fault_of}
use Rattle.clap.specs.Walk.{Rule, Row}
use Rattle.clap.specs.declared.error.kind.ErrorKind.{ErrorKind}
use Rattle.clap.specs.declared.builder.command.Command.{Command}
use Rattle.clap.specs.declared.builder.command.Command.TheViews.{out-Command as fields_of}
use Rattle.clap.specs.declared.builder.action.ArgAction.TheVariants.{Set, SetTrue}
use Rattle.clap.specs.declared.builder.value_parser.ValueParser.{ValueParser}
use Rattle.clap.specs.declared.builder.value_parser.ValueParser.TheVariants as vp
use Rattle.command_words.specs.Options.{Item, Kind, Text, number, bare, directory, flag, play_items, serve_items, load_items, shelves_items, feed_items}

-- the words of a command line, each by its bytes
abbrev pub texts : List (Bor (List ℕ)) → List (List ℕ)
texts words = map (λ w. w.now) words

-- the rule of an option with a value, as clap has it
abbrev pub value_rule : Text → ValueParser → Rule
value_rule name parser = record (new_rule name) {
  long = Some name;
  action = Some Set;
  parser = Some parser;
}

-- the rule of a value that stands without a name
abbrev pub bare_rule : Text → ValueParser → Rule
bare_rule name parser = record (new_rule name) { action = Some Set; parser = Some parser }

-- the rule of an option without a value, as clap has it
abbrev pub flag_rule : Text → Rule
flag_rule name = record (new_rule name) { long = Some name; action = Some SetTrue }

-- the rule of an option that has this default; where it has none the option is required
abbrev pub or_default : Option Text → Rule → Rule
or_default None r = record r { required = true }
or_default (Some text) r = record r { defaults = text ∷ [] }

-- the rule of an option of this kind and name, and with this default, as clap has it
abbrev pub rule_by : Kind → Text → Option Text → Rule
rule_by (number low high) name default = or_default default (value_rule name (vp.Unsigned low high))
rule_by (bare low high) name default = or_default default (bare_rule name (vp.Unsigned low high))
rule_by directory name default = or_default default (value_rule name vp.NonEmptyString)
rule_by flag name default = flag_rule name

-- the rule of an option of the table, as clap has it
abbrev pub rule_for : Item → Rule
rule_for i = rule_by i.kind i.name i.default

-- the options of a command are its own, and no other command has them
abbrev pub IsLocal : Command → Type 0
IsLocal c = (fields_of c).has_globals ≡ false

-- a command with more arguments
abbrev pub with_rules : App → List Rule → App
with_rules a rules = fold with_rule a rules

-- a command with the options of a table
abbrev pub with_items : App → List Item → App
with_items a items = with_rules a (map rule_for items)

-- the shape of a command of this name with these options, as clap has it
abbrev pub shape_for : Text → List Rule → Shape
shape_for name rules = record (new_shape name) { rules = rules }

-- the command `check`, as clap has it, without an option
abbrev pub check_shape : Shape
check_shape = new_shape (codes "check")

-- the command `play`, as clap has it, with its options
abbrev pub play_shape : Shape
play_shape = shape_for (codes "play") (map rule_for play_items)

-- the command `serve`, as clap has it, with its options
abbrev pub serve_shape : Shape
serve_shape = shape_for (codes "serve") (map rule_for serve_items)

-- the command `load`, as clap has it, with its options
abbrev pub load_shape : Shape
load_shape = shape_for (codes "load") (map rule_for load_items)

-- the command `audit`, as clap has it, with its options
abbrev pub audit_shape : Shape
audit_shape = shape_for (codes "audit") (map rule_for shelves_items)

-- the command `export`, as clap has it, with its options
abbrev pub export_shape : Shape
export_shape = shape_for (codes "export") (map rule_for feed_items)

-- the command `follow`, as clap has it, with its options
abbrev pub follow_shape : Shape
follow_shape = shape_for (codes "follow") (map rule_for feed_items)

-- the command `promote`, as clap has it, with its options
abbrev pub promote_shape : Shape
promote_shape = shape_for (codes "promote") (map rule_for shelves_items)

-- the program itself, as clap has it: a command has to follow its name
abbrev pub bare_top : Shape
bare_top = record (new_shape (codes "script_server")) {
  subcommand_required = true;
  disable_help_subcommand = true;
}

-- the program with its commands, as clap has it
abbrev pub app : App
app = record {
  top = record bare_top { is_leaf = false };
  subs = check_shape ∷ play_shape ∷ serve_shape ∷ load_shape ∷ audit_shape ∷ export_shape ∷ follow_shape ∷ promote_shape ∷ [];
}

-- what clap finds wrong with the words
abbrev pub faults_in : List (Bor (List ℕ)) → List ErrorKind
faults_in words = fault_of app (texts words)

-- the command's name that clap finds in the words, and the rows of its options
abbrev pub rows_of_words : List (Bor (List ℕ)) → Option (Text × List Row)
rows_of_words words = subcommand_of app (texts words)
