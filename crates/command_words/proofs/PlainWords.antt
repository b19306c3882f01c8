-- Plain words are taken, and mean what they say.
use Rattle.std.proofs.Common.{◌≡◌, ◌∙◌, ◌||◌, ◌&&◌, ◌<◌, Bool, cond, true, false, not, refl, sym, ap, subst, List, [], ◌∷◌, Option, Some, None, is_some, map, codes, arith, inl, inr, unwrap_or, ltb-true}
use Rattle.std.specs.List.{AllByRecursion as Each, fold}
use Rattle.std.specs.Str.{bytes_eq}
use Rattle.std.specs.Str.Parse.{IsNumeral, digits_value, without_leading_plus}
use Rattle.std.proofs.lemmas.Fmt.{decimal_is_IsNumeral}
use Rattle.clap.specs.Faults.{check_fault, fault_of}
use Rattle.clap.specs.Simple.{Shape, subcommand_of}
use Rattle.clap.specs.Takes.{is_given}
use Rattle.clap.specs.Walk.{Row, Rule, Text, is_empty, nothing_held, with_default}
use Rattle.clap.proofs.OnLiterals.{clap_on_literals}
use Rattle.command_words.specs.App.{app, audit_shape, export_shape, follow_shape, load_shape, play_shape, promote_shape, serve_shape}
use Rattle.command_words.specs.Options.{ArePlain, IsOneOf, IsPlainNumber, IsPlainText, Item, Kind, Setting, shelves_items, bare, directory, feed_items, flag, flag_of, given, load_items, most_run, number, number_of, play_items, run_number, serve_items, spelled, text_of}
use Rattle.command_words.specs.Options.{audit, connections, fuel, instances, journal, life, pages, port, requests, shelf, shelves, workers}
use Rattle.command_words.specs.Plain.{ArePlainFor, IsPlain, shelves_chosen, chosen, feed_chosen, load_chosen, service_chosen}
use Rattle.command_words.specs.Reads.{asked_from, feed_at, shelves_at, flag_at, load_at, number_at, options_at, service_at, text_at, value_number}
use Rattle.command_words.specs.declared.Command.{Command}
use Rattle.command_words.specs.declared.Command.TheVariants.{Audit, Check, Export, Follow, Load, Play, Promote, Serve}
use Rattle.command_words.specs.declared.Options.{Options}
use Rattle.command_words.specs.declared.Service.{Service}
use Rattle.command_words.specs.declared.LoadOptions.{LoadOptions}
use Rattle.command_words.specs.declared.FeedOptions.{FeedOptions}
use Rattle.command_words.specs.declared.ShelvesOptions.{ShelvesOptions}
use Rattle.command_words.proofs.Rows.{find_row}
use Rattle.command_words.proofs.Uses.{Goes, IsFor, Stands, bare_goes, built_rule, has_name, no_plus, number_value, row_of, setting_row, settings_go}
use Rattle.command_words.proofs.Found.{IsNamed, Tells, given_tells, tells, tells_first, tells_one}
use Rattle.command_words.proofs.Tables.{IsIn, at_item, audit_in, built_sub, export_in, follow_in, has_default, is_number, is_numeric, load_in, load_rules, play_in, promote_in, serve_in}
use Rattle.command_words.proofs.Levels.{Enters, default_kinds, enters_audit, enters_export, enters_follow, enters_load, enters_play, enters_promote, enters_serve, entering, level_goes}

-- ---- the numbers

item_is_number : (name : Text) (table : List Item) (i : Item) → is_numeric name table ≡ true → IsOneOf i table → bytes_eq i.name name ≡ true → is_number i.kind ≡ true
item_is_number name [] i all one own = absurd one
item_is_number name (x ∷ xs) i all (inl e) own =
    let same : bytes_eq x.name name ≡ true = ap (λ (k : Item). bytes_eq k.name name) (sym e) ∙ own in
    ap (λ (k : Item). is_number k.kind) e ∙ go (bytes_eq x.name name) same (is_number x.kind) (is_numeric name xs) all
  where
    go : (b : Bool) → b ≡ true → (n rest : Bool) → ((not b || n) && rest) ≡ true → n ≡ true
    go true same true rest h = refl
    go true same false rest h = cc
    go false same n rest h = cc
item_is_number name (x ∷ xs) i all (inr one) own = item_is_number name xs i (rest (not (bytes_eq x.name name) || is_number x.kind) (is_numeric name xs) all) one own
  where
    rest : (a b : Bool) → (a && b) ≡ true → b ≡ true
    rest true b h = h
    rest false b h = cc

plain_numeral : (kind : Kind) (text : Text) → is_number kind ≡ true → IsPlainText kind text → IsNumeral 10 text
plain_numeral (number low high) text small plain =
    let below : high < 18446744073709551616 = ltb-true _ _ small in
    subst (IsNumeral 10) (sym plain.1) (decimal_is_IsNumeral plain.0 (omega arith)).0
plain_numeral (bare low high) text small plain =
    let below : high < 18446744073709551616 = ltb-true _ _ small in
    subst (IsNumeral 10) (sym plain.1) (decimal_is_IsNumeral plain.0 (omega arith)).0
plain_numeral directory text small plain = cc
plain_numeral flag text small plain = cc

given_numeral : (name : Text) (table : List Item) (set : List Setting) (text : Text) → is_numeric name table ≡ true → Each (λ s. IsOneOf s.item table) set → Each (λ s. IsPlainText s.item.kind s.text) set → given name set ≡ Some text
    → IsNumeral 10 text
given_numeral name table [] text numeric known fit e = cc
given_numeral name table (s ∷ rest) text numeric known fit e =
    go (bytes_eq s.item.name name) refl e (given_numeral name table rest text numeric known.1 fit.1)
  where
    go : (b : Bool) → bytes_eq s.item.name name ≡ b → cond b (Some s.text) (given name rest) ≡ Some text → (given name rest ≡ Some text → IsNumeral 10 text) → IsNumeral 10 text
    go true own e rec =
        let same : s.text ≡ text = cc in
        subst (IsNumeral 10) same (plain_numeral s.item.kind s.text (item_is_number name table s.item numeric known.0 own) fit.0)
    go false own e rec = rec e

number_is : (i : Item) (table : List Item) (set : List Setting) → is_numeric i.name table ≡ true → Each (λ s. IsOneOf s.item table) set → Each (λ s. IsPlainText s.item.kind s.text) set
    → without_leading_plus (unwrap_or i.default []) ≡ unwrap_or i.default [] → value_number (text_of i set) ≡ number_of i set
number_is i table set numeric known fit default = ap (digits_value 10) (go (given i.name set) refl)
  where
    go : (o : Option Text) → given i.name set ≡ o → without_leading_plus (unwrap_or o (unwrap_or i.default [])) ≡ unwrap_or o (unwrap_or i.default [])
    go None e = default
    go (Some t) e = no_plus t (given_numeral i.name table set t numeric known fit e)

abbrev ends_with : List Rule → List Setting → List Row
ends_with c set = fold with_default (map setting_row set) c

-- what the rows tell of an option of the table
text_told : (c : List Rule) (table : List Item) (i : Item) (set : List Setting) → IsIn c table i → Each (λ t. IsNamed t.item) set
    → (i.default ≡ None → is_some (given i.name set) ≡ true) → Tells (ends_with c set) i.name (text_of i set)
text_told c table i set in_table named there = by_default i.default refl
  where
    by_given : (o : Option Text) → given i.name set ≡ o → is_some o ≡ true → Tells (ends_with c set) i.name (unwrap_or o (unwrap_or i.default []))
    by_given None e some = cc
    by_given (Some t) e some = (given_tells c [] i.name t set refl named e).tells

    by_default : (o : Option Text) → i.default ≡ o → Tells (ends_with c set) i.name (text_of i set)
    by_default None e = by_given (given i.name set) refl (there e)
    by_default (Some text) e = tells c [] i text set refl named (has_default c table i text in_table e) e

number_told : (c : List Rule) (table : List Item) (i : Item) (set : List Setting) → IsIn c table i → is_number i.kind ≡ true → ArePlain table set
    → Each (λ t. IsNamed t.item) set → (i.default ≡ None → is_some (given i.name set) ≡ true) → number_at (ends_with c set) i.name ≡ number_of i set
number_told c table i set in_table numbers p named there =
    ap (λ o. value_number (unwrap_or o [])) (tells_one _ i.name _ (text_told c table i set in_table named there))
    ∙ number_is i table set (in_table.numeric ∙ numbers) p.known p.fit in_table.unsigned

-- ---- what the tables give of the settings

each_in : (P : Item → Type 0) (table : List Item) (set : List Setting) → Each P table → Each (λ s. IsOneOf s.item table) set → Each (λ t. P t.item) set
each_in P table [] all known = tt
each_in P table (t ∷ rest) all known = (at_item P table t.item all known.0, each_in P table rest all known.1)

each_to : {A : Type 0} (P Q : A → Type 0) (xs : List A) → ((x : A) → P x → Q x) → Each P xs → Each Q xs
each_to P Q [] to all = tt
each_to P Q (x ∷ xs) to all = (to x all.0, each_to P Q xs to all.1)

none_yet : (set : List Setting) → Each (λ t. find_row t.item.name [] ≡ None) set
none_yet [] = tt
none_yet (t ∷ rest) = (refl, none_yet rest)

-- plain options of a command's table are taken, and leave these rows
command_goes : (name word : Text) (s : Shape) (table : List Item) (set : List Setting) → Each (λ i. has_name i.kind ≡ true) table → Enters word (built_sub s) → Each (IsIn (built_sub s).rules table) table → ArePlain table set
    → Each (λ a. default_kinds (is_empty a.defaults) a ≡ []) (built_sub s).rules → Stands (built_sub s) nothing_held [] → check_fault (built_sub s) (ends_with (built_sub s).rules set) false ≡ []
    → (fault_of app (name ∷ word ∷ spelled set) ≡ []) × (subcommand_of app (name ∷ word ∷ spelled set) ≡ Some (word, ends_with (built_sub s).rules set))
command_goes name word s table set named enters all p defaults at_start checked =
    let settings = each_in (IsIn (built_sub s).rules table) table set all p.known in
    let goes = settings_go (built_sub s) 1 nothing_held [] set (each_in (λ i. has_name i.kind ≡ true) table set named p.known) (each_to _ (IsFor (built_sub s)) set (λ t x. x.fits) settings)
    (each_to _ (λ t. (built_rule t.item).id ≡ t.item.name) set (λ t x. x.named.id) settings) p.fit p.once (none_yet set) at_start in
    let level = level_goes (built_sub s) (spelled set) (map setting_row set) goes defaults checked in
    let whole = entering name word (built_sub s) (spelled set) enters level.0 in
    (whole.0, whole.1 ∙ ap (λ rows. Some (word, rows)) level.1)

each_named : (c : List Rule) (table : List Item) (set : List Setting) → Each (IsIn c table) table → ArePlain table set → Each (λ t. IsNamed t.item) set
each_named c table set all p = each_to _ (λ t. IsNamed t.item) set (λ t x. x.named) (each_in (IsIn c table) table set all p.known)

words_told : (c : List Rule) (table : List Item) (i : Item) (set : List Setting) → IsIn c table i → Each (λ t. IsNamed t.item) set
    → (i.default ≡ None → is_some (given i.name set) ≡ true) → text_at (ends_with c set) i.name ≡ text_of i set
words_told c table i set in_table named there = ap (λ o. unwrap_or o []) (tells_first _ i.name _ (text_told c table i set in_table named there))

flag_told : (c : List Rule) (table : List Item) (i : Item) (set : List Setting) → IsIn c table i → Each (λ t. IsNamed t.item) set
    → (i.default ≡ None → is_some (given i.name set) ≡ true) → flag_at (ends_with c set) i.name ≡ flag_of i set
flag_told c table i set in_table named there =
    ap (λ o. bytes_eq (unwrap_or o []) (codes "true")) (tells_one _ i.name _ (text_told c table i set in_table named there))

options_same : (a b : Options) → a.fuel ≡ b.fuel → a.life ≡ b.life → a.instances ≡ b.instances → a.pages ≡ b.pages → a.journal ≡ b.journal
    → a.shelves ≡ b.shelves → a ≡ b
options_same a b f l i p j s = λ at. record { fuel = f at; life = l at; instances = i at; pages = p at; journal = j at; shelves = s at }

-- the options that `play` and `serve` share
options_told : (c : List Rule) (table : List Item) (set : List Setting) → Each (IsIn c table) play_items → ArePlain table set → Each (λ t. IsNamed t.item) set
    → options_at (ends_with c set) ≡ chosen set
options_told c table set shared p named =
    options_same (options_at (ends_with c set)) (chosen set)
    (number_told c table fuel set shared.0 refl p named (λ e. cc))
    (number_told c table life set shared.1.0 refl p named (λ e. cc))
    (number_told c table instances set shared.1.1.0 refl p named (λ e. cc))
    (number_told c table pages set shared.1.1.1.0 refl p named (λ e. cc))
    (words_told c table journal set shared.1.1.1.1.0 named (λ e. cc))
    (number_told c table shelves set shared.1.1.1.1.1.0 refl p named (λ e. cc))

-- ---- `check`

check_means : (name : Text) → (fault_of app (name ∷ codes "check" ∷ []) ≡ []) × (asked_from (subcommand_of app (name ∷ codes "check" ∷ [])) ≡ Some Check)
unfolding clap_on_literals
check_means name = (refl, refl)

-- ---- `play`

play_defaults : Each (λ a. default_kinds (is_empty a.defaults) a ≡ []) (built_sub play_shape).rules
unfolding clap_on_literals
play_defaults = (refl, (refl, (refl, (refl, (refl, (refl, (refl, tt)))))))

play_checked : (rows : List Row) → check_fault (built_sub play_shape) rows false ≡ []
unfolding clap_on_literals
play_checked rows = refl

play_means : (name : Text) (set : List Setting) → ArePlain play_items set
    → (fault_of app (name ∷ codes "play" ∷ spelled set) ≡ []) × (asked_from (subcommand_of app (name ∷ codes "play" ∷ spelled set)) ≡ Some (Play (chosen set)))
play_means name set p =
    let rules = (built_sub play_shape).rules in
    let goes = command_goes name (codes "play") play_shape play_items set (refl, (refl, (refl, (refl, (refl, (refl, tt)))))) enters_play play_in p play_defaults (record { fine = refl; got = refl }) (play_checked (ends_with rules set)) in
    (goes.0, ap asked_from goes.1 ∙ ap (λ o. Some (Play o)) (options_told rules play_items set play_in p (each_named rules play_items set play_in p)))

-- ---- `serve`

serve_defaults : Each (λ a. default_kinds (is_empty a.defaults) a ≡ []) (built_sub serve_shape).rules
unfolding clap_on_literals
serve_defaults = (refl, (refl, (refl, (refl, (refl, (refl, (refl, (refl, (refl, (refl, (refl, (refl, tt))))))))))))

-- the port is what is required
serve_checked : (rows : List Row) → is_given (codes "port") rows ≡ true → check_fault (built_sub serve_shape) rows false ≡ []
unfolding clap_on_literals
serve_checked rows e = simp e

port_given : (set : List Setting) → Each (λ t. IsNamed t.item) set → ArePlain serve_items set → is_given (codes "port") (ends_with (built_sub serve_shape).rules set) ≡ true
port_given set named p = by_given (given (codes "port") set) refl (p.there.1.1.1.1.1.1.0 refl)
  where
    by_given : (o : Option Text) → given (codes "port") set ≡ o → is_some o ≡ true → is_given (codes "port") (ends_with (built_sub serve_shape).rules set) ≡ true
    by_given None e some = cc
    by_given (Some t) e some = let told = given_tells (built_sub serve_shape).rules [] (codes "port") t set refl named e in rw (told.tells.is, told.source) refl

service_same : (a b : Service) → a.options ≡ b.options → a.port ≡ b.port → a.connections ≡ b.connections → a.workers ≡ b.workers → a.requests ≡ b.requests → a.audit ≡ b.audit → a ≡ b
service_same a b o p n w r u = λ at. record { options = o at; port = p at; connections = n at; workers = w at; requests = r at; audit = u at }

serve_means : (name : Text) (set : List Setting) → ArePlain serve_items set
    → (fault_of app (name ∷ codes "serve" ∷ spelled set) ≡ []) × (asked_from (subcommand_of app (name ∷ codes "serve" ∷ spelled set)) ≡ Some (Serve (service_chosen set)))
serve_means name set p =
    let rules = (built_sub serve_shape).rules in
    let named = each_named rules serve_items set serve_in p in
    let goes = command_goes name (codes "serve") serve_shape serve_items set (refl, (refl, (refl, (refl, (refl, (refl, (refl, (refl, (refl, (refl, (refl, tt))))))))))) enters_serve serve_in p serve_defaults (record { fine = refl; got = refl })
    (serve_checked (ends_with rules set) (port_given set named p)) in
    let shared : Each (IsIn rules serve_items) play_items = (serve_in.0, (serve_in.1.0, (serve_in.1.1.0, (serve_in.1.1.1.0, (serve_in.1.1.1.1.0, (serve_in.1.1.1.1.1.0, tt)))))) in
    let told = service_same (service_at (ends_with rules set)) (service_chosen set) (options_told rules serve_items set shared p named)
    (number_told rules serve_items port set serve_in.1.1.1.1.1.1.0 refl p named p.there.1.1.1.1.1.1.0)
    (number_told rules serve_items connections set serve_in.1.1.1.1.1.1.1.0 refl p named (λ e. cc))
    (number_told rules serve_items workers set serve_in.1.1.1.1.1.1.1.1.0 refl p named (λ e. cc))
    (number_told rules serve_items requests set serve_in.1.1.1.1.1.1.1.1.1.0 refl p named (λ e. cc))
    (flag_told rules serve_items audit set serve_in.1.1.1.1.1.1.1.1.1.1.0 named (λ e. cc)) in
    (goes.0, ap asked_from goes.1 ∙ ap (λ v. Some (Serve v)) told)

-- ---- `load`

load_defaults : Each (λ a. default_kinds (is_empty a.defaults) a ≡ []) load_rules
unfolding clap_on_literals
load_defaults = (refl, (refl, (refl, (refl, (refl, (refl, (refl, (refl, tt))))))))

-- the number is what is required
load_checked : (rows : List Row) → is_given (codes "number") rows ≡ true → check_fault (built_sub load_shape) rows false ≡ []
unfolding clap_on_literals
load_checked rows e = simp e

-- the number, as an option that stands before the others
abbrev numbered : Text → List Setting → List Setting
numbered text set = record { item = run_number; text = text } ∷ set

other_names : (set : List Setting) → Each (λ s. IsOneOf s.item play_items) set → Each (λ t. bytes_eq run_number.name t.item.name ≡ false) set
other_names set known = each_in (λ i. bytes_eq run_number.name i.name ≡ false) play_items set (refl, (refl, (refl, (refl, (refl, (refl, tt)))))) known

more_known : (set : List Setting) → Each (λ s. IsOneOf s.item play_items) set → Each (λ s. IsOneOf s.item load_items) set
more_known set known = each_to (λ s. IsOneOf s.item play_items) (λ s. IsOneOf s.item load_items) set (λ s one. inr one) known

-- with the number they are plain options of the whole table
numbered_plain : (text : Text) (set : List Setting) → IsPlainNumber 1 most_run text → ArePlain play_items set → ArePlain load_items (numbered text set)
numbered_plain text set plain p = record {
  known = (inl refl, more_known set p.known);
  fit = (plain, p.fit);
  once = (other_names set p.known, p.once);
  there = (λ e. refl, (λ e. cc, (λ e. cc, (λ e. cc, (λ e. cc, (λ e. cc, (λ e. cc, tt)))))));
}

none_numbered : (text : Text) (set : List Setting) → Each (λ t. bytes_eq run_number.name t.item.name ≡ false) set
    → Each (λ t. find_row t.item.name (setting_row (record { item = run_number; text = text }) ∷ []) ≡ None) set
none_numbered text [] apart = tt
none_numbered text (t ∷ rest) apart = (rw apart.0 refl, none_numbered text rest apart.1)

number_given : (text : Text) (set : List Setting) → Each (λ t. IsNamed t.item) (numbered text set)
    → is_given (codes "number") (ends_with load_rules (numbered text set)) ≡ true
number_given text set named =
    let told = given_tells load_rules [] (codes "number") text (numbered text set) refl named refl in rw (told.tells.is, told.source) refl

load_same : (a b : LoadOptions) → a.number ≡ b.number → a.options ≡ b.options → a ≡ b
load_same a b n o = λ at. record { number = n at; options = o at }

load_goes : (text : Text) (set : List Setting) → IsPlainNumber 1 most_run text → ArePlain play_items set
    → Goes (built_sub load_shape) 1 nothing_held (text ∷ spelled set) (map setting_row (numbered text set))
load_goes text set plain p =
    let number = load_in.0.fits in
    let settings = each_in (IsIn load_rules load_items) play_items set load_in.1 p.known in
    bare_goes (built_sub load_shape) (codes "number") text (built_rule run_number) (spelled set) (map setting_row (numbered text set))
    number.0 (number_value (built_rule run_number) 1 most_run text number.1 number.2 plain)
    (λ k stands.
    settings_go (built_sub load_shape) 2 k (row_of (built_rule run_number) text ∷ []) set
    (each_in (λ i. has_name i.kind ≡ true) play_items set (refl, (refl, (refl, (refl, (refl, (refl, tt)))))) p.known)
    (each_to _ (IsFor (built_sub load_shape)) set (λ t x. x.fits) settings)
    (each_to _ (λ t. (built_rule t.item).id ≡ t.item.name) set (λ t x. x.named.id) settings) p.fit p.once
    (none_numbered text set (other_names set p.known)) stands)

load_means : (name text : Text) (set : List Setting) → IsPlainNumber 1 most_run text → ArePlain play_items set
    → (fault_of app (name ∷ codes "load" ∷ text ∷ spelled set) ≡ [])
    × (asked_from (subcommand_of app (name ∷ codes "load" ∷ text ∷ spelled set)) ≡ Some (Load (load_chosen text set)))
load_means name text set plain p =
    let all = numbered text set in
    let whole = numbered_plain text set plain p in
    let named = each_named load_rules load_items all load_in whole in
    let level = level_goes (built_sub load_shape) (text ∷ spelled set) (map setting_row all) (load_goes text set plain p) load_defaults
    (load_checked (ends_with load_rules all) (number_given text set named)) in
    let entered = entering name (codes "load") (built_sub load_shape) (text ∷ spelled set) enters_load level.0 in
    let shared = options_told load_rules load_items all load_in.1 whole named in
    let first = number_told load_rules load_items run_number all load_in.0 refl whole named (λ e. refl) in
    let told = load_same (load_at (ends_with load_rules all)) (load_chosen text set) first (shared ∙ chosen_same text set) in
    (entered.0, ap asked_from (entered.1 ∙ ap (λ rows. Some (codes "load", rows)) level.1) ∙ ap (λ l. Some (Load l)) told)
  where
    chosen_same : (text : Text) (set : List Setting) → chosen (numbered text set) ≡ chosen set
    chosen_same text set = refl

-- ---- `audit`

audit_defaults : Each (λ a. default_kinds (is_empty a.defaults) a ≡ []) (built_sub audit_shape).rules
unfolding clap_on_literals
audit_defaults = (refl, (refl, (refl, tt)))

audit_checked : (rows : List Row) → check_fault (built_sub audit_shape) rows false ≡ []
unfolding clap_on_literals
audit_checked rows = refl

shelves_same : (a b : ShelvesOptions) → a.journal ≡ b.journal → a.shelves ≡ b.shelves → a ≡ b
shelves_same a b j s = λ at. record { journal = j at; shelves = s at }

audit_means : (name : Text) (set : List Setting) → ArePlain shelves_items set
    → (fault_of app (name ∷ codes "audit" ∷ spelled set) ≡ []) × (asked_from (subcommand_of app (name ∷ codes "audit" ∷ spelled set)) ≡ Some (Audit (shelves_chosen set)))
audit_means name set p =
    let rules = (built_sub audit_shape).rules in
    let named = each_named rules shelves_items set audit_in p in
    let goes = command_goes name (codes "audit") audit_shape shelves_items set (refl, (refl, tt)) enters_audit audit_in p audit_defaults (record { fine = refl; got = refl }) (audit_checked (ends_with rules set)) in
    let told = shelves_same (shelves_at (ends_with rules set)) (shelves_chosen set)
    (words_told rules shelves_items journal set audit_in.0 named (λ e. cc))
    (number_told rules shelves_items shelves set audit_in.1.0 refl p named (λ e. cc)) in
    (goes.0, ap asked_from goes.1 ∙ ap (λ o. Some (Audit o)) told)

-- ---- `export`

export_defaults : Each (λ a. default_kinds (is_empty a.defaults) a ≡ []) (built_sub export_shape).rules
unfolding clap_on_literals
export_defaults = (refl, (refl, (refl, tt)))

export_checked : (rows : List Row) → check_fault (built_sub export_shape) rows false ≡ []
unfolding clap_on_literals
export_checked rows = refl

feed_same : (a b : FeedOptions) → a.journal ≡ b.journal → a.shelf ≡ b.shelf → a ≡ b
feed_same a b j s = λ at. record { journal = j at; shelf = s at }

export_means : (name : Text) (set : List Setting) → ArePlain feed_items set
    → (fault_of app (name ∷ codes "export" ∷ spelled set) ≡ []) × (asked_from (subcommand_of app (name ∷ codes "export" ∷ spelled set)) ≡ Some (Export (feed_chosen set)))
export_means name set p =
    let rules = (built_sub export_shape).rules in
    let named = each_named rules feed_items set export_in p in
    let goes = command_goes name (codes "export") export_shape feed_items set (refl, (refl, tt)) enters_export export_in p export_defaults (record { fine = refl; got = refl }) (export_checked (ends_with rules set)) in
    let told = feed_same (feed_at (ends_with rules set)) (feed_chosen set)
    (words_told rules feed_items journal set export_in.0 named (λ e. cc))
    (number_told rules feed_items shelf set export_in.1.0 refl p named (λ e. cc)) in
    (goes.0, ap asked_from goes.1 ∙ ap (λ o. Some (Export o)) told)

-- ---- `follow`

follow_defaults : Each (λ a. default_kinds (is_empty a.defaults) a ≡ []) (built_sub follow_shape).rules
unfolding clap_on_literals
follow_defaults = (refl, (refl, (refl, tt)))

follow_checked : (rows : List Row) → check_fault (built_sub follow_shape) rows false ≡ []
unfolding clap_on_literals
follow_checked rows = refl

follow_means : (name : Text) (set : List Setting) → ArePlain feed_items set
    → (fault_of app (name ∷ codes "follow" ∷ spelled set) ≡ []) × (asked_from (subcommand_of app (name ∷ codes "follow" ∷ spelled set)) ≡ Some (Follow (feed_chosen set)))
follow_means name set p =
    let rules = (built_sub follow_shape).rules in
    let named = each_named rules feed_items set follow_in p in
    let goes = command_goes name (codes "follow") follow_shape feed_items set (refl, (refl, tt)) enters_follow follow_in p follow_defaults (record { fine = refl; got = refl }) (follow_checked (ends_with rules set)) in
    let told = feed_same (feed_at (ends_with rules set)) (feed_chosen set)
    (words_told rules feed_items journal set follow_in.0 named (λ e. cc))
    (number_told rules feed_items shelf set follow_in.1.0 refl p named (λ e. cc)) in
    (goes.0, ap asked_from goes.1 ∙ ap (λ o. Some (Follow o)) told)

-- ---- `promote`

promote_defaults : Each (λ a. default_kinds (is_empty a.defaults) a ≡ []) (built_sub promote_shape).rules
unfolding clap_on_literals
promote_defaults = (refl, (refl, (refl, tt)))

promote_checked : (rows : List Row) → check_fault (built_sub promote_shape) rows false ≡ []
unfolding clap_on_literals
promote_checked rows = refl

promote_means : (name : Text) (set : List Setting) → ArePlain shelves_items set
    → (fault_of app (name ∷ codes "promote" ∷ spelled set) ≡ []) × (asked_from (subcommand_of app (name ∷ codes "promote" ∷ spelled set)) ≡ Some (Promote (shelves_chosen set)))
promote_means name set p =
    let rules = (built_sub promote_shape).rules in
    let named = each_named rules shelves_items set promote_in p in
    let goes = command_goes name (codes "promote") promote_shape shelves_items set (refl, (refl, tt)) enters_promote promote_in p promote_defaults (record { fine = refl; got = refl }) (promote_checked (ends_with rules set)) in
    let told = shelves_same (shelves_at (ends_with rules set)) (shelves_chosen set)
    (words_told rules shelves_items journal set promote_in.0 named (λ e. cc))
    (number_told rules shelves_items shelves set promote_in.1.0 refl p named (λ e. cc)) in
    (goes.0, ap asked_from goes.1 ∙ ap (λ o. Some (Promote o)) told)

-- ---- all

abbrev Means : List Text → Command → Type 0
Means words asked = (fault_of app words ≡ []) × (asked_from (subcommand_of app words) ≡ Some asked)

pub plain_means : (words : List Text) (asked : Command) → IsPlain words asked → Means words asked
plain_means words asked p = subst (λ w. Means w asked) (sym p.2) (go p.1 asked p.3)
  where
    go : (after : List Text) (asked : Command) → ArePlainFor after asked → Means (p.0 ∷ after) asked
    go after Check q = subst (λ a. Means (p.0 ∷ a) Check) (sym q) (check_means p.0)
    go after (Play o) q =
        subst (λ a. Means (p.0 ∷ a) (Play o)) (sym q.1)
        (subst (λ k. Means (p.0 ∷ codes "play" ∷ spelled q.0) (Play k)) (sym q.3) (play_means p.0 q.0 q.2))
    go after (Serve v) q =
        subst (λ a. Means (p.0 ∷ a) (Serve v)) (sym q.1)
        (subst (λ k. Means (p.0 ∷ codes "serve" ∷ spelled q.0) (Serve k)) (sym q.3) (serve_means p.0 q.0 q.2))
    go after (Load l) q =
        subst (λ a. Means (p.0 ∷ a) (Load l)) (sym q.2)
        (subst (λ k. Means (p.0 ∷ codes "load" ∷ q.0 ∷ spelled q.1) (Load k)) (sym q.5) (load_means p.0 q.0 q.1 q.3 q.4))
    go after (Audit o) q =
        subst (λ a. Means (p.0 ∷ a) (Audit o)) (sym q.1)
        (subst (λ k. Means (p.0 ∷ codes "audit" ∷ spelled q.0) (Audit k)) (sym q.3) (audit_means p.0 q.0 q.2))
    go after (Export o) q =
        subst (λ a. Means (p.0 ∷ a) (Export o)) (sym q.1)
        (subst (λ k. Means (p.0 ∷ codes "export" ∷ spelled q.0) (Export k)) (sym q.3) (export_means p.0 q.0 q.2))
    go after (Follow o) q =
        subst (λ a. Means (p.0 ∷ a) (Follow o)) (sym q.1)
        (subst (λ k. Means (p.0 ∷ codes "follow" ∷ spelled q.0) (Follow k)) (sym q.3) (follow_means p.0 q.0 q.2))
    go after (Promote o) q =
        subst (λ a. Means (p.0 ∷ a) (Promote o)) (sym q.1)
        (subst (λ k. Means (p.0 ∷ codes "promote" ∷ spelled q.0) (Promote k)) (sym q.3) (promote_means p.0 q.0 q.2))
