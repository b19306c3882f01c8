use Rattle.std.proofs.Common.{rules, ◌≡◌, ◌∙◌, sym, ap, subst, codes, true, false, Err, List, Some}
use Rattle.std.specs.Str.{bytes_eq}
use Rattle.clap.specs.Simple.{subcommand_rows_of}
use Rattle.clap.specs.Walk.{Row, Text}
use Rattle.command_words.specs.Options.{feed_items, load_items, serve_items, shelves_items}
use Rattle.command_words.specs.Reads.{Holds, HoldsAsked, HoldsFor, for_audit, for_check, for_export, for_follow, for_load, for_play, for_promote, for_serve, rows_in}
use Rattle.command_words.proofs.Reading.{entered, same_error}
use Rattle.command_words.proofs.command_of.Goals as goal

serve_held : (name : Text) (rows : List Row) → name ≡ codes "serve" → HoldsFor name rows → Holds serve_items rows
serve_held name rows is (for_check other) =
    let clash : false ≡ true = ap (λ (t : Text). bytes_eq t (codes "check")) (sym is ∙ other) in absurd (let no : ⊥ = cc in no)
serve_held name rows is (for_play other held) =
    let clash : false ≡ true = ap (λ (t : Text). bytes_eq t (codes "play")) (sym is ∙ other) in absurd (let no : ⊥ = cc in no)
serve_held name rows is (for_serve same held) = held
serve_held name rows is (for_load other held) =
    let clash : false ≡ true = ap (λ (t : Text). bytes_eq t (codes "load")) (sym is ∙ other) in absurd (let no : ⊥ = cc in no)
serve_held name rows is (for_audit other held) =
    let clash : false ≡ true = ap (λ (t : Text). bytes_eq t (codes "audit")) (sym is ∙ other) in absurd (let no : ⊥ = cc in no)
serve_held name rows is (for_export other held) =
    let clash : false ≡ true = ap (λ (t : Text). bytes_eq t (codes "export")) (sym is ∙ other) in absurd (let no : ⊥ = cc in no)
serve_held name rows is (for_follow other held) =
    let clash : false ≡ true = ap (λ (t : Text). bytes_eq t (codes "follow")) (sym is ∙ other) in absurd (let no : ⊥ = cc in no)
serve_held name rows is (for_promote other held) =
    let clash : false ≡ true = ap (λ (t : Text). bytes_eq t (codes "promote")) (sym is ∙ other) in absurd (let no : ⊥ = cc in no)

load_held : (name : Text) (rows : List Row) → name ≡ codes "load" → HoldsFor name rows → Holds load_items rows
load_held name rows is (for_check other) =
    let clash : false ≡ true = ap (λ (t : Text). bytes_eq t (codes "check")) (sym is ∙ other) in absurd (let no : ⊥ = cc in no)
load_held name rows is (for_play other held) =
    let clash : false ≡ true = ap (λ (t : Text). bytes_eq t (codes "play")) (sym is ∙ other) in absurd (let no : ⊥ = cc in no)
load_held name rows is (for_serve other held) =
    let clash : false ≡ true = ap (λ (t : Text). bytes_eq t (codes "serve")) (sym is ∙ other) in absurd (let no : ⊥ = cc in no)
load_held name rows is (for_load same held) = held
load_held name rows is (for_audit other held) =
    let clash : false ≡ true = ap (λ (t : Text). bytes_eq t (codes "audit")) (sym is ∙ other) in absurd (let no : ⊥ = cc in no)
load_held name rows is (for_export other held) =
    let clash : false ≡ true = ap (λ (t : Text). bytes_eq t (codes "export")) (sym is ∙ other) in absurd (let no : ⊥ = cc in no)
load_held name rows is (for_follow other held) =
    let clash : false ≡ true = ap (λ (t : Text). bytes_eq t (codes "follow")) (sym is ∙ other) in absurd (let no : ⊥ = cc in no)
load_held name rows is (for_promote other held) =
    let clash : false ≡ true = ap (λ (t : Text). bytes_eq t (codes "promote")) (sym is ∙ other) in absurd (let no : ⊥ = cc in no)

audit_held : (name : Text) (rows : List Row) → name ≡ codes "audit" → HoldsFor name rows → Holds shelves_items rows
audit_held name rows is (for_check other) =
    let clash : false ≡ true = ap (λ (t : Text). bytes_eq t (codes "check")) (sym is ∙ other) in absurd (let no : ⊥ = cc in no)
audit_held name rows is (for_play other held) =
    let clash : false ≡ true = ap (λ (t : Text). bytes_eq t (codes "play")) (sym is ∙ other) in absurd (let no : ⊥ = cc in no)
audit_held name rows is (for_serve other held) =
    let clash : false ≡ true = ap (λ (t : Text). bytes_eq t (codes "serve")) (sym is ∙ other) in absurd (let no : ⊥ = cc in no)
audit_held name rows is (for_load other held) =
    let clash : false ≡ true = ap (λ (t : Text). bytes_eq t (codes "load")) (sym is ∙ other) in absurd (let no : ⊥ = cc in no)
audit_held name rows is (for_audit same held) = held
audit_held name rows is (for_export other held) =
    let clash : false ≡ true = ap (λ (t : Text). bytes_eq t (codes "export")) (sym is ∙ other) in absurd (let no : ⊥ = cc in no)
audit_held name rows is (for_follow other held) =
    let clash : false ≡ true = ap (λ (t : Text). bytes_eq t (codes "follow")) (sym is ∙ other) in absurd (let no : ⊥ = cc in no)
audit_held name rows is (for_promote other held) =
    let clash : false ≡ true = ap (λ (t : Text). bytes_eq t (codes "promote")) (sym is ∙ other) in absurd (let no : ⊥ = cc in no)

export_held : (name : Text) (rows : List Row) → name ≡ codes "export" → HoldsFor name rows → Holds feed_items rows
export_held name rows is (for_check other) =
    let clash : false ≡ true = ap (λ (t : Text). bytes_eq t (codes "check")) (sym is ∙ other) in absurd (let no : ⊥ = cc in no)
export_held name rows is (for_play other held) =
    let clash : false ≡ true = ap (λ (t : Text). bytes_eq t (codes "play")) (sym is ∙ other) in absurd (let no : ⊥ = cc in no)
export_held name rows is (for_serve other held) =
    let clash : false ≡ true = ap (λ (t : Text). bytes_eq t (codes "serve")) (sym is ∙ other) in absurd (let no : ⊥ = cc in no)
export_held name rows is (for_load other held) =
    let clash : false ≡ true = ap (λ (t : Text). bytes_eq t (codes "load")) (sym is ∙ other) in absurd (let no : ⊥ = cc in no)
export_held name rows is (for_audit other held) =
    let clash : false ≡ true = ap (λ (t : Text). bytes_eq t (codes "audit")) (sym is ∙ other) in absurd (let no : ⊥ = cc in no)
export_held name rows is (for_export same held) = held
export_held name rows is (for_follow other held) =
    let clash : false ≡ true = ap (λ (t : Text). bytes_eq t (codes "follow")) (sym is ∙ other) in absurd (let no : ⊥ = cc in no)
export_held name rows is (for_promote other held) =
    let clash : false ≡ true = ap (λ (t : Text). bytes_eq t (codes "promote")) (sym is ∙ other) in absurd (let no : ⊥ = cc in no)

follow_held : (name : Text) (rows : List Row) → name ≡ codes "follow" → HoldsFor name rows → Holds feed_items rows
follow_held name rows is (for_check other) =
    let clash : false ≡ true = ap (λ (t : Text). bytes_eq t (codes "check")) (sym is ∙ other) in absurd (let no : ⊥ = cc in no)
follow_held name rows is (for_play other held) =
    let clash : false ≡ true = ap (λ (t : Text). bytes_eq t (codes "play")) (sym is ∙ other) in absurd (let no : ⊥ = cc in no)
follow_held name rows is (for_serve other held) =
    let clash : false ≡ true = ap (λ (t : Text). bytes_eq t (codes "serve")) (sym is ∙ other) in absurd (let no : ⊥ = cc in no)
follow_held name rows is (for_load other held) =
    let clash : false ≡ true = ap (λ (t : Text). bytes_eq t (codes "load")) (sym is ∙ other) in absurd (let no : ⊥ = cc in no)
follow_held name rows is (for_audit other held) =
    let clash : false ≡ true = ap (λ (t : Text). bytes_eq t (codes "audit")) (sym is ∙ other) in absurd (let no : ⊥ = cc in no)
follow_held name rows is (for_export other held) =
    let clash : false ≡ true = ap (λ (t : Text). bytes_eq t (codes "export")) (sym is ∙ other) in absurd (let no : ⊥ = cc in no)
follow_held name rows is (for_follow same held) = held
follow_held name rows is (for_promote other held) =
    let clash : false ≡ true = ap (λ (t : Text). bytes_eq t (codes "promote")) (sym is ∙ other) in absurd (let no : ⊥ = cc in no)

promote_held : (name : Text) (rows : List Row) → name ≡ codes "promote" → HoldsFor name rows → Holds shelves_items rows
promote_held name rows is (for_check other) =
    let clash : false ≡ true = ap (λ (t : Text). bytes_eq t (codes "check")) (sym is ∙ other) in absurd (let no : ⊥ = cc in no)
promote_held name rows is (for_play other held) =
    let clash : false ≡ true = ap (λ (t : Text). bytes_eq t (codes "play")) (sym is ∙ other) in absurd (let no : ⊥ = cc in no)
promote_held name rows is (for_serve other held) =
    let clash : false ≡ true = ap (λ (t : Text). bytes_eq t (codes "serve")) (sym is ∙ other) in absurd (let no : ⊥ = cc in no)
promote_held name rows is (for_load other held) =
    let clash : false ≡ true = ap (λ (t : Text). bytes_eq t (codes "load")) (sym is ∙ other) in absurd (let no : ⊥ = cc in no)
promote_held name rows is (for_audit other held) =
    let clash : false ≡ true = ap (λ (t : Text). bytes_eq t (codes "audit")) (sym is ∙ other) in absurd (let no : ⊥ = cc in no)
promote_held name rows is (for_export other held) =
    let clash : false ≡ true = ap (λ (t : Text). bytes_eq t (codes "export")) (sym is ∙ other) in absurd (let no : ⊥ = cc in no)
promote_held name rows is (for_follow other held) =
    let clash : false ≡ true = ap (λ (t : Text). bytes_eq t (codes "follow")) (sym is ∙ other) in absurd (let no : ⊥ = cc in no)
promote_held name rows is (for_promote same held) = held

pub returns-in_err-service_of-in-serve-clause-refused : goal.returns-in_err-service_of-in-serve-clause-refused
returns-in_err-service_of-in-serve-clause-refused c usage held =
    let is : c.from_residual-in_err-service_of-in-serve.result ≡ Err c.in_err-service_of-in-serve.field-0.0 = search rules in
    let at : subcommand_rows_of c.args.matches.now ≡ Some (c.in-Some.name.now, rows_in c.in-Some.inner.now) =
    entered c.args.matches.now c.in-Some.name.now (rows_in c.in-Some.inner.now) c.in-Some.ensures.name c.in-Some.ensures.rows in
    c.in_err-service_of-in-serve.ensures.refused (ap (λ x. Err x) (same_error _ _ _ is usage))
    (serve_held c.in-Some.name.now (rows_in c.in-Some.inner.now) c.in-serve.is (subst HoldsAsked at held))

pub returns-in_err-load_of-in-load-clause-refused : goal.returns-in_err-load_of-in-load-clause-refused
returns-in_err-load_of-in-load-clause-refused c usage held =
    let is : c.from_residual-in_err-load_of-in-load.result ≡ Err c.in_err-load_of-in-load.field-0.0 = search rules in
    let at : subcommand_rows_of c.args.matches.now ≡ Some (c.in-Some.name.now, rows_in c.in-Some.inner.now) =
    entered c.args.matches.now c.in-Some.name.now (rows_in c.in-Some.inner.now) c.in-Some.ensures.name c.in-Some.ensures.rows in
    c.in_err-load_of-in-load.ensures.refused (ap (λ x. Err x) (same_error _ _ _ is usage))
    (load_held c.in-Some.name.now (rows_in c.in-Some.inner.now) c.in-load.is (subst HoldsAsked at held))

pub returns-in_err-shelves_of-in-audit-clause-refused : goal.returns-in_err-shelves_of-in-audit-clause-refused
returns-in_err-shelves_of-in-audit-clause-refused c usage held =
    let is : c.from_residual-in_err-shelves_of-in-audit.result ≡ Err c.in_err-shelves_of-in-audit.field-0.0 = search rules in
    let at : subcommand_rows_of c.args.matches.now ≡ Some (c.in-Some.name.now, rows_in c.in-Some.inner.now) =
    entered c.args.matches.now c.in-Some.name.now (rows_in c.in-Some.inner.now) c.in-Some.ensures.name c.in-Some.ensures.rows in
    c.in_err-shelves_of-in-audit.ensures.refused (ap (λ x. Err x) (same_error _ _ _ is usage))
    (audit_held c.in-Some.name.now (rows_in c.in-Some.inner.now) c.in-audit.is (subst HoldsAsked at held))

pub returns-in_err-feed_of-in-export-clause-refused : goal.returns-in_err-feed_of-in-export-clause-refused
returns-in_err-feed_of-in-export-clause-refused c usage held =
    let is : c.from_residual-in_err-feed_of-in-export.result ≡ Err c.in_err-feed_of-in-export.field-0.0 = search rules in
    let at : subcommand_rows_of c.args.matches.now ≡ Some (c.in-Some.name.now, rows_in c.in-Some.inner.now) =
    entered c.args.matches.now c.in-Some.name.now (rows_in c.in-Some.inner.now) c.in-Some.ensures.name c.in-Some.ensures.rows in
    c.in_err-feed_of-in-export.ensures.refused (ap (λ x. Err x) (same_error _ _ _ is usage))
    (export_held c.in-Some.name.now (rows_in c.in-Some.inner.now) c.in-export.is (subst HoldsAsked at held))

pub returns-in_err-feed_of-in-follow-clause-refused : goal.returns-in_err-feed_of-in-follow-clause-refused
returns-in_err-feed_of-in-follow-clause-refused c usage held =
    let is : c.from_residual-in_err-feed_of-in-follow.result ≡ Err c.in_err-feed_of-in-follow.field-0.0 = search rules in
    let at : subcommand_rows_of c.args.matches.now ≡ Some (c.in-Some.name.now, rows_in c.in-Some.inner.now) =
    entered c.args.matches.now c.in-Some.name.now (rows_in c.in-Some.inner.now) c.in-Some.ensures.name c.in-Some.ensures.rows in
    c.in_err-feed_of-in-follow.ensures.refused (ap (λ x. Err x) (same_error _ _ _ is usage))
    (follow_held c.in-Some.name.now (rows_in c.in-Some.inner.now) c.in-follow.is (subst HoldsAsked at held))

pub returns-in_err-shelves_of-in-promote-clause-refused : goal.returns-in_err-shelves_of-in-promote-clause-refused
returns-in_err-shelves_of-in-promote-clause-refused c usage held =
    let is : c.from_residual-in_err-shelves_of-in-promote.result ≡ Err c.in_err-shelves_of-in-promote.field-0.0 = search rules in
    let at : subcommand_rows_of c.args.matches.now ≡ Some (c.in-Some.name.now, rows_in c.in-Some.inner.now) =
    entered c.args.matches.now c.in-Some.name.now (rows_in c.in-Some.inner.now) c.in-Some.ensures.name c.in-Some.ensures.rows in
    c.in_err-shelves_of-in-promote.ensures.refused (ap (λ x. Err x) (same_error _ _ _ is usage))
    (promote_held c.in-Some.name.now (rows_in c.in-Some.inner.now) c.in-promote.is (subst HoldsAsked at held))
