-- From rows to the values that the getters give.
use Rattle.std.proofs.Common.{◌≡◌, ◌∙◌, ◌<◌, ◌^◌, ℕ, refl, sym, ap, List, [], Option, Some, None, option_map, Result, Ok, Err, IfOk, arith}
use Rattle.std.specs.Prelude.{IfErr}
use Rattle.std.specs.Option.{ok_or, unwrap_or}
use Rattle.std.specs.Str.Parse.{ParsesUnsigned}
use Rattle.std.specs.Box.{box_value}
use Rattle.clap.specs.Matches.{ReadsOne, found_of, one_text, subcommand_name_of}
use Rattle.clap.specs.Simple.{subcommand_rows_of}
use Rattle.clap.specs.declared.parser.matches.ArgMatches.TheViews.{out-ArgMatches, out-SubCommand}
use Rattle.clap.specs.Walk.{Row, Text, one_of, rows_of}
use Rattle.clap.specs.declared.parser.matches.ArgMatches.{ArgMatches}
use Rattle.clap.proofs.WalkLemmas.{one_text-rows}
use Rattle.command_words.specs.Reads.{HoldsNumber, number_at, rows_in, value_number}

-- how a getter answers for an id
pub record Gets (E : Type 0) (G : List ℕ → Result ℕ E → Type 0) (k : ℕ) (m : ArgMatches) (id : Text) (r : Option ℕ) : Type 0 where
  pub none : one_text (found_of m) id ≡ None → r ≡ None
  pub value : (t : List ℕ) → one_text (found_of m) id ≡ Some t → ReadsOne G t r
  pub only : (u : List ℕ) (x : Result ℕ E) → G u x → ParsesUnsigned k 10 u x

got_some : (E : Type 0) (G : List ℕ → Result ℕ E → Type 0) (k : ℕ) (m : ArgMatches) (id : Text) (n : ℕ) → Gets E G k m id (Some n) → n ≡ number_at (rows_in m) id
got_some E G k m id n g = go (one_text (found_of m) id) refl
  where
    go : (o : Option Text) → one_text (found_of m) id ≡ o → n ≡ number_at (rows_in m) id
    go None e =
        let bad : Some n ≡ None = g.none e in
        cc
    go (Some t) e =
        let read : n ≡ value_number t = (g.only t (Ok n) (g.value t e)).1 in
        let same : one_of id (rows_in m) ≡ Some t = sym (one_text-rows (found_of m) id) ∙ e in
        read ∙ ap (λ o. value_number (unwrap_or o [])) (sym same)

got_none : (E : Type 0) (G : List ℕ → Result ℕ E → Type 0) (k : ℕ) (m : ArgMatches) (id : Text) → Gets E G k m id None → (low high : ℕ) → high < 2 ^ k → HoldsNumber low high (rows_in m) id → ⊥
got_none E G k m id g low high fits held =
    let failed = g.value held.0 (one_text-rows (found_of m) id ∙ held.1) in
    g.only held.0 (Err failed.0) failed.1 (held.2.0, omega (arith, held.2.3))

pub number_value : (E F : Type 0) (G : List ℕ → Result ℕ E → Type 0) (k : ℕ) (m : ArgMatches) (id : Text) (r : Option ℕ) (f : F) (result : Result ℕ F) → Gets E G k m id r → result ≡ ok_or r f
    → IfOk result (λ n. n ≡ number_at (rows_in m) id)
number_value E F G k m id None f result g e = rw e tt
number_value E F G k m id (Some n) f result g e = rw e (got_some E G k m id n g)

pub number_refused : (E F : Type 0) (G : List ℕ → Result ℕ E → Type 0) (k : ℕ) (m : ArgMatches) (id : Text) (r : Option ℕ) (f : F) (result : Result ℕ F) → Gets E G k m id r → result ≡ ok_or r f
    → IfErr result (λ _. (low high : ℕ) → high < 2 ^ k → HoldsNumber low high (rows_in m) id → ⊥)
number_refused E F G k m id None f result g e = rw e (got_none E G k m id g)
number_refused E F G k m id (Some n) f result g e = rw e tt

entered_pair : {X : Type 0} (o : Option X) (f : X → Text) (g : X → List Row) (name : Text) (rows : List Row) → Some name ≡ option_map f o → Some rows ≡ option_map (λ (p : Text × List Row). p.1) (option_map {U = Text × List Row} (λ b. (f b, g b)) o)
    → option_map {U = Text × List Row} (λ b. (f b, g b)) o ≡ Some (name, rows)
entered_pair None f g name rows e h = cc
entered_pair (Some x) f g name rows e h =
    let a : name ≡ f x = cc in
    let b : rows ≡ g x = cc in
    rw (a, b) refl

pub entered : (m : ArgMatches) (name : Text) (rows : List Row) → Some name ≡ subcommand_name_of m → Some rows ≡ option_map (λ (p : Text × List Row). p.1) (subcommand_rows_of m) → subcommand_rows_of m ≡ Some (name, rows)
entered m name rows e h = entered_pair (out-ArgMatches m).subcommand (λ b. (out-SubCommand (box_value b)).name.now) (λ b. rows_of (found_of (out-SubCommand (box_value b)).matches)) name rows e h

-- an error that is handed on is the same one
pub same_error : {B E : Type 0} (e f : E) (r : Result B E) → r ≡ Err e → r ≡ Err f → e ≡ f
same_error e f r is told = cc
