use Rattle.std.proofs.Common.{◌∙◌, ap, sym, option_map, ◌&&◌, Bool, drop, suc}
use Rattle.script_nodes.specs.Views.{named_of, scripts_of, library_of}
use Rattle.replay_spec.specs.Book.{are_same}
use Rattle.shelf.proofs.Setups.{same_at}
use Rattle.shelf.proofs.present.is_same_at.Goals as goal

pub returns : goal.returns
returns c =
    let ss = scripts_of c.args.setup.now in
    let ts = (library_of c.args.library.now).setup in
    let n = c.args.place in
    let named = sym c.get.ensures ∙ ap (option_map (λ s. named_of s.now)) c.in-Some-Some.is-0 in
    let told = sym c.in-Some.ensures ∙ (sym c.get-2.ensures ∙ ap (option_map (λ s. named_of s.now)) c.in-Some-Some.is-1) in
    same_at ss ts n (named_of c.in-Some-Some.named.now) (named_of c.in-Some-Some.told.now) named told
    ∙ ap (λ (r : Bool). r && are_same (drop (suc n) ss) (drop (suc n) ts)) (sym c.is_same.ensures)
