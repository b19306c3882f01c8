use Rattle.std.proofs.Common.{◌≡◌, ◌+◌, ℕ, suc, List, ◌++◌, ◌∷◌, [], ap, ◌∙◌, arith}
use Rattle.rand_chacha.specs.ChaCha.{ChaCha, of_seed}
use Rattle.machine_outside.specs.declared.machine.StreamNonces.{StreamNonces}
use Rattle.machine_outside.specs.Streams.{source_of, sources_of}
use Rattle.machine_outside.proofs.machine.sources_of.Goals as goal

abbrev as_source : ChaCha → StreamNonces
as_source words = record { words = words }

abbrev on_stream : ℕ → ChaCha → ChaCha
on_stream stream words = record words { stream = stream }

-- a seed whose stream was set gives the source of that stream
of_stream : (key : List ℕ) (seeded set : ChaCha) (stream number : ℕ) → seeded ≡ of_seed key → set ≡ on_stream stream seeded
    → stream ≡ number → as_source set ≡ source_of key number
of_stream key seeded set stream number from at is =
    ap as_source (at ∙ (ap (on_stream stream) from ∙ ap (λ n. on_stream n (of_seed key)) is))

one_more : (key : List ℕ) (count : ℕ) → sources_of key count ++ source_of key count ∷ [] ≡ sources_of key (count + 1)
one_more key count = let e : suc count ≡ count + 1 = omega arith in ap (sources_of key) e

pub loop-stream-preserved : goal.loop-stream-preserved
loop-stream-preserved c =
    let before = c.loop-stream.invariant in
    let one = of_stream c.args.key _ _ _ c.loop-stream.stream c.from_seed-words.ensures c.set_stream.ensures c.from.ensures in (
      c.in_ok-push.ensures.items ∙ (ap (λ w. w ++ as_source c.set_stream.new.self ∷ []) before.0
          ∙ (ap (λ w. sources_of c.args.key c.loop-stream.stream ++ w ∷ []) one ∙ one_more c.args.key c.loop-stream.stream)),
      (let l = c.in_ok-push.ensures.len in let b = before.1 in omega (arith, l, b)),
    )
