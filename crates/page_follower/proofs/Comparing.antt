-- A body that comes piece by piece and is compared with one that is held.
use Rattle.std.proofs.Common.{◌≡◌, ◌≤◌, ◌↔◌, ◌+◌, ◌++◌, ◌∙◌, ℕ, Bool, IsTrue, List, length, take, drop, arith, sym, ap, length-append}
use Rattle.std.proofs.Math.Seq.{take-add, take-append_seam, drop-append_seam}
use Rattle.std.proofs.lemmas.List.{length-take-le}
use Rattle.shelf.specs.WebOutside.View.{SourceView}
use Rattle.page_follower.specs.Reading.{Got, Gives}
use Rattle.page_follower.proofs.Readings.{got_then}

-- So many bytes of a body of this size came, and it is told whether they and the size are those of the body that is held.
pub record Compared (old new : SourceView) (before after size : ℕ) (held : List ℕ) (done : ℕ) (same : Bool) : Type 0 where
  pub came : List ℕ
  pub got : Got old new before after came
  pub count : length came ≡ done
  pub within : done ≤ size
  pub says : IsTrue same → (size ≡ length held) × (take done held ≡ came)
  pub denies : size ≡ length held → take done held ≡ came → IsTrue same

-- a piece more
pub compared_more : (old mid new : SourceView) (before between after size : ℕ) (held buffer : List ℕ) (done count : ℕ) (same next : Bool)
    → Compared old mid before between size held done same → Gives mid new between after buffer count → done + count ≤ size
    → (IsTrue next → IsTrue same × (take count (drop done held) ≡ take count buffer))
    → (IsTrue same → take count (drop done held) ≡ take count buffer → IsTrue next)
    → Compared old new before after size held (done + count) next
compared_more old mid new before between after size held buffer done count same next p gives fits says denies =
    let few : length (take count buffer) ≡ count = length-take-le count buffer gives.within in
    record {
      came = p.came ++ take count buffer;
      got = got_then old mid new before between after p.came (take count buffer) p.got gives.got;
      count = let l = length-append p.came (take count buffer) in let e = p.count in omega arith;
      within = fits;
      says = λ h. ((p.says (says h).0).0, take-add done count held ∙ (λ i. (p.says (says h).0).1 i ++ (says h).1 i));
      denies = λ e f. front e (sym (take-add done count held) ∙ f);
    }
  where
    -- two lists whose fronts are as long agree in both parts
    front : size ≡ length held → take done held ++ take count (drop done held) ≡ p.came ++ take count buffer → IsTrue next
    front e f =
        let long : length (take done held) ≡ done = length-take-le done held (let w = p.within in omega arith) in
        let size_is : length p.came ≡ done = p.count in
        let first : take done held ≡ p.came =
        sym (take-append_seam (take done held) (take count (drop done held))) ∙ ap (λ l. take (length (take done held)) l) f
        ∙ ap (λ n. take n (p.came ++ take count buffer)) (long ∙ sym size_is) ∙ take-append_seam p.came (take count buffer) in
        let second : take count (drop done held) ≡ take count buffer =
        sym (drop-append_seam (take done held) (take count (drop done held))) ∙ ap (λ l. drop (length (take done held)) l) f
        ∙ ap (λ n. drop n (p.came ++ take count buffer)) (long ∙ sym size_is) ∙ drop-append_seam p.came (take count buffer) in
        denies (p.denies e first) second

-- a piece more, where it is told of the text that is held whether it goes on with the piece
pub compared_next : (old mid new : SourceView) (before between after size : ℕ) (held buffer piece : List ℕ) (done count : ℕ) (same next : Bool)
    → Compared old mid before between size held done same → Gives mid new between after buffer count → done + count ≤ size
    → piece ≡ take count buffer → (IsTrue next ↔ (IsTrue same × (take (length piece) (drop done held) ≡ piece)))
    → Compared old new before after size held (done + count) next
compared_next old mid new before between after size held buffer piece done count same next p gives fits is told =
    let few : length piece ≡ count = ap length is ∙ length-take-le count buffer gives.within in
    compared_more old mid new before between after size held buffer done count same next p gives fits
    (λ h. ((told.0 h).0, ap (λ n. take n (drop done held)) (sym few) ∙ (told.0 h).1 ∙ is))
    (λ h e. told.1 (h, ap (λ n. take n (drop done held)) few ∙ e ∙ sym is))
