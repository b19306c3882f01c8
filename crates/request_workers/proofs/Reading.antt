-- Bytes that are read towards a request.
use Rattle.std.proofs.Common.{◌≡◌, ◌≤◌, ◌<◌, ◌+◌, ◌-◌, ◌++◌, ℕ, List, [], Bool, true, false, length, take, drop, nat_lt, Option, Ok, Err, arith, refl, sym, ap, ◌∙◌, subst, length-append, length-drop}
use Rattle.std.proofs.lemmas.Bool.Decides.{nat_tests}
use Rattle.std.proofs.Math.Seq.{take-append_seam}
use Rattle.std.proofs.lemmas.List.{take-append-drop, take-append-le}
use Rattle.std.specs.Io.KnownBytes.{Consumes, Keeps}
use Rattle.web_outside.proofs.Consumed.{consumes_then}
use Rattle.http_forms.specs.Request.{unfinished, Decides}
use Rattle.http_forms.specs.Progress.{IsDecided, Follows, Knows}
use Rattle.http_forms.specs.declared.progress.RequestScanner.{RequestScanner}
use Rattle.http_forms.proofs.Bounds.{unfinished_bound}
use Rattle.http_forms.proofs.Pieces.{consumes_none, consumes_kept, still_open, Says}
use Rattle.request_workers.specs.Bytes.{NeedsAll, Takes, ReadsPiece, ReadsAll}
use Rattle.http_forms.specs.declared.reader.ReadStop.{ReadStop}
use Rattle.http_forms.specs.declared.reader.ReadStop.TheVariants.{Failed, Memory}

-- ---- pieces after one another

-- bytes none of which is too many, and a piece no longer than is wanted
pub needs_more : (bytes piece : List ℕ) (wanted : ℕ) → NeedsAll bytes
    → ((more : List ℕ) → length more < wanted → Decides (bytes ++ more) false unfinished)
    → length piece ≤ wanted → NeedsAll (bytes ++ piece)
needs_more bytes piece wanted needed short within front rest is some = by_size (nat_lt (length front) (length bytes)) refl
  where
    by_size : (b : Bool) → nat_lt (length front) (length bytes) ≡ b → Decides front false unfinished
    by_size true e =
        let less : length front < length bytes = grind (arith, nat_tests, e) in
        let front_is : take (length front) bytes ≡ front =
        sym (take-append-le (length front) bytes piece (omega arith)) ∙ (ap (take (length front)) is ∙ take-append_seam front rest) in
        needed front (drop (length front) bytes)
        (sym (take-append-drop (length front) bytes) ∙ ap (λ w. w ++ drop (length front) bytes) front_is)
        (omega (arith, length-drop (length front) bytes))
    by_size false e =
        let less : length bytes ≤ length front = grind (arith, nat_tests, e) in
        let bytes_are : take (length bytes) front ≡ bytes =
        sym (take-append-le (length bytes) front rest less) ∙ (ap (take (length bytes)) (sym is) ∙ take-append_seam bytes piece) in
        let front_is : bytes ++ drop (length bytes) front ≡ front =
        ap (λ w. w ++ drop (length bytes) front) (sym bytes_are) ∙ take-append-drop (length bytes) front in
        let lengths : length bytes + length piece ≡ length front + length rest =
        sym (length-append bytes piece) ∙ (ap length is ∙ length-append front rest) in
        subst (λ w. Decides w false unfinished) front_is
        (short (drop (length bytes) front) (omega (arith, length-drop (length bytes) front, lengths, within, some)))

-- how far the reading has come: bytes were read and none too many, the scanner has followed them, and so many more are wanted
pub record Came (old new : Option (List ℕ)) (bytes : List ℕ) (scanner : RequestScanner) (wanted before now : ℕ) : Type 0 where
  pub taken : Takes old new bytes
  pub follows : (more : List ℕ) → Follows scanner (bytes ++ more)
  pub knows : Knows scanner bytes
  pub decided : wanted ≡ 0 → IsDecided bytes
  pub short : (more : List ℕ) → length more < wanted → Decides (bytes ++ more) false unfinished
  pub later : before ≤ now

-- nothing was read yet
begins : (known : Option (List ℕ)) (bytes : List ℕ) → bytes ≡ [] → Takes known known bytes
begins known bytes e = subst (Takes known known) (sym e) (record {
  consumed = consumes_none known;
  needed = λ front rest is some. let l : 0 ≡ length front + length rest = ap length is ∙ length-append front rest in absurd (omega (arith, l, some));
})

-- a piece more was read
pub takes_more : (old mid new : Option (List ℕ)) (bytes piece : List ℕ) (scanner : RequestScanner) (wanted before now : ℕ)
    → Came old mid bytes scanner wanted before now → Consumes mid new piece → length piece ≤ wanted → Takes old new (bytes ++ piece)
takes_more old mid new bytes piece scanner wanted before now came more within = record {
  consumed = consumes_then old mid new bytes piece came.taken.consumed more;
  needed = needs_more bytes piece wanted came.taken.needed came.short within;
}

-- nothing more was read
pub takes_same : (old mid new : Option (List ℕ)) (bytes : List ℕ) → Takes old mid bytes → Keeps mid new → Takes old new bytes
takes_same old mid new bytes taken kept = record { consumed = consumes_kept old mid new bytes taken.consumed kept; needed = taken.needed }

-- bytes were taken, and shown to the scanner
pub came : (old new : Option (List ℕ)) (bytes shown : List ℕ) (scanner : RequestScanner) (wanted before now : ℕ)
    → Takes old new bytes → shown ≡ bytes → Says scanner wanted shown → before ≤ now → Came old new bytes scanner wanted before now
came old new bytes shown scanner wanted before now taken is says later =
    let here : Says scanner wanted bytes = subst (Says scanner wanted) is says in
    record { taken = taken; follows = here.goes_on; knows = here.knows; decided = here.decided; short = here.short; later = later }

pub came_first : (known : Option (List ℕ)) (bytes shown : List ℕ) (scanner : RequestScanner) (wanted count : ℕ)
    → bytes ≡ [] → shown ≡ bytes → Says scanner wanted shown → Came known known bytes scanner wanted count count
came_first known bytes shown scanner wanted count none is says =
    came known known bytes shown scanner wanted count count (begins known bytes none) is says (omega arith)

-- what was read, where the reading stopped in a piece
pub stopped : (old mid new : Option (List ℕ)) (bytes after : List ℕ) (scanner : RequestScanner) (wanted before now : ℕ) (stop : ReadStop)
    → Came old mid bytes scanner wanted before now → 0 < wanted → ReadsPiece mid new bytes after wanted (Err stop)
    → ReadsAll old new after (Err stop)
stopped old mid new bytes after scanner wanted before now Failed came some (kept, same) = (
  subst (Takes old new) (sym same) (takes_same old mid new bytes came.taken kept),
  subst (λ w. Decides w false unfinished) (sym same) (still_open bytes wanted came.short some),
)
stopped old mid new bytes after scanner wanted before now Memory came some (piece, more, within) =
    (bytes ++ piece, takes_more old mid new bytes piece scanner wanted before now came more within)

-- a piece more was read, and shown to the scanner
pub came_more : (old mid new : Option (List ℕ)) (bytes after shown : List ℕ) (scanner scanner' : RequestScanner)
    (wanted wanted' before now now' count : ℕ)
    → Came old mid bytes scanner wanted before now → ReadsPiece mid new bytes after wanted (Ok count)
    → shown ≡ after → Says scanner' wanted' shown → now ≤ now' → Came old new after scanner' wanted' before now'
came_more old mid new bytes after shown scanner scanner' wanted wanted' before now now' count here (piece, more, is, size, within, end) seen says later =
    let l = here.later in
    came old new after shown scanner' wanted' before now'
    (subst (Takes old new) (sym is) (takes_more old mid new bytes piece scanner wanted before now here more (omega (arith, size, within))))
    seen says (omega (arith, l, later))

-- a piece that is not empty brings the bytes nearer to the most that may be unfinished
pub nearer : (mid new : Option (List ℕ)) (bytes after : List ℕ) (wanted count : ℕ) → ReadsPiece mid new bytes after wanted (Ok count)
    → (count ≡ 0 → ⊥) → Decides bytes false unfinished → 81920 - length after < 81920 - length bytes
nearer mid new bytes after wanted count (piece, more, is, size, within, end) some still =
    let b = unfinished_bound bytes still in
    let l : length after ≡ length bytes + length piece = ap length is ∙ length-append bytes piece in
    let s : 0 < count = grind (arith, some) in
    omega (arith, b, l, s, size)
