-- The verdict on a head.
use Rattle.std.proofs.Common.{◌≡◌, ◌≤◌, ◌+◌, ◌-◌, ◌^◌, ◌++◌, ◌∷◌, ℕ, List, [], Bool, true, false, Option, Some, None, Result, Ok, Err, codes, length, map, take, drop, min, arith, refl, sym, ap, ◌∙◌, subst, append-nil, append_assoc, length-append, nat_lt, cond}
use Rattle.std.proofs.lemmas.List.{drop_all}
use Rattle.std.proofs.lemmas.List.Sums.{sum_by-append}
use Rattle.httparse.specs.declared.spans.HeaderSpan.{HeaderSpan}
use Rattle.httparse.specs.declared.spans.RequestSpans.{RequestSpans}
use Rattle.std.proofs.lemmas.Bool.Decides.{nat_tests}
use Rattle.std.specs.List.{count_by, flat_map}
use Rattle.httparse.specs.Grammar.{LineEnd, crlf, lf, Field, RequestHead, ReadsRequest, print_request, print_end, print_field, print_section, print_blank, print_version}
use Rattle.httparse.specs.Spans.{IsRequestAt, IsRequestOf, RequestOverflows, header_bytes, span_bytes}
use Rattle.httparse.proofs.GrammarLemmas.{request_unique, print_request-append}
use Rattle.http_forms.specs.Head.{is_line_feed, field_lines}
use Rattle.http_forms.specs.Rows.{Asked, body_verdict, length_verdict, lacks_host, closes_by, fields_verdict, head_verdict, IsParsed}
use Rattle.http_forms.specs.Fields.{values_of, is_none, announced}
use Rattle.http_forms.specs.Found.{capped}
use Rattle.http_forms.specs.declared.refused.Refused.{Refused}

same_number : (method target : List ℕ) (types : List (List ℕ)) (closes : Bool) (n : ℕ) → body_verdict method target types closes (Some (min n (2 ^ 32 - 1))) ≡ body_verdict method target types closes (Some n)
same_number method target types closes n = by_size n (nat_lt 65536 n) refl
  where
    by_size : (n : ℕ) (b : Bool) → nat_lt 65536 n ≡ b → body_verdict method target types closes (Some (min n (2 ^ 32 - 1))) ≡ body_verdict method target types closes (Some n)
    by_size n true e = (let f : nat_lt 65536 (min n (2 ^ 32 - 1)) ≡ true = grind (arith, nat_tests, e) in rw (e, f) refl)
    by_size n false e = (let f : min n (2 ^ 32 - 1) ≡ n = grind (arith, nat_tests, e) in ap (λ (k : ℕ). body_verdict method target types closes (Some k)) f)

-- a length above 2^32 - 1 is too large, as that number is
pub capped_verdict : (method target : List ℕ) (types : List (List ℕ)) (closes : Bool) (o : Option ℕ) (r : Result (Option ℕ) Refused) → Ok o ≡ capped r
    → body_verdict method target types closes o ≡ length_verdict method target types closes r
capped_verdict method target types closes o (Ok None) h = (let e : o ≡ None = cc in ap (body_verdict method target types closes) e)
capped_verdict method target types closes o (Ok (Some n)) h = (let e : o ≡ Some (min n (2 ^ 32 - 1)) = cc in ap (body_verdict method target types closes) e ∙ same_number method target types closes n)
capped_verdict method target types closes o (Err r) h = absurd (cc)

-- fields with a Host where it is due and without a Transfer-Encoding
pub fields_pass : (minor : ℕ) (method target : List ℕ) (fields : List (List ℕ × List ℕ)) (verdict : Result Asked Refused)
    → lacks_host minor fields ≡ false → is_none (values_of (codes "Transfer-Encoding") fields) ≡ true
    → verdict ≡ length_verdict method target (values_of (codes "Content-Type") fields) (closes_by minor fields) (announced (values_of (codes "Content-Length") fields))
    → verdict ≡ fields_verdict minor method target fields
fields_pass minor method target fields verdict host plain is = is ∙ sym (rw (host, plain) refl)

feeds : List ℕ → ℕ
feeds bytes = count_by is_line_feed bytes

feeds_of_both : (xs ys : List ℕ) → feeds (xs ++ ys) ≡ feeds xs + feeds ys
unfolding feeds
feeds_of_both xs ys = sum_by-append (λ x. cond (is_line_feed x) 1 0) xs ys

feed_at_end : (end : LineEnd) → feeds (print_end end) ≡ 1
unfolding feeds
feed_at_end crlf = refl
feed_at_end lf = refl

feed_of_field : (f : Field) → 1 ≤ feeds (print_field f)
feed_of_field f =
    let e : print_field f ≡ f.name ++ ((58 ∷ f.raw) ++ print_end f.end) = simp append_assoc in
    omega (arith, ap feeds e, feeds_of_both f.name ((58 ∷ f.raw) ++ print_end f.end), feeds_of_both (58 ∷ f.raw) (print_end f.end), feed_at_end f.end)

feeds_of_section : (fields : List Field) (last : LineEnd) → length fields + 1 ≤ feeds (print_section fields last)
feeds_of_section [] last = omega (arith, feed_at_end last)
feeds_of_section (f ∷ fields) last =
    let e : print_section (f ∷ fields) last ≡ print_field f ++ print_section fields last = append_assoc (print_field f) (flat_map print_field fields) (print_end last) in
    omega (arith, ap feeds e, feeds_of_both (print_field f) (print_section fields last), feed_of_field f, feeds_of_section fields last)

-- the first line, each field line and the empty line end with a line feed
pub lines_of : (h : RequestHead) (bytes : List ℕ) → ReadsRequest bytes h [] → length h.fields ≤ field_lines bytes
unfolding feeds
lines_of h bytes reads =
    let tail = print_section h.fields h.last in
    let ended = print_end h.line_end ++ (tail ++ []) in
    let spelled = print_version h.minor ++ ended in
    let e : bytes ≡ print_blank h.blank ++ (h.method ++ 32 ∷ (h.target ++ 32 ∷ spelled)) = reads.1 ∙ print_request-append h [] in
    omega (
      arith,
      ap feeds e,
      feeds_of_both (print_blank h.blank) (h.method ++ 32 ∷ (h.target ++ 32 ∷ spelled)),
      feeds_of_both h.method (32 ∷ (h.target ++ 32 ∷ spelled)),
      feeds_of_both (32 ∷ []) (h.target ++ 32 ∷ spelled),
      feeds_of_both h.target (32 ∷ spelled),
      feeds_of_both (32 ∷ []) spelled,
      feeds_of_both (print_version h.minor) ended,
      feeds_of_both (print_end h.line_end) (tail ++ []),
      feeds_of_both tail [],
      feed_at_end h.line_end,
      feeds_of_section h.fields h.last,
    )

-- ---- what `httparse` answers

-- a head that ends before the bytes do is not the whole of them
pub cut_short : (bytes : List ℕ) (headers : List HeaderSpan) (r : RequestSpans) → IsRequestOf bytes headers r → (r.len ≡ length bytes → ⊥) → IsParsed bytes None
cut_short bytes headers r (k, at) differs h reads =
    let ends : drop r.len bytes ≡ [] = (request_unique bytes k h (drop r.len bytes) [] at.reads reads).1 in
    differs (omega (arith, at.len, ap length at.reads.1, length-append (print_request k) (drop r.len bytes), ap length ends))

pub whole_head : (bytes : List ℕ) (headers : List HeaderSpan) (r : RequestSpans) (h : RequestHead) → IsRequestAt bytes headers r h → r.len ≡ length bytes → ReadsRequest bytes h []
whole_head bytes headers r h at same = subst (ReadsRequest bytes h) (drop_all r.len bytes (omega arith)) at.reads

-- what the spans of a head say of it
pub verdict_of : (lines : List ℕ) (headers : List HeaderSpan) (r : RequestSpans) (h : RequestHead) (method : List ℕ) (verdict : Result Asked Refused)
    → IsRequestAt lines headers r h → method ≡ span_bytes lines r.method
    → verdict ≡ fields_verdict r.version method (span_bytes lines r.path) (map (header_bytes lines) (take r.headers headers)) → verdict ≡ head_verdict (Some h)
verdict_of lines headers r h method verdict at is said =
    let a : method ≡ h.method = is ∙ at.method in
    said ∙ (ap (λ (n : ℕ). fields_verdict n method (span_bytes lines r.path) (map (header_bytes lines) (take r.headers headers))) at.version
    ∙ (ap (λ (m : List ℕ). fields_verdict h.minor m (span_bytes lines r.path) (map (header_bytes lines) (take r.headers headers))) a
    ∙ (ap (λ (t : List ℕ). fields_verdict h.minor h.method t (map (header_bytes lines) (take r.headers headers))) at.path
    ∙ ap (fields_verdict h.minor h.method h.target) at.fields)))

-- a head that has no room for its fields has too many lines
pub none_fits : (bytes : List ℕ) (room : ℕ) → room ≡ 64 → field_lines bytes ≤ 64 → RequestOverflows room bytes → IsParsed bytes None
none_fits bytes room is few overflows h reads =
    let many = overflows [] h [] (subst (λ (b : List ℕ). ReadsRequest b h []) (sym (append-nil bytes)) reads) in
    omega (arith, many, lines_of h bytes reads)
