-- How many bytes decide.
use Rattle.std.proofs.Common.{◌≡◌, ◌≤◌, ◌<◌, ◌+◌, ◌-◌, ◌++◌, ℕ, List, [], Bool, true, false, length, take, drop, nat_le, Some, None, Result, Ok, Err, arith, refl, sym, subst, length-append, append-nil}
use Rattle.std.proofs.lemmas.Bool.Decides.{nat_tests}
use Rattle.std.proofs.lemmas.List.{take-append-le, length-drop}
use Rattle.httparse.specs.Spans.{IsWithin}
use Rattle.http_forms.specs.Head.{head_end, without_blank}
use Rattle.http_forms.specs.Judged.{asked_of}
use Rattle.http_forms.specs.Rows.{Asked, Judges}
use Rattle.http_forms.specs.Request.{unfinished, refused, visit_of, with_head, DecidesAt, Decides}
use Rattle.http_forms.specs.Progress.{IsDecided, IsDecidedAt, HasHead, Suffices, lines_in}
use Rattle.http_forms.specs.declared.progress.ReadHead.{ReadHead}
use Rattle.http_forms.specs.declared.refused.Refused.{Refused}
use Rattle.http_forms.specs.declared.refused.Refused.TheVariants.{Head}
use Rattle.http_forms.proofs.Ends.{head_inside, head_stays}
use Rattle.http_forms.proofs.Decisions.{requests_stand_alone, refused_long}

-- ---- what is known at first

-- no end of a head in 16,384 bytes
pub endless : (bytes : List ℕ) → head_end bytes ≡ None → 16384 ≤ length bytes → Decides bytes false (refused Head)
endless bytes none h = subst (λ e. DecidesAt e bytes false (refused Head)) (sym none) (sym (refused_long (length bytes) false h))

-- a head that is refused
pub refused_head : (bytes : List ℕ) (n : ℕ) (r : Refused) → head_end bytes ≡ Some n → Judges (take n bytes) (Err r) → Decides bytes false (refused r)
refused_head bytes n r is judges = subst (λ e. DecidesAt e bytes false (refused r)) (sym is) (Err r, judges, refl)

-- ---- and goes on to be known

pub refused_stays : (bytes more : List ℕ) (r : Refused) → Decides bytes false (refused r) → Decides (bytes ++ more) false (refused r)
refused_stays bytes more r d = requests_stand_alone bytes more false (refused r) d (λ e. cc)

pub head_more : (head : ReadHead) (bytes more : List ℕ) → HasHead head bytes → HasHead head (bytes ++ more)
head_more head bytes more h =
    let front : take head.end (bytes ++ more) ≡ take head.end bytes = take-append-le head.end bytes more (head_inside bytes head.end h.end) in
    record {
      end = head_stays bytes more head.end h.end;
      short = h.short;
      target = subst (λ (xs : List ℕ). IsWithin (length (without_blank xs)) head.asked.target) (sym front) h.target;
      judges = subst (λ (xs : List ℕ). Judges xs (Ok (asked_of (without_blank xs) head.asked))) (sym front) h.judges;
    }

-- ---- how many bytes decide

-- a head that is over
known : (bytes : List ℕ) (n : ℕ) (judged : Result Asked Refused) → head_end bytes ≡ Some n → Judges (take n bytes) judged
    → (ended : Bool) → Decides bytes ended (with_head n judged (drop n bytes) ended)
known bytes n judged is judges ended =
    subst (λ w. DecidesAt w bytes ended (with_head n judged (drop n bytes) ended)) (sym is) (judged, judges, refl)

-- with its body
pub whole_body : (head : ReadHead) (bytes : List ℕ) → HasHead head bytes → (ended : Bool) → head.end + head.asked.length ≤ length bytes
    → Decides bytes ended (visit_of (head.end + head.asked.length) (asked_of (lines_in head.end bytes) head.asked) (take head.asked.length (drop head.end bytes)))
whole_body head bytes h ended fits =
    let asked = asked_of (lines_in head.end bytes) head.asked in
    let behind = drop head.end bytes in
    let test : nat_le head.asked.length (length behind) ≡ true = grind (arith, nat_tests, fits, length-drop head.end bytes) in
    let outcome : with_head head.end (Ok asked) behind ended ≡ visit_of (head.end + head.asked.length) asked (take head.asked.length behind) = rw test refl in
    subst (Decides bytes ended) outcome (known bytes head.end (Ok asked) h.end h.judges ended)

-- with a part of it
pub part_of_body : (head : ReadHead) (bytes : List ℕ) → HasHead head bytes → length bytes < head.end + head.asked.length → Decides bytes false unfinished
part_of_body head bytes h few =
    let asked = asked_of (lines_in head.end bytes) head.asked in
    let behind = drop head.end bytes in
    let inside = head_inside bytes head.end h.end in
    let test : nat_le head.asked.length (length behind) ≡ false = grind (arith, nat_tests, few, inside, length-drop head.end bytes) in
    let outcome : with_head head.end (Ok asked) behind false ≡ unfinished = rw test refl in
    subst (Decides bytes false) outcome (known bytes head.end (Ok asked) h.end h.judges false)

pub sized : (head : ReadHead) (bytes : List ℕ) → HasHead head bytes → IsDecidedAt (head.end + head.asked.length) bytes
sized head bytes h = record {
  whole = λ more fits. record {
    outcome = visit_of (head.end + head.asked.length) (asked_of (lines_in head.end (bytes ++ more)) head.asked) (take head.asked.length (drop head.end (bytes ++ more)));
    decides = whole_body head (bytes ++ more) (head_more head bytes more h) false fits;
    finished = λ e. cc;
  };
  short = λ more few. part_of_body head (bytes ++ more) (head_more head bytes more h) few;
}

pub refused_decided : (bytes : List ℕ) (r : Refused) → Decides bytes false (refused r) → IsDecided bytes
refused_decided bytes r d = record { outcome = refused r; decides = d; finished = λ e. cc }

pub decided_here : (total : ℕ) (bytes : List ℕ) → IsDecidedAt total bytes → total - length bytes ≡ 0 → IsDecided bytes
decided_here total bytes d h = subst IsDecided (append-nil bytes) (d.whole [] (omega (arith, length-append bytes [])))

pub short_of : (total : ℕ) (bytes more : List ℕ) → IsDecidedAt total bytes → length more < total - length bytes → Decides (bytes ++ more) false unfinished
short_of total bytes more d h = d.short more (omega (arith, length-append bytes more))

pub enough_of : (total : ℕ) (bytes : List ℕ) → IsDecidedAt total bytes → Suffices (total - length bytes) bytes
enough_of total bytes d = λ more ends h. d.whole more (omega (arith, length-append bytes more))

pub enough_refused : (bytes : List ℕ) (r : Refused) → Decides bytes false (refused r) → Suffices 0 bytes
enough_refused bytes r d = λ more ends h. refused_decided (bytes ++ more) r (refused_stays bytes more r d)
