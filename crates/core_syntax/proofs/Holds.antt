-- What holds of a value that the table may give.
use Rattle.std.proofs.Common.{◌≡◌, Bool, true, false, Result, Ok, Err, refl}
use Rattle.std.specs.Prelude.{if◌then◌else◌, ⊤}
use Rattle.core_syntax.specs.declared.faults.SyntaxKind.{SyntaxKind}
use Rattle.script_nodes.specs.Core.{Core}
use Rattle.core_syntax.specs.Names.{◌>>=◌}
use Rattle.core_syntax.specs.Forms as spec

abbrev pub Holds : {A : Type 0} → (A → Type 0) → Result A SyntaxKind → Type 0
Holds P (Ok x) = P x
Holds P (Err k) = ⊤

pub then_holds : {A B : Type 0} (P : A → Type 0) (Q : B → Type 0) (r : Result A SyntaxKind) (f : A → Result B SyntaxKind)
    → Holds P r → ((x : A) → P x → Holds Q (f x)) → Holds Q (r >>= f)
then_holds P Q (Ok x) f h g = g x h
then_holds P Q (Err k) f h g = tt

pub made_holds : {A : Type 0} (P : A → Type 0) (Q : Core → Type 0) (r : Result A SyntaxKind) (f : A → Core)
    → Holds P r → ((x : A) → P x → Q (f x)) → Holds Q (spec.made f r)
made_holds P Q (Ok x) f h g = g x h
made_holds P Q (Err k) f h g = tt

pub any_holds : {A : Type 0} (r : Result A SyntaxKind) → Holds (λ _. ⊤) r
any_holds (Ok x) = tt
any_holds (Err k) = tt

-- a test that lets through
pub if_holds : {A : Type 0} (Q : A → Type 0) (b : Bool) (k : SyntaxKind) (r : Result A SyntaxKind) → (b ≡ false → Holds Q r) → Holds Q (if b then Err k else r)
if_holds Q true k r h = tt
if_holds Q false k r h = h refl

pub only_if : {A : Type 0} (Q : A → Type 0) (b : Bool) (k : SyntaxKind) (r : Result A SyntaxKind) → (b ≡ true → Holds Q r) → Holds Q (if b then r else Err k)
only_if Q true k r h = h refl
only_if Q false k r h = tt

pub either : {A : Type 0} (Q : A → Type 0) (b : Bool) (r q : Result A SyntaxKind) → Holds Q r → Holds Q q → Holds Q (if b then r else q)
either Q true r q h k = h
either Q false r q h k = k
