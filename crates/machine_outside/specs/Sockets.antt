-- What contracts see of the real streams and the real door.
use Rattle.std.specs.Prelude.{◌≡◌, ℕ, List, sum_by, Option, None}
use Rattle.web_outside.specs.View.{SourceView, SinkView, LinkView, PorchView}
use Rattle.machine_outside.specs.declared.adapters.Reading.{Reading}
use Rattle.machine_outside.specs.declared.adapters.Writing.{Writing}
use Rattle.machine_outside.specs.declared.link.SocketLink.{SocketLink}
use Rattle.machine_outside.specs.declared.porch.SocketPorch.{SocketPorch}
use Rattle.machine_outside.specs.Buffers.{ahead_view, together_view}

-- what contracts see of a stream that is read: the bytes that are left, where these are told, and its faults
abbrev pub reading_view : {R : Type 0} → (remaining : R → Option (List ℕ)) → Reading R → SourceView
reading_view remaining s = record { left = remaining s.inner; faults = s.count }

-- what contracts see of a stream that is written: the bytes that were written, where these are told, and its faults
abbrev pub writing_view : {W : Type 0} → (contents : W → Option (List ℕ)) → Writing W → SinkView
writing_view contents s = record { written = contents s.inner; handed = None; faults = s.count }

-- a socket tells no bytes
abbrev pub link_view : {C : Type 0} → SocketLink C → LinkView
link_view link = record {
  input = ahead_view (reading_view (λ _. None)) link.input;
  output = together_view (writing_view (λ _. None)) link.output;
}

-- a porch of sockets tells no links
abbrev pub porch_view : {R L : Type 0} → SocketPorch R → PorchView L
porch_view porch = record {
  coming = None;
  served = None;
  given = porch.given;
  most = porch.most;
  lent = porch.lent;
  faults = porch.faults;
}

-- how often calls of porches failed
abbrev pub faults_in : {R : Type 0} → List (SocketPorch R) → ℕ
faults_in porches = sum_by (λ porch. porch.faults) porches

-- a porch that gave no link yet, gives at most so many, and counts no fault
pub record IsOpened {R : Type 0} (connections : ℕ) (porch : SocketPorch R) : Type 0 where
  pub given : porch.given ≡ 0
  pub most : porch.most ≡ connections
  pub faults : porch.faults ≡ 0
