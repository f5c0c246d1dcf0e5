use Rattle.std.proofs.Common.{◌≡◌, ◌⊎◌, ℕ, ◌<◌, Some, slice_get}
use Rattle.cx_text.specs.Members.{In}
use Rattle.cx_vnets.specs.Spans.{IsGated}
use Rattle.cx_vnets.proofs.spans.plain_of.Given as goal

abbrev pub invariant-loop-reader : goal.invariant-loop-reader
invariant-loop-reader l = (j f : ℕ) → j < l.reader-index → slice_get l.row j ≡ Some f → In l.plain.items f ⊎ IsGated l.gates l.net l.low l.high f
