use Rattle.std.proofs.Common.{◌≡◌, ℕ, Some, length, slice_get}
use Rattle.cx_graphs.specs.Graphs.{edges_of, targets_of}
use Rattle.cx_vnets.specs.declared.spans.Span.{Span}
use Rattle.cx_vnets.specs.Spans.{IsSpan}
use Rattle.cx_vnets.proofs.spans.spans_of.Given as goal

abbrev pub invariant-loop-net : goal.invariant-loop-net
invariant-loop-net l = record {
  long : length l.of_nets.items ≡ l.net;
  spanned : (net : ℕ) (span : Span) → slice_get l.of_nets.items net ≡ Some (Some span) → IsSpan l.gates (targets_of (edges_of l.rows) net) net span;
}
