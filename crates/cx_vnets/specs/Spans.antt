-- Nets that are read behind many gates.
use Rattle.std.specs.Prelude.{◌≡◌, ◌≢◌, ◌⊎◌, ◌<◌, ◌≤◌, ℕ, List, Option, Some, length, slice_get}
use Rattle.cx_text.specs.Members.{In}
use Rattle.cx_graphs.specs.Graphs.{Edges, edges_of, targets_of}
use Rattle.cx_vnets.specs.declared.spans.Span.{Span}
use Rattle.cx_vnets.specs.declared.spans.Spans.{Spans}
use Rattle.cx_vnets.specs.Carriers.{AreListedBy}
use Rattle.cx_vnets.specs.Gates.{IsKnownZero}

-- a gate is another net than the one that is read, and lies from one net up to another
pub record IsWithin (net low high gate : ℕ) : Type 0 where
  pub other : gate ≢ net
  pub from : low ≤ gate
  pub to : gate < high

-- a reader of a net has such a gate
pub record IsGated (gates : List (Option ℕ)) (net low high f : ℕ) : Type 0 where
  pub gate : ℕ
  pub has : slice_get gates f ≡ Some (Some gate)
  pub within : IsWithin net low high gate

-- each reader of a net has a gate in its span, or is listed beside it
abbrev pub IsSpan : List (Option ℕ) → List ℕ → ℕ → Span → Type 0
IsSpan gates row net span = (f : ℕ) → In row f → In span.plain.items f ⊎ IsGated gates net span.low span.high f

pub record SpansStand (gates : List (Option ℕ)) (rows : Edges) (t : Spans) : Type 0 where
  pub spanned : (net : ℕ) (span : Span) → slice_get t.of_nets.items net ≡ Some (Some span)
      → IsSpan gates (targets_of rows net) net span
  pub gated : AreListedBy gates (edges_of t.gated.items)

-- there are a byte and a row for each net of a span
pub record IsInTables (t : Spans) (nonzero : List ℕ) (span : Span) : Type 0 where
  pub order : span.low ≤ span.high
  pub bytes : span.high ≤ length nonzero
  pub rows : span.high ≤ length t.gated.items

-- where a gate of the net lies from one net up to another, it is known to be 0
abbrev pub NotBehind : Edges → List ℕ → ℕ → ℕ → ℕ → Type 0
NotBehind gated nonzero low high f =
    (gate : ℕ) → low ≤ gate → gate < high → In (targets_of gated gate) f → IsKnownZero nonzero gate
