use Rattle.std.proofs.Common.{◌≡◌, ℕ, ◌<◌, Some, slice_get}
use Rattle.std.specs.Prelude.{◌≢◌}
use Rattle.cx_prim.specs.declared.names.PrimitiveName.{PrimitiveName}
use Rattle.cx_prim.specs.PrimitiveNames.{name_text}
use Rattle.cx_prim.proofs.names.PrimitiveName.from_text.Given as goal

abbrev pub invariant-loop-name : goal.invariant-loop-name
invariant-loop-name l = (k : ℕ) (name : PrimitiveName) → k < l.name-index → slice_get l.name-items k ≡ Some name → name_text name ≢ l.text
