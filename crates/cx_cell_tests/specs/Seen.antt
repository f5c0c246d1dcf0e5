-- What the tests ask of one port before a step.
use Rattle.std.specs.Prelude.{◌≡◌, ℕ, true, Some, IsSome, slice_get}
use Rattle.cx_prim.specs.declared.ports.PortRow.{PortRow}
use Rattle.cx_prim.specs.declared.ports.Side.TheVariants.{Enable, Plain}
use Rattle.cx_prim.specs.CellStates.{CellState}
use Rattle.cx_prim.specs.Rows.{Inputs, input, Row}

-- a value stands at port n, where an edge looks at it
pub record IsSeenAt (r : Row) (state : CellState) (inputs : Inputs) (n : ℕ) : Type 0 where
  pub enabling : (port : PortRow) → slice_get r.ports n ≡ Some port → port.side ≡ Enable → IsSome (input inputs n)
  pub demanded : (port : PortRow) → slice_get r.ports n ≡ Some port → port.side ≡ Plain
      → r.demands state inputs n ≡ true → IsSome (input inputs n)
