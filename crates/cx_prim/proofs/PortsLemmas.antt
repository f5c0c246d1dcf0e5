-- Facts of what `Ports` defines, that several crates above take.
use Rattle.std.proofs.Common.{◌≡◌, ℕ, zero, suc, ◌<◌, List, [], ◌∷◌, Some, length, arith, true, refl, ◌≤◌}
use Rattle.std.specs.Prelude.{slice_get}
use Rattle.cx_prim.specs.declared.ports.PortRow.{PortRow}
use Rattle.cx_prim.specs.declared.ports.Side.{Side}
use Rattle.cx_prim.specs.declared.ports.Side.TheVariants as sides
use Rattle.cx_prim.specs.Rows.{is_enable_side}
use Rattle.cx_prim.specs.declared.ports.PortName.{PortName}
use Rattle.cx_prim.specs.MemoryRows.{ports_named}

pub port_below : (xs : List PortRow) (n : ℕ) (port : PortRow) → slice_get xs n ≡ Some port → n < length xs
port_below [] n port e = absurd (cc)
port_below (x ∷ xs) zero port e = omega arith
port_below (x ∷ xs) (suc n) port e = let h = port_below xs n port e in omega (arith, h)

pub is_enable_side-Enable : (side : Side) → is_enable_side side ≡ true → side ≡ sides.Enable
is_enable_side-Enable sides.Enable e = refl
is_enable_side-Enable sides.Plain e = absurd (cc)
is_enable_side-Enable sides.Output e = absurd (cc)
is_enable_side-Enable sides.Registered e = absurd (cc)

-- memories
pub named_few : (names : List PortName) (widths : List ℕ) → length (ports_named names widths) ≤ length names
named_few [] widths = omega arith
named_few (name ∷ names) [] = omega arith
named_few (name ∷ names) (w ∷ widths) = let h = named_few names widths in omega (arith, h)
