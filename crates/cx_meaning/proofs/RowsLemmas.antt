-- Facts of what `Rows` defines, that several crates above take.
use Rattle.std.proofs.Common.{◌≡◌, ℕ, zero, suc, List, [], ◌∷◌, Some, ap, ◌<◌, length, arith, None, refl, ◌++◌}
use Rattle.std.specs.Prelude.{slice_get}
use Rattle.cx_prim.specs.declared.ports.PortRow.{PortRow}
use Rattle.cx_meaning.specs.Rows.{side_from}
use Rattle.cx_prim.specs.declared.ports.Side.TheVariants.{Output, Registered}
use Rattle.cx_prim.specs.declared.ports.Side.TheVariants as sides
use Rattle.cx_prim.specs.declared.ports.PortName.{PortName}
use Rattle.cx_prim.specs.MemoryRows.{ports_named}

pub side_at : (rows : List PortRow) (p : ℕ) (port : PortRow) → slice_get rows p ≡ Some port → side_from rows p ≡ port.side
side_at [] p port e = absurd (cc)
side_at (row ∷ rows) zero port e = let f : row ≡ port = cc in ap (λ (x : PortRow). x.side) f
side_at (row ∷ rows) (suc p) port e = side_at rows p port e

pub side_below : (list : List PortRow) (p : ℕ) → side_from list p ≡ Output → p < length list
side_below [] p e = absurd (cc)
side_below (port ∷ list) zero e = omega arith
side_below (port ∷ list) (suc p) e = let rest = side_below list p e in omega (arith, rest)

pub side_gone : (ports : List PortRow) (p : ℕ) → slice_get ports p ≡ None → Registered ≡ side_from ports p
side_gone [] p e = refl
side_gone (port ∷ ports) zero e = absurd (cc)
side_gone (port ∷ ports) (suc p) e = side_gone ports p e

-- memories: the addresses come first
pub named_plain : (list : List PortName) (widths : List ℕ) (rest : List PortRow) (m : ℕ) → m < length list → m < length widths → side_from (ports_named list widths ++ rest) m ≡ sides.Plain
named_plain [] widths rest m less few = absurd (omega arith)
named_plain (name ∷ list) [] rest m less few = absurd (omega arith)
named_plain (name ∷ list) (w ∷ widths) rest zero less few = refl
named_plain (name ∷ list) (w ∷ widths) rest (suc m) less few = named_plain list widths rest m (omega arith) (omega arith)
