-- An instance inside another: its ports are moved to ports of the other, which are driven as they are. What no port of the first leads to
-- may stand beside them.
use Rattle.std.specs.Prelude.{◌≡◌, ℕ, false, [], ◌∷◌}
use Rattle.cx_prim.specs.Rows.{Inputs, Row}
use Rattle.cx_meaning.specs.declared.ports.PortRef.{PortRef}
use Rattle.cx_meaning.specs.declared.ports.PortRef.TheVariants as ports
use Rattle.cx_meaning.specs.declared.sights.Seen.{Seen}
use Rattle.cx_meaning.specs.declared.sights.Seen.TheVariants.{Undefined}
use Rattle.cx_meaning.specs.Instances.{Instance, part_of, cells_of, cell_at, Nothing, OfRow, OfInstance, State, under}
use Rattle.cx_meaning.specs.Active.{Active, nothing, drivers}
use Rattle.cx_meaning.specs.Sights.{Held, unheld, Sees, seen, step, target_seen, bit_of, outputs_below, part_port, is_done_cell}
use Rattle.cx_rules.specs.Footprints.{Leads}

-- a port of a cell is moved to a port of a cell that gives the same: of the same row with states that give the same outputs, or of a child
-- whose outputs are seen alike, or of no cell
pub data CellMoves (move : PortRef → PortRef) (i j : Instance) (act more : Active) (s z : State)
    (c p : ℕ) : Type 0 where
  to_row : (row : Row) (e : ℕ) → cell_at (cells_of i) c ≡ OfRow row → cell_at (cells_of j) e ≡ OfRow row
      → ((q : ℕ) → move (ports.Cell c q) ≡ ports.Cell e q)
      → ((inputs : Inputs) → row.output (s (c ∷ [])) inputs p ≡ row.output (z (e ∷ [])) inputs p)
      → CellMoves move i j act more s z c p
  to_child : (child twin : Instance) (e q : ℕ) → cell_at (cells_of i) c ≡ OfInstance child
      → cell_at (cells_of j) e ≡ OfInstance twin
      → move (ports.Cell c p) ≡ ports.Cell e q → part_port (part_of child) p ≡ part_port (part_of twin) q
      → is_done_cell act.done_cell c ≡ is_done_cell more.done_cell e
      → ((n : ℕ) (x : Seen) → Sees child unheld nothing (under c s) (ports.Output n) x →
      outputs_below (cells_of j) (λ k. under k z) e n ≡ x)
      → CellMoves move i j act more s z c p
  to_nothing : (e q : ℕ) → cell_at (cells_of i) c ≡ Nothing → cell_at (cells_of j) e ≡ Nothing
      → move (ports.Cell c p) ≡ ports.Cell e q → CellMoves move i j act more s z c p

-- a port is a target: what it is seen as is what its assignments give, and this where none is taken
abbrev pub IsTarget : Instance → Held → Active → State → Seen → PortRef → Type 0
IsTarget j held act z undriven p =
    step j held act z (seen j held act z) (outputs_below (cells_of j) (λ c. under c z)) p ≡
    target_seen undriven (seen j held act z) (drivers (part_of j) act p)

-- the ports of i that are inside are moved into j; what they lead to is inside with them
pub record Moves (move : PortRef → PortRef) (i j : Instance) (held twin_held : Held) (act more : Active)
    (s z : State) (inside : PortRef → Type 0) : Type 0 where
  pub closed : (p q : PortRef) → inside p → Leads i act p q → inside q
  pub literals : (w v : ℕ) → inside (ports.Literal w v) → move (ports.Literal w v) ≡ ports.Literal w v
  pub inputs : (n : ℕ) → inside (ports.Input n) → seen j twin_held more z (move (ports.Input n)) ≡ held n
  pub outputs : (n : ℕ) → inside (ports.Output n) → IsTarget j twin_held more z Undefined (move (ports.Output n))
  pub holes : (g : ℕ) → inside (ports.Done g) → IsTarget j twin_held more z (bit_of false) (move (ports.Done g))
  pub cells : (c p : ℕ) → inside (ports.Cell c p) → CellMoves move i j act more s z c p
  -- the assignments of the moved port give what those of the port give over the look at moved ports
  pub targets : (p : PortRef) (undriven : Seen) → inside p
      → target_seen undriven (seen j twin_held more z) (drivers (part_of j) more (move p)) ≡
      target_seen undriven (λ q. seen j twin_held more z (move q)) (drivers (part_of i) act p)
