-- Cells that have other numbers: a map of cells, as a map of ports.
use Rattle.std.specs.Prelude.{◌≡◌, ℕ, [], ◌∷◌, map}
use Rattle.cx_prim.specs.Rows.{Inputs, Row}
use Rattle.cx_meaning.specs.declared.ports.PortRef.{PortRef}
use Rattle.cx_meaning.specs.declared.ports.PortRef.TheVariants as ports
use Rattle.cx_meaning.specs.declared.sights.Seen.{Seen}
use Rattle.cx_meaning.specs.Instances.{Instance, At, Nothing, OfRow, OfInstance, part_of, cells_of, cell_at, State, under}
use Rattle.cx_meaning.specs.Active.{Active, nothing, drivers}
use Rattle.cx_meaning.specs.Sights.{Held, unheld, part_port, is_done_cell, Sees, outputs_below}
use Rattle.cx_rules.specs.Footprints.{Leads}
use Rattle.cx_rewrites.specs.Moving.{moved_acting}

-- the same port, of the cell that a number stands for
abbrev pub renamed : (ℕ → ℕ) → PortRef → PortRef
renamed cell (ports.Cell c p) = ports.Cell (cell c) p
renamed cell (ports.Input n) = ports.Input n
renamed cell (ports.Output n) = ports.Output n
renamed cell (ports.Done g) = ports.Done g
renamed cell (ports.Literal w v) = ports.Literal w v

-- what stands at a cell is the same to what is seen at its ports
pub data AtLike : At → At → Type 0 where
  same_row : (row : Row) → AtLike (OfRow row) (OfRow row)
  like_child : (child other : Instance)
      → ((p : ℕ) → part_port (part_of child) p ≡ part_port (part_of other) p)
      → AtLike (OfInstance child) (OfInstance other)
  both_nothing : AtLike Nothing Nothing

-- the ports of an instance that are inside, each beside that of the renamed cell in another instance: what drives it is renamed, and the
-- same stands at both cells. Several cells may have one new number, as long as what drives one of them is not active with another's
pub record IsRenamed (i j : Instance) (cell : ℕ → ℕ) (act more : Active) (inside : PortRef → Type 0) : Type 0 where
  pub closed : (p q : PortRef) → inside p → Leads i act p q → inside q
  pub drives : (p : PortRef) → inside p → drivers (part_of j) more (renamed cell p) ≡
      map (moved_acting (renamed cell)) (drivers (part_of i) act p)
  pub cells : (c n : ℕ) → inside (ports.Cell c n) → AtLike (cell_at (cells_of i) c) (cell_at (cells_of j) (cell c))

-- and states and inputs in which their outputs are alike
pub record Renames (i j : Instance) (cell : ℕ → ℕ) (held twin_held : Held) (act more : Active)
    (s z : State) (inside : PortRef → Type 0) : Type 0 where
  pub parts : IsRenamed i j cell act more inside
  pub rows : (c n : ℕ) (row : Row) → inside (ports.Cell c n) → cell_at (cells_of i) c ≡ OfRow row
      → (inputs : Inputs) → row.output (s (c ∷ [])) inputs n ≡ row.output (z (cell c ∷ [])) inputs n
  pub dones : (c n : ℕ) → inside (ports.Cell c n) → is_done_cell act.done_cell c ≡ is_done_cell more.done_cell (cell c)
  pub inputs : (n : ℕ) → inside (ports.Input n) → twin_held n ≡ held n
  pub children : (c n : ℕ) (child : Instance) (x : Seen) → cell_at (cells_of i) c ≡ OfInstance child
      → Sees child unheld nothing (under c s) (ports.Output n) x
      → outputs_below (cells_of j) (λ e. under e z) (cell c) n ≡ x
