-- Where the cells of a component stand in its flat form, and where its ports do.
use Rattle.std.specs.Prelude.{ℕ, zero, suc, ◌+◌, ◌-◌, List, [], ◌∷◌, Option, Some, None, length, slice_get}
use Rattle.cx_meaning.specs.declared.ports.PortRef.{PortRef}
use Rattle.cx_meaning.specs.declared.ports.PortRef.TheVariants as ports
use Rattle.cx_meaning.specs.Designs.{PlainCell, PlainComponent}
use Rattle.cx_flattening.specs.Flattened.{Kids, kept, behind, block_size}
use Rattle.cx_flat.specs.declared.stands.Block.{Block}
use Rattle.cx_flat.specs.declared.stands.Stand.{Stand}
use Rattle.cx_flat.specs.declared.stands.Stand.TheVariants.{Kept, Inlined}

abbrev pub block_of : PlainComponent → ℕ → Block
block_of child from = record { cells = from; wires = from + length child.cells; inputs = length child.inputs }

abbrev pub stand_of : Option PlainComponent → ℕ → ℕ → Stand
stand_of None kept block = Kept kept
stand_of (Some child) kept block = Inlined (block_of child block)

-- so many are kept before, and the next block stands there
abbrev pub stands_from : ℕ → ℕ → Kids → List Stand
stands_from n b [] = []
stands_from n b (k ∷ ks) = stand_of k n b ∷ stands_from (behind k n) (b + block_size k) ks

abbrev pub stands_of : Kids → List PlainCell → List Stand
stands_of kids cells = stands_from 0 (length (kept kids cells)) kids

-- PORTS of the component. A cell that is not there would stand behind those that are kept
abbrev pub behind_stand : Stand → ℕ → ℕ
behind_stand (Kept n) c = suc c
behind_stand (Inlined block) c = c

abbrev pub kept_by : List Stand → ℕ → ℕ
kept_by [] c = c
kept_by (s ∷ ss) zero = 0
kept_by (s ∷ ss) (suc c) = behind_stand s (kept_by ss c)

abbrev pub stand_port : Option Stand → ℕ → ℕ → PortRef
stand_port None c p = ports.Cell c p
stand_port (Some (Kept n)) c p = ports.Cell n p
stand_port (Some (Inlined block)) c p = ports.Cell (block.wires + (p - 1 - block.inputs)) 1

abbrev pub own_by : List Stand → PortRef → PortRef
own_by stands (ports.Cell c p) = stand_port (slice_get stands c) (kept_by stands c) p
own_by stands (ports.Input n) = ports.Input n
own_by stands (ports.Output n) = ports.Output n
own_by stands (ports.Done g) = ports.Done g
own_by stands (ports.Literal w v) = ports.Literal w v

-- PORTS of a static child, of which the inputs are given
abbrev pub block_by : Block → (ℕ → PortRef) → PortRef → PortRef
block_by block sources (ports.Cell e p) = ports.Cell (block.cells + e) p
block_by block sources (ports.Input n) = sources n
block_by block sources (ports.Output n) = ports.Cell (block.wires + n) 0
block_by block sources (ports.Done g) = ports.Done g
block_by block sources (ports.Literal w v) = ports.Literal w v
