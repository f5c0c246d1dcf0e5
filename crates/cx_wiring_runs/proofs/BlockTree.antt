-- The laws of one node, from those of what stands at its cells, give the laws of every block of every tree.
use Rattle.std.proofs.Common.{◌≡◌, ℕ, zero, suc, List}
use Rattle.cx_prim.specs.Rows.{Row}
use Rattle.cx_meaning.specs.Designs.{PlainComponent}
use Rattle.cx_meaning.specs.Instances.{Instance, Node, Cells, no_cells, a_primitive, an_instance, Nothing, OfRow, OfInstance, cell_at}
use Rattle.cx_net.specs.Nets.{PlainNetComponent}
use Rattle.cx_net.specs.NetMeaning.{NetState}
use Rattle.cx_wiring_runs.specs.Blocks.{block, block_below, BlockLaws, NodeLaws}
use Rattle.cx_wiring_runs.proofs.TreeRules.{AllNodes, CellsNodes}

no_child : {A : Type 0} (child : Instance) → Nothing ≡ OfInstance child → A
no_child child e = absurd cc

no_row : {A : Type 0} (row : Row) (child : Instance) → OfRow row ≡ OfInstance child → A
no_row row child e = absurd cc

module _ (wired : PlainComponent → PlainNetComponent) (timers : PlainComponent → List Row) (numbers : Instance → NetState → ℕ → ℕ) where
  -- Fine is what each node of a tree must be like
  module _ (Fine : PlainComponent → Cells → Type 0) (nodes : (part : PlainComponent) (cells : Cells) → Fine part cells → NodeLaws wired timers numbers part cells) where
    mutual
      pub block_laws : (i : Instance) → AllNodes Fine i → BlockLaws (block wired timers numbers i)
      block_laws (Node part cells) fine = nodes part cells fine.0 (λ c child e. laws_below cells (timers part) fine.1 c child e)

      pub laws_below : (cells : Cells) (more : List Row) → CellsNodes Fine cells → (c : ℕ) (child : Instance) → cell_at cells c ≡ OfInstance child → BlockLaws (block_below wired timers numbers cells more c)
      laws_below no_cells more fine c child e = no_child child e
      laws_below (a_primitive row rest) more fine zero child e = no_row row child e
      laws_below (a_primitive row rest) more fine (suc c) child e = laws_below rest more fine c child e
      laws_below (an_instance kid rest) more fine zero child e = block_laws kid fine.0
      laws_below (an_instance kid rest) more fine (suc c) child e = laws_below rest more fine.1 c child e
