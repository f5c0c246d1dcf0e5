use Rattle.std.proofs.Common.{refl, arith, sym, rules, ◌≡◌, ◌+◌, length, take, ℕ}
use Rattle.cx_prim.proofs.MemoryLaws.{AreWords-set, sequential_port}
use Rattle.cx_prim.specs.MemoryRows.{sequential_memory_row}
use Rattle.cx_prim.proofs.RowTools.{value_at_below}
use Rattle.cx_stateful.specs.Layouts.{row_at_layout}
use Rattle.cx_stateful.proofs.sequential.SequentialMemory.edge.Goals as goal

pub returns-in-Ok-clause-fits : goal.returns-in-Ok-clause-fits
returns-in-Ok-clause-fits c =
    let layout = c.args.self.now.layout in
    let counted : layout.dimensions + 2 ≡ length (take layout.dimensions layout.sizes) + 2 = search rules in
    let at = sequential_port layout.width (take layout.dimensions layout.sizes) (take layout.dimensions layout.address_widths) (layout.dimensions + 2) 2 layout.within counted in (
      AreWords-set layout.width _ c.args.state.now.words.items c.in-Ok.number c.number_at.result c.requires.state_fits.0
          (rw c.number_at.ensures.value (value_at_below (row_at_layout sequential_memory_row layout).ports c.args.inputs.now (layout.dimensions + 2) _ c.requires.inputs_fit at c.number_at.ensures.fits)),
      c.requires.state_fits.1,
    )
