use Rattle.std.proofs.Common.{◌&&◌, not, is_none, sym, ap, ◌∙◌}
use Rattle.cx_prim.specs.Table.{row_at}
use Rattle.cx_names_parts.proofs.MemoryLemmas.{row_is}
use Rattle.cx_names_parts.proofs.cells.is_memory.Goals as goal

pub returns-then-is_memory_name : goal.returns-then-is_memory_name
returns-then-is_memory_name c =
    ap not c.breaks_row.ensures
    ∙ ap (λ b. b && not (is_none (row_at c.args.name c.args.numbers.now))) (sym c.if-is_memory_name.true ∙ c.is_memory_name.ensures)
    ∙ sym (row_is c.args.name c.args.numbers.now)
