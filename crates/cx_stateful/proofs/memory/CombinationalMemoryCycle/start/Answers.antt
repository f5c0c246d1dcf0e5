use Rattle.std.proofs.Common.{sym, subst, List, ℕ, ◌≡◌, rules, replicate, take}
use Rattle.cx_text.specs.Loading.{word_count}
use Rattle.cx_prim.specs.CellStates.{AreWords}
use Rattle.cx_prim.proofs.MemoryLaws.{AreWords-start}
use Rattle.cx_stateful.proofs.memory.CombinationalMemoryCycle.start.Goals as goal

pub returns-clause-fits : goal.returns-clause-fits
returns-clause-fits c =
    let layout = c.args.self.now.layout in
    let count = word_count (take layout.dimensions layout.sizes) in
    let zeros : c.in_ok-vec.field-0.items ≡ replicate count 0 = search rules in
    subst (AreWords layout.width count) (sym zeros) (AreWords-start layout.width count)
