use Rattle.std.proofs.Common.{slice_get, ap, ◌∙◌}
use Rattle.cx_vsim.proofs.facts.memories_stand.Goals as goal

pub returns : goal.returns
returns c = λ source sound k e at.
    let m = c.externals_are_memories.ensures source k e sound at in
    (m.number, record { instance = m.found; there = ap (λ l. slice_get l 0) m.only; size = m.size })
