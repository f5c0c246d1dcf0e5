use Rattle.cx_vsim.proofs.place_laws.externals_have_arrays.Goals as goal

pub returns : goal.returns
returns c = λ s k e sound at.
    let m = c.externals_are_memories.ensures s k e sound at in
    record { number = m.number; found = m.found; only = m.only }
