use Rattle.cx_vmods.proofs.parts.Parts.write.Goals as goal

pub returns : goal.returns
returns c = record { value = cc (c.in_ok-net.ensures.value, c.in_ok-guard.ensures.value, c.in_ok-value.ensures.value, c.in_ok-store.ensures.value) }
