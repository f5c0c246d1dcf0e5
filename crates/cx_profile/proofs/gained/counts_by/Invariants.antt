use Rattle.cx_design.specs.PlainDesigns.{plain_design}
use Rattle.cx_profile.proofs.GainLemmas.{IsCountedTo}
use Rattle.cx_profile.proofs.gained.counts_by.Given as goal

abbrev pub invariant-loop-component : goal.invariant-loop-component
invariant-loop-component l = IsCountedTo (plain_design l.design) l.order l.component-index l.counts.items
