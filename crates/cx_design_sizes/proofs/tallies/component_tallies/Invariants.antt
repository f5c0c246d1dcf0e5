use Rattle.cx_design.specs.PlainDesigns.{plain_design}
use Rattle.cx_design_sizes.proofs.TallyLemmas.{IsTalliedTo}
use Rattle.cx_design_sizes.proofs.tallies.component_tallies.Given as goal

abbrev pub invariant-loop-component : goal.invariant-loop-component
invariant-loop-component l = IsTalliedTo (plain_design l.design) l.order l.component-index l.tallies.items
