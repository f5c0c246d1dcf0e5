use Rattle.std.proofs.Common.{◌≡◌, map}
use Rattle.cx_design.specs.PlainForms.{plain_component}
use Rattle.cx_design.specs.PlainDesigns.{plain_design}
use Rattle.cx_flat.proofs.NumberLemmas.{made_for}
use Rattle.cx_flat.proofs.flattening.kept_components.Given as goal

abbrev pub invariant-loop-number : goal.invariant-loop-number
invariant-loop-number l = map plain_component l.all.items ≡ made_for (plain_design l.design) l.number
