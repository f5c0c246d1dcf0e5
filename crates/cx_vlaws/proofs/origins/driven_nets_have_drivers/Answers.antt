use Rattle.std.proofs.Common.{sym, ap, ◌∙◌}
use Rattle.cx_vtree.specs.InstanceTree.{instances_of}
use Rattle.cx_vtree.specs.Sound.{Scope, is_driven}
use Rattle.cx_vlaws.proofs.Given.{scope-at}
use Rattle.cx_vlaws.proofs.DriverLemmas.{driver_is}
use Rattle.cx_vlaws.proofs.origins.driven_nets_have_drivers.Goals as goal

pub returns : goal.returns
returns c source i p n sound at driven =
    driver_is source sound i p at n (sym (ap (λ (s : Scope). is_driven (s n)) (scope-at (instances_of source) i p at)) ∙ driven)
