use Rattle.std.proofs.Common.{◌≡◌, false}
use Rattle.cx_design.specs.PlainDesigns.{plain_design}
use Rattle.cx_flattening.specs.Runnable.{has_static}
use Rattle.cx_flat.proofs.KeptLemmas.{none_found, tells_itself}
use Rattle.cx_flat.proofs.running.flattened.Goals as goal

pub returns-else-some_static-clause-flat : goal.returns-else-some_static-clause-flat
returns-else-some_static-clause-flat c =
    let none : has_static (plain_design c.args.design) ≡ false = cc (c.some_static.ensures.value, c.deref.ensures.value, c.design-2.ensures.value, c.if-some_static.false) in
    none_found c.flat_designs_are_flat.ensures.flat (plain_design c.args.design) none

pub returns-else-some_static-clause-runs : goal.returns-else-some_static-clause-runs
returns-else-some_static-clause-runs c =
    let none : has_static (plain_design c.args.design) ≡ false = cc (c.some_static.ensures.value, c.deref.ensures.value, c.design-2.ensures.value, c.if-some_static.false) in
    tells_itself (plain_design c.args.design) c.args.design.keeps (c.means_the_same_without.ensures (plain_design c.args.design)) (none_found c.flat_designs_are_flat.ensures.flat (plain_design c.args.design) none)
