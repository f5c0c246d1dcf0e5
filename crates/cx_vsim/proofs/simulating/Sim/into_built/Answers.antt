use Rattle.std.proofs.Common.{subst}
use Rattle.cx_vtree.specs.PlainSources.{plain_source}
use Rattle.cx_vsim.specs.Models.{Loaded}
use Rattle.cx_vsim.specs.Stands.{BuiltWith}
use Rattle.cx_vsim.proofs.simulating.Sim.into_built.Goals as goal

pub returns : goal.returns
returns c =
    let is = c.self.invariant in
    subst (λ (l : Loaded). BuiltWith (plain_source l.source) l.words c.self.inside.built) c.self.view_is (record { machine = is.machine; ready = is.ready; stored = is.stored })
