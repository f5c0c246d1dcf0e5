use Rattle.std.proofs.Common.{◌∙◌, ap, sym}
use Rattle.cx_design.specs.PlainForms.{plain_component, plain_form}
use Rattle.cx_meaning.specs.Islands.{first_unclear}
use Rattle.cx_laws.specs.Samples.{says, begun_by}
use Rattle.cx_interp_islands.specs.Asked.{earlier_fault}
use Rattle.cx_interp_islands.specs.Rooms.{samples_of}
use Rattle.cx_interp_islands.proofs.AskedLemmas.{asked_is}
use Rattle.cx_interp_islands.proofs.samples.take_samples.Goals as goal

pub returns-clause-fault : goal.returns-clause-fault
returns-clause-fault g c =
    c.take_form.ensures.fault
    ∙ ap (λ ports. earlier_fault (g.S.Sampler.fault c.args.sampler.now) (first_unclear (g.S.Sampler.look c.args.sampler.now) ports))
    (asked_is (plain_component c.args.part.now) (says (g.S.Sampler.look c.args.sampler.now)) (plain_form c.args.form.now) c.args.cycle (samples_of c.args.samples.now)
    ∙ ap (λ kept. begun_by (plain_component c.args.part.now) kept c.args.cycle (plain_form c.args.form.now)) (sym c.take_form.ensures.value))
