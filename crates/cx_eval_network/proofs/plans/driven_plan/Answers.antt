use Rattle.std.proofs.Common.{◌<◌, length, sym, ap, ◌∙◌, subst}
use Rattle.std.proofs.lemmas.List.{length-map}
use Rattle.std.specs.Prelude.{map}
use Rattle.cx_meaning.specs.Active.{source_order}
use Rattle.cx_design.specs.PlainDesigns.{plain_design}
use Rattle.cx_eval_drives.specs.Drives.{owned_for}
use Rattle.cx_eval_network.specs.Planned.{assign_plan}
use Rattle.cx_eval_network.specs.Plans.{Assigns, instance_of}
use Rattle.cx_rules.proofs.PortsLemmas.{part_is}
use Rattle.cx_eval_network.proofs.plans.driven_plan.Goals as goal

pub returns : goal.returns
returns c =
    let part = c.args.part.now in
    let d = plain_design part.design.now in
    let i = instance_of part in
    let own = c.requires.part in
    let within : part.component < length d.components = subst (λ n. part.component < n) (sym (length-map part.design.now.components.items _)) own.within in
    record {
      value =
          ap (Assigns c.args.undriven)
          (c.in_ok-assigns.ensures.value
          ∙ ap (map (assign_plan i)) (c.assigns_of-assigns.ensures.value d c.args.port own.driven within c.requires.number ∙ ap (λ x. owned_for c.args.port (source_order x)) (sym (part_is d part.component))));
    }
