use Rattle.std.proofs.Common.{◌≡◌, Some, None, slice_get, refl, sym, ap, ◌∙◌, subst}
use Rattle.cx_design.specs.declared.actives.Active.TheVariants.{Group}
use Rattle.cx_eval_network.specs.Lists.{HaveLists}
use Rattle.cx_eval_network.proofs.FoundLemmas.{no_instance}
use Rattle.cx_eval_network.proofs.ListLemmas.{list_there}
use Rattle.cx_eval_network.proofs.numbering.Nodes.listed.Goals as goal

pub returns-in-Some : goal.returns-in-Some
returns-in-Some c = record {
  value = λ d rows h lt.
      let nodes = c.args.self.now in
      let place : slice_get nodes.instances.items c.args.instance ≡ Some c.in-Some.place = ap (λ xs. slice_get xs c.args.instance) (sym c.as_slice.ensures.value) ∙ sym c.in-Some.ensures.value in
      list_there d rows nodes h c.args.instance lt (Group c.args.group) c.in-Some.place _ place refl
      (λ part planned stands plan. c.group_ports.ensures.value nodes.parts.items nodes.plans.items part planned (subst (HaveLists nodes.parts.items nodes.plans.items) (sym c.as_slice-in-Some.ensures.value) h.lists) stands plan);
}

pub returns-in-None : goal.returns-in-None
returns-in-None c = record {
  value = λ d rows h lt.
      let none : slice_get c.args.self.now.instances.items c.args.instance ≡ None = ap (λ xs. slice_get xs c.args.instance) (sym c.as_slice.ensures.value) ∙ sym c.in-None.ensures.value in
      absurd (no_instance d rows c.args.self.now h c.args.instance lt none);
}
