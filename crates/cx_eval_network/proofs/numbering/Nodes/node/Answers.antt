use Rattle.std.proofs.Common.{◌≡◌, Some, None, slice_get, refl, sym, ap, ◌∙◌}
use Rattle.cx_eval_network.proofs.FoundLemmas.{no_instance, no_part, ports_by_place}
use Rattle.cx_eval_network.proofs.numbering.Nodes.node.Goals as goal

pub returns-in_err-place : goal.returns-in_err-place
returns-in_err-place c = record {
  value = λ d rows h lt.
      let none : slice_get c.args.self.now.instances.items c.args.instance ≡ None = ap (λ xs. slice_get xs c.args.instance) (sym c.as_slice.ensures.value) ∙ sym c.in_err-place.ensures.value in
      absurd (no_instance d rows c.args.self.now h c.args.instance lt none);
}

pub returns-in_err-part : goal.returns-in_err-part
returns-in_err-part c = record {
  value = λ d rows h lt.
      let place : slice_get c.args.self.now.instances.items c.args.instance ≡ Some c.in_ok-place.place = ap (λ xs. slice_get xs c.args.instance) (sym c.as_slice.ensures.value) ∙ sym c.in_ok-place.ensures.value in
      let none : slice_get c.args.self.now.parts.items c.in_ok-place.place.component ≡ None = ap (λ xs. slice_get xs c.in_ok-place.place.component) (sym c.as_slice-2.ensures.value) ∙ c.in_err-part.ensures.none in
      absurd (no_part d rows c.args.self.now h c.args.instance c.in_ok-place.place lt place none);
}

pub returns : goal.returns
returns c = record {
  value = λ d rows h lt.
      let place : slice_get c.args.self.now.instances.items c.args.instance ≡ Some c.in_ok-place.place = ap (λ xs. slice_get xs c.args.instance) (sym c.as_slice.ensures.value) ∙ sym c.in_ok-place.ensures.value in
      let part : slice_get c.args.self.now.parts.items c.in_ok-place.place.component ≡ Some c.in_ok-part.part.now = ap (λ xs. slice_get xs c.in_ok-place.place.component) (sym c.as_slice-2.ensures.value) ∙ c.in_ok-part.ensures.some in
      c.node.ensures.value d rows c.args.instance (ports_by_place d rows c.args.self.now h c.args.instance c.in_ok-place.place c.in_ok-part.part.now _ lt place part refl refl);
}
