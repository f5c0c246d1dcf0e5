use Rattle.std.proofs.Common.{rules, ◌≡◌, ◌∙◌, ap, sym, not, length, map}
use Rattle.cx_meaning.specs.declared.ports.PortRef.TheVariants as refs
use Rattle.cx_meaning.specs.Instances.{part_of}
use Rattle.cx_rules.specs.Ports.{component_of}
use Rattle.cx_rules.specs.CallShape.{captured, with_target}
use Rattle.cx_design.specs.PlainForms.{plain_assign, plain_assigns, plain_component, plain_group}
use Rattle.cx_design.specs.PlainDesigns.{plain_design}
use Rattle.cx_callees.specs.Callees.{plain_callee, called_of}
use Rattle.cx_shape_calls.specs.Forms.{times}
use Rattle.cx_shape_calls.proofs.DoneLemmas.{calling_if, some_if_not, lacks_told, wrong_told}
use Rattle.cx_meaning.proofs.DesignsLemmas.{same_part}
use Rattle.cx_shape_calls.proofs.forms.form.Goals as goal

pub returns : goal.returns
returns c =
    let d = plain_design c.args.design.now in
    let i = component_of d c.args.number in
    let group = plain_group c.args.group.now in
    let ks = map plain_callee c.in_ok-called.called.items in
    let dones = map (λ a. plain_assign a.now) c.in_ok-dones.dones.items in
    let same : ks ≡ called_of i group.assigns = c.in_ok-called.ensures.value ∙ ap (λ l. called_of i (plain_assigns l)) c.as_slice-assigns.ensures.value in
    let part : plain_component c.component.result.now ≡ part_of i = c.component.ensures.value ∙ sym (same_part d (length d.components) c.args.number) in
    let holes : dones ≡ with_target (refs.Done c.args.place) group.assigns = c.in_ok-dones.ensures.value ∙ ap (λ l. with_target (refs.Done c.args.place) (plain_assigns l)) c.as_slice-assigns.ensures.value in
    record {
      value = record {
        calling = calling_if i group c.in_ok-called.called.items same (search rules) (search rules);
        called = same;
        driven = λ x q. c.in_ok-driven.ensures.value x q ∙ ap (λ l. length (with_target (refs.Cell x q) (plain_assigns l))) c.as_slice-assigns.ensures.value;
        wrong_done = wrong_told ks (called_of i group.assigns) c.in_ok-captured.captured.items (captured (part_of i) group.assigns) dones (with_target (refs.Done c.args.place) group.assigns) c.in_ok-wrong_done.wrong_done same
            (c.in_ok-captured.ensures.value ∙ ap (λ p. captured p (plain_assigns c.as_slice-assigns.result.now)) part ∙ ap (λ l. captured (part_of i) (plain_assigns l)) c.as_slice-assigns.ensures.value) holes
            (search rules);
        lacks = lacks_told ks (called_of i group.assigns) c.args.place group.assigns (times c.in_ok-driven.driven) (not c.is_empty-2.result) c.lacks-lacks.result same (search rules)
            (λ x q. c.in_ok-driven.ensures.value x q ∙ ap (λ l. length (with_target (refs.Cell x q) (plain_assigns l))) c.as_slice-assigns.ensures.value)
            (some_if_not c.in_ok-dones.dones.items (with_target (refs.Done c.args.place) group.assigns) c.is_empty-2.result holes (search rules));
      };
    }
