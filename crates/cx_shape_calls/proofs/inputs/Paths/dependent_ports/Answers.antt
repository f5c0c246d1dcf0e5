use Rattle.std.proofs.Common.{rules, ◌∙◌, ◌++◌, ◌∷◌, [], map, take, true≢false, sym, ap, subst, arith}
use Rattle.std.proofs.lemmas.List.{take_all}
use Rattle.cx_rules.specs.Ports.{component_of}
use Rattle.cx_design.specs.PlainForms.{plain_assign}
use Rattle.cx_design.specs.PlainDesigns.{plain_design}
use Rattle.cx_shape_calls.specs.Inputs.{AreDependentPorts}
use Rattle.cx_shape_calls.proofs.DependLemmas.{taken_more, one_more, none_more}
use Rattle.cx_shape_calls.proofs.inputs.Paths.dependent_ports.Goals as goal
use Rattle.cx_shape_calls.proofs.inputs.Paths.dependent_ports.Goals.{then-branch+in_ok-push, else-branch}

pub is_dependent-requires-clause-paths : goal.is_dependent-requires-clause-paths
is_dependent-requires-clause-paths c = (c.requires.paths.0, c.loop-assign.invariant.kept c.requires.paths.0 c.requires.paths.1)

pub loop-assign-preserved : goal.loop-assign-preserved
loop-assign-preserved c =
    let i = component_of (plain_design c.args.design.now) c.args.number in
    let n = c.loop-assign.assign-index in
    let assigns = c.args.assigns.now in
    let x = c.assign-item.result in
    let before = map plain_assign (take n assigns) in
    record {
      kept = λ g h. c.in_ok-is_dependent.ensures.paths g (c.loop-assign.invariant.kept g h);
      so_far = λ g h.
          let is = c.in_ok-is_dependent.ensures.value g (c.loop-assign.invariant.kept g h) in
          let so_far = c.loop-assign.invariant.so_far g h in
          subst (λ l. AreDependentPorts i g l c.if-branch.ports.items) (sym (taken_more assigns n x (search rules) c.assign-item.is))
          (elim c.if-branch.branch [
            | then-branch+in_ok-push w ↦ subst (λ l. AreDependentPorts i g (before ++ plain_assign x ∷ []) l) (sym (ap (λ v. v.items) w.ports-is ∙ w.in_ok-push.ensures.items)) (one_more i g before (plain_assign x) c.loop-assign.ports.items so_far (is.0 w.if-branch.true))
            | else-branch w ↦ subst (λ l. AreDependentPorts i g (before ++ plain_assign x ∷ []) l) (sym (ap (λ v. v.items) w.ports-is)) (none_more i g before (plain_assign x) c.loop-assign.ports.items so_far (λ r. true≢false (sym (is.1 r) ∙ w.if-branch.false)))
          ]);
    }

pub returns : goal.returns
returns c = record {
  paths = c.loop-assign.invariant.kept;
  value = λ g h.
      let i = component_of (plain_design c.args.design.now) c.args.number in
      subst (λ l. AreDependentPorts i g (map plain_assign l) c.loop-assign.ports.items) (take_all c.loop-assign.assign-index c.args.assigns.now (omega arith)) (c.loop-assign.invariant.so_far g h);
}
