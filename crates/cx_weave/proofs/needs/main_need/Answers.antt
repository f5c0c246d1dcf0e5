use Rattle.std.proofs.Common.{rules, arith, ◌≡◌, ◌-◌, ◌<◌, ◌≤◌, ◌^◌, length, get_or, subst, sym, ◌∙◌}
use Rattle.std.proofs.lemmas.Grind.{common_steps, get_or_default_zero}
use Rattle.cx_meaning.specs.Instances.{tree_of}
use Rattle.cx_meaning.proofs.InstancesLemmas.{main_there}
use Rattle.cx_turns.specs.Machines.{design_of}
use Rattle.cx_weave.specs.Rows.{CoversFrom}
use Rattle.cx_weave.specs.Takes.{control_need}
use Rattle.cx_weave.proofs.NeedSteps.{main_covered}
use Rattle.cx_weave.proofs.needs.main_need.Goals as goal

pub returns : goal.returns
returns c =
    let d = design_of c.args.plan.now in
    let table = c.loop-behind.table.items in
    let most = c.index-most.result.now in
    let none : c.len-count.result - c.loop-behind.behind ≡ 0 = omega (arith, c.loop-behind-test.false) in
    let from : CoversFrom d c.args.piece table 0 = subst (λ n. CoversFrom d c.args.piece table n) none c.loop-behind.invariant.1 in
    let some : 0 < length table = subst (λ n. 0 < n) (sym c.loop-behind.invariant.0) (main_there (tree_of d)) in
    let first : get_or table 0 0 ≡ most = sym (c.index-most.ensures ∙ get_or_default_zero table 0 most some) in
    let few : most < 2 ^ 64 - 1 = (let e = c.if-most.false in first_of (omega (arith, e), search (rules, e), grind (arith, common_steps, e))) in
    subst (λ n. control_need c.args.piece (tree_of d) ≤ n) first (main_covered d c.args.piece table from (subst (λ n. n < 2 ^ 64 - 1) (sym first) few))
