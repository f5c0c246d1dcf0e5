use Rattle.std.proofs.Common.{map, IfOk, ap, sym, ◌∙◌, subst}
use Rattle.cx_vtree.specs.PlainParts.{plain_instance, plain_modules}
use Rattle.cx_vtree.specs.PlainSources.{plain_source}
use Rattle.cx_velab.specs.Rows.{placed_of}
use Rattle.cx_vsim.specs.Trees.{CanBeBuilt}
use Rattle.cx_vsim.specs.Machines.{BuiltStands}
use Rattle.cx_vsim.proofs.BuiltLemmas.{main_alone}
use Rattle.cx_vsim.proofs.machines.machine.Goals as goal

pub listed-requires : goal.listed-requires
listed-requires c =
    let s = plain_source c.args.source.now in
    let all = c.in_ok-rows.ensures ∙ main_alone s (plain_modules c.modules.result.now) (map plain_instance c.deref.result.now) c.modules.ensures.value (ap (map plain_instance) c.deref.ensures.value ∙ c.in_ok-main.ensures) in
    subst CanBeBuilt (sym all) (c.trees_can_be_built.ensures s c.modules.ensures.sound)

pub build-requires-clause-tree : goal.build-requires-clause-tree
build-requires-clause-tree c =
    let s = plain_source c.args.source.now in
    let all = ap (map placed_of) c.in_ok-table.ensures.rows ∙ c.in_ok-rows.ensures
    ∙ main_alone s (plain_modules c.modules.result.now) (map plain_instance c.deref.result.now) c.modules.ensures.value (ap (map plain_instance) c.deref.ensures.value ∙ c.in_ok-main.ensures) in
    subst CanBeBuilt (sym all) (c.trees_can_be_built.ensures s c.modules.ensures.sound)

pub returns : goal.returns
returns c =
    let s = plain_source c.args.source.now in
    let all = ap (map placed_of) c.in_ok-table.ensures.rows ∙ c.in_ok-rows.ensures
    ∙ main_alone s (plain_modules c.modules.result.now) (map plain_instance c.deref.result.now) c.modules.ensures.value (ap (map plain_instance) c.deref.ensures.value ∙ c.in_ok-main.ensures) in
    subst (λ tree. IfOk c.build.result (BuiltStands tree)) all c.build.ensures
