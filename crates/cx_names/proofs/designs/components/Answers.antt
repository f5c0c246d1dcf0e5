use Rattle.std.proofs.Common.{◌<◌, arith, length, map}
use Rattle.std.proofs.lemmas.List.{length-map}
use Rattle.cx_ast.specs.PlainTree.{plain_component}
use Rattle.cx_names_scopes.proofs.NameLemmas.{as_many, index_at}
use Rattle.cx_names.proofs.designs.components.Goals as goal

pub index-requires-in-loop-number : goal.index-requires-in-loop-number
index-requires-in-loop-number c =
    let many = as_many (map plain_component c.args.tree.now.components.items) c.args.index.now.parts.items c.requires.index.parts in
    let parts = length-map c.args.tree.now.components.items plain_component in
    omega (arith, many, parts, c.args.index.now.parts.ok, c.loop-number.invariant.end, c.loop-number-test.true)

pub component-requires : goal.component-requires
component-requires c =
    let within : c.loop-number.number < length c.args.tree.now.components.items = omega (arith, c.loop-number.invariant.end, c.loop-number-test.true) in
    record {
      scope = record { index = c.requires.index; own = index_at c.args.tree.now.components.items c.args.index.now.parts.items c.loop-number.number c.index.result.now c.index-in-loop-number.result.now c.requires.index.parts within c.index.ensures c.index-in-loop-number.ensures };
      ports = c.requires.ports;
    }
