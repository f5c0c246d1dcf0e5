use Rattle.std.proofs.Common.{◌≡◌, ◌∷◌, ◌+◌, drop}
use Rattle.cx_numbering.specs.NameRules.{input_breaks}
use Rattle.cx_names_scopes.specs.Scopes.{tree_in, part_in, kind_of}
use Rattle.cx_names_rules.proofs.FoundLemmas.{item_step}
use Rattle.cx_text.proofs.ListLaws.{drop_item}
use Rattle.cx_names_rules.proofs.invokes.inputs.Goals as goal

pub loop-bind-preserved : goal.loop-bind-preserved
loop-bind-preserved c =
    let other : drop c.loop-bind.bind-index c.args.binds.now ≡ c.bind-item.result ∷ drop (c.loop-bind.bind-index + 1) c.args.binds.now = drop_item _ _ _ c.bind-item.is c.loop-bind-test.true in
    item_step (input_breaks (tree_in c.args.scope.now) (part_in c.args.scope.now) c.args.cell.now (kind_of c.args.kind.now)) c.bind-item.result (drop (c.loop-bind.bind-index + 1) c.args.binds.now) c.loop-bind.found c.input.new.found _
    (rw other at c.loop-bind.invariant) c.in_ok-input.ensures
