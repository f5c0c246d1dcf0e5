use Rattle.std.proofs.Common.{◌≡◌, ◌∷◌, ◌+◌, drop}
use Rattle.cx_ast.specs.PlainGuards.{plain_guard, plain_guards, guards_of}
use Rattle.cx_numbering.specs.NameRules.{source_breaks, operands_of, operands_in}
use Rattle.cx_names_scopes.specs.Scopes.{tree_in, part_in}
use Rattle.cx_names_rules.proofs.FoundLemmas.{parts_step}
use Rattle.cx_text.proofs.ListLaws.{drop_item}
use Rattle.cx_names_rules.proofs.guards.+sources.Goals as goal

pub all_sources-loop-guard-preserved : goal.all_sources-loop-guard-preserved
all_sources-loop-guard-preserved t c =
    let other : drop c.loop-guard.guard-index c.args.guards.now ≡ c.guard-item.result ∷ drop (c.loop-guard.guard-index + 1) c.args.guards.now = drop_item _ _ _ c.guard-item.is c.loop-guard-test.true in
    parts_step (source_breaks (tree_in c.args.scope.now) (part_in c.args.scope.now)) (operands_of (plain_guard c.guard-item.result)) (operands_in (guards_of (plain_guards (drop (c.loop-guard.guard-index + 1) c.args.guards.now)))) c.loop-guard.found c.sources.new.found _
    (rw other at c.loop-guard.invariant) c.in_ok-sources.ensures
