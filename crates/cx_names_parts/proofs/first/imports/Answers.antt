use Rattle.std.proofs.Common.{◌≡◌, ◌∷◌, ◌+◌, drop}
use Rattle.cx_numbering.specs.NameRules.{import_breaks}
use Rattle.cx_names_rules.proofs.FoundLemmas.{item_step}
use Rattle.cx_text.proofs.ListLaws.{drop_item}
use Rattle.cx_names_parts.proofs.first.imports.Goals as goal

pub loop-item-preserved : goal.loop-item-preserved
loop-item-preserved c =
    let other : drop c.loop-item.item-index c.args.items.now ≡ c.item-item.result ∷ drop (c.loop-item.item-index + 1) c.args.items.now = drop_item _ _ _ c.item-item.is c.loop-item-test.true in
    item_step import_breaks c.item-item.result (drop (c.loop-item.item-index + 1) c.args.items.now) c.loop-item.found c.import.new.found _
    (rw other at c.loop-item.invariant) c.in_ok-import.ensures
