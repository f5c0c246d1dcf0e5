use Rattle.std.proofs.Common.{◌≡◌, ◌∷◌, ◌+◌, drop, [], append-nil}
use Rattle.std.proofs.lemmas.List.{drop_all}
use Rattle.cx_names_scopes.proofs.NameLemmas.{indexes_step}
use Rattle.cx_text.proofs.ListLaws.{drop_item}
use Rattle.cx_names_scopes.proofs.index.part_indexes.Goals as goal

pub loop-part-preserved : goal.loop-part-preserved
loop-part-preserved c = λ rest h.
    let other : drop c.loop-part.part-index c.args.parts.now ≡ c.part-item.result ∷ drop (c.loop-part.part-index + 1) c.args.parts.now = drop_item _ _ _ c.part-item.is c.loop-part-test.true in
    indexes_step _ _ _ _ _ _ rest c.in_ok-part_index.ensures c.in_ok-push.ensures.items (rw other at c.loop-part.invariant) h

pub returns : goal.returns
returns c =
    let none : drop c.loop-part.part-index c.args.parts.now ≡ [] = drop_all _ _ c.loop-part-test.false in
    rw (← append-nil c.loop-part.indexes.items) (c.loop-part.invariant [] (rw none tt))
