use Rattle.std.proofs.Common.{◌≡◌, ◌∷◌, ◌+◌, [], drop, refl}
use Rattle.std.proofs.lemmas.List.{drop_all}
use Rattle.cx_numbering.specs.NameRules.{named, bind_names}
use Rattle.cx_names_rules.proofs.FoundLemmas.{sees_start, sees_step}
use Rattle.cx_text.proofs.ListLaws.{drop_item}
use Rattle.cx_names_rules.proofs.duplicates.see_binds.Goals as goal

pub loop-bind-init : goal.loop-bind-init
loop-bind-init c = λ before sees. sees_start _ _ _ _ before sees refl

pub loop-bind-preserved : goal.loop-bind-preserved
loop-bind-preserved c = λ before sees.
    let other : drop c.loop-bind.bind-index c.args.binds.now ≡ c.bind-item.result ∷ drop (c.loop-bind.bind-index + 1) c.args.binds.now = drop_item _ _ _ c.bind-item.is c.loop-bind-test.true in
    sees_step before (bind_names c.args.binds.now) (bind_names (drop (c.loop-bind.bind-index + 1) c.args.binds.now)) (named c.bind-item.result.name c.bind-item.result.place) _ c.loop-bind.found c.see.new.found c.loop-bind.seen c.see.new.seen
    (rw other at (c.loop-bind.invariant before sees)) c.in_ok-see.ensures

pub returns : goal.returns
returns c = λ before sees.
    let none : drop c.loop-bind.bind-index c.args.binds.now ≡ [] = drop_all _ _ c.loop-bind-test.false in
    rw none at (c.loop-bind.invariant before sees)
