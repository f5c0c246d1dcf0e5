use Rattle.std.proofs.Common.{◌≡◌, ◌∙◌, ◌+◌, ◌||◌, [], ◌∷◌, drop, get_or, ap, sym, arith}
use Rattle.std.proofs.lemmas.List.{drop_all}
use Rattle.cx_rules.specs.Counts.{is_one_of}
use Rattle.cx_flat.proofs.EnableLemmas.{apart}
use Rattle.cx_flat.proofs.WalkLemmas.{next_is}
use Rattle.cx_flat.proofs.enabled.bound.Goals as goal

pub loop-group-preserved : goal.loop-group-preserved
loop-group-preserved c = λ g le.
    let xs = c.args.groups.now in
    let i = c.loop-group.group-index in
    let most = c.max-bound.ensures in
    let next = c.in_ok-sum.ensures.value in
    let rest : drop i xs ≡ get_or xs i 0 ∷ drop (i + 1) xs = next_is xs i c.loop-group-test.true in
    sym (ap (λ b. b || is_one_of g (drop (i + 1) xs)) (apart g (get_or xs i 0) (omega (arith, le, most, next))))
    ∙ ap (is_one_of g) (sym rest) ∙ c.loop-group.invariant g (omega (arith, le, most))

pub returns : goal.returns
returns c = record {
  value = λ g le.
      let none : drop c.loop-group.group-index c.args.groups.now ≡ [] = drop_all _ _ c.loop-group-test.false in
      sym (c.loop-group.invariant g le) ∙ ap (is_one_of g) none;
}
