use Rattle.std.proofs.Common.{◌≡◌, ◌++◌, [], ◌∷◌, Option, Some, length, ap, ◌∙◌, arith}
use Rattle.std.specs.Prelude.{option_to_list}
use Rattle.cx_weave.specs.declared.spares.IslandLists.{IslandLists}
use Rattle.cx_weave.proofs.Ledgers.{island_taken}
use Rattle.cx_weave.proofs.spares.take_island.Goals as goal

pub returns : goal.returns
returns c =
    let some : c.pop.result ≡ Some c.unwrap.result = c.unwrap.ensures in
    let are : c.args.spares.now.islands.items ≡ c.pop.new.self.items ++ c.unwrap.result ∷ [] = c.pop.ensures.items ∙ ap (λ (o : Option IslandLists). c.pop.new.self.items ++ option_to_list o) some in
    let count : length (option_to_list c.pop.result) ≡ 1 = ap (λ (o : Option IslandLists). length (option_to_list o)) some in
    let less = c.pop.ensures.len in
    record { ledger = island_taken c.args.spares.now c.pop.new.self c.unwrap.result are (omega (arith, less, count)) c.pop.ensures.capacity }
