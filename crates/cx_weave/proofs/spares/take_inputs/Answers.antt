use Rattle.std.proofs.Common.{◌≡◌, ◌++◌, [], ◌∷◌, Vec, Global, Option, Some, length, ap, ◌∙◌, arith}
use Rattle.std.specs.Prelude.{option_to_list}
use Rattle.cx_meaning.specs.declared.sights.Seen.{Seen}
use Rattle.cx_weave.proofs.Ledgers.{inputs_taken, same_room}
use Rattle.cx_weave.proofs.spares.take_inputs.Goals as goal

pub returns-clause-ledger : goal.returns-clause-ledger
returns-clause-ledger c =
    let some : c.pop.result ≡ Some c.unwrap-inputs.result = c.unwrap-inputs.ensures in
    let are : c.args.spares.now.inputs.items ≡ c.pop.new.self.items ++ c.unwrap-inputs.result ∷ [] = c.pop.ensures.items ∙ ap (λ (o : Option (Vec Seen Global)). c.pop.new.self.items ++ option_to_list o) some in
    let count : length (option_to_list c.pop.result) ≡ 1 = ap (λ (o : Option (Vec Seen Global)). length (option_to_list o)) some in
    let less = c.pop.ensures.len in
    same_room c.args.spares.now c.pop.new.self c.unwrap-inputs.result c.clear.new.self c.clear.ensures.capacity (inputs_taken c.args.spares.now c.pop.new.self c.unwrap-inputs.result are (omega (arith, less, count)) c.pop.ensures.capacity)
