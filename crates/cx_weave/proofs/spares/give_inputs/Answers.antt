use Rattle.std.proofs.Common.{rules, ◌≡◌, ◌+◌, ◌++◌, [], ◌∷◌}
use Rattle.std.specs.Prelude.{vec_len}
use Rattle.cx_weave.proofs.Ledgers.{inputs_given}
use Rattle.cx_weave.proofs.spares.give_inputs.Goals as goal

pub returns : goal.returns
returns c =
    let ok = c.push.ensures.succeeds c.requires.place in
    let items = c.push.ensures.items in
    let len = c.push.ensures.len in
    let are : c.push.new.self.items ≡ c.args.spares.now.inputs.items ++ c.args.inputs ∷ [] = search (rules, ok, items) in
    let more : vec_len c.push.new.self ≡ vec_len c.args.spares.now.inputs + 1 = search (rules, ok, len) in
    record { ledger = inputs_given c.args.spares.now c.push.new.self c.args.inputs are more c.push.ensures.capacity }
