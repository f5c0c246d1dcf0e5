use Rattle.std.proofs.Common.{rules, ◌≡◌, ◌+◌, ◌++◌, [], ◌∷◌}
use Rattle.std.specs.Prelude.{vec_len}
use Rattle.cx_weave.specs.declared.spares.IslandLists.{IslandLists}
use Rattle.cx_weave.proofs.Ledgers.{island_given}
use Rattle.cx_weave.proofs.spares.give_island.Goals as goal

pub returns : goal.returns
returns c =
    let lists : IslandLists = record { samples = c.args.samples; cells = c.args.cells } in
    let ok = c.push.ensures.succeeds c.requires.place in
    let items = c.push.ensures.items in
    let len = c.push.ensures.len in
    let are : c.push.new.self.items ≡ c.args.spares.now.islands.items ++ lists ∷ [] = search (rules, ok, items) in
    let more : vec_len c.push.new.self ≡ vec_len c.args.spares.now.islands + 1 = search (rules, ok, len) in
    record { ledger = island_given c.args.spares.now c.push.new.self lists are more c.push.ensures.capacity }
