use Rattle.std.proofs.Common.{◌≡◌, map, drop}
use Rattle.cx_text.specs.Loading.{plain_memory}
use Rattle.cx_data.specs.Dump.{by_name, inserted_by_name}
use Rattle.cx_data.specs.Orders.{AreByName}
use Rattle.cx_data.proofs.dumping.ordered.Given as goal

abbrev pub invariant-loop-memory : goal.invariant-loop-memory
invariant-loop-memory l = record {
  sorted : AreByName l.ordered.items;
  value : inserted_by_name (map (λ b. plain_memory b.now) l.ordered.items) (map plain_memory (drop l.memory-index l.memories))
      ≡ by_name (map plain_memory l.memories);
}
