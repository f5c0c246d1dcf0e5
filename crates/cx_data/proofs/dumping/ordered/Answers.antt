use Rattle.std.proofs.Common.{◌≡◌, ◌∙◌, ◌∷◌, ◌+◌, drop, Bor, add-one, map, rules}
use Rattle.std.proofs.Math.Seq.{drop-cons}
use Rattle.cx_text.specs.Loading.{plain_memory}
use Rattle.cx_text.specs.declared.loading.LoadedMemory.{LoadedMemory}
use Rattle.cx_data.specs.Dump.{by_name}
use Rattle.cx_data.proofs.DumpLemmas.{ordered_step}
use Rattle.cx_data.proofs.Places.{by_name_more}
use Rattle.cx_data.proofs.dumping.ordered.Goals as goal

pub loop-memory-preserved : goal.loop-memory-preserved
loop-memory-preserved c =
    let e : drop c.loop-memory.memory-index c.args.memories.now ≡ c.memory-item.result ∷ drop (c.loop-memory.memory-index + 1) c.args.memories.now =
    drop-cons c.args.memories.now c.loop-memory.memory-index c.memory-item.result c.loop-memory-test.true
    ∙ (rw (← c.memory-item.is) (rw add-one)) in
    record {
      sorted = by_name_more _ c.loop-memory.ordered.items _ _ (search rules) c.in_ok-insert.ensures.items c.loop-memory.invariant.sorted;
      value =
          ordered_step (λ (b : Bor LoadedMemory). plain_memory b.now) _ c.loop-memory.ordered.items _
          (map plain_memory (drop (c.loop-memory.memory-index + 1) c.args.memories.now)) (by_name (map plain_memory c.args.memories.now)) _
          (search rules) c.in_ok-insert.ensures.items (rw e at c.loop-memory.invariant.value);
    }
