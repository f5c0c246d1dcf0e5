use Rattle.std.proofs.Common.{◌≡◌, ◌++◌, map, drop}
use Rattle.std.specs.Result.{result_map_both}
use Rattle.serde_json.specs.View.{view}
use Rattle.cx_text.specs.Loading.{plain_row, plain_memory}
use Rattle.cx_data.specs.Load.{memories_of}
use Rattle.cx_data.proofs.loading.load_memories.Given as goal

abbrev pub invariant-loop-row : goal.invariant-loop-row
invariant-loop-row l =
    result_map_both (λ ms. map plain_memory l.memories.items ++ ms) (λ f. f) (memories_of (view l.top) (map plain_row (drop l.row-index l.rows)))
    ≡ memories_of (view l.top) (map plain_row l.rows)
