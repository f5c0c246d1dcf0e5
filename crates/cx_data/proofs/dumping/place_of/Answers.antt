use Rattle.std.proofs.Common.{not, Bor, rules}
use Rattle.std.specs.Cmp.Lexicographic.{slice_cmp}
use Rattle.std.specs.Ordering.{nat_cmp, is_lt}
use Rattle.std.proofs.lemmas.List.Sorted.{IsPartitionPoint-from_clause}
use Rattle.cx_text.specs.declared.loading.LoadedMemory.{LoadedMemory}
use Rattle.cx_data.proofs.Places.{parted_by_name, position_or_len-point}
use Rattle.cx_data.proofs.dumping.place_of.Goals as goal

pub returns-clause-value : goal.returns-clause-value
returns-clause-value c =
    let point = IsPartitionPoint-from_clause (λ (b : Bor LoadedMemory). not (is_lt (slice_cmp nat_cmp c.args.name.now b.now.row.name))) _ _ c.partition_point.ensures.partitioned
    (parted_by_name c.args.name.now c.args.memories.now c.requires) (λ a r q k. search rules) in
    position_or_len-point (λ (b : Bor LoadedMemory). is_lt (slice_cmp nat_cmp c.args.name.now b.now.row.name)) c.args.memories.now _ c.partition_point.ensures.bound point
