-- Memories in the order of their names.
use Rattle.std.specs.Prelude.{List}
use Rattle.std.specs.Cmp.Lexicographic.{slice_cmp}
use Rattle.std.specs.List.Sorted.{IsSortedByKey}
use Rattle.std.specs.Ordering.{nat_cmp}
use denote.Ref.{Bor}
use Rattle.cx_text.specs.declared.loading.LoadedMemory.{LoadedMemory}

-- no name is less than the one before it
abbrev pub AreByName : List (Bor LoadedMemory) → Type 0
AreByName memories = IsSortedByKey (λ (b : Bor LoadedMemory). b.now.row.name) (slice_cmp nat_cmp) memories
