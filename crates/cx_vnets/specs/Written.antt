-- Nets that read no array into which a store writes.
use Rattle.std.specs.Prelude.{◌≡◌, ℕ, ◌<◌, List, Option, Some, slice_get}
use Rattle.cx_graphs.specs.Graphs.{Edges}
use Rattle.cx_vnets.specs.declared.stores.Store.{Store}
use Rattle.cx_vnets.specs.declared.stores.Write.{Write}
use Rattle.cx_vnets.specs.Readers.{IsListed}

-- no array of the first stores that write has the net among its readers
abbrev pub ReadsNoWritten : Edges → List Store → List (Option Write) → ℕ → ℕ → Type 0
ReadsNoWritten of_arrays stores writes count f =
    (j : ℕ) (x : Store) (w : Write) → j < count → slice_get stores j ≡ Some x
    → slice_get writes j ≡ Some (Some w) → IsListed of_arrays f x.array → ⊥
