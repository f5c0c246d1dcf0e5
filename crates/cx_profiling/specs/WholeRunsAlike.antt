-- What the run of an instrumented design with static components owes to the run of its design.
use Rattle.std.specs.Prelude.{◌≡◌, ℕ, ◌+◌, ◌*◌, ◌^◌, ◌%◌, List, [], ◌∷◌, ◌++◌, map}
use Rattle.cx_prim.specs.CellStates.{AreWords}
use Rattle.cx_meaning.specs.Designs.{PlainDesign}
use Rattle.cx_meaning.specs.Instances.{tree_of, words_of}
use Rattle.cx_flattening.specs.Whole.{whole_main}
use Rattle.cx_profiling.specs.Counters.{entries_of, entry_count}
use Rattle.cx_profiling.specs.Instrumented.{instrumented}
use Rattle.cx_profiling.specs.RunsAlike.{Owes, HasMemories}
use Rattle.cx_profiling.specs.WholeCounting.{whole_tally_of}

-- THE COUNTS of a run of main, entry by entry, modulo 2 to the 64
abbrev pub whole_counts_of : PlainDesign → List (List ℕ) → ℕ → List ℕ
whole_counts_of d words n = map (λ e. whole_tally_of d words n e.path e.group % 2 ^ 64) (entries_of (tree_of d))

-- THE THEOREM, of a design with an entry: the instrumented design takes two turns more for each entry, and leaves the
-- old words and those of the counts. The words that the memory of the counts is loaded with are of no account
abbrev pub WholeInstrumentsAs : PlainDesign → Type 0
WholeInstrumentsAs d =
    (words : List (List ℕ)) (new : List ℕ) (n : ℕ) → HasMemories d words → AreWords 64 (entry_count d) new
    → Owes (λ s u.
    words_of (tree_of (instrumented d)) u ≡ words_of (tree_of d) s ++ whole_counts_of d words n ∷ [])
    (entry_count d)
    (whole_main d words n)
    (whole_main (instrumented d) (words ++ new ∷ []) n)
    (whole_main (instrumented d) (words ++ new ∷ []) (n + 2 * entry_count d))
