-- What the run of an instrumented design owes to the run of its design.
use Rattle.std.specs.Prelude.{◌≡◌, ℕ, ◌+◌, ◌*◌, ◌^◌, ◌%◌, List, [], ◌∷◌, ◌++◌, length, map}
use Rattle.cx_prim.specs.CellStates.{AreWords}
use Rattle.cx_meaning.specs.Designs.{PlainDesign}
use Rattle.cx_meaning.specs.Instances.{externals_of, part_of, tree_of, words_of}
use Rattle.cx_meaning.specs.Answers.{Answer, End, Fault, More}
use Rattle.cx_meaning.specs.Running.{run_main}
use Rattle.cx_profiling.specs.Counting.{tally_of}
use Rattle.cx_profiling.specs.Counters.{entries_of, entry_count}
use Rattle.cx_profiling.specs.Instrumented.{instrumented}

-- THE COUNTS of a run of main, entry by entry, modulo 2 to the 64
abbrev pub counts_of : PlainDesign → List (List ℕ) → ℕ → List ℕ
counts_of d words n = map (λ e. tally_of d words n e.path e.group % 2 ^ 64) (entries_of (tree_of d))

-- what a run with k entries owes within a budget, and within 2k turns more: an end 2k turns later, the same fault in the same turn, or
-- that it goes on within the budget
abbrev pub Owes : {S U F : Type 0} → (S → U → Type 0) → ℕ → Answer S F → Answer U F → Answer U F → Type 0
Owes {U = U} Q k (End s t) within later = (u : U) × (later ≡ End u (t + 2 * k)) × Q s u
Owes Q k (Fault f t) within later = within ≡ Fault f t
Owes Q k More within later = within ≡ More

-- a list of words for each external memory of main
abbrev pub HasMemories : PlainDesign → List (List ℕ) → Type 0
HasMemories d words = length words ≡ length (externals_of (part_of (tree_of d)))

-- THE THEOREM, of a design with an entry: the instrumented design takes two turns more for each entry, and leaves the
-- old words and those of the counts. The words that the memory of the counts is loaded with are of no account
abbrev pub InstrumentsAs : PlainDesign → Type 0
InstrumentsAs d = (words : List (List ℕ)) (new : List ℕ) (n : ℕ) → HasMemories d words → AreWords 64 (entry_count d) new
    → Owes
    (λ s u. words_of (tree_of (instrumented d)) u ≡ words_of (tree_of d) s ++ counts_of d words n ∷ [])
    (entry_count d)
    (run_main d words n)
    (run_main (instrumented d) (words ++ new ∷ []) n)
    (run_main (instrumented d) (words ++ new ∷ []) (n + 2 * entry_count d))
