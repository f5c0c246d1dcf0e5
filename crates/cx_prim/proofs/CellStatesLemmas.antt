-- Facts of what `CellStates` defines, that several crates above take.
use Rattle.std.proofs.Common.{ℕ, List, ◌<◌, length, subst}
use Rattle.cx_prim.specs.CellStates.{CellState, Memory, MemoryOf, IsState, AreWords, words_of, SequentialMemory, SequentialMemoryOf, with_words, StateShape, NoState, RegisterOf, MultiplierOf, DividerOf, TimerOf, TakesWords, HasWord}
use Rattle.cx_prim.specs.CellStates as cell_states

-- a state with the words of another one of its shape
pub words_fit : (w c : ℕ) (d : CellState) → IsState (MemoryOf w c) d → AreWords w c (words_of d)
words_fit w c (Memory words done) h = h
words_fit w c d h = absurd h

pub sequential_words_fit : (w c : ℕ) (d : CellState) → IsState (SequentialMemoryOf w c) d → AreWords w c (words_of d)
sequential_words_fit w c (SequentialMemory words read_data done) h = h.0
sequential_words_fit w c d h = absurd h

pub memory_with : (width count : ℕ) (words : List ℕ) (d : CellState) → AreWords width count words → IsState (MemoryOf width count) d → IsState (MemoryOf width count) (cell_states.with_words words d)
memory_with width count words (cell_states.Memory old done) fit h = fit
memory_with width count words d fit h = absurd h

pub sequential_with : (width count : ℕ) (words : List ℕ) (d : CellState) → AreWords width count words → IsState (SequentialMemoryOf width count) d → IsState (SequentialMemoryOf width count) (with_words words d)
sequential_with width count words (SequentialMemory old read_data done) fit h = (fit, h.1)
sequential_with width count words d fit h = absurd h

pub has_word : (shape : StateShape) (words : List ℕ) (n : ℕ) → TakesWords shape words → n < length words → HasWord shape n
has_word NoState words n takes lt = absurd takes
has_word (RegisterOf width) words n takes lt = absurd takes
has_word (MemoryOf width count) words n takes lt = (subst (λ k. n < k) takes.0.length lt, takes.1)
has_word (SequentialMemoryOf width count) words n takes lt = (subst (λ k. n < k) takes.0.length lt, takes.1)
has_word (MultiplierOf width latency) words n takes lt = absurd takes
has_word (DividerOf width latency) words n takes lt = absurd takes
has_word (TimerOf length) words n takes lt = absurd takes
