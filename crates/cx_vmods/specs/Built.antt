-- What the module of a primitive owes in any tree of instances in which it stands, by which states its registers and words stand for.
use Rattle.std.specs.Prelude.{◌≡◌, ◌≢◌, ℕ, ◌+◌, ◌<◌, ◌≤◌, true, false, List, [], map, length, Some, IsSome, unwrap_or, slice_get, slice_index}
use Rattle.cx_bits.specs.BitVector.{BitVector}
use Rattle.cx_prim.specs.declared.ports.PortRow.{PortRow}
use Rattle.cx_prim.specs.CellStates.{CellState, IsState, TakesWords, words_of}
use Rattle.cx_prim.specs.Rows.{Inputs, Row, input, FitsPorts, AreValues, HasSide, is_output_side, reset, start_with}
use Rattle.cx_vtree.specs.Plain.{PlainModule}
use Rattle.cx_vtree.specs.InstanceTree.{Placed, nets_at}
use Rattle.cx_vtree.specs.Meaning.{State, Moment, Look, HasValue}
use Rattle.cx_vtree.specs.Edges.{state_after}
use Rattle.cx_vtree.specs.SimRun.{IsWhole, first_array}
use Rattle.cx_vmods.specs.Stands.{Kept}

-- the registers and the words of one instance
abbrev pub kept_at : State → ℕ → Kept
kept_at s j = record { register = s.register j; word = s.word j }

-- the net of port n of the row: behind the clock and the reset
abbrev pub port_net : PlainModule → ℕ → List ℕ
port_net m n = unwrap_or (slice_get (map (λ p. p.name) m.ports) (n + 2)) []

-- the module stands at an instance that is not `main`
pub record Stands (m : PlainModule) (tree : List Placed) (j : ℕ) : Type 0 where
  pub inner : j ≢ 0
  pub placed : Placed
  pub there : slice_get tree j ≡ Some placed
  pub is : placed.part ≡ m

-- its inputs have these values, where they are given
abbrev pub HaveInputs : PlainModule → Row → List Placed → Moment → ℕ → Inputs → Type 0
HaveInputs m row tree now j inputs =
    (n : ℕ) (port : PortRow) (b : BitVector) → slice_get row.ports n ≡ Some port
    → is_output_side port.side ≡ false → input inputs n ≡ Some b
    → HasValue tree now j (port_net m n) b

-- every input is given
abbrev pub AreGiven : Row → Inputs → Type 0
AreGiven row inputs =
    (n : ℕ) (port : PortRow) → slice_get row.ports n ≡ Some port → is_output_side port.side ≡ false
    → IsSome (input inputs n)

-- an instance of the module in one cycle: its state, and what stands at its inputs
pub record IsAt (m : PlainModule) (row : Row) (StandFor : Kept → CellState → Type 0) (tree : List Placed)
    (now : Moment) (j : ℕ) (state : CellState) (inputs : Inputs) : Type 0 where
  pub stands : Stands m tree j
  pub holds : StandFor (kept_at now.state j) state
  pub of_row : IsState row.shape state
  pub fits : FitsPorts row.ports inputs
  pub values : AreValues inputs
  pub given : HaveInputs m row tree now j inputs

abbrev pub zero_at : Row → ℕ → BitVector
zero_at row n = record { width = unwrap_or (slice_get (map (λ p. p.width) row.ports) n) 1; value = 0 }

-- the words of a state are those of the array
abbrev pub HoldsWords : PlainModule → Row → (Kept → CellState → Type 0) → Type 0
HoldsWords m row StandFor =
    (kept : Kept) (state : CellState) (k : ℕ) → StandFor kept state → IsState row.shape state
    → k < length (words_of state)
    → kept.word (first_array m.decls) k ≡ slice_index (words_of state) k

-- all zeros, but any words in the array, stand for the start with these words
abbrev pub StartsLoaded : PlainModule → Row → (Kept → CellState → Type 0) → Type 0
StartsLoaded m row StandFor =
    (words : List ℕ) (word : List ℕ → ℕ → ℕ) → TakesWords row.shape words
    → ((k : ℕ) → word (first_array m.decls) k ≡ slice_index words k)
    → StandFor (record { register = λ name. 0; word = word }) (start_with row words)

-- an output has its value as soon as the inputs that it reads have theirs; where an address is out of range it is 0
abbrev pub GivesOutputs : PlainModule → Row → (Kept → CellState → Type 0) → Type 0
GivesOutputs m row StandFor =
    (tree : List Placed) (now : Moment) (j n : ℕ) (state : CellState) (inputs : Inputs)
    → IsAt m row StandFor tree now j state inputs
    → HasSide row n is_output_side → ((k : ℕ) → row.reads n k ≡ true → IsSome (input inputs k))
    → HasValue tree now j (port_net m n) (unwrap_or (row.output state inputs n) (zero_at row n))

-- every net behind the clock and the reset has a value as soon as all inputs have theirs
abbrev pub GivesNets : PlainModule → Row → (Kept → CellState → Type 0) → Type 0
GivesNets m row StandFor =
    (tree : List Placed) (now : Moment) (j k : ℕ) (name : List ℕ) (state : CellState) (inputs : Inputs)
    → IsAt m row StandFor tree now j state inputs
    → AreGiven row inputs → slice_get (nets_at tree j) k ≡ Some name → 2 ≤ k
    → (v : BitVector) × HasValue tree now j name v

-- an edge without reset is that of the row
abbrev pub Steps : PlainModule → Row → (Kept → CellState → Type 0) → Type 0
Steps m row StandFor =
    (tree : List Placed) (now : Moment) (look : Look) (j : ℕ) (state : CellState) (inputs : Inputs)
    → IsAt m row StandFor tree now j state inputs
    → AreGiven row inputs → IsWhole tree now look → now.reset ≡ 0
    → StandFor (kept_at (state_after tree now look) j) (row.next state inputs)

-- an edge with reset is the way back to the start
abbrev pub Resets : PlainModule → Row → (Kept → CellState → Type 0) → Type 0
Resets m row StandFor =
    (tree : List Placed) (now : Moment) (look : Look) (j : ℕ) (state : CellState) → Stands m tree j
    → StandFor (kept_at now.state j) state
    → IsState row.shape state → IsWhole tree now look → now.reset ≡ 1
    → StandFor (kept_at (state_after tree now look) j) (reset row state)

-- THE LAW of a module
pub record IsBuilt (m : PlainModule) (row : Row) (StandFor : Kept → CellState → Type 0) : Type 0 where
  pub start : StandFor (record { register = λ name. 0; word = λ name k. 0 }) row.start
  pub loaded : StartsLoaded m row StandFor
  pub words : HoldsWords m row StandFor
  pub outputs : GivesOutputs m row StandFor
  pub nets : GivesNets m row StandFor
  pub step : Steps m row StandFor
  pub reset_edge : Resets m row StandFor
