-- What a primitive is to its users: a row of ports and equations. A cycle looks at the old state and the inputs; its
-- edge gives the next state.
use Rattle.std.specs.Prelude.{◌≡◌, ℕ, ◌<◌, ◌==◌, Bool, true, false, List, Option, Some, None, Result, Ok, Err, IsSome, slice_get, slice_index_or, length}
use Rattle.cx_bits.specs.BitVector.{BitVector, Fits}
use Rattle.cx_prim.specs.declared.ports.PortRow.{PortRow}
use Rattle.cx_prim.specs.declared.ports.Side.{Side}
use Rattle.cx_prim.specs.declared.ports.Side.TheVariants.{Enable, Plain, Output, Registered}
use Rattle.cx_prim.specs.CellStates.{CellState, StateShape, IsState, words_of, with_words}

-- what stands at the ports of a cell, one entry for each port of its row in their order: a value, or none. What
-- stands at outputs is not looked at
abbrev pub Inputs : Type 0
Inputs = List (Option BitVector)

-- what stands at port n
abbrev pub input : Inputs → ℕ → Option BitVector
input inputs n = slice_index_or inputs n None

abbrev pub number_of : Option BitVector → ℕ
number_of (Some b) = b.value
number_of None = 0

-- the number at port n, and 0 where no value stands there
abbrev pub value_at : Inputs → ℕ → ℕ
value_at inputs n = number_of (input inputs n)

-- whether the enabling port n is 1
abbrev pub is_on : Inputs → ℕ → Bool
is_on inputs n = value_at inputs n == 1

-- a primitive at its numbers
pub record Row : Type 0 where
  -- the ports in order
  pub ports : List PortRow
  -- which states it has
  pub shape : StateShape
  pub start : CellState
  -- the value of output n
  pub output : CellState → Inputs → ℕ → Option BitVector
  -- whether output n reads input m
  pub reads : ℕ → ℕ → Bool
  -- whether output n is the word at addresses of which one is out of range
  pub beyond : Inputs → ℕ → Bool
  -- whether plain input n has to be a value at the edge
  pub demands : CellState → Inputs → ℕ → Bool
  -- the first address port that the edge compares with its size and finds out of range
  pub out_of_range : Inputs → Option ℕ
  -- the state after the edge; where an address is out of range, what is read there is 0 and no word is written
  pub next : CellState → Inputs → CellState
  -- the state after the edge of a cycle in which every enabling port is 0
  pub idle : CellState → CellState

-- the state after the edge, or the first address port that is out of range
abbrev pub edge_of : Option ℕ → CellState → Result CellState ℕ
edge_of (Some port) next = Err port
edge_of None next = Ok next

abbrev pub edge : Row → CellState → Inputs → Result CellState ℕ
edge r state inputs = edge_of (r.out_of_range inputs) (r.next state inputs)

-- the start with these words
abbrev pub start_with : Row → List ℕ → CellState
start_with r words = with_words words r.start

-- the start, but a memory keeps its words
abbrev pub reset : Row → CellState → CellState
reset r state = with_words (words_of state) r.start

abbrev pub is_output_side : Side → Bool
is_output_side Output = true
is_output_side Registered = true
is_output_side _ = false

abbrev pub is_enable_side : Side → Bool
is_enable_side Enable = true
is_enable_side _ = false

abbrev pub is_plain_side : Side → Bool
is_plain_side Plain = true
is_plain_side _ = false

-- port n is there, on a side that passes the test
abbrev pub HasSide : Row → ℕ → (Side → Bool) → Type 0
HasSide r n test = (port : PortRow) × (slice_get r.ports n ≡ Some port) × (test port.side ≡ true)

-- one entry a port, each value as wide as its port
pub record FitsPorts (ports : List PortRow) (inputs : Inputs) : Type 0 where
  pub count : length inputs ≡ length ports
  pub widths : (n : ℕ) (port : PortRow) (b : BitVector) → slice_get ports n ≡ Some port
      → input inputs n ≡ Some b → b.width ≡ port.width

-- each value fits its width, as every value of the program does
abbrev pub AreValues : Inputs → Type 0
AreValues inputs = (n : ℕ) (b : BitVector) → input inputs n ≡ Some b → Fits b

-- every enabling port has a value, and so has every plain port that the edge demands
pub record IsLookedAt (r : Row) (state : CellState) (inputs : Inputs) : Type 0 where
  pub enabling : (n : ℕ) (port : PortRow) → slice_get r.ports n ≡ Some port → port.side ≡ Enable
      → IsSome (input inputs n)
  pub demanded : (n : ℕ) (port : PortRow) → slice_get r.ports n ≡ Some port → port.side ≡ Plain
      → r.demands state inputs n ≡ true → IsSome (input inputs n)

-- every enabling port is 0
abbrev pub IsQuiet : Row → Inputs → Type 0
IsQuiet r inputs =
    (n : ℕ) (port : PortRow) → slice_get r.ports n ≡ Some port → port.side ≡ Enable → value_at inputs n ≡ 0

-- the same stands at every enabling port and at every plain port that the edge demands
pub record AgreesWhereLooked (r : Row) (state : CellState) (inputs others : Inputs) : Type 0 where
  pub enabling : (n : ℕ) (port : PortRow) → slice_get r.ports n ≡ Some port → port.side ≡ Enable
      → input inputs n ≡ input others n
  pub demanded : (n : ℕ) (port : PortRow) → slice_get r.ports n ≡ Some port → port.side ≡ Plain
      → r.demands state inputs n ≡ true → input inputs n ≡ input others n

-- the same stands at every enabling port
pub record AgreesWhereEnabling (r : Row) (inputs others : Inputs) : Type 0 where
  pub enabling : (n : ℕ) (port : PortRow) → slice_get r.ports n ≡ Some port → port.side ≡ Enable
      → input inputs n ≡ input others n

-- an idle edge leaves the start as it is
abbrev pub StartsSettled : Row → Type 0
StartsSettled r = r.idle r.start ≡ r.start

-- two idle edges are one
abbrev pub IdlesOnce : Row → Type 0
IdlesOnce r = (state : CellState) → r.idle (r.idle state) ≡ r.idle state

-- an edge with every enabling port 0 is the idle edge, whatever the data ports hold
abbrev pub IdlesWhenQuiet : Row → Type 0
IdlesWhenQuiet r = (state : CellState) (inputs : Inputs) → IsQuiet r inputs → edge r state inputs ≡ Ok (r.idle state)

-- a registered output reads no input
abbrev pub KeepsRegistered : Row → Type 0
KeepsRegistered r =
    (state : CellState) (inputs others : Inputs) (n : ℕ) (port : PortRow) → slice_get r.ports n ≡ Some port
    → port.side ≡ Registered → r.output state inputs n ≡ r.output state others n

-- an edge depends only on the enabling and the demanded ports
abbrev pub LooksWhereDemanded : Row → Type 0
LooksWhereDemanded r =
    (state : CellState) (inputs others : Inputs) → AgreesWhereLooked r state inputs others
    → edge r state inputs ≡ edge r state others

-- what is demanded depends on the enabling ports alone
abbrev pub DemandsByEnabling : Row → Type 0
DemandsByEnabling r =
    (state : CellState) (inputs others : Inputs) (n : ℕ) → AgreesWhereEnabling r inputs others
    → r.demands state inputs n ≡ r.demands state others n

-- nothing is demanded where every enabling port is 0
abbrev pub DemandsNothingWhenQuiet : Row → Type 0
DemandsNothingWhenQuiet r =
    (state : CellState) (inputs : Inputs) (n : ℕ) → IsQuiet r inputs → r.demands state inputs n ≡ false

-- an address that is out of range stands at a port
abbrev pub RangesArePorts : Row → Type 0
RangesArePorts r = (inputs : Inputs) (n : ℕ) → r.out_of_range inputs ≡ Some n → n < length r.ports

-- a value of this width
pub record IsOfWidth (width : ℕ) (b : BitVector) : Type 0 where
  pub same_width : b.width ≡ width
  pub fits : Fits b

-- outputs have the widths of their ports

abbrev pub GivesWidths : Row → Type 0
GivesWidths r =
    (state : CellState) (inputs : Inputs) (n : ℕ) (port : PortRow) (b : BitVector) → IsState r.shape state
    → FitsPorts r.ports inputs → AreValues inputs
    → slice_get r.ports n ≡ Some port → is_output_side port.side ≡ true → r.output state inputs n ≡ Some b
    → IsOfWidth port.width b

-- the same stands at every input that output n reads
abbrev pub AgreesWhereRead : Row → ℕ → Inputs → Inputs → Type 0
AgreesWhereRead r n inputs others = (m : ℕ) → r.reads n m ≡ true → input inputs m ≡ input others m

-- an output depends only on the inputs that it reads
abbrev pub ReadsOnly : Row → Type 0
ReadsOnly r =
    (state : CellState) (inputs others : Inputs) (n : ℕ) → AgreesWhereRead r n inputs others
    → r.output state inputs n ≡ r.output state others n

-- an output has no value exactly where an input that it reads has none, or where it is a word at addresses of which one is out of range
pub record IsStrict (r : Row) (state : CellState) (inputs : Inputs) (n : ℕ) : Type 0 where
  pub unread : (m : ℕ) → r.reads n m ≡ true → input inputs m ≡ None → r.output state inputs n ≡ None
  pub beyond : r.beyond inputs n ≡ true → r.output state inputs n ≡ None
  pub otherwise : ((m : ℕ) → r.reads n m ≡ true → IsSome (input inputs m)) → r.beyond inputs n ≡ false
      → IsSome (r.output state inputs n)

abbrev pub AnswersStrictly : Row → Type 0
AnswersStrictly r =
    (state : CellState) (inputs : Inputs) (n : ℕ) → IsState r.shape state → HasSide r n is_output_side
    → IsStrict r state inputs n

-- the start is a state of the row, and edges keep the states of the row
pub record KeepsStates (r : Row) : Type 0 where
  pub start : IsState r.shape r.start
  pub next : (state : CellState) (inputs : Inputs) → IsState r.shape state → FitsPorts r.ports inputs
      → AreValues inputs → IsState r.shape (r.next state inputs)
  pub idle : (state : CellState) → IsState r.shape state → IsState r.shape (r.idle state)

-- the laws of a row, which every primitive keeps
pub record IsLawful (r : Row) : Type 0 where
  pub starts_settled : StartsSettled r
  pub idle_once : IdlesOnce r
  pub quiet_is_idle : IdlesWhenQuiet r
  pub registered : KeepsRegistered r
  pub looked_at : LooksWhereDemanded r
  pub by_enabling : DemandsByEnabling r
  pub nothing_demanded : DemandsNothingWhenQuiet r
  pub ranges : RangesArePorts r
  pub widths : GivesWidths r
  pub reads_only : ReadsOnly r
  pub strict : AnswersStrictly r
  pub states : KeepsStates r
