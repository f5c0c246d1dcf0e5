-- How a state begins, instance by instance.
use Rattle.std.specs.Prelude.{◌≡◌, ◌<◌, ℕ, zero, suc, Bool, true, false, List, [], ◌∷◌, Option, Some, None, length, replicate}
use Rattle.cx_prim.specs.CellStates.{CellState, TakesWords}
use Rattle.cx_prim.specs.Rows.{Row, start_with}
use Rattle.cx_prim.specs.Table.{row_of}
use Rattle.cx_meaning.specs.declared.sights.Seen.TheVariants.{Undefined}
use Rattle.cx_meaning.specs.Designs.{PlainKind, OfPrimitive, OfComponent, PlainCell, PlainComponent, PlainDesign}
use Rattle.cx_meaning.specs.Instances.{Path, part_of, instance_at, tree_of}
use Rattle.cx_state.specs.Tables.{IsNumber}
use Rattle.cx_state.specs.States.{PlainInstance, instance_state, HoldCells}

-- the words for a cell, of the lists for the external ones from it on, and the lists for those behind it
abbrev pub words_for : Bool → List (List ℕ) → Option (List ℕ)
words_for true [] = None
words_for true (w ∷ ws) = Some w
words_for false ws = None

abbrev pub words_past : Bool → List (List ℕ) → List (List ℕ)
words_past true [] = []
words_past true (w ∷ ws) = ws
words_past false ws = ws

abbrev pub row_started : Row → Option (List ℕ) → CellState
row_started row None = row.start
row_started row (Some words) = start_with row words

abbrev pub kind_started : PlainKind → Option (List ℕ) → Option CellState
kind_started (OfPrimitive p) words = Some (row_started (row_of p) words)
kind_started (OfComponent k) words = None

-- what cells hold at the start
abbrev pub started : List PlainCell → List (List ℕ) → List (Option CellState)
started [] ws = []
started (cell ∷ cells) ws =
    kind_started cell.kind (words_for cell.external ws) ∷ started cells (words_past cell.external ws)

-- the memories take their words
abbrev pub RowTakes : Row → Option (List ℕ) → Type 0
RowTakes row None = Unit {0}
RowTakes row (Some words) = TakesWords row.shape words

abbrev pub KindTakes : PlainKind → Option (List ℕ) → Type 0
KindTakes (OfPrimitive p) words = RowTakes (row_of p) words
KindTakes (OfComponent k) words = Unit {0}

abbrev pub TakeWords : List PlainCell → List (List ℕ) → Type 0
TakeWords [] ws = Unit {0}
TakeWords (cell ∷ cells) ws =
    KindTakes cell.kind (words_for cell.external ws) × TakeWords cells (words_past cell.external ws)

-- the words are those of main alone
abbrev pub words_of_main : ℕ → List (List ℕ) → List (List ℕ)
words_of_main zero ws = ws
words_of_main (suc n) ws = []

-- an instance at its start
pub record IsStarted (part : PlainComponent) (ws : List (List ℕ)) (i : PlainInstance) : Type 0 where
  pub cells : i.cells ≡ started part.cells ws
  pub held : i.held ≡ replicate (length part.inputs) Undefined
  pub fits : HoldCells part.cells i.cells

-- the first n instances at their starts
pub record AreStarted (d : PlainDesign) (ws : List (List ℕ)) (n : ℕ) (rows : List PlainInstance) : Type 0 where
  pub count : length rows ≡ n
  pub each : (m : ℕ) (path : Path) → m < n → IsNumber d m path
      → IsStarted (part_of (instance_at (tree_of d) path)) (words_of_main m ws) (instance_state rows m)
