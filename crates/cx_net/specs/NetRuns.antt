-- The run of a net from reset, and which nets are grounded.
use Rattle.std.specs.Prelude.{◌≡◌, ℕ, zero, suc, ◌+◌, Bool, true, false, List, [], ◌∷◌, Some, IsSome, map}
use Rattle.std.specs.Option.{option_map_or}
use Rattle.cx_bits.specs.BitVector.{BitVector}
use Rattle.cx_text.specs.Loading.{PlainMemory, FitsRows}
use Rattle.cx_prim.specs.CellStates.{CellState, Stateless}
use Rattle.cx_prim.specs.CellStates as cell_states
use Rattle.cx_meaning.specs.Designs.{PlainDesign}
use Rattle.cx_meaning.specs.Instances.{Path, externals_from, loaded_at}
use Rattle.cx_rules.specs.Externals.{external_rows}
use Rattle.cx_vtree.specs.SimRun.{Outcome, DoneAt, NotDone}
use Rattle.cx_net.specs.Nets.{PlainNetComponent}
use Rattle.cx_net.specs.NetTree.{NetInstance, NetNode, NetCells, no_net_cells, a_row, a_child, net_part}
use Rattle.cx_net.specs.NetMeaning.{NetState, Node, TheDone, NetLook, NetHas, is_node, is_true}
use Rattle.cx_net.specs.NetEdges.{net_after}

-- THE START: every cell at its row's start, the external memories with the loaded words, and every register 0
abbrev mutual
  pub net_start_at : NetInstance → Path → CellState
  net_start_at (NetNode part cells) [] = Stateless
  net_start_at (NetNode part cells) (c ∷ path) = net_start_below cells c path

  pub net_start_below : NetCells → ℕ → Path → CellState
  net_start_below no_net_cells c path = Stateless
  net_start_below (a_row row rest) zero path = row.start
  net_start_below (a_row row rest) (suc c) path = net_start_below rest c path
  net_start_below (a_child child rest) zero path = net_start_at child path
  net_start_below (a_child child rest) (suc c) path = net_start_below rest c path

abbrev pub net_externals : PlainNetComponent → List ℕ
net_externals part = externals_from 0 part.cells

abbrev pub started : NetInstance → List (List ℕ) → Path → CellState
started tree words [] = Stateless
started tree words (c ∷ []) = loaded_at (net_externals (net_part tree)) words c (net_start_at tree (c ∷ []))
started tree words (c ∷ e ∷ path) = net_start_at tree (c ∷ e ∷ path)

abbrev pub net_start : NetInstance → List (List ℕ) → NetState
net_start tree words = record { cell = started tree words; register = λ path n. 0 }

abbrev pub net_words : NetInstance → NetState → List (List ℕ)
net_words tree s = map (λ c. cell_states.words_of (s.cell (c ∷ []))) (net_externals (net_part tree))

-- each node has its value in the look, and so has each guard and source that a register tries, by what it stands for there
pub record IsWholeLook (tree : NetInstance) (go : Bool) (s : NetState) (look : NetLook) : Type 0 where
  pub right : (path : Path) (n : Node) (v : BitVector) → look path n ≡ Some v → NetHas tree go s path n v
  pub whole : (path : Path) (n : Node) → is_node tree path n ≡ true → IsSome (look path n)

abbrev pub is_done : NetLook → Bool
is_done look = option_map_or is_true (look [] TheDone) false

pub data NetRunsFrom (tree : NetInstance) : NetState → ℕ → ℕ → Outcome → Type 0 where
  ends : {s : NetState} {cycle left : ℕ} (look : NetLook) → IsWholeLook tree true s look
      → is_done look ≡ true → NetRunsFrom tree s cycle left (DoneAt cycle (net_words tree s))
  spent : {s : NetState} {cycle : ℕ} (look : NetLook) → IsWholeLook tree true s look
      → is_done look ≡ false → NetRunsFrom tree s cycle 0 NotDone
  goes_on : {s : NetState} {cycle left : ℕ} {o : Outcome} (look : NetLook) → IsWholeLook tree true s look
      → is_done look ≡ false
      → NetRunsFrom tree (net_after tree false true s look) (cycle + 1) left o → NetRunsFrom tree s cycle (suc left) o

-- THE RUN OF A NET: one edge with reset and without go, and then cycles with go
pub data NetRun (tree : NetInstance) (loaded : List (List ℕ)) (last : ℕ) : Outcome → Type 0 where
  after_reset : {o : Outcome} (look : NetLook) → IsWholeLook tree false (net_start tree loaded) look
      → NetRunsFrom tree (net_after tree true false (net_start tree loaded) look) 0 last o → NetRun tree loaded last o

-- the states that a run comes to
pub data Comes (tree : NetInstance) (loaded : List (List ℕ)) : Bool → NetState → Type 0 where
  at_reset : Comes tree loaded false (net_start tree loaded)
  at_first : (look : NetLook) → IsWholeLook tree false (net_start tree loaded) look
      → Comes tree loaded true (net_after tree true false (net_start tree loaded) look)
  at_next : {s : NetState} (look : NetLook) → Comes tree loaded true s → IsWholeLook tree true s look
      → Comes tree loaded true (net_after tree false true s look)

-- GROUNDED: in each of them all has a value
abbrev pub IsGrounded : (List (List ℕ) → Type 0) → NetInstance → Type 0
IsGrounded Fits tree =
    (loaded : List (List ℕ)) → Fits loaded → (go : Bool) (s : NetState) → Comes tree loaded go s
    → (path : Path) (n : Node) → is_node tree path n ≡ true → (v : BitVector) × NetHas tree go s path n v

-- words of memories that fit the external rows of a design
abbrev pub AreWords : PlainDesign → List (List ℕ) → Type 0
AreWords d loaded =
    (memories : List PlainMemory) × FitsRows (external_rows d) memories
    × (map (λ m. m.words) memories ≡ loaded)
