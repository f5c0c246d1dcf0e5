-- Where control stands, over the whole tree: what holds of the store of an instance in every cycle without a fault.
use Rattle.std.specs.Prelude.{◌≡◌, ℕ, zero, suc, true, false, List, [], ◌∷◌, Some}
use Rattle.cx_text.specs.Members.{In}
use Rattle.cx_text.specs.declared.places.Place.{Place}
use Rattle.cx_meaning.specs.declared.ports.PortRef.TheVariants as ports
use Rattle.cx_meaning.specs.Instances.{Instance, Node, Cells, no_cells, a_primitive, an_instance, part_of, cells_of, cell_at, OfInstance, Path, State, idle_below}
use Rattle.cx_meaning.specs.Active.{group}
use Rattle.cx_meaning.specs.Truths.{One, truth_of}
use Rattle.cx_meaning.specs.Sights.{Held, seen}
use Rattle.cx_meaning.specs.Control.{drives}
use Rattle.cx_meaning.specs.Calls.{called, captures}
use Rattle.cx_lockstep.specs.Worlds.{Control, At, Done, Machine}
use Rattle.cx_lockstep.specs.Statements.{LeafMachines}
use Rattle.cx_lockstep.specs.Running.{Running, AGroup, leaf_of, at_control, running}
use Rattle.cx_control.specs.Codings.{Coding}
use Rattle.cx_control.specs.Spots.{Cell, Number, Kept}
use Rattle.cx_control.specs.Leaves.{Coded, code_of, leaf_machines}
use Rattle.cx_control.specs.Controls.{coded_control, coded_below}

-- the store of an instance without its inputs and without its own numbers, which are the place itself: of the cell c and a path
-- below it, the numbers there
pub record Bare : Type 0 where
  pub cell : State
  pub number : ℕ → Path → ℕ → ℕ

abbrev pub bare : Kept → Bare
bare s = record { cell = λ path. s (Cell path); number = λ c path n. s (Number (c ∷ path) n) }

abbrev pub bare_under : ℕ → Bare → Bare
bare_under c b = record { cell = λ path. b.cell (c ∷ path); number = λ d path n. b.number c (d ∷ path) n }

-- a cell rests: an idle edge changes nothing in it, and its numbers are 0
pub record RestsAt (cells : Cells) (c : ℕ) (b : Bare) : Type 0 where
  pub cells_rest : (path : Path) → idle_below cells c path (b.cell (c ∷ path)) ≡ b.cell (c ∷ path)
  pub numbers_rest : (path : Path) (n : ℕ) → b.number c path n ≡ 0

-- THE INVARIANT of an instance over the leaves that run; good says it of what stands at each of its cells
module _ (i : Instance) (children : ℕ → Coded)
    (good : (c : ℕ) → Control (Machine.Place (Coded.machine (children c))) → Bare → Type 0) where
  -- the hole of a group is 1, whatever the inputs of the instance are
  abbrev pub HoleIsSet : Bare → ℕ → Type 0
  HoleIsSet b g = (held : Held) → truth_of (seen i held (group g) b.cell (ports.Done g)) ≡ One

  abbrev pub HoleIsOpen : Bare → ℕ → Type 0
  HoleIsOpen b g = (held : Held) → truth_of (seen i held (group g) b.cell (ports.Done g)) ≡ One → ⊥

  -- the numbers of the child at a cell say where its control stands
  abbrev pub HasCode : Bare → (c : ℕ) → Control (Machine.Place (Coded.machine (children c))) → Type 0
  HasCode b c k = (n : ℕ) → b.number c [] n ≡ code_of (children c) k n

  -- while a group calls: the child runs, or is at its end, or the registers have captured
  pub data Calling (g c : ℕ) (b : Bare) : Type 0 where
    runs : (p : Machine.Place (Coded.machine (children c))) → Coding.IsFine (Coded.coding (children c)) p
        → HasCode b c (At p) → good c (At p) (bare_under c b)
        → (captures i g ≡ true → HoleIsOpen b g) → Calling g c b
    at_end : HasCode b c Done → good c Done (bare_under c b) → (captures i g ≡ true → HoleIsOpen b g) → Calling g c b
    captured : RestsAt (cells_of i) c b → captures i g ≡ true → HoleIsSet b g → Calling g c b

  pub record GoodAt (leaves : List (Running (leaf_machines i children))) (b : Bare) : Type 0 where
    pub rests : (c : ℕ) → ((r : Running (leaf_machines i children)) → In leaves r →
        drives (part_of i) (leaf_of (leaf_machines i children) r) c ≡ false) → RestsAt (cells_of i) c b
    pub calls : (g : ℕ) (place : Place)
        (stand : Machine.Place (LeafMachines.enable (leaf_machines i children) g)) (c : ℕ)
        → In leaves (AGroup g place stand) → called i g ≡ Some c → Calling g c b
    -- below what is no component all numbers are 0
    pub nowhere : (c : ℕ) → ((child : Instance) → cell_at (cells_of i) c ≡ OfInstance child → ⊥)
        → (path : Path) (n : ℕ) → b.number c path n ≡ 0

-- OF AN INSTANCE, and of what stands at its cells
abbrev mutual
  pub good_control : (i : Instance) → Control (Machine.Place (Coded.machine (coded_control i))) → Bare → Type 0
  good_control (Node part cells) k b =
      GoodAt (Node part cells) (coded_below cells) (good_below cells)
      (at_control (running (leaf_machines (Node part cells) (coded_below cells)) part.control) k) b

  pub good_below : (cells : Cells) (c : ℕ) → Control (Machine.Place (Coded.machine (coded_below cells c)))
      → Bare → Type 0
  good_below no_cells c k b = Unit {0}
  good_below (a_primitive row rest) zero k b = Unit {0}
  good_below (a_primitive row rest) (suc c) k b = good_below rest c k b
  good_below (an_instance child rest) zero k b = good_control child k b
  good_below (an_instance child rest) (suc c) k b = good_below rest c k b
