-- What is kept, as it lies in memory, and the cells that stand for cells.
use Rattle.std.specs.Prelude.{◌≡◌, ℕ, ◌<◌, ◌≤◌, ◌+◌, ◌*◌, Bool, true, false, ◌||◌, List, [], ◌∷◌, get_or, length, map, reverse, if◌then◌else◌}
use Rattle.std.specs.List.{list_any}
use Rattle.cx_meaning.specs.Designs.{PlainComponent, no_component}
use Rattle.cx_sharing.specs.Giving as giving
use Rattle.cx_sharing.specs.Giving.{is_in, keeper, keeper_in}
use Rattle.cx_sharing.specs.Meeting.{meet}
use Rattle.cx_share.specs.declared.giving.Kept.{Kept}

abbrev pub plain_kept : Kept → giving.Kept
plain_kept k = record { cell = k.cell; given = reverse k.given.items }

-- what stands for one whose number names none
abbrev pub no_kept : giving.Kept
no_kept = record { cell = 0; given = [] }

-- the marks of a kept one are those of the cells that meet it or one that was given to it
pub record IsNear (part : PlainComponent) (k : Kept) : Type 0 where
  pub count : length k.near ≡ length part.cells
  pub marks : (c : ℕ) → c < length part.cells
      → get_or k.near c false ≡ (meet part k.cell c || list_any (λ x. meet part x c) k.given.items)

abbrev pub AllNear : PlainComponent → List Kept → Type 0
AllNear part [] = Unit {0}
AllNear part (k ∷ ks) = IsNear part k × AllNear part ks

-- the marks that stand with each kept one, and with one of them
abbrev pub nears : List Kept → List (List Bool)
nears kept = map (λ k. k.near) kept

abbrev pub near_of : List Kept → ℕ → List Bool
near_of kept k = get_or (nears kept) k []

-- sets of as many cells each
abbrev pub AreAsWide : List (List Bool) → Type 0
AreAsWide sets = (j k : ℕ) → j < length sets → k < length sets → length (get_or sets j []) ≡ length (get_or sets k [])

-- each cell of one set is of the other
abbrev pub IsWithin : List Bool → List Bool → Type 0
IsWithin one other = (c : ℕ) → get_or one c false ≡ true → get_or other c false ≡ true

-- sets of cells that each of 64 kept ones refuses: of the first 64, of the next 64, and so on
pub record AreRefused (kept : List Kept) (refused : List (List Bool)) : Type 0 where
  pub few : length refused * 64 ≤ length kept
  pub each : (b k : ℕ) → b < length refused → b * 64 ≤ k → k < b * 64 + 64
      → IsWithin (get_or refused b []) (near_of kept k)

-- a kept cell and those that were given to it are below a bound
pub record Within (n : ℕ) (k : giving.Kept) : Type 0 where
  pub cell : k.cell < n
  pub given : (x : ℕ) → is_in x k.given ≡ true → x < n

abbrev pub AllWithin : ℕ → List giving.Kept → Type 0
AllWithin n [] = Unit {0}
AllWithin n (k ∷ ks) = Within n k × AllWithin n ks

-- the given cells have their keeper, and the others the one that they had
pub record Put (cell : ℕ) (given old new : List ℕ) : Type 0 where
  pub count : length new ≡ length old
  pub cells : (c : ℕ) → c < length old → get_or new c 0 ≡ (if is_in c given then cell else get_or old c 0)

-- for each of so many cells the cell that stands for it, by what is kept
pub record KeptBy (count : ℕ) (ks : List giving.Kept) (keepers : List ℕ) : Type 0 where
  pub long : length keepers ≡ count
  pub cells : (c : ℕ) → c < count → get_or keepers c 0 ≡ keeper_in ks c

-- for each cell of a component the cell that stands for it
pub record AreKeepers (part : PlainComponent) (keepers : List ℕ) : Type 0 where
  pub count : length keepers ≡ length part.cells
  pub keeps : (c : ℕ) → c < length part.cells → get_or keepers c 0 ≡ keeper part c
  pub within : (c : ℕ) → c < length part.cells → keeper part c < length part.cells

-- and for each component its own
pub record AllKeepers (parts : List PlainComponent) (keepers : List (List ℕ)) : Type 0 where
  pub count : length keepers ≡ length parts
  pub each : (k : ℕ) → k < length parts → AreKeepers (get_or parts k no_component) (get_or keepers k [])
