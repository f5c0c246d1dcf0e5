-- PORTS OF ROWS, by their names: those of memories stand behind their address ports.
use Rattle.std.specs.Prelude.{◌≡◌, ◌<◌, ℕ, zero, suc, ◌+◌, Bool, false, List, [], ◌∷◌, ◌++◌, Some, length, if◌then◌else◌, refl}
use Rattle.std.proofs.Common.{ap, ◌∙◌, arith}
use Rattle.cx_prim.specs.declared.ports.PortName.{PortName}
use Rattle.cx_prim.specs.declared.ports.PortName.TheVariants as names
use Rattle.cx_prim.specs.declared.ports.PortRow.{PortRow}
use Rattle.cx_prim.specs.declared.ports.Side.TheVariants as sides
use Rattle.cx_prim.specs.MemoryRows.{ports_named}
use Rattle.cx_meaning.specs.Rows.{side_from}
use Rattle.cx_promotion.specs.Promotable.{is_name, is_named, first_named}

-- NONE OF THESE NAMES is the name
abbrev pub AreOther : PortName → List PortName → Type 0
AreOther name [] = Unit {0}
AreOther name (x ∷ rest) = (is_name name x ≡ false) × AreOther name rest

abbrev pub addresses : List PortName
addresses = names.Addr0 ∷ names.Addr1 ∷ names.Addr2 ∷ names.Addr3 ∷ []

-- where a port of a memory stands: among its address ports, which are plain, or behind them
pub data Spot (name : PortName) (xs ys : List PortRow) (p : ℕ) : Type 0 where
  before : p < length xs → side_from (xs ++ ys) p ≡ sides.Plain → is_named name (xs ++ ys) p ≡ false → Spot name xs ys p
  behind : (q : ℕ) → p ≡ length xs + q → side_from (xs ++ ys) p ≡ side_from ys q → is_named name (xs ++ ys) p ≡ is_named name ys q → Spot name xs ys p

spot_later : (name other : PortName) (w : ℕ) (xs ys : List PortRow) (p : ℕ) → is_name name other ≡ false → Spot name xs ys p → Spot name (record { name = other; side = sides.Plain; width = w } ∷ xs) ys (suc p)
spot_later name other w xs ys p apart (before lt side none) = before (omega arith) side none
spot_later name other w xs ys p apart (behind q at side same) = behind q (omega arith) side same

pub spot_of : (name : PortName) (all : List PortName) (widths : List ℕ) (ys : List PortRow) (p : ℕ) → AreOther name all → Spot name (ports_named all widths) ys p
spot_of name [] widths ys p apart = behind p (omega arith) refl refl
spot_of name (x ∷ all) [] ys p apart = behind p (omega arith) refl refl
spot_of name (x ∷ all) (w ∷ widths) ys zero apart = before (omega arith) refl apart.0
spot_of name (x ∷ all) (w ∷ widths) ys (suc p) apart = spot_later name x w (ports_named all widths) ys p apart.0 (spot_of name all widths ys p apart.1)

-- the first port of the name stands behind them
pub first_behind : (name : PortName) (all : List PortName) (widths : List ℕ) (ys : List PortRow) (k : ℕ) → AreOther name all
    → first_named name (ports_named all widths ++ ys) k ≡ first_named name ys (k + length (ports_named all widths))
first_behind name [] widths ys k apart = ap (first_named name ys) (omega arith)
first_behind name (x ∷ all) [] ys k apart = ap (first_named name ys) (omega arith)
first_behind name (x ∷ all) (w ∷ widths) ys k apart =
    skipped (is_name name x) apart.0 ∙ first_behind name all widths ys (suc k) apart.1 ∙ ap (first_named name ys) (omega arith)
  where
    skipped : (b : Bool) → b ≡ false → (if b then Some k else first_named name (ports_named all widths ++ ys) (suc k)) ≡ first_named name (ports_named all widths ++ ys) (suc k)
    skipped b e = ap (λ (t : Bool). if t then Some k else first_named name (ports_named all widths ++ ys) (suc k)) e

pub no_done : AreOther names.Done addresses
no_done = (refl, (refl, (refl, (refl, tt))))

pub no_content : AreOther names.ContentEn addresses
no_content = (refl, (refl, (refl, (refl, tt))))

pub no_write : AreOther names.WriteEn addresses
no_write = (refl, (refl, (refl, (refl, tt))))
