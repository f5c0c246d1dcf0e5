-- Ports of wires: the name of a cell that ends in a point.
use Rattle.std.proofs.Common.{◌≡◌, ℕ, zero, suc, ◌<◌, ◌≤◌, true, false, List, [], ◌∷◌, ◌++◌, length, map, get_or, codes, if◌then◌else◌, refl, sym, ap, ◌∙◌, arith}
use Rattle.std.specs.Prelude.{nat_eq, Option, Some, None, IfNone, IfSome}
use Rattle.cx_meaning.specs.declared.ports.PortRef.TheVariants as ports
use Rattle.cx_meaning.specs.Designs.{PlainComponent}
use Rattle.cx_meaning.specs.Instances.{Instance, part_of, cells_of, cell_at}
use Rattle.cx_rules.specs.Ports.{cell_name, cell_port_name, path_of}
use Rattle.cx_rules.specs.FullPaths.{ends_in_point, but_last, own_path}
use Rattle.cx_design.specs.declared.cells.Cell.{Cell}
use Rattle.cx_design.specs.PlainForms.{plain_cell}

-- POINTS at the end
pub point_last : (name front : List ℕ) (last : ℕ) → name ≡ front ++ last ∷ [] → ends_in_point name ≡ nat_eq last 46
point_last name front last e = ap ends_in_point e ∙ by front
  where
    by : (xs : List ℕ) → ends_in_point (xs ++ last ∷ []) ≡ nat_eq last 46
    by [] = refl
    by (x ∷ []) = refl
    by (x ∷ y ∷ rest) = by (y ∷ rest)

pub front_left : (name front : List ℕ) (last : ℕ) → name ≡ front ++ last ∷ [] → front ≡ but_last name
front_left name front last e = sym (ap but_last e ∙ by front)
  where
    by : (xs : List ℕ) → but_last (xs ++ last ∷ []) ≡ xs
    by [] = refl
    by (x ∷ []) = refl
    by (x ∷ y ∷ rest) = ap (λ l. x ∷ l) (by (y ∷ rest))

-- A PORT of a cell, by the name of the cell
module _ (part : PlainComponent) (c p : ℕ) (i : Instance) (own : part_of i ≡ part) where
  pub wire_told : (name : List ℕ) → cell_name part.cells c ≡ name → ends_in_point name ≡ true → own_path i (ports.Cell c p) ≡ but_last name
  wire_told name is ends =
      ap (λ (x : PlainComponent). if ends_in_point (cell_name x.cells c) then but_last (cell_name x.cells c) else cell_name x.cells c ++ codes "." ++ cell_port_name (cell_at (cells_of i) c) p) own
      ∙ ap (λ n. if ends_in_point n then but_last n else n ++ codes "." ++ cell_port_name (cell_at (cells_of i) c) p) is
      ∙ ap (λ b. if b then but_last name else name ++ codes "." ++ cell_port_name (cell_at (cells_of i) c) p) ends

  pub no_wire : (name : List ℕ) → cell_name part.cells c ≡ name → ends_in_point name ≡ false → own_path i (ports.Cell c p) ≡ path_of i (ports.Cell c p)
  no_wire name is ends =
      ap (λ b. if b then but_last (cell_name (part_of i).cells c) else cell_name (part_of i).cells c ++ codes "." ++ cell_port_name (cell_at (cells_of i) c) p)
      (ap ends_in_point (ap (λ (x : PlainComponent). cell_name x.cells c) own ∙ is) ∙ ends)

-- the name of a cell that is there, and of one that is not
pub name_there : (cells list : List Cell) (c : ℕ) (cell : Cell) → list ≡ cells → c < length list → cell ≡ get_or list c cell → cell_name (map plain_cell cells) c ≡ cell.name
name_there cells list c cell same within at = ap (λ l. cell_name (map plain_cell l) c) (sym same) ∙ by list c within at
  where
    by : (xs : List Cell) (n : ℕ) → n < length xs → cell ≡ get_or xs n cell → cell_name (map plain_cell xs) n ≡ cell.name
    by [] n lt e = absurd (omega (arith, lt))
    by (x ∷ xs) zero lt e = ap (λ (y : Cell). y.name) (sym e)
    by (x ∷ xs) (suc n) lt e = by xs n (omega (arith, lt)) e

pub name_past : (cells list : List Cell) (c : ℕ) → list ≡ cells → length list ≤ c → cell_name (map plain_cell cells) c ≡ []
name_past cells list c same past = ap (λ l. cell_name (map plain_cell l) c) (sym same) ∙ by list c past
  where
    by : (xs : List Cell) (n : ℕ) → length xs ≤ n → cell_name (map plain_cell xs) n ≡ []
    by [] n le = refl
    by (x ∷ xs) zero le = absurd (omega (arith, le))
    by (x ∷ xs) (suc n) le = by xs n (omega (arith, le))

-- WHAT IS SAID OF AN ANSWER, by what was said of it
pub if_none : {A : Type 0} {P Q : Type 0} (r : Option A) → (P → Q) → IfNone r P → IfNone r Q
if_none None each h = each h
if_none (Some x) each h = tt

pub if_some : {A : Type 0} {P Q : A → Type 0} (r : Option A) → ((x : A) → P x → Q x) → IfSome r P → IfSome r Q
if_some None each h = tt
if_some (Some x) each h = each x h
