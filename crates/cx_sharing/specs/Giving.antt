-- Giving: go over the cells in order; each candidate is given to the first kept one that takes it, else it is kept.
use Rattle.std.specs.Prelude.{ℕ, zero, suc, Bool, true, false, ◌&&◌, not, nat_eq, List, [], ◌∷◌, length, if◌then◌else◌}
use Rattle.std.specs.List.{list_all, list_any}
use Rattle.cx_prim.specs.PrimitiveNames.{name_text}
use Rattle.cx_meaning.specs.Designs.{PlainKind, OfPrimitive, OfComponent, PlainComponent}
use Rattle.cx_meaning.specs.Instances.{Set}
use Rattle.cx_numbering.specs.Names.{same_name}
use Rattle.cx_sharing.specs.Uses.{kind_in, is_candidate}
use Rattle.cx_sharing.specs.Meeting.{meet}

-- a kept cell and those that were given to it, the last first
pub record Kept : Type 0 where
  pub cell : ℕ
  pub given : List ℕ

abbrev pub same_numbers : List ℕ → List ℕ → Bool
same_numbers [] [] = true
same_numbers [] (b ∷ ys) = false
same_numbers (a ∷ xs) [] = false
same_numbers (a ∷ xs) (b ∷ ys) = nat_eq a b && same_numbers xs ys

-- the same primitive with the same numbers
abbrev pub same_kind : PlainKind → PlainKind → Bool
same_kind (OfPrimitive p) (OfPrimitive q) =
    same_name (name_text p.name) (name_text q.name) && same_numbers p.numbers q.numbers
same_kind (OfPrimitive p) (OfComponent k) = false
same_kind (OfComponent j) k = false

-- a kept cell takes one of its kind that meets neither it nor any that was given to it
abbrev pub takes : PlainComponent → ℕ → Kept → Bool
takes part c k =
    same_kind (kind_in part.cells k.cell) (kind_in part.cells c)
    && list_all (λ x. not (meet part x c)) (k.cell ∷ k.given)

abbrev pub give : PlainComponent → ℕ → List Kept → List Kept
give part c [] = record { cell = c; given = [] } ∷ []
give part c (k ∷ ks) = if takes part c k then record { cell = k.cell; given = c ∷ k.given } ∷ ks else k ∷ give part c ks

abbrev pub give_candidate : PlainComponent → ℕ → List Kept → List Kept
give_candidate part c ks = if is_candidate part c then give part c ks else ks

-- what is kept after so many cells, and after all
abbrev pub kept_after : PlainComponent → ℕ → List Kept
kept_after part zero = []
kept_after part (suc c) = give_candidate part c (kept_after part c)

abbrev pub kept_of : PlainComponent → List Kept
kept_of part = kept_after part (length part.cells)

-- THE CELL THAT STANDS FOR A CELL, by its old number: the kept one where it was given, else itself
abbrev pub is_in : ℕ → List ℕ → Bool
is_in c list = list_any (λ x. nat_eq x c) list

abbrev pub keeper_in : List Kept → ℕ → ℕ
keeper_in [] c = c
keeper_in (k ∷ ks) c = if is_in c k.given then k.cell else keeper_in ks c

abbrev pub keeper : PlainComponent → ℕ → ℕ
keeper part c = keeper_in (kept_of part) c

-- a cell that was not given stays
abbrev pub stays : PlainComponent → Set
stays part c = nat_eq (keeper part c) c

-- how many cells of a set stand before a cell
abbrev pub staying : Set → ℕ → ℕ
staying set zero = 0
staying set (suc c) = if set c then suc (staying set c) else staying set c

-- THE NEW NUMBER of a cell: that of the cell that stands for it, among those that stay
abbrev pub new_cell : PlainComponent → ℕ → ℕ
new_cell part c = staying (stays part) (keeper part c)
