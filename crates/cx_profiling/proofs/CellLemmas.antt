-- The cells that an instrumented component gains: registers, adders, the memory of the counts.
use Rattle.std.proofs.Common.{◌≡◌, ◌≢◌, ℕ, zero, suc, ◌*◌, ◌^◌, ◌<◌, ◌≤◌, Bool, true, false, ◌&&◌, inl, inr, List, [], ◌∷◌, length, Some, None, refl, sym, ap, ◌∙◌, subst, arith}
use Rattle.std.specs.Prelude.{nat_le, nat_lt, nat_eq, unwrap_or, if◌then◌else◌}
use Rattle.std.specs.List.{list_all}
use Rattle.std.proofs.lemmas.Bool.{le-leb, eqb-true, eqb-false}
use Rattle.cx_text.proofs.NumberLaws.{lt_true, true_false}
use Rattle.cx_text.proofs.OptionLaws.{some_by}
use Rattle.cx_text.specs.declared.places.Place.{Place}
use Rattle.cx_prim.specs.declared.names.PrimitiveName.{PrimitiveName}
use Rattle.cx_prim.specs.declared.names.PrimitiveName.TheVariants as primitives
use Rattle.cx_prim.specs.RegisterRow.{register_row}
use Rattle.cx_prim.specs.MemoryRows.{are_sizes, is_address_width, memory_row}
use Rattle.cx_prim.specs.Table.{row_at, row_of, no_row}
use Rattle.cx_meaning.specs.Designs.{OfPrimitive, PlainCell, PlainDesign}
use Rattle.cx_text.specs.Members.{In}
use Rattle.cx_rules.specs.Wellformed.{IsCell, IsKind, is_memory}
use Rattle.cx_profiling.specs.Instrumented.{new_cell, name_at, counter_cells, width_from, address_width, memory_cell}
use Rattle.cx_profiling.proofs.ThereLemmas.{kind_ports}

abbrev is_timer : PrimitiveName → Bool
is_timer primitives.Timer = true
is_timer _ = false

no_timer : (name : PrimitiveName) → is_timer name ≡ false → name ≢ primitives.Timer
no_timer name e same = true_false (sym (ap is_timer same) ∙ e)

inside : (d : PlainDesign) (k : ℕ) (cell : PlainCell) → IsKind d cell.kind → cell.external ≡ false → IsCell d k cell
inside d k cell kind e = record { kind = kind; external = λ f. absurd (true_false (sym f ∙ e)) }

-- REGISTERS AND ADDERS
register_cell : (d : PlainDesign) (k : ℕ) (place : Place) (name : List ℕ) → IsCell d k (new_cell place name primitives.Reg (64 ∷ []) false)
register_cell d k place name = inside d k (new_cell place name primitives.Reg (64 ∷ []) false) (some_by (row_at primitives.Reg (64 ∷ [])) (register_row 64) refl, no_timer primitives.Reg refl) refl

adder_cell : (d : PlainDesign) (k : ℕ) (place : Place) (name : List ℕ) → IsCell d k (new_cell place name primitives.Add (64 ∷ []) false)
adder_cell d k place name = inside d k (new_cell place name primitives.Add (64 ∷ []) false) (some_by (row_at primitives.Add (64 ∷ [])) (unwrap_or (row_at primitives.Add (64 ∷ [])) no_row) refl, no_timer primitives.Add refl) refl

pub counter_cells-fit : (d : PlainDesign) (k : ℕ) (place : Place) (names : List (List ℕ)) (n count : ℕ) (cell : PlainCell) → In (counter_cells place names n count) cell → IsCell d k cell
counter_cells-fit d k place names n zero cell i = absurd i
counter_cells-fit d k place names n (suc count) cell (inl e) = subst (IsCell d k) e (register_cell d k place (name_at names n))
counter_cells-fit d k place names n (suc count) cell (inr (inl e)) = subst (IsCell d k) e (adder_cell d k place (name_at names (suc n)))
counter_cells-fit d k place names n (suc count) cell (inr (inr i)) = counter_cells-fit d k place names (suc (suc n)) count cell i

-- THE MEMORY: its address has 1 to 64 bits
pub width_from-le : (fuel w k : ℕ) → w ≤ 32 → k ≤ 2 ^ 32 → width_from fuel w k ≤ 32
width_from-le zero w k few small = few
width_from-le (suc more) w k few small = by (nat_le k (2 ^ w)) refl (width_from-le more (suc w) k)
  where
    below : nat_le k (2 ^ w) ≡ false → suc w ≤ 32
    below e = by_number (nat_eq w 32) refl
      where
        by_number : (b : Bool) → nat_eq w 32 ≡ b → suc w ≤ 32
        by_number true f =
            let same : w ≡ 32 = eqb-true w 32 f in
            absurd (true_false (sym (le-leb k (2 ^ w) (subst (λ x. k ≤ 2 ^ x) (sym same) small)) ∙ e))
        by_number false f = omega (arith, eqb-false w 32 f)

    by : (b : Bool) → nat_le k (2 ^ w) ≡ b → (suc w ≤ 32 → k ≤ 2 ^ 32 → width_from more (suc w) k ≤ 32) → (if b then w else width_from more (suc w) k) ≤ 32
    by true e later = few
    by false e later = later (below e) small

pub width_from-ge : (fuel w k : ℕ) → 1 ≤ w → 1 ≤ width_from fuel w k
width_from-ge zero w k some = some
width_from-ge (suc more) w k some = by (nat_le k (2 ^ w)) (width_from-ge more (suc w) k (omega arith))
  where
    by : (b : Bool) → 1 ≤ width_from more (suc w) k → 1 ≤ (if b then w else width_from more (suc w) k)
    by true later = some
    by false later = later

module _ (k : ℕ) (some : 1 ≤ k) (few : k < 2 ^ 32) where
  sized : are_sizes (k ∷ []) ≡ true
  sized =
      ap (λ b. (b && true) && nat_lt (k * 1) (2 ^ 32)) (le-leb 1 k some)
      ∙ lt_true (k * 1) (2 ^ 32) (omega arith)

  addressed : list_all is_address_width (address_width k ∷ []) ≡ true
  addressed =
      ap (λ b. (b && nat_le (address_width k) 64) && true) (le-leb 1 (address_width k) (width_from-ge k 1 k (omega arith)))
      ∙ ap (λ b. b && true) (le-leb (address_width k) 64 (let w : address_width k ≤ 32 = width_from-le k 1 k (omega arith) (omega arith) in omega arith))

  pub memory_row-is : row_at primitives.StdMemD1 (64 ∷ k ∷ address_width k ∷ []) ≡ Some (memory_row 64 (k ∷ []) (address_width k ∷ []))
  memory_row-is =
      ap (λ b. if true && (b && list_all is_address_width (address_width k ∷ [])) then Some (memory_row 64 (k ∷ []) (address_width k ∷ [])) else None) sized
      ∙ ap (λ b. if true && (true && b) then Some (memory_row 64 (k ∷ []) (address_width k ∷ [])) else None) addressed

  pub memory_row_of : row_of (record { name = primitives.StdMemD1; numbers = 64 ∷ k ∷ address_width k ∷ [] }) ≡ memory_row 64 (k ∷ []) (address_width k ∷ [])
  memory_row_of = ap (λ o. unwrap_or o no_row) memory_row-is

  pub memory_ports : (d : PlainDesign) → kind_ports d (OfPrimitive (record { name = primitives.StdMemD1; numbers = 64 ∷ k ∷ address_width k ∷ [] })) ≡ 5
  memory_ports d = ap (λ row. length row.ports) memory_row_of

  pub memory_cell-fits : (d : PlainDesign) (main : ℕ) (place : Place) (name : List ℕ) → main ≡ d.main → IsCell d main (memory_cell place name k)
  memory_cell-fits d main place name e = record {
    kind = (some_by (row_at primitives.StdMemD1 (64 ∷ k ∷ address_width k ∷ [])) (memory_row 64 (k ∷ []) (address_width k ∷ [])) memory_row-is, no_timer primitives.StdMemD1 refl);
    external = λ f. (e, ap (λ row. is_memory row.shape) memory_row_of, omega arith);
  }
