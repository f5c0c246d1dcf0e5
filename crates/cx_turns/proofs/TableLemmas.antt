-- Tables as they grow, and what they tell of the instances.
use Rattle.std.proofs.Common.{◌≡◌, ℕ, zero, suc, List, [], ◌∷◌, ◌++◌, Option, Some, None, length, slice_get, sym, ap, subst}
use Rattle.cx_meaning.specs.Designs.{PlainDesign}
use Rattle.cx_meaning.specs.Instances.{part_of}
use Rattle.cx_state.specs.declared.tables.InstanceRow.{InstanceRow}
use Rattle.cx_state.specs.Tables.{IsTable, row_at}
use Rattle.cx_turns.specs.declared.tables.GroupTable.{GroupTable}
use Rattle.cx_turns.specs.GroupRows.{IsGroup, AreTables, AreGroups}
use Rattle.cx_text.proofs.OptionLaws.{same_some}

-- one more element, which keeps what those of a list keep
pub pushed : {A : Type 0} (P : ℕ → A → Type 0) (xs : List A) (x : A) → ((k : ℕ) (y : A) → slice_get xs k ≡ Some y → P k y) → P (length xs) x
    → (k : ℕ) (y : A) → slice_get (xs ++ x ∷ []) k ≡ Some y → P k y
pushed P [] x h last zero y e = subst (P zero) (same_some x y e) last
pushed P [] x h last (suc k) y e = absurd (cc)
pushed P (z ∷ xs) x h last zero y e = h zero y e
pushed P (z ∷ xs) x h last (suc k) y e = pushed (λ j. P (suc j)) xs x (λ j. h (suc j)) last k y e

pub are_groups : (d : PlainDesign) (rows : List InstanceRow) (children : List ℕ) (tables : List GroupTable) → AreTables d tables → IsTable d rows children → AreGroups d rows tables
are_groups d rows children tables all table = record {
  count = all.count;
  each = λ n path t number at. subst (λ i. length t.rows.items ≡ length (part_of i).groups) (sym (table.component n path number)) (all.right (row_at rows n).component t at).count;
  right = λ n g path t row number at found. subst (λ i. IsGroup i g row) (sym (table.component n path number)) ((all.right (row_at rows n).component t at).right g row found);
}
