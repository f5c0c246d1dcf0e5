-- Registers: their row, the done that is 0 where they rest, the state that a write leaves; and which of them a group captures.
use Rattle.std.proofs.Common.{◌≡◌, ℕ, zero, suc, ◌+◌, inl, inr, Bool, true, false, ◌&&◌, List, [], ◌∷◌, Option, Some, None, IsSome, if◌then◌else◌, refl, sym, ap, ◌∙◌, subst, arith}
use Rattle.std.specs.Prelude.{slice_get, unwrap_or, map, drop}
use Rattle.cx_text.specs.Members.{In}
use Rattle.cx_bits.specs.BitVector.{BitVector}
use Rattle.cx_prim.specs.declared.names.PrimitiveName.{PrimitiveName}
use Rattle.cx_prim.specs.declared.names.PrimitiveName.TheVariants as names
use Rattle.cx_prim.specs.CellStates.{CellState}
use Rattle.cx_prim.specs.CellStates as states
use Rattle.cx_prim.specs.Widths.{is_width}
use Rattle.cx_prim.specs.Rows.{Row}
use Rattle.cx_prim.specs.RegisterRow.{register_output, register_idle, register_row}
use Rattle.cx_prim.specs.Table.{PrimitiveRow, row_at, no_row, row_of, HasRow}
use Rattle.cx_meaning.specs.declared.ports.PortRef.{PortRef}
use Rattle.cx_meaning.specs.declared.ports.PortRef.TheVariants as ports
use Rattle.cx_meaning.specs.declared.sights.Seen.{Seen}
use Rattle.cx_meaning.specs.declared.sights.Seen.TheVariants.{Value, Conflict, Undefined}
use Rattle.cx_meaning.specs.Designs.{PlainAssign, PlainCell}
use Rattle.cx_meaning.specs.Instances.{Instance, OfRow, cell_at, cell_count, cells_of, State}
use Rattle.cx_meaning.specs.Active.{Active, same_port}
use Rattle.cx_meaning.specs.Truths.{One, Zero, truth_of}
use Rattle.cx_meaning.specs.Truths as truths
use Rattle.cx_meaning.specs.Sights.{Look, Held, of_option, Given, with_entry, gather_one, gather_port, gather, seen}
use Rattle.cx_meaning.specs.Cycles.{Next, enables, after_data, after_enabling, cell_outcome, outcome_of, Goes, every_cell, cycle}
use Rattle.cx_meaning.proofs.CycleLemmas.{each_steps, row_within, outcome_listed, next_is}
use Rattle.cx_rules.specs.ShapeRules.{some_target}
use Rattle.cx_rules.specs.CallShape.{is_reg_name, is_reg_kind, write_en_of, register_done, added, captured_from}
use Rattle.cx_control.proofs.ConjunctLemmas.{AreOnce}
use Rattle.cx_text.proofs.NumberLaws.{false_true}
use Rattle.cx_text.proofs.BoolLaws.{and_both}

-- THE ROW
pub is_reg : (name : PrimitiveName) → is_reg_name name ≡ true → name ≡ names.Reg
is_reg names.Const e = absurd (false_true e)
is_reg names.Wire e = absurd (false_true e)
is_reg names.Add e = absurd (false_true e)
is_reg names.Sub e = absurd (false_true e)
is_reg names.And e = absurd (false_true e)
is_reg names.Or e = absurd (false_true e)
is_reg names.Xor e = absurd (false_true e)
is_reg names.Not e = absurd (false_true e)
is_reg names.Lsh e = absurd (false_true e)
is_reg names.Rsh e = absurd (false_true e)
is_reg names.Lt e = absurd (false_true e)
is_reg names.Gt e = absurd (false_true e)
is_reg names.Equal e = absurd (false_true e)
is_reg names.Neq e = absurd (false_true e)
is_reg names.Le e = absurd (false_true e)
is_reg names.Ge e = absurd (false_true e)
is_reg names.Slt e = absurd (false_true e)
is_reg names.Sgt e = absurd (false_true e)
is_reg names.Seq e = absurd (false_true e)
is_reg names.Sneq e = absurd (false_true e)
is_reg names.Sle e = absurd (false_true e)
is_reg names.Sge e = absurd (false_true e)
is_reg names.Slice e = absurd (false_true e)
is_reg names.Pad e = absurd (false_true e)
is_reg names.Mux e = absurd (false_true e)
is_reg names.Reg e = refl
is_reg names.StdMemD1 e = absurd (false_true e)
is_reg names.StdMemD2 e = absurd (false_true e)
is_reg names.StdMemD3 e = absurd (false_true e)
is_reg names.StdMemD4 e = absurd (false_true e)
is_reg names.CombMemD1 e = absurd (false_true e)
is_reg names.CombMemD2 e = absurd (false_true e)
is_reg names.CombMemD3 e = absurd (false_true e)
is_reg names.CombMemD4 e = absurd (false_true e)
is_reg names.SeqMemD1 e = absurd (false_true e)
is_reg names.SeqMemD2 e = absurd (false_true e)
is_reg names.SeqMemD3 e = absurd (false_true e)
is_reg names.SeqMemD4 e = absurd (false_true e)
is_reg names.MultPipe e = absurd (false_true e)
is_reg names.DivPipe e = absurd (false_true e)
is_reg names.Timer e = absurd (false_true e)

pub register_is_row : (p : PrimitiveRow) → is_reg_name p.name ≡ true → HasRow p → (w : ℕ) × (row_of p ≡ register_row w)
register_is_row p is_one has =
    let named : row_at p.name p.numbers ≡ row_at names.Reg p.numbers = ap (λ n. row_at n p.numbers) (is_reg p.name is_one) in
    let r = of_numbers p.numbers (subst IsSome named has) in
    (r.0, ap (λ o. unwrap_or o no_row) named ∙ r.1)
  where
    of_width : (w : ℕ) (b : Bool) → IsSome (if b then Some (register_row w) else None) → unwrap_or (if b then Some (register_row w) else None) no_row ≡ register_row w
    of_width w true h = refl
    of_width w false h = absurd (false_true h)

    of_numbers : (numbers : List ℕ) → IsSome (row_at names.Reg numbers) → (w : ℕ) × (unwrap_or (row_at names.Reg numbers) no_row ≡ register_row w)
    of_numbers [] h = absurd (false_true h)
    of_numbers (w ∷ []) h = (w, of_width w (is_width w) h)
    of_numbers (w ∷ x ∷ rest) h = absurd (false_true h)

-- one bit that is 1
abbrev pub set : BitVector
set = record { width = 1; value = 1 }

-- where it rests its done is not 1
zero_is_not_one : Zero ≡ One → ⊥
zero_is_not_one e = cc

unknown_is_not_one : truths.Undefined ≡ One → ⊥
unknown_is_not_one e = cc

falls : (v : ℕ) → states.Register v false ≡ states.Register v true → ⊥
falls v e = cc

pub rest_is_not_done : (w : ℕ) (d : CellState) → register_idle d ≡ d → truth_of (of_option (register_output w d 3)) ≡ One → ⊥
rest_is_not_done w (states.Register v true) rests one = falls v rests
rest_is_not_done w (states.Register v false) rests one = zero_is_not_one one
rest_is_not_done w states.Stateless rests one = unknown_is_not_one one
rest_is_not_done w (states.Memory words done) rests one = unknown_is_not_one one
rest_is_not_done w (states.SequentialMemory words read done) rests one = unknown_is_not_one one
rest_is_not_done w (states.Multiplier run product) rests one = unknown_is_not_one one
rest_is_not_done w (states.Divider run quotient remainder) rests one = unknown_is_not_one one
rest_is_not_done w (states.Timer count done) rests one = unknown_is_not_one one

pub written_is_done : (w r : ℕ) (look : Look) (d after : CellState) → look (ports.Cell r 1) ≡ Value set → cell_outcome look r (register_row w) d ≡ Next after → of_option (register_output w after 3) ≡ Value set
written_is_done w r look d after on goes =
    by_data (look (ports.Cell r 0)) refl
    (ap (λ v. after_enabling (λ p. look (ports.Cell r p)) (register_row w) d (gather_port (enables (register_row w) 0) 0 (look (ports.Cell r 0)) (gather_one 1 v (gather (λ p. look (ports.Cell r p)) (enables (register_row w)) 2 (drop 2 (register_row w).ports))))) (sym on) ∙ goes)
  where
    by_data : (v : Seen) → look (ports.Cell r 0) ≡ v
        → after_enabling (λ p. look (ports.Cell r p)) (register_row w) d (gather_port (enables (register_row w) 0) 0 (look (ports.Cell r 0)) (gather_one 1 (Value set) (gather (λ p. look (ports.Cell r p)) (enables (register_row w)) 2 (drop 2 (register_row w).ports)))) ≡ Next after
        → of_option (register_output w after 3) ≡ Value set
    by_data v is f = by_seen v (sym (ap (λ x. after_data (register_row w) d (gather_one 0 x (gather_one 1 (look (ports.Cell r 1)) (with_entry None (with_entry None (Given [])))))) is) ∙ f)
      where
        by_seen : (x : Seen) → after_data (register_row w) d (gather_one 0 x (gather_one 1 (look (ports.Cell r 1)) (with_entry None (with_entry None (Given []))))) ≡ Next after → of_option (register_output w after 3) ≡ Value set
        by_seen x g = last x (sym (ap (λ y. after_data (register_row w) d (gather_one 0 x (gather_one 1 y (with_entry None (with_entry None (Given [])))))) on) ∙ g)
          where
            last : (y : Seen) → after_data (register_row w) d (gather_one 0 y (gather_one 1 (Value set) (with_entry None (with_entry None (Given []))))) ≡ Next after → of_option (register_output w after 3) ≡ Value set
            last (Value b) h = ap (λ k. of_option (register_output w k 3)) (sym (next_is (states.Register b.value true) after h))
            last Conflict h = absurd (cc)
            last Undefined h = absurd (cc)

-- A CYCLE THAT GOES ON: each primitive cell goes on, to the state after
pub cycle_steps : (i : Instance) (held : Held) (act : Active) (s after : State) (c : ℕ) (row : Row) → cycle i held act s ≡ Goes after → cell_at (cells_of i) c ≡ OfRow row
    → cell_outcome (seen i held act s) c row (s (c ∷ [])) ≡ Next (after (c ∷ []))
cycle_steps i held act s after c row goes at =
    sym (outcome_listed every_cell (seen i held act s) (cells_of i) s c row refl at)
    ∙ each_steps (outcome_of every_cell (seen i held act s) (cells_of i) s) (cell_count (cells_of i)) s after goes c (row_within (cells_of i) c row at)

-- THE CAPTURED REGISTERS, from a number on
pub record Captured (assigns : List PlainAssign) (cells : List PlainCell) (from r : ℕ) : Type 0 where
  pub number : ℕ
  pub is : r ≡ from + number
  pub cell : PlainCell
  pub stands : slice_get cells number ≡ Some cell
  pub register : is_reg_kind cell.kind ≡ true
  pub driven : some_target (same_port (write_en_of r)) assigns ≡ true

pub captured_is : (assigns : List PlainAssign) (cells : List PlainCell) (from r : ℕ) → In (captured_from assigns from cells) r → Captured assigns cells from r
captured_is assigns [] from r i = absurd i
captured_is assigns (cell ∷ cells) from r i = by (is_reg_kind cell.kind && some_target (same_port (write_en_of from)) assigns) refl i (λ j. later (captured_is assigns cells (suc from) r j))
  where
    later : Captured assigns cells (suc from) r → Captured assigns (cell ∷ cells) from r
    later k = record { number = suc k.number; is = k.is ∙ next k.number; cell = k.cell; stands = k.stands; register = k.register; driven = k.driven }
      where
        next : (n : ℕ) → suc from + n ≡ from + suc n
        next n = omega arith

    by : (b : Bool) → (is_reg_kind cell.kind && some_target (same_port (write_en_of from)) assigns) ≡ b → In (added from b (captured_from assigns (suc from) cells)) r
        → (In (captured_from assigns (suc from) cells) r → Captured assigns (cell ∷ cells) from r) → Captured assigns (cell ∷ cells) from r
    by true is (inl same) more =
        let both = and_both (is_reg_kind cell.kind) (some_target (same_port (write_en_of from)) assigns) is in
        let first : from ≡ from + 0 = omega arith in
        record { number = 0; is = sym same ∙ first; cell = cell; stands = refl; register = both.0; driven = subst (λ k. some_target (same_port (write_en_of k)) assigns ≡ true) same both.1 }
    by true is (inr j) more = more j
    by false is j more = more j

pub captured_has : (assigns : List PlainAssign) (cells : List PlainCell) (from n : ℕ) (cell : PlainCell) → slice_get cells n ≡ Some cell → is_reg_kind cell.kind ≡ true → some_target (same_port (write_en_of (from + n))) assigns ≡ true
    → In (captured_from assigns from cells) (from + n)
captured_has assigns [] from n cell e f h = absurd (cc)
captured_has assigns (x ∷ cells) from zero cell e f h =
    let first : from + 0 ≡ from = omega arith in
    subst (λ k. In (captured_from assigns from (x ∷ cells)) k) (sym first)
    (by (is_reg_kind x.kind && some_target (same_port (write_en_of from)) assigns)
    (ap (λ b. b && some_target (same_port (write_en_of from)) assigns) (ap (λ (y : PlainCell). is_reg_kind y.kind) (same_cell x cell e) ∙ f) ∙ subst (λ k. some_target (same_port (write_en_of k)) assigns ≡ true) first h))
  where
    same_cell : (a b : PlainCell) → ◌≡◌ {A = Option PlainCell} (Some a) (Some b) → a ≡ b
    same_cell a b k = cc

    by : (b : Bool) → b ≡ true → In (added from b (captured_from assigns (suc from) cells)) from
    by true e = inl refl
    by false e = absurd (false_true e)
captured_has assigns (x ∷ cells) from (suc n) cell e f h =
    let next : suc from + n ≡ from + suc n = omega arith in
    by (is_reg_kind x.kind && some_target (same_port (write_en_of from)) assigns)
    (subst (λ k. In (captured_from assigns (suc from) cells) k) next (captured_has assigns cells (suc from) n cell e f (subst (λ k. some_target (same_port (write_en_of k)) assigns ≡ true) (sym next) h)))
  where
    by : (b : Bool) → In (captured_from assigns (suc from) cells) (from + suc n) → In (added from b (captured_from assigns (suc from) cells)) (from + suc n)
    by true i = inr i
    by false i = i

-- each once
done_in : (rs : List ℕ) (r : ℕ) → In (map register_done rs) (register_done r) → In rs r
done_in [] r i = absurd i
done_in (x ∷ rs) r (inl e) = inl (same x r e)
  where
    same : (a b : ℕ) → register_done a ≡ register_done b → a ≡ b
    same a b f = cc
done_in (x ∷ rs) r (inr i) = inr (done_in rs r i)

pub dones_once : (assigns : List PlainAssign) (cells : List PlainCell) (from : ℕ) → AreOnce (map register_done (captured_from assigns from cells))
dones_once assigns [] from = tt
dones_once assigns (cell ∷ cells) from = by (is_reg_kind cell.kind && some_target (same_port (write_en_of from)) assigns) (dones_once assigns cells (suc from))
  where
    by : (b : Bool) → AreOnce (map register_done (captured_from assigns (suc from) cells)) → AreOnce (map register_done (added from b (captured_from assigns (suc from) cells)))
    by true once = (λ i. let k = captured_is assigns cells (suc from) from (done_in (captured_from assigns (suc from) cells) from i) in not_later (Captured.number k) (Captured.is k), once)
      where
        not_later : (n : ℕ) → from ≡ suc from + n → ⊥
        not_later n e = absurd (omega (arith, e))
    by false once = once

pub done_of_one : (rs : List ℕ) (w : PortRef) → In (map register_done rs) w → (r : ℕ) × In rs r × (w ≡ register_done r)
done_of_one [] w i = absurd i
done_of_one (x ∷ rs) w (inl e) = (x, inl refl, sym e)
done_of_one (x ∷ rs) w (inr i) = let k = done_of_one rs w i in (k.0, inr k.1, k.2)

pub one_of_dones : (rs : List ℕ) (r : ℕ) → In rs r → In (map register_done rs) (register_done r)
one_of_dones [] r i = absurd i
one_of_dones (x ∷ rs) r (inl e) = inl (ap register_done e)
one_of_dones (x ∷ rs) r (inr i) = inr (one_of_dones rs r i)
