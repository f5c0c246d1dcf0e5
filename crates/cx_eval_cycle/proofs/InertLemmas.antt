-- A primitive without an enabling port: a cycle looks at none of its ports, and leaves it as it is.
use Rattle.std.proofs.Common.{◌≡◌, ℕ, zero, suc, ◌+◌, ◌<◌, ◌||◌, Bool, true, false, List, [], ◌∷◌, ◌++◌, Option, None, length, refl, sym, ap, ◌∙◌, arith}
use Rattle.cx_bits.specs.BitVector.{BitVector}
use Rattle.cx_prim.specs.declared.ports.PortRow.{PortRow}
use Rattle.cx_prim.specs.declared.ports.Side.TheVariants.{Enable}
use Rattle.cx_prim.specs.CellStates.{CellState}
use Rattle.cx_prim.specs.Rows.{Inputs, Row, is_enable_side}
use Rattle.cx_prim.specs.CombinationalRows.{combinational_row}
use Rattle.cx_prim.specs.MemoryRows.{address_ports, memory_row, sequential_memory_row}
use Rattle.cx_prim.specs.Table.{PrimitiveRow, no_row, row_of}
use Rattle.cx_prim.proofs.TableCases.{OfEachKind, of_row}
use Rattle.cx_meaning.specs.declared.ports.PortRef.TheVariants.{Cell}
use Rattle.cx_meaning.specs.declared.sights.Seen.{Seen}
use Rattle.cx_meaning.specs.Rows.{side_from}
use Rattle.cx_meaning.specs.Sights.{Given, Look, gather, gather_port}
use Rattle.cx_meaning.specs.Cycles.{Next, cell_outcome, enables, looks_at, stepped}
use Rattle.cx_eval_cycle.specs.Ports.{AreNumbered}
use Rattle.cx_eval_cycle.specs.Stepping.{any_enables, on_side}
use Rattle.cx_eval_cycle.proofs.PortLemmas.{enable_side, none_pass}
use Rattle.cx_eval_cycle.proofs.LookLemmas.{in_range_goes}
use Rattle.std.proofs.lemmas.Bool.{or_right, or_parts}
use Rattle.cx_text.proofs.BoolLaws.{not_both}

pub none_enables : (list : List PortRow) → ((p : ℕ) → p < length list → is_enable_side (side_from list p) ≡ false) → any_enables list ≡ false
none_enables [] h = refl
none_enables (port ∷ list) h = ap (λ t. t || any_enables list) (h 0 (omega arith)) ∙ none_enables list (λ p lt. h (suc p) (omega (arith, lt)))

-- no enabling port is numbered
pub none_numbered : (row : Row) (numbers : List ℕ) → AreNumbered (on_side Enable row) (length row.ports) numbers → length numbers ≡ 0 → any_enables row.ports ≡ false
none_numbered row (x ∷ numbers) are none = absurd (omega (arith, none))
none_numbered row [] are none =
    none_enables row.ports
    (λ p lt. let z : p ≡ 0 + p = omega arith in sym (enable_side (side_from row.ports p)) ∙ ap (on_side Enable row) z ∙ none_pass (on_side Enable row) 0 (length row.ports) (sym are) p lt)

port_idle : (list : List PortRow) (p : ℕ) → any_enables list ≡ false → is_enable_side (side_from list p) ≡ false
port_idle [] p e = refl
port_idle (port ∷ list) zero e = (or_parts (is_enable_side port.side) (any_enables list) e).0
port_idle (port ∷ list) (suc p) e = port_idle list p (or_parts (is_enable_side port.side) (any_enables list) e).1

after_ports : (xs ys : List PortRow) → any_enables ys ≡ true → any_enables (xs ++ ys) ≡ true
after_ports [] ys e = e
after_ports (x ∷ xs) ys e = or_right (is_enable_side x.side) (any_enables (xs ++ ys)) (after_ports xs ys e)

-- ROWS
-- an edge changes nothing, and looks at nothing
pub record StaysSame (r : Row) : Type 0 where
  pub next : (state : CellState) (inputs : Inputs) → r.next state inputs ≡ state
  pub in_range : (inputs : Inputs) → r.out_of_range inputs ≡ None
  pub demands : (state : CellState) (inputs : Inputs) (n : ℕ) → r.demands state inputs n ≡ false

abbrev pub IsInert : Row → Type 0
IsInert r = any_enables r.ports ≡ false → StaysSame r

plain_inert : (ports : List PortRow) (count : ℕ) (value : Inputs → Option BitVector) → IsInert (combinational_row ports count value)
plain_inert ports count value none = record { next = λ state inputs. refl; in_range = λ inputs. refl; demands = λ state inputs n. refl }

enabled_inert : (r : Row) → any_enables r.ports ≡ true → IsInert r
enabled_inert r some none = absurd (not_both (any_enables r.ports) some none)

memory_inert : (w : ℕ) (sizes widths : List ℕ) → IsInert (memory_row w sizes widths)
memory_inert w sizes widths = enabled_inert (memory_row w sizes widths) (after_ports (address_ports widths) _ refl)

sequential_inert : (w : ℕ) (sizes widths : List ℕ) → IsInert (sequential_memory_row w sizes widths)
sequential_inert w sizes widths = enabled_inert (sequential_memory_row w sizes widths) (after_ports (address_ports widths) _ refl)

none_inert : IsInert no_row
none_inert = plain_inert _ _ _

-- THE TABLE
each_kind_inert : OfEachKind IsInert
each_kind_inert = record {
  none = none_inert;
  constant = λ w v fits. plain_inert _ _ _;
  unary = λ operator w v takes. plain_inert _ _ _;
  binary = λ operator w ok. plain_inert _ _ _;
  mux = λ w ok. plain_inert _ _ _;
  register = λ w ok. enabled_inert _ refl;
  memory = λ w sizes widths layout. memory_inert w sizes widths;
  sequential = λ w sizes widths layout. sequential_inert w sizes widths;
  multiplier = λ w ok. enabled_inert _ refl;
  divider = λ w ok. enabled_inert _ refl;
  timer = λ n some most. enabled_inert _ refl;
}

primitive_inert : (p : PrimitiveRow) → IsInert (row_of p)
primitive_inert p = of_row IsInert each_kind_inert p

-- A CYCLE
gather_none : (look : ℕ → Seen) (wanted : ℕ → Bool) (p : ℕ) (list : List PortRow) → ((k : ℕ) → wanted k ≡ false) → (xs : Inputs) × (gather look wanted p list ≡ Given xs)
gather_none look wanted p [] h = ([], refl)
gather_none look wanted p (port ∷ list) h =
    let later = gather_none look wanted (suc p) list h in
    (None ∷ later.0, ap (λ w. gather_port w p (look p) (gather look wanted (suc p) list)) (h p) ∙ ap (gather_port false p (look p)) later.1)

module _ (p : PrimitiveRow) (none : any_enables (row_of p).ports ≡ false) where
  pub looks_at_none : (state : CellState) (inputs : Inputs) (port : ℕ) → looks_at (row_of p) state inputs port ≡ false
  looks_at_none state inputs port = ap (λ t. t || (row_of p).demands state inputs port) (port_idle (row_of p).ports port none) ∙ (primitive_inert p none).demands state inputs port

  pub outcome_same : (look : Look) (c : ℕ) (state : CellState) → cell_outcome look c (row_of p) state ≡ Next state
  outcome_same look c state =
      let row = row_of p in
      let seen : ℕ → Seen = λ q. look (Cell c q) in
      let first = gather_none seen (enables row) 0 row.ports (λ k. port_idle row.ports k none) in
      let second = gather_none seen (looks_at row state first.0) 0 row.ports (looks_at_none state first.0) in
      sym (in_range_goes seen row state first.0 second.0 first.1 second.1 ((primitive_inert p none).in_range second.0)) ∙ ap Next ((primitive_inert p none).next state second.0)

  pub step_same : (look : Look) (c : ℕ) (state : CellState) → state ≡ stepped state (cell_outcome look c (row_of p) state)
  step_same look c state = sym (ap (stepped state) (outcome_same look c state))
