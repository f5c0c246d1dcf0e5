-- What the rules on the shape of a call give, as far as the machine of a call needs it.
use Rattle.std.specs.Prelude.{◌≡◌, ◌⊎◌, ℕ, suc, ◌<◌, ◌&&◌, true, false, [], ◌∷◌, Some, None, slice_get}
use Rattle.cx_text.specs.Members.{In}
use Rattle.cx_prim.specs.Rows.{Row}
use Rattle.cx_prim.specs.RegisterRow.{register_row}
use Rattle.cx_meaning.specs.declared.ports.PortRef.TheVariants as ports
use Rattle.cx_meaning.specs.declared.kinds.GroupKind.TheVariants.{Plain}
use Rattle.cx_meaning.specs.Designs.{PlainAssign, PlainCell, Enable, group_at}
use Rattle.cx_meaning.specs.Instances.{Instance, OfRow, OfInstance, cell_at, cells_of, part_of, Path, State, idle_at, input_count}
use Rattle.cx_meaning.specs.Active.{Owned, group, capture, source_order}
use Rattle.cx_meaning.specs.Truths.{truth_of}
use Rattle.cx_meaning.specs.Sights.{Held, AnInput, AnOutput, ItsDone, part_port, seen}
use Rattle.cx_meaning.specs.Cycles.{Goes, cycle}
use Rattle.cx_meaning.specs.Islands.{is_one}
use Rattle.cx_meaning.specs.Calls.{called, captures, enables_at}
use Rattle.cx_meaning.specs.Control.{form_drives}
use Rattle.cx_rules.specs.CallShape.{go_port, done_port, is_reg_kind, with_target, is_right_go, is_right_enable, is_register_enable, captured, wanted_dones, is_right_done}
use Rattle.cx_control.specs.Flows.{Reaches}

-- THE FORM OF A CALL: which component cell it is, and how its go, enables of registers and the group's done are driven
pub record CallForm (i : Instance) (g c : ℕ) : Type 0 where
  pub child : Instance
  pub at_child : cell_at (cells_of i) c ≡ OfInstance child
  -- nothing continuous drives a port of the cell
  pub no_bare : (o : Owned) (p : ℕ) → In (source_order (part_of i)) o → o.owner ≡ None
      → o.assign.target ≡ ports.Cell c p → ⊥
  pub right_go : is_right_go (done_port c child) (with_target (go_port c) (group_at (part_of i) g).assigns) ≡ true
  pub right_done : is_right_done
      (wanted_dones (done_port c child) (captured (part_of i) (group_at (part_of i) g).assigns))
      (with_target (ports.Done g) (group_at (part_of i) g).assigns) ≡ true
  pub right_enable : (a : PlainAssign) → In (group_at (part_of i) g).assigns a → (r p : ℕ) (row : Row)
      → a.target ≡ ports.Cell r p → cell_at (cells_of i) r ≡ OfRow row → enables_at (OfRow row) p ≡ true
      → (is_register_enable (part_of i) a.target &&
      is_right_enable (done_port c child) (with_target a.target (group_at (part_of i) g).assigns)) ≡ true
  -- a std_reg has the row of a register
  pub registers : (r : ℕ) (cell : PlainCell) → slice_get (part_of i).cells r ≡ Some cell
      → is_reg_kind cell.kind ≡ true → (w : ℕ) × (cell_at (cells_of i) r ≡ OfRow (register_row w))
  -- no input of the cell depends on an output or the done of it
  pub no_given : (n q : ℕ) → part_port (part_of child) (suc n) ≡ AnInput n
      → ((m : ℕ) × (part_port (part_of child) q ≡ AnOutput m)) ⊎ (part_port (part_of child) q ≡ ItsDone)
      → Reaches i (group g) (ports.Cell c (suc n)) (ports.Cell c q) → ⊥

-- group g calls the component cell c
pub record CallRules (i : Instance) (g c : ℕ) : Type 0 where
  pub calls : called i g ≡ Some c
  pub form : CallForm i g c
  pub plain : (group_at (part_of i) g).kind ≡ Plain
  -- what the inputs of the cell are seen as hangs on nothing in it
  pub held : (held : Held) (s t : State)
      → ((e : ℕ) (path : Path) → (e ≡ c → ⊥) → s (e ∷ path) ≡ t (e ∷ path)) → (n : ℕ)
      → n < input_count (cell_at (cells_of i) c)
      → seen i held (group g) s (ports.Cell c (suc n)) ≡ seen i held (group g) t (ports.Cell c (suc n))
  -- the hole of a group that captures is 0 where what it drives rests, and 1 where that is as the capture cycle left it
  pub is_open : captures i g ≡ true → (held : Held) (s : State)
      → ((e : ℕ) → form_drives (part_of i) (Enable g) e ≡ true → (e ≡ c → ⊥) →
      idle_at i (e ∷ []) (s (e ∷ [])) ≡ s (e ∷ []))
      → is_one (truth_of (seen i held (group g) s (ports.Done g))) ≡ false
  pub is_set : captures i g ≡ true → (held other : Held) (s after t : State) → cycle i held (capture g c) s ≡ Goes after
      → ((e : ℕ) → form_drives (part_of i) (Enable g) e ≡ true → (e ≡ c → ⊥) → t (e ∷ []) ≡ after (e ∷ []))
      → is_one (truth_of (seen i other (group g) t (ports.Done g))) ≡ true
