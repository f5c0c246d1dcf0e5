-- What cells of a component hold, and the groups that call them.
use Rattle.std.proofs.Common.{◌≡◌, ℕ, zero, suc, List, [], ◌∷◌, get_or, length, Option, Some, None, refl, sym, ap, ◌∙◌, subst}
use Rattle.std.specs.Prelude.{slice_get}
use Rattle.cx_prim.specs.CellStates.{CellState, IsState}
use Rattle.cx_prim.specs.Rows.{Row}
use Rattle.cx_meaning.specs.Calls as calls
use Rattle.cx_meaning.specs.Designs.{PlainComponent, PlainDesign, PlainGroup, component_at, no_group}
use Rattle.cx_meaning.specs.Instances.{OfRow, cell_at, cells_of, part_of, tree_within}
use Rattle.cx_rules.specs.Ports.{component_of}
use Rattle.cx_state.specs.States.{HoldCells}
use Rattle.cx_state.proofs.HeldLemmas.{Holds, cells_hold}
use Rattle.cx_rules.proofs.PortsLemmas.{part_is}

pub component_holds : (d : PlainDesign) (k : ℕ) (hs : List (Option CellState)) (c : ℕ) (row : Row) → HoldCells (component_at d k).cells hs → cell_at (cells_of (component_of d k)) c ≡ OfRow row → Holds row (get_or hs c None)
component_holds d k hs c row holds e = choice (length d.components) e
  where
    choice : (n : ℕ) → cell_at (cells_of (tree_within d n k)) c ≡ OfRow row → Holds row (get_or hs c None)
    choice zero e = absurd (cc)
    choice (suc n) e = cells_hold (tree_within d n) (component_at d k).cells hs c row holds e

pub held_state : (row : Row) (h : Option CellState) (x : CellState) → Holds row h → h ≡ Some x → IsState row.shape x
held_state row h x holds e = let same : holds.held ≡ x = some_same (sym holds.is ∙ e) in subst (λ y. IsState row.shape y) same holds.fits
  where
    some_same : {x y : CellState} → Some x ≡ Some y → x ≡ y
    some_same e = cc

pub no_state : (row : Row) (h : Option CellState) → Holds row h → h ≡ None → ⊥
no_state row h holds e = none_some (sym e ∙ holds.is)
  where
    none_some : {x : CellState} → None ≡ Some x → ⊥
    none_some e = cc

-- GROUPS
get_none : (xs : List PlainGroup) (n : ℕ) → slice_get xs n ≡ None → get_or xs n no_group ≡ no_group
get_none [] n e = refl
get_none (x ∷ xs) zero e = absurd (cc)
get_none (x ∷ xs) (suc n) e = get_none xs n e

pub calls_none : (d : PlainDesign) (k g : ℕ) (part : PlainComponent) → part ≡ component_at d k → slice_get part.groups g ≡ None → None ≡ calls.called (component_of d k) g
calls_none d k g part is e =
    ap (λ (group : PlainGroup). calls.called_in (cells_of (component_of d k)) group.assigns)
    (sym (get_none (part_of (component_of d k)).groups g (ap (λ (p : PlainComponent). slice_get p.groups g) (part_is d k ∙ sym is) ∙ e)))
