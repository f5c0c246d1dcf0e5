-- The cells of an instance, and what they hold.
use Rattle.std.proofs.Common.{◌≡◌, ℕ, zero, suc, List, [], ◌∷◌, length, Option, Some, None, refl, subst, arith}
use Rattle.cx_prim.specs.CellStates.{CellState, IsState}
use Rattle.cx_prim.specs.Table.{PrimitiveRow, row_of}
use Rattle.cx_meaning.specs.Designs.{OfComponent, OfPrimitive, PlainCell, PlainKind}
use Rattle.cx_state.specs.States.{HoldCells, HoldsKind}
use Rattle.cx_eval_cycle.specs.Passes.{cell_held, kind_at}

-- what cells hold
pub record HoldsState (p : PrimitiveRow) (held : Option CellState) : Type 0 where
  pub state : CellState
  pub is : held ≡ Some state
  pub fits : IsState (row_of p).shape state

kind_holds : (kind : PlainKind) (held : Option CellState) (p : PrimitiveRow) → HoldsKind kind held → Some kind ≡ Some (OfPrimitive p) → HoldsState p held
kind_holds (OfPrimitive q) None p h e = absurd h
kind_holds (OfPrimitive q) (Some x) p h e = record { state = x; is = refl; fits = let same : q ≡ p = cc in subst (λ r. IsState (row_of r).shape x) same h }
kind_holds (OfComponent k) held p h e = absurd (cc)

pub primitive_holds : (xs : List PlainCell) (hs : List (Option CellState)) (c : ℕ) (p : PrimitiveRow) → HoldCells xs hs → kind_at xs c ≡ Some (OfPrimitive p) → HoldsState p (cell_held hs c)
primitive_holds [] hs c p h e = absurd (cc)
primitive_holds (x ∷ xs) [] c p h e = absurd h
primitive_holds (x ∷ xs) (y ∷ hs) zero p h e = kind_holds x.kind y p h.0 e
primitive_holds (x ∷ xs) (y ∷ hs) (suc c) p h e = primitive_holds xs hs c p h.1 e

kind_empty : (kind : PlainKind) (held : Option CellState) (k : ℕ) → HoldsKind kind held → Some kind ≡ Some (OfComponent k) → held ≡ None
kind_empty (OfPrimitive q) held k h e = absurd (cc)
kind_empty (OfComponent j) None k h e = refl
kind_empty (OfComponent j) (Some x) k h e = absurd h

pub component_holds : (xs : List PlainCell) (hs : List (Option CellState)) (c k : ℕ) → HoldCells xs hs → kind_at xs c ≡ Some (OfComponent k) → cell_held hs c ≡ None
component_holds [] hs c k h e = absurd (cc)
component_holds (x ∷ xs) [] c k h e = absurd h
component_holds (x ∷ xs) (y ∷ hs) zero k h e = kind_empty x.kind y k h.0 e
component_holds (x ∷ xs) (y ∷ hs) (suc c) k h e = component_holds xs hs c k h.1 e

pub beyond_holds : (xs : List PlainCell) (hs : List (Option CellState)) (c : ℕ) → HoldCells xs hs → kind_at xs c ≡ None → cell_held hs c ≡ None
beyond_holds [] [] c h e = refl
beyond_holds [] (y ∷ hs) c h e = absurd h
beyond_holds (x ∷ xs) [] c h e = absurd h
beyond_holds (x ∷ xs) (y ∷ hs) zero h e = absurd (cc)
beyond_holds (x ∷ xs) (y ∷ hs) (suc c) h e = beyond_holds xs hs c h.1 e

-- and the other way round
abbrev pub HoldEach : List PlainCell → List (Option CellState) → Type 0
HoldEach xs hs = (c : ℕ) (kind : PlainKind) → kind_at xs c ≡ Some kind → HoldsKind kind (cell_held hs c)

pub hold_again : (xs : List PlainCell) (hs : List (Option CellState)) → length hs ≡ length xs → HoldEach xs hs → HoldCells xs hs
hold_again [] [] long each = tt
hold_again [] (y ∷ hs) long each = absurd (omega arith)
hold_again (x ∷ xs) [] long each = absurd (omega arith)
hold_again (x ∷ xs) (y ∷ hs) long each = (each zero x.kind refl, hold_again xs hs (omega arith) (λ c kind e. each (suc c) kind e))
