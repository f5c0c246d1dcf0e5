-- What stands in a module behind its ports, piece by piece.
use Rattle.std.specs.Prelude.{ℕ, ◌^◌, ◌%◌, List, [], ◌∷◌, ◌++◌}
use Rattle.cx_vtree.specs.Plain.{PlainExpr, Number, PlainDecl, WireOf, RegisterOf, ArrayOf, PlainAssign, PlainItem, SetTo, StoreTo}
use Rattle.cx_vmods.specs.Spelling.{spelled}

-- the declarations, the assigned nets, and what the edge does with reset and without
pub record Interior : Type 0 where
  pub decls : List PlainDecl
  pub assigns : List PlainAssign
  pub reset : List PlainAssign
  pub step : List PlainItem

pub data Piece : Type 0 where
  -- a wire with its value
  Wire : (name : List ℕ) (width : ℕ) (value : PlainExpr) → Piece
  -- an output with its value
  Output : (name : List ℕ) (value : PlainExpr) → Piece
  -- a register, which is 0 after an edge with reset and takes the value at the others
  Register : (name : List ℕ) (width : ℕ) (next : PlainExpr) → Piece
  -- an array of so many words
  Array : (name : List ℕ) (width size : ℕ) → Piece
  -- a word that is stored at an edge without reset, where the guard is not 0
  Store : (guard : PlainExpr) (array : List ℕ) (index value : PlainExpr) → Piece

-- a number modulo two to the width
abbrev pub literal : ℕ → ℕ → PlainExpr
literal width number = Number (record { width = width; value = number % 2 ^ width })

-- a net of the module with its value
abbrev pub assign : List ℕ → PlainExpr → PlainAssign
assign name value = record { name = spelled name; value = value }

abbrev pub nothing : Interior
nothing = record { decls = []; assigns = []; reset = []; step = [] }

-- one piece more
unfoldable pub with_piece : Interior → Piece → Interior
with_piece i (Wire name width value) =
    record i
    { decls = i.decls ++ WireOf (spelled name) width ∷ []; assigns = i.assigns ++ assign name value ∷ [] }
with_piece i (Output name value) = record i { assigns = i.assigns ++ assign name value ∷ [] }
with_piece i (Register name width next) = record i {
  decls = i.decls ++ RegisterOf (spelled name) width ∷ [];
  reset = i.reset ++ assign name (literal width 0) ∷ [];
  step = i.step ++ SetTo (assign name next) ∷ [];
}
with_piece i (Array name width size) = record i { decls = i.decls ++ ArrayOf (spelled name) width size ∷ [] }
with_piece i (Store guard array index value) =
    record i {
      step = i.step ++
          StoreTo (record { guard = guard; array = spelled array; index = index; value = value }) ∷ [];
    }

-- more pieces, in their order
abbrev pub with_pieces : Interior → List Piece → Interior
with_pieces i [] = i
with_pieces i (p ∷ ps) = with_pieces (with_piece i p) ps

abbrev pub made_of : List Piece → Interior
made_of pieces = with_pieces nothing pieces
