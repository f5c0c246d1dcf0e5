-- THE PROMOTED TREE: promotable groups are static, and runs of their enables are static seqs.
use Rattle.std.specs.Prelude.{◌≡◌, ℕ, suc, ◌-◌, ◌⊎◌, Bool, true, false, ◌&&◌, nat_eq, nat_lt, List, [], ◌∷◌, ◌++◌, Option, Some, None, is_some, option_map, map, if◌then◌else◌}
use Rattle.cx_text.specs.declared.places.Place.{Place}
use Rattle.cx_ast.specs.declared.operands.OperandForm.{OperandForm}
use Rattle.cx_ast.specs.declared.operands.OperandForm.TheVariants as operands
use Rattle.cx_ast.specs.declared.wiring.GroupWord.TheVariants as words
use Rattle.cx_ast.specs.PlainStatements.{PlainForm, PlainElse, NoElse, Else, PlainStatement, Placed, PlainStatements, NoStatements, StatementThen, PlainBlock, Braces, statements_of}
use Rattle.cx_ast.specs.PlainStatements as plain
use Rattle.cx_ast.specs.PlainTree.{PlainAssign, PlainGroup, PlainWire, PlainComponent, PlainTree}
use Rattle.cx_ast.specs.PlainTree as wires
use Rattle.cx_meaning.specs.Instances.{Instance}
use Rattle.cx_rules.specs.Ports.{component_of, is_primitive_enable}
use Rattle.cx_rules.specs.Accepted.{KeepsStage}
use Rattle.cx_numbering.specs.Names.{groups_in, group_among}
use Rattle.cx_numbering.specs.DesignOf.{port_of, group_of, design_of}
use Rattle.cx_promotion.specs.declared.rows.PromotedRow.{PromotedRow}
use Rattle.cx_promotion.specs.Promotable.{promotable}

-- no more enables than this stand in one piece
abbrev pub PIECE : ℕ
PIECE = 4096

-- so many levels of blocks may stand below the block of a component's control, which is on the first of 64
abbrev pub BELOW_CONTROL : ℕ
BELOW_CONTROL = 63

-- GROUPS
abbrev pub is_hole_item : OperandForm → Bool
is_hole_item (operands.Own name) = false
is_hole_item (operands.Port cell port) = false
is_hole_item (operands.Hole group hole) = true
is_hole_item (operands.Literal width value) = false

-- `enables` tells the enabling ports of primitive cells
module _ (enables : OperandForm → Bool) where
  abbrev pub bare_enable : PlainAssign → PlainAssign
  bare_enable a = if enables a.target.form then record a { guard = None } else a

  -- without the assignment of the done, and enabling ports without their guards
  abbrev pub promote_assigns : List PlainAssign → List PlainAssign
  promote_assigns [] = []
  promote_assigns (a ∷ rest) =
      if is_hole_item a.target.form then promote_assigns rest else bare_enable a ∷ promote_assigns rest

  -- by the length, where there is one
  abbrev pub promote_group : Option ℕ → PlainGroup → PlainGroup
  promote_group None g = g
  promote_group (Some n) g = record g { kind = words.Timed n; assigns = promote_assigns g.assigns }

-- RUNS: enables of promotable groups, which `is_long` tells by their names, one after another
module _ (is_long : List ℕ → Bool) where
  abbrev pub is_run_form : PlainForm → Bool
  is_run_form (plain.Enable group marks) = is_long group
  is_run_form (plain.Seq marks block) = false
  is_run_form (plain.Par marks block) = false
  is_run_form (plain.StaticSeq length marks block) = false
  is_run_form (plain.StaticPar length marks block) = false
  is_run_form (plain.If test comb body otherwise) = false
  is_run_form (plain.StaticIf length test body otherwise) = false
  is_run_form (plain.While test comb body) = false
  is_run_form (plain.Repeat count body) = false
  is_run_form (plain.StaticRepeat length count body) = false
  is_run_form (plain.Invoke cell inputs outputs) = false
  is_run_form (plain.StaticInvoke length cell inputs outputs) = false

  abbrev pub is_run : PlainStatement → Bool
  is_run (Placed attributes form place) = is_run_form form

  abbrev pub place_of : PlainStatement → Place
  place_of (Placed attributes form place) = place

  -- a piece of two or more is one static seq, at the place of its first enable; a shorter one stays
  abbrev pub close : List PlainStatement → PlainStatements → PlainStatements
  close [] later = later
  close (s ∷ []) later = StatementThen s later
  close (s ∷ t ∷ rest) later =
      StatementThen (Placed []
      (plain.StaticSeq None [] (Braces (statements_of (s ∷ t ∷ rest)) (place_of s))) (place_of s)) later

  -- PIECES, cut from the front, where so many enables stand in the piece that is open
  abbrev pub cut : List PlainStatement → ℕ → PlainStatements → PlainStatements
  cut piece count NoStatements = close piece NoStatements
  cut piece count (StatementThen s ss) =
      if is_run s
      then (if nat_eq count PIECE then close piece (cut (s ∷ []) 1 ss) else cut (piece ++ (s ∷ [])) (suc count) ss)
      else close piece (StatementThen s (cut [] 0 ss))

  abbrev pub cut_if : Bool → PlainStatements → PlainStatements
  cut_if true ss = cut [] 0 ss
  cut_if false ss = ss

  -- CONTROL, by how many levels of blocks may stand below it. Runs are cut in blocks whose statements run one after another, and below
  -- which another block may stand. Static control stays
  abbrev mutual
    pub promote_form : ℕ → PlainForm → PlainForm
    promote_form below (plain.Enable group marks) = plain.Enable group marks
    promote_form below (plain.Seq marks block) = plain.Seq marks (promote_block (below - 1) true block)
    promote_form below (plain.Par marks block) = plain.Par marks (promote_block (below - 1) false block)
    promote_form below (plain.StaticSeq length marks block) = plain.StaticSeq length marks block
    promote_form below (plain.StaticPar length marks block) = plain.StaticPar length marks block
    promote_form below (plain.If test comb body otherwise) =
        plain.If test comb (promote_block (below - 1) true body) (promote_else (below - 1) otherwise)
    promote_form below (plain.StaticIf length test body otherwise) = plain.StaticIf length test body otherwise
    promote_form below (plain.While test comb body) = plain.While test comb (promote_block (below - 1) true body)
    promote_form below (plain.Repeat count body) = plain.Repeat count (promote_block (below - 1) true body)
    promote_form below (plain.StaticRepeat length count body) = plain.StaticRepeat length count body
    promote_form below (plain.Invoke cell inputs outputs) = plain.Invoke cell inputs outputs
    promote_form below (plain.StaticInvoke length cell inputs outputs) = plain.StaticInvoke length cell inputs outputs

    pub promote_else : ℕ → PlainElse → PlainElse
    promote_else below NoElse = NoElse
    promote_else below (Else block) = Else (promote_block below true block)

    pub promote_statement : ℕ → PlainStatement → PlainStatement
    promote_statement below (Placed attributes form place) = Placed attributes (promote_form below form) place

    pub promote_all : ℕ → PlainStatements → PlainStatements
    promote_all below NoStatements = NoStatements
    promote_all below (StatementThen s ss) = StatementThen (promote_statement below s) (promote_all below ss)

    pub promote_block : ℕ → Bool → PlainBlock → PlainBlock
    promote_block below in_order (Braces ss place) =
        Braces (cut_if (in_order && nat_lt 0 below) (promote_all below ss)) place

-- A COMPONENT of the tree, by the instance that stands for it in the design
module _ (tree : PlainTree) (part : PlainComponent) (i : Instance) where
  -- the length in cycles, where the group is promotable
  abbrev pub length_of : PlainGroup → Option ℕ
  length_of g = promotable i (group_of tree part g)

  abbrev pub length_found : Option PlainGroup → Option ℕ
  length_found None = None
  length_found (Some g) = length_of g

  abbrev pub length_named : List ℕ → Option ℕ
  length_named name = length_found (group_among name (groups_in part.wires))

  abbrev pub is_long : List ℕ → Bool
  is_long name = is_some (length_named name)

  abbrev pub enables : OperandForm → Bool
  enables o = is_primitive_enable i (port_of tree part o)

  abbrev pub promote_wire : PlainWire → PlainWire
  promote_wire (wires.Group g) = wires.Group (promote_group enables (length_of g) g)
  promote_wire (wires.Assign a) = wires.Assign a

  abbrev pub promote_component : PlainComponent
  promote_component = record part {
    wires = map promote_wire part.wires;
    control = option_map (promote_block is_long BELOW_CONTROL true) part.control;
  }

  -- a row for each promotable group, in source order
  abbrev pub row_if : PlainGroup → Option ℕ → List PromotedRow → List PromotedRow
  row_if g None rest = rest
  row_if g (Some n) rest = record { component = part.name; group = g.name; cycles = n } ∷ rest

  abbrev pub rows_in : List PlainGroup → List PromotedRow
  rows_in [] = []
  rows_in (g ∷ gs) = row_if g (length_of g) (rows_in gs)

-- THE TREE SO MADE, whatever its size
module _ (tree : PlainTree) where
  abbrev pub components_from : ℕ → List PlainComponent → List PlainComponent
  components_from k [] = []
  components_from k (part ∷ parts) =
      promote_component tree part (component_of (design_of tree) k) ∷ components_from (suc k) parts

  abbrev pub rows_from : ℕ → List PlainComponent → List PromotedRow
  rows_from k [] = []
  rows_from k (part ∷ parts) =
      rows_in tree part (component_of (design_of tree) k) (groups_in part.wires) ++ rows_from (suc k) parts

  abbrev pub made_tree : PlainTree
  made_tree = record tree { components = components_from 0 tree.components }

  abbrev pub made_rows : List PromotedRow
  made_rows = rows_from 0 tree.components

-- the tree so made and its rows, where it keeps the limits; else the tree itself, and no rows
abbrev pub IsPromotedTree : PlainTree → PlainTree → List PromotedRow → Type 0
IsPromotedTree tree new rows =
    (KeepsStage 7 (design_of (made_tree tree)) × (new ≡ made_tree tree) × (rows ≡ made_rows tree))
    ⊎ ((KeepsStage 7 (design_of (made_tree tree)) → ⊥) × (new ≡ tree) × (rows ≡ []))
