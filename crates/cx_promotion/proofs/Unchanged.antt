-- A tree without promotable groups is its promoted tree.
use Rattle.std.proofs.Common.{◌≡◌, ℕ, suc, ◌-◌, nat_lt, nat_eq, inl, inr, Bool, true, false, ◌&&◌, List, [], ◌∷◌, ◌++◌, map, Option, Some, None, is_some, option_map, refl, sym, ap, ◌∙◌, if◌then◌else◌}
use Rattle.cx_ast.specs.PlainStatements.{PlainForm, PlainElse, NoElse, Else, PlainStatement, Placed, PlainStatements, NoStatements, StatementThen, PlainBlock, Braces}
use Rattle.cx_ast.specs.PlainStatements as plain
use Rattle.cx_ast.specs.PlainTree.{PlainGroup, PlainWire, PlainComponent, PlainTree}
use Rattle.cx_ast.specs.PlainTree as wires
use Rattle.cx_meaning.specs.Instances.{Instance}
use Rattle.cx_rules.specs.Ports.{component_of}
use Rattle.cx_numbering.specs.Names.{group_among, groups_in, same_name}
use Rattle.cx_numbering.specs.DesignOf.{design_of}
use Rattle.cx_promotion.specs.declared.rows.PromotedRow.{PromotedRow}
use Rattle.cx_promotion.specs.Rewriting.{PIECE, BELOW_CONTROL, is_run, close, cut, cut_if, promote_form, promote_else, promote_all, promote_block, length_of, length_found, is_long, enables, promote_group, promote_wire, promote_component, row_if, rows_in, components_from, rows_from, made_tree, made_rows, IsPromotedTree}

-- CONTROL in which no name is that of a promotable group
module _ (long : List ℕ → Bool) (none : (name : List ℕ) → long name ≡ false) where
  no_run : (s : PlainStatement) → is_run long s ≡ false
  no_run (Placed attributes (plain.Enable group marks) place) = none group
  no_run (Placed attributes (plain.Seq marks block) place) = refl
  no_run (Placed attributes (plain.Par marks block) place) = refl
  no_run (Placed attributes (plain.StaticSeq length marks block) place) = refl
  no_run (Placed attributes (plain.StaticPar length marks block) place) = refl
  no_run (Placed attributes (plain.If test comb body otherwise) place) = refl
  no_run (Placed attributes (plain.StaticIf length test body otherwise) place) = refl
  no_run (Placed attributes (plain.While test comb body) place) = refl
  no_run (Placed attributes (plain.Repeat count body) place) = refl
  no_run (Placed attributes (plain.StaticRepeat length count body) place) = refl
  no_run (Placed attributes (plain.Invoke cell inputs outputs) place) = refl
  no_run (Placed attributes (plain.StaticInvoke length cell inputs outputs) place) = refl

  nothing_cut : (ss : PlainStatements) → cut long [] 0 ss ≡ ss
  nothing_cut NoStatements = refl
  nothing_cut (StatementThen s ss) =
      ap (λ run. if run then (if nat_eq 0 PIECE then close long [] (cut long (s ∷ []) 1 ss) else cut long (s ∷ []) 1 ss) else close long [] (StatementThen s (cut long [] 0 ss))) (no_run s)
      ∙ ap (StatementThen s) (nothing_cut ss)

  nothing_cut_if : (b : Bool) (ss : PlainStatements) → cut_if long b ss ≡ ss
  nothing_cut_if true ss = nothing_cut ss
  nothing_cut_if false ss = refl

  mutual
    same_form : (below : ℕ) (form : PlainForm) → promote_form long below form ≡ form
    same_form below (plain.Enable group marks) = refl
    same_form below (plain.Seq marks block) = ap (plain.Seq marks) (same_block (below - 1) true block)
    same_form below (plain.Par marks block) = ap (plain.Par marks) (same_block (below - 1) false block)
    same_form below (plain.StaticSeq length marks block) = refl
    same_form below (plain.StaticPar length marks block) = refl
    same_form below (plain.If test comb body otherwise) =
        ap (λ b. plain.If test comb b (promote_else long (below - 1) otherwise)) (same_block (below - 1) true body) ∙ ap (plain.If test comb body) (same_else (below - 1) otherwise)
    same_form below (plain.StaticIf length test body otherwise) = refl
    same_form below (plain.While test comb body) = ap (plain.While test comb) (same_block (below - 1) true body)
    same_form below (plain.Repeat count body) = ap (plain.Repeat count) (same_block (below - 1) true body)
    same_form below (plain.StaticRepeat length count body) = refl
    same_form below (plain.Invoke cell inputs outputs) = refl
    same_form below (plain.StaticInvoke length cell inputs outputs) = refl

    same_else : (below : ℕ) (otherwise : PlainElse) → promote_else long below otherwise ≡ otherwise
    same_else below NoElse = refl
    same_else below (Else block) = ap Else (same_block below true block)

    same_all : (below : ℕ) (ss : PlainStatements) → promote_all long below ss ≡ ss
    same_all below NoStatements = refl
    same_all below (StatementThen (Placed attributes form place) ss) =
        ap (λ f. StatementThen (Placed attributes f place) (promote_all long below ss)) (same_form below form) ∙ ap (StatementThen (Placed attributes form place)) (same_all below ss)

    same_block : (below : ℕ) (in_order : Bool) (block : PlainBlock) → promote_block long below in_order block ≡ block
    same_block below in_order (Braces ss place) =
        ap (λ list. Braces list place) (nothing_cut_if (in_order && nat_lt 0 below) (promote_all long below ss) ∙ same_all below ss)

-- A COMPONENT without promotable groups
module _ (tree : PlainTree) (part : PlainComponent) (i : Instance) where
  abbrev NoneLong : List PlainGroup → Type 0
  NoneLong [] = Unit {0}
  NoneLong (g ∷ gs) = (length_of tree part i g ≡ None) × NoneLong gs

  none_long : (gs : List PlainGroup) → rows_in tree part i gs ≡ [] → NoneLong gs
  none_long [] e = tt
  none_long (g ∷ gs) e = by (length_of tree part i g) refl e (none_long gs)
    where
      by : (o : Option ℕ) → length_of tree part i g ≡ o → row_if tree part i g o (rows_in tree part i gs) ≡ [] → (rows_in tree part i gs ≡ [] → NoneLong gs) → (length_of tree part i g ≡ None) × NoneLong gs
      by None found e rest = (found, rest e)
      by (Some n) found e rest = absurd cc

  same_wires : (ws : List PlainWire) → NoneLong (groups_in ws) → map (promote_wire tree part i) ws ≡ ws
  same_wires [] none = refl
  same_wires (wires.Group g ∷ ws) (here, none) =
      ap (λ o. wires.Group (promote_group (enables tree part i) o g) ∷ map (promote_wire tree part i) ws) here ∙ ap (λ rest. wires.Group g ∷ rest) (same_wires ws none)
  same_wires (wires.Assign a ∷ ws) none = ap (λ rest. wires.Assign a ∷ rest) (same_wires ws none)

  unnamed : (name : List ℕ) (gs : List PlainGroup) → NoneLong gs → length_found tree part i (group_among name gs) ≡ None
  unnamed name [] none = refl
  unnamed name (g ∷ gs) (here, none) = by (same_name g.name name) (unnamed name gs none)
    where
      by : (b : Bool) → length_found tree part i (group_among name gs) ≡ None → length_found tree part i (if b then Some g else group_among name gs) ≡ None
      by true rest = here
      by false rest = rest

  same_control : (control : Option PlainBlock) → NoneLong (groups_in part.wires) → option_map (promote_block (is_long tree part i) BELOW_CONTROL true) control ≡ control
  same_control None none = refl
  same_control (Some block) none =
      ap Some (same_block (is_long tree part i) (λ name. ap is_some (unnamed name (groups_in part.wires) none)) BELOW_CONTROL true block)

  same_component : rows_in tree part i (groups_in part.wires) ≡ [] → promote_component tree part i ≡ part
  same_component e =
      let none = none_long (groups_in part.wires) e in
      ap (λ ws. record part { wires = ws; control = option_map (promote_block (is_long tree part i) BELOW_CONTROL true) part.control }) (same_wires part.wires none)
      ∙ ap (λ c. record part { control = c }) (same_control part.control none)

both_empty : (xs ys : List PromotedRow) → xs ++ ys ≡ [] → (xs ≡ []) × (ys ≡ [])
both_empty [] ys e = (refl, e)
both_empty (x ∷ xs) ys e = absurd cc

module _ (tree : PlainTree) where
  same_components : (k : ℕ) (parts : List PlainComponent) → rows_from tree k parts ≡ [] → components_from tree k parts ≡ parts
  same_components k [] e = refl
  same_components k (part ∷ parts) e =
      let i = component_of (design_of tree) k in
      let both = both_empty (rows_in tree part i (groups_in part.wires)) (rows_from tree (suc k) parts) e in
      ap (λ p. p ∷ components_from tree (suc k) parts) (same_component tree part i both.0) ∙ ap (λ rest. part ∷ rest) (same_components (suc k) parts both.1)

  same_tree : made_rows tree ≡ [] → made_tree tree ≡ tree
  same_tree e = ap (λ parts. record tree { components = parts }) (same_components 0 tree.components e)

pub without_rows_the_same : (tree new : PlainTree) → IsPromotedTree tree new [] → new ≡ tree
without_rows_the_same tree new (inl (keeps, made, rows)) = made ∙ same_tree tree (sym rows)
without_rows_the_same tree new (inr (breaks, same, rows)) = same
