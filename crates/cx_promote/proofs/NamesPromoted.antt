-- THE PROMOTED TREE BREAKS NO RULE ON NAMES, where the tree breaks none: fewer operands, and the same names.
use Rattle.std.proofs.Common.{◌≡◌, ℕ, zero, suc, ◌-◌, ◌⊎◌, inl, inr, append_assoc, nat_eq, nat_lt, Bool, true, false, ◌||◌, ◌&&◌, is_none, is_some, List, [], ◌∷◌, ◌++◌, Option, Some, None, length, map, flat_map, option_map, codes, refl, sym, ap, ap₂, ◌∙◌, subst}
use Rattle.std.specs.Prelude.{if◌then◌else◌, not}
use Rattle.std.proofs.lemmas.List.{append-nil}
use Rattle.cx_text.proofs.MemberLaws.{flat_in, flat_is_none, image_in, in_either, in_flat, in_image, in_left, in_right}
use Rattle.cx_text.specs.declared.places.Place.{Place}
use Rattle.cx_text.specs.declared.diagnostics.Diagnostic.{Diagnostic}
use Rattle.cx_text.specs.declared.rules.Rule.{Rule}
use Rattle.cx_text.specs.declared.rules.Rule.TheVariants as rules
use Rattle.cx_prim.specs.declared.ports.PortRow.{PortRow}
use Rattle.cx_prim.specs.Rows.{is_output_side}
use Rattle.cx_prim.specs.PortNames.{text_of}
use Rattle.cx_prim.specs.Table.{row_of}
use Rattle.cx_ast.specs.declared.operands.OperandItem.{OperandItem}
use Rattle.cx_ast.specs.declared.operands.OperandForm.{OperandForm}
use Rattle.cx_ast.specs.declared.operands.OperandForm.TheVariants as operands
use Rattle.cx_ast.specs.declared.statements.BindItem.{BindItem}
use Rattle.cx_ast.specs.declared.wiring.GroupWord.{GroupWord}
use Rattle.cx_ast.specs.declared.wiring.GroupWord.TheVariants as words
use Rattle.cx_ast.specs.PlainTree as ast
use Rattle.cx_ast.specs.PlainTree.{PlainTree}
use Rattle.cx_ast.specs.PlainStatements as statements
use Rattle.cx_meaning.specs.Instances.{Instance}
use Rattle.cx_text.specs.Members.{In}
use Rattle.cx_rules.specs.Ports as design
use Rattle.cx_numbering.specs.Names.{same_name, is_among, groups_in, always_in, cell_among, group_among, CellOf, Neither, APrimitive, AComponent, cell_of, cell_go, is_external}
use Rattle.cx_numbering.specs.DesignOf.{kind_of, group_of, design_of}
use Rattle.cx_numbering.specs.NameRules.{tell_if, path_of, named, duplicates, component_duplicates, guard_operands, Standing, standing, Visited, visit_parts, visit_else, visit_block, visit_all, statements_in, is_component, found_component, is_clock, is_static_end, is_unknown, unknown, is_left_out, is_hole, source_breaks, is_wrong_target, is_one, is_bare_done, assign_breaks, is_comb_word, is_comb_group, enable_breaks, with_breaks, output_rows, output_names, is_go_name, is_reg, found_reg, is_register_in, input_breaks, output_breaks, invoke_on, form_breaks, kind_breaks, is_narrow_memory, port_breaks, some_part, leads_back, cell_breaks, component_breaks, name_breaks, first_break, names_break, visit_control, kinds_of, circle_breaks}
use Rattle.cx_names.proofs.Base.{append_none, tell_none, first_none}
use Rattle.cx_names.proofs.Kept.{KeptPart, kept, kept_part}
use Rattle.cx_promotion.specs.Promotable.{promotable}
use Rattle.cx_promotion.specs.Rewriting.{PIECE, BELOW_CONTROL, place_of, is_hole_item, bare_enable, promote_assigns, promote_group, is_run, close, cut, cut_if, promote_form, promote_else, promote_all, promote_block, length_of, is_long, enables, promote_component, components_from, made_tree}
use Rattle.cx_promote.proofs.PartsPromoted.{component_names-made, MadeKind, neither, a_primitive, a_component, cell_of-made, go_of, latency-made, ports-made, twin, made_group, groups_in-made, always_in-made, name_made, group_names-made}
use Rattle.cx_text.proofs.ListLaws.{both_none}

-- LISTS OF BREAKS that are empty

-- the same test, told alike
retold : (a b : Bool) (rule : Rule) (place : Place) (name : List ℕ) → a ≡ b → tell_if b rule place name ≡ [] → tell_if a rule place name ≡ []
retold a b rule place name e none = ap (λ t. tell_if t rule place name) e ∙ none

list_kept : {A : Type 0} (old new : A → List Diagnostic) → ((x : A) → old x ≡ [] → new x ≡ []) → (list : List A) → flat_map old list ≡ [] → flat_map new list ≡ []
list_kept old new each [] none = refl
list_kept old new each (x ∷ rest) none = let two = append_none _ _ none in both_none _ _ (each x two.0) (list_kept old new each rest two.1)

-- STATEMENTS of the promoted tree: each is one of the tree, promoted, or a static seq that is made
module _ (long : List ℕ → Bool) where
  pub data Came (vs : List Visited) : Visited → Type 0 where
    of_one : (v : Visited) (below : ℕ) → In vs v → Came vs (record { form = promote_form long below v.form; place = v.place })
    as_it_is : (v : Visited) → In vs v → Came vs v
    of_piece : (list : statements.PlainStatements) (place there : Place) → Came vs (record { form = statements.StaticSeq None [] (statements.Braces list there); place = place })

  abbrev pub CameAll : List Visited → List Visited → Type 0
  CameAll vs ws = (w : Visited) → In ws w → Came vs w

  wider : {vs ws : List Visited} {w : Visited} → ((v : Visited) → In vs v → In ws v) → Came vs w → Came ws w
  wider h (of_one v below i) = of_one v below (h v i)
  wider h (as_it_is v i) = as_it_is v (h v i)
  wider h (of_piece list place there) = of_piece list place there

  widen : (vs ws us : List Visited) → ((v : Visited) → In vs v → In ws v) → CameAll vs us → CameAll ws us
  widen vs ws us h each w i = wider h (each w i)

  both_come : (vs xs ys : List Visited) → CameAll vs xs → CameAll vs ys → CameAll vs (xs ++ ys)
  both_come vs xs ys one two w i = by (in_either xs ys w i)
    where
      by : In xs w ⊎ In ys w → Came vs w
      by (inl l) = one w l
      by (inr r) = two w r

  come_first : (vs : List Visited) (v : Visited) (ws : List Visited) → Came vs v → CameAll vs ws → CameAll vs (v ∷ ws)
  come_first vs v ws one all w (inl e) = subst (Came vs) e one
  come_first vs v ws one all w (inr i) = all w i

  all_stay : (vs : List Visited) → CameAll vs vs
  all_stay vs w i = as_it_is w i

  -- what a list and what comes after it visit
  visits_first : (s : statements.PlainStatement) (ss : statements.PlainStatements) → visit_all (statements.StatementThen s ss) ≡ visit_all (statements.StatementThen s statements.NoStatements) ++ visit_all ss
  visits_first (statements.Placed attributes form place) ss =
      ap (λ list. record { form = form; place = place } ∷ list) (ap (λ list. list ++ visit_all ss) (sym (append-nil (visit_parts form))))

  visits_listed : (xs ys : List statements.PlainStatement) → visit_all (statements.statements_of (xs ++ ys)) ≡ visit_all (statements.statements_of xs) ++ visit_all (statements.statements_of ys)
  visits_listed [] ys = refl
  visits_listed (statements.Placed attributes form place ∷ xs) ys =
      ap (λ list. record { form = form; place = place } ∷ list)
      (ap (λ list. visit_parts form ++ list) (visits_listed xs ys) ∙ sym (append_assoc (visit_parts form) (visit_all (statements.statements_of xs)) (visit_all (statements.statements_of ys))))

  come_closed : (vs : List Visited) (piece : List statements.PlainStatement) (later : statements.PlainStatements)
      → CameAll vs (visit_all (statements.statements_of piece)) → CameAll vs (visit_all later) → CameAll vs (visit_all (close long piece later))
  come_closed vs [] later one two = two
  come_closed vs (s ∷ []) later one two = subst (CameAll vs) (sym (visits_first s later)) (both_come vs _ (visit_all later) one two)
  come_closed vs (s ∷ t ∷ rest) later one two =
      come_first vs _ _ (of_piece (statements.statements_of (s ∷ t ∷ rest)) (place_of long s) (place_of long s)) (both_come vs (visit_all (statements.statements_of (s ∷ t ∷ rest))) (visit_all later) one two)

  come_cut : (vs : List Visited) (piece : List statements.PlainStatement) (count : ℕ) (ss : statements.PlainStatements)
      → CameAll vs (visit_all (statements.statements_of piece)) → CameAll vs (visit_all ss) → CameAll vs (visit_all (cut long piece count ss))
  come_cut vs piece count statements.NoStatements one two = come_closed vs piece statements.NoStatements one two
  come_cut vs piece count (statements.StatementThen s ss) one two = by (is_run long s) (nat_eq count PIECE) (λ opened many before. come_cut vs opened many ss before after)
    where
      split : CameAll vs (visit_all (statements.StatementThen s statements.NoStatements) ++ visit_all ss)
      split = subst (CameAll vs) (visits_first s ss) two

      now : CameAll vs (visit_all (statements.StatementThen s statements.NoStatements))
      now w i = split w (in_left (visit_all (statements.StatementThen s statements.NoStatements)) (visit_all ss) w i)

      after : CameAll vs (visit_all ss)
      after w i = split w (in_right (visit_all (statements.StatementThen s statements.NoStatements)) (visit_all ss) w i)

      by : (run full : Bool) → ((opened : List statements.PlainStatement) (many : ℕ) → CameAll vs (visit_all (statements.statements_of opened)) → CameAll vs (visit_all (cut long opened many ss)))
          → CameAll vs (visit_all (if run then (if full then close long piece (cut long (s ∷ []) 1 ss) else cut long (piece ++ (s ∷ [])) (suc count) ss) else close long piece (statements.StatementThen s (cut long [] 0 ss))))
      by true true later = come_closed vs piece (cut long (s ∷ []) 1 ss) one (later (s ∷ []) 1 now)
      by true false later =
          later (piece ++ (s ∷ [])) (suc count) (subst (CameAll vs) (sym (visits_listed piece (s ∷ []))) (both_come vs (visit_all (statements.statements_of piece)) (visit_all (statements.StatementThen s statements.NoStatements)) one now))
      by false full later =
          come_closed vs piece (statements.StatementThen s (cut long [] 0 ss)) one
          (subst (CameAll vs) (sym (visits_first s (cut long [] 0 ss))) (both_come vs (visit_all (statements.StatementThen s statements.NoStatements)) (visit_all (cut long [] 0 ss)) now (later [] 0 (λ w i. absurd i))))

  come_cut_if : (vs : List Visited) (b : Bool) (ss : statements.PlainStatements) → CameAll vs (visit_all ss) → CameAll vs (visit_all (cut_if long b ss))
  come_cut_if vs true ss all = come_cut vs [] 0 ss (λ w i. absurd i) all
  come_cut_if vs false ss all = all

  come_head : (below : ℕ) (form : statements.PlainForm) (place : Place) (vs ws : List Visited) → CameAll vs ws
      → CameAll (record { form = form; place = place } ∷ vs) (record { form = promote_form long below form; place = place } ∷ ws)
  come_head below form place vs ws all w (inl e) = subst (Came (record { form = form; place = place } ∷ vs)) e (of_one (record { form = form; place = place }) below (inl refl))
  come_head below form place vs ws all w (inr i) = wider (λ v j. inr j) (all w i)

  mutual
    come_form : (below : ℕ) (form : statements.PlainForm) → CameAll (visit_parts form) (visit_parts (promote_form long below form))
    come_form below (statements.Enable group marks) = all_stay []
    come_form below (statements.Seq marks block) = come_block (below - 1) true block
    come_form below (statements.Par marks block) = come_block (below - 1) false block
    come_form below (statements.StaticSeq written marks block) = all_stay (visit_block block)
    come_form below (statements.StaticPar written marks block) = all_stay (visit_block block)
    come_form below (statements.If test comb body otherwise) =
        both_come (visit_block body ++ visit_else otherwise) (visit_block (promote_block long (below - 1) true body)) (visit_else (promote_else long (below - 1) otherwise))
        (widen (visit_block body) (visit_block body ++ visit_else otherwise) _ (in_left (visit_block body) (visit_else otherwise)) (come_block (below - 1) true body))
        (widen (visit_else otherwise) (visit_block body ++ visit_else otherwise) _ (in_right (visit_block body) (visit_else otherwise)) (come_else (below - 1) otherwise))
    come_form below (statements.StaticIf written test body otherwise) = all_stay (visit_block body ++ visit_else otherwise)
    come_form below (statements.While test comb body) = come_block (below - 1) true body
    come_form below (statements.Repeat count body) = come_block (below - 1) true body
    come_form below (statements.StaticRepeat written count body) = all_stay (visit_block body)
    come_form below (statements.Invoke cell inputs outputs) = all_stay []
    come_form below (statements.StaticInvoke written cell inputs outputs) = all_stay []

    come_else : (below : ℕ) (otherwise : statements.PlainElse) → CameAll (visit_else otherwise) (visit_else (promote_else long below otherwise))
    come_else below statements.NoElse = all_stay []
    come_else below (statements.Else block) = come_block below true block

    come_all : (below : ℕ) (ss : statements.PlainStatements) → CameAll (visit_all ss) (visit_all (promote_all long below ss))
    come_all below statements.NoStatements = all_stay []
    come_all below (statements.StatementThen (statements.Placed attributes form place) ss) =
        come_head below form place (visit_parts form ++ visit_all ss) _
        (both_come (visit_parts form ++ visit_all ss) (visit_parts (promote_form long below form)) (visit_all (promote_all long below ss))
        (widen (visit_parts form) (visit_parts form ++ visit_all ss) _ (in_left (visit_parts form) (visit_all ss)) (come_form below form))
        (widen (visit_all ss) (visit_parts form ++ visit_all ss) _ (in_right (visit_parts form) (visit_all ss)) (come_all below ss)))

    pub come_block : (below : ℕ) (in_order : Bool) (block : statements.PlainBlock) → CameAll (visit_block block) (visit_block (promote_block long below in_order block))
    come_block below in_order (statements.Braces ss place) = come_cut_if (visit_all ss) (in_order && nat_lt 0 below) (promote_all long below ss) (come_all below ss)

pub statements_come : (tree : PlainTree) (part : ast.PlainComponent) (i : Instance) → CameAll (is_long tree part i) (statements_in part) (statements_in (twin tree part i))
statements_come tree part i = by part.control
  where
    by : (o : Option statements.PlainBlock) → CameAll (is_long tree part i) (visit_control o) (visit_control (option_map (promote_block (is_long tree part i) BELOW_CONTROL true) o))
    by None = all_stay (is_long tree part i) []
    by (Some block) = come_block (is_long tree part i) BELOW_CONTROL true block

-- COMPONENTS keep what names say of them
named_parts : (tree : PlainTree) (k : ℕ) (parts : List ast.PlainComponent) → map (λ (part : ast.PlainComponent). named part.name part.place) (components_from tree k parts) ≡ map (λ (part : ast.PlainComponent). named part.name part.place) parts
named_parts tree k [] = refl
named_parts tree k (part ∷ parts) = ap (λ z. named part.name part.place ∷ z) (named_parts tree (suc k) parts)

many_parts : (tree : PlainTree) (k : ℕ) (parts : List ast.PlainComponent) → length (components_from tree k parts) ≡ length parts
many_parts tree k [] = refl
many_parts tree k (part ∷ parts) = ap suc (many_parts tree (suc k) parts)

pub part_from : (tree : PlainTree) (k : ℕ) (parts : List ast.PlainComponent) (part : ast.PlainComponent) → In (components_from tree k parts) part
    → (old : ast.PlainComponent) × (i : Instance) × In parts old × (promote_component tree old i ≡ part)
part_from tree k [] part here = absurd here
part_from tree k (p ∷ parts) part (inl e) = (p, design.component_of (design_of tree) k, inl refl, e)
part_from tree k (p ∷ parts) part (inr there) = let r = part_from tree (suc k) parts part there in (r.0, r.1, inr r.2, r.3)

module _ (tree : PlainTree) where
  -- RECURSION: components lead back by the same cells
  abbrev LeadsAlike : List ℕ → ℕ → Type 0
  LeadsAlike name n = (part : ast.PlainComponent) (i : Instance) → leads_back (made_tree tree) name n (promote_component tree part i) ≡ leads_back tree name n part

  kind_leads : (name : List ℕ) (n : ℕ) (of other : CellOf) (olds news : List ast.PlainComponent) → LeadsAlike name n → MadeKind tree of other
      → some_part (leads_back (made_tree tree) name n) news ≡ some_part (leads_back tree name n) olds
      → some_part (leads_back (made_tree tree) name n) (kinds_of other ++ news) ≡ some_part (leads_back tree name n) (kinds_of of ++ olds)
  kind_leads name n of other olds news each neither rest = rest
  kind_leads name n of other olds news each a_primitive rest = rest
  kind_leads name n of other olds news each (a_component {part = part} i) rest = ap₂ ◌||◌ (each part i) rest

  some_lead : (name : List ℕ) (n : ℕ) → LeadsAlike name n → (cells : List ast.PlainCell)
      → some_part (leads_back (made_tree tree) name n) (flat_map (λ cell. kinds_of (cell_of (made_tree tree) cell)) cells) ≡ some_part (leads_back tree name n) (flat_map (λ cell. kinds_of (cell_of tree cell)) cells)
  some_lead name n each [] = refl
  some_lead name n each (cell ∷ cells) = kind_leads name n (cell_of tree cell) (cell_of (made_tree tree) cell) _ _ each (cell_of-made tree cell) (some_lead name n each cells)

  leads_kept : (name : List ℕ) (n : ℕ) → LeadsAlike name n
  leads_kept name zero part i = refl
  leads_kept name (suc n) part i = ap (λ b. same_name part.name name || b) (some_lead name n (leads_kept name n) part.cells)

  module _ (part : ast.PlainComponent) (i : Instance) (own : KeptPart tree part) where
    abbrev other : ast.PlainComponent
    other = twin tree part i

    -- WHAT A CELL IS OF
    component_kept : (of new : CellOf) → MadeKind tree of new → is_component (made_tree tree) other new ≡ is_component tree part of
    component_kept of new neither = refl
    component_kept of new a_primitive = refl
    component_kept of new (a_component j) = refl

    found_kept : (o : Option ast.PlainCell) → found_component (made_tree tree) other o ≡ found_component tree part o
    found_kept None = refl
    found_kept (Some cell) = component_kept (cell_of tree cell) (cell_of (made_tree tree) cell) (cell_of-made tree cell)

    clock-made : (cell port : List ℕ) → is_clock (made_tree tree) other cell port ≡ is_clock tree part cell port
    clock-made cell port = ap (λ b. b && (same_name port (codes "clk") || same_name port (codes "reset"))) (found_kept (cell_among cell part.cells))

    end-made : (cell port : List ℕ) → is_static_end (made_tree tree) other cell port ≡ is_static_end tree part cell port
    end-made cell port = ap (λ latency. is_some latency && (same_name port (codes "go") || same_name port (codes "done"))) (latency-made tree (cell_among cell part.cells))

    reg_kept : (of new : CellOf) → MadeKind tree of new → is_reg (made_tree tree) other new ≡ is_reg tree part of
    reg_kept of new neither = refl
    reg_kept of new a_primitive = refl
    reg_kept of new (a_component j) = refl

    found_reg_kept : (o : Option ast.PlainCell) → found_reg (made_tree tree) other o ≡ found_reg tree part o
    found_reg_kept None = refl
    found_reg_kept (Some cell) = reg_kept (cell_of tree cell) (cell_of (made_tree tree) cell) (cell_of-made tree cell)

    -- OPERANDS
    unknown_kept : (form : OperandForm) → is_unknown (made_tree tree) other form ≡ is_unknown tree part form
    unknown_kept (operands.Own name) = refl
    unknown_kept (operands.Port cell port) = ap₂ (λ names b. not (is_among port names || b)) (ports-made tree (cell_among cell part.cells)) (clock-made cell port)
    unknown_kept (operands.Hole group hole) = ap (λ names. not (is_among group names && (same_name hole (codes "go") || same_name hole (codes "done")))) (group_names-made tree part i)
    unknown_kept (operands.Literal width value) = refl

    left_out_kept : (form : OperandForm) → is_left_out (made_tree tree) other form ≡ is_left_out tree part form
    left_out_kept (operands.Own name) = refl
    left_out_kept (operands.Port cell port) = ap₂ ◌||◌ (clock-made cell port) (end-made cell port)
    left_out_kept (operands.Hole group hole) = refl
    left_out_kept (operands.Literal width value) = refl

    hole_kept : (form : OperandForm) → is_hole (made_tree tree) other form ≡ is_hole tree part form
    hole_kept (operands.Own name) = refl
    hole_kept (operands.Port cell port) = refl
    hole_kept (operands.Hole group hole) = refl
    hole_kept (operands.Literal width value) = refl

    wrong_kept : (group : Option (List ℕ)) (form : OperandForm) → is_wrong_target (made_tree tree) other group form ≡ is_wrong_target tree part group form
    wrong_kept group (operands.Own name) = refl
    wrong_kept group (operands.Port cell port) = refl
    wrong_kept None (operands.Hole name hole) = refl
    wrong_kept (Some group) (operands.Hole name hole) = refl
    wrong_kept group (operands.Literal width value) = refl

    one_kept : (form : OperandForm) → is_one (made_tree tree) other form ≡ is_one tree part form
    one_kept (operands.Own name) = refl
    one_kept (operands.Port cell port) = refl
    one_kept (operands.Hole group hole) = refl
    one_kept (operands.Literal width value) = refl

    register_kept : (form : OperandForm) → is_register_in (made_tree tree) other form ≡ is_register_in tree part form
    register_kept (operands.Own name) = refl
    register_kept (operands.Port cell port) = ap (λ b. b && same_name port (codes "in")) (found_reg_kept (cell_among cell part.cells))
    register_kept (operands.Hole group hole) = refl
    register_kept (operands.Literal width value) = refl

    known_operand : (o : OperandItem) → unknown tree part o ≡ [] → unknown (made_tree tree) other o ≡ []
    known_operand o none = retold _ _ _ o.place _ (unknown_kept o.form) none

    source_operand : (o : OperandItem) → source_breaks tree part o ≡ [] → source_breaks (made_tree tree) other o ≡ []
    source_operand o none =
        let two = append_none _ _ none in
        both_none _ _ (known_operand o two.0) (retold _ _ _ o.place _ (ap₂ ◌||◌ (left_out_kept o.form) (hole_kept o.form)) two.1)

    -- ASSIGNMENTS that stay
    assign_kept : (x : Standing) → assign_breaks tree part x ≡ [] → assign_breaks (made_tree tree) other x ≡ []
    assign_kept x none =
        let three = append_none _ _ none in
        let two = append_none _ _ three.0 in
        let one = append_none _ _ two.0 in
        both_none _ _ (both_none _ _ (both_none _ _ (known_operand x.assign.target one.0)
        (retold _ _ _ x.assign.target.place _ (ap₂ ◌||◌ (ap₂ ◌||◌ (left_out_kept x.assign.target.form) (wrong_kept x.group x.assign.target.form))
        (ap₂ ◌&&◌ (ap (λ b. b && is_none x.assign.guard) (hole_kept x.assign.target.form)) (one_kept x.assign.source.form))) one.1))
        (source_operand x.assign.source two.1))
        (list_kept (source_breaks tree part) (source_breaks (made_tree tree) other) source_operand (guard_operands x.assign.guard) three.1)

    -- and those of enabling ports, which lose their guards; they are no holes
    hole_item : (form : OperandForm) → is_hole (made_tree tree) other form ≡ is_hole_item form
    hole_item (operands.Own name) = refl
    hole_item (operands.Port cell port) = refl
    hole_item (operands.Hole group hole) = refl
    hole_item (operands.Literal width value) = refl

    or_before : (a b : Bool) → (a || b) ≡ false → (a || false) ≡ false
    or_before true b e = absurd cc
    or_before false b e = refl

    unguarded_kept : (group : Option (List ℕ)) (a : ast.PlainAssign) → is_hole_item a.target.form ≡ false → assign_breaks tree part (record { group = group; assign = a }) ≡ []
        → assign_breaks (made_tree tree) other (record { group = group; assign = record a { guard = None } }) ≡ []
    unguarded_kept group a no_hole none =
        let three = append_none _ _ none in
        let two = append_none _ _ three.0 in
        let one = append_none _ _ two.0 in
        let wrong : Bool = is_left_out tree part a.target.form || is_wrong_target tree part group a.target.form in
        let right = or_before wrong (is_bare_done tree part a) (tell_none _ _ _ _ one.1) in
        both_none _ _ (both_none _ _ (both_none _ _ (known_operand a.target one.0)
        (retold _ false rules.LeftOut a.target.place (path_of a.target.form)
        (ap₂ ◌||◌ (ap₂ ◌||◌ (left_out_kept a.target.form) (wrong_kept group a.target.form)) (ap (λ b. (b && true) && is_one (made_tree tree) other a.source.form) (hole_item a.target.form ∙ no_hole)) ∙ right) refl))
        (source_operand a.source two.1))
        refl

    bare_kept : (group : Option (List ℕ)) (a : ast.PlainAssign) (b : Bool) → is_hole_item a.target.form ≡ false → assign_breaks tree part (record { group = group; assign = a }) ≡ []
        → assign_breaks (made_tree tree) other (record { group = group; assign = if b then record a { guard = None } else a }) ≡ []
    bare_kept group a true no_hole none = unguarded_kept group a no_hole none
    bare_kept group a false no_hole none = assign_kept (record { group = group; assign = a }) none

    abbrev AllKept : List ℕ → List ast.PlainAssign → Type 0
    AllKept name list = (a : ast.PlainAssign) → In list a → assign_breaks tree part (record { group = Some name; assign = a }) ≡ []

    promoted_kept : (name : List ℕ) (list : List ast.PlainAssign) → AllKept name list → (a : ast.PlainAssign) → In (promote_assigns (enables tree part i) list) a
        → assign_breaks (made_tree tree) other (record { group = Some name; assign = a }) ≡ []
    promoted_kept name [] all a here = absurd here
    promoted_kept name (x ∷ rest) all a here = by (is_hole_item x.target.form) refl here (promoted_kept name rest (λ y there. all y (inr there)))
      where
        by : (hole : Bool) → is_hole_item x.target.form ≡ hole
            → In (if hole then promote_assigns (enables tree part i) rest else bare_enable (enables tree part i) x ∷ promote_assigns (enables tree part i) rest) a
            → ((y : ast.PlainAssign) → In (promote_assigns (enables tree part i) rest) y → assign_breaks (made_tree tree) other (record { group = Some name; assign = y }) ≡ [])
            → assign_breaks (made_tree tree) other (record { group = Some name; assign = a }) ≡ []
        by true is there after = after a there
        by false is (inl e) after =
            subst (λ (y : ast.PlainAssign). assign_breaks (made_tree tree) other (record { group = Some name; assign = y }) ≡ []) e
            (bare_kept (Some name) x (enables tree part i x.target.form) is (all x (inl refl)))
        by false is (inr there) after = after a there

    group_kept : (g : ast.PlainGroup) (o : Option ℕ) → AllKept g.name g.assigns → (a : ast.PlainAssign) → In (promote_group (enables tree part i) o g).assigns a
        → assign_breaks (made_tree tree) other (record { group = Some g.name; assign = a }) ≡ []
    group_kept g None all a here = assign_kept (record { group = Some g.name; assign = a }) (all a here)
    group_kept g (Some n) all a here = promoted_kept g.name g.assigns all a here

    abbrev of_group : ast.PlainGroup → List Standing
    of_group g = map (λ a. record { group = Some g.name; assign = a }) g.assigns

    abbrev olds : List Standing
    olds = standing part

    group_stands : (g : ast.PlainGroup) → In (groups_in part.wires) g → AllKept g.name g.assigns
    group_stands g i a here =
        own.assigns (record { group = Some g.name; assign = a })
        (in_right (map (λ a. record { group = None; assign = a }) (always_in part.wires)) (flat_map of_group (groups_in part.wires)) _
        (in_flat of_group (groups_in part.wires) g _ i (in_image (λ a. record { group = Some g.name; assign = a }) g.assigns a here)))

    standing_kept : (x : Standing) → In (standing other) x → assign_breaks (made_tree tree) other x ≡ []
    standing_kept x here =
        by (in_either (map (λ a. record { group = None; assign = a }) (always_in other.wires)) (flat_map of_group (groups_in other.wires)) x here)
      where
        always : In (map (λ a. record { group = None; assign = a }) (always_in other.wires)) x → assign_breaks (made_tree tree) other x ≡ []
        always there =
            assign_kept x
            (own.assigns x (in_left (map (λ a. record { group = None; assign = a }) (always_in part.wires)) (flat_map of_group (groups_in part.wires)) x
            (subst (λ list. In (map (λ a. record { group = None; assign = a }) list) x) (always_in-made tree part i part.wires) there)))

        grouped : In (flat_map of_group (groups_in other.wires)) x → assign_breaks (made_tree tree) other x ≡ []
        grouped there =
            let r = flat_in of_group (map (made_group tree part i) (groups_in part.wires)) x (subst (λ gs. In (flat_map of_group gs) x) (groups_in-made tree part i part.wires) there) in
            let g = image_in (made_group tree part i) (groups_in part.wires) r.0 r.1 in
            let a = image_in (λ a. record { group = Some r.0.name; assign = a }) r.0.assigns x r.2 in
            let name : g.0.name ≡ r.0.name = sym (name_made tree part i g.0) ∙ ap (λ (h : ast.PlainGroup). h.name) g.2 in
            subst (λ (y : Standing). assign_breaks (made_tree tree) other y ≡ []) (ap (λ n. record { group = Some n; assign = a.0 }) name ∙ a.2)
            (group_kept g.0 (length_of tree part i g.0) (group_stands g.0 g.1) a.0 (subst (λ (h : ast.PlainGroup). In h.assigns a.0) (sym g.2) a.1))

        by : In (map (λ a. record { group = None; assign = a }) (always_in other.wires)) x ⊎ In (flat_map of_group (groups_in other.wires)) x
            → assign_breaks (made_tree tree) other x ≡ []
        by (inl there) = always there
        by (inr there) = grouped there

    -- GROUPS BY NAME: a promoted one was plain, so comb groups stay
    among_kept : (name : List ℕ) (gs : List ast.PlainGroup) → group_among name (map (made_group tree part i) gs) ≡ option_map (made_group tree part i) (group_among name gs)
    among_kept name [] = refl
    among_kept name (g ∷ gs) =
        ap (λ own_name. if same_name own_name name then Some (made_group tree part i g) else group_among name (map (made_group tree part i) gs)) (name_made tree part i g)
        ∙ by (same_name g.name name) (among_kept name gs)
      where
        by : (b : Bool) → group_among name (map (made_group tree part i) gs) ≡ option_map (made_group tree part i) (group_among name gs)
            → (if b then Some (made_group tree part i g) else group_among name (map (made_group tree part i) gs)) ≡ option_map (made_group tree part i) (if b then Some g else group_among name gs)
        by true h = refl
        by false h = h

    word_kept : (w : GroupWord) → is_comb_word (made_tree tree) other w ≡ is_comb_word tree part w
    word_kept words.Plain = refl
    word_kept words.Comb = refl
    word_kept (words.Timed n) = refl

    comb_kept : (g : ast.PlainGroup) → is_comb_word (made_tree tree) other (made_group tree part i g).kind ≡ is_comb_word tree part g.kind
    comb_kept g = by g.kind (length_of tree part i g) refl refl
      where
        by : (w : GroupWord) (o : Option ℕ) → g.kind ≡ w → length_of tree part i g ≡ o → is_comb_word (made_tree tree) other (promote_group (enables tree part i) o g).kind ≡ is_comb_word tree part g.kind
        by w None is long = word_kept g.kind
        by words.Plain (Some n) is long = ap (is_comb_word tree part) (sym is)
        by (words.Timed m) (Some n) is long = ap (is_comb_word tree part) (sym is)
        by words.Comb (Some n) is long = absurd (not_promotable is long)
          where
            not_promotable : g.kind ≡ words.Comb → length_of tree part i g ≡ Some n → ⊥
            not_promotable is long = let none : None ≡ Some n = sym (ap (λ kind. promotable i (record (group_of tree part g) { kind = kind_of tree part kind })) is) ∙ long in cc

    comb_group_kept : (name : List ℕ) → is_comb_group (made_tree tree) other (group_among name (groups_in other.wires)) ≡ is_comb_group tree part (group_among name (groups_in part.wires))
    comb_group_kept name =
        ap (λ gs. is_comb_group (made_tree tree) other (group_among name gs)) (groups_in-made tree part i part.wires) ∙ ap (is_comb_group (made_tree tree) other) (among_kept name (groups_in part.wires))
        ∙ by (group_among name (groups_in part.wires))
      where
        by : (o : Option ast.PlainGroup) → is_comb_group (made_tree tree) other (option_map (made_group tree part i) o) ≡ is_comb_group tree part o
        by None = refl
        by (Some g) = comb_kept g

    -- STATEMENTS
    enable_kept : (name : List ℕ) (place : Place) → enable_breaks (made_tree tree) other name place ≡ enable_breaks tree part name place
    enable_kept name place =
        ap₂ (λ names b. tell_if (not (is_among name names)) rules.UnknownName place name ++ tell_if b rules.LeftOut place name) (group_names-made tree part i) (comb_group_kept name)

    with_kept : (o : Option (List ℕ)) (place : Place) → with_breaks (made_tree tree) other o place ≡ with_breaks tree part o place
    with_kept None place = refl
    with_kept (Some name) place =
        ap₂ (λ names b. tell_if (not (is_among name names)) rules.UnknownName place name ++ tell_if (not b) rules.LeftOut place name) (group_names-made tree part i) (comb_group_kept name)

    rows_kept : (list : List PortRow) → output_rows (made_tree tree) other list ≡ output_rows tree part list
    rows_kept [] = refl
    rows_kept (port ∷ rest) = ap (λ z. if is_output_side port.side then text_of port.name ∷ z else z) (rows_kept rest)

    outputs_kept : (of new : CellOf) → MadeKind tree of new → output_names (made_tree tree) other new ≡ output_names tree part of
    outputs_kept of new neither = refl
    outputs_kept of new (a_primitive {p = p}) = rows_kept (row_of p).ports
    outputs_kept of new (a_component j) = refl

    go_name_kept : (o : Option (List ℕ)) (name : List ℕ) → is_go_name (made_tree tree) other o name ≡ is_go_name tree part o name
    go_name_kept None name = refl
    go_name_kept (Some go) name = refl

    input_kept : (cell : List ℕ) (of new : CellOf) → MadeKind tree of new → (b : BindItem) → input_breaks tree part cell of b ≡ [] → input_breaks (made_tree tree) other cell new b ≡ []
    input_kept cell of new made b none =
        let two = append_none _ _ none in
        let one = append_none _ _ two.0 in
        both_none _ _ (both_none _ _
        (retold _ _ _ b.place _ (ap₂ (λ names t. not (is_among b.name names || t)) (ports-made tree (cell_among cell part.cells)) (clock-made cell b.name)) one.0)
        (retold _ _ _ b.place _ (ap₂ ◌||◌ (ap₂ ◌||◌ (ap (is_among b.name) (outputs_kept of new made)) (ap (λ o. is_go_name (made_tree tree) other o b.name) (go_of tree of new made) ∙ go_name_kept (cell_go of) b.name)) (clock-made cell b.name)) one.1))
        (source_operand b.value two.1)

    output_kept : (cell : List ℕ) (of new : CellOf) → MadeKind tree of new → (b : BindItem) → output_breaks tree part cell of b ≡ [] → output_breaks (made_tree tree) other cell new b ≡ []
    output_kept cell of new made b none =
        let three = append_none _ _ none in
        let two = append_none _ _ three.0 in
        let one = append_none _ _ two.0 in
        both_none _ _ (both_none _ _ (both_none _ _
        (retold _ _ _ b.place _ (ap₂ (λ names t. not (is_among b.name names || t)) (ports-made tree (cell_among cell part.cells)) (clock-made cell b.name)) one.0)
        (retold _ _ _ b.place _ (ap₂ (λ names end. not (is_among b.name names) || end) (outputs_kept of new made) (end-made cell b.name)) one.1))
        (known_operand b.value two.1))
        (retold _ _ _ b.value.place _ (ap not (register_kept b.value.form)) three.1)

    invoke_kept : (cell : List ℕ) (inputs outputs : List BindItem) (place : Place) (o : Option ast.PlainCell) → invoke_on tree part cell inputs outputs place o ≡ []
        → invoke_on (made_tree tree) other cell inputs outputs place o ≡ []
    invoke_kept cell inputs outputs place None none = none
    invoke_kept cell inputs outputs place (Some found) none =
        let made = cell_of-made tree found in
        let two = append_none _ _ none in
        let one = append_none _ _ two.0 in
        both_none _ _ (both_none _ _
        (retold _ _ _ place _ (ap is_none (go_of tree (cell_of tree found) (cell_of (made_tree tree) found) made)) one.0)
        (list_kept (input_breaks tree part cell (cell_of tree found)) (input_breaks (made_tree tree) other cell (cell_of (made_tree tree) found)) (input_kept cell (cell_of tree found) (cell_of (made_tree tree) found) made) inputs one.1))
        (list_kept (output_breaks tree part cell (cell_of tree found)) (output_breaks (made_tree tree) other cell (cell_of (made_tree tree) found)) (output_kept cell (cell_of tree found) (cell_of (made_tree tree) found) made) outputs two.1)

    bound_kept : (cell : List ℕ) (inputs outputs : List BindItem) (place : Place) → form_breaks tree part (statements.Invoke cell inputs outputs) place ≡ []
        → form_breaks (made_tree tree) other (statements.Invoke cell inputs outputs) place ≡ []
    bound_kept cell inputs outputs place none =
        let two = append_none _ _ none in
        both_none _ _ two.0 (invoke_kept cell inputs outputs place (cell_among cell part.cells) two.1)

    form_kept : (form : statements.PlainForm) (place : Place) → form_breaks tree part form place ≡ [] → form_breaks (made_tree tree) other form place ≡ []
    form_kept (statements.Enable group marks) place none = enable_kept group place ∙ none
    form_kept (statements.Seq marks block) place none = refl
    form_kept (statements.Par marks block) place none = refl
    form_kept (statements.StaticSeq written marks block) place none = refl
    form_kept (statements.StaticPar written marks block) place none = refl
    form_kept (statements.If test comb block otherwise) place none = let two = append_none _ _ none in both_none _ _ (with_kept comb place ∙ two.0) (source_operand test two.1)
    form_kept (statements.StaticIf written test block otherwise) place none = source_operand test none
    form_kept (statements.While test comb body) place none = let two = append_none _ _ none in both_none _ _ (with_kept comb place ∙ two.0) (source_operand test two.1)
    form_kept (statements.Repeat count body) place none = refl
    form_kept (statements.StaticRepeat written count body) place none = refl
    form_kept (statements.Invoke cell inputs outputs) place none = bound_kept cell inputs outputs place none
    form_kept (statements.StaticInvoke written cell inputs outputs) place none = bound_kept cell inputs outputs place none

    -- what a form is told of hangs on its head alone
    form_told : (below : ℕ) (form : statements.PlainForm) (place : Place) → form_breaks (made_tree tree) other (promote_form (is_long tree part i) below form) place ≡ form_breaks (made_tree tree) other form place
    form_told below (statements.Enable group marks) place = refl
    form_told below (statements.Seq marks block) place = refl
    form_told below (statements.Par marks block) place = refl
    form_told below (statements.StaticSeq written marks block) place = refl
    form_told below (statements.StaticPar written marks block) place = refl
    form_told below (statements.If test comb block otherwise) place = refl
    form_told below (statements.StaticIf written test block otherwise) place = refl
    form_told below (statements.While test comb body) place = refl
    form_told below (statements.Repeat count body) place = refl
    form_told below (statements.StaticRepeat written count body) place = refl
    form_told below (statements.Invoke cell inputs outputs) place = refl
    form_told below (statements.StaticInvoke written cell inputs outputs) place = refl

    came_kept : (v : Visited) → Came (is_long tree part i) (statements_in part) v → form_breaks (made_tree tree) other v.form v.place ≡ []
    came_kept v (of_one w below here) = form_told below w.form w.place ∙ form_kept w.form w.place (own.statements w here)
    came_kept v (as_it_is w here) = form_kept w.form w.place (own.statements w here)
    came_kept v (of_piece list place there) = refl

    statements_kept : (v : Visited) → In (statements_in other) v → form_breaks (made_tree tree) other v.form v.place ≡ []
    statements_kept v here = came_kept v (statements_come tree part i v here)

    -- CELLS
    kind_told : (cell : ast.PlainCell) (of new : CellOf) → MadeKind tree of new → kind_breaks tree part cell of ≡ [] → kind_breaks (made_tree tree) other cell new ≡ []
    kind_told cell of new neither none = none
    kind_told cell of new a_primitive none = none
    kind_told cell of new (a_component j) none = none

    narrow_kept : (of new : CellOf) → MadeKind tree of new → is_narrow_memory (made_tree tree) other new ≡ is_narrow_memory tree part of
    narrow_kept of new neither = refl
    narrow_kept of new a_primitive = refl
    narrow_kept of new (a_component j) = refl

    circle_kept : (cell : ast.PlainCell) (of new : CellOf) → MadeKind tree of new → circle_breaks tree part cell of ≡ [] → circle_breaks (made_tree tree) other cell new ≡ []
    circle_kept cell of new neither none = refl
    circle_kept cell of new a_primitive none = refl
    circle_kept cell of new (a_component {part = component} j) none =
        retold _ _ _ cell.place _
        (ap (λ n. leads_back (made_tree tree) part.name n (promote_component tree component j)) (many_parts tree 0 tree.components) ∙ leads_kept part.name (length tree.components) component j) none

    cell_kept : (cell : ast.PlainCell) → cell_breaks tree part cell ≡ [] → cell_breaks (made_tree tree) other cell ≡ []
    cell_kept cell none =
        let made = cell_of-made tree cell in
        let two = append_none _ _ none in
        let one = append_none _ _ two.0 in
        both_none _ _ (both_none _ _ (kind_told cell (cell_of tree cell) (cell_of (made_tree tree) cell) made one.0)
        (retold _ _ _ cell.place _ (ap (λ b. is_external cell && not (same_name part.name (codes "main") && b)) (narrow_kept (cell_of tree cell) (cell_of (made_tree tree) cell) made)) one.1))
        (circle_kept cell (cell_of tree cell) (cell_of (made_tree tree) cell) made two.1)

    groups_named : (gs : List ast.PlainGroup) → map (λ (g : ast.PlainGroup). named g.name g.place) (map (made_group tree part i) gs) ≡ map (λ (g : ast.PlainGroup). named g.name g.place) gs
    groups_named [] = refl
    groups_named (g ∷ gs) = ap₂ ◌∷◌ (by (length_of tree part i g)) (groups_named gs)
      where
        by : (o : Option ℕ) → named (promote_group (enables tree part i) o g).name (promote_group (enables tree part i) o g).place ≡ named g.name g.place
        by None = refl
        by (Some n) = refl

    twice_kept : component_duplicates other ≡ []
    twice_kept =
        let two = append_none _ _ own.twice in
        both_none _ _ two.0
        (ap (λ gs. duplicates [] (map (λ (g : ast.PlainGroup). named g.name g.place) gs)) (groups_in-made tree part i part.wires) ∙ ap (duplicates []) (groups_named (groups_in part.wires)) ∙ two.1)

    -- A COMPONENT
    pub component_kept_names : component_breaks (made_tree tree) other ≡ []
    component_kept_names =
        both_none _ _ (both_none _ _ (both_none _ _ (both_none _ _ (both_none _ _ (both_none _ _ (both_none _ _ own.primitive own.dynamic) twice_kept)
        (flat_is_none (port_breaks (made_tree tree) other true) part.inputs (λ port h. own.inputs port h)))
        (flat_is_none (port_breaks (made_tree tree) other false) part.outputs (λ port h. own.outputs port h)))
        (flat_is_none (cell_breaks (made_tree tree) other) part.cells (λ cell h. cell_kept cell (own.cells cell h))))
        (flat_is_none (assign_breaks (made_tree tree) other) (standing other) standing_kept))
        (flat_is_none (λ (v : Visited). form_breaks (made_tree tree) other v.form v.place) (statements_in other) statements_kept)

-- ALL NAMES
pub names_made : (tree : PlainTree) → names_break tree ≡ None → names_break (made_tree tree) ≡ None
names_made tree none =
    let all = kept tree none in
    let three = append_none _ _ (first_none (name_breaks tree) none) in
    let two = append_none _ _ three.0 in
    let one = append_none _ _ two.0 in
    ap first_break (both_none _ _ (both_none _ _ (both_none _ _
    (ap (λ names. tell_if (not (is_among (codes "main") names)) rules.NoMain (record { line = 1; column = 1 }) []) (component_names-made tree) ∙ one.0)
    one.1)
    (ap (duplicates []) (named_parts tree 0 tree.components) ∙ two.1))
    (flat_is_none (component_breaks (made_tree tree)) (made_tree tree).components (λ x here.
    let r = part_from tree 0 tree.components x here in
    subst (λ y. component_breaks (made_tree tree) y ≡ []) r.3 (component_kept_names tree r.0 r.1 (kept_part tree r.0 (all.parts r.0 r.2))))))
