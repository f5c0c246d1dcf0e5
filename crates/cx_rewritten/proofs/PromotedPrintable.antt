-- THE PROMOTED TREE is printable, where its tree is: a static seq needs a level more, and is made where one is left.
use Rattle.std.proofs.Common.{◌≡◌, ◌≤◌, ℕ, zero, suc, ◌-◌, ◌&&◌, nat_eq, nat_lt, Bool, true, false, List, [], ◌∷◌, ◌++◌, map, Option, Some, None, option_map, refl, subst, if◌then◌else◌, arith}
use Rattle.std.specs.List.{AllByRecursion}
use Rattle.std.proofs.lemmas.Bool.{ltb-true}
use Rattle.cx_text.proofs.BoolLaws.{and_right}
use Rattle.cx_ast.specs.declared.operands.OperandForm.{OperandForm}
use Rattle.cx_ast.specs.PlainStatements as statements
use Rattle.cx_ast.specs.PlainTree as ast
use Rattle.cx_meaning.specs.Instances.{Instance}
use Rattle.cx_rules.specs.Ports.{component_of}
use Rattle.cx_numbering.specs.DesignOf.{group_of, design_of}
use Rattle.cx_print.specs.Printable.{IfThere, IsControl, IsElse, IsStatement, AreStatements, IsBlock, IsAssign, IsGroup, IsWire, IsComponent, IsPrintable}
use Rattle.cx_promotion.specs.Rewriting.{PIECE, BELOW_CONTROL, is_hole_item, bare_enable, promote_assigns, promote_group, is_run, close, cut, cut_if, promote_form, promote_else, promote_all, promote_block, length_of, is_long, enables, promote_wire, promote_component, components_from, made_tree}
use Rattle.cx_rewritten.proofs.LineLemmas.{all_joined}
use Rattle.cx_rewritten.proofs.PromotedCycles.{Few, promotable_few}

-- GROUPS
module _ (enabling : OperandForm → Bool) where
  bare_printable : (a : ast.PlainAssign) → IsAssign a → IsAssign (bare_enable enabling a)
  bare_printable a h = by (enabling a.target.form)
    where
      by : (b : Bool) → IsAssign (if b then record a { guard = None } else a)
      by true = (h.0, h.1, tt, h.3)
      by false = h

  assigns_printable : (list : List ast.PlainAssign) → AllByRecursion IsAssign list → AllByRecursion IsAssign (promote_assigns enabling list)
  assigns_printable [] h = tt
  assigns_printable (a ∷ rest) h = by (is_hole_item a.target.form) (assigns_printable rest h.1)
    where
      by : (b : Bool) → AllByRecursion IsAssign (promote_assigns enabling rest) → AllByRecursion IsAssign (if b then promote_assigns enabling rest else bare_enable enabling a ∷ promote_assigns enabling rest)
      by true more = more
      by false more = (bare_printable a h.0, more)

  group_printable : (cycles : Option ℕ) (g : ast.PlainGroup) → Few cycles → IsGroup g → IsGroup (promote_group enabling cycles g)
  group_printable None g few h = h
  group_printable (Some n) g few h = (h.0, let short = few n refl in omega arith, h.2, h.3, assigns_printable g.assigns h.4)

-- CONTROL
module _ (long : List ℕ → Bool) where
  -- printable on every level
  abbrev Anywhere : statements.PlainStatement → Type 0
  Anywhere s = (n : ℕ) → IsStatement s n

  run_anywhere : (s : statements.PlainStatement) (n : ℕ) → is_run long s ≡ true → IsStatement s n → Anywhere s
  run_anywhere (statements.Placed attributes (statements.Enable group marks) place) n e h m = h
  run_anywhere (statements.Placed attributes (statements.Seq marks block) place) n e h m = absurd (cc)
  run_anywhere (statements.Placed attributes (statements.Par marks block) place) n e h m = absurd (cc)
  run_anywhere (statements.Placed attributes (statements.StaticSeq length marks block) place) n e h m = absurd (cc)
  run_anywhere (statements.Placed attributes (statements.StaticPar length marks block) place) n e h m = absurd (cc)
  run_anywhere (statements.Placed attributes (statements.If test comb body otherwise) place) n e h m = absurd (cc)
  run_anywhere (statements.Placed attributes (statements.StaticIf length test body otherwise) place) n e h m = absurd (cc)
  run_anywhere (statements.Placed attributes (statements.While test comb body) place) n e h m = absurd (cc)
  run_anywhere (statements.Placed attributes (statements.Repeat count body) place) n e h m = absurd (cc)
  run_anywhere (statements.Placed attributes (statements.StaticRepeat length count body) place) n e h m = absurd (cc)
  run_anywhere (statements.Placed attributes (statements.Invoke cell inputs outputs) place) n e h m = absurd (cc)
  run_anywhere (statements.Placed attributes (statements.StaticInvoke length cell inputs outputs) place) n e h m = absurd (cc)

  piece_printable : (piece : List statements.PlainStatement) → AllByRecursion Anywhere piece → (n : ℕ) → AreStatements (statements.statements_of piece) n
  piece_printable [] h n = tt
  piece_printable (s ∷ piece) h n = (h.0 n, piece_printable piece h.1 n)

  closed_printable : (n : ℕ) (piece : List statements.PlainStatement) (later : statements.PlainStatements) → AllByRecursion Anywhere piece → AreStatements later (suc n) → AreStatements (close long piece later) (suc n)
  closed_printable n [] later h k = k
  closed_printable n (s ∷ []) later h k = (h.0 (suc n), k)
  closed_printable n (s ∷ t ∷ rest) later h k = ((tt, (tt, tt, piece_printable (s ∷ t ∷ rest) h n)), k)

  abbrev Cuts : ℕ → List statements.PlainStatement → ℕ → statements.PlainStatements → Type 0
  Cuts n piece count ss = AllByRecursion Anywhere piece → AreStatements (cut long piece count ss) (suc n)

  -- a statement is cut: the piece is full, has room, or ends
  next_printable : (n : ℕ) (piece : List statements.PlainStatement) (count : ℕ) (s : statements.PlainStatement) (ss : statements.PlainStatements) → AllByRecursion Anywhere piece → IsStatement s (suc n)
      → Cuts n (s ∷ []) 1 ss → Cuts n (piece ++ s ∷ []) (suc count) ss → Cuts n [] 0 ss → (run full : Bool) → is_run long s ≡ run
      → AreStatements (if run then (if full then close long piece (cut long (s ∷ []) 1 ss) else cut long (piece ++ s ∷ []) (suc count) ss) else close long piece (statements.StatementThen s (cut long [] 0 ss))) (suc n)
  next_printable n piece count s ss h k begun grown other true true e = closed_printable n piece (cut long (s ∷ []) 1 ss) h (begun (run_anywhere s (suc n) e k, tt))
  next_printable n piece count s ss h k begun grown other true false e = grown (all_joined Anywhere piece (s ∷ []) h (run_anywhere s (suc n) e k, tt))
  next_printable n piece count s ss h k begun grown other false full e = closed_printable n piece (statements.StatementThen s (cut long [] 0 ss)) h (k, other tt)

  cut_printable : (n : ℕ) (piece : List statements.PlainStatement) (count : ℕ) (ss : statements.PlainStatements) → AreStatements ss (suc n) → Cuts n piece count ss
  cut_printable n piece count statements.NoStatements k h = closed_printable n piece statements.NoStatements h tt
  cut_printable n piece count (statements.StatementThen s ss) k h =
      next_printable n piece count s ss h k.0 (cut_printable n (s ∷ []) 1 ss k.1) (cut_printable n (piece ++ s ∷ []) (suc count) ss k.1) (cut_printable n [] 0 ss k.1) (is_run long s) (nat_eq count PIECE) refl

  -- runs are cut where a level is left
  cut_if_printable : (b : Bool) (n : ℕ) (ss : statements.PlainStatements) → (b ≡ true → 1 ≤ n) → AreStatements ss n → AreStatements (cut_if long b ss) n
  cut_if_printable true zero ss left h = absurd (let some = left refl in omega arith)
  cut_if_printable true (suc n) ss left h = cut_printable n [] 0 ss h tt
  cut_if_printable false n ss left h = h

  -- a block takes a level
  inside : (in_order : Bool) (block : statements.PlainBlock) → ((n : ℕ) → IsBlock block (suc n) → IsBlock (promote_block long n in_order block) (suc n)) → (below : ℕ) → IsBlock block below → IsBlock (promote_block long (below - 1) in_order block) below
  inside in_order (statements.Braces ss place) each zero h = absurd h
  inside in_order (statements.Braces ss place) each (suc n) h =
      let one_less : n ≡ suc n - 1 = omega arith in
      subst (λ m. IsBlock (promote_block long m in_order (statements.Braces ss place)) (suc n)) one_less (each n h)

  mutual
    form_printable : (below : ℕ) (form : statements.PlainForm) → IsControl form below → IsControl (promote_form long below form) below
    form_printable below (statements.Enable group marks) h = h
    form_printable below (statements.Seq marks block) h = (h.0, inside true block (λ n k. block_printable n true block k) below h.1)
    form_printable below (statements.Par marks block) h = (h.0, inside false block (λ n k. block_printable n false block k) below h.1)
    form_printable below (statements.StaticSeq length marks block) h = h
    form_printable below (statements.StaticPar length marks block) h = h
    form_printable below (statements.If test comb body otherwise) h =
        (h.0, h.1, inside true body (λ n k. block_printable n true body k) below h.2, else_printable below otherwise h.3)
    form_printable below (statements.StaticIf length test body otherwise) h = h
    form_printable below (statements.While test comb body) h = (h.0, h.1, inside true body (λ n k. block_printable n true body k) below h.2)
    form_printable below (statements.Repeat count body) h = (h.0, inside true body (λ n k. block_printable n true body k) below h.1)
    form_printable below (statements.StaticRepeat length count body) h = h
    form_printable below (statements.Invoke cell inputs outputs) h = h
    form_printable below (statements.StaticInvoke length cell inputs outputs) h = h

    else_printable : (below : ℕ) (otherwise : statements.PlainElse) → IsElse otherwise below → IsElse (promote_else long (below - 1) otherwise) below
    else_printable below statements.NoElse h = h
    else_printable below (statements.Else block) h = inside true block (λ n k. block_printable n true block k) below h

    all_printable : (below : ℕ) (ss : statements.PlainStatements) → AreStatements ss below → AreStatements (promote_all long below ss) below
    all_printable below statements.NoStatements h = h
    all_printable below (statements.StatementThen (statements.Placed attributes form place) ss) h = ((h.0.0, form_printable below form h.0.1), all_printable below ss h.1)

    block_printable : (below : ℕ) (in_order : Bool) (block : statements.PlainBlock) → IsBlock block (suc below) → IsBlock (promote_block long below in_order block) (suc below)
    block_printable below in_order (statements.Braces ss place) h =
        cut_if_printable (in_order && nat_lt 0 below) below (promote_all long below ss) (λ e. let some = ltb-true 0 below (and_right in_order (nat_lt 0 below) e) in omega arith) (all_printable below ss h)

  control_printable : (control : Option statements.PlainBlock) → IfThere (λ block. IsBlock block 64) control → IfThere (λ block. IsBlock block 64) (option_map (promote_block long BELOW_CONTROL true) control)
  control_printable None h = h
  control_printable (Some block) h = block_printable BELOW_CONTROL true block h

-- A COMPONENT
module _ (tree : ast.PlainTree) (part : ast.PlainComponent) (k : ℕ) where
  abbrev i : Instance
  i = component_of (design_of tree) k

  wires_printable : (ws : List ast.PlainWire) → AllByRecursion IsWire ws → AllByRecursion IsWire (map (promote_wire tree part i) ws)
  wires_printable [] h = tt
  wires_printable (ast.Group g ∷ ws) h = (group_printable (enables tree part i) (length_of tree part i g) g (promotable_few (design_of tree) k (group_of tree part g)) h.0, wires_printable ws h.1)
  wires_printable (ast.Assign a ∷ ws) h = (h.0, wires_printable ws h.1)

  component_printable : IsComponent part → IsComponent (promote_component tree part i)
  component_printable h = record {
    attributes = h.attributes;
    length = h.length;
    name = h.name;
    marks = h.marks;
    inputs = h.inputs;
    outputs = h.outputs;
    cells = h.cells;
    wires = wires_printable part.wires h.wires;
    control = control_printable (is_long tree part i) part.control h.control;
  }

-- ALL OF THEM
components_printable : (tree : ast.PlainTree) (k : ℕ) (parts : List ast.PlainComponent) → AllByRecursion IsComponent parts → AllByRecursion IsComponent (components_from tree k parts)
components_printable tree k [] h = tt
components_printable tree k (part ∷ parts) h = (component_printable tree part k h.0, components_printable tree (suc k) parts h.1)

pub made_printable : (tree : ast.PlainTree) → IsPrintable tree → IsPrintable (made_tree tree)
made_printable tree h = record {
  imports = h.imports;
  some = λ e. h.some (none 0 tree.components e);
  components = components_printable tree 0 tree.components h.components;
}
  where
    none : (k : ℕ) (parts : List ast.PlainComponent) → components_from tree k parts ≡ [] → parts ≡ []
    none k [] e = refl
    none k (part ∷ parts) e = absurd (cc)
