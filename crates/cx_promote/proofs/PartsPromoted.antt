-- PARTS OF THE PROMOTED TREE: its cells, signatures and names stay, so each operand is the same port; groups stay, or are promoted.
use Rattle.std.proofs.Common.{◌≡◌, ℕ, suc, ◌+◌, inl, inr, Bool, true, false, List, [], ◌∷◌, ◌++◌, Option, Some, None, length, map, flat_map, codes, refl, sym, ap, ap₂, ◌∙◌}
use Rattle.std.specs.Prelude.{◌||◌, is_some, if◌then◌else◌}
use Rattle.cx_text.specs.declared.places.Place.{Place}
use Rattle.cx_prim.specs.declared.names.PrimitiveName.{PrimitiveName}
use Rattle.cx_prim.specs.Table.{PrimitiveRow}
use Rattle.cx_ast.specs.declared.operands.OperandItem.{OperandItem}
use Rattle.cx_ast.specs.declared.operands.OperandForm.{OperandForm}
use Rattle.cx_ast.specs.declared.operands.OperandForm.TheVariants as operands
use Rattle.cx_ast.specs.declared.wiring.GroupWord.{GroupWord}
use Rattle.cx_ast.specs.declared.wiring.GroupWord.TheVariants as words
use Rattle.cx_ast.specs.declared.guards.Comparison.{Comparison}
use Rattle.cx_ast.specs.declared.guards.Comparison.TheVariants as written
use Rattle.cx_ast.specs.declared.statements.BindItem.{BindItem}
use Rattle.cx_ast.specs.PlainTree as ast
use Rattle.cx_ast.specs.PlainTree.{PlainTree}
use Rattle.cx_ast.specs.PlainGuards as guards
use Rattle.cx_meaning.specs.declared.ports.PortRef.{PortRef}
use Rattle.cx_meaning.specs.declared.ports.PortRef.TheVariants as ports
use Rattle.cx_meaning.specs.declared.ports.PlacedPort.{PlacedPort}
use Rattle.cx_meaning.specs.declared.kinds.GroupKind.TheVariants as kinds
use Rattle.cx_meaning.specs.Designs.{PlainGuard, Always, Atom, Negation, All, Any, Compared, a_guard, guards_of, PlainAssign, PlainInvoke, PlainGroup, OfComponent}
use Rattle.cx_meaning.specs.Instances.{Instance}
use Rattle.cx_rules.specs.Ports.{is_primitive_enable}
use Rattle.cx_rules.specs.Ports as rules
use Rattle.cx_rules.specs.ShapeRules.{is_hole}
use Rattle.cx_numbering.specs.Names.{same_name, number_of, is_external, cell_names, component_names, port_names, groups_in, always_in, group_names, component_among, cell_among, CellOf, Neither, APrimitive, AComponent, or_component, primitive_or, cell_of, cell_port_names, found_cell_ports, latency_of, found_latency, cell_go, primitive_of}
use Rattle.cx_numbering.specs.DesignOf.{number_or_0, Invoke, Next, own_port, cell_port, port_of, placed_of, comparison_of, guard_of, guards_in, guard_or_always, assign_of, kind_of, group_of, go_port, found_go, at, input_assign, go_guard, go_assign, register_of, capture_assigns, register_done, done_assign, invoke_group, invoke_latency, is_static_invoke, static_capture, capture_count, after_static, after, past, captures_number, plain_invoke_of, captures_for, groups_for, invoke_groups, static_for, static_invokes, first, kind_or, plain_cell_of, design_of}
use Rattle.cx_promotion.specs.Promotable.{promoted_assigns, promoted_group}
use Rattle.cx_promotion.specs.Made.{GroupMade, GroupsMade, a_group}
use Rattle.cx_promotion.specs.Rewriting.{is_hole_item, bare_enable, promote_assigns, promote_group, length_of, enables, promote_wire, promote_component, components_from, made_tree}
use Rattle.cx_numbering.proofs.DesignOfLemmas.{assign_is}

module _ (tree : PlainTree) where
  -- COMPONENTS keep their names, their signatures and their order
  names_from : (k : ℕ) (parts : List ast.PlainComponent) → map (λ part. part.name) (components_from tree k parts) ≡ map (λ part. part.name) parts
  names_from k [] = refl
  names_from k (part ∷ parts) = ap (λ z. part.name ∷ z) (names_from (suc k) parts)

  pub component_names-made : component_names (made_tree tree) ≡ component_names tree
  component_names-made = names_from 0 tree.components

  -- WHAT A CELL IS OF
  pub data MadeKind : CellOf → CellOf → Type 0 where
    neither : MadeKind Neither Neither
    a_primitive : {p : PrimitiveRow} → MadeKind (APrimitive p) (APrimitive p)
    a_component : {part : ast.PlainComponent} (i : Instance) → MadeKind (AComponent part) (AComponent (promote_component tree part i))

  found_made : (name : List ℕ) (k : ℕ) (parts : List ast.PlainComponent) → MadeKind (or_component (component_among name parts)) (or_component (component_among name (components_from tree k parts)))
  found_made name k [] = neither
  found_made name k (part ∷ parts) = by (same_name part.name name) (found_made name (suc k) parts)
    where
      by : (b : Bool) → MadeKind (or_component (component_among name parts)) (or_component (component_among name (components_from tree (suc k) parts)))
          → MadeKind (or_component (if b then Some part else component_among name parts))
          (or_component (if b then Some (promote_component tree part (rules.component_of (design_of tree) k)) else component_among name (components_from tree (suc k) parts)))
      by true h = a_component (rules.component_of (design_of tree) k)
      by false h = h

  pub cell_of-made : (cell : ast.PlainCell) → MadeKind (cell_of tree cell) (cell_of (made_tree tree) cell)
  cell_of-made cell = by (primitive_of cell.kind)
    where
      by : (o : Option PrimitiveName) → MadeKind (primitive_or o cell.numbers (component_among cell.kind tree.components)) (primitive_or o cell.numbers (component_among cell.kind (components_from tree 0 tree.components)))
      by (Some name) = a_primitive
      by None = found_made cell.kind 0 tree.components

  ports_of : (of other : CellOf) → MadeKind of other → cell_port_names other ≡ cell_port_names of
  ports_of of other neither = refl
  ports_of of other a_primitive = refl
  ports_of of other (a_component i) = refl

  pub go_of : (of other : CellOf) → MadeKind of other → cell_go other ≡ cell_go of
  go_of of other neither = refl
  go_of of other a_primitive = refl
  go_of of other (a_component i) = refl

  latency_made : (of other : CellOf) → MadeKind of other → latency_of other ≡ latency_of of
  latency_made of other neither = refl
  latency_made of other a_primitive = refl
  latency_made of other (a_component i) = refl

  pub latency-made : (o : Option ast.PlainCell) → found_latency (made_tree tree) o ≡ found_latency tree o
  latency-made None = refl
  latency-made (Some cell) = latency_made (cell_of tree cell) (cell_of (made_tree tree) cell) (cell_of-made cell)

  pub ports-made : (o : Option ast.PlainCell) → found_cell_ports (made_tree tree) o ≡ found_cell_ports tree o
  ports-made None = refl
  ports-made (Some cell) = ports_of (cell_of tree cell) (cell_of (made_tree tree) cell) (cell_of-made cell)

  module _ (part : ast.PlainComponent) (i : Instance) where
    abbrev pub twin : ast.PlainComponent
    twin = promote_component tree part i

    abbrev pub made_group : ast.PlainGroup → ast.PlainGroup
    made_group g = promote_group (enables tree part i) (length_of tree part i g) g

    -- CELLS
    kind_made : (of other : CellOf) → MadeKind of other → kind_or (made_tree tree) twin other ≡ kind_or tree part of
    kind_made of other neither = refl
    kind_made of other a_primitive = refl
    kind_made of other (a_component {part = component} i) = ap (λ names. OfComponent (number_or_0 component.name names)) component_names-made

    pub cells-made : (cells : List ast.PlainCell) → map (plain_cell_of (made_tree tree) twin) cells ≡ map (plain_cell_of tree part) cells
    cells-made [] = refl
    cells-made (cell ∷ cells) =
        ap₂ ◌∷◌ (ap (λ kind. record { name = cell.name; kind = kind; external = is_external cell; place = cell.place }) (kind_made (cell_of tree cell) (cell_of (made_tree tree) cell) (cell_of-made cell)))
        (cells-made cells)

    -- GROUPS keep their names and their order
    pub groups_in-made : (wires : List ast.PlainWire) → groups_in (map (promote_wire tree part i) wires) ≡ map made_group (groups_in wires)
    groups_in-made [] = refl
    groups_in-made (ast.Group g ∷ rest) = ap (λ z. made_group g ∷ z) (groups_in-made rest)
    groups_in-made (ast.Assign a ∷ rest) = groups_in-made rest

    pub always_in-made : (wires : List ast.PlainWire) → always_in (map (promote_wire tree part i) wires) ≡ always_in wires
    always_in-made [] = refl
    always_in-made (ast.Group g ∷ rest) = always_in-made rest
    always_in-made (ast.Assign a ∷ rest) = ap (λ z. a ∷ z) (always_in-made rest)

    pub name_made : (g : ast.PlainGroup) → (made_group g).name ≡ g.name
    name_made g = by (length_of tree part i g)
      where
        by : (o : Option ℕ) → (promote_group (enables tree part i) o g).name ≡ g.name
        by None = refl
        by (Some n) = refl

    names_made : (gs : List ast.PlainGroup) → map (λ (g : ast.PlainGroup). g.name) (map made_group gs) ≡ map (λ (g : ast.PlainGroup). g.name) gs
    names_made [] = refl
    names_made (g ∷ gs) = ap₂ ◌∷◌ (name_made g) (names_made gs)

    pub group_names-made : group_names twin ≡ group_names part
    group_names-made = ap (map (λ (g : ast.PlainGroup). g.name)) (groups_in-made part.wires) ∙ names_made (groups_in part.wires)

    -- PORTS
    pub cell_port-made : (cell port : List ℕ) → cell_port (made_tree tree) twin cell port ≡ cell_port tree part cell port
    cell_port-made cell port = ap (λ names. ports.Cell (number_or_0 cell (cell_names part)) (number_or_0 port names)) (ports-made (cell_among cell part.cells))

    pub port-made : (form : OperandForm) → port_of (made_tree tree) twin form ≡ port_of tree part form
    port-made (operands.Own name) = refl
    port-made (operands.Port cell port) = cell_port-made cell port
    port-made (operands.Hole group hole) = ap (λ names. ports.Done (number_or_0 group names)) group_names-made
    port-made (operands.Literal width value) = refl

    pub placed-made : (o : OperandItem) → placed_of (made_tree tree) twin o ≡ placed_of tree part o
    placed-made o = ap (λ p. record { port = p; place = o.place }) (port-made o.form)

    -- GUARDS
    comparison-made : (c : Comparison) → comparison_of (made_tree tree) twin c ≡ comparison_of tree part c
    comparison-made written.Equal = refl
    comparison-made written.NotEqual = refl
    comparison-made written.Less = refl
    comparison-made written.Greater = refl
    comparison-made written.LessEqual = refl
    comparison-made written.GreaterEqual = refl

    mutual
      guard-made : (g : guards.PlainGuard) → guard_of (made_tree tree) twin g ≡ guard_of tree part g
      guard-made (guards.Or gs) = ap Any (guards-made gs)
      guard-made (guards.And gs) = ap All (guards-made gs)
      guard-made (guards.Compare c left right) =
          ap (λ x. Compared x (placed_of (made_tree tree) twin left) (placed_of (made_tree tree) twin right)) (comparison-made c)
          ∙ ap₂ (Compared (comparison_of tree part c)) (placed-made left) (placed-made right)
      guard-made (guards.Not g) = ap Negation (guard-made g)
      guard-made (guards.Operand o) = ap Atom (placed-made o)
      guard-made (guards.At n) = refl
      guard-made (guards.During from to) = refl

      guards-made : (gs : guards.PlainGuards) → guards_in (made_tree tree) twin gs ≡ guards_in tree part gs
      guards-made guards.NoGuards = refl
      guards-made (guards.GuardThen g gs) = ap₂ a_guard (guard-made g) (guards-made gs)

    option-made : (o : Option guards.PlainGuard) → guard_or_always (made_tree tree) twin o ≡ guard_or_always tree part o
    option-made None = refl
    option-made (Some g) = guard-made g

    -- ASSIGNMENTS
    assign-made : (a : ast.PlainAssign) → assign_of (made_tree tree) twin a ≡ assign_of tree part a
    assign-made a = assign_is _ _ _ _ _ _ a.place (port-made a.target.form) (option-made a.guard) (placed-made a.source)

    pub assigns-made : (list : List ast.PlainAssign) → map (assign_of (made_tree tree) twin) list ≡ map (assign_of tree part) list
    assigns-made [] = refl
    assigns-made (a ∷ rest) = ap₂ ◌∷◌ (assign-made a) (assigns-made rest)

    -- A GROUP stays
    word-made : (word : GroupWord) → kind_of (made_tree tree) twin word ≡ kind_of tree part word
    word-made words.Plain = refl
    word-made words.Comb = refl
    word-made (words.Timed n) = refl

    pub group-made : (g : ast.PlainGroup) → group_of (made_tree tree) twin g ≡ group_of tree part g
    group-made g = ap₂ (λ kind assigns. record { name = g.name; kind = kind; assigns = assigns; place = g.place }) (word-made g.kind) (assigns-made g.assigns)

    -- or is promoted: its assignments are those of the group as a static one
    hole_same : (form : OperandForm) → is_hole (port_of tree part form) ≡ is_hole_item form
    hole_same (operands.Own name) = by (number_of name (port_names part.inputs))
      where
        by : (o : Option ℕ) → is_hole (own_port o (number_or_0 name (port_names part.outputs))) ≡ false
        by None = refl
        by (Some n) = refl
    hole_same (operands.Port cell port) = refl
    hole_same (operands.Hole group hole) = refl
    hole_same (operands.Literal width value) = refl

    bare-made : (a : ast.PlainAssign) (b : Bool) → assign_of (made_tree tree) twin (if b then record a { guard = None } else a)
        ≡ (if b then record (assign_of tree part a) { guard = Always } else assign_of tree part a)
    bare-made a true = assign_is _ _ Always Always _ _ a.place (port-made a.target.form) refl (placed-made a.source)
    bare-made a false = assign-made a

    abbrev bared : ast.PlainAssign → PlainAssign
    bared a = if is_primitive_enable i (port_of tree part a.target.form) then record (assign_of tree part a) { guard = Always } else assign_of tree part a

    static_assigns-made : (list : List ast.PlainAssign) → map (assign_of (made_tree tree) twin) (promote_assigns (enables tree part i) list) ≡ promoted_assigns i (map (assign_of tree part) list)
    static_assigns-made [] = refl
    static_assigns-made (a ∷ rest) =
        by (is_hole_item a.target.form) (static_assigns-made rest)
        ∙ ap (λ hole. if hole then promoted_assigns i (map (assign_of tree part) rest) else bared a ∷ promoted_assigns i (map (assign_of tree part) rest)) (sym (hole_same a.target.form))
      where
        by : (hole : Bool) → map (assign_of (made_tree tree) twin) (promote_assigns (enables tree part i) rest) ≡ promoted_assigns i (map (assign_of tree part) rest)
            → map (assign_of (made_tree tree) twin) (if hole then promote_assigns (enables tree part i) rest else bare_enable (enables tree part i) a ∷ promote_assigns (enables tree part i) rest)
            ≡ (if hole then promoted_assigns i (map (assign_of tree part) rest) else bared a ∷ promoted_assigns i (map (assign_of tree part) rest))
        by true h = h
        by false h = ap₂ ◌∷◌ (bare-made a (enables tree part i a.target.form)) h

    pub long-made : (g : ast.PlainGroup) (n : ℕ) → length_of tree part i g ≡ Some n → group_of (made_tree tree) twin (made_group g) ≡ promoted_group i n (group_of tree part g)
    long-made g n e =
        ap (λ o. group_of (made_tree tree) twin (promote_group (enables tree part i) o g)) e
        ∙ ap (λ assigns. record { name = g.name; kind = kinds.Timed n; assigns = assigns; place = g.place }) (static_assigns-made g.assigns)

    one_made : (g : ast.PlainGroup) → GroupMade i (group_of tree part g) (group_of (made_tree tree) twin (made_group g))
    one_made g = by (length_of tree part i g) refl
      where
        by : (o : Option ℕ) → length_of tree part i g ≡ o → GroupMade i (group_of tree part g) (group_of (made_tree tree) twin (made_group g))
        by None e = inl (ap (λ o. group_of (made_tree tree) twin (promote_group (enables tree part i) o g)) e ∙ group-made g)
        by (Some n) e = inr (n, e, long-made g n e)

    pub groups-made : (gs : List ast.PlainGroup) (rest more : List PlainGroup) → GroupsMade i rest more
        → GroupsMade i (map (group_of tree part) gs ++ rest) (map (group_of (made_tree tree) twin) (map made_group gs) ++ more)
    groups-made [] rest more h = h
    groups-made (g ∷ gs) rest more h = a_group (one_made g) (groups-made gs rest more h)

    -- INVOKES stay
    module _ (k : Invoke) where
      placed_here : (place : Place) (cell port : List ℕ) → at (made_tree tree) twin place (cell_port (made_tree tree) twin cell port) ≡ at tree part place (cell_port tree part cell port)
      placed_here place cell port = ap (λ p. record { port = p; place = place }) (cell_port-made cell port)

      inputs-made : (list : List BindItem) → map (input_assign (made_tree tree) twin k) list ≡ map (input_assign tree part k) list
      inputs-made [] = refl
      inputs-made (b ∷ rest) = ap₂ ◌∷◌ (assign_is _ _ Always Always _ _ k.place (cell_port-made k.cell b.name) refl (placed-made b.value)) (inputs-made rest)

      go-made : (o : Option ast.PlainCell) → found_go (made_tree tree) twin o ≡ found_go tree part o
      go-made None = refl
      go-made (Some cell) = go_of (cell_of tree cell) (cell_of (made_tree tree) cell) (cell_of-made cell)

      go_port-made : (o : Option (List ℕ)) → go_port (made_tree tree) twin o k.cell ≡ go_port tree part o k.cell
      go_port-made None = cell_port-made k.cell []
      go_port-made (Some name) = cell_port-made k.cell name

      go_guard-made : (outputs : List BindItem) → go_guard (made_tree tree) twin k outputs ≡ go_guard tree part k outputs
      go_guard-made [] = refl
      go_guard-made (b ∷ rest) = ap (λ p. Negation (Atom p)) (placed_here k.place k.cell (codes "done"))

      go_assign-made : go_assign (made_tree tree) twin k ≡ go_assign tree part k
      go_assign-made =
          assign_is _ _ _ _ _ _ k.place (ap (λ o. go_port (made_tree tree) twin o k.cell) (go-made (cell_among k.cell part.cells)) ∙ go_port-made (found_go tree part (cell_among k.cell part.cells)))
          (go_guard-made k.outputs) refl

      register-made : (b : BindItem) → register_of (made_tree tree) twin b ≡ register_of tree part b
      register-made b = by b.name b.value.form b.value.place b.place
        where
          by : (name : List ℕ) (form : OperandForm) (place other : Place) → register_of (made_tree tree) twin (record { name = name; value = record { form = form; place = place }; place = other })
              ≡ register_of tree part (record { name = name; value = record { form = form; place = place }; place = other })
          by name (operands.Own own) place other = refl
          by name (operands.Port cell own) place other = refl
          by name (operands.Hole group hole) place other = refl
          by name (operands.Literal width value) place other = refl

      register_port-made : (b : BindItem) (port : List ℕ) → cell_port (made_tree tree) twin (register_of (made_tree tree) twin b) port ≡ cell_port tree part (register_of tree part b) port
      register_port-made b port = ap (λ name. cell_port (made_tree tree) twin name port) (register-made b) ∙ cell_port-made (register_of tree part b) port

      captures-made : (list : List BindItem) → flat_map (capture_assigns (made_tree tree) twin k) list ≡ flat_map (capture_assigns tree part k) list
      captures-made [] = refl
      captures-made (b ∷ rest) =
          ap₂ ◌∷◌ (assign_is _ _ Always Always _ _ k.place (port-made b.value.form) refl (placed_here b.place k.cell b.name))
          (ap₂ ◌∷◌ (assign_is _ _ Always Always _ _ k.place (register_port-made b (codes "write_en")) refl (placed_here k.place k.cell (codes "done")))
          (captures-made rest))

      done_here : (b : BindItem) → register_done (made_tree tree) twin k b ≡ register_done tree part k b
      done_here b = ap (λ p. record { port = p; place = k.place }) (register_port-made b (codes "done"))

      dones-made : (list : List BindItem) → guards_of (map (λ b. Atom (register_done (made_tree tree) twin k b)) list) ≡ guards_of (map (λ b. Atom (register_done tree part k b)) list)
      dones-made [] = refl
      dones-made (b ∷ rest) = ap₂ (λ p gs. a_guard (Atom p) gs) (done_here b) (dones-made rest)

      done_assign-made : (g : ℕ) (list : List BindItem) → done_assign (made_tree tree) twin k g list ≡ done_assign tree part k g list
      done_assign-made g [] = assign_is _ _ Always Always _ _ k.place refl refl (placed_here k.place k.cell (codes "done"))
      done_assign-made g (b ∷ []) = assign_is _ _ Always Always _ _ k.place refl refl (done_here b)
      done_assign-made g (b ∷ c ∷ rest) = assign_is _ _ _ _ _ _ k.place refl (ap All (dones-made (b ∷ c ∷ rest))) refl

      invoke_group-made : (g : ℕ) → invoke_group (made_tree tree) twin g k ≡ invoke_group tree part g k
      invoke_group-made g = ap (λ list. record { name = []; kind = kinds.Plain; assigns = list; place = k.place })
          (ap₂ ◌++◌ (inputs-made k.inputs) (ap₂ ◌∷◌ go_assign-made (ap₂ ◌++◌ (captures-made k.outputs) (ap (λ a. a ∷ []) (done_assign-made g k.outputs)))))

      -- a static one captures the same
      static_captures-made : (list : List BindItem) → flat_map (static_capture (made_tree tree) twin k) list ≡ flat_map (static_capture tree part k) list
      static_captures-made [] = refl
      static_captures-made (b ∷ rest) =
          ap₂ ◌∷◌ (assign_is _ _ Always Always _ _ k.place (port-made b.value.form) refl (placed_here b.place k.cell b.name))
          (ap₂ ◌∷◌ (assign_is _ _ Always Always _ _ k.place (register_port-made b (codes "write_en")) refl refl) (static_captures-made rest))

      captures_for-made : (list : List BindItem) → captures_for (made_tree tree) twin k list ≡ captures_for tree part k list
      captures_for-made [] = refl
      captures_for-made (b ∷ rest) = ap (λ list. record { name = []; kind = kinds.Timed 1; assigns = list; place = k.place } ∷ []) (static_captures-made k.outputs)

      groups_for-made : (static : Bool) (n : Next) → groups_for (made_tree tree) twin static n k ≡ groups_for tree part static n k
      groups_for-made true n = captures_for-made k.outputs
      groups_for-made false n = ap (λ g. g ∷ []) (invoke_group-made n.group)

      captures_number-made : (g : ℕ) (list : List BindItem) → captures_number (made_tree tree) twin g list ≡ captures_number tree part g list
      captures_number-made g [] = refl
      captures_number-made g (b ∷ rest) = refl

      latency_is : invoke_latency (made_tree tree) twin k ≡ invoke_latency tree part k
      latency_is = latency-made (cell_among k.cell part.cells)

      abbrev an_invoke : Option ℕ → List PlainAssign → Option ℕ → PlainInvoke
      an_invoke latency inputs captures =
          record { cell = number_or_0 k.cell (cell_names part); written = k.written; length = k.length; latency = latency; inputs = inputs; captures = captures }

      plain_invoke-made : (n : Next) → plain_invoke_of (made_tree tree) twin n k ≡ plain_invoke_of tree part n k
      plain_invoke-made n = ap₂ (λ f x. f x) (ap₂ an_invoke latency_is (inputs-made k.inputs)) (captures_number-made n.group k.outputs)

      static_for-made : (static : Bool) (n : Next) → static_for (made_tree tree) twin static n k ≡ static_for tree part static n k
      static_for-made true n = ap (λ v. v ∷ []) (plain_invoke-made n)
      static_for-made false n = refl

    -- NUMBERS of invokes and of their groups stay
    pub static-made : (k : Invoke) → is_static_invoke (made_tree tree) twin k ≡ is_static_invoke tree part k
    static-made k = ap (λ latency. k.written || is_some latency) (latency_is k)

    count-made : (list : List BindItem) → capture_count (made_tree tree) twin list ≡ capture_count tree part list
    count-made [] = refl
    count-made (b ∷ rest) = refl

    after_static-made : (static : Bool) (n : Next) (list : List BindItem) → after_static (made_tree tree) twin static n list ≡ after_static tree part static n list
    after_static-made true n list = ap (λ (count : ℕ). record { group = n.group + count; invoke = suc n.invoke }) (count-made list)
    after_static-made false n list = refl

    after-made : (n : Next) (k : Invoke) → after (made_tree tree) twin n k ≡ after tree part n k
    after-made n k = ap (λ static. after_static (made_tree tree) twin static n k.outputs) (static-made k) ∙ after_static-made (is_static_invoke tree part k) n k.outputs

    pub past-made : (n : Next) (list : List Invoke) → past (made_tree tree) twin n list ≡ past tree part n list
    past-made n [] = refl
    past-made n (k ∷ rest) = ap (λ m. past (made_tree tree) twin m rest) (after-made n k) ∙ past-made (after tree part n k) rest

    pub first-made : first (made_tree tree) twin ≡ first tree part
    first-made = ap (λ (names : List (List ℕ)). record { group = length names; invoke = 0 }) group_names-made

    pub invoke_groups-made : (n : Next) (list : List Invoke) → invoke_groups (made_tree tree) twin n list ≡ invoke_groups tree part n list
    invoke_groups-made n [] = refl
    invoke_groups-made n (k ∷ rest) =
        ap₂ ◌++◌ (ap (λ static. groups_for (made_tree tree) twin static n k) (static-made k) ∙ groups_for-made k (is_static_invoke tree part k) n)
        (ap (λ m. invoke_groups (made_tree tree) twin m rest) (after-made n k) ∙ invoke_groups-made (after tree part n k) rest)

    pub static_invokes-made : (n : Next) (list : List Invoke) → static_invokes (made_tree tree) twin n list ≡ static_invokes tree part n list
    static_invokes-made n [] = refl
    static_invokes-made n (k ∷ rest) =
        ap₂ ◌++◌ (ap (λ static. static_for (made_tree tree) twin static n k) (static-made k) ∙ static_for-made k (is_static_invoke tree part k) n)
        (ap (λ m. static_invokes (made_tree tree) twin m rest) (after-made n k) ∙ static_invokes-made (after tree part n k) rest)
