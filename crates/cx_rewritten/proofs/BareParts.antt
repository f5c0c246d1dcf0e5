-- PORTS, GUARDS, ASSIGNMENTS AND GROUPS of the design of a tree without places: those of the tree's design, all at one place.
use Rattle.std.proofs.Common.{◌≡◌, ℕ, suc, ◌+◌, Bool, true, false, ◌||◌, is_some, List, [], ◌∷◌, ◌++◌, Option, Some, None, codes, map, flat_map, option_map, refl, sym, ap, ap₂, ◌∙◌}
use Rattle.std.proofs.lemmas.List.{map-append}
use Rattle.cx_text.specs.declared.places.Place.{Place}
use Rattle.cx_text.specs.Places.{start}
use Rattle.cx_ast.specs.declared.operands.OperandItem.{OperandItem}
use Rattle.cx_ast.specs.declared.operands.OperandForm.{OperandForm}
use Rattle.cx_ast.specs.declared.operands.OperandForm.TheVariants as operands
use Rattle.cx_ast.specs.declared.wiring.GroupWord.{GroupWord}
use Rattle.cx_ast.specs.declared.wiring.GroupWord.TheVariants as words
use Rattle.cx_ast.specs.declared.guards.Comparison.{Comparison}
use Rattle.cx_ast.specs.declared.guards.Comparison.TheVariants as written
use Rattle.cx_ast.specs.declared.statements.BindItem.{BindItem}
use Rattle.cx_ast.specs.PlainTree as ast
use Rattle.cx_ast.specs.PlainGuards as guards
use Rattle.cx_print.specs.Places.{bare_operand, bare_bind, bare_guard, bare_guards, bare_cell, bare_assign, bare_group, bare_component, without_places}
use Rattle.cx_meaning.specs.declared.ports.PortRef.{PortRef}
use Rattle.cx_meaning.specs.declared.ports.PortRef.TheVariants as ports
use Rattle.cx_meaning.specs.Designs.{PlainGuard, Atom, Negation, All, Any, a_guard, guards_of}
use Rattle.cx_numbering.specs.Names.{number_of, port_names, cell_names, cell_among, cell_of, found_cell_ports, cell_go}
use Rattle.cx_numbering.specs.DesignOf.{number_or_0, Invoke, Next, own_port, cell_port, port_of, placed_of, comparison_of, guard_of, guards_in, guard_or_always, assign_of, kind_of, group_of, go_port, found_go, at, input_assign, go_guard, go_assign, register_of, capture_assigns, register_done, done_assign, invoke_group, is_static_invoke, static_capture, capture_group, capture_count, after_static, after, past, captures_number, plain_invoke_of, captures_for, groups_for, invoke_groups, static_for, static_invokes}
use Rattle.cx_rewrites.specs.Places.{unplaced_port, unplaced_guard, unplaced_guards, unplaced_assign, unplaced_group, unplaced_invoke}
use Rattle.cx_rewritten.proofs.BareNames.{both_ways, each_way, port_names-bare, cell_names-bare, cell_among-bare, group_names-bare, found_cell_ports-bare, found_latency-bare, cell_of-bare, cell_go-bare}

-- an invoke without places
abbrev pub bare_invoke : Invoke → Invoke
bare_invoke k = record { cell = k.cell; written = k.written; length = k.length; inputs = map bare_bind k.inputs; outputs = map bare_bind k.outputs; place = start }

unplaced_guards-guards_of : (gs : List PlainGuard) → unplaced_guards (guards_of gs) ≡ guards_of (map unplaced_guard gs)
unplaced_guards-guards_of [] = refl
unplaced_guards-guards_of (g ∷ gs) = ap (a_guard (unplaced_guard g)) (unplaced_guards-guards_of gs)

module _ (tree : ast.PlainTree) (part : ast.PlainComponent) where
  -- PORTS
  pub cell_port-bare : (cell port : List ℕ) → cell_port (without_places tree) (bare_component part) cell port ≡ cell_port tree part cell port
  cell_port-bare cell port =
      ap (λ names. ports.Cell (number_or_0 cell names) (number_or_0 port (found_cell_ports (without_places tree) (cell_among cell (map bare_cell part.cells))))) (cell_names-bare part)
      ∙ ap (λ names. ports.Cell (number_or_0 cell (cell_names part)) (number_or_0 port names)) (found_cell_ports-bare tree cell part.cells)

  pub port_of-bare : (o : OperandForm) → port_of (without_places tree) (bare_component part) o ≡ port_of tree part o
  port_of-bare (operands.Own name) =
      ap (λ names. own_port (number_of name names) (number_or_0 name (port_names (bare_component part).outputs))) (port_names-bare part.inputs)
      ∙ ap (λ names. own_port (number_of name (port_names part.inputs)) (number_or_0 name names)) (port_names-bare part.outputs)
  port_of-bare (operands.Port cell port) = cell_port-bare cell port
  port_of-bare (operands.Hole group hole) = ap (λ names. ports.Done (number_or_0 group names)) (group_names-bare part)
  port_of-bare (operands.Literal width value) = refl

  pub placed_of-bare : (o : OperandItem) → unplaced_port (placed_of tree part o) ≡ placed_of (without_places tree) (bare_component part) (bare_operand o)
  placed_of-bare o = ap (λ (p : PortRef). record { port = p; place = start }) (sym (port_of-bare o.form))

  -- GUARDS
  comparison_of-bare : (c : Comparison) → comparison_of tree part c ≡ comparison_of (without_places tree) (bare_component part) c
  comparison_of-bare written.Equal = refl
  comparison_of-bare written.NotEqual = refl
  comparison_of-bare written.Less = refl
  comparison_of-bare written.Greater = refl
  comparison_of-bare written.LessEqual = refl
  comparison_of-bare written.GreaterEqual = refl

  mutual
    pub guard_of-bare : (g : guards.PlainGuard) → unplaced_guard (guard_of tree part g) ≡ guard_of (without_places tree) (bare_component part) (bare_guard g)
    guard_of-bare (guards.Or gs) = ap Any (guards_in-bare gs)
    guard_of-bare (guards.And gs) = ap All (guards_in-bare gs)
    guard_of-bare (guards.Compare c left right) = cc (comparison_of-bare c, placed_of-bare left, placed_of-bare right)
    guard_of-bare (guards.Not g) = ap Negation (guard_of-bare g)
    guard_of-bare (guards.Operand o) = ap Atom (placed_of-bare o)
    guard_of-bare (guards.At n) = refl
    guard_of-bare (guards.During from to) = refl

    guards_in-bare : (gs : guards.PlainGuards) → unplaced_guards (guards_in tree part gs) ≡ guards_in (without_places tree) (bare_component part) (bare_guards gs)
    guards_in-bare guards.NoGuards = refl
    guards_in-bare (guards.GuardThen g gs) = cc (guard_of-bare g, guards_in-bare gs)

  guard_or_always-bare : (g : Option guards.PlainGuard) → unplaced_guard (guard_or_always tree part g) ≡ guard_or_always (without_places tree) (bare_component part) (option_map bare_guard g)
  guard_or_always-bare None = refl
  guard_or_always-bare (Some g) = guard_of-bare g

  -- ASSIGNMENTS and groups
  pub assign_of-bare : (a : ast.PlainAssign) → unplaced_assign (assign_of tree part a) ≡ assign_of (without_places tree) (bare_component part) (bare_assign a)
  assign_of-bare a = cc (port_of-bare a.target.form, guard_or_always-bare a.guard, placed_of-bare a.source)

  kind_of-bare : (k : GroupWord) → kind_of tree part k ≡ kind_of (without_places tree) (bare_component part) k
  kind_of-bare words.Plain = refl
  kind_of-bare words.Comb = refl
  kind_of-bare (words.Timed n) = refl

  pub assigns-bare : (list : List ast.PlainAssign) → map unplaced_assign (map (assign_of tree part) list) ≡ map (assign_of (without_places tree) (bare_component part)) (map bare_assign list)
  assigns-bare list = both_ways (assign_of tree part) unplaced_assign bare_assign (assign_of (without_places tree) (bare_component part)) assign_of-bare list

  pub group_of-bare : (g : ast.PlainGroup) → unplaced_group (group_of tree part g) ≡ group_of (without_places tree) (bare_component part) (bare_group g)
  group_of-bare g = cc (kind_of-bare g.kind, assigns-bare g.assigns)

  -- INVOKES
  at-bare : (place : Place) (p q : PortRef) → q ≡ p → unplaced_port (at tree part place p) ≡ at (without_places tree) (bare_component part) start q
  at-bare place p q e = ap (λ (r : PortRef). record { port = r; place = start }) (sym e)

  input_assign-bare : (k : Invoke) (b : BindItem) → unplaced_assign (input_assign tree part k b) ≡ input_assign (without_places tree) (bare_component part) (bare_invoke k) (bare_bind b)
  input_assign-bare k b = cc (cell_port-bare k.cell b.name, placed_of-bare b.value)

  go_guard-bare : (k : Invoke) (binds : List BindItem) → unplaced_guard (go_guard tree part k binds) ≡ go_guard (without_places tree) (bare_component part) (bare_invoke k) (map bare_bind binds)
  go_guard-bare k [] = refl
  go_guard-bare k (b ∷ binds) = ap (λ p. Negation (Atom p)) (at-bare k.place _ _ (cell_port-bare k.cell (codes "done")))

  found_go-bare : (name : List ℕ) → found_go (without_places tree) (bare_component part) (cell_among name (map bare_cell part.cells)) ≡ found_go tree part (cell_among name part.cells)
  found_go-bare name = ap (found_go (without_places tree) (bare_component part)) (cell_among-bare name part.cells) ∙ by (cell_among name part.cells)
    where
      by : (cell : Option ast.PlainCell) → found_go (without_places tree) (bare_component part) (option_map bare_cell cell) ≡ found_go tree part cell
      by None = refl
      by (Some cell) = ap cell_go (cell_of-bare tree cell) ∙ cell_go-bare (cell_of tree cell)

  go_port-bare : (go : Option (List ℕ)) (cell : List ℕ) → go_port (without_places tree) (bare_component part) go cell ≡ go_port tree part go cell
  go_port-bare None cell = cell_port-bare cell []
  go_port-bare (Some name) cell = cell_port-bare cell name

  go_assign-bare : (k : Invoke) → unplaced_assign (go_assign tree part k) ≡ go_assign (without_places tree) (bare_component part) (bare_invoke k)
  go_assign-bare k =
      let target : go_port (without_places tree) (bare_component part) (found_go (without_places tree) (bare_component part) (cell_among k.cell (map bare_cell part.cells))) k.cell
      ≡ go_port tree part (found_go tree part (cell_among k.cell part.cells)) k.cell =
      ap (λ go. go_port (without_places tree) (bare_component part) go k.cell) (found_go-bare k.cell) ∙ go_port-bare (found_go tree part (cell_among k.cell part.cells)) k.cell in
      cc (target, go_guard-bare k k.outputs)

  register_of-bare : (b : BindItem) → register_of (without_places tree) (bare_component part) (bare_bind b) ≡ register_of tree part b
  register_of-bare b = by b.value.form
    where
      by : (f : OperandForm)
          → (let x : BindItem = record { name = b.name; value = record { form = f; place = start }; place = start } in
          let y : BindItem = record { name = b.name; value = record { form = f; place = b.value.place }; place = b.place } in
          register_of (without_places tree) (bare_component part) x ≡ register_of tree part y)
      by (operands.Own name) = refl
      by (operands.Port cell port) = refl
      by (operands.Hole group hole) = refl
      by (operands.Literal width value) = refl

  register_port-bare : (b : BindItem) (port : List ℕ)
      → cell_port (without_places tree) (bare_component part) (register_of (without_places tree) (bare_component part) (bare_bind b)) port ≡ cell_port tree part (register_of tree part b) port
  register_port-bare b port = ap (λ cell. cell_port (without_places tree) (bare_component part) cell port) (register_of-bare b) ∙ cell_port-bare (register_of tree part b) port

  capture_assigns-bare : (k : Invoke) (b : BindItem) → map unplaced_assign (capture_assigns tree part k b) ≡ capture_assigns (without_places tree) (bare_component part) (bare_invoke k) (bare_bind b)
  capture_assigns-bare k b =
      cc (port_of-bare b.value.form, cell_port-bare k.cell b.name, register_port-bare b (codes "write_en"), cell_port-bare k.cell (codes "done"))

  register_done-bare : (k : Invoke) (b : BindItem) → unplaced_port (register_done tree part k b) ≡ register_done (without_places tree) (bare_component part) (bare_invoke k) (bare_bind b)
  register_done-bare k b = at-bare k.place _ _ (register_port-bare b (codes "done"))

  dones-bare : (k : Invoke) (binds : List BindItem)
      → unplaced_guards (guards_of (map (λ b. Atom (register_done tree part k b)) binds))
      ≡ guards_of (map (λ b. Atom (register_done (without_places tree) (bare_component part) (bare_invoke k) b)) (map bare_bind binds))
  dones-bare k binds =
      unplaced_guards-guards_of (map (λ b. Atom (register_done tree part k b)) binds)
      ∙ ap guards_of (both_ways (λ b. Atom (register_done tree part k b)) unplaced_guard bare_bind (λ b. Atom (register_done (without_places tree) (bare_component part) (bare_invoke k) b))
      (λ b. ap Atom (register_done-bare k b)) binds)

  done_assign-bare : (k : Invoke) (g : ℕ) (binds : List BindItem) → unplaced_assign (done_assign tree part k g binds) ≡ done_assign (without_places tree) (bare_component part) (bare_invoke k) g (map bare_bind binds)
  done_assign-bare k g [] = cc (cell_port-bare k.cell (codes "done"))
  done_assign-bare k g (b ∷ []) = cc (register_done-bare k b)
  done_assign-bare k g (b ∷ c ∷ binds) = cc (dones-bare k (b ∷ c ∷ binds))

  pub invoke_group-bare : (g : ℕ) (k : Invoke) → unplaced_group (invoke_group tree part g k) ≡ invoke_group (without_places tree) (bare_component part) g (bare_invoke k)
  invoke_group-bare g k =
      let first = both_ways (input_assign tree part k) unplaced_assign bare_bind (input_assign (without_places tree) (bare_component part) (bare_invoke k)) (input_assign-bare k) k.inputs in
      let captures = each_way (capture_assigns tree part k) unplaced_assign bare_bind (capture_assigns (without_places tree) (bare_component part) (bare_invoke k)) (capture_assigns-bare k) k.outputs in
      let last : map unplaced_assign (flat_map (capture_assigns tree part k) k.outputs ++ (done_assign tree part k g k.outputs ∷ []))
      ≡ flat_map (capture_assigns (without_places tree) (bare_component part) (bare_invoke k)) (map bare_bind k.outputs)
      ++ (done_assign (without_places tree) (bare_component part) (bare_invoke k) g (map bare_bind k.outputs) ∷ []) =
      map-append unplaced_assign (flat_map (capture_assigns tree part k) k.outputs) (done_assign tree part k g k.outputs ∷ [])
      ∙ cc (captures, done_assign-bare k g k.outputs) in
      let all : map unplaced_assign (invoke_group tree part g k).assigns ≡ (invoke_group (without_places tree) (bare_component part) g (bare_invoke k)).assigns =
      map-append unplaced_assign (map (input_assign tree part k) k.inputs) (go_assign tree part k ∷ (flat_map (capture_assigns tree part k) k.outputs ++ (done_assign tree part k g k.outputs ∷ [])))
      ∙ cc (first, go_assign-bare k, last) in
      cc all

  -- STATIC INVOKES
  pub is_static-bare : (k : Invoke) → is_static_invoke tree part k ≡ is_static_invoke (without_places tree) (bare_component part) (bare_invoke k)
  is_static-bare k = ap (λ latency. k.written || is_some latency) (sym (found_latency-bare tree k.cell part.cells))

  static_capture-bare : (k : Invoke) (b : BindItem) → map unplaced_assign (static_capture tree part k b) ≡ static_capture (without_places tree) (bare_component part) (bare_invoke k) (bare_bind b)
  static_capture-bare k b = cc (port_of-bare b.value.form, cell_port-bare k.cell b.name, register_port-bare b (codes "write_en"))

  capture_group-bare : (k : Invoke) → unplaced_group (capture_group tree part k) ≡ capture_group (without_places tree) (bare_component part) (bare_invoke k)
  capture_group-bare k =
      let captures = each_way (static_capture tree part k) unplaced_assign bare_bind (static_capture (without_places tree) (bare_component part) (bare_invoke k)) (static_capture-bare k) k.outputs in
      cc captures

  captures_number-bare : (g : ℕ) (binds : List BindItem) → captures_number tree part g binds ≡ captures_number (without_places tree) (bare_component part) g (map bare_bind binds)
  captures_number-bare g [] = refl
  captures_number-bare g (b ∷ binds) = refl

  plain_invoke_of-bare : (n : Next) (k : Invoke) → unplaced_invoke (plain_invoke_of tree part n k) ≡ plain_invoke_of (without_places tree) (bare_component part) n (bare_invoke k)
  plain_invoke_of-bare n k =
      let inputs = both_ways (input_assign tree part k) unplaced_assign bare_bind (input_assign (without_places tree) (bare_component part) (bare_invoke k)) (input_assign-bare k) k.inputs in
      cc (ap (number_or_0 k.cell) (sym (cell_names-bare part)), sym (found_latency-bare tree k.cell part.cells), inputs, captures_number-bare n.group k.outputs)

  -- NUMBERS
  capture_count-bare : (binds : List BindItem) → capture_count tree part binds ≡ capture_count (without_places tree) (bare_component part) (map bare_bind binds)
  capture_count-bare [] = refl
  capture_count-bare (b ∷ binds) = refl

  after_static-bare : (static : Bool) (n : Next) (binds : List BindItem) → after_static tree part static n binds ≡ after_static (without_places tree) (bare_component part) static n (map bare_bind binds)
  after_static-bare true n binds = ap (λ (count : ℕ). record { group = n.group + count; invoke = suc n.invoke }) (capture_count-bare binds)
  after_static-bare false n binds = refl

  pub after-bare : (n : Next) (k : Invoke) → after tree part n k ≡ after (without_places tree) (bare_component part) n (bare_invoke k)
  after-bare n k = ap (λ static. after_static tree part static n k.outputs) (is_static-bare k) ∙ after_static-bare (is_static_invoke (without_places tree) (bare_component part) (bare_invoke k)) n k.outputs

  pub past-bare : (n : Next) (ks : List Invoke) → past tree part n ks ≡ past (without_places tree) (bare_component part) n (map bare_invoke ks)
  past-bare n [] = refl
  past-bare n (k ∷ ks) = ap (λ m. past tree part m ks) (after-bare n k) ∙ past-bare (after (without_places tree) (bare_component part) n (bare_invoke k)) ks

  -- ALL OF THEM
  captures_for-bare : (k : Invoke) (binds : List BindItem) → map unplaced_group (captures_for tree part k binds) ≡ captures_for (without_places tree) (bare_component part) (bare_invoke k) (map bare_bind binds)
  captures_for-bare k [] = refl
  captures_for-bare k (b ∷ binds) = ap (λ g. g ∷ []) (capture_group-bare k)

  groups_for-bare : (static : Bool) (n : Next) (k : Invoke) → map unplaced_group (groups_for tree part static n k) ≡ groups_for (without_places tree) (bare_component part) static n (bare_invoke k)
  groups_for-bare true n k = captures_for-bare k k.outputs
  groups_for-bare false n k = ap (λ g. g ∷ []) (invoke_group-bare n.group k)

  pub invoke_groups-bare : (n : Next) (ks : List Invoke) → map unplaced_group (invoke_groups tree part n ks) ≡ invoke_groups (without_places tree) (bare_component part) n (map bare_invoke ks)
  invoke_groups-bare n [] = refl
  invoke_groups-bare n (k ∷ ks) =
      let own = groups_for-bare (is_static_invoke tree part k) n k ∙ ap (λ static. groups_for (without_places tree) (bare_component part) static n (bare_invoke k)) (is_static-bare k) in
      let later = invoke_groups-bare (after tree part n k) ks ∙ ap (λ m. invoke_groups (without_places tree) (bare_component part) m (map bare_invoke ks)) (after-bare n k) in
      map-append unplaced_group (groups_for tree part (is_static_invoke tree part k) n k) (invoke_groups tree part (after tree part n k) ks) ∙ ap₂ (λ gs more. gs ++ more) own later

  static_for-bare : (static : Bool) (n : Next) (k : Invoke) → map unplaced_invoke (static_for tree part static n k) ≡ static_for (without_places tree) (bare_component part) static n (bare_invoke k)
  static_for-bare true n k = ap (λ v. v ∷ []) (plain_invoke_of-bare n k)
  static_for-bare false n k = refl

  pub static_invokes-bare : (n : Next) (ks : List Invoke) → map unplaced_invoke (static_invokes tree part n ks) ≡ static_invokes (without_places tree) (bare_component part) n (map bare_invoke ks)
  static_invokes-bare n [] = refl
  static_invokes-bare n (k ∷ ks) =
      let own = static_for-bare (is_static_invoke tree part k) n k ∙ ap (λ static. static_for (without_places tree) (bare_component part) static n (bare_invoke k)) (is_static-bare k) in
      let later = static_invokes-bare (after tree part n k) ks ∙ ap (λ m. static_invokes (without_places tree) (bare_component part) m (map bare_invoke ks)) (after-bare n k) in
      map-append unplaced_invoke (static_for tree part (is_static_invoke tree part k) n k) (static_invokes tree part (after tree part n k) ks) ∙ ap₂ (λ vs more. vs ++ more) own later
