-- NOTHING OF AN INSTRUMENTED DESIGN looks at the done of a static component's cell, where nothing of its design does.
use Rattle.std.proofs.Common.{◌≡◌, ℕ, suc, ◌+◌, ◌*◌, ◌<◌, ◌≤◌, ◌&&◌, Bool, true, false, inl, inr, length, Option, Some, None, is_some, refl, sym, ap, ap₂, ◌∙◌, subst, arith}
use Rattle.std.specs.Prelude.{nat_eq}
use Rattle.std.specs.List.{slice_get}
use Rattle.std.proofs.lemmas.Bool.{eq-eqb}
use Rattle.cx_text.proofs.MemberLaws.{image_in, in_at, number_in}
use Rattle.cx_text.specs.Members.{In}
use Rattle.cx_text.proofs.ListLaws.{there_below as below_there}
use Rattle.cx_text.proofs.OptionLaws.{map_some, none_is_some, same_some}
use Rattle.cx_text.specs.declared.places.Place.{Place}
use Rattle.cx_meaning.specs.declared.ports.PortRef.{PortRef}
use Rattle.cx_meaning.specs.declared.ports.PortRef.TheVariants as ports
use Rattle.cx_meaning.specs.declared.ports.PlacedPort.{PlacedPort}
use Rattle.cx_meaning.specs.Designs.{PlainAssign, PlainGroup, group_at, PlainKind, OfPrimitive, OfComponent, PlainCell, PlainInvoke, PlainComponent, PlainDesign, component_at}
use Rattle.cx_meaning.specs.Instances.{Instance, At, Nothing, OfRow, OfInstance, cell_at, cells_of, part_of, tree_within}
use Rattle.cx_meaning.specs.Sights.{PartPort, Go, AnInput, AnOutput, ItsDone, part_port}
use Rattle.cx_meaning.proofs.DesignsLemmas.{same_part, there_below}
use Rattle.cx_meaning.proofs.InstancesLemmas.{at_kind, cell_stands}
use Rattle.cx_rules.specs.Footprints.{AssignNames}
use Rattle.cx_rules.specs.Items.{Visited, statements_in, test_in}
use Rattle.cx_rules.specs.Ports.{cell_width, component_of, part_width, width_of, is_part_done}
use Rattle.cx_rules.specs.Wellformed.{IsDesign, IsKind, StandsIn}
use Rattle.cx_rules.proofs.PortsLemmas.{part_is}
use Rattle.cx_rewrites.specs.Moving.{moved_assign, moved_port}
use Rattle.cx_rewrites.proofs.ReflectLemmas.{names_back}
use Rattle.cx_rewrites.proofs.MovedLists.{test_in-moved}
use Rattle.cx_flattening.specs.Ends.{NamesNoDone, NoneNamesDone, is_done_at, is_static_done}
use Rattle.cx_flattening.specs.Fair.{IsAssignOf}
use Rattle.cx_flattening.specs.Whole.{is_static}
use Rattle.cx_profiling.specs.Counters.{counters, shown_in}
use Rattle.cx_profiling.specs.Instrumented.{counter_assigns, store_assigns, address_width, drive, moved_by, moved_number, moved_in, moved_invoke, instrumented, with_counts}
use Rattle.cx_profiling.proofs.AlikeLemmas.{some_levels}
use Rattle.cx_profiling.proofs.CellPorts.{ports_alike}
use Rattle.cx_profiling.proofs.CounterLemmas.{in_counters}
use Rattle.cx_profiling.proofs.GainedLemmas.{components-length, grown_at}
use Rattle.cx_profiling.proofs.InvokesKept.{keeps_at}
use Rattle.cx_profiling.proofs.NewSorts.{register_out, adder_out, shown_source}
use Rattle.cx_profiling.proofs.PartTable.{AlwaysMade, InGroup, StatementMade, always_made, in_group, statement_made, old_always, showing_always, old_in, counting_in, storing_in, old_statement, new_statement}
use Rattle.cx_profiling.proofs.PortsKept.{memory_there}
use Rattle.cx_profiling.proofs.RoleLemmas.{own_counters}
use Rattle.cx_profiling.proofs.ThereLemmas.{Names, from_there, kind_ports, tree_on}
use Rattle.cx_compiler.proofs.KeptParts.{by_entries}
use Rattle.cx_rules.proofs.FoundLemmas.{source_in}

-- a port of 64 bits is no done
not_done : (part : PlainComponent) (b : Bool) (x : PartPort) → part_width part x ≡ Some 64 → b && is_part_done x ≡ false
not_done part true Go e = refl
not_done part true (AnInput n) e = refl
not_done part true (AnOutput n) e = refl
not_done part true ItsDone e = absurd (let one : ◌≡◌ {A = ℕ} 1 64 = cc in omega (arith, one))
not_done part false x e = refl

wide_done : (i : Instance) (q : PortRef) → width_of i q ≡ Some 64 → is_static_done i q ≡ false
wide_done i (ports.Cell c p) e = by (cell_at (cells_of i) c) e
  where
    by : (at : At) → cell_width at p ≡ Some 64 → is_done_at at p ≡ false
    by Nothing h = refl
    by (OfRow row) h = refl
    by (OfInstance child) h = not_done (part_of child) (is_static child) (part_port (part_of child) p) h
wide_done i (ports.Input n) e = refl
wide_done i (ports.Output n) e = refl
wide_done i (ports.Done g) e = refl
wide_done i (ports.Literal w v) e = refl

-- what stands at a cell, by the kind of the cell
kind_at : (d : PlainDesign) → 0 < length d.components → (k c : ℕ) (cell : PlainCell) → slice_get (component_at d k).cells c ≡ Some cell → (n : ℕ) × (cell_at (cells_of (component_of d k)) c ≡ at_kind (tree_within d n) cell.kind)
kind_at d some k c cell e =
    let on = tree_on d some (length d.components) k some in
    (on.0, ap (λ x. cell_at (cells_of x) c) on.1 ∙ cell_stands (tree_within d on.0) (component_at d k).cells c cell e)

-- what a new assignment names: its source
drive_names : (place : Place) (target source q : PortRef) → AssignNames (drive place target source) q → source ≡ q
drive_names place target source q (inl n) = absurd n
drive_names place target source q (inr e) = e

module _ (d : PlainDesign) (rules : IsDesign d) (undone : NoneNamesDone d) (k : ℕ) (there : k < length d.components) where
  abbrev i : Instance
  i = component_of d k

  abbrev j : Instance
  j = component_of (with_counts d) k

  abbrev part : PlainComponent
  part = component_at d k

  abbrev new : PlainComponent
  new = component_at (with_counts d) k

  abbrev move : PortRef → PortRef
  move p = moved_in d part p

  some : 0 < length d.components
  some = omega arith

  some_grown : 0 < length (with_counts d).components
  some_grown = subst (λ n. 0 < n) (sym (components-length d)) some

  own : NamesNoDone i
  own = undone k there

  -- AN OLD PORT, moved, is the done of a static component's cell where it was
  child_done : (n m h : ℕ) → h < length d.components → (p : ℕ) → p < kind_ports d (OfComponent h) → is_done_at (OfInstance (tree_within (with_counts d) m h)) (moved_by d (OfComponent h) p) ≡ is_done_at (OfInstance (tree_within d n h)) p
  child_done n m h less p few = ap₂ ◌&&◌ latency port
    where
      latency : is_static (tree_within (with_counts d) m h) ≡ is_static (tree_within d n h)
      latency = ap (λ (x : PlainComponent). is_some x.latency) (same_part (with_counts d) m h) ∙ ap is_some (keeps_at d h less).latency ∙ sym (ap (λ (x : PlainComponent). is_some x.latency) (same_part d n h))

      inside : p ≤ suc (length (component_at d h).inputs + length (component_at d h).outputs)
      inside = let z : p < 2 + length (component_at d h).inputs + length (component_at d h).outputs = few in omega (arith, z)

      port : is_part_done (part_port (part_of (tree_within (with_counts d) m h)) (moved_by d (OfComponent h) p)) ≡ is_part_done (part_port (part_of (tree_within d n h)) p)
      port =
          ap (λ (x : PlainComponent). is_part_done (part_port x (moved_by d (OfComponent h) p))) (same_part (with_counts d) m h) ∙ ap is_part_done (ports_alike d h less p inside)
          ∙ sym (ap (λ (x : PlainComponent). is_part_done (part_port x p)) (same_part d n h))

  kind_done : (kind : PlainKind) → IsKind d kind → (p : ℕ) → p < kind_ports d kind → (n m : ℕ) → is_done_at (at_kind (tree_within (with_counts d) m) kind) (moved_by d kind p) ≡ is_done_at (at_kind (tree_within d n) kind) p
  kind_done (OfPrimitive x) h p few n m = refl
  kind_done (OfComponent c) less p few n m = child_done n m c less p few

  old_done : (q : PortRef) → Names d part q → is_static_done j (move q) ≡ is_static_done i q
  old_done (ports.Cell c p) (cell, at, few) =
      let a = kind_at d some k c cell at in
      let b = kind_at (with_counts d) some_grown k c cell ((grown_at d k there).cells c cell at) in
      ap (λ o. is_done_at (cell_at (cells_of j) c) (moved_number d o p)) at ∙ ap (λ x. is_done_at x (moved_by d cell.kind p)) b.1
      ∙ kind_done cell.kind ((rules.components k there).cells cell (in_at part.cells c cell at)).kind p few a.0 b.0 ∙ sym (ap (λ x. is_done_at x p) a.1)
  old_done (ports.Input n) names = refl
  old_done (ports.Output n) names = refl
  old_done (ports.Done g) names = refl
  old_done (ports.Literal w v) names = refl

  -- an old assignment
  old_assign : (owner : Option ℕ) (b a : PlainAssign) → StandsIn part owner b → IsAssignOf part b → moved_assign move b ≡ a → (q : PortRef) → AssignNames a q → is_static_done j q ≡ false
  old_assign owner b a stands is e q names = by (names_back move b q (subst (λ x. AssignNames x q) (sym e) names))
    where
      by : (p : PortRef) × (move p ≡ q) × AssignNames b p → is_static_done j q ≡ false
      by (p, moved, named) =
          let source = source_in b p named in
          let within : Names d part p = subst (Names d part) source.2 (from_there d some k source.0.port (((rules.components k there).assigns owner b stands).sources source.0 source.1)) in
          ap (is_static_done j) (sym moved) ∙ old_done p within ∙ own.assigns b p (subst (λ x. IsAssignOf x b) (sym (part_is d k)) is) named

  -- a new one, of a counter or of a store
  counting : (r : ℕ) (a : PlainAssign) (q : PortRef) → is_static_done j (ports.Cell r 2) ≡ false → is_static_done j (ports.Cell (suc r) 2) ≡ false → In (counter_assigns part.place r) a → AssignNames a q → is_static_done j q ≡ false
  counting r a q register adder (inl e) names = ap (is_static_done j) (sym (drive_names part.place (ports.Cell (suc r) 0) (ports.Cell r 2) q (subst (λ x. AssignNames x q) (sym e) names))) ∙ register
  counting r a q register adder (inr (inl e)) names = ap (is_static_done j) (sym (drive_names part.place (ports.Cell (suc r) 1) (ports.Literal 64 1) q (subst (λ x. AssignNames x q) (sym e) names)))
  counting r a q register adder (inr (inr (inl e))) names = ap (is_static_done j) (sym (drive_names part.place (ports.Cell r 0) (ports.Cell (suc r) 2) q (subst (λ x. AssignNames x q) (sym e) names))) ∙ adder
  counting r a q register adder (inr (inr (inr (inl e)))) names = ap (is_static_done j) (sym (drive_names part.place (ports.Cell r 1) (ports.Literal 1 1) q (subst (λ x. AssignNames x q) (sym e) names)))
  counting r a q register adder (inr (inr (inr (inr none)))) names = absurd none

  storing : (memory width g n : ℕ) (count : PortRef) (a : PlainAssign) (q : PortRef) → is_static_done j count ≡ false → is_static_done j (ports.Cell memory 4) ≡ false → In (store_assigns part.place memory width g n count) a → AssignNames a q → is_static_done j q ≡ false
  storing memory width g n count a q shown done (inl e) names = ap (is_static_done j) (sym (drive_names part.place (ports.Cell memory 0) (ports.Literal width n) q (subst (λ x. AssignNames x q) (sym e) names)))
  storing memory width g n count a q shown done (inr (inl e)) names = ap (is_static_done j) (sym (drive_names part.place (ports.Cell memory 1) count q (subst (λ x. AssignNames x q) (sym e) names))) ∙ shown
  storing memory width g n count a q shown done (inr (inr (inl e))) names = ap (is_static_done j) (sym (drive_names part.place (ports.Cell memory 2) (ports.Literal 1 1) q (subst (λ x. AssignNames x q) (sym e) names)))
  storing memory width g n count a q shown done (inr (inr (inr (inl e)))) names = ap (is_static_done j) (sym (drive_names part.place (ports.Done g) (ports.Cell memory 4) q (subst (λ x. AssignNames x q) (sym e) names))) ∙ done
  storing memory width g n count a q shown done (inr (inr (inr (inr none)))) names = absurd none

  main_is : k ≡ d.main → nat_eq k d.main ≡ true
  main_is e = eq-eqb k d.main e

  memory_done : k ≡ d.main → is_static_done j (ports.Cell (length part.cells + 2 * length (counters i)) 4) ≡ false
  memory_done e =
      let levels = some_levels (length d.components) k there in
      let tree : j ≡ tree_within (with_counts d) (suc levels.0) k = ap (λ n. tree_within (with_counts d) n k) (components-length d ∙ levels.1) in
      ap (λ t. is_done_at (cell_at (cells_of t) (length part.cells + 2 * length (counters i))) 4) tree ∙ ap (λ x. is_done_at x 4) (memory_there d rules levels.0 k there e)

  always_done : (a : PlainAssign) (q : PortRef) → AlwaysMade d rules k there a → AssignNames a q → is_static_done j q ≡ false
  always_done a q (old_always b inside e) names = old_assign None b a inside (inl inside) e q names
  always_done a q (showing_always n x main reached at e) names =
      ap (is_static_done j) (sym (drive_names part.place (ports.Output (length part.outputs + n)) x.port q (subst (λ y. AssignNames y q) (sym e) names)))
      ∙ wide_done j x.port (shown_source d rules k there (inr reached) x (in_at (shown_in i) n x at)).0

  group_done : (g : ℕ) (a : PlainAssign) (q : PortRef) → InGroup d rules k there g a → AssignNames a q → is_static_done j q ≡ false
  group_done g a q (old_in b few inside e) names =
      old_assign (Some g) b a (few, inside) (inr (group_at part g, group_in few, inside)) e q names
    where
      group_in : g < length part.groups → In part.groups (group_at part g)
      group_in less = in_at part.groups g (group_at part g) (there_below part.groups g less)
  group_done g a q (counting_in r inside reached few is made) names =
      let listed = subst (λ list. In list (record { group = g; register = r })) (own_counters d k) inside in
      let m = in_counters (cells_of i) (length part.cells) 0 part.groups (record { group = g; register = r }) listed in
      let less : m.0 < length (counters i) = subst (λ list. m.0 < length list) (sym (own_counters d k)) m.1 in
      let number : length part.cells + 2 * m.0 ≡ r = sym m.2 in
      let register = wide_done j (ports.Cell (length part.cells + 2 * m.0) 2) (register_out d rules k there (inr reached) m.0 less).0 in
      let adder = wide_done j (ports.Cell (suc (length part.cells + 2 * m.0)) 2) (adder_out d rules k there (inr reached) m.0 less).0 in
      counting r a q (subst (λ x. is_static_done j (ports.Cell x 2) ≡ false) number register) (subst (λ x. is_static_done j (ports.Cell (suc x) 2) ≡ false) number adder) made names
  group_done g a q (storing_in n x main at number made) names =
      storing (length part.cells + 2 * length (counters i)) (address_width (length (shown_in i))) (length part.groups + n) n x.port a q
      (wide_done j x.port (shown_source d rules k there (inl (main_is main)) x (in_at (shown_in i) n x at)).0) (memory_done main) made names

  assigns_done : (a : PlainAssign) (q : PortRef) → IsAssignOf new a → AssignNames a q → is_static_done j q ≡ false
  assigns_done a q (inl inside) names = always_done a q (always_made d rules k there a inside) names
  assigns_done a q (inr (x, stands, inside)) names =
      let n = number_in new.groups x stands in
      let same : group_at new n.0 ≡ x = same_some (group_at new n.0) x (sym (there_below new.groups n.0 (below_there new.groups n.0 x n.1)) ∙ n.1) in
      group_done n.0 a q (in_group d rules k there n.0 a (subst (λ (y : PlainGroup). In y.assigns a) (sym same) inside)) names

  -- an input of an invoke
  inputs_done : (v : PlainInvoke) (a : PlainAssign) → In new.invokes v → In v.inputs a → is_static_done j a.source.port ≡ false
  inputs_done v a stands inside = by (image_in (moved_invoke d part) part.invokes v (subst (λ vs. In vs v) (keeps_at d k there).invokes stands))
    where
      one : (w : PlainInvoke) → In part.invokes w → (b : PlainAssign) × In w.inputs b × (moved_assign move b ≡ a) → is_static_done j a.source.port ≡ false
      one w at (b, within, e) =
          let bind = ((rules.components k there).invokes w at).inputs b within in
          ap (λ (x : PlainAssign). is_static_done j x.source.port) (sym e) ∙ old_done b.source.port (from_there d some k b.source.port bind.source)
          ∙ own.inputs w b (subst (λ (x : PlainComponent). In x.invokes w) (sym (part_is d k)) at) within

      by : (w : PlainInvoke) × In part.invokes w × (moved_invoke d part w ≡ v) → is_static_done j a.source.port ≡ false
      by (w, at, e) = one w at (image_in (moved_assign move) w.inputs a (subst (λ (x : PlainInvoke). In x.inputs a) (sym e) inside))

  -- a condition
  tests_done : (v : Visited) (p : PlacedPort) → In (statements_in new) v → test_in v.form ≡ Some p → is_static_done j p.port ≡ false
  tests_done v p stands test = by (statement_made d rules k there v stands)
    where
      one : (w : Visited) → In (statements_in part) w → (q : PlacedPort) × (test_in w.form ≡ Some q) × (moved_port move q ≡ p) → is_static_done j p.port ≡ false
      one w at (q, tested, e) =
          ap (λ (x : PlacedPort). is_static_done j x.port) (sym e) ∙ old_done q.port (from_there d some k q.port (((rules.components k there).statements w at).test q tested))
          ∙ own.tests w q (subst (λ x. In (statements_in x) w) (sym (part_is d k)) at) tested

      by : StatementMade d rules k there v → is_static_done j p.port ≡ false
      by (old_statement w at e) = one w at (map_some (moved_port move) (test_in w.form) p (sym (test_in-moved move w.form) ∙ ap (λ (x : Visited). test_in x.form) e ∙ test))
      by (new_statement n) = absurd (none_is_some p (sym n.tested ∙ test))

  names_no_done : NamesNoDone j
  names_no_done = record {
    assigns = λ a q is names. assigns_done a q (subst (λ x. IsAssignOf x a) now is) names;
    inputs = λ v a stands inside. inputs_done v a (subst (λ (x : PlainComponent). In x.invokes v) now stands) inside;
    tests = λ v p stands test. tests_done v p (subst (λ x. In (statements_in x) v) now stands) test;
  }
    where
      now : part_of j ≡ new
      now = part_is (with_counts d) k

pub none_names_done : (d : PlainDesign) → IsDesign d → NoneNamesDone d → NoneNamesDone (instrumented d)
none_names_done d rules undone = by_entries NoneNamesDone d undone (λ k less. names_no_done d rules undone k (subst (λ n. k < n) (components-length d) less))
