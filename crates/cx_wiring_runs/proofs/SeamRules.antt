-- What the rules of acceptance give an instance so that its net has what its leaves see: beside the rules of its ports, lawful rows, where
-- names may lead, and that what a done or an output looks at rests on state.
use Rattle.std.specs.Prelude.{is_some}
use Rattle.std.proofs.Common.{◌≡◌, inl, inr, ℕ, suc, ◌<◌, true, false, ◌||◌, [], length, Option, Some, refl, sym, ap, ◌∙◌, subst}
use Rattle.cx_text.proofs.MemberLaws.{number_in}
use Rattle.cx_text.specs.Members.{In}
use Rattle.cx_text.specs.declared.rules.Rule.TheVariants as rules
use Rattle.cx_prim.specs.Rows.{Row, is_enable_side, IsLawful}
use Rattle.cx_prim.proofs.TableLaws.{row_of_lawful}
use Rattle.cx_prim.specs.declared.ports.Side.TheVariants as sides
use Rattle.cx_meaning.specs.declared.ports.PortRef.{PortRef}
use Rattle.cx_meaning.specs.declared.ports.PortRef.TheVariants as ports
use Rattle.cx_meaning.specs.Rows.{side_of}
use Rattle.cx_meaning.specs.Designs.{PlainComponent, PlainDesign, component_at, group_at, no_component, PlainForm, Empty, StaticIf, PlainStatement}
use Rattle.cx_text.specs.declared.places.Place.{Place}
use Rattle.cx_meaning.specs.Islands.{group_length}
use Rattle.cx_meaning.specs.Control.{groups_in}
use Rattle.cx_meaning.specs.declared.ports.PlacedPort.{PlacedPort}
use Rattle.cx_meaning.specs.Instances.{Instance, Node, Cells, OfRow, OfInstance, cell_at, cells_of, part_of, cells_for, tree_within, tree_of, Path, instance_at}
use Rattle.cx_meaning.specs.Active.{Owned, source_order}
use Rattle.cx_meaning.specs.Sights.{part_port}
use Rattle.cx_rules.specs.Ports.{is_primitive_enable, is_part_port, component_of, path_of}
use Rattle.cx_meaning.specs.Calls.{enables_at}
use Rattle.cx_rules.specs.StaticControl.{is_static}
use Rattle.cx_rules.specs.Items.{Dynamic, Visited, statements_in, is_comb}
use Rattle.cx_rules.specs.ShapeRules.{is_hole}
use Rattle.cx_rules.specs.Footprints.{AssignNames, Rests, literal_rests, input_rests, registered_rests, output_rests, done_rests, combinational_rests}
use Rattle.cx_rules.specs.Spots.{AStatement, AnAssign}
use Rattle.cx_rules.specs.Flat.{IsFlat}
use Rattle.cx_rules.specs.Accepted.{IsAccepted}
use Rattle.cx_rules.specs.Wellformed.{IsDesign}
use Rattle.cx_laws.proofs.StaticLemmas.{IsStatic, static_form, static_may, all_may}
use Rattle.cx_laws.proofs.VisitLemmas.{visited}
use Rattle.cx_frames.proofs.RuleLemmas.{IsKept, kept_instance}
use Rattle.cx_control.proofs.InstanceLemmas.{KeepsPorts, instance_ports}
use Rattle.cx_wiring.proofs.WholeInstances.{IsWhole, of_component, of_nothing, instance_whole, AreAlike, nothings, rows, instances, cells_alike}
use Rattle.cx_wiring_runs.proofs.InstancePorts.{RowOf, some_components}
use Rattle.cx_wiring_runs.proofs.NodeRules.{NodeRules, node_rules}
use Rattle.cx_wiring_runs.proofs.RowPorts.{HasRowPorts, row_ports}
use Rattle.cx_meaning.proofs.DesignsLemmas.{same_part}

-- a port that does not rest is named by no such assignment
pub record RestRules (i : Instance) : Type 0 where
  pub dones : (o : Owned) (g : ℕ) (q : PortRef) → In (source_order (part_of i)) o → o.assign.target ≡ ports.Done g → AssignNames o.assign q → (Rests i q → ⊥) → ⊥
  pub outputs : (o : Owned) (n : ℕ) (q : PortRef) → In (source_order (part_of i)) o → o.assign.target ≡ ports.Output n → AssignNames o.assign q → (Rests i q → ⊥) → ⊥
  -- the port of a static if rests on state
  pub tests : (v : Visited) (written : Option ℕ) (test : PlacedPort) (a b : PlainStatement) → In (statements_in (part_of i)) v → v.form ≡ StaticIf written test a b → (Rests i test.port → ⊥) → ⊥
  -- the groups of static control are static
  pub statics : (form : PlainForm) (place : Place) → In (statements_in (part_of i)) (record { context = Dynamic; form = form; place = place }) → is_static form ≡ true → (g : ℕ) → In (groups_in form) g → is_some (group_length (part_of i) g) ≡ true
  -- a comb group enables no primitive
  pub combs : (o : Owned) (g c p : ℕ) (row : Row) → In (source_order (part_of i)) o → o.owner ≡ Some g → is_comb (group_at (part_of i) g).kind ≡ true → o.assign.target ≡ ports.Cell c p → cell_at (cells_of i) c ≡ OfRow row → side_of row p ≡ sides.Enable → ⊥

pub record SeamRules (d : PlainDesign) (i : Instance) : Type 0 where
  pub node : NodeRules d i
  pub kept : IsKept i
  pub keeps : (o : Owned) → In (source_order (part_of i)) o → KeepsPorts o
  pub rests : RestRules i

-- rows of a node
module _ (d : PlainDesign) (i : Instance) (rules : SeamRules d i) (c : ℕ) (row : Row) (e : cell_at (cells_of i) c ≡ OfRow row) where
  of_row : RowOf (part_of i) c row
  of_row = rules.node.ports.rows c row e

  pub row_lawful : IsLawful row
  row_lawful = subst IsLawful of_row.is (row_of_lawful of_row.primitive)

  pub row_has_ports : HasRowPorts row
  row_has_ports = subst HasRowPorts of_row.is (row_ports of_row.primitive)

-- what rests in one tree of a component rests in another
row_alike : {a b : _} → AreAlike a b → (row : Row) → a ≡ OfRow row → b ≡ OfRow row
row_alike nothings row e = absurd cc
row_alike (rows r) row e = e
row_alike (instances a b f) row e = absurd cc

child_alike : {a b : _} → AreAlike a b → (child : Instance) → a ≡ OfInstance child → (other : Instance) × (b ≡ OfInstance other) × (part_of child ≡ part_of other)
child_alike nothings child e = absurd cc
child_alike (rows r) child e = absurd cc
child_alike (instances a b f) child e = (b, refl, ap part_of (same a child e) ∙ f)
  where
    same : (x y : Instance) → OfInstance x ≡ OfInstance y → y ≡ x
    same x y g = cc

rests_alike : (part : PlainComponent) (cells more : Cells) → ((c : ℕ) → AreAlike (cell_at cells c) (cell_at more c)) → {p : PortRef} → Rests (Node part cells) p → Rests (Node part more) p
rests_alike part cells more alike literal_rests = literal_rests
rests_alike part cells more alike input_rests = input_rests
rests_alike part cells more alike (registered_rests {c} {p} row at side) = registered_rests row (row_alike (alike c) row at) side
rests_alike part cells more alike (output_rests {c} {p} n child at port) = let k = child_alike (alike c) child at in output_rests n k.0 k.1 (ap (λ x. part_port x p) (sym k.2) ∙ port)
rests_alike part cells more alike (done_rests {c} {p} child at port) = let k = child_alike (alike c) child at in done_rests k.0 k.1 (ap (λ x. part_port x p) (sym k.2) ∙ port)
rests_alike part cells more alike (combinational_rests {c} {p} row at side none each) =
    combinational_rests row (row_alike (alike c) row at) side none (λ m a q w i t n. rests_alike part cells more alike (each m a q w i t n))

module _ (d : PlainDesign) (flat : IsFlat d) (accepted : IsAccepted d) (k : ℕ) (within : k < length d.components) where
  module _ (o : Owned) (i : In (source_order (component_at d k)) o) where
    done_rest : (g : ℕ) (q : PortRef) → o.assign.target ≡ ports.Done g → AssignNames o.assign q → (Rests (component_of d k) q → ⊥) → ⊥
    done_rest g q target names none =
        let n = number_in (source_order (component_at d k)) o i in
        accepted.shapes rules.DoneNotState (record { component = k; part = AnAssign n.0 }) o.assign.place (group_at (part_of (component_of d k)) g).name refl
        (record { within = within; number = n.0; is = refl; assign = o; stands = n.1; breaks = (g, target, (q, names, none), (refl, refl)) })

    output_rest : (m : ℕ) (q : PortRef) → o.assign.target ≡ ports.Output m → AssignNames o.assign q → (Rests (component_of d k) q → ⊥) → ⊥
    output_rest m q target names none =
        let n = number_in (source_order (component_at d k)) o i in
        accepted.shapes rules.OutputNotState (record { component = k; part = AnAssign n.0 }) o.assign.place (path_of (component_of d k) o.assign.target) refl
        (inl (record { within = within; number = n.0; is = refl; assign = o; stands = n.1; breaks = (m, target, (q, names, inl none), (refl, refl)) }))

    comb_rests : (g c p : ℕ) (row : Row) → o.owner ≡ Some g → is_comb (group_at (part_of (component_of d k)) g).kind ≡ true → o.assign.target ≡ ports.Cell c p → cell_at (cells_of (component_of d k)) c ≡ OfRow row → side_of row p ≡ sides.Enable → ⊥
    comb_rests g c p row owner comb target at side =
        let n = number_in (source_order (component_at d k)) o i in
        accepted.shapes rules.CombEnable (record { component = k; part = AnAssign n.0 }) o.assign.place (path_of (component_of d k) o.assign.target) refl
        (record { within = within; number = n.0; is = refl; assign = o; stands = n.1; breaks = (g, owner, comb, enables, (refl, refl)) })
      where
        enables : (is_primitive_enable (component_of d k) o.assign.target || is_part_port (component_of d k) o.assign.target || is_hole o.assign.target) ≡ true
        enables =
            ap (λ b. b || is_part_port (component_of d k) o.assign.target || is_hole o.assign.target)
            (ap (is_primitive_enable (component_of d k)) target ∙ ap (λ x. enables_at x p) at ∙ ap is_enable_side side)

  test_rest : (v : Visited) (written : Option ℕ) (test : PlacedPort) (a b : PlainStatement) → In (statements_in (component_at d k)) v → v.form ≡ StaticIf written test a b → (Rests (component_of d k) test.port → ⊥) → ⊥
  test_rest v written test a b i form none =
      let n = number_in (statements_in (component_at d k)) v i in
      accepted.shapes rules.StaticShape (record { component = k; part = AStatement n.0 }) v.place [] refl
      (inr (inr (inr (inl (record { within = within; number = n.0; is = refl; statement = v; stands = n.1; breaks = (written, test, a, b, form, none, (refl, refl)) })))))

  static_groups : (form : PlainForm) (place : Place) → In (statements_in (component_at d k)) (record { context = Dynamic; form = form; place = place }) → is_static form ≡ true → (g : ℕ) → In (groups_in form) g
      → is_some (group_length (component_at d k) g) ≡ true
  static_groups form place i static =
      IsStatic.static
      (static_form (component_at d k) (flat k within).no_invoke Dynamic form (static_may (component_at d k) form static)
      (λ w j. all_may d accepted k within w (visited Dynamic (component_at d k).control (record { context = Dynamic; form = form; place = place }) w i (inr j))))

  module _ (m n : ℕ) (count : length d.components ≡ suc n) where
    row_too : (c : ℕ) (row : Row) → cell_at (cells_of (tree_within d (suc m) k)) c ≡ OfRow row → cell_at (cells_of (component_of d k)) c ≡ OfRow row
    row_too c row e =
        subst (λ x. cell_at (cells_of (tree_within d x k)) c ≡ OfRow row) (sym count)
        (row_alike (cells_alike (tree_within d m) (tree_within d n) (λ j. same_part d m j ∙ sym (same_part d n j)) (component_at d k).cells c) row e)

    rests_too : (q : PortRef) → Rests (component_of d k) q → Rests (tree_within d (suc m) k) q
    rests_too q h =
        rests_alike (component_at d k) (cells_for (tree_within d n) (component_at d k).cells) (cells_for (tree_within d m) (component_at d k).cells)
        (cells_alike (tree_within d n) (tree_within d m) (λ j. same_part d n j ∙ sym (same_part d m j)) (component_at d k).cells) (subst (λ x. Rests (tree_within d x k) q) count h)

    tree_rests : RestRules (tree_within d (suc m) k)
    tree_rests = record {
      dones = λ o g q i target names none. done_rest o i g q target names (λ h. none (rests_too q h));
      outputs = λ o j q i target names none. output_rest o i j q target names (λ h. none (rests_too q h));
      statics = static_groups;
      tests = λ v written test a b i form none. test_rest v written test a b i form (λ h. none (rests_too test.port h));
      combs = λ o g c p row i owner comb target at side.
          comb_rests o i g c p row owner (ap (λ x. is_comb (group_at x g).kind) (same_part d (length d.components) k) ∙ comb) target (row_too c row at) side;
    }

no_static : (v : Visited) → In (statements_in no_component) v → (written : Option ℕ) (test : PlacedPort) (a b : PlainStatement) → v.form ≡ StaticIf written test a b → ⊥
no_static v (inl e) written test a b form = differ (ap (λ (w : Visited). w.form) e ∙ form)
  where
    differ : Empty ≡ StaticIf written test a b → ⊥
    differ f = cc
no_static v (inr i) written test a b form = absurd i

bare_form : (form : PlainForm) (place : Place) → In (statements_in no_component) (record { context = Dynamic; form = form; place = place }) → is_static form ≡ true → ⊥
bare_form form place (inl e) static = differ (ap (λ (w : Visited). is_static w.form) e ∙ static)
  where
    differ : false ≡ true → ⊥
    differ f = cc
bare_form form place (inr i) static = absurd i

-- EVERY INSTANCE of an accepted design's tree
pub seam_rules : (d : PlainDesign) → IsDesign d → IsFlat d → IsAccepted d → (path : Path) → SeamRules d (instance_at (tree_of d) path)
seam_rules d design flat accepted path = record { node = node_rules d design flat accepted path; kept = kept_instance d design accepted path; keeps = instance_ports d design path; rests = by (instance_whole d design path) }
  where
    by : {i : Instance} → IsWhole d i → RestRules i
    by (of_component m k within) = let n = some_components k (length d.components) within in tree_rests d flat accepted k within m n.0 n.1
    by of_nothing = record { dones = λ o g q i. absurd i; outputs = λ o n q i. absurd i; tests = λ v written test a b i form none. no_static v i written test a b form; statics = λ form place i static. absurd (bare_form form place i static); combs = λ o g c p row i. absurd i }
