-- TYPED COMPONENTS: each assignment and each bound input of an accepted design is.
use Rattle.std.proofs.Common.{◌≡◌, ℕ, zero, suc, ◌+◌, ◌<◌, ◌≤◌, inl, inr, ⊎_elim, Bool, true, false, List, [], ◌∷◌, length, get_or, Option, Some, None, if◌then◌else◌, refl, sym, ap, ◌∙◌, subst, arith}
use Rattle.std.proofs.lemmas.Bool.{false_from_ne_true}
use Rattle.cx_text.proofs.MemberLaws.{number_in}
use Rattle.cx_text.specs.declared.rules.Rule.TheVariants as rules
use Rattle.cx_text.proofs.BoolLaws.{or_either}
use Rattle.cx_meaning.specs.declared.ports.PortRef.{PortRef}
use Rattle.cx_meaning.specs.declared.ports.PortRef.TheVariants as ports
use Rattle.cx_meaning.specs.declared.ports.PlacedPort.{PlacedPort}
use Rattle.cx_meaning.specs.Designs.{OfComponent, PlainAssign, PlainInvoke, PlainComponent, PlainDesign, component_at}
use Rattle.cx_meaning.specs.Instances.{Instance, Node, Cells, no_cells, a_primitive, an_instance, OfInstance, part_of, cells_of, cell_at, cells_for, tree_within}
use Rattle.cx_meaning.specs.Active.{same_port, source_order}
use Rattle.cx_text.specs.Members.{In}
use Rattle.cx_meaning.proofs.SightsLaws.{input_at}
use Rattle.cx_meaning.proofs.PortsLemmas.{same_self}
use Rattle.cx_laws.proofs.TreeLemmas.{cell_there, declared_there}
use Rattle.cx_rules.specs.Accepted.{IsAccepted}
use Rattle.cx_rules.specs.Footprints.{AssignNames}
use Rattle.cx_rules.specs.Items.{atoms_of, comparisons_of, sources_of, Dynamic, Visited, statements_in, test_in}
use Rattle.cx_rules.specs.Ports.{component_of, path_of, keeps_literal, declared_width, part_width, cell_width, width_of}
use Rattle.cx_rules.specs.ShapeRules.{some_target}
use Rattle.cx_rules.specs.InvokeShape.{input_port}
use Rattle.cx_rules.specs.Spots.{ABind, AnAssign, AStatement, binds_in}
use Rattle.cx_rules.specs.Wellformed.{IsThere, StandsIn, IsDesign}
use Rattle.cx_rules.specs.WidthRules.{pairs_of, first_unequal, is_wide, first_wide, IsBadLiteral}
use Rattle.cx_rules.proofs.FoundLemmas.{same_is, source_in as names_source}
use Rattle.cx_flattening.specs.Events.{no_invoke, source_in, source_to}
use Rattle.cx_flattening.specs.Whole.{is_static}
use Rattle.cx_flattening.specs.Ends.{NoneNamesDone}
use Rattle.cx_flattening.specs.Fair.{IsFair}
use Rattle.cx_flattening.proofs.CellLayout.{kind_at, cell_for, kind_in}
use Rattle.cx_flattening.proofs.TreeLevels.{IsWay, further, way_is_short, levels}
use Rattle.cx_flattening.proofs.Ruled.{owner_is, in_order, bind_in, IsSource, IsRuled}
use Rattle.cx_flattening.proofs.FairParts.{HasCells, named, drives_own, input_bound}
use Rattle.cx_flattening.proofs.AcceptedTrees.{child_kind, has_cells, ruled_tree, good_tree}
use Rattle.cx_flattening.proofs.Typed.{Typed, equal_widths, unequal_head, assign_typed}
use Rattle.cx_flattening.proofs.TypedTests.{visited, Tested, AllTested, TestedBelow}
use Rattle.cx_flattening.proofs.FlatTyped.{Allows, OwnSource, OwnTargets, Calls, Every, IsTyped, AllTyped, TypedBelow}
use Rattle.cx_rules.proofs.PortsLemmas.{declared_less}
use Rattle.cx_rules.proofs.WidthRulesLemmas.{bit_width}

-- WHAT THE RULES of stage 3 keep
pub record IsWide (part : PlainComponent) (i : Instance) : Type 0 where
  pub equal : (owner : Option ℕ) (a : PlainAssign) → StandsIn part owner a → first_unequal i (pairs_of a) ≡ None
  pub bits : (owner : Option ℕ) (a : PlainAssign) → StandsIn part owner a → first_wide i (atoms_of a.guard) ≡ None
  pub literals : (owner : Option ℕ) (a : PlainAssign) (p : PlacedPort) → StandsIn part owner a → In (sources_of a) p → IsBadLiteral p.port → ⊥
  pub bound : (v : PlainInvoke) (a : PlainAssign) → In part.invokes v → In v.inputs a → first_unequal i (pairs_of a) ≡ None
  pub bound_literals : (v : PlainInvoke) (a : PlainAssign) → In part.invokes v → In v.inputs a → IsBadLiteral a.source.port → ⊥
  pub tests : (v : Visited) (p : PlacedPort) → In (statements_in part) v → test_in v.form ≡ Some p → is_wide i p.port ≡ false
  pub test_literals : (v : Visited) (p : PlacedPort) → In (statements_in part) v → test_in v.form ≡ Some p → IsBadLiteral p.port → ⊥

none_found : {A : Type 0} (o : Option A) → ((x : A) → o ≡ Some x → ⊥) → o ≡ None
none_found None never = refl
none_found (Some x) never = absurd (never x refl)

module _ (d : PlainDesign) (accepted : IsAccepted d) (k : ℕ) (within : k < length d.components) where
  abbrev the_part : PlainComponent
  the_part = component_at d k

  abbrev whole : Instance
  whole = component_of d k

  wide_component : IsWide the_part whole
  wide_component = record {
    equal = λ owner a s. none_found (first_unequal whole (pairs_of a)) (λ port e.
        let n = number_in (source_order the_part) (record { owner = owner; assign = a }) (in_order the_part owner a s) in
        accepted.widths rules.Width (record { component = k; part = AnAssign n.0 }) a.place (path_of whole port) refl
        (inl (record { within = within; number = n.0; is = refl; assign = record { owner = owner; assign = a }; stands = n.1; breaks = (port, e, (refl, refl)) })));
    bits = λ owner a s. none_found (first_wide whole (atoms_of a.guard)) (λ port e.
        let n = number_in (source_order the_part) (record { owner = owner; assign = a }) (in_order the_part owner a s) in
        accepted.widths rules.GuardWidth (record { component = k; part = AnAssign n.0 }) a.place (path_of whole port) refl
        (inl (record { within = within; number = n.0; is = refl; assign = record { owner = owner; assign = a }; stands = n.1; breaks = (port, e, (refl, refl)) })));
    literals = λ owner a p s j bad.
        let n = number_in (source_order the_part) (record { owner = owner; assign = a }) (in_order the_part owner a s) in
        accepted.widths rules.Literal (record { component = k; part = AnAssign n.0 }) p.place [] refl
        (inl (record { within = within; number = n.0; is = refl; assign = record { owner = owner; assign = a }; stands = n.1; breaks = (p, j, bad, (refl, refl)) }));
    bound = λ v a j m. none_found (first_unequal whole (pairs_of a)) (λ port e.
        let n = number_in (binds_in the_part) a (bind_in the_part.invokes v a j m) in
        accepted.widths rules.Width (record { component = k; part = ABind n.0 }) a.place (path_of whole port) refl
        (inr (record { within = within; number = n.0; is = refl; assign = a; stands = n.1; breaks = (port, e, (refl, refl)) })));
    bound_literals = λ v a j m bad.
        let n = number_in (binds_in the_part) a (bind_in the_part.invokes v a j m) in
        accepted.widths rules.Literal (record { component = k; part = ABind n.0 }) a.source.place [] refl
        (inr (inr (record { within = within; number = n.0; is = refl; assign = a; stands = n.1; breaks = (a.source, inl refl, bad, (refl, refl)) })));
    tests = λ v p j e. false_from_ne_true (is_wide whole p.port) (λ bad.
        let n = number_in (statements_in the_part) v j in
        accepted.widths rules.GuardWidth (record { component = k; part = AStatement n.0 }) v.place (path_of whole p.port) refl
        (inr (inl (record { within = within; number = n.0; is = refl; statement = v; stands = n.1; breaks = (p, e, bad, (refl, refl)) }))));
    test_literals = λ v p j e bad.
        let n = number_in (statements_in the_part) v j in
        accepted.widths rules.Literal (record { component = k; part = AStatement n.0 }) p.place [] refl
        (inr (inl (record { within = within; number = n.0; is = refl; statement = v; stands = n.1; breaks = (p, e, bad, (refl, refl)) })));
  }

-- WIDTHS of ports that are there
literal_there : (b : Bool) (x : ℕ) → (b ≡ false → ⊥) → (w : ℕ) × ((if b then Some x else None) ≡ Some w)
literal_there true x good = (x, refl)
literal_there false x good = absurd (good refl)

port_width : (i : Instance) (q : PortRef) → IsThere i q → (IsBadLiteral q → ⊥) → (w : ℕ) × (width_of i q ≡ Some w)
port_width i (ports.Cell c p) there good = cell_there (cell_at (cells_of i) c) p there.1
port_width i (ports.Input n) there good = declared_there (part_of i).inputs n there
port_width i (ports.Output n) there good = declared_there (part_of i).outputs n there
port_width i (ports.Done g) there good = (1, refl)
port_width i (ports.Literal x v) there good = literal_there (keeps_literal x v) x (λ e. good (x, v, refl, e))

-- a source that is bound to the port
bound_to : (P : PortRef → Type 0) (c : ℕ) (q : PortRef) (inputs : List PlainAssign) → some_target (same_port q) inputs ≡ true → ((a : PlainAssign) → In inputs a → a.target ≡ q → P a.source.port) → P (source_in c inputs q)
bound_to P c q [] bound each = absurd (let e : false ≡ true = bound in cc)
bound_to P c q (a ∷ rest) bound each = by (same_port a.target q) refl (λ e. bound_to P c q rest e (λ b i f. each b (inr i) f))
  where
    later : same_port a.target q ≡ false → some_target (same_port q) rest ≡ true
    later apart =
        ⊎_elim
        (λ (e : same_port q a.target ≡ true). absurd (let clash : true ≡ false = sym (ap (λ x. same_port x q) (sym (same_is q a.target e)) ∙ same_self q) ∙ apart in cc))
        (λ (e : some_target (same_port q) rest ≡ true). e)
        (or_either (same_port q a.target) (some_target (same_port q) rest) bound)

    by : (b : Bool) → same_port a.target q ≡ b → (some_target (same_port q) rest ≡ true → P (source_in c rest q)) → P (if b then a.source.port else source_in c rest q)
    by true e next = each a (inl refl) (same_is a.target q e)
    by false e next = next (later e)

pub invoke_number : (xs : List PlainInvoke) (v : PlainInvoke) → In xs v → (j : ℕ) × (j < length xs) × (get_or xs j no_invoke ≡ v)
invoke_number [] v i = absurd i
invoke_number (x ∷ xs) v (inl e) = (0, omega arith, e)
invoke_number (x ∷ xs) v (inr i) = let r = invoke_number xs v i in (suc r.0, (let h = r.1 in omega (arith, h)), r.2)

module _ (part : PlainComponent) (cells : Cells) (rules_of : IsRuled part (Node part cells)) (has : HasCells part cells) (fair : IsFair (Node part cells)) (wide : IsWide part (Node part cells)) where
  abbrev i : Instance
  i = Node part cells

  every : (q : PortRef) → Allows Every q
  every (ports.Cell c p) = tt
  every (ports.Input n) = tt
  every (ports.Output n) = tt
  every (ports.Done g) = tt
  every (ports.Literal w v) = tt

  calls : (a : PlainAssign) (q : PortRef) → In part.always a → AssignNames a q → Allows (Calls i) q
  calls a (ports.Cell c p) j names = tt
  calls a (ports.Input n) j names = by (is_static i) refl
    where
      by : (b : Bool) → is_static i ≡ b → b ≡ false
      by true static = absurd (fair.kept static a n j names)
      by false dynamic = refl
  calls a (ports.Output n) j names = tt
  calls a (ports.Done g) j names = tt
  calls a (ports.Literal w v) j names = tt

  a_source : (inputs : ℕ → Type 0) (q : PortRef) → IsSource i q → (IsBadLiteral q → ⊥) → Allows inputs q → (w : ℕ) × OwnSource i inputs w q
  a_source inputs q s good allows = let w = port_width i q s.there good in (w.0, ((w.1, s.no_target), named part cells rules_of has q s, allows))

  one_typed : (inputs : ℕ → Type 0) (owner : Option ℕ) (a : PlainAssign) → StandsIn part owner a → ((q : PortRef) → AssignNames a q → Allows inputs q) → Typed (OwnSource i inputs) (OwnTargets i) a
  one_typed inputs owner a s allows =
      let is = rules_of.assigns owner a s in
      let w = port_width i a.target is.target (λ bad. is.no_literal bad.0 bad.1 bad.2) in
      assign_typed i (OwnSource i inputs) (OwnTargets i) (λ x p h. h.0.0) a w.0 ((w.1, rules_of.target owner a s), drives_own part cells rules_of has owner a s) w.1
      (λ q names. a_source inputs q (rules_of.sources owner a q s names)
      (λ bad. let r = names_source a q names in wide.literals owner a r.0 s r.1 (subst IsBadLiteral (sym r.2) bad)) (allows q names))
      (wide.equal owner a s) (wide.bits owner a s)

  bind_typed : (v : PlainInvoke) (child : Instance) (n w : ℕ) → In part.invokes v → cell_at cells v.cell ≡ OfInstance child → declared_width (part_of child).inputs n ≡ Some w → OwnSource i Every w (source_to v.cell v.inputs n)
  bind_typed v child n w j at is =
      bound_to (OwnSource i Every w) v.cell (input_port v.cell n) v.inputs bound
      (λ a m target.
      let s = a_source Every a.source.port (rules_of.inputs v a j m) (wide.bound_literals v a j m) (every a.source.port) in
      let h = unequal_head i (record { first = a.target; second = a.source.port }) (comparisons_of a.guard) (wide.bound v a j m) in
      let same = equal_widths i a.target a.source.port w s.0
      (ap (width_of i) target ∙ ap (λ x. cell_width x (suc n)) at ∙ ap (part_width (part_of child)) (input_at (part_of child) n less) ∙ is) s.1.0.0 h.0 in
      subst (λ x. OwnSource i Every x a.source.port) (sym same) s.1)
    where
      less : n < length (part_of child).inputs
      less = declared_less (part_of child).inputs n w is

      bound : some_target (same_port (input_port v.cell n)) v.inputs ≡ true
      bound =
          let r = invoke_number part.invokes v j in
          subst (λ (x : PlainInvoke). some_target (same_port (input_port x.cell n)) x.inputs ≡ true) r.2
          (input_bound part cells rules_of has r.0 n child r.1 (ap (λ (x : PlainInvoke). cell_at cells x.cell) r.2 ∙ at) less)

  pub typed_part : IsTyped i
  typed_part = record {
    always = λ a j. one_typed (Calls i) None a j (λ q names. calls a q j names);
    groups = λ x a j m. let o = owner_is part a (inr (x, j, m)) in one_typed Every o.0 a o.1 (λ q names. every q);
    binds = bind_typed;
  }

  pub tested_part : Tested i
  tested_part =
      visited (OwnSource i Every 1) Dynamic part.control
      (λ v p j e.
      let s = a_source Every p.port (rules_of.tests v p j e) (wide.test_literals v p j e) (every p.port) in
      subst (λ w. OwnSource i Every w p.port) (bit_width i p.port s.0 s.1.0.0 (wide.tests v p j e)) s.1)

-- EVERY INSTANCE of a tree
tested_below : (cells : Cells) → ((c : ℕ) (child : Instance) → cell_at cells c ≡ OfInstance child → AllTested child) → TestedBelow cells
tested_below no_cells h = tt
tested_below (a_primitive row rest) h = tested_below rest (λ c child at. h (suc c) child at)
tested_below (an_instance child rest) h = (h 0 child refl, tested_below rest (λ c other at. h (suc c) other at))

typed_below : (cells : Cells) → ((c : ℕ) (child : Instance) → cell_at cells c ≡ OfInstance child → AllTyped child) → TypedBelow cells
typed_below no_cells h = tt
typed_below (a_primitive row rest) h = typed_below rest (λ c child at. h (suc c) child at)
typed_below (an_instance child rest) h = (h 0 child refl, typed_below rest (λ c other at. h (suc c) other at))

module _ (d : PlainDesign) (design : IsDesign d) (accepted : IsAccepted d) (undone : NoneNamesDone d) where
  wide_tree : (n k : ℕ) (path : List ℕ) → IsWay d design path k → length d.components ≤ n + length path → IsWide (component_at d k) (tree_within d n k)
  wide_tree n k path way many =
      subst (IsWide (component_at d k))
      (levels d design (length d.components) (n + length d.components) path k way (omega arith) (omega arith) ∙ sym (levels d design n (n + length d.components) path k way many (omega arith)))
      (wide_component d accepted k (way.there k (inl refl)))

  pub typed_tree : (n k : ℕ) (path : List ℕ) → IsWay d design path k → length d.components ≤ n + length path → AllTyped (tree_within d n k)
  typed_tree zero k path way many = absurd (let short = way_is_short d design path k way in omega (arith, short, many))
  typed_tree (suc n) k path way many = (
    typed_part (component_at d k) (cells_for (tree_within d n) (component_at d k).cells) (ruled_tree d design accepted undone (suc n) k path way many) (has_cells (tree_within d n) (component_at d k))
        (good_tree d design accepted undone (suc n) k path way many).fair.0 (wide_tree (suc n) k path way many),
    typed_below (cells_for (tree_within d n) (component_at d k).cells)
        (λ c child at.
        let r = child_kind (tree_within d n) (kind_at (component_at d k).cells c) child (sym (cell_for (tree_within d n) (component_at d k).cells c) ∙ at) in
        let cell = kind_in (component_at d k).cells c (OfComponent r.0) r.1 in
        subst AllTyped r.2 (typed_tree n r.0 (k ∷ path) (further d design path k r.0 cell.0 way cell.1 cell.2) (omega (arith, many)))),
  )

  pub tested_tree : (n k : ℕ) (path : List ℕ) → IsWay d design path k → length d.components ≤ n + length path → AllTested (tree_within d n k)
  tested_tree zero k path way many = absurd (let short = way_is_short d design path k way in omega (arith, short, many))
  tested_tree (suc n) k path way many = (
    tested_part (component_at d k) (cells_for (tree_within d n) (component_at d k).cells) (ruled_tree d design accepted undone (suc n) k path way many) (has_cells (tree_within d n) (component_at d k))
        (good_tree d design accepted undone (suc n) k path way many).fair.0 (wide_tree (suc n) k path way many),
    tested_below (cells_for (tree_within d n) (component_at d k).cells)
        (λ c child at.
        let r = child_kind (tree_within d n) (kind_at (component_at d k).cells c) child (sym (cell_for (tree_within d n) (component_at d k).cells c) ∙ at) in
        let cell = kind_in (component_at d k).cells c (OfComponent r.0) r.1 in
        subst AllTested r.2 (tested_tree n r.0 (k ∷ path) (further d design path k r.0 cell.0 way cell.1 cell.2) (omega (arith, many)))),
  )
