-- The assignments of a component's text keep what a design keeps.
use Rattle.std.proofs.Common.{◌≡◌, ℕ, Bool, true, false, ◌||◌, ◌&&◌, is_some, is_none, List, [], ◌++◌, Option, Some, None, map, flat_map, slice_get, codes, nat_eq, ◌⊎◌, inl, inr, ⊎_elim, refl, sym, ap, ◌∙◌, subst, true≢false}
use Rattle.cx_text.proofs.MemberLaws.{image_in}
use Rattle.cx_ast.specs.declared.operands.OperandForm.{OperandForm}
use Rattle.cx_ast.specs.declared.operands.OperandForm.TheVariants as operands
use Rattle.cx_ast.specs.PlainGuards as guards
use Rattle.cx_ast.specs.PlainTree as ast
use Rattle.cx_ast.specs.PlainTree.{PlainTree}
use Rattle.cx_meaning.specs.declared.ports.PortRef.TheVariants as ports
use Rattle.cx_meaning.specs.declared.ports.PlacedPort.{PlacedPort}
use Rattle.cx_meaning.specs.Designs.{Always}
use Rattle.cx_text.specs.Members.{In}
use Rattle.cx_rules.specs.Items.{sources_of}
use Rattle.cx_rules.specs.Items as items
use Rattle.cx_rules.specs.Ports.{component_of as instance_of}
use Rattle.cx_rules.specs.Wellformed.{IsAssign}
use Rattle.cx_numbering.specs.Names.{same_name, number_of, is_among, is_own_name, port_names, group_names}
use Rattle.cx_numbering.specs.DesignOf.{number_or_0, own_port, port_of, placed_of, guard_of, guards_in, guard_or_always, assign_of, design_of}
use Rattle.cx_numbering.specs.NameRules as rules
use Rattle.cx_numbering.specs.NameRules.{Standing, source_breaks, unknown, assign_breaks, guard_operands, is_own, is_group, is_unknown, is_left_out, is_wrong_target, is_bare_done, is_one}
use Rattle.cx_numbering.proofs.NamesLemmas.{same_name-true}
use Rattle.cx_names.specs.Targets.{is_literal}
use Rattle.cx_names.proofs.Base.{append_none, flat_none, tell_none, map_append}
use Rattle.cx_names.proofs.NumberLemmas.{or_0}
use Rattle.cx_names.proofs.There.{IsSource, source_there, form_there}
use Rattle.std.proofs.lemmas.Bool.{or_parts}
use Rattle.cx_text.proofs.BoolLaws.{or_either, not_not}

module _ (tree : PlainTree) (part : ast.PlainComponent) where
  -- what a guard looks at
  mutual
    pub guard_sources : (g : guards.PlainGuard) → items.operands_of (guard_of tree part g) ≡ map (placed_of tree part) (rules.operands_of g)
    guard_sources (guards.Or gs) = guards_sources gs
    guard_sources (guards.And gs) = guards_sources gs
    guard_sources (guards.Compare c left right) = refl
    guard_sources (guards.Not g) = guard_sources g
    guard_sources (guards.Operand o) = refl
    guard_sources (guards.At n) = refl
    guard_sources (guards.During from to) = refl

    guards_sources : (gs : guards.PlainGuards) → items.operands_in (guards_in tree part gs) ≡ map (placed_of tree part) (rules.operands_in gs)
    guards_sources guards.NoGuards = refl
    guards_sources (guards.GuardThen g gs) =
        ap (λ xs. xs ++ items.operands_in (guards_in tree part gs)) (guard_sources g)
        ∙ ap (λ xs. map (placed_of tree part) (rules.operands_of g) ++ xs) (guards_sources gs)
        ∙ sym (map_append (placed_of tree part) (rules.operands_of g) (rules.operands_in gs))

  -- the group that an assignment stands in, by name and by number
  abbrev pub Owns : Option (List ℕ) → Option ℕ → Type 0
  Owns None None = Unit {0}
  Owns None (Some g) = ⊥
  Owns (Some name) None = ⊥
  Owns (Some name) (Some g) = number_of name (group_names part) ≡ Some g

  no_literal_of : (form : OperandForm) → is_literal form ≡ false → (w v : ℕ) → port_of tree part form ≡ ports.Literal w v → ⊥
  no_literal_of (operands.Own name) h w v e = by (number_of name (port_names part.inputs)) e
    where
      by : (o : Option ℕ) → own_port o (number_or_0 name (port_names part.outputs)) ≡ ports.Literal w v → ⊥
      by None e = absurd cc
      by (Some n) e = absurd cc
  no_literal_of (operands.Port cell port) h w v e = absurd cc
  no_literal_of (operands.Hole group hole) h w v e = absurd cc
  no_literal_of (operands.Literal width value) h w v e = true≢false h

  own_hole_of : (form : OperandForm) (group : Option (List ℕ)) (owner : Option ℕ) → Owns group owner → is_wrong_target tree part group form ≡ false → (g : ℕ) → port_of tree part form ≡ ports.Done g → owner ≡ Some g
  own_hole_of (operands.Own name) group owner owns h g e = by (number_of name (port_names part.inputs)) e
    where
      by : (o : Option ℕ) → own_port o (number_or_0 name (port_names part.outputs)) ≡ ports.Done g → owner ≡ Some g
      by None e = absurd cc
      by (Some n) e = absurd cc
  own_hole_of (operands.Port cell port) group owner owns h g e = absurd cc
  own_hole_of (operands.Hole name hole) None owner owns h g e = absurd (true≢false (sym (not_not _ (or_parts (same_name hole (codes "go")) _ h).1)))
  own_hole_of (operands.Hole name hole) (Some own) None owns h g e = absurd owns
  own_hole_of (operands.Hole name hole) (Some own) (Some n) owns h g e =
      let same : own ≡ name = same_name-true own name (not_not _ (or_parts (same_name hole (codes "go")) _ h).1) in
      let number : number_or_0 name (group_names part) ≡ g = cc in
      ap Some (sym (or_0 own (group_names part) n owns) ∙ ap (λ m. number_or_0 m (group_names part)) same ∙ number)
  own_hole_of (operands.Literal width value) group owner owns h g e = absurd cc

  output_of : (form : OperandForm) (group : Option (List ℕ)) (owner : Option ℕ) → Owns group owner → is_wrong_target tree part group form ≡ false → is_unknown tree part form ≡ false → is_left_out tree part form ≡ false
      → (n : ℕ) → port_of tree part form ≡ ports.Output n → owner ≡ None
  output_of (operands.Own name) None None owns h known kept n e = refl
  output_of (operands.Own name) None (Some g) owns h known kept n e = absurd owns
  output_of (operands.Own name) (Some group) owner owns h known kept n e =
      absurd
      (by (number_of name (port_names part.inputs)) refl e
      (or_either (is_among name (port_names part.inputs)) (is_among name (port_names part.outputs))
      (⊎_elim (λ i. i) (λ o. absurd (true≢false (sym o ∙ kept))) (or_either (is_own tree part name) (is_own_name name) (not_not _ known)))))
    where
      by : (o : Option ℕ) → number_of name (port_names part.inputs) ≡ o → own_port o (number_or_0 name (port_names part.outputs)) ≡ ports.Output n → (is_among name (port_names part.inputs) ≡ true) ⊎ (is_among name (port_names part.outputs) ≡ true) → ⊥
      by (Some i) e p s = absurd cc
      by None e p (inl i) = true≢false (sym i ∙ ap is_some e)
      by None e p (inr o) = true≢false (sym o ∙ h)
  output_of (operands.Port cell port) group owner owns h known kept n e = absurd cc
  output_of (operands.Hole name hole) group owner owns h known kept n e = absurd cc
  output_of (operands.Literal width value) group owner owns h known kept n e = absurd cc

  hole_of : (form : OperandForm) (g : ℕ) → port_of tree part form ≡ ports.Done g → rules.is_hole tree part form ≡ true
  hole_of (operands.Own name) g e = by (number_of name (port_names part.inputs)) e
    where
      by : (o : Option ℕ) → own_port o (number_or_0 name (port_names part.outputs)) ≡ ports.Done g → false ≡ true
      by None e = absurd cc
      by (Some n) e = absurd cc
  hole_of (operands.Port cell port) g e = absurd cc
  hole_of (operands.Hole group hole) g e = refl
  hole_of (operands.Literal width value) g e = absurd cc

  bare_of : (guard : Option guards.PlainGuard) → guard_or_always tree part guard ≡ Always → is_none guard ≡ true
  bare_of None e = refl
  bare_of (Some (guards.Or gs)) e = absurd cc
  bare_of (Some (guards.And gs)) e = absurd cc
  bare_of (Some (guards.Compare c left right)) e = absurd cc
  bare_of (Some (guards.Not g)) e = absurd cc
  bare_of (Some (guards.Operand o)) e = absurd cc
  bare_of (Some (guards.At n)) e = absurd cc
  bare_of (Some (guards.During from to)) e = absurd cc

  one_of : (form : OperandForm) → port_of tree part form ≡ ports.Literal 1 1 → is_one tree part form ≡ true
  one_of (operands.Own name) e = by (number_of name (port_names part.inputs)) e
    where
      by : (o : Option ℕ) → own_port o (number_or_0 name (port_names part.outputs)) ≡ ports.Literal 1 1 → false ≡ true
      by None e = absurd cc
      by (Some n) e = absurd cc
  one_of (operands.Port cell port) e = absurd cc
  one_of (operands.Hole group hole) e = absurd cc
  one_of (operands.Literal width value) e =
      let w : width ≡ 1 = cc in let v : value ≡ 1 = cc in ap (λ n. nat_eq n 1 && nat_eq value 1) w ∙ ap (λ n. nat_eq n 1) v

  no_bare_of : (a : ast.PlainAssign) → is_bare_done tree part a ≡ false → (g : ℕ) → port_of tree part a.target.form ≡ ports.Done g → guard_or_always tree part a.guard ≡ Always → port_of tree part a.source.form ≡ ports.Literal 1 1 → ⊥
  no_bare_of a h g e always one =
      all (rules.is_hole tree part a.target.form) (is_none a.guard) (is_one tree part a.source.form) (hole_of a.target.form g e) (bare_of a.guard always) (one_of a.source.form one) h
    where
      all : (x y z : Bool) → x ≡ true → y ≡ true → z ≡ true → (x && y && z) ≡ false → ⊥
      all true true true p q r h = true≢false h
      all false y z p q r h = true≢false (sym p)
      all true false z p q r h = true≢false (sym q)
      all true true false p q r h = true≢false (sym r)

module _ (tree : PlainTree) (k : ℕ) (part : ast.PlainComponent) (at : slice_get tree.components k ≡ Some part) where
  pub sources_kept : (a : ast.PlainAssign) → source_breaks tree part a.source ≡ [] → flat_map (source_breaks tree part) (guard_operands a.guard) ≡ [] → (p : PlacedPort) → In (sources_of (assign_of tree part a)) p → IsSource tree k part at p.port
  sources_kept a one rest p (inl e) = subst (λ q. IsSource tree k part at q.port) e (source_there tree k part at a.source one)
  sources_kept a one rest p (inr i) = by a.guard rest i
    where
      by : (g : Option guards.PlainGuard) → flat_map (source_breaks tree part) (guard_operands g) ≡ [] → In (items.operands_of (guard_or_always tree part g)) p → IsSource tree k part at p.port
      by None none i = absurd i
      by (Some g) none i =
          let found = image_in (placed_of tree part) (rules.operands_of g) p (subst (λ xs. In xs p) (guard_sources tree part g) i) in
          subst (λ q. IsSource tree k part at q.port) found.2 (source_there tree k part at found.0 (flat_none (source_breaks tree part) (rules.operands_of g) none found.0 found.1))

  pub assign_kept : (x : Standing) (owner : Option ℕ) → Owns tree part x.group owner → is_literal x.assign.target.form ≡ false → assign_breaks tree part x ≡ [] → IsAssign (instance_of (design_of tree) k) owner (assign_of tree part x.assign)
  assign_kept x owner owns literal h =
      let form = x.assign.target.form in
      let three = append_none _ (flat_map (source_breaks tree part) (guard_operands x.assign.guard)) h in
      let two = append_none _ (source_breaks tree part x.assign.source) three.0 in
      let one = append_none (unknown tree part x.assign.target) _ two.0 in
      let known = tell_none _ _ _ _ one.0 in
      let left = or_parts (is_left_out tree part form || is_wrong_target tree part x.group form) (is_bare_done tree part x.assign) (tell_none _ _ _ _ one.1) in
      let target = or_parts (is_left_out tree part form) (is_wrong_target tree part x.group form) left.0 in
      let source = sources_kept x.assign two.1 three.1 in
      record {
        target = form_there tree k part at form known target.0;
        no_literal = no_literal_of tree part form literal;
        own_hole = own_hole_of tree part form x.group owner owns target.1;
        no_bare_done = no_bare_of tree part x.assign left.1;
        output_outside = output_of tree part form x.group owner owns target.1 known target.0;
        sources = λ p i. (source p i).there;
        no_hole = λ p i. (source p i).no_hole;
      }
