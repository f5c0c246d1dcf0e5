-- Cells, ports and assignments of a component of the design.
use Rattle.std.proofs.Common.{◌≡◌, ◌≢◌, ℕ, zero, suc, Bool, true, false, not, ◌||◌, ◌&&◌, cond, nat_le, nat_eq, is_some, List, [], ◌∷◌, ◌++◌, Option, Some, None, length, map, option_map, slice_get, codes, inl, inr, ⊎_elim, refl, sym, ap, ◌∙◌, subst, arith, true≢false}
use Rattle.std.proofs.lemmas.Bool.{leb-true, or_parts}
use Rattle.std.proofs.lemmas.List.{length-map}
use Rattle.std.proofs.lemmas.Option.{slice_get-map, slice_get_within}
use Rattle.cx_text.proofs.MemberLaws.{image_in, in_image}
use Rattle.cx_prim.specs.declared.names.PrimitiveName.{PrimitiveName}
use Rattle.cx_prim.specs.declared.names.PrimitiveName.TheVariants as primitives
use Rattle.cx_prim.specs.PrimitiveNames.{name_text}
use Rattle.cx_prim.specs.Table.{PrimitiveRow, row_of}
use Rattle.cx_ast.specs.PlainTree as ast
use Rattle.cx_ast.specs.PlainTree.{PlainTree}
use Rattle.cx_meaning.specs.declared.kinds.PortDecl.{PortDecl}
use Rattle.cx_meaning.specs.Designs.{PlainGroup}
use Rattle.cx_text.specs.Members.{In}
use Rattle.cx_rules.specs.Wellformed.{IsCell, IsPort, AreApart, is_memory, first_number}
use Rattle.cx_numbering.specs.Names.{is_own_name, if_not_own, signature_ports, port_names, component_names, cell_names, groups_in, group_names, component_among, CellOf, Neither, APrimitive, AComponent, cell_of, primitive_of, primitive_or, is_external}
use Rattle.cx_numbering.specs.DesignOf.{Invoke, Next, first, group_of, invoke_groups, control_invokes, kind_or, plain_cell_of, decl_of, component_of, design_of}
use Rattle.cx_numbering.specs.NameRules as rules
use Rattle.cx_numbering.specs.NameRules.{Standing, standing, named, duplicates, visit_block, is_main, is_narrow_memory, kind_breaks, external_breaks, port_breaks, is_wrong_port, has_other_attribute, is_on_side, primitive_named, component_duplicates, form_breaks}
use Rattle.cx_numbering.proofs.NamesLemmas.{same_name-true}
use Rattle.cx_names.proofs.Base.{append_none, tell_none, map_map, map_append, Distinct, distinct_from, apart, at_either}
use Rattle.cx_names.proofs.Kept.{KeptPart}
use Rattle.cx_names.proofs.NumberLemmas.{or_0, number_is, part_found}
use Rattle.cx_names.proofs.Primitives.{no_timer, nameable}
use Rattle.cx_names.proofs.There.{of_component}
use Rattle.cx_names.proofs.Circles.{KeptCell}
use Rattle.cx_names.proofs.InvokeLemmas.{row_kept}
use Rattle.cx_names.proofs.Splits.{group_of_invoke}
use Rattle.cx_text.proofs.BoolLaws.{not_not, and_both}

-- PORTS of a signature
signature_in : (list : List ast.PlainPort) (port : ast.PlainPort) → In (signature_ports list) port → In list port × (is_own_name port.name ≡ false)
signature_in [] port i = absurd i
signature_in (p ∷ rest) port i = by (is_own_name p.name) refl i (signature_in rest port)
  where
    by : (b : Bool) → is_own_name p.name ≡ b → In (if_not_own b p (signature_ports rest)) port → (In (signature_ports rest) port → In rest port × (is_own_name port.name ≡ false)) → In (p ∷ rest) port × (is_own_name port.name ≡ false)
    by true e i next = let found = next i in (inr found.0, found.1)
    by false e (inl same) next = (inl same, ap (λ q. is_own_name q.name) (sym same) ∙ e)
    by false e (inr j) next = let found = next j in (inr found.0, found.1)

signature_none : (list : List ast.PlainPort) → ((port : ast.PlainPort) → In list port → is_own_name port.name ≡ true) → signature_ports list ≡ []
signature_none [] h = refl
signature_none (p ∷ rest) h = ap (λ b. if_not_own b p (signature_ports rest)) (h p (inl refl)) ∙ signature_none rest (λ port i. h port (inr i))

signature_append : (xs ys : List ast.PlainPort) → signature_ports (xs ++ ys) ≡ signature_ports xs ++ signature_ports ys
signature_append [] ys = refl
signature_append (p ∷ xs) ys = ap (if_not_own (is_own_name p.name) p) (signature_append xs ys) ∙ by (is_own_name p.name)
  where
    by : (b : Bool) → if_not_own b p (signature_ports xs ++ signature_ports ys) ≡ if_not_own b p (signature_ports xs) ++ signature_ports ys
    by true = refl
    by false = refl

names_in : (list : List ast.PlainPort) (n : List ℕ) → In (port_names list) n → In (map (λ p. p.name) list) n
names_in list n i =
    let found = image_in (λ p. p.name) (signature_ports list) n i in
    subst (λ m. In (map (λ p. p.name) list) m) found.2 (in_image (λ p. p.name) list found.0 (signature_in list found.0 found.1).0)

distinct_signature : (list : List ast.PlainPort) → Distinct (map (λ p. p.name) list) → Distinct (port_names list)
distinct_signature [] d = tt
distinct_signature (p ∷ rest) d = by (is_own_name p.name) (distinct_signature rest d.1)
  where
    by : (b : Bool) → Distinct (port_names rest) → Distinct (map (λ q. q.name) (if_not_own b p (signature_ports rest)))
    by true next = next
    by false next = ((λ i. d.0 (names_in rest p.name i)), next)

-- the names of parts that are told of no other are apart
pub distinct_names : {A : Type 0} (f : A → rules.Named) (g : A → List ℕ) (xs : List A) → ((x : A) → (f x).name ≡ g x) → duplicates [] (map f xs) ≡ [] → Distinct (map g xs)
distinct_names f g xs same h = subst Distinct (map_map f (λ x. x.name) xs ∙ each xs) (distinct_from [] (map f xs) h).1
  where
    each : (ys : List _) → map (λ x. (f x).name) ys ≡ map g ys
    each [] = refl
    each (y ∷ ys) = ap (λ n. n ∷ map (λ x. (f x).name) ys) (same y) ∙ ap (λ ns. g y ∷ ns) (each ys)

module _ (tree : PlainTree) (part : ast.PlainComponent) (kept : KeptPart tree part) where
  twice : (duplicates [] (map (λ p. named p.name p.place) (part.inputs ++ part.outputs)) ≡ []) × (duplicates [] (map (λ c. named c.name c.place) part.cells) ≡ []) × (duplicates [] (map (λ g. named g.name g.place) (groups_in part.wires)) ≡ [])
  twice =
      (let two = append_none _ (duplicates [] (map (λ g. named g.name g.place) (groups_in part.wires))) kept.twice in
      let one = append_none (duplicates [] (map (λ p. named p.name p.place) (part.inputs ++ part.outputs))) (duplicates [] (map (λ c. named c.name c.place) part.cells)) two.0 in
      (one.0, one.1, two.1))

  pub distinct_groups : Distinct (group_names part)
  distinct_groups = distinct_names (λ g. named g.name g.place) (λ g. g.name) (groups_in part.wires) (λ g. refl) twice.2

  pub cells_apart : AreApart (map (λ cell. cell.name) (component_of tree part).cells)
  cells_apart m n name p q some =
      (let d : Distinct (cell_names part) = distinct_names (λ c. named c.name c.place) (λ c. c.name) part.cells (λ c. refl) twice.1 in
      let same : map (λ cell. cell.name) (map (plain_cell_of tree part) part.cells) ≡ cell_names part = map_map (plain_cell_of tree part) (λ cell. cell.name) part.cells in
      apart (cell_names part) d m n name (ap (λ ns. slice_get ns m) (sym same) ∙ p) (ap (λ ns. slice_get ns n) (sym same) ∙ q))

  pub ports_apart : AreApart (map (λ decl. decl.name) ((component_of tree part).inputs ++ (component_of tree part).outputs))
  ports_apart m n name p q some =
      (let d : Distinct (port_names (part.inputs ++ part.outputs)) = distinct_signature (part.inputs ++ part.outputs) (distinct_names (λ x. named x.name x.place) (λ x. x.name) (part.inputs ++ part.outputs) (λ x. refl) twice.0) in
      let same : map (λ decl. decl.name) ((component_of tree part).inputs ++ (component_of tree part).outputs) ≡ port_names (part.inputs ++ part.outputs) =
      ap (map (λ decl. decl.name)) (sym (map_append (decl_of tree part) (signature_ports part.inputs) (signature_ports part.outputs)))
      ∙ map_map (decl_of tree part) (λ decl. decl.name) (signature_ports part.inputs ++ signature_ports part.outputs)
      ∙ ap (map (λ x. x.name)) (sym (signature_append part.inputs part.outputs)) in
      apart (port_names (part.inputs ++ part.outputs)) d m n name (ap (λ ns. slice_get ns m) (sym same) ∙ p) (ap (λ ns. slice_get ns n) (sym same) ∙ q))

  -- the group of an invoke has no name
  unnamed : (n : Next) (vs : List Invoke) (m : ℕ) (name : List ℕ) → slice_get (map (λ group. group.name) (invoke_groups tree part n vs)) m ≡ Some name → name ≡ []
  unnamed n vs m name h = by (slice_get (invoke_groups tree part n vs) m) refl (sym (slice_get-map (λ group. group.name) (invoke_groups tree part n vs) m) ∙ h)
    where
      by : (o : Option PlainGroup) → slice_get (invoke_groups tree part n vs) m ≡ o → option_map (λ (group : PlainGroup). group.name) o ≡ Some name → name ≡ []
      by None e h = absurd cc
      by (Some group) e h =
          (let same : group.name ≡ name = cc in
          let found = group_of_invoke tree part n vs m group e in
          sym same ∙ ⊎_elim (λ l. ap (λ (g : PlainGroup). g.name) l) (λ r. ap (λ (g : PlainGroup). g.name) r) found.is)

  pub groups_apart : AreApart (map (λ group. group.name) (component_of tree part).groups)
  groups_apart m n name p q some =
      (let invoked = invoke_groups tree part (first tree part) (control_invokes tree part part.control) in
      let same : map (λ group. group.name) (component_of tree part).groups ≡ group_names part ++ map (λ group. group.name) invoked =
      map_append (λ group. group.name) (map (group_of tree part) (groups_in part.wires)) invoked ∙ ap (λ ns. ns ++ map (λ group. group.name) invoked) (map_map (group_of tree part) (λ group. group.name) (groups_in part.wires)) in
      let own : (i : ℕ) → slice_get (map (λ group. group.name) (component_of tree part).groups) i ≡ Some name → slice_get (group_names part) i ≡ Some name =
      λ i h. ⊎_elim (λ l. l) (λ r. absurd (some (unnamed (first tree part) (control_invokes tree part part.control) r.0 name r.2)))
      (at_either (group_names part) (map (λ group. group.name) invoked) i name (ap (λ ns. slice_get ns i) (sym same) ∙ h)) in
      apart (group_names part) distinct_groups m n name (own m p) (own n q))

  pub no_primitive_name : (name : PrimitiveName) → name ≢ primitives.Timer → part.name ≢ name_text name
  no_primitive_name name other e = true≢false (sym (nameable name other) ∙ ap (λ n. is_some (primitive_of n)) (sym e) ∙ tell_none _ _ _ _ kept.primitive)

  port_is : (input : Bool) (port : ast.PlainPort) → port_breaks tree part input port ≡ [] → is_own_name port.name ≡ false → IsPort (decl_of tree part port)
  port_is input port h other =
      let parts = append_none _ _ h in
      let bits = and_both (nat_le 1 port.width) (nat_le port.width 128) (not_not _ (tell_none _ _ _ _ parts.0)) in
      record {
        some_bits = leb-true 1 port.width bits.0;
        few_bits = leb-true port.width 128 bits.1;
        no_go = λ e. true≢false (ap is_own_name (sym e) ∙ other);
        no_clk = λ e. true≢false (ap is_own_name (sym e) ∙ other);
        no_reset = λ e. true≢false (ap is_own_name (sym e) ∙ other);
        no_done = λ e. true≢false (ap is_own_name (sym e) ∙ other);
      }

  pub inputs_are_ports : (decl : PortDecl) → In (component_of tree part).inputs decl → IsPort decl
  inputs_are_ports decl i =
      let found = image_in (decl_of tree part) (signature_ports part.inputs) decl i in
      let port = signature_in part.inputs found.0 found.1 in
      subst IsPort found.2 (port_is true found.0 (kept.inputs found.0 port.0) port.1)

  pub outputs_are_ports : (decl : PortDecl) → In (component_of tree part).outputs decl → IsPort decl
  outputs_are_ports decl i =
      let found = image_in (decl_of tree part) (signature_ports part.outputs) decl i in
      let port = signature_in part.outputs found.0 found.1 in
      subst IsPort found.2 (port_is false found.0 (kept.outputs found.0 port.0) port.1)

  -- main has the own ports alone
  own_in_main : (input : Bool) (port : ast.PlainPort) → is_main tree part ≡ true → port_breaks tree part input port ≡ [] → is_own_name port.name ≡ true
  own_in_main input port main h = by (is_own_name port.name) refl (or_parts _ (has_other_attribute tree part port.name port.attributes) (tell_none _ _ _ _ (append_none _ _ h).1)).0
    where
      by : (b : Bool) → is_own_name port.name ≡ b → cond b (not (is_on_side tree part input port.name) || not (nat_eq port.width 1)) (is_main tree part) ≡ false → is_own_name port.name ≡ true
      by true e k = e
      by false e k = absurd (true≢false (sym main ∙ k))

  pub main_is_dynamic : is_main tree part ≡ true → (component_of tree part).latency ≡ None
  main_is_dynamic main = none part.length (sym (ap (λ b. b && is_some part.length) main) ∙ tell_none _ _ _ _ kept.dynamic)
    where
      none : (o : Option ℕ) → is_some o ≡ false → o ≡ None
      none None h = refl
      none (Some n) h = absurd (true≢false h)

  pub main_inputs : is_main tree part ≡ true → (component_of tree part).inputs ≡ []
  main_inputs main = ap (map (decl_of tree part)) (signature_none part.inputs (λ port i. own_in_main true port main (kept.inputs port i)))

  pub main_outputs : is_main tree part ≡ true → (component_of tree part).outputs ≡ []
  main_outputs main = ap (map (decl_of tree part)) (signature_none part.outputs (λ port i. own_in_main false port main (kept.outputs port i)))

-- CELLS
abbrev name_of : CellOf → Option PrimitiveName
name_of Neither = None
name_of (APrimitive p) = Some p.name
name_of (AComponent c) = None

of_primitive : (o : Option PrimitiveName) (numbers : List ℕ) (found : Option ast.PlainComponent) (p : PrimitiveRow) → primitive_or o numbers found ≡ APrimitive p → o ≡ Some p.name
of_primitive (Some n) numbers found p h = ap name_of h
of_primitive None numbers None p h = absurd cc
of_primitive None numbers (Some c) p h = absurd cc

module _ (tree : PlainTree) (k : ℕ) (part : ast.PlainComponent) (at : slice_get tree.components k ≡ Some part) (distinct : Distinct (component_names tree)) where
  is_main_number : is_main tree part ≡ true → k ≡ (design_of tree).main
  is_main_number h =
      (let same : part.name ≡ codes "main" = same_name-true part.name (codes "main") h in
      let stands : slice_get (component_names tree) k ≡ Some part.name = slice_get-map (λ p. p.name) tree.components k ∙ ap (λ o. option_map (λ p. p.name) o) at in
      let number = number_is (component_names tree) distinct k (codes "main") (stands ∙ ap Some same) in
      sym (or_0 (codes "main") (component_names tree) k number))

  pub cell_is : (cell : ast.PlainCell) → KeptCell tree part cell → IsCell (design_of tree) k (plain_cell_of tree part cell)
  cell_is cell kept = by (cell_of tree cell) refl kept.kind kept.external
    where
      narrow : (of : CellOf) → cell_of tree cell ≡ of → external_breaks tree part cell ≡ [] → is_external cell ≡ true → (is_main tree part ≡ true) × (is_narrow_memory tree part of ≡ true)
      narrow of e h ext =
          (let test : (is_external cell && not (is_main tree part && is_narrow_memory tree part (cell_of tree cell))) ≡ false = tell_none _ _ _ _ h in
          let rest = and_both (is_main tree part) (is_narrow_memory tree part (cell_of tree cell)) (not_not _ (ap (λ b. b && not (is_main tree part && is_narrow_memory tree part (cell_of tree cell))) (sym ext) ∙ test)) in
          (rest.0, ap (is_narrow_memory tree part) (sym e) ∙ rest.1))

      by : (of : CellOf) → cell_of tree cell ≡ of → kind_breaks tree part cell of ≡ [] → external_breaks tree part cell ≡ [] → IsCell (design_of tree) k (record { name = cell.name; kind = kind_or tree part of; external = is_external cell; place = cell.place })
      by Neither e h x = absurd cc
      by (APrimitive p) e h x = record {
        kind = (row_kept tree part cell p h, no_timer cell.kind p.name (of_primitive (primitive_of cell.kind) cell.numbers (component_among cell.kind tree.components) p e));
        external = λ ext. (
            let found = narrow (APrimitive p) e x ext in
            let memory = and_both (is_memory (row_of p).shape) (nat_le (first_number p.numbers) 64) found.1 in
            (is_main_number found.0, memory.0, leb-true (first_number p.numbers) 64 memory.1));
      }
      by (AComponent c) e h x =
          let found = part_found cell.kind tree.components c (of_component (primitive_of cell.kind) cell.numbers (component_among cell.kind tree.components) c e) in
          let number = or_0 c.name (component_names tree) found.number found.is in
          let few = slice_get_within tree.components found.number c found.at in
          let many : length (design_of tree).components ≡ length tree.components = length-map tree.components (component_of tree) in
          record {
            kind = omega (arith, number, few, many);
            external = λ ext. true≢false (sym (narrow (AComponent c) e x ext).1);
          }
