-- In the design of a text a place tells a port wherever there is no source.
use Rattle.std.proofs.Common.{◌≡◌, ℕ, suc, true, List, [], ◌∷◌, ◌++◌, map, length, Option, Some, None, slice_get, unwrap_or, option_map, inl, inr, ⊎_elim, refl, sym, ap, ◌∙◌, subst}
use Rattle.std.proofs.lemmas.Option.{slice_get-map, unwrap_or-slice_get}
use Rattle.cx_text.proofs.MemberLaws.{flat_in, image_in, in_at, in_either, number_in}
use Rattle.cx_text.specs.declared.diagnostics.Diagnostic.{Diagnostic}
use Rattle.cx_ast.specs.declared.tokens.Token.{Token}
use Rattle.cx_ast.specs.PlainTree as ast
use Rattle.cx_ast.specs.PlainTree.{PlainTree}
use Rattle.cx_ast.specs.PlainStatements as statements
use Rattle.cx_lex.specs.Lex.{Lex}
use Rattle.cx_grammar.specs.Parsing.{Parse}
use Rattle.cx_meaning.specs.Designs.{PlainAssign, PlainGroup, PlainInvoke, component_at, no_component}
use Rattle.cx_meaning.specs.Active.{Owned, owned, owned_by_groups, source_order}
use Rattle.cx_text.specs.Members.{In}
use Rattle.cx_rules.specs.Accepted.{FirstBreak}
use Rattle.cx_numbering.specs.Names.{groups_in, always_in, group_names, cell_of}
use Rattle.cx_numbering.specs.DesignOf.{Invoke, first, assign_of, group_of, input_assign, control_invokes, component_of, design_of}
use Rattle.cx_numbering.specs.NameRules.{Visited, visit_block, names_break, is_register_in}
use Rattle.cx_rules.specs.OneBreak.{IsPlaced}
use Rattle.cx_rules.specs.Items.{sources_of}
use Rattle.cx_rules.specs.Spots.{binds_in}
use Rattle.cx_rules.specs.Ports.{component_of as instance_of, is_target_only}
use Rattle.cx_meaning.specs.declared.ports.PlacedPort.{PlacedPort}
use Rattle.cx_ast.specs.declared.statements.BindItem.{BindItem}
use Rattle.cx_rules.proofs.OneBreak.{one_break, one_break_name}
use Rattle.cx_names.proofs.Kept.{KeptPart, kept, kept_part}
use Rattle.cx_names.proofs.There.{component_is}
use Rattle.cx_names.proofs.Circles.{KeptCell, kept_cell}
use Rattle.cx_names.proofs.InvokeLemmas.{KeptInvoke, kept_invoke, output_register}
use Rattle.cx_names.proofs.Statements.{invoke_of_block, visited_of, same_breaks}
use Rattle.cx_names.proofs.Written.{HasWires}
use Rattle.cx_names.proofs.OfText.{assign_placed, always_wired, in_group, wires_of_text}
use Rattle.cx_names.proofs.Invoked.{Tells, invoke_tells, captures_tell, bind_tells}
use Rattle.cx_names.proofs.Splits.{split_all, all_groups, all_statics, GroupOf, group_of_invoke, of_static}
use Rattle.cx_rules.proofs.ForeignLemmas.{sorted_among}
use Rattle.cx_names.proofs.Controls.{invoke_own}

in_owned : (w : Option ℕ) (assigns : List PlainAssign) (o : Owned) → In (owned w assigns) o → In assigns o.assign
in_owned w [] o i = absurd i
in_owned w (a ∷ rest) o (inl e) = inl (ap (λ (x : Owned). x.assign) e)
in_owned w (a ∷ rest) o (inr i) = inr (in_owned w rest o i)

in_groups : (n : ℕ) (groups : List PlainGroup) (o : Owned) → In (owned_by_groups n groups) o → (g : PlainGroup) × In groups g × In g.assigns o.assign
in_groups n [] o i = absurd i
in_groups n (g ∷ gs) o i =
    ⊎_elim (λ l. (g, inl refl, in_owned (Some n) g.assigns o l)) (λ r. let found = in_groups (suc n) gs o r in (found.0, inr found.1, found.2))
    (in_either (owned (Some n) g.assigns) (owned_by_groups (suc n) gs) o i)

module _ (tree : PlainTree) (k : ℕ) (part : ast.PlainComponent) (at : slice_get tree.components k ≡ Some part) (wired : HasWires part) (own : KeptPart tree part) where
  cells_kept : (cell : ast.PlainCell) → In part.cells cell → KeptCell tree part cell
  cells_kept cell i = kept_cell tree part cell (own.cells cell i)

  always_tells : (a : PlainAssign) → In (component_of tree part).always a → Tells tree k part at a
  always_tells a i =
      let found = image_in (assign_of tree part) (always_in part.wires) a i in
      subst (Tells tree k part at) found.2 (λ p q ip iq tp tq e. assign_placed tree part found.0 (always_wired part.wires found.0 wired found.1) p q ip iq e)

  written_tells : (g : ast.PlainGroup) → In (groups_in part.wires) g → (a : PlainAssign) → In (group_of tree part g).assigns a → Tells tree k part at a
  written_tells g i a j =
      let found = image_in (assign_of tree part) g.assigns a j in
      subst (Tells tree k part at) found.2 (λ p q ip iq tp tq e. assign_placed tree part found.0 (in_group part g found.0 wired i found.1) p q ip iq e)

  invoked_tells : (g : PlainGroup) (n : ℕ) → GroupOf tree part n (control_invokes tree part part.control) g → (a : PlainAssign) → In g.assigns a → Tells tree k part at a
  invoked_tells g n found a j =
      let kept = invoke_own tree part own found.invoke found.stands in
      let registers : (b : BindItem) → In found.invoke.outputs b → is_register_in tree part b.value.form ≡ true = λ b h. output_register tree part found.invoke.cell (cell_of tree kept.found) b (kept.outputs b h) in
      ⊎_elim
      (λ l. invoke_tells tree k part at cells_kept found.invoke registers n a (subst (λ h. In h.assigns a) l j))
      (λ r. captures_tell tree k part at cells_kept found.invoke registers a (subst (λ h. In h.assigns a) r j))
      found.is

  group_tells : (g : PlainGroup) → In (component_of tree part).groups g → (a : PlainAssign) → In g.assigns a → Tells tree k part at a
  group_tells g i a j =
      ⊎_elim
      (λ l. let found = image_in (group_of tree part) (groups_in part.wires) g l in written_tells found.0 found.1 a (subst (λ h. In h.assigns a) (sym found.2) j))
      (λ r. let found = number_in (all_groups tree part) g r in
      invoked_tells g _ (group_of_invoke tree part (first tree part) (control_invokes tree part part.control) found.0 g found.1) a j)
      (in_either (map (group_of tree part) (groups_in part.wires)) (all_groups tree part) g i)

  -- a bound input of a static invoke
  bound_tells : (a : PlainAssign) → In (binds_in (component_of tree part)) a → Tells tree k part at a
  bound_tells a i =
      let of = flat_in (λ (v : PlainInvoke). v.inputs) (all_statics tree part) a i in
      let found = of_static tree part (first tree part) (control_invokes tree part part.control) (split_all tree part (control_invokes tree part part.control) refl) of.0 of.1 in
      let bind = image_in (input_assign tree part found.invoke) found.invoke.inputs a (subst (λ (v : PlainInvoke). In v.inputs a) (sym found.is) of.2) in
      subst (Tells tree k part at) bind.2 (bind_tells tree k part at found.invoke bind.0)

  part_tells : (o : Owned) → In (source_order (component_of tree part)) o → Tells tree k part at o.assign
  part_tells o i =
      ⊎_elim (λ l. always_tells o.assign (in_owned None (component_of tree part).always o l))
      (λ r. let found = in_groups 0 (component_of tree part).groups o r in group_tells found.0 found.1 o.assign found.2)
      (in_either (owned None (component_of tree part).always) (owned_by_groups 0 (component_of tree part).groups) o (sorted_among (owned None (component_of tree part).always ++ owned_by_groups 0 (component_of tree part).groups) o i))

pub texts_placed : (text : List ℕ) (tokens : List Token) (tree : PlainTree) → Lex text tokens → Parse tokens tree → names_break tree ≡ None → IsPlaced (design_of tree)
texts_placed text tokens tree lexed parsed none = record { assigns = assigns; binds = binds }
  where
    empty : (k : ℕ) → slice_get tree.components k ≡ None → component_at (design_of tree) k ≡ no_component
    empty k f = sym (unwrap_or-slice_get (design_of tree).components k no_component) ∙ ap (λ o. unwrap_or o no_component) (slice_get-map (component_of tree) tree.components k ∙ ap (λ o. option_map (component_of tree) o) f)

    own_part : (k : ℕ) (part : ast.PlainComponent) → slice_get tree.components k ≡ Some part → KeptPart tree part
    own_part k part f = kept_part tree part ((kept tree none).parts part (in_at tree.components k part f))

    wired : (k : ℕ) (part : ast.PlainComponent) → slice_get tree.components k ≡ Some part → HasWires part
    wired k part f = wires_of_text text tokens tree part lexed parsed (in_at tree.components k part f)

    assigns : (k n : ℕ) (o : Owned) (p q : PlacedPort) → slice_get (source_order (component_at (design_of tree) k)) n ≡ Some o → In (sources_of o.assign) p → In (sources_of o.assign) q
        → is_target_only (instance_of (design_of tree) k) p.port ≡ true → is_target_only (instance_of (design_of tree) k) q.port ≡ true → p.place ≡ q.place → p.port ≡ q.port
    assigns k n o p q h ip iq tp tq e = by (slice_get tree.components k) refl
      where
        by : (c : Option ast.PlainComponent) → slice_get tree.components k ≡ c → p.port ≡ q.port
        by None f = absurd (in_at [] n o (subst (λ c. slice_get (source_order c) n ≡ Some o) (empty k f) h))
        by (Some part) f =
            (let stands = in_at (source_order (component_of tree part)) n o (subst (λ c. slice_get (source_order c) n ≡ Some o) (component_is tree k part f) h) in
            part_tells tree k part f (wired k part f) (own_part k part f) o stands p q ip iq tp tq e)

    binds : (k n : ℕ) (a : PlainAssign) (p q : PlacedPort) → slice_get (binds_in (component_at (design_of tree) k)) n ≡ Some a → In (sources_of a) p → In (sources_of a) q
        → is_target_only (instance_of (design_of tree) k) p.port ≡ true → is_target_only (instance_of (design_of tree) k) q.port ≡ true → p.place ≡ q.place → p.port ≡ q.port
    binds k n a p q h ip iq tp tq e = by (slice_get tree.components k) refl
      where
        by : (c : Option ast.PlainComponent) → slice_get tree.components k ≡ c → p.port ≡ q.port
        by None f = absurd (in_at [] n a (subst (λ c. slice_get (binds_in c) n ≡ Some a) (empty k f) h))
        by (Some part) f =
            (let stands = in_at (binds_in (component_of tree part)) n a (subst (λ c. slice_get (binds_in c) n ≡ Some a) (component_is tree k part f) h) in
            bound_tells tree k part f (wired k part f) (own_part k part f) a stands p q ip iq tp tq e)

-- the first break of the design of a text is one
pub refused_once : (text : List ℕ) (tokens : List Token) (tree : PlainTree) (a b : Diagnostic) → Lex text tokens → Parse tokens tree → names_break tree ≡ None → FirstBreak (design_of tree) a → FirstBreak (design_of tree) b
    → (a.rule ≡ b.rule) × (a.place ≡ b.place) × (a.name ≡ b.name)
refused_once text tokens tree a b lexed parsed none first other =
    let one = one_break (design_of tree) a b first other in
    (one.0, one.1, one_break_name (design_of tree) a b (λ r. texts_placed text tokens tree lexed parsed none) first other)
