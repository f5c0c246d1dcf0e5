-- WHAT A FLAT COMPONENT OF A DESIGN KEEPS by itself: its control, its ports and the names of its cells.
use Rattle.std.proofs.Common.{◌≡◌, ℕ, zero, suc, ◌+◌, ◌<◌, ◌≤◌, inl, inr, Bool, true, false, List, [], ◌∷◌, ◌++◌, length, map, None, refl, sym, ap, ◌∙◌, subst, arith}
use Rattle.std.specs.Prelude.{slice_get}
use Rattle.cx_meaning.specs.declared.kinds.PortDecl.{PortDecl}
use Rattle.cx_meaning.specs.declared.ports.PortRef.{PortRef}
use Rattle.cx_meaning.specs.declared.ports.PortRef.TheVariants as ports
use Rattle.cx_meaning.specs.Designs.{OfComponent, PlainAssign, PlainInvoke, PlainComponent, PlainDesign, component_at}
use Rattle.cx_meaning.specs.Instances.{Instance, Node, Cells, OfInstance, cell_at, cells_for, tree_within}
use Rattle.cx_meaning.specs.Active.{same_port}
use Rattle.cx_text.specs.Members.{In}
use Rattle.cx_rules.specs.Accepted.{IsAccepted}
use Rattle.cx_rules.specs.Flat.{ArePlainNames}
use Rattle.cx_rules.specs.Footprints.{AssignNames}
use Rattle.cx_rules.specs.InvokeShape.{input_port}
use Rattle.cx_rules.specs.Items.{Dynamic}
use Rattle.cx_rules.specs.ShapeRules.{some_target}
use Rattle.cx_rules.specs.Wellformed.{AreApart, IsComponent, IsDesign}
use Rattle.cx_flattening.specs.Whole.{is_static}
use Rattle.cx_flattening.specs.Flattened.{flat_part}
use Rattle.cx_flattening.specs.Fair.{IsFair}
use Rattle.cx_flattening.specs.Ends.{NoneNamesDone}
use Rattle.cx_flattening.proofs.AcceptedTrees.{IsGood, child_kind, good_tree}
use Rattle.cx_flattening.proofs.CellLayout.{kind_at, cell_for, kind_in}
use Rattle.cx_flattening.proofs.FairParts.{HasCells, named, input_bound, bound_source}
use Rattle.cx_flattening.proofs.FlatApart.{HasApart, part_apart}
use Rattle.cx_flattening.proofs.KeptForms.{HasShape, part_shaped}
use Rattle.cx_flattening.proofs.FlatGroups.{in_one_of}
use Rattle.cx_flattening.proofs.FlatPorts.{OwnLook, IsBased, FitsAll, part_fits}
use Rattle.cx_flattening.proofs.FlatTyped.{Allows, Calls, Every}
use Rattle.cx_flattening.proofs.LevelSights.{kid-static}
use Rattle.cx_flattening.proofs.Ruled.{owner_is, IsSource, IsRuled}
use Rattle.cx_flattening.proofs.TreeLevels.{IsWay, further, way_is_short}
use Rattle.cx_flattening.proofs.TypedParts.{invoke_number}
use Rattle.cx_flattening.proofs.TypedTests.{visited}

-- names behind others are apart
behind_at : (xs ys : List (List ℕ)) (n : ℕ) → slice_get (xs ++ ys) (length xs + n) ≡ slice_get ys n
behind_at [] ys n = ap (slice_get ys) (let z : 0 + n ≡ n = omega arith in z)
behind_at (x ∷ xs) ys n = ap (slice_get (x ∷ (xs ++ ys))) (let z : suc (length xs) + n ≡ suc (length xs + n) = omega arith in z) ∙ behind_at xs ys n

apart_behind : (xs ys : List (List ℕ)) → AreApart (xs ++ ys) → AreApart ys
apart_behind xs ys h m n name e f some = let same : length xs + m ≡ length xs + n = h (length xs + m) (length xs + n) name (behind_at xs ys m ∙ e) (behind_at xs ys n ∙ f) some in omega (arith, same)

names_of : (xs ys : List PortDecl) → map (λ (decl : PortDecl). decl.name) (xs ++ ys) ≡ map (λ (decl : PortDecl). decl.name) xs ++ map (λ (decl : PortDecl). decl.name) ys
names_of [] ys = refl
names_of (x ∷ xs) ys = ap (λ l. x.name ∷ l) (names_of xs ys)

-- THE PORTS of a component are there
module _ (part : PlainComponent) (cells : Cells) (ruled : IsRuled part (Node part cells)) (has : HasCells part cells) (fair : IsFair (Node part cells)) where
  abbrev i : Instance
  i = Node part cells

  every : (q : PortRef) → Allows Every q
  every (ports.Cell c p) = tt
  every (ports.Input n) = tt
  every (ports.Output n) = tt
  every (ports.Done g) = tt
  every (ports.Literal w v) = tt

  calls : (a : PlainAssign) (q : PortRef) → In part.always a → AssignNames a q → Allows (Calls i) q
  calls a (ports.Cell c p) j names = tt
  calls a (ports.Input n) j names = by (is_static i) refl
    where
      by : (b : Bool) → is_static i ≡ b → b ≡ false
      by true static = absurd (fair.kept static a n j names)
      by false dynamic = refl
  calls a (ports.Output n) j names = tt
  calls a (ports.Done g) j names = tt
  calls a (ports.Literal w v) j names = tt

  look : (inputs : ℕ → Type 0) (q : PortRef) → IsSource i q → Allows inputs q → OwnLook i inputs q
  look inputs q s allows = (s.there, named part cells ruled has q s, allows)

  pub part_based : IsBased i
  part_based = record {
    always = λ a j. (((ruled.assigns None a j).target, fair.targets.always a j), λ q names. look (Calls i) q (ruled.sources None a q j names) (calls a q j names));
    groups = λ x a j m.
        let o = owner_is part a (inr (x, j, m)) in
        (((ruled.assigns o.0 a o.1).target, fair.targets.groups x a j m), λ q names. look Every q (ruled.sources o.0 a q o.1 names) (every q));
    binds = λ v child n here at less.
        let r = invoke_number part.invokes v here in
        bound_source (OwnLook i Every) v.cell (input_port v.cell n) v.inputs (subst (λ (x : PlainInvoke). some_target (same_port (input_port x.cell n)) x.inputs ≡ true) r.2 (input_bound part cells ruled has r.0 n child r.1 (ap (λ (x : PlainInvoke). cell_at cells x.cell) r.2 ∙ at) less))
        (λ a m. look Every a.source.port (ruled.inputs v a here m) (every a.source.port));
    tests = visited (OwnLook i Every) Dynamic part.control (λ v p j e. look Every p.port (ruled.tests v p j e) (every p.port));
  }

-- WHAT IT KEEPS
pub record IsSound (i : Instance) : Type 0 where
  pub shape : HasShape i
  pub fits : FitsAll i
  pub apart : HasApart (flat_part i)

module _ (d : PlainDesign) (design : IsDesign d) (accepted : IsAccepted d) (undone : NoneNamesDone d) (plain_names : ArePlainNames d) where
  sound_node : (n k : ℕ) (path : List ℕ) → IsWay d design path k → length d.components ≤ suc n + length path
      → ((c : ℕ) (child : Instance) → cell_at (cells_for (tree_within d n) (component_at d k).cells) c ≡ OfInstance child → IsSound child) → IsSound (tree_within d (suc n) k)
  sound_node n k path way many below = record {
    shape = part_shaped part cells good.rules.0 good.controlled.0 (λ c child at static. (below c child at).shape)
        (λ c child g at static i. (good.fair.0.targets.blocks c (flat_part child) (kid-static cells c child at static)).there g (in_one_of g _ i));
    fits = part_fits part cells good.fair.0 good.controlled.0 (part_based part cells good.rules.0 good.has.0 good.fair.0) (λ c child at static. (below c child at).fits);
    apart = part_apart part cells (plain_names k there) keeps.cell_names
        (apart_behind (map (λ (decl : PortDecl). decl.name) part.inputs) (map (λ (decl : PortDecl). decl.name) part.outputs) (subst AreApart (names_of part.inputs part.outputs) keeps.port_names))
        (λ c child at static. (below c child at).apart);
  }
    where
      part : PlainComponent
      part = component_at d k

      cells : Cells
      cells = cells_for (tree_within d n) part.cells

      there : k < length d.components
      there = way.there k (inl refl)

      keeps : IsComponent d k
      keeps = design.components k there

      good : IsGood (Node part cells)
      good = good_tree d design accepted undone (suc n) k path way many

  -- EACH COMPONENT, with what is below it
  pub sound_tree : (n k : ℕ) (path : List ℕ) → IsWay d design path k → length d.components ≤ n + length path → IsSound (tree_within d n k)
  sound_tree zero k path way many = absurd (let short = way_is_short d design path k way in omega (arith, short, many))
  sound_tree (suc n) k path way many =
      sound_node n k path way many
      (λ c child at.
      let cs = (component_at d k).cells in
      let r = child_kind (tree_within d n) (kind_at cs c) child (sym (cell_for (tree_within d n) cs c) ∙ at) in
      let cell = kind_in cs c (OfComponent r.0) r.1 in
      subst IsSound r.2 (sound_tree n r.0 (k ∷ path) (further d design path k r.0 cell.0 way cell.1 cell.2) (omega (arith, many))))
