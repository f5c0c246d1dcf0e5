-- THE FLAT DESIGN IS A DESIGN: of a design with plain names that is accepted, in which nothing looks at the done of a static component's cell.
use Rattle.std.proofs.Common.{◌≡◌, ◌≢◌, ℕ, zero, suc, ◌<◌, ◌≤◌, ⊎_elim, true, false, List, [], ◌∷◌, ◌++◌, length, map, get_or, Option, Some, None, refl, sym, ap, ◌∙◌, subst, arith}
use Rattle.std.specs.Prelude.{◌^◌, flat_map, slice_get}
use Rattle.std.proofs.lemmas.Bool.{cases_lt}
use Rattle.std.proofs.lemmas.List.{get_or_past}
use Rattle.cx_text.proofs.MemberLaws.{image_in}
use Rattle.cx_meaning.specs.declared.kinds.PortDecl.{PortDecl}
use Rattle.cx_meaning.specs.declared.ports.PortRef.{PortRef}
use Rattle.cx_meaning.specs.declared.ports.PortRef.TheVariants as ports
use Rattle.cx_meaning.specs.declared.ports.PlacedPort.{PlacedPort}
use Rattle.cx_meaning.specs.Designs.{PlainAssign, PlainGroup, PlainInvoke, PlainCell, PlainForm, Empty, Enable, Seq, Par, If, While, Repeat, StaticSeq, StaticPar, StaticIf, StaticRepeat, Timed, PlainComponent, PlainDesign, component_at, no_component, group_at, no_group}
use Rattle.cx_meaning.specs.Instances.{Instance, Node, Nothing, part_of, cells_of, cell_at, tree_within, tree_of}
use Rattle.cx_meaning.specs.Control.{groups_of}
use Rattle.cx_text.specs.Members.{In}
use Rattle.cx_meaning.proofs.DesignsLemmas.{same_part}
use Rattle.cx_rules.specs.Accepted.{IsAccepted}
use Rattle.cx_rules.specs.Flat.{ArePlainNames}
use Rattle.cx_rules.specs.Items.{is_comb, Dynamic, Visited, statements_in, test_in}
use Rattle.cx_rules.specs.Ports.{component_of}
use Rattle.cx_rules.specs.ShapeRules.{is_hole}
use Rattle.cx_rules.specs.Sizes.{design_size, weight_below}
use Rattle.cx_rules.specs.Wellformed.{port_count, IsThere, StandsIn, IsAssign, IsWith, IsForm, IsStatement, IsSignature, AreApart, IsComponent, LeadsTo, by_cell, by_way_of, IsDesign}
use Rattle.cx_rewrites.specs.Moving.{moved_group}
use Rattle.cx_flattening.specs.Copies.{copied_group, enabled_groups}
use Rattle.cx_flattening.specs.Ends.{NoneNamesDone}
use Rattle.cx_flattening.specs.FlatDesign.{flat_of, reached_below, renumbered_cell, renumbered_part, flat_design}
use Rattle.cx_flattening.specs.Flattened.{Kids, kid_at, own_port, invoke_port, copies_if, copies, flat_kids, flat_part}
use Rattle.cx_flattening.proofs.AcceptedTrees.{IsGood, has_cells}
use Rattle.cx_flattening.proofs.FlatApart.{distinct_apart}
use Rattle.cx_flattening.proofs.FlatCells.{flat_cells_keep}
use Rattle.cx_flattening.proofs.KeptForms.{one_visits}
use Rattle.cx_flattening.proofs.FlatKeeps.{copied_from}
use Rattle.cx_flattening.proofs.FlatKinds.{in_groups}
use Rattle.cx_flattening.proofs.FlatLeads.{flat_not_recursive}
use Rattle.cx_flattening.proofs.FlatNumbers.{IsMade, made}
use Rattle.cx_flattening.proofs.FlatOwners.{KeepsOwner, flat_keeps_owner}
use Rattle.cx_flattening.proofs.FlatPorts.{Look, Drive, Fits, flat_always_fit, flat_groups_fit, flat_tests_fit}
use Rattle.cx_flattening.proofs.FlatRanges.{slice_in}
use Rattle.cx_flattening.proofs.FlatRows.{flat_design_flat}
use Rattle.cx_flattening.proofs.FlatSound.{IsSound, sound_tree}
use Rattle.cx_flattening.proofs.FlatStages.{good_component}
use Rattle.cx_flattening.proofs.FlatWeighs.{size_within_weight}
use Rattle.cx_flattening.proofs.FlatWeights.{design_light}
use Rattle.cx_flattening.proofs.LevelSights.{flat-inputs, flat-outputs}
use Rattle.cx_flattening.proofs.Reached.{itself, flat_there, flat_component_is}
use Rattle.cx_flattening.proofs.TreeLevels.{no_way}
use Rattle.cx_flattening.proofs.TypedTests.{Tests}
use Rattle.cx_flattening.proofs.TypedTests as tests
use Rattle.cx_rules.proofs.FoundLemmas.{source_named}

-- WHAT A SOURCE IS, an assignment names
-- PORTS of a tree are there
cells_within : (d : PlainDesign) (n k c : ℕ) → (cell_at (cells_of (tree_within d n k)) c ≡ Nothing → ⊥) → c < length (part_of (tree_within d n k)).cells
cells_within d zero k c some = absurd (some refl)
cells_within d (suc n) k c some = (has_cells (tree_within d n) (component_at d k)).within c some

no_ports : (i : Instance) (c p : ℕ) → p < port_count (cell_at (cells_of i) c) → cell_at (cells_of i) c ≡ Nothing → ⊥
no_ports i c p less e = let none = ap port_count e in omega (arith, less, none)

module _ (d : PlainDesign) (n k : ℕ) where
  abbrev i : Instance
  i = tree_within d n k

  look_there : (q : PortRef) → Look i q → IsThere i q
  look_there (ports.Cell c p) h = (cells_within d n k c (no_ports i c p h), h)
  look_there (ports.Input m) h = h
  look_there (ports.Output m) h = absurd h
  look_there (ports.Done g) h = absurd h
  look_there (ports.Literal w v) h = tt

  look_no_hole : (q : PortRef) → Look i q → is_hole q ≡ false
  look_no_hole (ports.Cell c p) h = refl
  look_no_hole (ports.Input m) h = refl
  look_no_hole (ports.Output m) h = refl
  look_no_hole (ports.Done g) h = absurd h
  look_no_hole (ports.Literal w v) h = refl

  drive_there : (q : PortRef) → Drive i q → ((g : ℕ) → q ≡ ports.Done g → g < length (part_of i).groups) → IsThere i q
  drive_there (ports.Cell c p) h hole = (cells_within d n k c (no_ports i c p h), h)
  drive_there (ports.Input m) h hole = absurd h
  drive_there (ports.Output m) h hole = h
  drive_there (ports.Done g) h hole = hole g refl
  drive_there (ports.Literal w v) h hole = absurd h

-- FORMS by the groups and the static invokes of a component
form_like : (one other : PlainComponent) → one.groups ≡ other.groups → one.invokes ≡ other.invokes → (form : PlainForm) → IsForm one form → IsForm other form
form_like one other groups invokes = by
  where
    with : (comb : Option ℕ) → IsWith one comb → IsWith other comb
    with None e = tt
    with (Some g) e = subst (λ gs. (g < length gs) × (is_comb (get_or gs g no_group).kind ≡ true)) groups e

    by : (form : PlainForm) → IsForm one form → IsForm other form
    by Empty e = tt
    by (Enable g) e = subst (λ gs. (g < length gs) × (is_comb (get_or gs g no_group).kind ≡ false)) groups e
    by (Seq parts) e = tt
    by (Par arms) e = tt
    by (If test comb a b) e = with comb e
    by (While test comb a) e = with comb e
    by (Repeat count a) e = tt
    by (StaticSeq length parts) e = tt
    by (StaticPar length arms) e = tt
    by (StaticIf length test a b) e = tt
    by (StaticRepeat length count a) e = tt
    by (Timed k) e = subst (λ vs. k < length vs) invokes e

-- NAMES OF GROUPS: copies have none
abbrev group_names : List PlainGroup → List (List ℕ)
group_names gs = map (λ (g : PlainGroup). g.name) gs

none_named : (xs ys : List (List ℕ)) → ((y : List ℕ) → In ys y → y ≡ []) → (m : ℕ) (name : List ℕ) → slice_get (xs ++ ys) m ≡ Some name → name ≢ [] → slice_get xs m ≡ Some name
none_named [] ys none m name e some = absurd (some (none name (slice_in ys m name e)))
none_named (x ∷ xs) ys none zero name e some = e
none_named (x ∷ xs) ys none (suc m) name e some = none_named xs ys none m name e some

group_names_both : (xs ys : List PlainGroup) → group_names (xs ++ ys) ≡ group_names xs ++ group_names ys
group_names_both [] ys = refl
group_names_both (x ∷ xs) ys = ap (λ l. x.name ∷ l) (group_names_both xs ys)

moved_names : (f : PortRef → PortRef) (gs : List PlainGroup) → group_names (map (moved_group f) gs) ≡ group_names gs
moved_names f [] = refl
moved_names f (g ∷ gs) = ap (λ l. g.name ∷ l) (moved_names f gs)

groups_apart : (i : Instance) → AreApart (group_names (part_of i).groups) → AreApart (group_names (flat_part i).groups)
groups_apart (Node part cells) h m n name e f some =
    h m n name (none_named (group_names part.groups) others none m name (subst (λ l. slice_get l m ≡ Some name) all e) some) (none_named (group_names part.groups) others none n name (subst (λ l. slice_get l n ≡ Some name) all f) some) some
  where
    kids : Kids
    kids = flat_kids cells

    others : List (List ℕ)
    others = group_names (flat_map (copies kids part) part.invokes)

    all : group_names (flat_part (Node part cells)).groups ≡ group_names part.groups ++ others
    all = group_names_both (map (moved_group (own_port kids part)) part.groups) (flat_map (copies kids part) part.invokes) ∙ ap (λ l. l ++ others) (moved_names (own_port kids part) part.groups)

    unnamed : (v : PlainInvoke) (k : Option PlainComponent) (x : PlainGroup) → In (copies_if kids part k v) x → x.name ≡ []
    unnamed v None x j = absurd j
    unnamed v (Some kid) x j = let r = image_in (copied_group (invoke_port kids part kid v)) (enabled_groups (groups_of kid.control) 0 kid.groups) x j in ap (λ (g : PlainGroup). g.name) (sym r.2)

    none : (y : List ℕ) → In others y → y ≡ []
    none y i =
        let r = image_in (λ (g : PlainGroup). g.name) (flat_map (copies kids part) part.invokes) y i in
        let c = copied_from kids part part.invokes r.0 r.1 in
        sym r.2 ∙ unnamed c.0 (kid_at kids c.0.cell) r.0 c.1

renumbered_names : (d : PlainDesign) (cs : List PlainCell) → map (λ (cell : PlainCell). cell.name) (map (renumbered_cell d) cs) ≡ map (λ (cell : PlainCell). cell.name) cs
renumbered_names d [] = refl
renumbered_names d (c ∷ cs) = ap (λ l. c.name ∷ l) (renumbered_names d cs)

flat-name : (i : Instance) → (flat_part i).name ≡ (part_of i).name
flat-name (Node part cells) = refl

keeps_owner : (i : Instance) → IsGood i → (owner : Option ℕ) (a : PlainAssign) → StandsIn (flat_part i) owner a → KeepsOwner owner a
keeps_owner (Node part cells) good owner a s = flat_keeps_owner part cells good.rules.0 good.fair.0 owner a s

-- what leads on is there
leads_there : (d : PlainDesign) (k j : ℕ) → LeadsTo d k j → k < length d.components
leads_there d k j (by_cell x cell i e) =
    ⊎_elim
    (λ (l : k < length d.components). l)
    (λ (l : length d.components ≤ k). absurd (subst (λ (p : PlainComponent). In p.cells cell) (get_or_past d.components k no_component l) i))
    (cases_lt k (length d.components))
leads_there d k j (by_way_of m first second) = leads_there d k m first

module _ (d : PlainDesign) (design : IsDesign d) (accepted : IsAccepted d) (undone : NoneNamesDone d) (plain_names : ArePlainNames d) where
  abbrev flat_d : PlainDesign
  flat_d = flat_design d

  abbrev count : ℕ
  count = length d.components

  -- A COMPONENT of the flat design
  module _ (n : ℕ) (there : n < length (flat_design d).components) where
    m : IsMade d n
    m = made d design n there

    abbrev old : Instance
    old = component_of d m.old

    abbrev K : PlainComponent
    K = flat_part old

    abbrev flat : Instance
    flat = component_of flat_d n

    abbrev part : PlainComponent
    part = component_at flat_d n

    good : IsGood old
    good = good_component d design accepted undone m.old m.less

    sound : IsSound old
    sound = sound_tree d design accepted undone plain_names count m.old [] (no_way d design m.old m.less) (omega arith)

    keeps : IsComponent d m.old
    keeps = design.components m.old m.less

    part_is : part_of flat ≡ part
    part_is = same_part flat_d (length flat_d.components) n

    old_is : part_of old ≡ component_at d m.old
    old_is = same_part d count m.old

    inputs_are : part.inputs ≡ (component_at d m.old).inputs
    inputs_are = ap (λ (p : PlainComponent). p.inputs) m.part ∙ flat-inputs old ∙ ap (λ (p : PlainComponent). p.inputs) old_is

    outputs_are : part.outputs ≡ (component_at d m.old).outputs
    outputs_are = ap (λ (p : PlainComponent). p.outputs) m.part ∙ flat-outputs old ∙ ap (λ (p : PlainComponent). p.outputs) old_is

    name_is : part.name ≡ (component_at d m.old).name
    name_is = ap (λ (p : PlainComponent). p.name) m.part ∙ flat-name old ∙ ap (λ (p : PlainComponent). p.name) old_is

    no_invokes : part.invokes ≡ []
    no_invokes = (flat_design_flat d n there).no_invoke

    -- ASSIGNMENTS
    module _ (owner : Option ℕ) (a : PlainAssign) (s : StandsIn part owner a) where
      stands : StandsIn K owner a
      stands = by owner s
        where
          by : (o : Option ℕ) → StandsIn part o a → StandsIn K o a
          by None j = subst (λ (p : PlainComponent). In p.always a) m.part j
          by (Some g) j = subst (λ (p : PlainComponent). (g < length p.groups) × In (group_at p g).assigns a) m.part j

      fits : Fits flat a
      fits = by owner stands
        where
          by : (o : Option ℕ) → StandsIn K o a → Fits flat a
          by None j = flat_always_fit old flat m.flattened sound.fits a j
          by (Some g) j = flat_groups_fit old flat m.flattened sound.fits (group_at K g) a (in_groups K.groups g j.0) j.1

      owned : KeepsOwner owner a
      owned = keeps_owner old good owner a stands

      hole_there : (g : ℕ) → a.target ≡ ports.Done g → g < length (part_of flat).groups
      hole_there g e = subst (λ (p : PlainComponent). g < length p.groups) (sym part_is) (subst (λ o. StandsIn part o a) (owned.own_hole g e) s).0

      one_assign : IsAssign flat owner a
      one_assign = record {
        target = drive_there flat_d (length flat_d.components) n a.target fits.0 hole_there;
        no_literal = λ w v e. subst (Drive flat) e fits.0;
        own_hole = owned.own_hole;
        no_bare_done = owned.no_bare_done;
        output_outside = owned.output_outside;
        sources = λ p j. look_there flat_d (length flat_d.components) n p.port (fits.1 p.port (source_named a p j));
        no_hole = λ p j. look_no_hole flat_d (length flat_d.components) n p.port (fits.1 p.port (source_named a p j));
      }

    -- STATEMENTS
    module _ (v : Visited) (s : In (statements_in part) v) where
      shaped : IsForm K v.form
      shaped = one_visits K Dynamic K.control sound.shape v (subst (λ (p : PlainComponent). In (statements_in p) v) m.part s)

      tested : (p : PlacedPort) → test_in v.form ≡ Some p → Look flat p.port
      tested p e = tests.one_visits (Look flat) Dynamic part.control (subst (λ (q : PlainComponent). Tests (Look flat) q.control) (sym m.part) (flat_tests_fit old flat m.flattened sound.fits)) v p s e

      one_statement : IsStatement flat v
      one_statement = record {
        form = form_like K (part_of flat) (sym (ap (λ (p : PlainComponent). p.groups) (part_is ∙ m.part))) (sym (ap (λ (p : PlainComponent). p.invokes) (part_is ∙ m.part))) v.form shaped;
        test = λ p e. look_there flat_d (length flat_d.components) n p.port (tested p e);
        no_hole = λ p e. look_no_hole flat_d (length flat_d.components) n p.port (tested p e);
      }

    no_invoke : (v : PlainInvoke) → In part.invokes v → ⊥
    no_invoke v i = subst (λ l. In l v) no_invokes i

    one_component : IsComponent flat_d n
    one_component = record {
      cells = flat_cells_keep d design n there;
      assigns = one_assign;
      statements = one_statement;
      invokes = λ v i. absurd (no_invoke v i);
      invoked = λ k less. absurd (let none = ap length no_invokes in omega (arith, less, none));
      captures_apart = λ x y g v w e f one other. absurd (no_invoke v (slice_in part.invokes x v e));
      inputs = subst IsSignature (sym inputs_are) keeps.inputs;
      outputs = subst IsSignature (sym outputs_are) keeps.outputs;
      port_names = subst (λ l. AreApart (map (λ (decl : PortDecl). decl.name) l)) (sym (ap (λ l. l ++ part.outputs) inputs_are ∙ ap (λ l. (component_at d m.old).inputs ++ l) outputs_are)) keeps.port_names;
      cell_names = subst AreApart (sym (ap (λ (p : PlainComponent). map (λ (cell : PlainCell). cell.name) p.cells) m.part ∙ renumbered_names d K.cells)) (distinct_apart (map (λ (cell : PlainCell). cell.name) K.cells) sound.apart.apart);
      group_names = subst (λ (p : PlainComponent). AreApart (group_names p.groups)) (sym m.part) (groups_apart old (subst (λ (p : PlainComponent). AreApart (group_names p.groups)) (sym old_is) keeps.group_names));
      no_primitive_name = λ name apart e. keeps.no_primitive_name name apart (sym name_is ∙ e);
    }

  -- THE DESIGN
  main_stands : reached_below d d.main < length flat_d.components
  main_stands = flat_there d d.main design.main_there (itself d count d.main)

  main_is : component_at flat_d flat_d.main ≡ renumbered_part d (flat_of d d.main)
  main_is = flat_component_is d d.main design.main_there (itself d count d.main)

  main_old : part_of (component_of d d.main) ≡ component_at d d.main
  main_old = same_part d count d.main

  flat_is_design : design_size (flat_design d) < 2 ^ 32 → IsDesign (flat_design d)
  flat_is_design few = record {
    main_there = main_stands;
    main_named = ap (λ (p : PlainComponent). p.name) main_is ∙ flat-name (component_of d d.main) ∙ ap (λ (p : PlainComponent). p.name) main_old ∙ design.main_named;
    main_dynamic = (flat_design_flat d flat_d.main main_stands).dynamic;
    main_bare = (
      ap (λ (p : PlainComponent). p.inputs) main_is ∙ flat-inputs (component_of d d.main) ∙ ap (λ (p : PlainComponent). p.inputs) main_old ∙ design.main_bare.0,
      ap (λ (p : PlainComponent). p.outputs) main_is ∙ flat-outputs (component_of d d.main) ∙ ap (λ (p : PlainComponent). p.outputs) main_old ∙ design.main_bare.1,
    );
    components = one_component;
    component_names = λ j k less fewer e.
        let x : IsMade d j = m j less in
        let y : IsMade d k = m k fewer in
        sym x.number ∙ ap (reached_below d) (design.component_names x.old y.old x.less y.less (sym (name_is j less) ∙ e ∙ name_is k fewer)) ∙ y.number;
    not_recursive = λ k leads. flat_not_recursive d design k (leads_there flat_d k k leads) leads;
    few_parts = few;
  }

  -- its parts are few, since they are no more than it weighs
  pub is_design : IsDesign (flat_design d)
  is_design =
      let parts = size_within_weight d design in
      let light : weight_below (tree_of (flat_design d)) ≤ 65536 = design_light d design accepted undone in
      let few : design_size (flat_design d) < 4294967296 = omega (arith, parts, light) in
      flat_is_design few
