-- What assignments and statements of a design name is there.
use Rattle.std.proofs.Common.{◌≡◌, ℕ, zero, suc, ◌<◌, ◌≤◌, List, [], ◌++◌, Option, Some, None, length, map, flat_map, ◌⊎◌, inl, inr, ⊎_elim, refl, sym, ap, ◌∙◌, subst, arith}
use denote.Struct.Props.{props}
use Rattle.std.proofs.Math.Logic.{∥∥₁_elim}
use Rattle.std.proofs.lemmas.List.{get_or_past}
use Rattle.cx_text.proofs.MemberLaws.{flat_in, image_in, in_at, in_either}
use Rattle.cx_graphs.specs.Graphs as graphs
use Rattle.cx_graphs.specs.Graphs.{Bounded, Edges, edges_of, targets_of}
use Rattle.cx_meaning.specs.declared.ports.PortRef.{PortRef}
use Rattle.cx_meaning.specs.declared.ports.PortRef.TheVariants as ports
use Rattle.cx_meaning.specs.declared.ports.PlacedPort.{PlacedPort}
use Rattle.cx_meaning.specs.Designs.{PlainAssign, PlainGroup, PlainInvoke, PlainComponent, PlainDesign, component_at, group_at, no_group, PlainForm, Empty, Enable, Seq, Par, If, While, Repeat, StaticSeq, StaticPar, StaticIf, StaticRepeat, Timed, PlainStatement}
use Rattle.cx_meaning.specs.Instances.{Instance, part_of}
use Rattle.cx_text.specs.Members.{In}
use Rattle.cx_meaning.specs.Control.{groups_of}
use Rattle.cx_rules.specs.Ports.{component_of}
use Rattle.cx_rules.specs.Items.{operands_of, Visited, Dynamic, visit, statements_in, test_in, option_list, tests_of}
use Rattle.cx_rules.specs.RaceRule.{enabled_group, enabled_in}
use Rattle.cx_rules.specs.Invokes.{invoke_at, invokes_of}
use Rattle.cx_rules.specs.Wellformed.{IsThere, StandsIn, IsAssign, IsForm, IsWith, IsBind, IsDesign}
use Rattle.cx_race.specs.Forms.{forms_of, own_groups}
use Rattle.cx_race.specs.Cells.{cell_in, port_cell, target_in, named_in, named_in_all, targets_in_group, cells_in_group, tested_by, targets_in_capture, named_in_capture, targets_in_invoke, named_in_invoke, named_in_invokes, invoked_by, met_by}
use Rattle.cx_race.specs.Links.{AreLinks, HasLinks, Within}
use Rattle.cx_race.specs.Footprints.{AreFootprints}
use Rattle.cx_race.specs.declared.parts.Footprints.{Footprints}
use Rattle.cx_race.proofs.FormLemmas.{visited_forms, enabled_by_forms, groups_by_forms, tests_by_forms}
use Rattle.cx_race.proofs.CellLemmas.{cell_is, group_list}
use Rattle.cx_race.proofs.ArmLemmas.{from_node}
use Rattle.cx_meaning.proofs.DesignsLemmas.{same_part}

port_within : (i : Instance) (port : PortRef) → IsThere i port → Within (length (part_of i).cells) (cell_in port)
port_within i port h c j = let p = cell_is port c j in let there : IsThere i (ports.Cell c p.0) = subst (IsThere i) p.1 h in there.0

-- the cells that an assignment names are there
target_within : (i : Instance) (owner : Option ℕ) (a : PlainAssign) → IsAssign i owner a → Within (length (part_of i).cells) (target_in a)
target_within i owner a h = port_within i a.target h.target

named_within : (i : Instance) (owner : Option ℕ) (a : PlainAssign) → IsAssign i owner a → Within (length (part_of i).cells) (named_in a)
named_within i owner a h c j =
    ⊎_elim
    (λ l. port_within i a.source.port (h.sources a.source (inl refl)) c l)
    (λ r. let o = flat_in port_cell (operands_of a.guard) c r in port_within i o.0.port (h.sources o.0 (inr o.1)) c o.2)
    (in_either (cell_in a.source.port) (flat_map port_cell (operands_of a.guard)) c j)

-- the cells that an input of a static invoke names are there
bind_within : (i : Instance) (cell : ℕ) (a : PlainAssign) → IsBind i cell a → Within (length (part_of i).cells) (named_in a)
bind_within i cell a h c j =
    ⊎_elim
    (λ l. port_within i a.source.port h.source c l)
    (λ r. let none : flat_map port_cell (operands_of a.guard) ≡ [] = ap (λ g. flat_map port_cell (operands_of g)) h.no_guard in absurd (subst (λ l. In l c) none r))
    (in_either (cell_in a.source.port) (flat_map port_cell (operands_of a.guard)) c j)

-- a group that has assignments is there
group_there : (part : PlainComponent) (g : ℕ) (a : PlainAssign) → In (group_at part g).assigns a → StandsIn part (Some g) a
group_there part g a i = ⊎_elim (λ lt. (lt, i)) (λ ge. absurd (subst (λ x. In x.assigns a) (get_or_past part.groups g no_group ge) i)) (below_or_not g (length part.groups))
  where
    below_or_not : (m n : ℕ) → (m < n) ⊎ (n ≤ m)
    below_or_not zero zero = inr (omega arith)
    below_or_not zero (suc n) = inl (omega arith)
    below_or_not (suc m) zero = inr (omega arith)
    below_or_not (suc m) (suc n) = ⊎_elim (λ l. inl (omega (arith, l))) (λ g. inr (omega (arith, g))) (below_or_not m n)

in_option : {A : Type 0} (o : Option A) (x : A) → In (option_list o) x → o ≡ Some x
in_option None x i = absurd i
in_option (Some y) x (inl e) = ap Some e
in_option (Some y) x (inr i) = absurd i

-- the group that a form enables is one of its own
enabled_own : (f : PlainForm) (g : ℕ) → In (enabled_group f) g → In (own_groups f) g
enabled_own Empty g i = i
enabled_own (Enable h) g i = i
enabled_own (Seq parts) g i = i
enabled_own (Par arms) g i = i
enabled_own (If test comb a b) g i = absurd i
enabled_own (While test comb a) g i = absurd i
enabled_own (Repeat count a) g i = i
enabled_own (StaticSeq length parts) g i = i
enabled_own (StaticPar length arms) g i = i
enabled_own (StaticIf length test a b) g i = i
enabled_own (StaticRepeat length count a) g i = i
enabled_own (Timed k) g i = i

with_there : (part : PlainComponent) (comb : Option ℕ) (g : ℕ) → IsWith part comb → In (option_list comb) g → g < length part.groups
with_there part None g h i = absurd i
with_there part (Some x) g h (inl e) = subst (λ n. n < length part.groups) e h.0
with_there part (Some x) g h (inr i) = absurd i

-- a form's own groups are there
own_there : (part : PlainComponent) (f : PlainForm) → IsForm part f → (g : ℕ) → In (own_groups f) g → g < length part.groups
own_there part Empty h g i = absurd i
own_there part (Enable x) h g (inl e) = subst (λ n. n < length part.groups) e h.0
own_there part (Enable x) h g (inr i) = absurd i
own_there part (Seq parts) h g i = absurd i
own_there part (Par arms) h g i = absurd i
own_there part (If test comb a b) h g i = with_there part comb g h i
own_there part (While test comb a) h g i = with_there part comb g h i
own_there part (Repeat count a) h g i = absurd i
own_there part (StaticSeq l parts) h g i = absurd i
own_there part (StaticPar l arms) h g i = absurd i
own_there part (StaticIf l test a b) h g i = absurd i
own_there part (StaticRepeat l count a) h g i = absurd i
own_there part (Timed k) h g i = absurd i

-- the statement's forms are of the component's control
abbrev pub AreForms : PlainComponent → PlainStatement → Type 0
AreForms part s = (f : PlainForm) → In (forms_of s) f → In (forms_of part.control) f

module _ (d : PlainDesign) (keeps : ∥ IsDesign d ∥₁) (k : ℕ) (within : k < length d.components) where
  abbrev part : PlainComponent
  part = component_at d k

  abbrev at : Instance
  at = component_of d k

  same : part_of at ≡ part
  same = same_part d (length d.components) k

  in_part : (ns : List ℕ) → Within (length (part_of at).cells) ns → Within (length part.cells) ns
  in_part ns h = subst (λ p. Within (length p.cells) ns) same h

  target_there : (owner : Option ℕ) (a : PlainAssign) → StandsIn part owner a → Within (length part.cells) (target_in a)
  target_there owner a i = ∥∥₁_elim keeps (hlevel props) (λ design. in_part (target_in a) (target_within at owner a ((design.components k within).assigns owner a i)))

  named_there : (owner : Option ℕ) (a : PlainAssign) → StandsIn part owner a → Within (length part.cells) (named_in a)
  named_there owner a i = ∥∥₁_elim keeps (hlevel props) (λ design. in_part (named_in a) (named_within at owner a ((design.components k within).assigns owner a i)))

  pub always_target : (a : PlainAssign) → In part.always a → Within (length part.cells) (target_in a)
  always_target a i = target_there None a i

  pub are_links : (g : Edges) → length g ≡ length part.cells → HasLinks part.always g → AreLinks part g
  are_links g size has = record {
    size = size;
    graph = λ n e i. let b = has.sound n e i in subst (λ c. e < c) (sym size) (named_there None b.0 b.1 e b.3);
    links = has;
  }

  -- the form of a statement is visited
  visited_form : (f : PlainForm) → In (forms_of part.control) f → (v : Visited) × In (statements_in part) v × (v.form ≡ f)
  visited_form f i = image_in (λ v. v.form) (visit Dynamic part.control) f (subst (λ l. In l f) (sym (visited_forms Dynamic part.control)) i)

  targets_there : (g : ℕ) → Within (length part.cells) (targets_in_group (group_at part g))
  targets_there g c i =
      let a = flat_in target_in (group_at part g).assigns c i in
      target_there (Some g) a.0 (group_there part g a.0 a.1) c a.2

  cells_there : (g : ℕ) → Within (length part.cells) (cells_in_group (group_at part g))
  cells_there g c i =
      ⊎_elim
      (λ l. targets_there g c l)
      (λ r. let a = flat_in named_in (group_at part g).assigns c r in named_there (Some g) a.0 (group_there part g a.0 a.1) c a.2)
      (in_either (targets_in_group (group_at part g)) (named_in_all (group_at part g).assigns) c i)

  lists_there : (f : PlainGroup → List ℕ) → f no_group ≡ [] → ((g : ℕ) → Within (length part.cells) (f (group_at part g))) → (lists : Edges) → lists ≡ map f part.groups
      → (g : ℕ) → Bounded (length part.cells) (targets_of lists g)
  lists_there f e h lists is g c i = h g c (from_node (f (group_at part g)) c (subst (λ l. In l c) (ap (λ x. targets_of x g) is ∙ group_list f e part.groups g) i))

  pub are_footprints : (f : Footprints) → AreLinks part (edges_of f.links.items) → edges_of f.driven.items ≡ map targets_in_group part.groups → edges_of f.named.items ≡ map cells_in_group part.groups
      → AreFootprints part f
  are_footprints f links driven named = record {
    links = links;
    driven = driven;
    named = named;
    driven_within = lists_there targets_in_group refl targets_there (edges_of f.driven.items) driven;
    named_within = lists_there cells_in_group refl cells_there (edges_of f.named.items) named;
  }

  test_there : (f : PlainForm) (p : PlacedPort) → In (forms_of part.control) f → test_in f ≡ Some p → Within (length part.cells) (port_cell p)
  test_there f p i e =
      let v = visited_form f i in
      ∥∥₁_elim keeps (hlevel props) (λ design. in_part (port_cell p) (port_within at p.port (((design.components k within).statements v.0 v.1).test p (ap test_in v.2 ∙ e))))

  tests_there : (s : PlainStatement) → AreForms part s → Within (length part.cells) (tested_by s)
  tests_there s forms c i =
      let p = flat_in port_cell (tests_of s) c i in
      let f = flat_in (λ f. option_list (test_in f)) (forms_of s) p.0 (subst (λ l. In l p.0) (tests_by_forms s) p.1) in
      test_there f.0 p.0 (forms f.0 f.1) (in_option (test_in f.0) p.0 f.2) c p.2

  -- THE STATIC INVOKES
  capture_targets : (o : Option ℕ) → Within (length part.cells) (targets_in_capture part o)
  capture_targets None c i = absurd i
  capture_targets (Some g) c i = targets_there g c i

  capture_names : (o : Option ℕ) → Within (length part.cells) (named_in_capture part o)
  capture_names None c i = absurd i
  capture_names (Some g) c i =
      let a = flat_in named_in (group_at part g).assigns c i in
      named_there (Some g) a.0 (group_there part g a.0 a.1) c a.2

  invoke_targets : (n : ℕ) (o : Option PlainInvoke) → invoke_at part n ≡ o → Within (length part.cells) (targets_in_invoke part o)
  invoke_targets n None e c i = absurd i
  invoke_targets n (Some v) e c (inl is) =
      ∥∥₁_elim keeps (hlevel props) (λ design. subst (λ p. c < length p.cells) same (subst (λ m. m < length (part_of at).cells) is ((design.components k within).invokes v (in_at part.invokes n v e)).cell))
  invoke_targets n (Some v) e c (inr i) = capture_targets v.captures c i

  invoke_names : (n : ℕ) (o : Option PlainInvoke) → invoke_at part n ≡ o → Within (length part.cells) (named_in_invoke part o)
  invoke_names n None e c i = absurd i
  invoke_names n (Some v) e c i =
      ⊎_elim
      (λ l. let a = flat_in named_in v.inputs c l in
      ∥∥₁_elim keeps (hlevel props) (λ design. in_part (named_in a.0) (bind_within at v.cell a.0 (((design.components k within).invokes v (in_at part.invokes n v e)).inputs a.0 a.1)) c a.2))
      (λ r. capture_names v.captures c r)
      (in_either (named_in_all v.inputs) (named_in_capture part v.captures) c i)

  pub invoked_there : (s : PlainStatement) → Within (length part.cells) (invoked_by part s)
  invoked_there s c i = let n = flat_in (λ n. targets_in_invoke part (invoke_at part n)) (invokes_of s) c i in invoke_targets n.0 (invoke_at part n.0) refl c n.2

  pub met_there : (s : PlainStatement) → AreForms part s → Within (length part.cells) (met_by part s)
  met_there s forms c i =
      let fed = named_in_invokes part (invokes_of s) in
      ⊎_elim
      (λ l. tests_there s forms c l)
      (λ r. ⊎_elim
      (λ x. invoked_there s c x)
      (λ y. let n = flat_in (λ n. named_in_invoke part (invoke_at part n)) (invokes_of s) c y in invoke_names n.0 (invoke_at part n.0) refl c n.2)
      (in_either (invoked_by part s) fed c r))
      (in_either (tested_by s) (invoked_by part s ++ fed) c i)

  form_there : (f : PlainForm) → In (forms_of part.control) f → (g : ℕ) → In (own_groups f) g → g < length part.groups
  form_there f i g j =
      let v = visited_form f i in
      ∥∥₁_elim keeps (hlevel props) (λ design. subst (λ p. g < length p.groups) same (own_there (part_of at) f (subst (λ x. IsForm (part_of at) x) v.2 ((design.components k within).statements v.0 v.1).form) g j))

  pub groups_there : (s : PlainStatement) → AreForms part s → Within (length part.groups) (groups_of s)
  groups_there s forms g i =
      let f = flat_in own_groups (forms_of s) g (subst (λ l. In l g) (groups_by_forms s) i) in
      form_there f.0 (forms f.0 f.1) g f.2

  pub enabled_there : (s : PlainStatement) → AreForms part s → Within (length part.groups) (enabled_in s)
  enabled_there s forms g i =
      let f = flat_in enabled_group (forms_of s) g (subst (λ l. In l g) (enabled_by_forms s) i) in
      form_there f.0 (forms f.0 f.1) g (enabled_own f.0 g f.2)
