-- THE STATIC INVOKES of an instrumented component: each names its cell and has its latency, its inputs are moved, and the group that
-- captures gains nothing, for it has no name.
use Rattle.std.proofs.Common.{◌≡◌, ℕ, zero, suc, ◌+◌, ◌-◌, ◌<◌, ◌≤◌, ◌&&◌, Bool, true, false, if◌then◌else◌, inl, inr, ◌⊎◌, List, [], ◌∷◌, length, map, Option, Some, None, option_map, refl, sym, ap, ◌∙◌, subst, arith}
use Rattle.std.specs.Prelude.{nat_eq, nat_lt}
use Rattle.std.specs.List.{slice_get}
use Rattle.std.proofs.lemmas.Bool.{eqb-true, ltb-true}
use Rattle.cx_text.proofs.MemberLaws.{flat_in, image_in, in_at, in_either, in_image, in_left}
use Rattle.cx_text.specs.Members.{In}
use Rattle.cx_text.proofs.ListLaws.{front, there_at, there_below as below_there}
use Rattle.cx_text.proofs.OptionLaws.{map_some, same_some}
use Rattle.cx_text.specs.declared.places.Place.{Place}
use Rattle.cx_meaning.specs.declared.ports.PortRef.{PortRef}
use Rattle.cx_meaning.specs.declared.ports.PortRef.TheVariants as ports
use Rattle.cx_meaning.specs.Designs.{PlainAssign, PlainGroup, group_at, PlainKind, OfPrimitive, OfComponent, PlainCell, PlainStatement, statements_of, PlainInvoke, PlainComponent, PlainDesign, component_at}
use Rattle.cx_meaning.specs.Control.{groups_of, groups_in_all}
use Rattle.cx_meaning.specs.Instances.{Instance, Node, At, OfInstance, Cells, cells_for, cells_of, cell_at, part_of, tree_within}
use Rattle.cx_meaning.specs.Sights.{AnInput, output_port, part_port}
use Rattle.cx_meaning.proofs.DesignsLemmas.{same_part, there_below}
use Rattle.cx_meaning.proofs.SightsLaws.{input_at, not_input}
use Rattle.cx_meaning.proofs.InstancesLemmas.{at_kind, cell_stands}
use Rattle.cx_rules.specs.CallShape.{IsInput, is_reg_kind, is_register_cell, is_register, one}
use Rattle.cx_rules.specs.InvokeShape.{latency_at}
use Rattle.cx_rules.specs.Invokes.{invoke_in, invokes_of}
use Rattle.cx_rules.specs.Items.{Dynamic, Visited, visit, visit_all, statements_in}
use Rattle.cx_rules.specs.Ports.{component_of}
use Rattle.cx_rules.specs.Wellformed.{IsBind, IsCapture, takes, enables, IsCapturing, IsDesign, IsInvoke, IsKind}
use Rattle.cx_rules.proofs.PortsLemmas.{part_is}
use Rattle.cx_laws.proofs.TogetherLemmas.{in_flat}
use Rattle.cx_rewrites.specs.Moving.{moved_guard, moved_assign, moved_statement}
use Rattle.cx_rewrites.proofs.MovedInvokes.{invoke_in-moved}
use Rattle.cx_rewrites.proofs.MovedLists.{groups_of-moved, moved_visited, visit-moved}
use Rattle.cx_profiling.specs.Counters.{has_name, is_counted, is_counted_kind, first_gained, Shown, shown_in}
use Rattle.cx_profiling.specs.Instrumented.{counter_assigns, store_enables, moved_by, moved_number, moved_in, moved_assigns, moved_invoke, gained, group_with, counted_groups, main_component, with_counts}
use Rattle.cx_profiling.proofs.ThereLemmas.{tree_on, is_there, from_there}
use Rattle.cx_profiling.proofs.GainedLemmas.{IsGrown, components-length, grown_at, moved_names}
use Rattle.cx_profiling.proofs.FitLemmas.{moved_hole}
use Rattle.cx_profiling.proofs.RoleLemmas.{Role, as_main, as_child, as_kept, role}

-- LISTS
pub get_mapped : {A B : Type 0} (f : A → B) (xs : List A) (n : ℕ) → slice_get (map f xs) n ≡ option_map f (slice_get xs n)
get_mapped f [] n = refl
get_mapped f (x ∷ xs) zero = refl
get_mapped f (x ∷ xs) (suc n) = get_mapped f xs n

-- PORTS: an input is behind go, and before all outputs
input_is : (part : PlainComponent) (p x : ℕ) → part_port part p ≡ AnInput x → (p ≡ suc x) × (x < length part.inputs)
input_is part zero x e = absurd cc
input_is part (suc p) x e = by (nat_lt p (length part.inputs)) refl e
  where
    by : (t : Bool) → nat_lt p (length part.inputs) ≡ t → (if t then AnInput p else output_port (length part.outputs) (p - length part.inputs)) ≡ AnInput x → (suc p ≡ suc x) × (x < length part.inputs)
    by true f h = let same : p ≡ x = cc in (ap suc same, subst (λ n. n < length part.inputs) same (ltb-true p (length part.inputs) f))
    by false f h = absurd (not_input (length part.outputs) (p - length part.inputs) x h)

-- what stands at a cell, by the kind of the cell
module _ (d : PlainDesign) (some : 0 < length d.components) (k : ℕ) where
  kind_at : (c : ℕ) (cell : PlainCell) → slice_get (component_at d k).cells c ≡ Some cell → (n : ℕ) × (cell_at (cells_of (component_of d k)) c ≡ at_kind (tree_within d n) cell.kind)
  kind_at c cell e = by (tree_on d some (length d.components) k some)
    where
      by : (n : ℕ) × (component_of d k ≡ Node (component_at d k) (cells_for (tree_within d n) (component_at d k).cells)) → (n : ℕ) × (cell_at (cells_of (component_of d k)) c ≡ at_kind (tree_within d n) cell.kind)
      by (n, is) = (n, ap (λ i. cell_at (cells_of i) c) is ∙ cell_stands (tree_within d n) (component_at d k).cells c cell e)

abbrev kind_latency : PlainDesign → PlainKind → Option ℕ
kind_latency d (OfPrimitive p) = None
kind_latency d (OfComponent j) = (component_at d j).latency

latency_of_kind : (d : PlainDesign) (n : ℕ) (kind : PlainKind) → latency_at (at_kind (tree_within d n) kind) ≡ kind_latency d kind
latency_of_kind d n (OfPrimitive p) = refl
latency_of_kind d n (OfComponent j) = ap (λ (part : PlainComponent). part.latency) (same_part d n j)

-- the enables of stores are behind the old groups
stores_past : (place : Place) (g : ℕ) (xs : List Shown) (h : ℕ) → In (groups_in_all (statements_of (store_enables place g xs))) h → g ≤ h
stores_past place g [] h i = absurd i
stores_past place g (x ∷ xs) h (inl e) = omega (arith, e)
stores_past place g (x ∷ xs) h (inr i) = let z : suc g ≤ h = stores_past place (suc g) xs h i in omega (arith, z)

module _ (d : PlainDesign) (k : ℕ) where
  abbrev part : PlainComponent
  part = component_at d k

  abbrev mv : PortRef → PortRef
  mv = moved_in d part

  -- what a component keeps that its static invokes speak of
  pub record KeepsInvokes (new : PlainComponent) : Type 0 where
    pub latency : new.latency ≡ part.latency
    pub invokes : new.invokes ≡ map (moved_invoke d part) part.invokes
    pub unnamed : (g : ℕ) (old : PlainGroup) → slice_get part.groups g ≡ Some old → old.name ≡ [] → slice_get new.groups g ≡ Some (group_with d part old [])
    pub invoked : (n : ℕ) → In (invokes_of part.control) n → In (invokes_of new.control) n
    pub enabled : (g : ℕ) → g < length part.groups → In (groups_of new.control) g → In (groups_of part.control) g

  -- a group without a name is not counted
  pub uncounted : (cells : Cells) (g : PlainGroup) → g.name ≡ [] → is_counted cells g ≡ false
  uncounted cells g e = ap (λ name. has_name name && is_counted_kind cells g.assigns g.kind) e

  uncounted_at : (cells : Cells) (c : ℕ) (gs : List PlainGroup) (n : ℕ) (old : PlainGroup) → slice_get gs n ≡ Some old → old.name ≡ [] → slice_get (counted_groups d part cells c gs) n ≡ Some (group_with d part old [])
  uncounted_at cells c [] n old e none = absurd cc
  uncounted_at cells c (x ∷ gs) zero old e none =
      let same : x ≡ old = same_some x old e in
      ap (λ b. slice_get (if b then group_with d part x (counter_assigns part.place c) ∷ counted_groups d part cells (suc (suc c)) gs else group_with d part x [] ∷ counted_groups d part cells c gs) 0)
      (uncounted cells x (ap (λ (y : PlainGroup). y.name) same ∙ none)) ∙ ap (λ y. Some (group_with d part y [])) same
  uncounted_at cells c (x ∷ gs) (suc n) old e none = by (is_counted cells x) (uncounted_at cells (suc (suc c)) gs n old e none) (uncounted_at cells c gs n old e none)
    where
      by : (b : Bool) → slice_get (counted_groups d part cells (suc (suc c)) gs) n ≡ Some (group_with d part old []) → slice_get (counted_groups d part cells c gs) n ≡ Some (group_with d part old [])
          → slice_get (if b then group_with d part x (counter_assigns part.place c) ∷ counted_groups d part cells (suc (suc c)) gs else group_with d part x [] ∷ counted_groups d part cells c gs) (suc n) ≡ Some (group_with d part old [])
      by true counted plain = counted
      by false counted plain = plain

  plain_at : (gs : List PlainGroup) (n : ℕ) (old : PlainGroup) → slice_get gs n ≡ Some old → slice_get (map (λ g. group_with d part g []) gs) n ≡ Some (group_with d part old [])
  plain_at gs n old e = get_mapped (λ g. group_with d part g []) gs n ∙ ap (option_map (λ g. group_with d part g [])) e

  -- the statements of the old control are visited, moved
  abbrev HasOld : PlainStatement → Type 0
  HasOld control = (v : Visited) → In (visit Dynamic (moved_statement mv part.control)) v → In (visit Dynamic control) v

  still_invoked : (control : PlainStatement) → HasOld control → (n : ℕ) → In (invokes_of part.control) n → In (invokes_of control) n
  still_invoked control has n i = by (flat_in (λ (v : Visited). invoke_in v.form) (statements_in part) n i)
    where
      by : (v : Visited) × In (statements_in part) v × In (invoke_in v.form) n → In (invokes_of control) n
      by (v, j, h) =
          in_flat (λ (w : Visited). invoke_in w.form) (visit Dynamic control) (moved_visited mv v) n
          (has (moved_visited mv v) (subst (λ vs. In vs (moved_visited mv v)) (sym (visit-moved mv Dynamic part.control)) (in_image (moved_visited mv) (visit Dynamic part.control) v j)))
          (subst (λ ks. In ks n) (sym (invoke_in-moved mv v.form)) h)

  old_enabled : (g : ℕ) → In (groups_of (moved_statement mv part.control)) g → In (groups_of part.control) g
  old_enabled g i = subst (λ gs. In gs g) (groups_of-moved mv part.control) i

  keeps : Role d k → KeepsInvokes (component_at (with_counts d) k)
  keeps (as_main names is e) = subst KeepsInvokes (sym e) (record {
    latency = refl;
    invokes = refl;
    unnamed = λ g old at none. front _ _ g (group_with d part old []) (uncounted_at (cells_of (component_of d k)) (length part.cells) part.groups g old at none);
    invoked = still_invoked (main_component d k names).control (λ v i. inr (in_left (visit Dynamic (moved_statement mv part.control)) (visit_all Dynamic (statements_of (store_enables part.place (length part.groups) (shown_in (component_of d k))))) v i));
    enabled = λ g less i. main_enabled g less (in_either (groups_of (moved_statement mv part.control)) (groups_in_all (statements_of (store_enables part.place (length part.groups) (shown_in (component_of d k))))) g i);
  })
    where
      main_enabled : (g : ℕ) → g < length part.groups → In (groups_of (moved_statement mv part.control)) g ⊎ In (groups_in_all (statements_of (store_enables part.place (length part.groups) (shown_in (component_of d k))))) g → In (groups_of part.control) g
      main_enabled g less (inl i) = old_enabled g i
      main_enabled g less (inr i) = let past : length part.groups ≤ g = stores_past part.place (length part.groups) (shown_in (component_of d k)) g i in absurd (omega (arith, less, past))
  keeps (as_child names is reached e) = subst KeepsInvokes (sym e) (record {
    latency = refl;
    invokes = refl;
    unnamed = λ g old at none. uncounted_at (cells_of (component_of d k)) (length part.cells) part.groups g old at none;
    invoked = still_invoked (moved_statement mv part.control) (λ v i. i);
    enabled = λ g less i. old_enabled g i;
  })
  keeps (as_kept is unreached e) = subst KeepsInvokes (sym e) (record {
    latency = refl;
    invokes = refl;
    unnamed = λ g old at none. plain_at part.groups g old at;
    invoked = still_invoked (moved_statement mv part.control) (λ v i. i);
    enabled = λ g less i. old_enabled g i;
  })

pub keeps_at : (d : PlainDesign) (k : ℕ) → k < length d.components → KeepsInvokes d k (component_at (with_counts d) k)
keeps_at d k there = keeps d k (role d k there)

-- A COMPONENT'S INVOKES, where the design keeps what every design keeps
module _ (d : PlainDesign) (rules : IsDesign d) (k : ℕ) (there : k < length d.components) where
  abbrev old : PlainComponent
  old = component_at d k

  abbrev new : PlainComponent
  new = component_at (with_counts d) k

  abbrev move : PortRef → PortRef
  move = moved_in d old

  some : 0 < length d.components
  some = omega arith

  some_grown : 0 < length (with_counts d).components
  some_grown = subst (λ n. 0 < n) (sym (components-length d)) some

  grown : IsGrown d k new
  grown = grown_at d k there

  same_kind : (kind : PlainKind) → IsKind d kind → kind_latency (with_counts d) kind ≡ kind_latency d kind
  same_kind (OfPrimitive p) h = refl
  same_kind (OfComponent j) less = (keeps_at d j less).latency

  -- the cell of a number, in both
  cell_there : (c : ℕ) → c < length (part_of (component_of d k)).cells → (cell : PlainCell) × (slice_get old.cells c ≡ Some cell)
  cell_there c less = there_at old.cells c (subst (λ (p : PlainComponent). c < length p.cells) (part_is d k) less)

  kind_of : (c : ℕ) (cell : PlainCell) → slice_get old.cells c ≡ Some cell → IsKind d cell.kind
  kind_of c cell at = ((rules.components k there).cells cell (in_at old.cells c cell at)).kind

  pub same_latency : (c : ℕ) (cell : PlainCell) → slice_get old.cells c ≡ Some cell → latency_at (cell_at (cells_of (component_of d k)) c) ≡ latency_at (cell_at (cells_of (component_of (with_counts d) k)) c)
  same_latency c cell at =
      let a = kind_at d some k c cell at in
      let b = kind_at (with_counts d) some_grown k c cell (grown.cells c cell at) in
      ap latency_at a.1 ∙ latency_of_kind d a.0 cell.kind ∙ sym (same_kind cell.kind (kind_of c cell at)) ∙ sym (latency_of_kind (with_counts d) b.0 cell.kind) ∙ sym (ap latency_at b.1)

  -- an input of a cell's component stays one, and keeps its number
  input_kept : (n m j : ℕ) → j < length d.components → (p : ℕ) → IsInput (tree_within d n j) p → IsInput (tree_within (with_counts d) m j) p
  input_kept n m j less p (x, e) =
      let is = input_is (component_at d j) p x (subst (λ (q : PlainComponent). part_port q p ≡ AnInput x) (same_part d n j) e) in
      let few : x < length (component_at (with_counts d) j).inputs = subst (λ decls. x < length decls) (sym (grown_at d j less).inputs) is.1 in
      let here : part_port (component_at (with_counts d) j) p ≡ AnInput x = subst (λ q. part_port (component_at (with_counts d) j) q ≡ AnInput x) (sym is.0) (input_at (component_at (with_counts d) j) x few) in
      (x, subst (λ (q : PlainComponent). part_port q p ≡ AnInput x) (sym (same_part (with_counts d) m j)) here)

  unmoved : (h p x : ℕ) → p ≡ suc x → x < length (component_at d h).inputs → moved_by d (OfComponent h) p ≡ p
  unmoved h p x e less = by (nat_eq p (first_gained (component_at d h))) refl
    where
      by : (b : Bool) → nat_eq p (first_gained (component_at d h)) ≡ b → (if b then p + gained d h else p) ≡ p
      by true f = let same : p ≡ suc (length (component_at d h).inputs + length (component_at d h).outputs) = eqb-true p (first_gained (component_at d h)) f in absurd (omega (arith, same, e, less))
      by false f = refl

  kind_stays : (c p : ℕ) (kind : PlainKind) (at : At) → ((n : ℕ) × (at ≡ at_kind (tree_within d n) kind)) → ((child : Instance) → at ≡ OfInstance child → IsInput child p) → moved_by d kind p ≡ p
  kind_stays c p (OfPrimitive q) at (n, is) input = refl
  kind_stays c p (OfComponent j) at (n, is) input = by (input (tree_within d n j) is)
    where
      by : IsInput (tree_within d n j) p → moved_by d (OfComponent j) p ≡ p
      by (x, e) = let r = input_is (component_at d j) p x (subst (λ (q : PlainComponent). part_port q p ≡ AnInput x) (same_part d n j) e) in unmoved j p x r.0 r.1

  module _ (c : ℕ) (cell : PlainCell) (at : slice_get old.cells c ≡ Some cell) where
    input_stays : (p : ℕ) → ((child : Instance) → cell_at (cells_of (component_of d k)) c ≡ OfInstance child → IsInput child p) → move (ports.Cell c p) ≡ ports.Cell c p
    input_stays p input =
        ap (λ o. ports.Cell c (moved_number d o p)) at
        ∙ ap (ports.Cell c) (kind_stays c p cell.kind (cell_at (cells_of (component_of d k)) c) (kind_at d some k c cell at) input)

    child_is : (m : ℕ) (kind : PlainKind) → IsKind d kind → (child : Instance) (p : ℕ) → at_kind (tree_within (with_counts d) m) kind ≡ OfInstance child
        → ((n : ℕ) × (cell_at (cells_of (component_of d k)) c ≡ at_kind (tree_within d n) kind)) → ((x : Instance) → cell_at (cells_of (component_of d k)) c ≡ OfInstance x → IsInput x p) → IsInput child p
    child_is m (OfPrimitive q) h child p e old_at input = absurd cc
    child_is m (OfComponent j) less child p e (n, is) input = subst (λ i. IsInput i p) (same (tree_within (with_counts d) m j) child e) (input_kept n m j less p (input (tree_within d n j) is))
      where
        same : (i h : Instance) → OfInstance i ≡ OfInstance h → i ≡ h
        same i h e = ap instance e
          where
            instance : At → Instance
            instance (OfInstance x) = x
            instance _ = i

  pub bind_stays : (c : ℕ) (a : PlainAssign) → c < length (part_of (component_of d k)).cells → IsBind (component_of d k) c a → move a.target ≡ a.target
  bind_stays c a less b =
      let cell = cell_there c less in
      ap move b.target ∙ input_stays c cell.0 cell.1 b.port b.input ∙ sym b.target

  bind_kept : (c : ℕ) (a : PlainAssign) → c < length (part_of (component_of d k)).cells → IsBind (component_of d k) c a → IsBind (component_of (with_counts d) k) c (moved_assign move a)
  bind_kept c a less b = record {
    port = b.port;
    target = bind_stays c a less b ∙ b.target;
    there = is_there (with_counts d) some_grown k (move a.target) (moved_names d rules k there new grown a.target (from_there d some k a.target b.there));
    input = λ child e. child_input child e;
    no_guard = ap (moved_guard move) b.no_guard;
    source = is_there (with_counts d) some_grown k (move a.source.port) (moved_names d rules k there new grown a.source.port (from_there d some k a.source.port b.source));
    no_hole = moved_hole d old a.source.port ∙ b.no_hole;
  }
    where
      child_input : (child : Instance) → cell_at (cells_of (component_of (with_counts d) k)) c ≡ OfInstance child → IsInput child b.port
      child_input child e =
          let cell = cell_there c less in
          let now = kind_at (with_counts d) some_grown k c cell.0 (grown.cells c cell.0 cell.1) in
          child_is c cell.0 cell.1 now.0 cell.0.kind (kind_of c cell.0 cell.1) child b.port (sym now.1 ∙ e) (kind_at d some k c cell.0 cell.1) b.input

  -- CAPTURES: a register's ports keep their numbers
  register_stays : (o : Option PlainCell) (p : ℕ) → is_register_cell o ≡ true → moved_number d o p ≡ p
  register_stays None p e = refl
  register_stays (Some cell) p e = by cell.kind e
    where
      by : (kind : PlainKind) → is_reg_kind kind ≡ true → moved_by d kind p ≡ p
      by (OfPrimitive q) f = refl
      by (OfComponent h) f = absurd cc

  register_kept : (r : ℕ) → is_register (part_of (component_of d k)) r ≡ true → (is_register_cell (slice_get old.cells r) ≡ true) × (is_register (part_of (component_of (with_counts d) k)) r ≡ true)
  register_kept r e = (here, by (slice_get old.cells r) refl here)
    where
      here : is_register_cell (slice_get old.cells r) ≡ true
      here = ap (λ (p : PlainComponent). is_register p r) (sym (part_is d k)) ∙ e

      by : (o : Option PlainCell) → slice_get old.cells r ≡ o → is_register_cell o ≡ true → is_register (part_of (component_of (with_counts d) k)) r ≡ true
      by None at h = absurd cc
      by (Some cell) at h = ap (λ (p : PlainComponent). is_register p r) (part_is (with_counts d) k) ∙ ap is_register_cell (grown.cells r cell at) ∙ h

  register_port : (r p : ℕ) → is_register_cell (slice_get old.cells r) ≡ true → move (ports.Cell r p) ≡ ports.Cell r p
  register_port r p e = ap (ports.Cell r) (register_stays (slice_get old.cells r) p e)

  capture_kept : (c : ℕ) (a : PlainAssign) → IsCapture (component_of d k) c a → IsCapture (component_of (with_counts d) k) c (moved_assign move a)
  capture_kept c a (takes r q reg target guard source) =
      let kept = register_kept r reg in
      takes r (moved_number d (slice_get old.cells c) q) kept.1 (ap move target ∙ register_port r 0 kept.0) (ap (moved_guard move) guard) (ap move source)
  capture_kept c a (enables r reg target guard source) =
      let kept = register_kept r reg in
      enables r kept.1 (ap move target ∙ register_port r 1 kept.0) (ap (moved_guard move) guard) (ap move source)

  capturing_kept : (c g : ℕ) → IsCapturing (component_of d k) c g → IsCapturing (component_of (with_counts d) k) c g
  capturing_kept c g w = record {
    there = subst (λ (p : PlainComponent). g < length p.groups) (sym now) more;
    one_cycle = ap (λ (p : PlainComponent). (group_at p g).kind) now ∙ ap (λ (x : PlainGroup). x.kind) same ∙ sym (ap (λ (p : PlainComponent). (group_at p g).kind) before) ∙ w.one_cycle;
    unnamed = ap (λ (p : PlainComponent). (group_at p g).name) now ∙ ap (λ (x : PlainGroup). x.name) same ∙ nameless;
    not_enabled = λ i. w.not_enabled (subst (λ (p : PlainComponent). In (groups_of p.control) g) (sym before) (kept.enabled g less (subst (λ (p : PlainComponent). In (groups_of p.control) g) now i)));
    assigns = λ a i. one_assign a (in_either (moved_assigns d old (group_at old g).assigns) [] a (subst (λ (x : PlainGroup). In x.assigns a) same (subst (λ (p : PlainComponent). In (group_at p g).assigns a) now i)));
  }
    where
      kept : KeepsInvokes d k new
      kept = keeps_at d k there

      before : part_of (component_of d k) ≡ old
      before = part_is d k

      now : part_of (component_of (with_counts d) k) ≡ new
      now = part_is (with_counts d) k

      less : g < length old.groups
      less = subst (λ (p : PlainComponent). g < length p.groups) before w.there

      nameless : (group_at old g).name ≡ []
      nameless = sym (ap (λ (p : PlainComponent). (group_at p g).name) before) ∙ w.unnamed

      at : slice_get new.groups g ≡ Some (group_with d old (group_at old g) [])
      at = kept.unnamed g (group_at old g) (there_below old.groups g less) nameless

      more : g < length new.groups
      more = below_there new.groups g (group_with d old (group_at old g) []) at

      same : group_at new g ≡ group_with d old (group_at old g) []
      same = same_some (group_at new g) (group_with d old (group_at old g) []) (sym (there_below new.groups g more) ∙ at)

      moved_one : (a : PlainAssign) → (x : PlainAssign) × In (group_at old g).assigns x × (moved_assign move x ≡ a) → IsCapture (component_of (with_counts d) k) c a
      moved_one a (x, i, e) = subst (IsCapture (component_of (with_counts d) k) c) e (capture_kept c x (w.assigns x (subst (λ (p : PlainComponent). In (group_at p g).assigns x) (sym before) i)))

      one_assign : (a : PlainAssign) → In (moved_assigns d old (group_at old g).assigns) a ⊎ In [] a → IsCapture (component_of (with_counts d) k) c a
      one_assign a (inl i) = moved_one a (image_in (moved_assign move) (group_at old g).assigns a i)
      one_assign a (inr i) = absurd i

  -- AN INVOKE
  invoke_kept : (v : PlainInvoke) → IsInvoke (component_of d k) v → IsInvoke (component_of (with_counts d) k) (moved_invoke d old v)
  invoke_kept v w = record {
    cell = subst (λ (p : PlainComponent). v.cell < length p.cells) (sym (part_is (with_counts d) k)) (below_there new.cells v.cell cell.0 (grown.cells v.cell cell.0 cell.1));
    latency = w.latency ∙ same_latency v.cell cell.0 cell.1;
    inputs = λ a i. moved_bind a (image_in (moved_assign move) v.inputs a i);
    once = λ m n a b one two e. once m n a b (map_some (moved_assign move) (slice_get v.inputs m) a (sym (get_mapped (moved_assign move) v.inputs m) ∙ one)) (map_some (moved_assign move) (slice_get v.inputs n) b (sym (get_mapped (moved_assign move) v.inputs n) ∙ two)) e;
    captures = λ g e. capturing_kept v.cell g (w.captures g e);
  }
    where
      cell : (cell : PlainCell) × (slice_get old.cells v.cell ≡ Some cell)
      cell = cell_there v.cell w.cell

      moved_bind : (a : PlainAssign) → (x : PlainAssign) × In v.inputs x × (moved_assign move x ≡ a) → IsBind (component_of (with_counts d) k) v.cell a
      moved_bind a (x, i, e) = subst (IsBind (component_of (with_counts d) k) v.cell) e (bind_kept v.cell x w.cell (w.inputs x i))

      stays : (n : ℕ) (x a : PlainAssign) → slice_get v.inputs n ≡ Some x → moved_assign move x ≡ a → x.target ≡ a.target
      stays n x a at e = sym (bind_stays v.cell x w.cell (w.inputs x (in_at v.inputs n x at))) ∙ ap (λ (y : PlainAssign). y.target) e

      once : (m n : ℕ) (a b : PlainAssign) → (x : PlainAssign) × (slice_get v.inputs m ≡ Some x) × (moved_assign move x ≡ a) → (y : PlainAssign) × (slice_get v.inputs n ≡ Some y) × (moved_assign move y ≡ b) → a.target ≡ b.target → m ≡ n
      once m n a b (x, one, e) (y, two, f) same = w.once m n x y one two (stays m x a one e ∙ same ∙ sym (stays n y b two f))

  -- WHAT THE COMPONENT KEEPS of its invokes
  pub invokes_kept : (v : PlainInvoke) → In new.invokes v → IsInvoke (component_of (with_counts d) k) v
  invokes_kept v i = by (image_in (moved_invoke d old) old.invokes v (subst (λ vs. In vs v) (keeps_at d k there).invokes i))
    where
      by : (x : PlainInvoke) × In old.invokes x × (moved_invoke d old x ≡ v) → IsInvoke (component_of (with_counts d) k) v
      by (x, j, e) = subst (IsInvoke (component_of (with_counts d) k)) e (invoke_kept x ((rules.components k there).invokes x j))

  pub invoked_kept : (n : ℕ) → n < length new.invokes → In (invokes_of new.control) n
  invoked_kept n less = (keeps_at d k there).invoked n ((rules.components k there).invoked n (subst (λ m. n < m) grown.invokes less))

  pub captures_apart_kept : (m n g : ℕ) (v w : PlainInvoke) → slice_get new.invokes m ≡ Some v → slice_get new.invokes n ≡ Some w → v.captures ≡ Some g → w.captures ≡ Some g → m ≡ n
  captures_apart_kept m n g v w one two a b = by (from m v one) (from n w two)
    where
      from : (n : ℕ) (v : PlainInvoke) → slice_get new.invokes n ≡ Some v → (x : PlainInvoke) × (slice_get old.invokes n ≡ Some x) × (moved_invoke d old x ≡ v)
      from n v at = map_some (moved_invoke d old) (slice_get old.invokes n) v (sym (get_mapped (moved_invoke d old) old.invokes n) ∙ sym (ap (λ vs. slice_get vs n) (keeps_at d k there).invokes) ∙ at)

      by : (x : PlainInvoke) × (slice_get old.invokes m ≡ Some x) × (moved_invoke d old x ≡ v) → (y : PlainInvoke) × (slice_get old.invokes n ≡ Some y) × (moved_invoke d old y ≡ w) → m ≡ n
      by (x, first, e) (y, second, f) = (rules.components k there).captures_apart m n g x y first second (ap (λ (z : PlainInvoke). z.captures) e ∙ a) (ap (λ (z : PlainInvoke). z.captures) f ∙ b)
