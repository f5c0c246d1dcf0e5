-- GROUPS THAT TWO FLAT ARMS ENABLE: none, where no two arms of the tree enable one, no two invokes have one group that captures, and each
-- invoke stands in one arm alone.
use Rattle.std.proofs.Common.{◌≡◌, ℕ, zero, suc, ◌+◌, ◌<◌, ◌≤◌, inl, inr, ⊎_elim, List, [], ◌∷◌, length, Some, refl, sym, ap, ◌∙◌, subst, arith}
use Rattle.std.proofs.lemmas.Bool.{cases_eq, cases_lt, eq-eqb, eqb-true}
use Rattle.cx_text.proofs.MemberLaws.{image_in}
use Rattle.cx_meaning.specs.declared.ports.PortRef.{PortRef}
use Rattle.cx_meaning.specs.Designs.{PlainComponent, PlainDesign, component_at, OfComponent, PlainForm, PlainStatement}
use Rattle.cx_meaning.specs.Instances.{Instance, Node, Cells, no_cells, a_primitive, an_instance, OfInstance, cell_at, cells_for, tree_within}
use Rattle.cx_meaning.specs.Control.{groups_of}
use Rattle.cx_text.specs.Members.{In}
use Rattle.cx_rules.specs.Accepted.{IsAccepted}
use Rattle.cx_rules.specs.Items.{Dynamic, Visited, statements_in}
use Rattle.cx_rules.specs.RaceRule.{Arms, arms_of, enabled_group, enabled_in, IsShared, IsEnabledTwice}
use Rattle.cx_rules.specs.Invokes.{driven}
use Rattle.cx_rules.specs.Wellformed.{IsDesign}
use Rattle.cx_laws.proofs.RaceLemmas.{not_twice}
use Rattle.cx_flattening.specs.Events.{the_invoke}
use Rattle.cx_flattening.specs.Copies.{copied_statement}
use Rattle.cx_flattening.specs.Flattened.{Kids, kid_at, invoke_port, copy_of, flat_kids, flat_statement}
use Rattle.cx_flattening.specs.Fair.{IsFair}
use Rattle.cx_flattening.specs.Controlled.{timed_of, IsControlled}
use Rattle.cx_flattening.proofs.CellLayout.{kind_at, cell_for, kind_in}
use Rattle.cx_flattening.proofs.TreeLevels.{IsWay, further, way_is_short}
use Rattle.cx_flattening.proofs.AcceptedTrees.{child_kind}
use Rattle.cx_flattening.proofs.FlatGroups.{in_one_of}
use Rattle.cx_flattening.proofs.FlatActs.{invokes_apart, copy_apart}
use Rattle.cx_flattening.proofs.FlatForms.{forms_of, visited_at, enabled_form, form_enabled, enabled_group_of, form_group, IsWithin, enabled_copied, enabled_flat, Comes, comes}
use Rattle.cx_flattening.proofs.FlatForms as forms
use Rattle.cx_flattening.proofs.FlatInside.{form_timed, timed_as, capture_there}
use Rattle.cx_flattening.proofs.DeedsApart.{at_number, fed_drives}
use Rattle.cx_flattening.proofs.FairParts.{in_invokes}
use Rattle.cx_flattening.proofs.Ruled.{IsRuled}

-- no two arms of a component enable one group, and no two invokes capture by one
pub record EnablesOnce (part : PlainComponent) : Type 0 where
  pub once : (v : Visited) (g : ℕ) → In (statements_in part) v → IsEnabledTwice (arms_of v.form) g → ⊥
  pub captures : (j m g : ℕ) → j < length part.invokes → m < length part.invokes → (the_invoke part j).captures ≡ Some g → (the_invoke part m).captures ≡ Some g → j ≡ m

-- and so at every depth
abbrev mutual
  pub AllOnce : Instance → Type 0
  AllOnce (Node part cells) = EnablesOnce part × OnceBelow cells

  pub OnceBelow : Cells → Type 0
  OnceBelow no_cells = Unit {0}
  OnceBelow (a_primitive row rest) = OnceBelow rest
  OnceBelow (an_instance child rest) = AllOnce child × OnceBelow rest

once_below : (cells : Cells) → ((c : ℕ) (child : Instance) → cell_at cells c ≡ OfInstance child → AllOnce child) → OnceBelow cells
once_below no_cells h = tt
once_below (a_primitive row rest) h = once_below rest (λ c child at. h (suc c) child at)
once_below (an_instance child rest) h = (h 0 child refl, once_below rest (λ c other at. h (suc c) other at))

module _ (d : PlainDesign) (design : IsDesign d) (accepted : IsAccepted d) where
  component_once : (k : ℕ) → k < length d.components → EnablesOnce (component_at d k)
  component_once k within = record {
    once = λ v g i twice. not_twice d accepted k within v i g twice;
    captures = λ j m g j_there m_there e f.
        (design.components k within).captures_apart j m g (the_invoke (component_at d k) j) (the_invoke (component_at d k) m) (at_number (component_at d k) j j_there) (at_number (component_at d k) m m_there) e f;
  }

  pub once_tree : (n k : ℕ) (path : List ℕ) → IsWay d design path k → length d.components ≤ n + length path → AllOnce (tree_within d n k)
  once_tree zero k path way many = absurd (let short = way_is_short d design path k way in omega (arith, short, many))
  once_tree (suc n) k path way many = (
    component_once k (way.there k (inl refl)),
    once_below (cells_for (tree_within d n) (component_at d k).cells)
        (λ c child at.
        let r = child_kind (tree_within d n) (kind_at (component_at d k).cells c) child (sym (cell_for (tree_within d n) (component_at d k).cells c) ∙ at) in
        let cell = kind_in (component_at d k).cells c (OfComponent r.0) r.1 in
        subst AllOnce r.2 (once_tree n r.0 (k ∷ path) (further d design path k r.0 cell.0 way cell.1 cell.2) (omega (arith, many)))),
  )

-- a group that a copy enables is the copy of one
pub enabled_back : (f : PortRef → PortRef) (copy : ℕ → ℕ) (s : PlainStatement) (g : ℕ) → In (enabled_in (copied_statement f copy s)) g → (h : ℕ) × In (enabled_in s) h × (copy h ≡ g)
enabled_back f copy s g i =
    let r = enabled_form (copied_statement f copy s) g i in
    let c = forms.copied_back f copy s r.0 r.1 in
    let e = image_in copy (enabled_group c.0) g (subst (λ l. In l g) (enabled_copied f copy c.0) (subst (λ y. In (enabled_group y) g) (sym c.2) r.2)) in
    (e.0, form_enabled s c.0 e.0 c.1 e.1, e.2)

module _ (part : PlainComponent) (cells : Cells) (fair : IsFair (Node part cells)) (controlled : IsControlled (Node part cells)) where
  abbrev kids : Kids
  kids = flat_kids cells

  -- A GROUP THAT A FLAT STATEMENT ENABLES
  data EnabledFrom (s : PlainStatement) (g : ℕ) : Type 0 where
    of_own : In (enabled_in s) g → EnabledFrom s g
    of_capture : (j : ℕ) → In (timed_of s) j → (the_invoke part j).captures ≡ Some g → EnabledFrom s g
    of_copy : (j h : ℕ) (child : PlainComponent) → In (timed_of s) j → kid_at kids (the_invoke part j).cell ≡ Some child → In (groups_of child.control) h → copy_of kids part child j h ≡ g → EnabledFrom s g

  enabled_from : (s : PlainStatement) (g : ℕ) → In (enabled_in (flat_statement kids part s)) g → EnabledFrom s g
  enabled_from s g i = let r = enabled_form (flat_statement kids part s) g i in by r.0 (comes kids part r.0 s r.1) r.2
    where
      same_group : (h : ℕ) → In (h ∷ []) g → h ≡ g
      same_group h (inl e) = e
      same_group h (inr k) = absurd k

      by : (x : PlainForm) → Comes kids part x (forms_of s) → In (enabled_group x) g → EnabledFrom s g
      by x (forms.moved w n untimed e) m =
          of_own (form_enabled s w g n (subst (λ l. In l g) (enabled_flat kids part w untimed) (subst (λ y. In (enabled_group y) g) (sym e) m)))
      by x (forms.copied j child w n its k e) m =
          let f = invoke_port kids part child (the_invoke part j) in
          let r = image_in (copy_of kids part child j) (enabled_group w) g (subst (λ l. In l g) (enabled_copied f (copy_of kids part child j) w) (subst (λ y. In (enabled_group y) g) (sym e) m)) in
          of_copy j r.0 child (form_timed part cells fair controlled s j n) its (form_group w r.0 r.1 child.control k) r.2
      by x (forms.captures j h n e f) m = of_capture j (form_timed part cells fair controlled s j n) (e ∙ ap Some (same_group h (subst (λ y. In (enabled_group y) g) (sym f) m)))
      by x (forms.bare arms enabled test) m = absurd (subst (λ l. In l g) enabled m)

  -- OF TWO ARMS OF THE TREE none of the flat ones enables what the other does
  module _ (ruled : IsRuled part (Node part cells)) (once : EnablesOnce part) (w : PlainForm) (stands : In (forms_of part.control) w) (two : Arms (arms_of w))
      (one : IsWithin two.first (groups_of part.control) (timed_of part.control) (forms_of part.control)) (other : IsWithin two.second (groups_of part.control) (timed_of part.control) (forms_of part.control)) where
    pub unshared : (c : ℕ) → IsShared part (arms_of w) c → ⊥
    unshared c shared = let v = visited_at Dynamic part.control w stands in ruled.apart v.0 v.1 c (subst (λ y. IsShared part (arms_of y) c) (sym v.2) shared)

    -- no invoke stands in both
    no_invoke_twice : (j : ℕ) → In (timed_of two.first) j → In (timed_of two.second) j → ⊥
    no_invoke_twice j a b =
        let less = controlled.timed j (one.timed j a) in
        unshared (the_invoke part j).cell (
          two,
          fed_drives part two.first (the_invoke part j).cell (j, timed_as part cells fair controlled two.first j a, less, refl),
          driven (fed_drives part two.second (the_invoke part j).cell (j, timed_as part cells fair controlled two.second j b, less, refl)),
        )

    -- no statement enables a group that captures
    not_captured : (j g : ℕ) → j < length part.invokes → (the_invoke part j).captures ≡ Some g → In (groups_of part.control) g → ⊥
    not_captured j g less e i = ((ruled.invokes (the_invoke part j) (in_invokes part.invokes j less)).captures g e).not_enabled i

    copies_differ : (j m h n : ℕ) (kid other : PlainComponent) → j < length part.invokes → kid_at kids (the_invoke part j).cell ≡ Some kid → In (groups_of kid.control) h → j < m → copy_of kids part kid j h ≡ copy_of kids part other m n → ⊥
    copies_differ j m h n kid other less its used before same =
        let used_one = in_one_of h (groups_of kid.control) used in
        invokes_apart kids part j m h n kid other before less its used_one ((fair.targets.blocks (the_invoke part j).cell kid its).there h used_one) same

    pub none_twice : (g : ℕ) → In (enabled_in (flat_statement kids part two.first)) g → In (enabled_in (flat_statement kids part two.second)) g → ⊥
    none_twice g a b = by (enabled_from two.first g a) (enabled_from two.second g b)
      where
        by : EnabledFrom two.first g → EnabledFrom two.second g → ⊥
        by (of_own i) (of_own k) =
            let v = visited_at Dynamic part.control w stands in once.once v.0 g v.1 (subst (λ y. IsEnabledTwice (arms_of y) g) (sym v.2) (two, i, k))
        by (of_own i) (of_capture m k e) = not_captured m g (controlled.timed m (other.timed m k)) e (one.groups g (enabled_group_of two.first g i))
        by (of_own i) (of_copy m h kid k its used e) = let less = controlled.enables g (one.groups g (enabled_group_of two.first g i)) in absurd (omega (arith, less, e))
        by (of_capture j i e) (of_own k) = not_captured j g (controlled.timed j (one.timed j i)) e (other.groups g (enabled_group_of two.second g k))
        by (of_capture j i e) (of_capture m k f) =
            let same = once.captures j m g (controlled.timed j (one.timed j i)) (controlled.timed m (other.timed m k)) e f in no_invoke_twice m (subst (In (timed_of two.first)) same i) k
        by (of_capture j i e) (of_copy m h kid k its used f) =
            let less = capture_there part cells fair controlled j g (controlled.timed j (one.timed j i)) e in absurd (omega (arith, less, f))
        by (of_copy j h kid i its used e) (of_own k) = let less = controlled.enables g (other.groups g (enabled_group_of two.second g k)) in absurd (omega (arith, less, e))
        by (of_copy j h kid i its used e) (of_capture m k f) =
            let less = capture_there part cells fair controlled m g (controlled.timed m (other.timed m k)) f in absurd (omega (arith, less, e))
        by (of_copy j h kid i its used e) (of_copy m n also k its_also used_also f) =
            ⊎_elim
            (λ (same : j ≡ m). no_invoke_twice m (subst (In (timed_of two.first)) same i) k)
            (λ (apart : j ≡ m → ⊥).
            ⊎_elim
            (λ (l : j < m). copies_differ j m h n kid also (controlled.timed j (one.timed j i)) its used l (e ∙ sym f))
            (λ (l : m ≤ j). copies_differ m j n h also kid (controlled.timed m (other.timed m k)) its_also used_also (strictly apart l) (f ∙ sym e))
            (cases_lt j m))
            (cases_eq j m)
          where
            strictly : (j ≡ m → ⊥) → m ≤ j → m < j
            strictly apart l = ⊎_elim (λ (x : m < j). x) (λ (x : j ≤ m). absurd (apart (omega (arith, l, x)))) (cases_lt m j)

  -- OF TWO COPIED ARMS of a static child none enables what the other does
  pub copies_once : (j : ℕ) (child : PlainComponent) (s t : PlainStatement) → ((g : ℕ) → In (groups_of s) g → In (groups_of child.control) g) → ((g : ℕ) → In (groups_of t) g → In (groups_of child.control) g)
      → ((g : ℕ) → In (enabled_in s) g → In (enabled_in t) g → ⊥) → (g : ℕ)
      → In (enabled_in (copied_statement (invoke_port kids part child (the_invoke part j)) (copy_of kids part child j) s)) g
      → In (enabled_in (copied_statement (invoke_port kids part child (the_invoke part j)) (copy_of kids part child j) t)) g → ⊥
  copies_once j child s t s_used t_used apart g a b =
      let f = invoke_port kids part child (the_invoke part j) in
      let x = enabled_back f (copy_of kids part child j) s g a in
      let y = enabled_back f (copy_of kids part child j) t g b in
      let x_used = in_one_of x.0 (groups_of child.control) (s_used x.0 (enabled_group_of s x.0 x.1)) in
      let y_used = in_one_of y.0 (groups_of child.control) (t_used y.0 (enabled_group_of t y.0 y.1)) in
      let same : x.0 ≡ y.0 =
      eqb-true x.0 y.0 (sym (copy_apart kids part child j x.0 y.0 x_used y_used) ∙ eq-eqb (copy_of kids part child j x.0) (copy_of kids part child j y.0) (x.2 ∙ sym y.2)) in
      apart y.0 (subst (In (enabled_in s)) same x.1) y.1
