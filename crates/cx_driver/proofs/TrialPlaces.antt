-- In the design of a trial a place tells a port: no assignment has a guard, so each has one operand alone, and nothing is invoked; nor is anything static. So the rule that it breaks is
-- one, with its place and its name.
use Rattle.std.proofs.Common.{◌≡◌, inl, inr, ⊎_elim, ℕ, zero, suc, ◌+◌, ◌*◌, ◌%◌, Bool, true, false, if◌then◌else◌, List, [], ◌∷◌, ◌++◌, map, length, ◌<◌, Some, None, slice_get, refl, sym, ap, ◌∙◌, subst, codes, arith}
use Rattle.std.specs.Prelude.{nat_eq, flat_map}
use Rattle.std.proofs.lemmas.List.{append-nil}
use Rattle.cx_text.proofs.MemberLaws.{each_in, in_at}
use Rattle.cx_text.specs.declared.diagnostics.Diagnostic.{Diagnostic}
use Rattle.cx_text.specs.declared.places.Place.{Place}
use Rattle.cx_text.specs.declared.rules.Rule.{Rule}
use Rattle.cx_ast.specs.PlainStatements.{PlainStatement, Placed, statements_of}
use Rattle.cx_ast.specs.PlainTree as ast
use Rattle.cx_ast.specs.PlainTree.{PlainTree, PlainComponent}
use Rattle.cx_meaning.specs.declared.ports.PlacedPort.{PlacedPort}
use Rattle.cx_meaning.specs.Designs.{PlainAssign, PlainGroup, PlainInvoke, PlainDesign, Always, component_at}
use Rattle.cx_meaning.specs.Active.{Owned, owned, owned_by_groups, source_order}
use Rattle.cx_text.specs.Members.{Each, In}
use Rattle.cx_numbering.specs.DesignOf.{Invoke, invokes_in, invokes_all, invokes_of, guard_or_always, assign_of, group_of, invoke_groups, static_invokes, first, component_of, design_of}
use Rattle.cx_numbering.specs.Names.{groups_in, always_in}
use Rattle.cx_rules.specs.Flat.{IsFlatPart, IsFlat}
use Rattle.cx_rules.specs.Items.{operands_of, sources_of}
use Rattle.cx_rules.specs.OneBreak.{IsPlaced}
use Rattle.cx_rules.specs.Spots.{binds_in}
use Rattle.cx_rules.proofs.ForeignLemmas.{sorted_among, owned_among, split}
use Rattle.cx_check.specs.Acceptance.{TreeBreak}
use Rattle.cx_check.proofs.Verdicts.{refused_once}
use Rattle.cx_trial.specs.TrialParts.{up_to, indexed, step_name}
use Rattle.cx_trial.specs.TrialControl.{enable, seq_of, par_of, repeated, rounds, step_of, arm_of, quarter_of, all_arms, whole_control}
use Rattle.cx_trial.specs.TrialTree.{all_groups, trial_part, trial_tree}
use Rattle.cx_driver.proofs.TrialWires.{OfGroup, each_up_to, groups_each, none_always, all_hold}

-- NOTHING IS INVOKED in its control
abbrev invoked : PlainStatement → List Invoke
invoked (Placed attributes form place) = invokes_in form place

abbrev Invokes : PlainStatement → Type 0
Invokes s = invoked s ≡ []

none_invoked : (ss : List PlainStatement) → Each Invokes ss → invokes_all (statements_of ss) ≡ []
none_invoked [] h = refl
none_invoked (Placed attributes form place ∷ ss) h = ap (λ xs. xs ++ invokes_all (statements_of ss)) h.0 ∙ none_invoked ss h.1

either : (b : Bool) (s t : PlainStatement) → Invokes s → Invokes t → Invokes (if b then s else t)
either true s t h k = h
either false s t h k = k

step_invokes : (seed arm step : ℕ) → Invokes (step_of seed arm step)
step_invokes seed arm step =
    let once = enable (step_name arm step) in
    let some = repeated (rounds seed arm step) (step_name arm step) in
    let twice = seq_of (enable (step_name arm step) ∷ enable (step_name arm step) ∷ []) in
    let beside = par_of (enable (step_name arm step) ∷ enable (indexed (codes "h") arm) ∷ []) in
    either (nat_eq (step % 4) 0) once (if nat_eq (step % 4) 1 then some else if nat_eq (step % 4) 2 then twice else beside) refl
    (either (nat_eq (step % 4) 1) some (if nat_eq (step % 4) 2 then twice else beside) refl (either (nat_eq (step % 4) 2) twice beside refl refl))

arm_invokes : (seed arm : ℕ) → Invokes (arm_of seed arm)
arm_invokes seed arm = none_invoked (up_to (λ step. step_of seed arm step ∷ []) 8) (each_up_to Invokes (λ step. step_of seed arm step ∷ []) (λ step. (step_invokes seed arm step, tt)) 8)

quarter_invokes : (seed quarter : ℕ) → Invokes (quarter_of seed quarter)
quarter_invokes seed quarter =
    none_invoked (up_to (λ arm. arm_of seed (4 * quarter + arm) ∷ []) 4) (each_up_to Invokes (λ arm. arm_of seed (4 * quarter + arm) ∷ []) (λ arm. (arm_invokes seed (4 * quarter + arm), tt)) 4)

arms_invoke : (seed : ℕ) → Invokes (all_arms seed)
arms_invoke seed = none_invoked (up_to (λ quarter. quarter_of seed quarter ∷ []) 4) (each_up_to Invokes (λ quarter. quarter_of seed quarter ∷ []) (λ quarter. (quarter_invokes seed quarter, tt)) 4)

no_invokes : (seed : ℕ) → invokes_of (whole_control seed) ≡ []
no_invokes seed =
    let stores = up_to (λ arm. enable (indexed (codes "t") arm) ∷ []) 16 in
    none_invoked (seq_of (all_arms seed ∷ stores) ∷ [])
    (none_invoked (all_arms seed ∷ stores) (arms_invoke seed, each_up_to Invokes (λ arm. enable (indexed (codes "t") arm) ∷ []) (λ arm. (refl, tt)) 16), tt)

-- NO GUARD
abbrev Written : ast.PlainAssign → Type 0
Written a = a.guard ≡ None

abbrev Unguarded : PlainAssign → Type 0
Unguarded a = a.guard ≡ Always

-- an assignment without a guard has one operand
one_operand : (a : PlainAssign) (p q : PlacedPort) → Unguarded a → In (sources_of a) p → In (sources_of a) q → p.port ≡ q.port
one_operand a p q always ip iq = ap (λ (x : PlacedPort). x.port) (sym (only p ip) ∙ only q iq)
  where
    own : (p : PlacedPort) → In (a.source ∷ []) p → a.source ≡ p
    own p (inl e) = e
    own p (inr none) = absurd none

    only : (p : PlacedPort) → In (sources_of a) p → a.source ≡ p
    only p i = own p (subst (λ g. In (a.source ∷ operands_of g) p) always i)

group_unguarded : (n : ℕ) (groups : List PlainGroup) (o : Owned) → Each (λ (g : PlainGroup). Each Unguarded g.assigns) groups → In (owned_by_groups n groups) o → Unguarded o.assign
group_unguarded n [] o h i = absurd i
group_unguarded n (g ∷ groups) o h i =
    ⊎_elim (λ j. each_in Unguarded g.assigns o.assign h.0 (owned_among (Some n) g.assigns o j).1) (λ j. group_unguarded (suc n) groups o h.1 j) (split (owned (Some n) g.assigns) (owned_by_groups (suc n) groups) o i)

module _ (tree : PlainTree) (part : PlainComponent) where
  assigns_unguarded : (assigns : List ast.PlainAssign) → Each Written assigns → Each Unguarded (map (assign_of tree part) assigns)
  assigns_unguarded [] h = tt
  assigns_unguarded (a ∷ assigns) h = (ap (λ g. guard_or_always tree part g) h.0, assigns_unguarded assigns h.1)

  groups_unguarded : (groups : List ast.PlainGroup) → Each (λ (g : ast.PlainGroup). Each Written g.assigns) groups → Each (λ (g : PlainGroup). Each Unguarded g.assigns) (map (group_of tree part) groups)
  groups_unguarded [] h = tt
  groups_unguarded (g ∷ groups) h = (assigns_unguarded g.assigns h.0, groups_unguarded groups h.1)

module _ (seed : ℕ) where
  abbrev tree : PlainTree
  tree = trial_tree seed

  abbrev part : PlainComponent
  part = trial_part seed

  written : Each (OfGroup Written) (all_groups seed)
  written = all_hold Written (λ cell port source. refl) (λ group cell. refl) seed

  in_order : (o : Owned) → In (source_order (component_of tree part)) o → Unguarded o.assign
  in_order o i =
      let always : List PlainAssign = map (assign_of tree part) (always_in (all_groups seed)) in
      let groups : List PlainGroup = map (group_of tree part) (groups_in (all_groups seed)) in
      let none : always ≡ [] = ap (λ xs. map (assign_of tree part) xs) (none_always Written (all_groups seed) written) in
      let alone : groups ++ invoke_groups tree part (first tree part) (invokes_of (whole_control seed)) ≡ groups =
      ap (λ ks. groups ++ invoke_groups tree part (first tree part) ks) (no_invokes seed) ∙ append-nil groups in
      let free : In (owned None always) o → Unguarded o.assign = λ j. absurd (subst (λ xs. In xs o.assign) none (owned_among None always o j).1) in
      let grouped : In (owned_by_groups 0 (groups ++ invoke_groups tree part (first tree part) (invokes_of (whole_control seed)))) o → Unguarded o.assign =
      λ j. group_unguarded 0 groups o (groups_unguarded tree part (groups_in (all_groups seed)) (groups_each Written (all_groups seed) written)) (subst (λ gs. In (owned_by_groups 0 gs) o) alone j) in
      ⊎_elim free grouped
      (split (owned None always) (owned_by_groups 0 (groups ++ invoke_groups tree part (first tree part) (invokes_of (whole_control seed)))) o
      (sorted_among (owned None always ++ owned_by_groups 0 (groups ++ invoke_groups tree part (first tree part) (invokes_of (whole_control seed)))) o i))

  order_unguarded : (k n : ℕ) (o : Owned) → slice_get (source_order (component_at (design_of tree) k)) n ≡ Some o → Unguarded o.assign
  order_unguarded zero n o e = in_order o (in_at (source_order (component_of tree part)) n o e)
  order_unguarded (suc k) n o e = absurd (in_at [] n o e)

  no_binds : (k : ℕ) → binds_in (component_at (design_of tree) k) ≡ []
  no_binds zero = ap (λ ks. flat_map (λ (v : PlainInvoke). v.inputs) (static_invokes tree part (first tree part) ks)) (no_invokes seed)
  no_binds (suc k) = refl

  placed : IsPlaced (design_of tree)
  placed = record {
    assigns = λ k n o p q e ip iq tp tq same. one_operand o.assign p q (order_unguarded k n o e) ip iq;
    binds = λ k n a p q e ip iq tp tq same. absurd (in_at [] n a (subst (λ xs. slice_get xs n ≡ Some a) (no_binds k) e));
  }

  -- NOTHING IS STATIC
  flat_at : (k : ℕ) → k < length (design_of tree).components → IsFlatPart (component_at (design_of tree) k)
  flat_at zero few = record { dynamic = refl; no_invoke = ap (λ ks. static_invokes tree part (first tree part) ks) (no_invokes seed) }
  flat_at (suc k) few = absurd (omega (arith, few))

  pub trial_flat : (d : PlainDesign) → d ≡ design_of tree → IsFlat d
  trial_flat d same = subst IsFlat (sym same) flat_at

  -- THE RULE that the tree of a trial breaks is one
  pub trial_once : (a b : Diagnostic) → TreeBreak (trial_tree seed) a → TreeBreak (trial_tree seed) b → a ≡ b
  trial_once a b h k =
      let one = refused_once (trial_tree seed) a b h k in
      let tell : Rule → Place → List ℕ → Diagnostic = λ r p n. record { rule = r; place = p; name = n } in
      ap (λ r. tell r a.place a.name) one.rule ∙ ap (λ p. tell b.rule p a.name) one.place ∙ ap (λ n. tell b.rule b.place n) (one.name (λ r. placed))
