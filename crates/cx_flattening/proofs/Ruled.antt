-- WHAT THE RULES KEEP OF A COMPONENT with what is below it, as far as flattening asks for it.
use Rattle.std.proofs.Common.{◌≡◌, ℕ, zero, suc, ◌+◌, ◌<◌, ◌⊎◌, inl, inr, ⊎_elim, true, false, List, [], ◌∷◌, ◌++◌, length, get_or, Option, Some, None, refl, sym, ap, ◌∙◌, subst, arith}
use Rattle.std.proofs.lemmas.Bool.{false_from_ne_true}
use Rattle.std.specs.Prelude.{flat_map, nat_eq, slice_get}
use Rattle.cx_text.proofs.MemberLaws.{in_either, in_left, in_right, number_in}
use Rattle.cx_text.specs.declared.rules.Rule.TheVariants.{NotATarget, NotASource, AlwaysEnable, StaticShape, CallShape, OutputNotState}
use Rattle.cx_meaning.specs.declared.ports.PortRef.{PortRef}
use Rattle.cx_meaning.specs.declared.ports.PortRef.TheVariants as ports
use Rattle.cx_meaning.specs.declared.ports.PlacedPort.{PlacedPort}
use Rattle.cx_meaning.specs.Designs.{PlainAssign, PlainGroup, PlainInvoke, PlainComponent, PlainDesign, component_at, group_at, no_group, PlainForm, Empty, Enable, Seq, Par, If, While, Repeat, StaticSeq, StaticPar, StaticIf, StaticRepeat, Timed, PlainStatement}
use Rattle.cx_meaning.specs.Instances.{Instance, Node, Cells, no_cells, a_primitive, an_instance, part_of}
use Rattle.cx_meaning.specs.Active.{nothing, group, Owned, owned, owned_by_groups, source_order}
use Rattle.cx_meaning.specs.Islands.{group_length}
use Rattle.cx_text.specs.Members.{In}
use Rattle.cx_meaning.proofs.DesignsLemmas.{same_part, owned_has}
use Rattle.cx_meaning.proofs.ActiveLemmas.{sorted_has}
use Rattle.cx_rules.specs.Ports.{component_of, path_of, is_source_only, is_target_only, is_primitive_enable, cell_name}
use Rattle.cx_rules.specs.Items.{Visited, statements_in, test_in, sources_of}
use Rattle.cx_rules.specs.Footprints.{AssignNames, Rests}
use Rattle.cx_rules.specs.ShapeRules.{is_hole, some_target, LeadsToInput, IsWrongControl}
use Rattle.cx_rules.specs.StaticControl.{may_stand, is_in_static}
use Rattle.cx_rules.specs.Invokes.{invoke_at, invoke_in}
use Rattle.cx_rules.specs.InvokeShape.{is_static_port, InvokeBreak}
use Rattle.cx_rules.specs.Spots.{Itself, ABind, AnAssign, AStatement, AGroup, binds_in}
use Rattle.cx_rules.specs.Accepted.{IsAccepted}
use Rattle.cx_rules.specs.Wellformed.{IsThere, StandsIn, IsAssign, IsStatement, IsInvoke, IsDesign}
use Rattle.cx_rules.specs.Circles.{IsAcyclic}
use Rattle.cx_rules.specs.RaceRule.{arms_of, IsShared}
use Rattle.cx_rules.proofs.CirclesLemmas.{own_acyclic}
use Rattle.cx_rules.proofs.CircleLemmas.{within_acyclic, within_group}
use Rattle.cx_laws.proofs.EdgeLemmas.{IsFit}
use Rattle.cx_laws.proofs.RaceLemmas.{unshared}
use Rattle.cx_laws.proofs.SourceLemmas.{fit_source}
use Rattle.cx_laws.proofs.StaticLemmas.{all_may}
use Rattle.cx_text.proofs.BoolLaws.{or_left}
use Rattle.cx_flattening.specs.Fair.{IsAssignOf}
use Rattle.cx_flattening.specs.Ends.{is_static_done, NoneNamesDone}
use Rattle.cx_rules.proofs.FoundLemmas.{source_in}

groups_have : (k : ℕ) (groups : List PlainGroup) (g : ℕ) (a : PlainAssign) → g < length groups → In (get_or groups g no_group).assigns a → In (owned_by_groups k groups) (record { owner = Some (k + g); assign = a })
groups_have k [] g a few i = absurd (omega (arith, few))
groups_have k (y ∷ groups) zero a few i =
    let z : k ≡ k + 0 = omega arith in
    in_left (owned (Some k) y.assigns) (owned_by_groups (suc k) groups) (record { owner = Some (k + 0); assign = a })
    (subst (λ n. In (owned (Some k) y.assigns) (record { owner = Some n; assign = a })) z (owned_has (Some k) y.assigns a i))
groups_have k (y ∷ groups) (suc g) a few i =
    let z : suc k + g ≡ k + suc g = omega arith in
    in_right (owned (Some k) y.assigns) (owned_by_groups (suc k) groups) (record { owner = Some (k + suc g); assign = a })
    (subst (λ n. In (owned_by_groups (suc k) groups) (record { owner = Some n; assign = a })) z (groups_have (suc k) groups g a (omega (arith, few)) i))

pub in_order : (part : PlainComponent) (owner : Option ℕ) (a : PlainAssign) → StandsIn part owner a → In (source_order part) (record { owner = owner; assign = a })
in_order part None a i =
    sorted_has (owned None part.always ++ owned_by_groups 0 part.groups) (record { owner = None; assign = a })
    (in_left (owned None part.always) (owned_by_groups 0 part.groups) (record { owner = None; assign = a }) (owned_has None part.always a i))
in_order part (Some g) a (less, i) =
    let z : 0 + g ≡ g = omega arith in
    sorted_has (owned None part.always ++ owned_by_groups 0 part.groups) (record { owner = Some g; assign = a })
    (in_right (owned None part.always) (owned_by_groups 0 part.groups) (record { owner = Some g; assign = a })
    (subst (λ n. In (owned_by_groups 0 part.groups) (record { owner = Some n; assign = a })) z (groups_have 0 part.groups g a less i)))

-- an assignment of a component, with its owner
pub owner_is : (part : PlainComponent) (a : PlainAssign) → IsAssignOf part a → (owner : Option ℕ) × StandsIn part owner a
owner_is part a (inl i) = (None, i)
owner_is part a (inr (x, j, k)) =
    let r = numbered part.groups x j in
    (Some r.0, (r.1, subst (λ y. In y.assigns a) (sym r.2) k))
  where
    numbered : (xs : List PlainGroup) (x : PlainGroup) → In xs x → (g : ℕ) × (g < length xs) × (get_or xs g no_group ≡ x)
    numbered [] x i = absurd i
    numbered (y ∷ ys) x (inl e) = (0, omega arith, e)
    numbered (y ∷ ys) x (inr i) = let r = numbered ys x i in (suc r.0, (let l = r.1 in omega (arith, l)), r.2)

-- an input of an invoke is among the bound inputs
pub bind_in : (vs : List PlainInvoke) (v : PlainInvoke) (a : PlainAssign) → In vs v → In v.inputs a → In (flat_map (λ (x : PlainInvoke). x.inputs) vs) a
bind_in [] v a i j = absurd i
bind_in (x ∷ xs) v a (inl e) j = in_left x.inputs (flat_map (λ (y : PlainInvoke). y.inputs) xs) a (subst (λ (y : PlainInvoke). In y.inputs a) (sym e) j)
bind_in (x ∷ xs) v a (inr i) j = in_right x.inputs (flat_map (λ (y : PlainInvoke). y.inputs) xs) a (bind_in xs v a i j)

-- the statement of a static invoke
pub invoke_found : (vs : List Visited) (n : ℕ) → In (flat_map (λ (v : Visited). invoke_in v.form) vs) n → (s : Visited) × In vs s × (s.form ≡ Timed n)
invoke_found [] n i = absurd i
invoke_found (v ∷ vs) n i =
    ⊎_elim
    (λ j. (v, inl refl, is v.form j))
    (λ j. let r = invoke_found vs n j in (r.0, inr r.1, r.2))
    (in_either (invoke_in v.form) (flat_map (λ (x : Visited). invoke_in x.form) vs) n i)
  where
    is : (form : PlainForm) → In (invoke_in form) n → form ≡ Timed n
    is Empty j = absurd j
    is (Enable g) j = absurd j
    is (Seq parts) j = absurd j
    is (Par arms) j = absurd j
    is (If test comb a b) j = absurd j
    is (While test comb a) j = absurd j
    is (Repeat count a) j = absurd j
    is (StaticSeq length parts) j = absurd j
    is (StaticPar length arms) j = absurd j
    is (StaticIf length test a b) j = absurd j
    is (StaticRepeat length count a) j = absurd j
    is (Timed k) (inl e) = ap Timed e
    is (Timed k) (inr j) = absurd j

-- what may be looked at: a port that is there, no hole, no input of a cell or output of the component, and no done of a static cell
pub record IsSource (i : Instance) (q : PortRef) : Type 0 where
  pub there : IsThere i q
  pub no_hole : is_hole q ≡ false
  pub no_target : is_target_only i q ≡ false
  pub no_done : is_static_done i q ≡ false

pub record IsRuled (part : PlainComponent) (i : Instance) : Type 0 where
  pub assigns : (owner : Option ℕ) (a : PlainAssign) → StandsIn part owner a → IsAssign i owner a
  pub target : (owner : Option ℕ) (a : PlainAssign) → StandsIn part owner a → is_source_only i a.target ≡ false
  pub dynamic : (owner : Option ℕ) (a : PlainAssign) → StandsIn part owner a → is_static_port i a.target ≡ false
  pub sources : (owner : Option ℕ) (a : PlainAssign) (q : PortRef) → StandsIn part owner a → AssignNames a q → IsSource i q
  pub bare : (a : PlainAssign) → In part.always a → is_primitive_enable i a.target ≡ false
  pub kept : (n : ℕ) (a : PlainAssign) (m : ℕ) → part.latency ≡ Some n → In part.always a → AssignNames a (ports.Input m) → ⊥
  pub outputs_rest : (owner : Option ℕ) (a : PlainAssign) (n : ℕ) (q : PortRef) → StandsIn part owner a → a.target ≡ ports.Output n → AssignNames a q → (Rests i q → ⊥) → ⊥
  pub outputs_lead : (owner : Option ℕ) (a : PlainAssign) (n : ℕ) (q : PortRef) → StandsIn part owner a → a.target ≡ ports.Output n → AssignNames a q → LeadsToInput i q → ⊥
  pub statements : (v : Visited) → In (statements_in part) v → IsStatement i v
  pub tests : (v : Visited) (p : PlacedPort) → In (statements_in part) v → test_in v.form ≡ Some p → IsSource i p.port
  pub tests_rest : (v : Visited) (length : Option ℕ) (p : PlacedPort) (a b : PlainStatement) → In (statements_in part) v → v.form ≡ StaticIf length p a b → (Rests i p.port → ⊥) → ⊥
  pub stands : (v : Visited) → In (statements_in part) v → is_in_static v.context ≡ true → may_stand part v.context v.form ≡ true
  pub timed : (g n : ℕ) → g < length part.groups → group_length part g ≡ Some n → some_target is_hole (group_at part g).assigns ≡ false
  pub invokes : (v : PlainInvoke) → In part.invokes v → IsInvoke i v
  pub enabled : (n : ℕ) → n < length part.invokes → (s : Visited) × In (statements_in part) s × (s.form ≡ Timed n)
  pub inputs : (v : PlainInvoke) (a : PlainAssign) → In part.invokes v → In v.inputs a → IsSource i a.source.port
  pub invoked : (s : Visited) (k : ℕ) (v : PlainInvoke) → In (statements_in part) s → s.form ≡ Timed k → invoke_at part k ≡ Some v → InvokeBreak i v → ⊥
  pub control : (n : ℕ) → part.latency ≡ Some n → IsWrongControl part n → ⊥
  pub fit : (o : Owned) → In (source_order part) o → (q : PortRef) → AssignNames o.assign q → IsFit q
  pub apart : (v : Visited) → In (statements_in part) v → (c : ℕ) → IsShared part (arms_of v.form) c → ⊥
  pub no_circle : IsAcyclic i nothing
  pub group_circle : (g : ℕ) → g < length part.groups → IsAcyclic i (group g)

module _ (d : PlainDesign) (design : IsDesign d) (accepted : IsAccepted d) (undone : NoneNamesDone d) (k : ℕ) (within : k < length d.components) where
  abbrev part : PlainComponent
  part = component_at d k

  abbrev i : Instance
  i = component_of d k

  part_is : part_of i ≡ part
  part_is = same_part d (length d.components) k

  of_part : (a : PlainAssign) (owner : Option ℕ) → StandsIn part owner a → IsAssignOf (part_of i) a
  of_part a None j = inl (subst (λ x. In x.always a) (sym part_is) j)
  of_part a (Some g) (less, j) = inr (subst (λ x. (y : PlainGroup) × In x.groups y × In y.assigns a) (sym part_is) (group_at part g, in_group part.groups g less, j))
    where
      in_group : (xs : List PlainGroup) (n : ℕ) → n < length xs → In xs (get_or xs n no_group)
      in_group [] n less = absurd (omega (arith, less))
      in_group (x ∷ xs) zero less = inl refl
      in_group (x ∷ xs) (suc n) less = inr (in_group xs n (omega (arith, less)))

  module _ (owner : Option ℕ) (a : PlainAssign) (s : StandsIn part owner a) where
    abbrev o : Owned
    o = record { owner = owner; assign = a }

    number : (n : ℕ) × ◌≡◌ {A = Option Owned} (slice_get (source_order part) n) (Some o)
    number = number_in (source_order part) o (in_order part owner a s)

    no_source_only : is_source_only i a.target ≡ true → ⊥
    no_source_only e =
        accepted.widths NotATarget (record { component = k; part = AnAssign number.0 }) a.place (path_of i a.target) refl
        (inl (record { within = within; number = number.0; is = refl; assign = o; stands = number.1; breaks = (e, (refl, refl)) }))

    no_static_port : is_static_port i a.target ≡ true → ⊥
    no_static_port e =
        accepted.shapes CallShape (record { component = k; part = AnAssign number.0 }) a.place (path_of i a.target) refl
        (inr (inr (inl (record { within = within; number = number.0; is = refl; assign = o; stands = number.1; breaks = (e, (refl, refl)) }))))

    no_target_only : (p : PlacedPort) → In (sources_of a) p → is_target_only i p.port ≡ true → ⊥
    no_target_only p j e =
        accepted.widths NotASource (record { component = k; part = AnAssign number.0 }) p.place (path_of i p.port) refl
        (inl (record { within = within; number = number.0; is = refl; assign = o; stands = number.1; breaks = (p, j, e, (refl, refl)) }))

    output_kept : (n : ℕ) (q : PortRef) → a.target ≡ ports.Output n → AssignNames a q → ((Rests i q → ⊥) ⊎ LeadsToInput i q) → ⊥
    output_kept n q e names broken =
        accepted.shapes OutputNotState (record { component = k; part = AnAssign number.0 }) a.place (path_of i a.target) refl
        (inl (record { within = within; number = number.0; is = refl; assign = o; stands = number.1; breaks = (n, e, (q, names, broken), (refl, refl)) }))

    source : (q : PortRef) → AssignNames a q → IsSource i q
    source q names =
        let r = source_in a q names in
        let is = (design.components k within).assigns owner a s in
        record {
          there = subst (IsThere i) r.2 (is.sources r.0 r.1);
          no_hole = ap is_hole (sym r.2) ∙ is.no_hole r.0 r.1;
          no_target = ap (is_target_only i) (sym r.2) ∙ false_from_ne_true (is_target_only i r.0.port) (no_target_only r.0 r.1);
          no_done = (undone k within).assigns a q (of_part a owner s) names;
        }

  no_enable : (a : PlainAssign) → In part.always a → is_primitive_enable i a.target ≡ true → ⊥
  no_enable a j e =
      let n = number_in (source_order part) (record { owner = None; assign = a }) (in_order part None a j) in
      accepted.shapes AlwaysEnable (record { component = k; part = AnAssign n.0 }) a.place (path_of i a.target) refl
      (record { within = within; number = n.0; is = refl; assign = record { owner = None; assign = a }; stands = n.1; breaks = (refl, e, (refl, refl)) })

  kept_input : (n : ℕ) (a : PlainAssign) (m : ℕ) → part.latency ≡ Some n → In part.always a → AssignNames a (ports.Input m) → ⊥
  kept_input n a m static j names =
      let at = number_in (source_order part) (record { owner = None; assign = a }) (in_order part None a j) in
      accepted.shapes OutputNotState (record { component = k; part = AnAssign at.0 }) a.place (path_of i a.target) refl
      (inr (record { within = within; number = at.0; is = refl; assign = record { owner = None; assign = a }; stands = at.1; breaks = (n, ap (λ x. x.latency) part_is ∙ static, refl, (m, names), (refl, refl)) }))

  module _ (v : Visited) (s : In (statements_in part) v) where
    at : (n : ℕ) × ◌≡◌ {A = Option Visited} (slice_get (statements_in part) n) (Some v)
    at = number_in (statements_in part) v s

    test_source : (p : PlacedPort) → test_in v.form ≡ Some p → is_target_only i p.port ≡ true → ⊥
    test_source p e sink =
        accepted.widths NotASource (record { component = k; part = AStatement at.0 }) p.place (path_of i p.port) refl
        (inr (inl (record { within = within; number = at.0; is = refl; statement = v; stands = at.1; breaks = (p, e, sink, (refl, refl)) })))

    test_is : (p : PlacedPort) → test_in v.form ≡ Some p → IsSource i p.port
    test_is p e =
        let is = (design.components k within).statements v s in
        record {
          there = is.test p e;
          no_hole = is.no_hole p e;
          no_target = false_from_ne_true (is_target_only i p.port) (test_source p e);
          no_done = (undone k within).tests v p (subst (λ x. In (statements_in x) v) (sym part_is) s) e;
        }

    test_rests : (length : Option ℕ) (p : PlacedPort) (a b : PlainStatement) → v.form ≡ StaticIf length p a b → (Rests i p.port → ⊥) → ⊥
    test_rests written p a b e never =
        accepted.shapes StaticShape (record { component = k; part = AStatement at.0 }) v.place [] refl
        (inr (inr (inr (inl (record { within = within; number = at.0; is = refl; statement = v; stands = at.1; breaks = (written, p, a, b, e, never, (refl, refl)) })))))

    no_break : (n : ℕ) (w : PlainInvoke) → v.form ≡ Timed n → invoke_at part n ≡ Some w → InvokeBreak i w → ⊥
    no_break n w e is broken =
        accepted.shapes CallShape (record { component = k; part = AStatement at.0 }) v.place (cell_name (part_of i).cells w.cell) refl
        (inr (inr (inr (record { within = within; number = at.0; is = refl; statement = v; stands = at.1; breaks = (n, w, e, ap (λ x. invoke_at x n) part_is ∙ is, broken, (refl, refl)) }))))

  bind_source : (v : PlainInvoke) (a : PlainAssign) → In part.invokes v → In v.inputs a → is_target_only i a.source.port ≡ true → ⊥
  bind_source v a j m sink =
      let at = number_in (binds_in part) a (bind_in part.invokes v a j m) in
      accepted.widths NotASource (record { component = k; part = ABind at.0 }) a.source.place (path_of i a.source.port) refl
      (inr (inr (record { within = within; number = at.0; is = refl; assign = a; stands = at.1; breaks = (a.source, inl refl, sink, (refl, refl)) })))

  bind_is : (v : PlainInvoke) (a : PlainAssign) → In part.invokes v → In v.inputs a → IsSource i a.source.port
  bind_is v a j m =
      let is = ((design.components k within).invokes v j).inputs a m in
      record {
        there = is.source;
        no_hole = is.no_hole;
        no_target = false_from_ne_true (is_target_only i a.source.port) (bind_source v a j m);
        no_done = (undone k within).inputs v a (subst (λ x. In x.invokes v) (sym part_is) j) m;
      }

  right_control : (n : ℕ) → part.latency ≡ Some n → IsWrongControl part n → ⊥
  right_control n static wrong =
      accepted.shapes StaticShape (record { component = k; part = Itself 0 }) part.place part.name refl
      (inr (inr (inr (inr (inr (record { within = within; is = refl; latency = n; static = static; control = wrong; tells = (refl, refl) }))))))

  no_hole_driven : (g n : ℕ) → g < length part.groups → group_length part g ≡ Some n → some_target is_hole (group_at part g).assigns ≡ true → ⊥
  no_hole_driven g n less length_is driven =
      accepted.shapes StaticShape (record { component = k; part = AGroup g }) (group_at (part_of i) g).place (group_at (part_of i) g).name refl
      (inl (record {
        within = within;
        number = g;
        is = refl;
        stands = less;
        breaks = (n, ap (λ x. group_length x g) part_is ∙ length_is, or_left (some_target is_hole (group_at (part_of i) g).assigns) (nat_eq n 0) (ap (λ x. some_target is_hole (group_at x g).assigns) part_is ∙ driven), (refl, refl));
      }))

  -- EVERY COMPONENT of an accepted design
  pub ruled : IsRuled part i
  ruled = record {
    assigns = λ owner a s. (design.components k within).assigns owner a s;
    target = λ owner a s. false_from_ne_true (is_source_only i a.target) (no_source_only owner a s);
    dynamic = λ owner a s. false_from_ne_true (is_static_port i a.target) (no_static_port owner a s);
    sources = λ owner a q s names. source owner a s q names;
    bare = λ a j. false_from_ne_true (is_primitive_enable i a.target) (no_enable a j);
    kept = kept_input;
    outputs_rest = λ owner a n q s e names never. output_kept owner a s n q e names (inl never);
    outputs_lead = λ owner a n q s e names leads. output_kept owner a s n q e names (inr leads);
    statements = λ v s. (design.components k within).statements v s;
    tests = λ v p s e. test_is v s p e;
    tests_rest = λ v written p a b s e never. test_rests v s written p a b e never;
    stands = all_may d accepted k within;
    timed = λ g n less e. false_from_ne_true (some_target is_hole (group_at part g).assigns) (no_hole_driven g n less e);
    invokes = λ v j. (design.components k within).invokes v j;
    enabled = λ n less. invoke_found (statements_in part) n ((design.components k within).invoked n less);
    inputs = bind_is;
    invoked = λ v n w s e is broken. no_break v s n w e is broken;
    control = right_control;
    fit = fit_source d design accepted k within;
    apart = unshared d accepted k within;
    no_circle = own_acyclic i (within_acyclic d accepted (length d.components) k);
    group_circle = λ g less. within_group d accepted (length d.components) k g less;
  }

-- EVERY INSTANCE OF A TREE
abbrev mutual
  pub AllRuled : Instance → Type 0
  AllRuled (Node part cells) = IsRuled part (Node part cells) × AllRuledBelow cells

  pub AllRuledBelow : Cells → Type 0
  AllRuledBelow no_cells = Unit {0}
  AllRuledBelow (a_primitive row rest) = AllRuledBelow rest
  AllRuledBelow (an_instance child rest) = AllRuled child × AllRuledBelow rest
