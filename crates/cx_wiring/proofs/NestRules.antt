-- What the rules say of tests and assignments, where no expression of their net is to nest deeply: no output is read, and a guard has no
-- more parts than the size of its component.
use Rattle.std.proofs.Common.{◌≡◌, inl, inr, ℕ, zero, suc, ◌+◌, ◌<◌, ◌≤◌, Bool, true, false, List, [], ◌∷◌, length, Option, Some, None, get_or, refl, subst, arith}
use Rattle.cx_text.proofs.MemberLaws.{in_left, in_right, number_in}
use Rattle.cx_text.specs.declared.rules.Rule.TheVariants as told
use Rattle.cx_meaning.specs.declared.ports.PortRef.{PortRef}
use Rattle.cx_meaning.specs.declared.ports.PortRef.TheVariants as ports
use Rattle.cx_meaning.specs.declared.ports.PlacedPort.{PlacedPort}
use Rattle.cx_meaning.specs.Designs.{PlainGuard, Always, Atom, Negation, All, Any, Compared, Within, PlainGuards, no_guards, a_guard, PlainAssign, PlainGroup, PlainComponent, PlainDesign, component_at, group_at, no_group}
use Rattle.cx_meaning.specs.Active.{Owned, source_order}
use Rattle.cx_text.specs.Members.{In, Each}
use Rattle.cx_rules.specs.Accepted.{IsAccepted}
use Rattle.cx_rules.specs.Items.{operands_of, operands_in, guard_nodes, nodes_in, sources_of, statements_in}
use Rattle.cx_rules.specs.Ports.{component_of, is_target_only, path_of}
use Rattle.cx_rules.specs.Sizes.{assigns_size, groups_size, size_of}
use Rattle.cx_rules.specs.Spots.{AnAssign, AStatement}
use Rattle.cx_rules.specs.Wellformed.{StandsIn}
use Rattle.cx_net.specs.NetLimits.{IsRead}
use Rattle.cx_static.specs.Lowering.{lowered_component}
use Rattle.cx_wiring.specs.Assignments.{is_driven, driven_assigns}
use Rattle.cx_wiring.specs.Nesting.{most, guards_count, GuardNests, GuardsNest, OwnedNests, IsPart, AreParts, HasParts}
use Rattle.cx_wiring.proofs.DesignNames.{in_filter, stands_in}
use Rattle.cx_wiring.proofs.FitLemmas.{are_each}
use Rattle.cx_wiring.proofs.NestLowering.{AllRead}

-- GUARDS have a node for each part
mutual
  part_nodes : (g : PlainGuard) → IsPart g → 1 ≤ guard_nodes g
  part_nodes Always is = absurd is
  part_nodes (Atom p) is = omega arith
  part_nodes (Negation g) is = omega arith
  part_nodes (All gs) is = omega arith
  part_nodes (Any gs) is = omega arith
  part_nodes (Compared c a b) is = omega arith
  part_nodes (Within from to) is = omega arith

  parts_nodes : (gs : PlainGuards) → AreParts gs → guards_count gs ≤ nodes_in gs
  parts_nodes no_guards are = omega arith
  parts_nodes (a_guard g gs) are =
      let one : 1 ≤ guard_nodes g = part_nodes g are.0 in
      let rest : guards_count gs ≤ nodes_in gs = parts_nodes gs are.1 in
      omega arith

mutual
  part_nests : (g : PlainGuard) → IsPart g → guard_nodes g ≤ most → ((p : PlacedPort) → In (operands_of g) p → IsRead p.port) → GuardNests g
  part_nests Always is few read = tt
  part_nests (Atom p) is few read = read p (inl refl)
  part_nests (Negation g) is few read = let less : guard_nodes g ≤ most = omega arith in part_nests g is less read
  part_nests (All gs) is few read =
      let less : nodes_in gs ≤ most = omega arith in
      let count : guards_count gs ≤ nodes_in gs = parts_nodes gs is in
      (omega arith, parts_nest gs is less read)
  part_nests (Any gs) is few read =
      let less : nodes_in gs ≤ most = omega arith in
      let count : guards_count gs ≤ nodes_in gs = parts_nodes gs is in
      (omega arith, parts_nest gs is less read)
  part_nests (Compared c a b) is few read = (read a (inl refl), read b (inr (inl refl)))
  part_nests (Within from to) is few read = tt

  parts_nest : (gs : PlainGuards) → AreParts gs → nodes_in gs ≤ most → ((p : PlacedPort) → In (operands_in gs) p → IsRead p.port) → GuardsNest gs
  parts_nest no_guards are few read = tt
  parts_nest (a_guard g gs) are few read =
      let one : guard_nodes g ≤ most = omega arith in
      let rest : nodes_in gs ≤ most = omega arith in
      (part_nests g are.0 one (λ p i. read p (in_left (operands_of g) (operands_in gs) p i)), parts_nest gs are.1 rest (λ p i. read p (in_right (operands_of g) (operands_in gs) p i)))

guard_nests : (g : PlainGuard) → HasParts g → guard_nodes g ≤ most → ((p : PlacedPort) → In (operands_of g) p → IsRead p.port) → GuardNests g
guard_nests Always is few read = tt
guard_nests (Atom p) is few read = part_nests (Atom p) is few read
guard_nests (Negation g) is few read = part_nests (Negation g) is few read
guard_nests (All gs) is few read = part_nests (All gs) is few read
guard_nests (Any gs) is few read = part_nests (Any gs) is few read
guard_nests (Compared c a b) is few read = part_nests (Compared c a b) is few read
guard_nests (Within from to) is few read = part_nests (Within from to) is few read

-- SIZES of what stands in a component
assign_sized : (list : List PlainAssign) (a : PlainAssign) → In list a → guard_nodes a.guard < assigns_size list
assign_sized [] a i = absurd i
assign_sized (x ∷ list) a (inl e) =
    let all : assigns_size (x ∷ list) ≡ 1 + guard_nodes x.guard + assigns_size list = refl in
    subst (λ (y : PlainAssign). guard_nodes y.guard < assigns_size (x ∷ list)) e (omega (arith, all))
assign_sized (x ∷ list) a (inr i) =
    let all : assigns_size (x ∷ list) ≡ 1 + guard_nodes x.guard + assigns_size list = refl in
    let h : guard_nodes a.guard < assigns_size list = assign_sized list a i in
    omega (arith, all)

group_sized : (groups : List PlainGroup) (g : ℕ) → g < length groups → assigns_size (get_or groups g no_group).assigns ≤ groups_size groups
group_sized [] g less = absurd (omega arith)
group_sized (x ∷ groups) zero less = let all : groups_size (x ∷ groups) ≡ 1 + assigns_size x.assigns + groups_size groups = refl in omega (arith, all)
group_sized (x ∷ groups) (suc g) less =
    let all : groups_size (x ∷ groups) ≡ 1 + assigns_size x.assigns + groups_size groups = refl in
    let there : g < length groups = omega arith in
    let h : assigns_size (get_or groups g no_group).assigns ≤ groups_size groups = group_sized groups g there in
    omega (arith, all)

owned_sized : (part : PlainComponent) (owner : Option ℕ) (a : PlainAssign) → StandsIn part owner a → guard_nodes a.guard ≤ size_of part
owned_sized part None a stands = let h : guard_nodes a.guard < assigns_size part.always = assign_sized part.always a stands in omega arith
owned_sized part (Some g) a stands =
    let h : guard_nodes a.guard < assigns_size (group_at part g).assigns = assign_sized (group_at part g).assigns a stands.1 in
    let k : assigns_size (group_at part g).assigns ≤ groups_size part.groups = group_sized part.groups g stands.0 in
    omega arith

module _ (d : PlainDesign) (accepted : IsAccepted d) (k : ℕ) (within : k < length d.components) where
  abbrev part : PlainComponent
  part = component_at d k

  -- what is no target alone is read
  is_read : (p : PortRef) → is_target_only (component_of d k) p ≡ false → IsRead p
  is_read (ports.Cell c p) e = tt
  is_read (ports.Input n) e = tt
  is_read (ports.Output n) e = never e
    where
      never : true ≡ false → ⊥
      never f = cc
  is_read (ports.Done g) e = tt
  is_read (ports.Literal w v) e = tt

  pub tests_read : AllRead part (statements_in part)
  tests_read v i p is = is_read p.port (by (is_target_only (component_of d k) p.port) refl)
    where
      by : (b : Bool) → is_target_only (component_of d k) p.port ≡ b → b ≡ false
      by false e = refl
      by true e =
          let n = number_in (statements_in part) v i in
          absurd (accepted.widths told.NotASource (record { component = k; part = AStatement n.0 }) p.place (path_of (component_of d k) p.port) refl
          (inr (inl (record { within = within; number = n.0; is = refl; statement = v; stands = n.1; breaks = (p, is, e, (refl, refl)) }))))

  source_read : (o : Owned) → In (source_order part) o → (p : PlacedPort) → In (sources_of o.assign) p → IsRead p.port
  source_read o i p j = is_read p.port (by (is_target_only (component_of d k) p.port) refl)
    where
      by : (b : Bool) → is_target_only (component_of d k) p.port ≡ b → b ≡ false
      by false e = refl
      by true e =
          let n = number_in (source_order part) o i in
          absurd (accepted.widths told.NotASource (record { component = k; part = AnAssign n.0 }) p.place (path_of (component_of d k) p.port) refl
          (inl (record { within = within; number = n.0; is = refl; assign = o; stands = n.1; breaks = (p, j, e, (refl, refl)) })))

  -- the assignments that are driven
  pub assigns_nests : size_of part ≤ most → ((o : Owned) → In (source_order part) o → HasParts o.assign.guard) → Each OwnedNests (driven_assigns (lowered_component part))
  assigns_nests small parts =
      are_each OwnedNests (driven_assigns (lowered_component part))
      (λ o j. let i = in_filter (is_driven (lowered_component part)) (source_order part) o j in
      let sized : guard_nodes o.assign.guard ≤ size_of part = owned_sized part o.owner o.assign (stands_in part o i) in
      record { guard = guard_nests o.assign.guard (parts o i) (omega arith) (λ p m. source_read o i p (inr m)); source = source_read o i o.assign.source (inl refl) })
