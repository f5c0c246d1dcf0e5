-- RULES ON ASSIGNMENTS: where one of the new design breaks a rule, so does the one of the old design from which it was made.
use Rattle.std.proofs.Common.{◌≡◌, ℕ, ◌⊎◌, inl, inr, Bool, true, false, ◌||◌, List, [], ◌∷◌, Option, Some, None, refl, sym, ap, ◌∙◌, subst}
use Rattle.std.specs.Prelude.{if◌then◌else◌}
use Rattle.cx_text.specs.declared.places.Place.{Place}
use Rattle.cx_meaning.specs.declared.kinds.GroupKind.{GroupKind}
use Rattle.cx_meaning.specs.declared.kinds.GroupKind.TheVariants as kinds
use Rattle.cx_meaning.specs.declared.ports.PlacedPort.{PlacedPort}
use Rattle.cx_meaning.specs.declared.ports.PortRef.{PortRef}
use Rattle.cx_meaning.specs.declared.ports.PortRef.TheVariants as ports
use Rattle.cx_meaning.specs.Designs.{PlainGroup, group_at}
use Rattle.cx_meaning.specs.Instances.{Instance, part_of}
use Rattle.cx_meaning.specs.Active.{nothing, Owned, source_order}
use Rattle.cx_text.specs.Members.{In}
use Rattle.cx_meaning.specs.Islands.{kind_length}
use Rattle.cx_rules.specs.Footprints.{AssignNames, Rests}
use Rattle.cx_rules.specs.Items.{Pair, Range, comparisons_of, atoms_of, sources_of, is_comb}
use Rattle.cx_rules.specs.Ports.{width_of, is_primitive_enable, is_part_port, path_of}
use Rattle.cx_rules.specs.ShapeRules.{is_hole, BreaksDoneNotState, BreaksAlwaysEnable, BreaksCombEnable, owner_length, is_bad_range, BreaksStaticGuard, LeadsToInput, BreaksOutputNotState, BreaksKept}
use Rattle.cx_rules.specs.InvokeShape.{BreaksStaticCell}
use Rattle.cx_rules.specs.Spots.{AssignRule}
use Rattle.cx_rules.specs.WidthRules.{differ, pairs_of, first_unequal, BreaksWidth, is_wide, first_wide, BreaksGuardWidth, BreaksLiteral, BreaksNotATarget, BreaksNotASource}
use Rattle.cx_promotion.specs.Made.{without_guard, OrderMade, no_assigns, stands, bared, dropped, IsPromoted, PartMade}
use Rattle.cx_promotion.proofs.Impossible.{no_true, no_some}
use Rattle.cx_promotion.proofs.Twins.{Twins}
use Rattle.cx_promotion.proofs.Shapes.{shape_of}
use Rattle.cx_promotion.proofs.Members.{plain_length, group_made}
use Rattle.cx_promotion.proofs.PortsMade.{SameSignature, width_same, written_same, source_only_same, target_only_same, enable_same, part_port_same, static_port_same}
use Rattle.cx_promotion.proofs.LeadsMade.{depends_made, rests_made}

-- AN ASSIGNMENT OF THE NEW DESIGN is one of the old one, or one without its guard
pub data Origin (i : Instance) (promoted : ℕ → Type 0) (os : List Owned) : Owned → Type 0 where
  kept : {o : Owned} → In os o → Origin i promoted os o
  freed : (o : Owned) (g : ℕ) → In os o → o.owner ≡ Some g → promoted g → is_primitive_enable i o.assign.target ≡ true → Origin i promoted os (without_guard o)

module _ (i : Instance) (promoted : ℕ → Type 0) where
  later_origin : {os : List Owned} {q : Owned} (o : Owned) → Origin i promoted os q → Origin i promoted (o ∷ os) q
  later_origin o (kept inside) = kept (inr inside)
  later_origin x (freed o g inside mine is enable) = freed o g (inr inside) mine is enable

  pub origin_of : {os ps : List Owned} → OrderMade i promoted os ps → (q : Owned) → In ps q → Origin i promoted os q
  origin_of no_assigns q j = absurd j
  origin_of (stands {o = o} {os = os} later) q (inl e) = subst (λ x. Origin i promoted (o ∷ os) x) e (kept (inl refl))
  origin_of (stands {o = o} later) q (inr j) = later_origin o (origin_of later q j)
  origin_of (bared {o = o} {os = os} g mine is enable later) q (inl e) = subst (λ x. Origin i promoted (o ∷ os) x) e (freed o g (inl refl) mine is enable)
  origin_of (bared {o = o} g mine is enable later) q (inr j) = later_origin o (origin_of later q j)
  origin_of (dropped {o = o} g mine is hole later) q j = later_origin o (origin_of later q j)

first_of_more : {A : Type 0} (b : Bool) (x y : A) (rest : Option A) → (if b then Some x else None) ≡ Some y → (if b then Some x else rest) ≡ Some y
first_of_more true x y rest e = e
first_of_more false x y rest e = no_some y e

comb_no_length : (kind : GroupKind) (n : ℕ) → kind ≡ kinds.Timed n → is_comb kind ≡ true → ⊥
comb_no_length kinds.Plain n e c = no_true c
comb_no_length kinds.Comb n e c = absurd (cc)
comb_no_length (kinds.Timed m) n e c = no_true c

module _ (i j : Instance) (t : Twins SameSignature i j) (made : PartMade i (part_of i) (part_of j)) where
  abbrev P : ℕ → Type 0
  P g = IsPromoted i (part_of i) (part_of j) g

  abbrev os : List Owned
  os = source_order (part_of i)

  abbrev pub From : Owned → Type 0
  From q = Origin i P os q

  -- the same assignment breaks the rule in the old design
  abbrev pub BreaksThere : AssignRule → Owned → Type 0
  BreaksThere rule q = (at : Place) × (called : List ℕ) × rule i q at called

  -- an assignment of the old design breaks the rule
  abbrev pub OldBreak : AssignRule → Type 0
  OldBreak rule = (o : Owned) × In os o × (at : Place) × (called : List ℕ) × rule i o at called

  broken_by : (rule : AssignRule) (o : Owned) → In os o → BreaksThere rule o → OldBreak rule
  broken_by rule o inside (at, called, breaks) = (o, inside, at, called, breaks)

  -- WIDTHS
  unequal_same : (pairs : List Pair) → first_unequal j pairs ≡ first_unequal i pairs
  unequal_same [] = refl
  unequal_same (pair ∷ pairs) =
      ap (λ w. if differ w (width_of j pair.second) then Some pair.first else first_unequal j pairs) (width_same i j t pair.first)
      ∙ ap (λ w. if differ (width_of i pair.first) w then Some pair.first else first_unequal j pairs) (width_same i j t pair.second)
      ∙ ap (λ rest. if differ (width_of i pair.first) (width_of i pair.second) then Some pair.first else rest) (unequal_same pairs)

  pub width_there : (q : Owned) (place : Place) (name : List ℕ) → BreaksWidth j q place name → BreaksThere BreaksWidth q
  width_there q place name (port, is, tells) = (q.assign.place, path_of i port, (port, sym (unequal_same (pairs_of q.assign)) ∙ is, (refl, refl)))

  pub width_back : (q : Owned) (place : Place) (name : List ℕ) → From q → BreaksWidth j q place name → OldBreak BreaksWidth
  width_back q place name (kept inside) b = broken_by BreaksWidth q inside (width_there q place name b)
  width_back q place name (freed o g inside mine promoted enable) (port, is, tells) = (
    o,
    inside,
    o.assign.place,
    path_of i port,
    (
      port,
      first_of_more (differ (width_of i o.assign.target) (width_of i o.assign.source.port)) o.assign.target port (first_unequal i (comparisons_of o.assign.guard))
          (sym (unequal_same (record { first = o.assign.target; second = o.assign.source.port } ∷ [])) ∙ is),
      (refl, refl),
    ),
  )

  wide_same : (list : List PlacedPort) → first_wide j list ≡ first_wide i list
  wide_same [] = refl
  wide_same (p ∷ list) =
      ap (λ w. if differ w (Some 1) then Some p.port else first_wide j list) (written_same i j t p.port)
      ∙ ap (λ rest. if is_wide i p.port then Some p.port else rest) (wide_same list)

  pub guard_width_there : (q : Owned) (place : Place) (name : List ℕ) → BreaksGuardWidth j q place name → BreaksThere BreaksGuardWidth q
  guard_width_there q place name (port, is, tells) = (q.assign.place, path_of i port, (port, sym (wide_same (atoms_of q.assign.guard)) ∙ is, (refl, refl)))

  pub guard_width_back : (q : Owned) (place : Place) (name : List ℕ) → From q → BreaksGuardWidth j q place name → OldBreak BreaksGuardWidth
  guard_width_back q place name (kept inside) b = broken_by BreaksGuardWidth q inside (guard_width_there q place name b)
  guard_width_back q place name (freed o g inside mine promoted enable) (port, is, tells) = no_some port is

  -- what an assignment looks at
  source_back : (o : Owned) (p : PlacedPort) → In (sources_of (without_guard o).assign) p → In (sources_of o.assign) p
  source_back o p (inl e) = inl e
  source_back o p (inr wrong) = absurd wrong

  names_back : (o : Owned) (q : PortRef) → AssignNames (without_guard o).assign q → AssignNames o.assign q
  names_back o q (inl wrong) = absurd wrong
  names_back o q (inr e) = inr e

  pub literal_there : (q : Owned) (place : Place) (name : List ℕ) → BreaksLiteral j q place name → BreaksThere BreaksLiteral q
  literal_there q place name (p, source, bad, tells) = (p.place, [], (p, source, bad, (refl, refl)))

  pub literal_back : (q : Owned) (place : Place) (name : List ℕ) → From q → BreaksLiteral j q place name → OldBreak BreaksLiteral
  literal_back q place name (kept inside) b = broken_by BreaksLiteral q inside (literal_there q place name b)
  literal_back q place name (freed o g inside mine promoted enable) (p, source, bad, tells) = (o, inside, p.place, [], (p, source_back o p source, bad, (refl, refl)))

  pub target_there : (q : Owned) (place : Place) (name : List ℕ) → BreaksNotATarget j q place name → BreaksThere BreaksNotATarget q
  target_there q place name (is, tells) = (q.assign.place, path_of i q.assign.target, (sym (source_only_same i j t q.assign.target) ∙ is, (refl, refl)))

  pub target_back : (q : Owned) (place : Place) (name : List ℕ) → From q → BreaksNotATarget j q place name → OldBreak BreaksNotATarget
  target_back q place name (kept inside) b = broken_by BreaksNotATarget q inside (target_there q place name b)
  target_back q place name (freed o g inside mine promoted enable) b = broken_by BreaksNotATarget o inside (target_there o place name b)

  pub not_source_there : (q : Owned) (place : Place) (name : List ℕ) → BreaksNotASource j q place name → BreaksThere BreaksNotASource q
  not_source_there q place name (p, source, is, tells) = (p.place, path_of i p.port, (p, source, sym (target_only_same i j t p.port) ∙ is, (refl, refl)))

  pub not_source_back : (q : Owned) (place : Place) (name : List ℕ) → From q → BreaksNotASource j q place name → OldBreak BreaksNotASource
  not_source_back q place name (kept inside) b = broken_by BreaksNotASource q inside (not_source_there q place name b)
  not_source_back q place name (freed o g inside mine promoted enable) (p, source, is, tells) =
      (o, inside, p.place, path_of i p.port, (p, source_back o p source, sym (target_only_same i j t p.port) ∙ is, (refl, refl)))

  -- SHAPES
  unrested : (q : PortRef) → (Rests j q → ⊥) → Rests i q → ⊥
  unrested q wrong rests = wrong (rests_made i i j t made rests)

  pub done_back : (q : Owned) (place : Place) (name : List ℕ) → From q → BreaksDoneNotState j q place name → OldBreak BreaksDoneNotState
  done_back q place name (kept inside) (g, target, (port, names, wrong), tells) =
      (q, inside, q.assign.place, (group_at (part_of i) g).name, (g, target, (port, names, unrested port wrong), (refl, refl)))
  done_back q place name (freed o n inside mine promoted enable) (g, target, (port, names, wrong), tells) =
      (o, inside, o.assign.place, (group_at (part_of i) g).name, (g, target, (port, names_back o port names, unrested port wrong), (refl, refl)))

  pub always_back : (q : Owned) (place : Place) (name : List ℕ) → From q → BreaksAlwaysEnable j q place name → OldBreak BreaksAlwaysEnable
  always_back q place name (kept inside) (owner, is, tells) =
      (q, inside, q.assign.place, path_of i q.assign.target, (owner, sym (enable_same i j t q.assign.target) ∙ is, (refl, refl)))
  always_back q place name (freed o g inside mine promoted enable) (owner, is, tells) =
      (o, inside, o.assign.place, path_of i o.assign.target, (owner, sym (enable_same i j t o.assign.target) ∙ is, (refl, refl)))

  pub static_cell_back : (q : Owned) (place : Place) (name : List ℕ) → From q → BreaksStaticCell j q place name → OldBreak BreaksStaticCell
  static_cell_back q place name (kept inside) (is, tells) = (q, inside, q.assign.place, path_of i q.assign.target, (sym (static_port_same i j t q.assign.target) ∙ is, (refl, refl)))
  static_cell_back q place name (freed o g inside mine promoted enable) (is, tells) =
      (o, inside, o.assign.place, path_of i o.assign.target, (sym (static_port_same i j t o.assign.target) ∙ is, (refl, refl)))

  pub comb_stays : (g : ℕ) → is_comb (group_at (part_of j) g).kind ≡ true → is_comb (group_at (part_of i) g).kind ≡ true
  comb_stays g comb = by (group_made i made.groups g)
    where
      by : (group_at (part_of j) g ≡ group_at (part_of i) g) ⊎ P g → is_comb (group_at (part_of i) g).kind ≡ true
      by (inl stays) = subst (λ (x : PlainGroup). is_comb x.kind ≡ true) stays comb
      by (inr promoted) = absurd (comb_no_length (group_at (part_of j) g).kind promoted.0 (ap (λ (x : PlainGroup). x.kind) promoted.2) comb)

  bars_same : (p : PortRef) → (is_primitive_enable j p || is_part_port j p || is_hole p) ≡ (is_primitive_enable i p || is_part_port i p || is_hole p)
  bars_same p = ap (λ b. b || is_part_port j p || is_hole p) (enable_same i j t p) ∙ ap (λ b. is_primitive_enable i p || b || is_hole p) (part_port_same i j t p)

  pub comb_back : (q : Owned) (place : Place) (name : List ℕ) → From q → BreaksCombEnable j q place name → OldBreak BreaksCombEnable
  comb_back q place name (kept inside) (g, owner, comb, is, tells) =
      (q, inside, q.assign.place, path_of i q.assign.target, (g, owner, comb_stays g comb, sym (bars_same q.assign.target) ∙ is, (refl, refl)))
  comb_back q place name (freed o n inside mine promoted enable) (g, owner, comb, is, tells) =
      (o, inside, o.assign.place, path_of i o.assign.target, (g, owner, comb_stays g comb, sym (bars_same o.assign.target) ∙ is, (refl, refl)))

  bad_range_back : (w : Option ℕ) (r : Range) → is_bad_range (owner_length (part_of j) w) r ≡ true → is_bad_range (owner_length (part_of i) w) r ≡ true
  bad_range_back None r bad = bad
  bad_range_back (Some g) r bad = by (group_made i made.groups g)
    where
      by : (group_at (part_of j) g ≡ group_at (part_of i) g) ⊎ P g → is_bad_range (owner_length (part_of i) (Some g)) r ≡ true
      by (inl stays) = subst (λ (x : PlainGroup). is_bad_range (kind_length x.kind) r ≡ true) stays bad
      by (inr promoted) =
          ap (λ n. is_bad_range n r) (plain_length (group_at (part_of i) g).kind (shape_of i (group_at (part_of i) g) promoted.0 promoted.1).plain)

  pub static_guard_back : (q : Owned) (place : Place) (name : List ℕ) → From q → BreaksStaticGuard j q place name → OldBreak BreaksStaticGuard
  static_guard_back q place name (kept inside) (r, range, bad, tells) =
      (q, inside, q.assign.place, path_of i q.assign.target, (r, range, bad_range_back q.owner r bad, (refl, refl)))
  static_guard_back q place name (freed o g inside mine promoted enable) (r, range, bad, tells) = absurd range

  output_why : (q : PortRef) → (Rests j q → ⊥) ⊎ LeadsToInput j q → (Rests i q → ⊥) ⊎ LeadsToInput i q
  output_why q (inl wrong) = inl (unrested q wrong)
  output_why q (inr (n, inl e)) = inr (n, inl e)
  output_why q (inr (n, inr d)) = inr (n, inr (depends_made i i j t made nothing d))

  pub output_back : (q : Owned) (place : Place) (name : List ℕ) → From q → BreaksOutputNotState j q place name → OldBreak BreaksOutputNotState
  output_back q place name (kept inside) (n, target, (port, names, why), tells) =
      (q, inside, q.assign.place, path_of i q.assign.target, (n, target, (port, names, output_why port why), (refl, refl)))
  output_back q place name (freed o g inside mine promoted enable) (n, target, (port, names, why), tells) =
      (o, inside, o.assign.place, path_of i o.assign.target, (n, target, (port, names_back o port names, output_why port why), (refl, refl)))

  pub kept_back : (q : Owned) (place : Place) (name : List ℕ) → From q → BreaksKept j q place name → OldBreak BreaksKept
  kept_back q place name (kept inside) (n, latency, owner, input, tells) =
      (q, inside, q.assign.place, path_of i q.assign.target, (n, made.latency ∙ latency, owner, input, (refl, refl)))
  kept_back q place name (freed o g inside mine promoted enable) (n, latency, owner, (m, names), tells) =
      (o, inside, o.assign.place, path_of i o.assign.target, (n, made.latency ∙ latency, owner, (m, names_back o (ports.Input m) names), (refl, refl)))
