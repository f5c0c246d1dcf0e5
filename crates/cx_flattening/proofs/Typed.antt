-- WIDTHS AND SIDES of an assignment's ports, in one claim that moves with the ports; from it the rules of stage 3.
use Rattle.std.proofs.Common.{◌≡◌, ℕ, inl, inr, ⊎_elim, Bool, true, false, List, [], ◌∷◌, ◌++◌, Option, Some, None, refl, sym, ap, ◌∙◌, subst}
use Rattle.std.specs.Prelude.{if◌then◌else◌, not}
use Rattle.std.proofs.lemmas.Bool.{eq-eqb}
use Rattle.cx_text.proofs.MemberLaws.{in_either}
use Rattle.cx_text.specs.Members.{In}
use Rattle.cx_meaning.specs.declared.ports.PortRef.{PortRef}
use Rattle.cx_meaning.specs.declared.ports.PlacedPort.{PlacedPort}
use Rattle.cx_meaning.specs.Designs.{PlainGuard, Always, Atom, Negation, All, Any, Compared, Within, PlainGuards, no_guards, a_guard, PlainAssign}
use Rattle.cx_meaning.specs.Instances.{Instance}
use Rattle.cx_meaning.specs.Sights.{GuardNames, AnyNames}
use Rattle.cx_rules.specs.Ports.{width_of, written_width, is_source_only, is_target_only}
use Rattle.cx_rules.specs.Footprints.{AssignNames}
use Rattle.cx_rules.specs.Items.{Pair, atoms_of, atoms_in, comparisons_of, comparisons_in, operands_of, operands_in, sources_of}
use Rattle.cx_rules.specs.WidthRules.{differ, pairs_of, first_unequal, is_wide, first_wide, IsBadLiteral}
use Rattle.cx_rewrites.specs.Moving.{moved_guard, moved_guards, moved_assign}
use Rattle.cx_rules.proofs.WidthRulesLemmas.{written_is, not_differ}

-- by what a port of a width is that is looked at, and one that is driven
module _ (S T : ℕ → PortRef → Type 0) where
  abbrev mutual
    pub GuardTyped : PlainGuard → Type 0
    GuardTyped Always = Unit {0}
    GuardTyped (Atom p) = S 1 p.port
    GuardTyped (Negation g) = GuardTyped g
    GuardTyped (All gs) = GuardsTyped gs
    GuardTyped (Any gs) = GuardsTyped gs
    GuardTyped (Compared c a b) = (w : ℕ) × S w a.port × S w b.port
    GuardTyped (Within from to) = Unit {0}

    pub GuardsTyped : PlainGuards → Type 0
    GuardsTyped no_guards = Unit {0}
    GuardsTyped (a_guard g gs) = GuardTyped g × GuardsTyped gs

  abbrev pub Typed : PlainAssign → Type 0
  Typed a = (w : ℕ) × T w a.target × S w a.source.port × GuardTyped a.guard

-- where the ports are moved
module _ (S T U V : ℕ → PortRef → Type 0) (f : PortRef → PortRef) (sources : (w : ℕ) (p : PortRef) → S w p → U w (f p)) (targets : (w : ℕ) (p : PortRef) → T w p → V w (f p)) where
  mutual
    guard_moved : (g : PlainGuard) → GuardTyped S T g → GuardTyped U V (moved_guard f g)
    guard_moved Always h = tt
    guard_moved (Atom p) h = sources 1 p.port h
    guard_moved (Negation g) h = guard_moved g h
    guard_moved (All gs) h = guards_moved gs h
    guard_moved (Any gs) h = guards_moved gs h
    guard_moved (Compared c a b) h = (h.0, sources h.0 a.port h.1, sources h.0 b.port h.2)
    guard_moved (Within from to) h = tt

    guards_moved : (gs : PlainGuards) → GuardsTyped S T gs → GuardsTyped U V (moved_guards f gs)
    guards_moved no_guards h = tt
    guards_moved (a_guard g gs) h = (guard_moved g h.0, guards_moved gs h.1)

  pub typed_moved : (a : PlainAssign) → Typed S T a → Typed U V (moved_assign f a)
  typed_moved a h = (h.0, targets h.0 a.target h.1, sources h.0 a.source.port h.2, guard_moved a.guard h.3)

-- A PORT OF AN INSTANCE that is looked at, and one that is driven
abbrev pub Source : Instance → ℕ → PortRef → Type 0
Source i w p = (width_of i p ≡ Some w) × (is_target_only i p ≡ false)

abbrev pub Target : Instance → ℕ → PortRef → Type 0
Target i w p = (width_of i p ≡ Some w) × (is_source_only i p ≡ false)

pub good_literal : (i : Instance) (p : PortRef) (w : ℕ) → width_of i p ≡ Some w → IsBadLiteral p → ⊥
good_literal i p w e (x, v, is, bad) =
    let none : ◌≡◌ {A = Option ℕ} None (Some w) = sym (ap (λ b. if b then Some x else None) bad) ∙ sym (ap (width_of i) is) ∙ e in cc

pub same_width : (w : ℕ) → differ (Some w) (Some w) ≡ false
same_width w = ap not (eq-eqb w w refl)

module _ (i : Instance) where
  abbrev AreEqual : List Pair → Type 0
  AreEqual [] = Unit {0}
  AreEqual (p ∷ ps) = ((w : ℕ) × (width_of i p.first ≡ Some w) × (width_of i p.second ≡ Some w)) × AreEqual ps

  both_equal : (xs ys : List Pair) → AreEqual xs → AreEqual ys → AreEqual (xs ++ ys)
  both_equal [] ys h g = g
  both_equal (x ∷ xs) ys h g = (h.0, both_equal xs ys h.1 g)

  none_unequal : (ps : List Pair) → AreEqual ps → first_unequal i ps ≡ None
  none_unequal [] h = refl
  none_unequal (p ∷ ps) h =
      let e = h.0 in
      ap (λ b. if b then Some p.first else first_unequal i ps) (ap (λ o. differ o (width_of i p.second)) e.1 ∙ ap (differ (Some e.0)) e.2 ∙ same_width e.0) ∙ none_unequal ps h.1

  abbrev AreBits : List PlacedPort → Type 0
  AreBits [] = Unit {0}
  AreBits (p ∷ ps) = (written_width i p.port ≡ Some 1) × AreBits ps

  both_bits : (xs ys : List PlacedPort) → AreBits xs → AreBits ys → AreBits (xs ++ ys)
  both_bits [] ys h g = g
  both_bits (x ∷ xs) ys h g = (h.0, both_bits xs ys h.1 g)

  none_wide : (ps : List PlacedPort) → AreBits ps → first_wide i ps ≡ None
  none_wide [] h = refl
  none_wide (p ∷ ps) h = ap (λ b. if b then Some p.port else first_wide i ps) (ap (λ o. differ o (Some 1)) h.0 ∙ same_width 1) ∙ none_wide ps h.1

  abbrev G : PlainGuard → Type 0
  G = GuardTyped (Source i) (Target i)

  abbrev Gs : PlainGuards → Type 0
  Gs = GuardsTyped (Source i) (Target i)

  mutual
    guard_equal : (g : PlainGuard) → G g → AreEqual (comparisons_of g)
    guard_equal Always h = tt
    guard_equal (Atom p) h = tt
    guard_equal (Negation g) h = guard_equal g h
    guard_equal (All gs) h = guards_equal gs h
    guard_equal (Any gs) h = guards_equal gs h
    guard_equal (Compared c a b) h = ((h.0, h.1.0, h.2.0), tt)
    guard_equal (Within from to) h = tt

    guards_equal : (gs : PlainGuards) → Gs gs → AreEqual (comparisons_in gs)
    guards_equal no_guards h = tt
    guards_equal (a_guard g gs) h = both_equal (comparisons_of g) (comparisons_in gs) (guard_equal g h.0) (guards_equal gs h.1)

  mutual
    guard_bits : (g : PlainGuard) → G g → AreBits (atoms_of g)
    guard_bits Always h = tt
    guard_bits (Atom p) h = (written_is i p.port 1 h.0, tt)
    guard_bits (Negation g) h = guard_bits g h
    guard_bits (All gs) h = guards_bits gs h
    guard_bits (Any gs) h = guards_bits gs h
    guard_bits (Compared c a b) h = tt
    guard_bits (Within from to) h = tt

    guards_bits : (gs : PlainGuards) → Gs gs → AreBits (atoms_in gs)
    guards_bits no_guards h = tt
    guards_bits (a_guard g gs) h = both_bits (atoms_of g) (atoms_in gs) (guard_bits g h.0) (guards_bits gs h.1)

  abbrev IsSource : PlacedPort → Type 0
  IsSource p = (w : ℕ) × Source i w p.port

  mutual
    guard_sources : (g : PlainGuard) → G g → (p : PlacedPort) → In (operands_of g) p → IsSource p
    guard_sources Always h p j = absurd j
    guard_sources (Atom q) h p (inl e) = subst IsSource e (1, h)
    guard_sources (Atom q) h p (inr j) = absurd j
    guard_sources (Negation g) h p j = guard_sources g h p j
    guard_sources (All gs) h p j = guards_sources gs h p j
    guard_sources (Any gs) h p j = guards_sources gs h p j
    guard_sources (Compared c a b) h p (inl e) = subst IsSource e (h.0, h.1)
    guard_sources (Compared c a b) h p (inr (inl e)) = subst IsSource e (h.0, h.2)
    guard_sources (Compared c a b) h p (inr (inr j)) = absurd j
    guard_sources (Within from to) h p j = absurd j

    guards_sources : (gs : PlainGuards) → Gs gs → (p : PlacedPort) → In (operands_in gs) p → IsSource p
    guards_sources no_guards h p j = absurd j
    guards_sources (a_guard g gs) h p j = ⊎_elim (guard_sources g h.0 p) (guards_sources gs h.1 p) (in_either (operands_of g) (operands_in gs) p j)

  -- NO RULE OF STAGE 3 is broken at a typed assignment
  pub typed_equal : (a : PlainAssign) → Typed (Source i) (Target i) a → first_unequal i (pairs_of a) ≡ None
  typed_equal a h = none_unequal (pairs_of a) ((h.0, h.1.0, h.2.0), guard_equal a.guard h.3)

  pub typed_bits : (a : PlainAssign) → Typed (Source i) (Target i) a → first_wide i (atoms_of a.guard) ≡ None
  typed_bits a h = none_wide (atoms_of a.guard) (guard_bits a.guard h.3)

  pub typed_sources : (a : PlainAssign) → Typed (Source i) (Target i) a → (p : PlacedPort) → In (sources_of a) p → (w : ℕ) × Source i w p.port
  typed_sources a h p (inl e) = subst IsSource e (h.0, h.2)
  typed_sources a h p (inr j) = guard_sources a.guard h.3 p j

-- TYPED where no rule is broken
left_none : (i : Instance) (xs ys : List Pair) → first_unequal i (xs ++ ys) ≡ None → (first_unequal i xs ≡ None) × (first_unequal i ys ≡ None)
left_none i [] ys e = (refl, e)
left_none i (x ∷ xs) ys e = by (differ (width_of i x.first) (width_of i x.second)) e (left_none i xs ys)
  where
    by : (b : Bool) → (if b then Some x.first else first_unequal i (xs ++ ys)) ≡ None → (first_unequal i (xs ++ ys) ≡ None → (first_unequal i xs ≡ None) × (first_unequal i ys ≡ None))
        → ((if b then Some x.first else first_unequal i xs) ≡ None) × (first_unequal i ys ≡ None)
    by true f later = absurd (cc)
    by false f later = later f

left_bits : (i : Instance) (xs ys : List PlacedPort) → first_wide i (xs ++ ys) ≡ None → (first_wide i xs ≡ None) × (first_wide i ys ≡ None)
left_bits i [] ys e = (refl, e)
left_bits i (x ∷ xs) ys e = by (is_wide i x.port) e (left_bits i xs ys)
  where
    by : (b : Bool) → (if b then Some x.port else first_wide i (xs ++ ys)) ≡ None → (first_wide i (xs ++ ys) ≡ None → (first_wide i xs ≡ None) × (first_wide i ys ≡ None))
        → ((if b then Some x.port else first_wide i xs) ≡ None) × (first_wide i ys ≡ None)
    by true f later = absurd (cc)
    by false f later = later f

pub equal_widths : (i : Instance) (p q : PortRef) (w v : ℕ) → width_of i p ≡ Some w → width_of i q ≡ Some v → differ (width_of i p) (width_of i q) ≡ false → w ≡ v
equal_widths i p q w v e f same = not_differ w v (sym (ap (λ o. differ o (width_of i q)) e ∙ ap (differ (Some w)) f) ∙ same)

pub unequal_head : (i : Instance) (x : Pair) (xs : List Pair) → first_unequal i (x ∷ xs) ≡ None → (differ (width_of i x.first) (width_of i x.second) ≡ false) × (first_unequal i xs ≡ None)
unequal_head i x xs e = by (differ (width_of i x.first) (width_of i x.second)) e
  where
    by : (b : Bool) → (if b then Some x.first else first_unequal i xs) ≡ None → (b ≡ false) × (first_unequal i xs ≡ None)
    by true f = absurd (cc)
    by false f = (refl, f)

wide_head : (i : Instance) (x : PlacedPort) (xs : List PlacedPort) → first_wide i (x ∷ xs) ≡ None → is_wide i x.port ≡ false
wide_head i x xs e = by (is_wide i x.port) e
  where
    by : (b : Bool) → (if b then Some x.port else first_wide i xs) ≡ None → b ≡ false
    by true f = absurd (cc)
    by false f = refl

module _ (i : Instance) (S T : ℕ → PortRef → Type 0) (widths : (w : ℕ) (p : PortRef) → S w p → width_of i p ≡ Some w) where
  mutual
    guard_typed : (g : PlainGuard) → ((q : PortRef) → GuardNames g q → (w : ℕ) × S w q) → first_unequal i (comparisons_of g) ≡ None → first_wide i (atoms_of g) ≡ None → GuardTyped S T g
    guard_typed Always named equal bits = tt
    guard_typed (Atom p) named equal bits =
        let r = named p.port refl in
        subst (λ w. S w p.port) (not_differ r.0 1 (sym (ap (λ o. differ o (Some 1)) (written_is i p.port r.0 (widths r.0 p.port r.1))) ∙ wide_head i p [] bits)) r.1
    guard_typed (Negation g) named equal bits = guard_typed g named equal bits
    guard_typed (All gs) named equal bits = guards_typed gs named equal bits
    guard_typed (Any gs) named equal bits = guards_typed gs named equal bits
    guard_typed (Compared c a b) named equal bits =
        let r = named a.port (inl refl) in
        let s = named b.port (inr refl) in
        let same = equal_widths i a.port b.port r.0 s.0 (widths r.0 a.port r.1) (widths s.0 b.port s.1) (unequal_head i (record { first = a.port; second = b.port }) [] equal).0 in
        (r.0, r.1, subst (λ w. S w b.port) (sym same) s.1)
    guard_typed (Within from to) named equal bits = tt

    guards_typed : (gs : PlainGuards) → ((q : PortRef) → AnyNames gs q → (w : ℕ) × S w q) → first_unequal i (comparisons_in gs) ≡ None → first_wide i (atoms_in gs) ≡ None → GuardsTyped S T gs
    guards_typed no_guards named equal bits = tt
    guards_typed (a_guard g gs) named equal bits =
        let e = left_none i (comparisons_of g) (comparisons_in gs) equal in
        let b = left_bits i (atoms_of g) (atoms_in gs) bits in
        (guard_typed g (λ q n. named q (inl n)) e.0 b.0, guards_typed gs (λ q n. named q (inr n)) e.1 b.1)

  pub assign_typed : (a : PlainAssign) (w : ℕ) → T w a.target → width_of i a.target ≡ Some w → ((q : PortRef) → AssignNames a q → (v : ℕ) × S v q) → first_unequal i (pairs_of a) ≡ None → first_wide i (atoms_of a.guard) ≡ None → Typed S T a
  assign_typed a w target width named equal bits =
      let r = named a.source.port (inr refl) in
      let h = unequal_head i (record { first = a.target; second = a.source.port }) (comparisons_of a.guard) equal in
      let same = equal_widths i a.target a.source.port w r.0 width (widths r.0 a.source.port r.1) h.0 in
      (w, target, subst (λ v. S v a.source.port) (sym same) r.1, guard_typed a.guard (λ q n. named q (inl n)) h.1 bits)
