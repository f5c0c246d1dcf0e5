-- The ports of a component and those that they are moved to: all different, and none is a port of a new part.
use Rattle.std.proofs.Common.{◌≡◌, ℕ, ◌+◌, ◌<◌, ◌≤◌, Bool, true, false, if◌then◌else◌, length, Option, Some, None, slice_get, nat_eq, refl, sym, ap, ◌∙◌, subst, arith}
use Rattle.std.proofs.lemmas.Bool.{eqb-true}
use Rattle.cx_prim.specs.Table.{PrimitiveRow}
use Rattle.cx_meaning.specs.declared.ports.PortRef.{PortRef}
use Rattle.cx_meaning.specs.declared.ports.PortRef.TheVariants as ports
use Rattle.cx_meaning.specs.Designs.{PlainKind, OfPrimitive, OfComponent, PlainCell, PlainComponent, PlainDesign, component_at}
use Rattle.cx_meaning.specs.Instances.{OfInstance, part_of}
use Rattle.cx_rules.specs.Ports.{component_of}
use Rattle.cx_rules.specs.Wellformed.{IsThere, port_count}
use Rattle.cx_meaning.proofs.DesignsLemmas.{same_part}
use Rattle.cx_profiling.specs.Counters.{first_gained}
use Rattle.cx_profiling.specs.Instrumented.{gained, moved_number, moved_in}
use Rattle.cx_profiling.proofs.ListedCells.{child_in_tree}

module _ (d : PlainDesign) where
  pub moved-primitive : (cell : PlainCell) (primitive : PrimitiveRow) (p : ℕ) → cell.kind ≡ OfPrimitive primitive → moved_number d (Some cell) p ≡ p
  moved-primitive cell primitive p is = subst (λ kind. moved_number d (Some (record { name = cell.name; kind = kind; external = cell.external; place = cell.place })) p ≡ p) (sym is) refl

  abbrev pub grown_number : ℕ → ℕ → ℕ → ℕ
  grown_number first more p = if nat_eq p first then p + more else p

  pub moved-component : (cell : PlainCell) (k p : ℕ) → cell.kind ≡ OfComponent k → moved_number d (Some cell) p ≡ grown_number (first_gained (component_at d k)) (gained d k) p
  moved-component cell k p is =
      subst (λ kind. moved_number d (Some (record { name = cell.name; kind = kind; external = cell.external; place = cell.place })) p ≡ grown_number (first_gained (component_at d k)) (gained d k) p) (sym is) refl

  grown_apart : (f g p q : ℕ) → p ≤ f → q ≤ f → grown_number f g p ≡ grown_number f g q → p ≡ q
  grown_apart f g p q few less e = by (nat_eq p f) (nat_eq q f) refl refl e
    where
      by : (t u : Bool) → nat_eq p f ≡ t → nat_eq q f ≡ u → (if t then p + g else p) ≡ (if u then q + g else q) → p ≡ q
      by true true h k e = eqb-true p f h ∙ sym (eqb-true q f k)
      by true false h k e = let same : p ≡ f = eqb-true p f h in omega (arith, same, less, e)
      by false true h k e = let same : q ≡ f = eqb-true q f k in omega (arith, same, few, e)
      by false false h k e = e

  module _ (part : PlainComponent) where
    -- THE PORTS OF THE COMPONENT: of a component's cell none behind done
    abbrev pub IsInside : PortRef → Type 0
    IsInside (ports.Cell c p) = (c < length part.cells) × ((cell : PlainCell) (k : ℕ) → slice_get part.cells c ≡ Some cell → cell.kind ≡ OfComponent k → p ≤ first_gained (component_at d k))
    IsInside (ports.Input n) = n < length part.inputs
    IsInside (ports.Output n) = n < length part.outputs
    IsInside (ports.Done g) = g < length part.groups
    IsInside (ports.Literal w v) = Unit {0}

    -- ports of parts behind those of the component
    abbrev pub IsNew : PortRef → Type 0
    IsNew (ports.Cell c p) = length part.cells ≤ c
    IsNew (ports.Input n) = ⊥
    IsNew (ports.Output n) = length part.outputs ≤ n
    IsNew (ports.Done g) = length part.groups ≤ g
    IsNew (ports.Literal w v) = ⊥

    cell_number : (c e p q : ℕ) → ports.Cell c p ≡ ports.Cell e q → c ≡ e
    cell_number c e p q h = cc

    port_number : (c e p q : ℕ) → ports.Cell c p ≡ ports.Cell e q → p ≡ q
    port_number c e p q h = cc

    output_number : (n m : ℕ) → ports.Output n ≡ ports.Output m → n ≡ m
    output_number n m h = cc

    done_number : (g h : ℕ) → ports.Done g ≡ ports.Done h → g ≡ h
    done_number g h e = cc

    numbers_apart : (at : Option PlainCell) (p q : ℕ)
        → ((cell : PlainCell) (k : ℕ) → at ≡ Some cell → cell.kind ≡ OfComponent k → p ≤ first_gained (component_at d k))
        → ((cell : PlainCell) (k : ℕ) → at ≡ Some cell → cell.kind ≡ OfComponent k → q ≤ first_gained (component_at d k))
        → moved_number d at p ≡ moved_number d at q → p ≡ q
    numbers_apart None p q hp hq e = e
    numbers_apart (Some cell) p q hp hq e = by cell.kind refl
      where
        by : (kind : PlainKind) → cell.kind ≡ kind → p ≡ q
        by (OfPrimitive x) is = sym (moved-primitive cell x p is) ∙ e ∙ moved-primitive cell x q is
        by (OfComponent k) is =
            grown_apart (first_gained (component_at d k)) (gained d k) p q (hp cell k refl is) (hq cell k refl is) (sym (moved-component cell k p is) ∙ e ∙ moved-component cell k q is)

    pub moved_apart : (p q : PortRef) → IsInside p → IsInside q → moved_in d part p ≡ moved_in d part q → p ≡ q
    moved_apart (ports.Cell c p) (ports.Cell e q) hp hq h =
        let same : c ≡ e = cell_number c e (moved_number d (slice_get part.cells c) p) (moved_number d (slice_get part.cells e) q) h in
        let one : moved_number d (slice_get part.cells c) p ≡ moved_number d (slice_get part.cells e) q = port_number c e (moved_number d (slice_get part.cells c) p) (moved_number d (slice_get part.cells e) q) h in
        let here : IsInside (ports.Cell c q) = subst (λ x. IsInside (ports.Cell x q)) (sym same) hq in
        ap (ports.Cell c) (numbers_apart (slice_get part.cells c) p q hp.1 here.1 (one ∙ ap (λ x. moved_number d (slice_get part.cells x) q) (sym same)))
        ∙ ap (λ x. ports.Cell x q) same
    moved_apart (ports.Input n) (ports.Input m) hp hq h = h
    moved_apart (ports.Output n) (ports.Output m) hp hq h = h
    moved_apart (ports.Done g) (ports.Done k) hp hq h = h
    moved_apart (ports.Literal w v) (ports.Literal x u) hp hq h = h
    moved_apart _ _ hp hq h = absurd (cc)

    pub old_or_new : (p q : PortRef) → IsInside p → IsNew q → moved_in d part p ≡ q → ⊥
    old_or_new (ports.Cell c p) (ports.Cell e q) hp hq h =
        let same : c ≡ e = cell_number c e (moved_number d (slice_get part.cells c) p) q h in
        let few : c < length part.cells = hp.0 in
        let past : length part.cells ≤ e = hq in
        omega (arith, same, few, past)
    old_or_new (ports.Output n) (ports.Output m) hp hq h =
        let same : n ≡ m = output_number n m h in
        let few : n < length part.outputs = hp in
        let past : length part.outputs ≤ m = hq in
        omega (arith, same, few, past)
    old_or_new (ports.Done g) (ports.Done k) hp hq h =
        let same : g ≡ k = done_number g k h in
        let few : g < length part.groups = hp in
        let past : length part.groups ≤ k = hq in
        omega (arith, same, few, past)
    old_or_new p (ports.Input m) hp hq h = hq
    old_or_new p (ports.Literal w v) hp hq h = hq
    old_or_new _ _ hp hq h = absurd (cc)

  -- a port that is there is one of them
  pub there_inside : (k : ℕ) → k < length d.components → (p : PortRef) → IsThere (component_of d k) p → IsInside (component_at d k) p
  there_inside k within (ports.Cell c p) (few, h) =
      let whole : part_of (component_of d k) ≡ component_at d k = same_part d (length d.components) k in (
        subst (λ (x : PlainComponent). c < length x.cells) whole few,
        λ cell j at is.
            let some : 0 < length d.components = omega (arith, within) in
            let r = child_in_tree d (length d.components) k c cell j some at is in
            let count : p < port_count (OfInstance r.0) = subst (λ x. p < port_count x) r.1 h in
            let there : p < 2 + length (component_at d j).inputs + length (component_at d j).outputs = subst (λ (x : PlainComponent). p < 2 + length x.inputs + length x.outputs) r.2 count in
            omega (arith, there),
      )
  there_inside k within (ports.Input n) h = subst (λ (x : PlainComponent). n < length x.inputs) (same_part d (length d.components) k) h
  there_inside k within (ports.Output n) h = subst (λ (x : PlainComponent). n < length x.outputs) (same_part d (length d.components) k) h
  there_inside k within (ports.Done g) h = subst (λ (x : PlainComponent). g < length x.groups) (same_part d (length d.components) k) h
  there_inside k within (ports.Literal w v) h = tt
