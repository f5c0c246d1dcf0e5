-- The called cells are those that the group calls.
use Rattle.std.proofs.Common.{◌≡◌, ℕ, Bool, true, false, ◌||◌, cond, List, [], ◌∷◌, Option, Some, None, ◌⊎◌, inl, inr, ⊎_elim, refl, sym, ap, ◌∙◌, subst, true≢false}
use Rattle.cx_meaning.specs.declared.ports.PortRef.{PortRef}
use Rattle.cx_meaning.specs.declared.ports.PortRef.TheVariants as ports
use Rattle.cx_meaning.specs.Designs.{PlainAssign, PlainComponent}
use Rattle.cx_meaning.specs.Instances.{Instance, At, Nothing, OfRow, OfInstance, part_of, cells_of, cell_at}
use Rattle.cx_text.specs.Members.{In}
use Rattle.cx_rules.specs.Ports.{is_instance, is_part_port}
use Rattle.cx_rules.specs.ShapeRules.{some_target}
use Rattle.cx_rules.specs.CallShape.{is_port_of, Calls}
use Rattle.cx_callees.specs.Callees.{PlainCallee, callee_at, callee_of, if_dynamic, callable, callable_of, and_then, callees_of, is_cell, apart, called_of}
use Rattle.cx_callees.proofs.TargetLemmas.{callee, callee_or, target_of, none_some}
use Rattle.cx_text.proofs.NumberLaws.{from_eq, equal}
use Rattle.cx_text.proofs.BoolLaws.{or_left, or_right}
use Rattle.cx_text.proofs.OptionLaws.{some_is}

abbrev part_or : Instance → At → PlainComponent
part_or i Nothing = part_of i
part_or i (OfRow row) = part_of i
part_or i (OfInstance child) = part_of child

module _ (i : Instance) where
  pub callee_is : (c p : ℕ) (child : Instance) → cell_at (cells_of i) c ≡ OfInstance child → callee_of i (ports.Cell c p) ≡ Some (callee c child)
  callee_is c p child e = ap (callee_at c) e

  -- what may be called is a component cell, and its component is not static
  of_callable : (o : Option PlainCallee) (k : PlainCallee) → callable o ≡ Some k → (o ≡ Some k) × (k.part.latency ≡ None)
  of_callable None k e = absurd (none_some k e)
  of_callable (Some l) k e = choice l.part.latency refl e
    where
      choice : (n : Option ℕ) → l.part.latency ≡ n → if_dynamic n l ≡ Some k → (Some l ≡ Some k) × (k.part.latency ≡ None)
      choice None f g = (g, subst (λ v. v.part.latency ≡ None) (ap (callee_or l) g) f)
      choice (Some n) f g = absurd (none_some k g)

  in_callees : (assigns : List PlainAssign) (a : PlainAssign) (k : PlainCallee) → In assigns a → callable_of i a.target ≡ Some k → In (callees_of i assigns) k
  in_callees [] a k j h = absurd j
  in_callees (x ∷ xs) a k (inl e) h = subst (λ o. In (and_then o (callees_of i xs)) k) (sym (ap (λ v. callable_of i v.target) e ∙ h)) (inl refl)
  in_callees (x ∷ xs) a k (inr j) h = later (callable_of i x.target) (in_callees xs a k j h)
    where
      later : (o : Option PlainCallee) → In (callees_of i xs) k → In (and_then o (callees_of i xs)) k
      later None m = m
      later (Some l) m = inr m

  callees_in : (assigns : List PlainAssign) (k : PlainCallee) → In (callees_of i assigns) k → (a : PlainAssign) × In assigns a × (callable_of i a.target ≡ Some k)
  callees_in [] k h = absurd h
  callees_in (x ∷ xs) k h = choice (callable_of i x.target) refl h (λ j. callees_in xs k j)
    where
      choice : (o : Option PlainCallee) → callable_of i x.target ≡ o → In (and_then o (callees_of i xs)) k
          → (In (callees_of i xs) k → (a : PlainAssign) × In xs a × (callable_of i a.target ≡ Some k)) → (a : PlainAssign) × In (x ∷ xs) a × (callable_of i a.target ≡ Some k)
      choice None e j f = let r = f j in (r.0, inr r.1, r.2)
      choice (Some l) e (inl s) f = (x, inl refl, e ∙ ap Some s)
      choice (Some l) e (inr j) f = let r = f j in (r.0, inr r.1, r.2)

  apart_in : (last : Option ℕ) (ks : List PlainCallee) (k : PlainCallee) → In (apart last ks) k → In ks k
  apart_in last [] k h = h
  apart_in last (l ∷ ks) k h = choice (is_cell last l.cell) h (λ j. apart_in last ks k j) (λ j. apart_in (Some l.cell) ks k j)
    where
      choice : (b : Bool) → In (cond b (apart last ks) (l ∷ apart (Some l.cell) ks)) k → (In (apart last ks) k → In ks k) → (In (apart (Some l.cell) ks) k → In ks k) → In (l ∷ ks) k
      choice true j f g = inr (f j)
      choice false (inl e) f g = inl e
      choice false (inr j) f g = inr (g j)

  last_is : (last : Option ℕ) (c : ℕ) → is_cell last c ≡ true → last ≡ Some c
  last_is None c e = absurd (true≢false (sym e))
  last_is (Some d) c e = ap Some (from_eq d c e)

  abbrev Stands : Option ℕ → List PlainCallee → PlainCallee → Type 0
  Stands last list k = ((l : PlainCallee) × In list l × (l.cell ≡ k.cell)) ⊎ (last ≡ Some k.cell)

  in_apart : (last : Option ℕ) (ks : List PlainCallee) (k : PlainCallee) → In ks k → Stands last (apart last ks) k
  in_apart last [] k h = absurd h
  in_apart last (l ∷ ks) k h = choice (is_cell last l.cell) refl h (λ j. in_apart last ks k j) (λ j. in_apart (Some l.cell) ks k j)
    where
      choice : (b : Bool) → is_cell last l.cell ≡ b → In (l ∷ ks) k → (In ks k → Stands last (apart last ks) k) → (In ks k → Stands (Some l.cell) (apart (Some l.cell) ks) k)
          → Stands last (cond b (apart last ks) (l ∷ apart (Some l.cell) ks)) k
      choice true e (inl s) f g = inr (last_is last l.cell e ∙ ap (λ (v : PlainCallee). Some v.cell) s)
      choice true e (inr j) f g = f j
      choice false e (inl s) f g = inl (l, inl refl, ap (λ v. v.cell) s)
      choice false e (inr j) f g = ⊎_elim (λ r. inl (r.0, inr r.1, r.2)) (λ s. inl (l, inl refl, some_is _ _ s)) (g j)

  pub driven_by : (assigns : List PlainAssign) (a : PlainAssign) (c p : ℕ) → In assigns a → a.target ≡ ports.Cell c p → some_target (is_port_of c) assigns ≡ true
  driven_by [] a c p j e = absurd j
  driven_by (x ∷ xs) a c p (inl s) e =
      or_left (is_port_of c x.target) (some_target (is_port_of c) xs) (ap (λ t. is_port_of c t) (ap (λ v. v.target) s ∙ e) ∙ equal c)
  driven_by (x ∷ xs) a c p (inr j) e = or_right (is_port_of c x.target) (some_target (is_port_of c) xs) (driven_by xs a c p j e)

  port_is : (c : ℕ) (t : PortRef) → is_port_of c t ≡ true → (p : ℕ) × (t ≡ ports.Cell c p)
  port_is c (ports.Cell d p) e = (p, ap (λ v. ports.Cell v p) (from_eq d c e))
  port_is c (ports.Input n) e = absurd (true≢false (sym e))
  port_is c (ports.Output n) e = absurd (true≢false (sym e))
  port_is c (ports.Done g) e = absurd (true≢false (sym e))
  port_is c (ports.Literal w v) e = absurd (true≢false (sym e))

  find : (assigns : List PlainAssign) (c : ℕ) → some_target (is_port_of c) assigns ≡ true → (a : PlainAssign) × (p : ℕ) × In assigns a × (a.target ≡ ports.Cell c p)
  find [] c h = absurd (true≢false (sym h))
  find (x ∷ xs) c h = choice (is_port_of c x.target) refl h (λ e. find xs c e)
    where
      choice : (b : Bool) → is_port_of c x.target ≡ b → b || some_target (is_port_of c) xs ≡ true
          → (some_target (is_port_of c) xs ≡ true → (a : PlainAssign) × (p : ℕ) × In xs a × (a.target ≡ ports.Cell c p)) → (a : PlainAssign) × (p : ℕ) × In (x ∷ xs) a × (a.target ≡ ports.Cell c p)
      choice true e h f = let r = port_is c x.target e in (x, r.0, inl refl, r.1)
      choice false e h f = let r = f h in (r.0, r.1, inr r.2, r.3)

  pub record IsCalled (assigns : List PlainAssign) (k : PlainCallee) : Type 0 where
    pub calls : Calls i assigns k.cell
    pub part : k.part ≡ part_of calls.child

  pub called_sound : (assigns : List PlainAssign) (k : PlainCallee) → In (called_of i assigns) k → IsCalled assigns k
  called_sound assigns k h =
      let r = callees_in assigns k (apart_in None (callees_of i assigns) k h) in
      let o = of_callable (callee_of i r.0.target) k r.2 in
      let t = target_of i r.0.target k o.0 in
      record {
        calls = record { child = t.child; is_component = t.stands; dynamic = ap (λ p. p.latency) (sym t.part) ∙ o.1; driven = driven_by assigns r.0 k.cell t.port r.1 t.is };
        part = t.part;
      }

  same_callee : (l : PlainCallee) (c : ℕ) (part : PlainComponent) → l.cell ≡ c → l.part ≡ part → l ≡ record { cell = c; part = part }
  same_callee l c part e f = ap (λ v. record { cell = v; part = l.part }) e ∙ ap (λ v. record { cell = c; part = v }) f

  pub called_all : (assigns : List PlainAssign) (c : ℕ) (child : Instance) → cell_at (cells_of i) c ≡ OfInstance child → (part_of child).latency ≡ None → some_target (is_port_of c) assigns ≡ true
      → In (called_of i assigns) (callee c child)
  called_all assigns c child stands dynamic driven =
      let f = find assigns c driven in
      let is : callable_of i f.0.target ≡ Some (callee c child) =
      ap (callable_of i) f.3 ∙ ap callable (callee_is c f.1 child stands) ∙ ap (λ n. if_dynamic n (callee c child)) dynamic in
      ⊎_elim
      (λ r. let s = called_sound assigns r.0 r.1 in
      let part : r.0.part ≡ part_of child = s.part ∙ ap (part_or child) (sym s.calls.is_component ∙ ap (λ v. cell_at (cells_of i) v) r.2 ∙ stands) in
      subst (λ l. In (called_of i assigns) l) (same_callee r.0 c (part_of child) r.2 part) r.1)
      (λ e. absurd (none_some c e))
      (in_apart None (callees_of i assigns) (callee c child) (in_callees assigns f.0 (callee c child) f.2 is))

  -- a port of a component cell has one, and another port has none
  pub part_callee : (t : PortRef) → is_part_port i t ≡ true → (k : PlainCallee) × (callee_of i t ≡ Some k)
  part_callee (ports.Cell c p) h = choice (cell_at (cells_of i) c) h
    where
      choice : (at : At) → is_instance at ≡ true → (k : PlainCallee) × (callee_at c at ≡ Some k)
      choice Nothing h = absurd (true≢false (sym h))
      choice (OfRow row) h = absurd (true≢false (sym h))
      choice (OfInstance child) h = (callee c child, refl)
  part_callee (ports.Input n) h = absurd (true≢false (sym h))
  part_callee (ports.Output n) h = absurd (true≢false (sym h))
  part_callee (ports.Done g) h = absurd (true≢false (sym h))
  part_callee (ports.Literal w v) h = absurd (true≢false (sym h))

  pub part_port_is : (t : PortRef) (k : PlainCallee) → callee_of i t ≡ Some k → is_part_port i t ≡ true
  part_port_is t k e = let r = target_of i t k e in ap (is_part_port i) r.is ∙ ap is_instance r.stands
