-- A port that is one of a component cell.
use Rattle.std.proofs.Common.{◌≡◌, ℕ, false, is_some, Option, Some, None, refl, sym, ap, ◌∙◌, subst, true≢false}
use Rattle.cx_meaning.specs.declared.ports.PortRef.{PortRef}
use Rattle.cx_meaning.specs.declared.ports.PortRef.TheVariants as ports
use Rattle.cx_meaning.specs.Instances.{Instance, At, Nothing, OfRow, OfInstance, part_of, cells_of, cell_at}
use Rattle.cx_rules.specs.InvokeShape.{latency_at, is_static_port}
use Rattle.cx_callees.specs.Callees.{PlainCallee, callee_at, callee_of}

abbrev pub callee : ℕ → Instance → PlainCallee
callee c child = record { cell = c; part = part_of child }

abbrev pub callee_or : PlainCallee → Option PlainCallee → PlainCallee
callee_or k None = k
callee_or k (Some l) = l

pub none_some : {A : Type 0} (x : A) → None ≡ Some x → ⊥
none_some x e = cc

module _ (i : Instance) where
  -- a target that is a port of a component cell
  pub record Target (t : PortRef) (k : PlainCallee) : Type 0 where
    pub port : ℕ
    pub child : Instance
    pub is : t ≡ ports.Cell k.cell port
    pub stands : cell_at (cells_of i) k.cell ≡ OfInstance child
    pub part : k.part ≡ part_of child

  at_callee : (c : ℕ) (at : At) (k : PlainCallee) → callee_at c at ≡ Some k → (child : Instance) × (at ≡ OfInstance child) × (callee c child ≡ k)
  at_callee c Nothing k e = absurd (none_some k e)
  at_callee c (OfRow row) k e = absurd (none_some k e)
  at_callee c (OfInstance child) k e = (child, refl, ap (callee_or (callee c child)) e)

  pub target_of : (t : PortRef) (k : PlainCallee) → callee_of i t ≡ Some k → Target t k
  target_of (ports.Cell c p) k e =
      let r = at_callee c (cell_at (cells_of i) c) k e in
      subst (λ l. Target (ports.Cell c p) l) r.2 (record { port = p; child = r.0; is = refl; stands = r.1; part = refl })
  target_of (ports.Input n) k e = absurd (none_some k e)
  target_of (ports.Output n) k e = absurd (none_some k e)
  target_of (ports.Done g) k e = absurd (none_some k e)
  target_of (ports.Literal w v) k e = absurd (none_some k e)

  none_is : (o : Option ℕ) → is_some o ≡ false → o ≡ None
  none_is None h = refl
  none_is (Some n) h = absurd (true≢false h)

  -- a port of a component cell that is no port of a static one
  pub is_dynamic : (t : PortRef) (c p : ℕ) (child : Instance) → t ≡ ports.Cell c p → cell_at (cells_of i) c ≡ OfInstance child → is_static_port i t ≡ false → (part_of child).latency ≡ None
  is_dynamic t c p child e stands h = none_is (part_of child).latency (ap (λ at. is_some (latency_at at)) (sym stands) ∙ ap (is_static_port i) (sym e) ∙ h)
