-- The dones of cells, with their new numbers.
use Rattle.std.proofs.Common.{◌≡◌, ℕ, zero, suc, ◌+◌, Bool, true, false, List, [], ◌∷◌, refl, sym, ap, ◌∙◌}
use Rattle.std.specs.Prelude.{nat_eq, if◌then◌else◌}
use Rattle.std.specs.List.{slice_get}
use Rattle.std.proofs.lemmas.Bool.{eqb-true, eq-eqb}
use Rattle.std.proofs.Math.Path.{fun_ext}
use Rattle.cx_meaning.specs.declared.ports.PortRef.{PortRef}
use Rattle.cx_meaning.specs.declared.ports.PortRef.TheVariants as ports
use Rattle.cx_meaning.specs.Designs.{PlainKind, OfPrimitive, OfComponent, PlainCell, PlainComponent, PlainDesign, component_at}
use Rattle.cx_profiling.specs.Counters.{first_gained}
use Rattle.cx_profiling.specs.Instrumented.{gained, moved_by, moved_number, moved_in}
use Rattle.cx_profile.specs.Renumbering.{done_of, dones_of, renumber, renumbered_number}

-- A PORT WITH ITS NEW NUMBER is the moved port
same_test : (m n : ℕ) → nat_eq m n ≡ nat_eq n m
same_test m n = by (nat_eq m n) refl (nat_eq n m) refl
  where
    by : (b : Bool) → nat_eq m n ≡ b → (c : Bool) → nat_eq n m ≡ c → b ≡ c
    by true e true f = refl
    by false e false f = refl
    by true e false f = sym (eq-eqb n m (sym (eqb-true m n e))) ∙ f
    by false e true f = sym e ∙ eq-eqb m n (sym (eqb-true n m f))

module _ (d : PlainDesign) where
  done_number : (kind : PlainKind) (p : ℕ) → (if nat_eq (done_of d kind).old p then (done_of d kind).new else p) ≡ moved_by d kind p
  done_number (OfPrimitive q) p = by (nat_eq 0 p) refl
    where
      by : (b : Bool) → nat_eq 0 p ≡ b → (if b then 0 else p) ≡ p
      by true e = eqb-true 0 p e
      by false e = refl
  done_number (OfComponent k) p = ap (λ b. if b then first_gained (component_at d k) + gained d k else p) (same_test (first_gained (component_at d k)) p) ∙ by (nat_eq p (first_gained (component_at d k))) refl
    where
      by : (b : Bool) → nat_eq p (first_gained (component_at d k)) ≡ b → (if b then first_gained (component_at d k) + gained d k else p) ≡ (if b then p + gained d k else p)
      by true e = ap (λ n. n + gained d k) (sym (eqb-true p (first_gained (component_at d k)) e))
      by false e = refl

  cell_number : (cells : List PlainCell) (c p : ℕ) → renumbered_number (slice_get (dones_of d cells) c) p ≡ moved_number d (slice_get cells c) p
  cell_number [] c p = refl
  cell_number (cell ∷ cells) zero p = done_number cell.kind p
  cell_number (cell ∷ cells) (suc c) p = cell_number cells c p

  renumber-is : (part : PlainComponent) (p : PortRef) → renumber (dones_of d part.cells) p ≡ moved_in d part p
  renumber-is part (ports.Cell c p) = ap (ports.Cell c) (cell_number part.cells c p)
  renumber-is part (ports.Input n) = refl
  renumber-is part (ports.Output n) = refl
  renumber-is part (ports.Done g) = refl
  renumber-is part (ports.Literal w v) = refl

  -- as functions
  pub renumber-moved : (part : PlainComponent) → renumber (dones_of d part.cells) ≡ moved_in d part
  renumber-moved part = fun_ext (λ p. renumber-is part p)

-- without cells no port gets a new number
same_port : (p : PortRef) → renumber [] p ≡ p
same_port (ports.Cell c p) = refl
same_port (ports.Input n) = refl
same_port (ports.Output n) = refl
same_port (ports.Done g) = refl
same_port (ports.Literal w v) = refl

pub renumber-none : renumber [] ≡ (λ (p : PortRef). p)
renumber-none = fun_ext same_port
