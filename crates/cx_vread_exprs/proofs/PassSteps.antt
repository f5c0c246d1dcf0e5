-- One step more past an expression.
use Rattle.std.proofs.Common.{◌≡◌, ℕ, ◌-◌, ◌<◌, List, [], ◌∷◌, ◌++◌, length, reverse, Some, None, refl, ◌∙◌, ap, sym, arith}
use Rattle.std.proofs.lemmas.List.{reverse-append}
use Rattle.cx_vread_exprs.specs.declared.faults.Fault.{Fault}
use Rattle.cx_vread_exprs.specs.declared.faults.Fault.TheVariants as faults
use Rattle.cx_vread_exprs.specs.declared.passing.Await.{Await}
use Rattle.cx_vread_exprs.specs.declared.passing.Found.{Found}
use Rattle.cx_vread_exprs.specs.declared.passing.Found.TheVariants.{Within, Ended}
use Rattle.cx_vscope.specs.declared.shapes.Shape.{Shape}
use Rattle.cx_vtree.specs.Sound.{Scope}
use Rattle.cx_vread_exprs.specs.Answers.{Fails}
use Rattle.cx_vread_exprs.specs.Passing.{want_at, end_at, pass_on}
use Rattle.cx_vread_exprs.specs.Places.{Place, Reads, then_reads}
use Rattle.cx_text.proofs.NumberLaws.{some_left}

-- what is pushed is the first that is awaited
pub pushed : (items more : List Await) (next : Await) → more ≡ items ++ next ∷ [] → reverse more ≡ next ∷ reverse items
pushed items more next is = ap reverse is ∙ reverse-append items (next ∷ [])

pub none_pushed : (items : List Await) → length items ≡ 0 → reverse items ≡ []
none_pushed [] h = refl
none_pushed (a ∷ items) h = absurd (omega arith)

module _ (scope : Scope) where
  -- where one begins within
  opens : (left : ℕ) (next : Await) (awaited : List Await) (p : Place) → 0 < left
      → pass_on scope left (Within next) awaited p ≡ then_reads (want_at scope p) (λ found q. pass_on scope (left - 1) found (next ∷ awaited) q)
  opens left next awaited p lt = ap (λ n. pass_on scope n (Within next) awaited p) (some_left left lt)

  pub opens_on : (left : ℕ) (next : Await) (found : Found) (items more : List Await) (p q : Place) (whole : Reads Shape)
      → pass_on scope left (Within next) (reverse items) p ≡ whole → 0 < left → more ≡ items ++ next ∷ [] → want_at scope p ≡ Some (found, q)
      → pass_on scope (left - 1) found (reverse more) q ≡ whole
  opens_on left next found items more p q whole so_far lt is wants =
      ap (λ st. pass_on scope (left - 1) found st q) (pushed items more next is)
      ∙ sym (ap (λ r. then_reads r (λ found q. pass_on scope (left - 1) found (next ∷ reverse items) q)) wants)
      ∙ sym (opens left next (reverse items) p lt)
      ∙ so_far

  pub opens_none : (fault : Fault) (left : ℕ) (next : Await) (awaited : List Await) (p : Place) (whole : Reads Shape)
      → pass_on scope left (Within next) awaited p ≡ whole → 0 < left → Fails fault (want_at scope p) → Fails fault whole
  opens_none (faults.Syntax bytes) left next awaited p whole so_far lt none =
      sym so_far ∙ opens left next awaited p lt ∙ ap (λ r. then_reads r (λ found q. pass_on scope (left - 1) found (next ∷ awaited) q)) none
  opens_none faults.Memory left next awaited p whole so_far lt h = tt

  -- behind one that has ended
  closes : (left : ℕ) (shape : Shape) (last : Await) (awaited : List Await) (p : Place) → 0 < left
      → pass_on scope left (Ended shape) (last ∷ awaited) p ≡ then_reads (end_at last shape p) (λ found q. pass_on scope (left - 1) found awaited q)
  closes left shape last awaited p lt = ap (λ n. pass_on scope n (Ended shape) (last ∷ awaited) p) (some_left left lt)

  pub closes_on : (left : ℕ) (shape : Shape) (last : Await) (found : Found) (items fewer : List Await) (p q : Place) (whole : Reads Shape)
      → pass_on scope left (Ended shape) (reverse items) p ≡ whole → 0 < left → items ≡ fewer ++ last ∷ [] → end_at last shape p ≡ Some (found, q)
      → pass_on scope (left - 1) found (reverse fewer) q ≡ whole
  closes_on left shape last found items fewer p q whole so_far lt is ends =
      sym (ap (λ r. then_reads r (λ found q. pass_on scope (left - 1) found (reverse fewer) q)) ends)
      ∙ sym (closes left shape last (reverse fewer) p lt)
      ∙ sym (ap (λ st. pass_on scope left (Ended shape) st p) (pushed fewer items last is))
      ∙ so_far

  pub closes_none : (fault : Fault) (left : ℕ) (shape : Shape) (last : Await) (items fewer : List Await) (p : Place) (whole : Reads Shape)
      → pass_on scope left (Ended shape) (reverse items) p ≡ whole → 0 < left → items ≡ fewer ++ last ∷ [] → Fails fault (end_at last shape p) → Fails fault whole
  closes_none (faults.Syntax bytes) left shape last items fewer p whole so_far lt is none =
      sym so_far ∙ ap (λ st. pass_on scope left (Ended shape) st p) (pushed fewer items last is) ∙ closes left shape last (reverse fewer) p lt
      ∙ ap (λ r. then_reads r (λ found q. pass_on scope (left - 1) found (reverse fewer) q)) none
  closes_none faults.Memory left shape last items fewer p whole so_far lt is h = tt

  -- at the end of the outermost
  pub ended : (left : ℕ) (shape : Shape) (items : List Await) (p : Place) (whole : Reads Shape)
      → pass_on scope left (Ended shape) (reverse items) p ≡ whole → 0 < left → length items ≡ 0 → whole ≡ Some (shape, p)
  ended left shape items p whole so_far lt none =
      sym so_far ∙ ap (λ st. pass_on scope left (Ended shape) st p) (none_pushed items none) ∙ ap (λ n. pass_on scope n (Ended shape) [] p) (some_left left lt)

  -- with no step left
  pub out_of_steps : (left : ℕ) (next : Found) (awaited : List Await) (p : Place) (whole : Reads Shape) → pass_on scope left next awaited p ≡ whole → left ≡ 0 → whole ≡ None
  out_of_steps left next awaited p whole so_far none = sym so_far ∙ ap (λ n. pass_on scope n next awaited p) none
