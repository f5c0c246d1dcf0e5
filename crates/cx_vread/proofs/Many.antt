-- Parts one after another.
use Rattle.std.proofs.Common.{◌≡◌, ℕ, ◌-◌, ◌<◌, zero, suc, Bool, true, false, List, [], ◌∷◌, ◌++◌, Some, None, refl, ap, sym, ◌∙◌, append_assoc, append-nil, map, if◌then◌else◌}
use Rattle.std.proofs.lemmas.List.{map-append}
use Rattle.cx_vread_exprs.specs.declared.faults.Fault.{Fault}
use Rattle.cx_vread_exprs.specs.declared.faults.Fault.TheVariants as faults
use Rattle.cx_vread_exprs.specs.Answers.{Fails}
use Rattle.cx_vread_exprs.specs.Places.{Place, Reads, then_reads, many, with_front}
use Rattle.cx_text.proofs.NumberLaws.{some_left}

module _ {X : Type 0} where
  behind_one : (front : List X) (x : X) (reads : Reads (List X))
      → with_front front (then_reads reads (λ xs r. Some (x ∷ xs, r))) ≡ with_front (front ++ x ∷ []) reads
  behind_one front x None = refl
  behind_one front x (Some y) = ap (λ xs. Some (xs, y.1)) (sym (append_assoc front (x ∷ []) y.0))

  step : (starts : Place → Bool) (one : Place → Reads X) (n : ℕ) (p q : Place) (x : X) → starts p ≡ true → one p ≡ Some (x, q)
      → many starts one (suc n) p ≡ then_reads (many starts one n q) (λ xs r. Some (x ∷ xs, r))
  step starts one n p q x here is =
      ap (λ b. if b then then_reads (one p) (λ x q. then_reads (many starts one n q) (λ xs r. Some (x ∷ xs, r))) else Some ([], p)) here
      ∙ ap (λ r. then_reads r (λ x q. then_reads (many starts one n q) (λ xs r. Some (x ∷ xs, r)))) is

  -- one part more is read
  pub many_next : (starts : Place → Bool) (one : Place → Reads X) (front : List X) (left : ℕ) (p q : Place) (x : X) → 0 < left → starts p ≡ true → one p ≡ Some (x, q)
      → with_front (front ++ x ∷ []) (many starts one (left - 1) q) ≡ with_front front (many starts one left p)
  many_next starts one front left p q x lt here is =
      sym (behind_one front x (many starts one (left - 1) q))
      ∙ ap (with_front front) (sym (step starts one (left - 1) p q x here is))
      ∙ ap (λ n. with_front front (many starts one n p)) (sym (some_left left lt))

  stops : (starts : Place → Bool) (one : Place → Reads X) (left : ℕ) (p : Place) → starts p ≡ false → many starts one left p ≡ Some ([], p)
  stops starts one zero p absent = refl
  stops starts one (suc n) p absent =
      ap (λ b. if b then then_reads (one p) (λ x q. then_reads (many starts one n q) (λ xs r. Some (x ∷ xs, r))) else Some ([], p)) absent

  -- no such part stands here
  pub many_end : (starts : Place → Bool) (one : Place → Reads X) (front : List X) (left : ℕ) (p : Place) → starts p ≡ false
      → with_front front (many starts one left p) ≡ Some (front, p)
  many_end starts one front left p absent = ap (with_front front) (stops starts one left p absent) ∙ ap (λ xs. Some (xs, p)) (append-nil front)

  -- none is left to be read
  pub many_out : (starts : Place → Bool) (one : Place → Reads X) (front : List X) (left : ℕ) (p : Place) → left ≡ 0
      → with_front front (many starts one left p) ≡ Some (front, p)
  many_out starts one front left p none = ap (λ n. with_front front (many starts one n p)) none ∙ ap (λ xs. Some (xs, p)) (append-nil front)

  -- a part that is none ends reading
  pub many_fails : (starts : Place → Bool) (one : Place → Reads X) (front : List X) (left : ℕ) (p : Place) → 0 < left → starts p ≡ true → one p ≡ None
      → with_front front (many starts one left p) ≡ None
  many_fails starts one front left p lt here is =
      ap (λ n. with_front front (many starts one n p)) (some_left left lt)
      ∙ ap (λ b. with_front front (if b then then_reads (one p) (λ x q. then_reads (many starts one (left - 1) q) (λ xs r. Some (x ∷ xs, r))) else Some ([], p))) here
      ∙ ap (λ r. with_front front (then_reads r (λ x q. then_reads (many starts one (left - 1) q) (λ xs r. Some (x ∷ xs, r))))) is

  -- where such a part is not read, the whole is not
  pub fails_on : (starts : Place → Bool) (one : Place → Reads X) (front : List X) (left : ℕ) (p : Place) (fault : Fault) (whole : Reads (List X))
      → with_front front (many starts one left p) ≡ whole → 0 < left → starts p ≡ true → Fails fault (one p) → Fails fault whole
  fails_on starts one front left p (faults.Syntax bytes) whole so_far lt here reads = sym so_far ∙ many_fails starts one front left p lt here reads
  fails_on starts one front left p faults.Memory whole so_far lt here reads = tt

module _ {X Y : Type 0} where
  -- one part more is read into a list of the program
  pub mapped_next : (plain : Y → X) (starts : Place → Bool) (one : Place → Reads X) (list more : List Y) (y : Y) (left : ℕ) (p q : Place) (whole : Reads (List X))
      → with_front (map plain list) (many starts one left p) ≡ whole → more ≡ list ++ y ∷ [] → 0 < left → starts p ≡ true → one p ≡ Some (plain y, q)
      → with_front (map plain more) (many starts one (left - 1) q) ≡ whole
  mapped_next plain starts one list more y left p q whole so_far is lt here reads =
      ap (λ xs. with_front xs (many starts one (left - 1) q)) (ap (map plain) is ∙ map-append plain list (y ∷ []))
      ∙ many_next starts one (map plain list) left p q (plain y) lt here reads
      ∙ so_far

  -- no such part stands here
  pub mapped_end : (plain : Y → X) (starts : Place → Bool) (one : Place → Reads X) (list : List Y) (left : ℕ) (p : Place) (whole : Reads (List X))
      → with_front (map plain list) (many starts one left p) ≡ whole → starts p ≡ false → whole ≡ Some (map plain list, p)
  mapped_end plain starts one list left p whole so_far absent = sym so_far ∙ many_end starts one (map plain list) left p absent
