-- What it says of an answer that it is carried: of one that ends, and at the exact pace of each. A meaning carries itself.
use Rattle.std.proofs.Common.{◌≡◌, ℕ, refl, sym, ap, ◌∙◌, subst}
use Rattle.cx_meaning.specs.Answers.{Answer, End, Fault, More, Meaning}
use Rattle.cx_rewrites.specs.Tallies.{Tally, plus, Counted}
use Rattle.cx_rewrites.specs.Carrying.{Pace, Exact, Keeps, Same, Carried, Carries}

module _ {S T F G : Type 0} (R : Tally → S → T → Type 0) (faults : F → G) (before counted : Tally) (o : Answer S F) (x : Answer T G) where
  pub ends_carried : (pace : Pace) (c : S) (k : ℕ) → o ≡ End c k → Carried pace R faults before counted o x → (d : T) × (u : ℕ) × (x ≡ End d u) × Keeps pace u k × R (plus before counted) c d
  ends_carried pace c k e h = subst (λ a. Carried pace R faults before counted a x) e h

  pub end_followed : (c : S) (k : ℕ) → o ≡ End c k → Carried Exact R faults before counted o x → (d : T) × (x ≡ End d k) × R (plus before counted) c d
  end_followed c k e h = let r = ends_carried Exact c k e h in (r.0, r.2 ∙ ap (End r.0) r.3, r.4)

  pub fault_followed : (f : F) (k : ℕ) → o ≡ Fault f k → Carried Exact R faults before counted o x → x ≡ Fault (faults f) k
  fault_followed f k e h = subst (λ a. Carried Exact R faults before counted a x) e h

  pub more_followed : o ≡ More → Carried Exact R faults before counted o x → x ≡ More
  more_followed e h = subst (λ a. Carried Exact R faults before counted a x) e h

-- from the same state, a meaning carries itself
module _ {S F : Type 0} where
  same_answer : (before counted : Tally) (o : Answer S F) → Carried Exact Same (λ (f : F). f) before counted o o
  same_answer before counted (End a t) = (a, t, refl, refl, refl)
  same_answer before counted (Fault f t) = refl
  same_answer before counted More = refl

  pub same_carries : (counts : Counted S) (go : Meaning S F) → Carries Exact Same (λ (f : F). f) counts go go
  same_carries counts go before s z n m room same =
      subst (λ k. Carried Exact Same (λ (f : F). f) before (counts s n) (go s n) (go z k)) room
      (subst (λ y. Carried Exact Same (λ (f : F). f) before (counts s n) (go s n) (go y n)) same (same_answer before (counts s n) (go s n)))

  -- and what the same states carry is the same answer
  pub carried_is_same : (before counted : Tally) (o x : Answer S F) → Carried Exact Same (λ (f : F). f) before counted o x → x ≡ o
  carried_is_same before counted (End a t) x (z, u, e, k, r) = e ∙ ap (End z) k ∙ ap (λ y. End y t) (sym r)
  carried_is_same before counted (Fault f t) x e = e
  carried_is_same before counted More x e = e
