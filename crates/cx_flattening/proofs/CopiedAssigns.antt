-- What acts of a copy of assignments.
use Rattle.std.proofs.Common.{◌≡◌, ℕ, Bool, true, false, List, [], ◌∷◌, map, Option, Some, None, inl, inr, refl, ap, ◌∙◌}
use Rattle.cx_meaning.specs.declared.ports.PortRef.{PortRef}
use Rattle.cx_meaning.specs.Designs.{PlainAssign}
use Rattle.cx_meaning.specs.Active.{Active, owned, offset_of, if_acting, if_target, same_port, acting}
use Rattle.cx_text.specs.Members.{In}
use Rattle.cx_rewrites.specs.Moving.{moved_assign, moved_acting}

-- COPIES act as what they copy does, where they act at the same offset and the map keeps apart what is targeted
module _ (f : PortRef → PortRef) (act other : Active) (p q : PortRef) (o c : Option ℕ) (same : offset_of other c ≡ offset_of act o) where
  pub acting_copied : (list : List PlainAssign) → ((a : PlainAssign) → In list a → same_port (f a.target) q ≡ same_port a.target p)
      → acting other q (owned c (map (moved_assign f) list)) ≡ map (moved_acting f) (acting act p (owned o list))
  acting_copied [] apart = refl
  acting_copied (a ∷ rest) apart =
      ap (λ b. if_target b other (record { owner = c; assign = moved_assign f a }) (acting other q (owned c (map (moved_assign f) rest)))) (apart a (inl refl))
      ∙ choice (same_port a.target p) (acting_copied rest (λ x i. apart x (inr i)))
    where
      offset : (k : Option ℕ) → acting other q (owned c (map (moved_assign f) rest)) ≡ map (moved_acting f) (acting act p (owned o rest))
          → if_acting k (moved_assign f a) (acting other q (owned c (map (moved_assign f) rest))) ≡ map (moved_acting f) (if_acting k a (acting act p (owned o rest)))
      offset None ih = ih
      offset (Some n) ih = ap (λ l. moved_acting f (record { offset = n; assign = a }) ∷ l) ih

      choice : (b : Bool) → acting other q (owned c (map (moved_assign f) rest)) ≡ map (moved_acting f) (acting act p (owned o rest))
          → if_target b other (record { owner = c; assign = moved_assign f a }) (acting other q (owned c (map (moved_assign f) rest)))
          ≡ map (moved_acting f) (if_target b act (record { owner = o; assign = a }) (acting act p (owned o rest)))
      choice true ih =
          ap (λ k. if_acting k (moved_assign f a) (acting other q (owned c (map (moved_assign f) rest)))) same
          ∙ offset (offset_of act o) ih
      choice false ih = ih

-- what does not act, and what has other targets, gives nothing
pub acting_none : (act : Active) (p : PortRef) (o : Option ℕ) (list : List PlainAssign) → offset_of act o ≡ None → acting act p (owned o list) ≡ []
acting_none act p o [] e = refl
acting_none act p o (a ∷ rest) e = choice (same_port a.target p) (acting_none act p o rest e)
  where
    choice : (b : Bool) → acting act p (owned o rest) ≡ [] → if_target b act (record { owner = o; assign = a }) (acting act p (owned o rest)) ≡ []
    choice true ih = ap (λ k. if_acting k a (acting act p (owned o rest))) e ∙ ih
    choice false ih = ih

pub acting_elsewhere : (act : Active) (p : PortRef) (o : Option ℕ) (list : List PlainAssign) → ((a : PlainAssign) → In list a → same_port a.target p ≡ false) → acting act p (owned o list) ≡ []
acting_elsewhere act p o [] e = refl
acting_elsewhere act p o (a ∷ rest) e =
    ap (λ b. if_target b act (record { owner = o; assign = a }) (acting act p (owned o rest))) (e a (inl refl)) ∙ acting_elsewhere act p o rest (λ x i. e x (inr i))
