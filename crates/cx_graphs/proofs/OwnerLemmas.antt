-- Owners joined with others.
use Rattle.std.proofs.Common.{◌≡◌, ◌≢◌, ℕ, zero, suc, ◌+◌, ◌<◌, ◌≤◌, nat_eq, Bool, true, false, cond, List, [], ◌∷◌, length, slice_set, ◌⊎◌, inl, inr, ⊎_elim, refl, sym, ap, ◌∙◌, subst, arith, tests}
use Rattle.cx_graphs.specs.declared.owners.Owners.{Owners}
use Rattle.cx_graphs.specs.declared.owners.Owners.TheVariants.{Nobody, Only, Several}
use Rattle.cx_graphs.specs.Owners.{Covers, Sound, joined, room, owners_at}
use Rattle.cx_graphs.specs.Tallies.{rooms}

abbrev one_or_several : Bool → ℕ → Owners
one_or_several b j = cond b (Only j) Several

-- two single owners are one, or are several
pub two_joined : (j k : ℕ) → ((j ≡ k) × (joined (Only j) (Only k) ≡ Only j)) ⊎ ((j ≢ k) × (joined (Only j) (Only k) ≡ Several))
two_joined j k = choice (nat_eq j k) refl
  where
    choice : (b : Bool) → nat_eq j k ≡ b → ((j ≡ k) × (one_or_several (nat_eq j k) j ≡ Only j)) ⊎ ((j ≢ k) × (one_or_several (nat_eq j k) j ≡ Several))
    choice true e = inl (grind (arith, tests), ap (λ b. one_or_several b j) e)
    choice false e = inr (λ s. grind (arith, tests), ap (λ b. one_or_several b j) e)

pub covers_left : (a b : Owners) (k : ℕ) → Covers a k → Covers (joined a b) k
covers_left Nobody b k h = absurd h
covers_left (Only j) Nobody k h = h
covers_left (Only j) (Only m) k h = ⊎_elim (λ s. subst (λ o. Covers o k) (sym s.1) h) (λ d. subst (λ o. Covers o k) (sym d.1) tt) (two_joined j m)
covers_left (Only j) Several k h = tt
covers_left Several b k h = tt

pub covers_right : (a b : Owners) (k : ℕ) → Covers b k → Covers (joined a b) k
covers_right Nobody b k h = h
covers_right (Only j) Nobody k h = absurd h
covers_right (Only j) (Only m) k h = ⊎_elim (λ s. subst (λ o. Covers o k) (sym s.1) (s.0 ∙ h)) (λ d. subst (λ o. Covers o k) (sym d.1) tt) (two_joined j m)
covers_right (Only j) Several k h = tt
covers_right Several b k h = tt

pub sound_joined : (P : ℕ → Type 0) (a b : Owners) → Sound P a → Sound P b → Sound P (joined a b)
sound_joined P Nobody b x y = y
sound_joined P (Only j) Nobody x y = x
sound_joined P (Only j) (Only k) x y = ⊎_elim (λ s. subst (Sound P) (sym s.1) x) (λ d. subst (Sound P) (sym d.1) (j, k, d.0, x, y)) (two_joined j k)
sound_joined P (Only j) Several x y = y
sound_joined P Several b x y = x

-- what holds of more is sound of more
pub sound_wider : (P Q : ℕ → Type 0) (o : Owners) → ((k : ℕ) → P k → Q k) → Sound P o → Sound Q o
sound_wider P Q Nobody f h = tt
sound_wider P Q (Only j) f h = f j h
sound_wider P Q Several f h = (h.0, h.1, h.2, f h.0 h.3, f h.1 h.4)

-- owners that are joined once more stay
pub joined_again : (a b : Owners) → joined (joined a b) b ≡ joined a b
joined_again Nobody Nobody = refl
joined_again Nobody (Only k) = ⊎_elim (λ s. s.1) (λ d. absurd (d.0 refl)) (two_joined k k)
joined_again Nobody Several = refl
joined_again (Only j) Nobody = refl
joined_again (Only j) (Only k) = ⊎_elim (λ s. ap (λ o. joined o (Only k)) s.1) (λ d. ap (λ o. joined o (Only k)) d.1 ∙ sym d.1) (two_joined j k)
joined_again (Only j) Several = refl
joined_again Several b = refl

-- owners that change leave less room, and are some
pub less_room : (a b : Owners) → (joined a b ≡ a → ⊥) → room (joined a b) + 1 ≤ room a
less_room Nobody Nobody h = absurd (h refl)
less_room Nobody (Only k) h = omega arith
less_room Nobody Several h = omega arith
less_room (Only j) Nobody h = absurd (h refl)
less_room (Only j) (Only k) h = ⊎_elim (λ s. absurd (h s.1)) (λ d. subst (λ o. room o + 1 ≤ 1) (sym d.1) (omega arith)) (two_joined j k)
less_room (Only j) Several h = omega arith
less_room Several b h = absurd (h refl)

pub some_joined : (a b : Owners) → (joined a b ≡ a → ⊥) → (k : ℕ) × Covers (joined a b) k
some_joined Nobody Nobody h = absurd (h refl)
some_joined Nobody (Only k) h = (k, refl)
some_joined Nobody Several h = (0, tt)
some_joined (Only j) b h = (j, covers_left (Only j) b j refl)
some_joined Several b h = (0, tt)

pub rooms_less : (os : List Owners) (n : ℕ) (o : Owners) → n < length os → room o + 1 ≤ room (owners_at os n) → rooms (slice_set os n o) + 1 ≤ rooms os
rooms_less [] n o h r = absurd (omega (arith, h))
rooms_less (x ∷ os) zero o h r = let rest = rooms os in let had = room x in let new = room o in omega (arith, r)
rooms_less (x ∷ os) (suc n) o h r = let more : rooms (slice_set os n o) + 1 ≤ rooms os = rooms_less os n o (omega (arith, h)) r in omega (arith, more)
