-- Where nets are ranked and all agree with what drives them, each has its value.
use Rattle.std.proofs.Common.{◌≡◌, ℕ, zero, suc, ◌<◌, ◌≤◌, ◌⊎◌, inl, inr, List, Option, Some, None, length, get_or, slice_get, refl, sym, ◌∙◌, subst, arith}
use Rattle.std.proofs.lemmas.Bool.{cases_lt}
use Rattle.std.proofs.lemmas.Option.{slice_get-get_or}
use Rattle.std.proofs.lemmas.Option.{slice_get-get_or, slice_get_within, get_or_from_slice_get}
use Rattle.cx_bits.specs.BitVector.{BitVector}
use Rattle.cx_vnets.specs.declared.nets.Nets.{Nets}
use Rattle.cx_vnets.specs.declared.nets.Stored.{Stored}
use Rattle.cx_vnets.specs.Arrays.{word_at}
use Rattle.cx_vnets.specs.Readers.{IsRanked, Agrees}
use Rattle.cx_vnets.specs.Search.{no_bits, value_at, AllHave}
use Rattle.cx_vnets.specs.Stale.{rank_at, HasPlace}
use Rattle.cx_vnets.specs.Values.{HasValue, by_rule}
use Rattle.cx_vnets.proofs.ReadLemmas.{net_reads, rule_same}

module _ (n : Nets) (s : Stored) (order ranks : List ℕ) (ranked : IsRanked n order ranks) (values : List BitVector) (long : length values ≡ length n.drivers.items)
    (agree : (f : ℕ) → f < length n.drivers.items → Agrees n s values f) where
  abbrev by_order : {a b : ℕ} → ((a < b) ⊎ (b ≤ a)) → Option BitVector → Option BitVector
  by_order (inl l) o = o
  by_order (inr l) o = None

  lower : {a b : ℕ} (c : (a < b) ⊎ (b ≤ a)) (o : Option BitVector) → a < b → by_order c o ≡ o
  lower (inl l) o lt = refl
  lower (inr l) o lt = absurd (omega (arith, l, lt))

  -- the values of nets of lower ranks
  abbrev known : ℕ → ℕ → Option BitVector
  known f g = by_order (cases_lt (rank_at ranks g) (rank_at ranks f)) (slice_get values g)

  right : (b f : ℕ) → rank_at ranks f < suc b → ((g : ℕ) → g < length n.drivers.items → rank_at ranks g < b → HasValue n s g (value_at values g))
      → (g : ℕ) (w : BitVector) (c : (rank_at ranks g < rank_at ranks f) ⊎ (rank_at ranks f ≤ rank_at ranks g)) → by_order c (slice_get values g) ≡ Some w → HasValue n s g w
  right b f r earlier g w (inl l) e =
      subst (HasValue n s g) (get_or_from_slice_get values g w no_bits e)
      (earlier g (subst (λ k. g < k) long (slice_get_within values g w e)) (omega (arith, l, r)))
  right b f r earlier g w (inr l) e = absurd (cc)

  has : (bound f : ℕ) → f < length n.drivers.items → rank_at ranks f < bound → HasValue n s f (value_at values f)
  has zero f lt r = absurd (omega (arith, r))
  has (suc b) f lt r =
      by_rule (known f)
      (λ g w e. right b f r (λ h l k. has b h l k) g w (cases_lt (rank_at ranks g) (rank_at ranks f)) e)
      (rule_same n s s (known f) (slice_get values) f refl
      (net_reads n (λ g. rank_at ranks g < rank_at ranks f) (λ g. known f g ≡ slice_get values g) (λ a. Unit {0}) (λ a. (i : ℕ) → word_at s.arrays.items a i ≡ word_at s.arrays.items a i)
      (λ g l. lower (cases_lt (rank_at ranks g) (rank_at ranks f)) (slice_get values g) l) (λ a u i. refl) f (ranked.lower f lt))
      ∙ agree f lt ∙ slice_get-get_or values f no_bits (subst (λ k. f < k) (sym long) lt))

  pub all_ranked_have : AllHave n s values
  all_ranked_have f lt = has (suc (rank_at ranks f)) f lt (omega arith)

-- each net's rank has a mark
pub has_place : (n : Nets) (order ranks : List ℕ) (stale : List ℕ) → IsRanked n order ranks → length stale ≡ length n.drivers.items → (f : ℕ) → f < length n.drivers.items → HasPlace ranks stale f
has_place n order ranks stale ranked long f lt =
    (subst (λ k. f < k) (sym ranked.ranks_long) lt, subst (λ k. rank_at ranks f < k) (ranked.long ∙ sym long) (slice_get_within order (rank_at ranks f) f (ranked.placed f lt)))

-- the net of a rank has that rank
pub net_at : (n : Nets) (order ranks : List ℕ) (stale : List ℕ) → IsRanked n order ranks → length stale ≡ length n.drivers.items → (k : ℕ) → k < length stale
    → (get_or order k 0 < length n.drivers.items) × (rank_at ranks (get_or order k 0) ≡ k)
net_at n order ranks stale ranked long k lt = ranked.back k (get_or order k 0) (slice_get-get_or order k 0 (subst (λ l. k < l) (long ∙ sym ranked.long) lt))
