-- What marks tell.
use Rattle.std.proofs.Common.{◌≡◌, ℕ, zero, suc, ◌<◌, inl, inr, List, [], ◌∷◌, Some, slice_get, refl, ap, sym, ◌∙◌, subst}
use Rattle.cx_text.specs.Members.{In}
use Rattle.cx_vnets.specs.Stale.{rank_at, HasPlace, Tells}

-- nothing is marked
pub tells_none : (ranks : List ℕ) (stale : List ℕ) (same : ℕ → Type 0) → ((f : ℕ) → HasPlace ranks stale f → same f) → Tells ranks stale stale same
tells_none ranks stale same h = record { long = refl; kept = λ k e. e; stays = λ f place e. h f place }

-- one mark behind others
pub tells_more : (ranks : List ℕ) (a b c : List ℕ) (first then_ both : ℕ → Type 0) → Tells ranks a b first → Tells ranks b c then_ → ((f : ℕ) → first f → then_ f → both f) → Tells ranks a c both
tells_more ranks a b c first then_ both x y h = record {
  long = y.long ∙ x.long;
  kept = λ k e. x.kept k (y.kept k e);
  stays = λ f place e. h f (x.stays f place (y.kept (rank_at ranks f) e)) (y.stays f (place.0, subst (λ l. rank_at ranks f < l) (sym x.long) place.1) e);
}

-- three marks, one behind another
pub tells_three : (ranks : List ℕ) (a b c d : List ℕ) (one two three all : ℕ → Type 0) → Tells ranks a b one → Tells ranks b c two → Tells ranks c d three
    → ((f : ℕ) → one f → two f → three f → all f) → Tells ranks a d all
tells_three ranks a b c d one two three all x y z h =
    tells_more ranks a c d (λ f. one f × two f) three all (tells_more ranks a b c one two (λ f. one f × two f) x y (λ f p q. (p, q))) z (λ f p q. h f p.0 p.1 q)

-- the same, said in other words
pub tells_so : (ranks : List ℕ) (a b : List ℕ) (one other : ℕ → Type 0) → Tells ranks a b one → ((f : ℕ) → one f → other f) → Tells ranks a b other
tells_so ranks a b one other x h = record { long = x.long; kept = x.kept; stays = λ f place e. h f (x.stays f place e) }

-- a member of a list stands at a place
pub member_at : (row : List ℕ) (f : ℕ) → In row f → (j : ℕ) × (slice_get row j ≡ Some f)
member_at [] f i = absurd i
member_at (x ∷ row) f (inl e) = (zero, ap Some e)
member_at (x ∷ row) f (inr i) = let r = member_at row f i in (suc r.0, r.1)
