-- Rows of readers grow, and ranks are looked at one by one.
use Rattle.std.proofs.Common.{◌≡◌, ℕ, ◌+◌, ◌<◌, ⊎_elim, Bool, List, Option, Some, Result, Ok, Err, OnOk, length, slice_get, refl, ap, sym, ◌∙◌, subst, arith}
use Rattle.std.proofs.lemmas.Bool.{cases_lt}
use Rattle.std.proofs.lemmas.Option.{same_Some, slice_get_within}
use Rattle.cx_bits.specs.BitVector.{BitVector}
use Rattle.cx_graphs.specs.Graphs.{Edges, edges_of}
use Rattle.cx_vnets.specs.declared.codes.Code.{Code}
use Rattle.cx_vnets.specs.declared.codes.NetPosition.{NetPosition}
use Rattle.cx_vnets.specs.declared.nets.Nets.{Nets}
use Rattle.cx_vnets.specs.Carriers.{origin_at}
use Rattle.cx_vnets.specs.Readers.{WatchesGrow, IsListed, IsWatch, IsHeard, IsFound, Grows, ListsCode, AreBehind, HaveRanks, IsRanked}
use Rattle.cx_vnets.specs.Stale.{rank_at}
use Rattle.cx_vnets.specs.declared.watches.Watches.{Watches}
use Rattle.cx_vnets.specs.Watches.{IsNoted, NotesGrow, row_of}
use Rattle.cx_vnets.proofs.WatchLemmas.{code_hears, net_hears}

-- of two things that are so where there is a value
pub on_ok_both : {T E P Q R : Type 0} (r : Result T E) → (P → Q → R) → OnOk r P → OnOk r Q → OnOk r R
on_ok_both (Ok v) h p q = h p q
on_ok_both (Err e) h p q = p

pub grows_none : (g : Edges) → Grows g g
grows_none g = record { long = refl; kept = λ m f i. i }

pub grows_more : (a b c : Edges) → Grows a b → Grows b c → Grows a c
grows_more a b c x y = record { long = y.long ∙ x.long; kept = λ m f i. y.kept m f (x.kept m f i) }

pub still_listed : (a b : Edges) → Grows a b → (f from : ℕ) → IsListed a f from → IsListed b f from
still_listed a b g f from i = λ lt. g.kept from f (i (subst (λ k. from < k) g.long lt))

pub watches_more : (a b c : Watches) → WatchesGrow a b → WatchesGrow b c → WatchesGrow a c
watches_more a b c x y = record {
  rows = grows_more (edges_of a.rows.items) (edges_of b.rows.items) (edges_of c.rows.items) x.rows y.rows;
  notes = record { long = y.notes.long ∙ x.notes.long; kept = λ k e. y.notes.kept k (x.notes.kept k e) };
}

still_noted : (a b : List Bool) → NotesGrow a b → (net : ℕ) → IsNoted a net → IsNoted b net
still_noted a b g net i = λ lt. g.kept net (i (subst (λ k. net < k) g.long lt))

pub still_watch : (a b : Watches) → WatchesGrow a b → (count f net : ℕ) (v : BitVector) (sided : Bool) → IsWatch a count f net v sided → IsWatch b count f net v sided
still_watch a b g count f net v sided i =
    let old = edges_of a.rows.items in
    let new = edges_of b.rows.items in
    ((still_listed old new g.rows f (row_of net v count) i.0.0, λ e. still_listed old new g.rows f net (i.0.1 e)), still_noted a.compared.items b.compared.items g.notes net i.1)

-- what a code hears of is listed still
pub code_still : (origins : List (Option ℕ)) (a b : Edges) (w : Watches) (c d : Edges) (x : Watches) (count : ℕ) (p : NetPosition) (f : ℕ) (y : Code) → Grows a c → Grows b d → WatchesGrow w x → IsHeard origins a b w count p f y → IsHeard origins c d x count p f y
code_still origins a b w c d x count p f y nets arrays watches h =
    code_hears (λ k. IsListed a f (origin_at origins (p.nets + k))) (λ k. IsListed c f (origin_at origins (p.nets + k))) (λ k. IsListed b f (p.arrays + k)) (λ k. IsListed d f (p.arrays + k))
    (λ k v sided. IsWatch w count f (origin_at origins (p.nets + k)) v sided) (λ k v sided. IsWatch x count f (origin_at origins (p.nets + k)) v sided)
    (λ k i. still_listed a c nets f (origin_at origins (p.nets + k)) i) (λ k i. still_listed b d arrays f (p.arrays + k) i) (λ k. still_watch w x watches count f (origin_at origins (p.nets + k))) y h

-- and what a net hears of
pub net_still : (n : Nets) (origins : List (Option ℕ)) (a b : Edges) (w : Watches) (c d : Edges) (x : Watches) (count f : ℕ) → Grows a c → Grows b d → WatchesGrow w x → IsFound n origins a b w count f → IsFound n origins c d x count f
net_still n origins a b w c d x count f nets arrays watches h =
    net_hears n (λ g. IsListed a f (origin_at origins g)) (λ g. IsListed c f (origin_at origins g)) (IsListed b f) (IsListed d f)
    (λ g v sided. IsWatch w count f (origin_at origins g) v sided) (λ g v sided. IsWatch x count f (origin_at origins g) v sided)
    (λ k i. still_listed a c nets f (origin_at origins k) i) (λ k i. still_listed b d arrays f k i) (λ k. still_watch w x watches count f (origin_at origins k)) f h

-- the same of one net more, which is found where it carries no other's value
pub found_own : (n : Nets) (table origins : List (Option ℕ)) → table ≡ origins → (a b : Edges) (w : Watches) (count net f : ℕ) → net ≡ f
    → (origin_at table net ≡ net → IsFound n table a b w count net) → origin_at origins f ≡ f → IsFound n origins a b w count f
found_own n table origins same a b w count net f is found own =
    subst (λ (h : ℕ). IsFound n origins a b w count h) is
    (subst (λ (os : List (Option ℕ)). IsFound n os a b w count net) same
    (found (subst (λ (os : List (Option ℕ)). origin_at os net ≡ net) (sym same) (subst (λ (h : ℕ). origin_at origins h ≡ h) (sym is) own))))

-- one code behind another
module _ (origins : List (Option ℕ)) (a b : Edges) (w : Watches) (c d : Edges) (x : Watches) (e g : Edges) (z : Watches) (count : ℕ) (p : NetPosition) (f : ℕ) (y y' : Code)
    (first : ListsCode origins a b w c d x count p f y) (then_ : ListsCode origins c d x e g z count p f y') where
  pub first_still : IsHeard origins e g z count p f y
  first_still = code_still origins c d x e g z count p f y then_.nets then_.arrays then_.watches first.listed

  -- of what two codes hear of, where the whole hears of what they do
  pub both_listed : (whole : Code) → (IsHeard origins e g z count p f y → IsHeard origins e g z count p f y' → IsHeard origins e g z count p f whole) → ListsCode origins a b w e g z count p f whole
  both_listed whole h = record {
    nets = grows_more a c e first.nets then_.nets;
    arrays = grows_more b d g first.arrays then_.arrays;
    watches = watches_more w x z first.watches then_.watches;
    listed = h first_still then_.listed;
  }

-- three codes, one behind another
pub three_listed : (origins : List (Option ℕ)) (a b : Edges) (w : Watches) (c d : Edges) (x : Watches) (e g : Edges) (z : Watches) (h i : Edges) (j : Watches) (count : ℕ) (p : NetPosition) (f : ℕ) (k l m whole : Code) → ListsCode origins a b w c d x count p f k → ListsCode origins c d x e g z count p f l → ListsCode origins e g z h i j count p f m
    → (IsHeard origins h i j count p f k → IsHeard origins h i j count p f l → IsHeard origins h i j count p f m → IsHeard origins h i j count p f whole) → ListsCode origins a b w h i j count p f whole
three_listed origins a b w c d x e g z h i j count p f k l m whole one two three join = record {
  nets = grows_more a e h (grows_more a c e one.nets two.nets) three.nets;
  arrays = grows_more b g i (grows_more b d g one.arrays two.arrays) three.arrays;
  watches = watches_more w z j (watches_more w x z one.watches two.watches) three.watches;
  listed = join (code_still origins e g z h i j count p f k three.nets three.arrays three.watches (code_still origins c d x e g z count p f k two.nets two.arrays two.watches one.listed))
      (code_still origins e g z h i j count p f l three.nets three.arrays three.watches two.listed) three.listed;
}

pub ranks_more : (order ranks : List ℕ) (k net : ℕ) → HaveRanks order ranks k → slice_get order k ≡ Some net → net < length ranks → rank_at ranks net ≡ k → HaveRanks order ranks (k + 1)
ranks_more order ranks k net have at lt is j f below there = ⊎_elim
    (λ l. have j f l there)
    (λ l.
    let place : j ≡ k = omega (arith, below, l) in
    let same : net ≡ f = same_Some net f (sym at ∙ ap (slice_get order) (sym place) ∙ there) in
    (subst (λ g. g < length ranks) same lt, sym (ap (rank_at ranks) same) ∙ is ∙ sym place)) (cases_lt j k)

pub ranked_by : (n : Nets) (order ranks : List ℕ) → length order ≡ length n.drivers.items → length ranks ≡ length n.drivers.items → AreBehind n order ranks (length n.drivers.items)
    → HaveRanks order ranks (length order) → IsRanked n order ranks
ranked_by n order ranks long ranks_long are have = record {
  long = long;
  ranks_long = ranks_long;
  placed = are.placed;
  back = λ k f at. let r = have k f (slice_get_within order k f at) at in (subst (λ c. f < c) ranks_long r.0, r.1);
  lower = are.lower;
}
