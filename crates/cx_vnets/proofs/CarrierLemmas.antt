-- Nets that carry the values of others.
use Rattle.std.proofs.Common.{◌≡◌, ◌≢◌, ℕ, zero, suc, ◌+◌, ◌<◌, ◌≤◌, ⊎_elim, List, Option, Some, None, length, set, get_or, slice_get, option_map, unwrap_or, refl, ap, sym, ◌∙◌, subst, arith}
use Rattle.std.proofs.lemmas.Bool.{cases_eq, cases_lt}
use Rattle.std.proofs.lemmas.List.{get_or_past, length-set}
use Rattle.std.proofs.lemmas.Option.{same_Some, slice_get-get_or}
use Rattle.cx_text.specs.Members.{In}
use Rattle.cx_bits.specs.BitVector.{BitVector}
use Rattle.cx_graphs.specs.Graphs.{Edges, targets_of}
use Rattle.cx_vnets.specs.declared.carriers.Carriers.{Carriers}
use Rattle.cx_vnets.specs.declared.nets.Nets.{Nets}
use Rattle.cx_vnets.specs.declared.nets.Stored.{Stored}
use Rattle.cx_vnets.specs.Carriers.{AreAlike, AreGiven, Carries, CarriersStand, CarriesOn, RowsStand, origin_at}
use Rattle.cx_vnets.specs.Fits.{Fits, width_at}
use Rattle.cx_vnets.specs.Readers.{Agrees}
use Rattle.cx_vnets.specs.Search.{SameWidths, no_bits, value_at}
use Rattle.cx_vnets.specs.Stale.{rank_at}
use Rattle.cx_vnets.specs.Values.{rule}
use Rattle.cx_vnets.proofs.DriveLemmas.{rule_width}
use Rattle.cx_text.proofs.ListLaws.{set_other, set_same}

-- what is so of the first numbers and of the next one
pub all_more : (P : ℕ → Type 0) (k : ℕ) → ((f : ℕ) → f < k → P f) → P k → (f : ℕ) → f < k + 1 → P f
all_more P k before here f lt = ⊎_elim
    (λ l. before f l)
    (λ l. let is : k ≡ f = omega (arith, lt, l) in subst P is here) (cases_lt f k)

-- a number below the next one that is another is below
below_other : (x k : ℕ) → x < k + 1 → x ≢ k → x < k
below_other x k lt ne = omega (arith, lt, ne)

-- a net that is in no table is its own origin
pub past_origin : (origins : List (Option ℕ)) (f : ℕ) → length origins ≤ f → origin_at origins f ≡ f
past_origin origins f past = ap (λ o. unwrap_or o f) (get_or_past origins f None past)

-- a net whose origin is another has it in the table
in_table : (origins : List (Option ℕ)) (f net : ℕ) → f < length origins → origin_at origins f ≡ net → f ≢ net → slice_get origins f ≡ Some (Some net)
in_table origins f net lt e ne = go (get_or origins f None) refl
  where
    go : (o : Option ℕ) → get_or origins f None ≡ o → slice_get origins f ≡ Some (Some net)
    go None is = absurd (ne (sym (ap (λ o. unwrap_or o f) is) ∙ e))
    go (Some x) is = slice_get-get_or origins f None lt ∙ ap Some (is ∙ ap Some (sym (ap (λ o. unwrap_or o f) is) ∙ e))

-- a net that has a value has a row
pub row_there : (origins : List (Option ℕ)) (rows : Edges) → RowsStand origins rows → (net : ℕ) (values : List BitVector) → length values ≡ length origins → net < length values → net < length rows
row_there origins rows stand net values long within = let rows_long = stand.long in omega (arith, within, long, rows_long)

-- a value that is given to a net and to its row is given to all that carry it
pub given_by : (origins : List (Option ℕ)) (rows : Edges) → RowsStand origins rows → (net : ℕ) (v : BitVector) (old new : List BitVector) → length old ≡ length origins → net < length old → origin_at origins net ≡ net
    → length new ≡ length (set old net v) → ((f : ℕ) → In (targets_of rows net) f → slice_get new f ≡ Some v) → ((f : ℕ) → slice_get (set old net v) f ≡ Some v → slice_get new f ≡ Some v)
    → ((f : ℕ) → (In (targets_of rows net) f → ⊥) → slice_get new f ≡ slice_get (set old net v) f) → AreGiven origins net v old new
given_by origins rows stand net v old new long within own new_long here kept others =
    let row = row_there origins rows stand net old long within in
    record {
      long = new_long ∙ length-set old net v;
      here = λ f lt e. ⊎_elim
          (λ (same : f ≡ net). kept f (ap (slice_get (set old net v)) same ∙ set_same old net v within))
          (λ (ne : f ≢ net).
          let there : f < length origins = omega (arith, lt, long) in
          here f (stand.listed f net (in_table origins f net there e ne) row)) (cases_eq f net);
      others = λ f ne.
          let apart : f ≢ net = λ e. ne (ap (origin_at origins) e ∙ own) in
          others f (λ i. ne (stand.carried net row f i).1) ∙ set_other old net f v apart;
    }

module _ (n : Nets) (ranks : List ℕ) (t : Carriers) (stand : CarriersStand n ranks t) where
  abbrev origin : ℕ → ℕ
  origin f = origin_at t.origins.items f

  past_here : (f : ℕ) → length n.drivers.items ≤ f → origin f ≡ f
  past_here f past = past_origin t.origins.items f (subst (λ k. k ≤ f) (sym stand.long) past)

  -- the origin of a net is its own origin, has no higher rank, and is there
  top : (bound f : ℕ) → rank_at ranks f < bound → f < length n.drivers.items
      → (origin (origin f) ≡ origin f) × (rank_at ranks (origin f) ≤ rank_at ranks f) × (origin f < length n.drivers.items)
  top zero f low lt = absurd (omega (arith, low))
  top (suc b) f low lt = ⊎_elim
      (λ (own : origin f ≡ f). let e = ap (rank_at ranks) own in (ap origin own, omega (arith, e), subst (λ k. k < length n.drivers.items) (sym own) lt))
      (λ (c : CarriesOn n ranks t.origins.items f).
      let lower = c.lower in
      let r = top b c.source (omega (arith, lower, low)) c.there in
      let below = r.1 in
      let e = ap (rank_at ranks) c.same in
      (ap origin c.same ∙ r.0 ∙ sym c.same, omega (arith, e, below, lower), subst (λ k. k < length n.drivers.items) (sym c.same) r.2)) (stand.origins f lt)

  pub origin_own : (f : ℕ) → origin_at t.origins.items (origin_at t.origins.items f) ≡ origin_at t.origins.items f
  origin_own f = ⊎_elim
      (λ lt. (top (suc (rank_at ranks f)) f (omega arith) lt).0)
      (λ past. ap origin (past_here f past)) (cases_lt f (length n.drivers.items))

  pub origin_low : (f : ℕ) → rank_at ranks (origin_at t.origins.items f) ≤ rank_at ranks f
  origin_low f = ⊎_elim
      (λ lt. (top (suc (rank_at ranks f)) f (omega arith) lt).1)
      (λ past. let e = ap (rank_at ranks) (past_here f past) in omega (arith, e)) (cases_lt f (length n.drivers.items))

  pub origin_there : (f : ℕ) → f < length n.drivers.items → origin_at t.origins.items f < length n.drivers.items
  origin_there f lt = (top (suc (rank_at ranks f)) f (omega arith) lt).2

  -- what has an origin that is there is there
  pub carried_there : (f net : ℕ) → origin_at t.origins.items f ≡ net → net < length n.drivers.items → f < length n.drivers.items
  carried_there f net e within = ⊎_elim
      (λ lt. lt)
      (λ past. let same : f ≡ net = sym (past_here f past) ∙ e in omega (arith, same, within)) (cases_lt f (length n.drivers.items))

  -- where nets have the values of their origins, those that carry another's agree
  pub carried_agrees : (s : Stored) (values : List BitVector) → AreAlike t.origins.items values → (f : ℕ) → f < length n.drivers.items → origin_at t.origins.items f ≢ f → Agrees n s values f
  carried_agrees s values alike f lt ne = ⊎_elim
      (λ own. absurd (ne own))
      (λ (c : CarriesOn n ranks t.origins.items f). c.carries s (slice_get values) ∙ alike c.source ∙ ap (slice_get values) (sym c.same) ∙ sym (alike f)) (stand.origins f lt)

  -- a net that is given another value than it has carries no other's
  pub other_is_own : (s : Stored) (values : List BitVector) → AreAlike t.origins.items values → (net : ℕ) (old v : BitVector) → net < length n.drivers.items → slice_get values net ≡ Some old
      → rule n s (slice_get values) net ≡ Some v → old ≢ v → origin_at t.origins.items net ≡ net
  other_is_own s values alike net old v lt had given differ = ⊎_elim
      (λ own. own)
      (λ carried. absurd (differ (same_Some old v (sym had ∙ sym (carried_agrees s values alike net lt carried) ∙ given)))) (cases_eq (origin net) net)

  module _ (net : ℕ) (v : BitVector) (old new : List BitVector) (given : AreGiven t.origins.items net v old new) (long : length old ≡ length n.drivers.items) (within : net < length old) where
    there : (f : ℕ) → origin f ≡ net → f < length old
    there f e = subst (λ k. f < k) (sym long) (carried_there f net e (subst (λ k. net < k) long within))

    -- nets have the values of their origins still
    pub alike_given : origin_at t.origins.items net ≡ net → (f : ℕ) → (origin_at t.origins.items f ≢ net → slice_get old f ≡ slice_get old (origin_at t.origins.items f))
        → slice_get new f ≡ slice_get new (origin_at t.origins.items f)
    alike_given own f alike = ⊎_elim
        (λ e. given.here f (there f e) e ∙ sym (given.here (origin f) (subst (λ k. k < length old) (sym e) within) (ap origin e ∙ own)))
        (λ ne. given.others f ne ∙ alike ne ∙ sym (given.others (origin f) (λ e. ne (sym (origin_own f) ∙ e)))) (cases_eq (origin f) net)

    -- and all widths stay, where nets have the widths of their origins
    pub wide_given : ((f : ℕ) → origin_at t.origins.items f ≡ net → width_at old f ≡ Some v.width) → SameWidths new old
    wide_given wide f = ⊎_elim
        (λ e. ap (option_map (λ (b : BitVector). b.width)) (given.here f (there f e) e) ∙ sym (wide f e))
        (λ ne. ap (option_map (λ (b : BitVector). b.width)) (given.others f ne)) (cases_eq (origin f) net)

  -- one more net has given its value to those that carry it
  module _ (start old new : List BitVector) (long : length old ≡ length n.drivers.items) (start_wide : (f : ℕ) → width_at start f ≡ width_at start (origin f)) (k : ℕ) (within : k < length old)
      (own : origin k ≡ k → (v : BitVector) × (slice_get old k ≡ Some v) × AreGiven t.origins.items k v old new) (carried : origin k ≢ k → new ≡ old) (widths : SameWidths old start) where
    pub alike_more : ((f : ℕ) → origin_at t.origins.items f < k → slice_get old f ≡ slice_get old (origin_at t.origins.items f))
        → (f : ℕ) → origin_at t.origins.items f < k + 1 → slice_get new f ≡ slice_get new (origin_at t.origins.items f)
    alike_more before f lt = ⊎_elim
        (λ (is : origin k ≡ k).
        let g = own is in
        let earlier : origin_at t.origins.items f ≢ k → slice_get old f ≡ slice_get old (origin_at t.origins.items f) = λ ne. before f (below_other (origin_at t.origins.items f) k lt ne) in
        alike_given k g.0 old new g.2 long within is f earlier)
        (λ (ne : origin k ≢ k).
        let other : origin_at t.origins.items f ≢ k = λ e. ne (ap origin (sym e) ∙ origin_own f ∙ e) in
        let same : slice_get old f ≡ slice_get old (origin_at t.origins.items f) = before f (below_other (origin_at t.origins.items f) k lt other) in
        subst (λ (values : List BitVector). slice_get values f ≡ slice_get values (origin_at t.origins.items f)) (sym (carried ne)) same) (cases_eq (origin k) k)

    pub widths_more : SameWidths new start
    widths_more f = ⊎_elim
        (λ (is : origin k ≡ k).
        let g = own is in
        wide_given k g.0 old new g.2 long within
        (λ h e. widths h ∙ start_wide h ∙ ap (width_at start) e ∙ sym (widths k) ∙ ap (option_map (λ (b : BitVector). b.width)) g.1) f ∙ widths f)
        (λ (ne : origin k ≢ k). ap (λ (values : List BitVector). width_at values f) (carried ne) ∙ widths f) (cases_eq (origin k) k)

  -- and where all have, nets have the values of their origins
  pub alike_all : (values : List BitVector) → ((f : ℕ) → origin_at t.origins.items f < length n.drivers.items → slice_get values f ≡ slice_get values (origin_at t.origins.items f))
      → AreAlike t.origins.items values
  alike_all values alike f = ⊎_elim
      (λ lt. alike f (origin_there f lt))
      (λ past. ap (slice_get values) (sym (past_here f past))) (cases_lt f (length n.drivers.items))

  module _ (s : Stored) (fits : Fits n s) where
    source_width : (f source : ℕ) → f < length n.drivers.items → source < length n.drivers.items → Carries n f source → width_at s.nets.items f ≡ width_at s.nets.items source
    source_width f source lt source_there carries =
        let v = value_at s.nets.items source in
        let at : slice_get s.nets.items source ≡ Some v = slice_get-get_or s.nets.items source no_bits (subst (λ k. source < k) fits.long source_there) in
        rule_width n s fits s.nets.items (λ g. refl) f v lt (carries s (slice_get s.nets.items) ∙ at) ∙ sym (ap (option_map (λ (b : BitVector). b.width)) at)

    wide : (bound f : ℕ) → rank_at ranks f < bound → f < length n.drivers.items → width_at s.nets.items f ≡ width_at s.nets.items (origin f)
    wide zero f low lt = absurd (omega (arith, low))
    wide (suc b) f low lt = ⊎_elim
        (λ own. ap (width_at s.nets.items) (sym own))
        (λ (c : CarriesOn n ranks t.origins.items f).
        let lower = c.lower in
        source_width f c.source lt c.there c.carries ∙ wide b c.source (omega (arith, lower, low)) c.there ∙ ap (width_at s.nets.items) (sym c.same)) (stand.origins f lt)

    -- nets have the widths of their origins
    pub origin_width : (f : ℕ) → width_at s.nets.items f ≡ width_at s.nets.items (origin_at t.origins.items f)
    origin_width f = ⊎_elim
        (λ lt. wide (suc (rank_at ranks f)) f (omega arith) lt)
        (λ past. ap (width_at s.nets.items) (sym (past_here f past))) (cases_lt f (length n.drivers.items))
