-- Nets are computed again in the order of their ranks.
use Rattle.std.proofs.Common.{◌≡◌, ◌≢◌, ℕ, ◌+◌, ◌*◌, ◌%◌, ◌<◌, ◌≤◌, ⊎_elim, Bool, true, false, List, Some, nat_eq, length, set, get_or, slice_get, option_map, refl, ap, sym, ◌∙◌, subst, arith}
use Rattle.std.proofs.lemmas.Bool.{cases_eq}
use Rattle.std.proofs.lemmas.List.{length-set, length-map, get_or-set_same, get_or-set_other}
use Rattle.std.proofs.lemmas.Nat.{mod_below}
use Rattle.std.proofs.lemmas.Option.{same_Some, slice_get-get_or}
use Rattle.cx_text.specs.Members.{In}
use Rattle.cx_bits.specs.BitVector.{BitVector}
use Rattle.cx_vtree.specs.declared.operators.Operator.{Operator}
use Rattle.cx_vtree.specs.Operators.{operate}
use Rattle.cx_graphs.specs.Graphs.{edges_of, targets_of}
use Rattle.cx_vnets.specs.declared.nets.Nets.{Nets}
use Rattle.cx_vnets.specs.declared.nets.Stored.{Stored}
use Rattle.cx_vnets.specs.declared.readers.Readers.{Readers}
use Rattle.cx_vnets.specs.Arrays.{word_at}
use Rattle.cx_vnets.specs.Fits.{Fits, width_at}
use Rattle.cx_vnets.specs.Carriers.{AreAlike, AreGiven, CarriersStand, origin_at}
use Rattle.cx_vnets.specs.Gates.{IsShut, ZerosStand}
use Rattle.cx_vnets.specs.Readers.{IsListed, IsWatch, IsRanked, ReadersStand, Agrees, Sweeping, HearsNot}
use Rattle.cx_vnets.specs.Search.{SameWidths}
use Rattle.cx_vnets.specs.Stale.{is_stale, rank_at, HasPlace, Tells, SameBelow}
use Rattle.cx_vnets.specs.Values.{rule}
use Rattle.cx_vnets.proofs.CarrierLemmas.{alike_given, carried_agrees, origin_low, origin_own, origin_width, other_is_own, wide_given}
use Rattle.cx_vnets.proofs.DriveLemmas.{rule_width}
use Rattle.cx_vnets.proofs.GateLemmas.{shut_same, shut_or_not}
use Rattle.cx_vnets.proofs.RankLemmas.{has_place}
use Rattle.cx_vnets.specs.Watches.{is_sided, row_of}
use Rattle.cx_vnets.proofs.WatchLemmas.{net_hears, net_low, rule_alike, tests_same}
use Rattle.cx_vnets.proofs.WholeLooks.{same_length}

module _ (n : Nets) (s : Stored) (fits : Fits n s) (order : List ℕ) (t : Readers) (stand : ReadersStand n order t) (is : t.ranked ≡ true) (net rank : ℕ)
    (within : net < length n.drivers.items) (place : rank_at t.ranks.items net ≡ rank) (stale : List ℕ) (values : List BitVector) (w : Sweeping n s t stale values rank) where
  abbrev ranks : List ℕ
  ranks = t.ranks.items

  ranked : IsRanked n order ranks
  ranked = stand.ranked is

  carriers : CarriersStand n ranks t.carriers
  carriers = stand.carriers is

  abbrev origin : ℕ → ℕ
  origin f = origin_at t.carriers.origins.items f

  placed : (f : ℕ) → f < length n.drivers.items → HasPlace ranks stale f
  placed = has_place n order ranks stale ranked w.long

  pub rank_below : rank < length stale
  rank_below = subst (λ k. k < length stale) place (placed net within).1

  pub net_values : net < length values
  net_values = subst (λ k. net < k) (fits.long ∙ sym (same_length values s.nets.items w.widths)) within

  -- a net that is given another value than it has carries no other's
  pub net_own : (old v : BitVector) → slice_get values net ≡ Some old → rule n s (slice_get values) net ≡ Some v → old ≢ v → origin_at t.carriers.origins.items net ≡ net
  net_own old v = other_is_own n ranks t.carriers carriers s values w.alike net old v within

  pub net_rows : length t.of_nets.items ≡ length n.drivers.items
  net_rows = sym (length-map t.of_nets.items (λ list. list.items)) ∙ stand.rows

  pub watch_rows : length t.watches.rows.items ≡ length n.drivers.items
  watch_rows = sym (length-map t.watches.rows.items (λ list. list.items)) ∙ stand.watch_rows

  of_rank : (f : ℕ) → f < length n.drivers.items → rank_at ranks f ≡ rank → f ≡ net
  of_rank f lt e = same_Some f net (sym (ranked.placed f lt) ∙ ap (slice_get order) (e ∙ sym place) ∙ ranked.placed net within)

  abbrev cleared : List ℕ
  cleared = set stale rank 0

  cleared_other : (j : ℕ) → j ≢ rank → is_stale cleared j ≡ is_stale stale j
  cleared_other j ne = ap (λ b. nat_eq b 1) (get_or-set_other stale rank j 0 0 ne)

  cleared_long : length cleared ≡ length n.drivers.items
  cleared_long = length-set stale rank 0 ∙ w.long

  cleared_behind : (j : ℕ) → j < rank + 1 → is_stale cleared j ≡ false
  cleared_behind j lt = ⊎_elim
      (λ e. ap (is_stale cleared) e ∙ ap (λ b. nat_eq b 1) (get_or-set_same stale rank 0 0 rank_below))
      (λ ne. cleared_other j ne ∙ w.behind j (omega (arith, lt, ne))) (cases_eq j rank)

  pub refreshed_same : (v : BitVector) → rule n s (slice_get values) net ≡ Some v → get_or values net v ≡ v → Sweeping n s t cleared values (rank + 1)
  refreshed_same v e same = record {
    long = cleared_long;
    widths = w.widths;
    agree = λ f lt free. ⊎_elim
        (λ at. let one = of_rank f lt at in subst (Agrees n s values) (sym one) (e ∙ ap Some (sym same) ∙ sym (slice_get-get_or values net v net_values)))
        (λ ne. w.agree f lt (sym (cleared_other (rank_at ranks f) ne) ∙ free)) (cases_eq (rank_at ranks f) rank);
    alike = w.alike;
    behind = cleared_behind;
  }

  module _ (v : BitVector) (given : rule n s (slice_get values) net ≡ Some v) (old : BitVector) (had : slice_get values net ≡ Some old) (own : origin_at t.carriers.origins.items net ≡ net)
      (after : List BitVector) (gives : AreGiven t.carriers.origins.items net v values after) (nonzero : List ℕ) (stand_zeros : ZerosStand t.carriers.origins.items nonzero after) (marks : List ℕ)
      (tells : Tells ranks cleared marks (λ f. rank + 1 ≤ rank_at ranks f → HearsNot t nonzero (length n.drivers.items) net old v f)) (below : SameBelow (rank + 1) cleared marks) where
    values_long : length values ≡ length n.drivers.items
    values_long = same_length values s.nets.items w.widths ∙ sym fits.long

    alike_after : AreAlike t.carriers.origins.items after
    alike_after f = alike_given n ranks t.carriers carriers net v values after gives values_long net_values own f (λ ne. w.alike f)

    slice_other : (g : ℕ) → origin g ≢ net → slice_get after g ≡ slice_get values g
    slice_other = gives.others

    has_now : slice_get after net ≡ Some v
    has_now = gives.here net net_values own

    -- what a net is compared with, where it is neither what it was nor what it is
    watched : (g : ℕ) (b : BitVector) (sided : Bool) → (origin g ≡ net → (old.value ≢ b.value) × (v.value ≢ b.value) × (sided ≡ true → v.value ≡ old.value + 1)) → (op : Operator) → is_sided op ≡ Some sided
        → option_map (λ x. operate op x b) (slice_get after g) ≡ option_map (λ x. operate op x b) (slice_get values g)
    watched g b sided differ op tells_side = ⊎_elim
        (λ is. let d = differ is in
        ap (option_map (λ x. operate op x b)) (alike_after g ∙ ap (slice_get after) is ∙ has_now)
        ∙ ap Some (tests_same op sided v old b tells_side d.1 d.0 d.2) ∙ sym (ap (option_map (λ x. operate op x b)) (w.alike g ∙ ap (slice_get values) is ∙ had)))
        (λ ne. ap (option_map (λ x. operate op x b)) (slice_other g ne)) (cases_eq (origin g) net)

    -- a net keeps its value where it hears nothing of the change: itself it does not hear, and the nets that hear it are marked
    unread : (f : ℕ) → f < length n.drivers.items → origin f ≡ f → ((g : ℕ) → rank_at ranks g < rank_at ranks f → IsListed (edges_of t.of_nets.items) f (origin g) → origin g ≢ net)
        → ((g : ℕ) (b : BitVector) (sided : Bool) → rank_at ranks g < rank_at ranks f → IsWatch t.watches (length n.drivers.items) f (origin g) b sided
        → origin g ≡ net → (old.value ≢ b.value) × (v.value ≢ b.value) × (sided ≡ true → v.value ≡ old.value + 1))
        → rule n s (slice_get after) f ≡ rule n s (slice_get values) f
    unread f lt own_f apart differ =
        rule_alike n s s (slice_get after) (slice_get values) f refl
        (net_hears n (λ g. (rank_at ranks g < rank_at ranks f) × IsListed (edges_of t.of_nets.items) f (origin g)) (λ g. slice_get after g ≡ slice_get values g)
        (IsListed (edges_of t.of_arrays.items) f) (λ a. (i : ℕ) → word_at s.arrays.items a i ≡ word_at s.arrays.items a i)
        (λ g b sided. (rank_at ranks g < rank_at ranks f) × IsWatch t.watches (length n.drivers.items) f (origin g) b sided)
        (λ g b sided. (op : Operator) → is_sided op ≡ Some sided → option_map (λ x. operate op x b) (slice_get after g) ≡ option_map (λ x. operate op x b) (slice_get values g))
        (λ g h. slice_other g (apart g h.0 h.1)) (λ a h i. refl) (λ g b sided h. watched g b sided (differ g b sided h.0 h.1)) f
        (net_low n (λ g. rank_at ranks g < rank_at ranks f) (λ g. IsListed (edges_of t.of_nets.items) f (origin g)) (IsListed (edges_of t.of_arrays.items) f)
        (λ g b sided. IsWatch t.watches (length n.drivers.items) f (origin g) b sided) f (ranked.lower f lt) (stand.found f lt own_f)))

    -- a net of which the net that changed is the origin has no lower rank than this
    low_origin : (g : ℕ) → origin g ≡ net → rank_at ranks net ≤ rank_at ranks g
    low_origin g same = subst (λ h. rank_at ranks h ≤ rank_at ranks g) same (origin_low n ranks t.carriers carriers g)

    agree_here : Agrees n s after net
    agree_here =
        unread net within own (λ g l i same. let e = low_origin g same in absurd (omega (arith, l, e)))
        (λ g b sided l i same. let e = low_origin g same in absurd (omega (arith, l, e)))
        ∙ given ∙ sym has_now

    -- a net that watches for a value stands in the row of that value
    in_row : (f : ℕ) (b x : BitVector) → x.value ≡ b.value → IsListed (edges_of t.watches.rows.items) f (row_of net b (length n.drivers.items))
        → In (targets_of (edges_of t.watches.rows.items) (row_of net x (length n.drivers.items))) f
    in_row f b x e row =
        let low : row_of net b (length n.drivers.items) < length n.drivers.items = mod_below (net % 4294967296 * 40503 + b.value % 4294967296) (length n.drivers.items) (omega (arith, within)) in
        subst (λ k. In (targets_of (edges_of t.watches.rows.items) k) f)
        (ap (λ y. (net % 4294967296 * 40503 + y % 4294967296) % length n.drivers.items) (sym e)) (row (subst (λ k. row_of net b (length n.drivers.items) < k) (sym stand.watch_rows) low))

    -- a net without a mark that is not shut
    unread_there : (f : ℕ) → f < length n.drivers.items → origin f ≡ f → (rank + 1 ≤ rank_at ranks f → HearsNot t nonzero (length n.drivers.items) net old v f) → (IsShut t.gates.items nonzero net f → ⊥)
        → rule n s (slice_get after) f ≡ rule n s (slice_get values) f
    unread_there f lt own_f hears_not unshut =
        unread f lt own_f
        (λ g l i same.
        let low = low_origin g same in
        let row = subst (λ h. IsListed (edges_of t.of_nets.items) f h) same i in
        unshut ((hears_not (omega (arith, low, l, place))).reads (row (subst (λ k. net < k) (sym stand.rows) within))))
        (λ g b sided l i same.
        let low = low_origin g same in
        let row = subst (λ h. IsWatch t.watches (length n.drivers.items) f h b sided) same i in
        let none = (hears_not (omega (arith, low, l, place))).compares (row.1 (subst (λ k. net < k) (sym stand.notes) within)) in
        (λ e. none.lost (in_row f b old e row.0.0), λ e. none.won (in_row f b v e row.0.0), λ e. none.next (row.0.1 e (subst (λ k. net < k) (sym stand.watch_rows) within))))

    wide_after : SameWidths after s.nets.items
    wide_after f =
        wide_given n ranks t.carriers carriers net v values after gives values_long net_values
        (λ g e. w.widths g ∙ origin_width n ranks t.carriers carriers s fits g ∙ ap (width_at s.nets.items) e ∙ sym (w.widths net) ∙ rule_width n s fits values w.widths net v within given) f
        ∙ w.widths f

    -- the gate of a net carries no other's value
    gate_own : (f gate : ℕ) → slice_get t.gates.items f ≡ Some (Some gate) → origin gate ≡ gate
    gate_own f gate has =
        let h = stand.gates f gate has in
        sym (ap origin h.there) ∙ origin_own n ranks t.carriers carriers (h.place.nets + h.local) ∙ h.there

    agree_there : (f : ℕ) → f < length n.drivers.items → origin f ≡ f → rank_at ranks f ≢ rank → is_stale marks (rank_at ranks f) ≡ false → Agrees n s after f
    agree_there f lt own_f ne free =
        let was = tells.kept (rank_at ranks f) free in
        let was_right = w.agree f lt (sym (cleared_other (rank_at ranks f) ne) ∙ was) in
        let place' = placed f lt in
        let hears_not = tells.stays f (place'.0, subst (λ k. rank_at ranks f < k) (sym (length-set stale rank 0)) place'.1) free in
        let other : origin f ≢ net = λ e. ne (ap (rank_at ranks) (sym own_f ∙ e) ∙ place) in
        let same_rule : rule n s (slice_get after) f ≡ rule n s (slice_get values) f = ⊎_elim
        (λ shut.
        let gate_is = gate_own f shut.gate shut.has in
        let z = stand_zeros shut.gate gate_is shut.known in
        let apart : origin shut.gate ≢ net = λ e. shut.other (sym gate_is ∙ e) in
        shut_same n s fits t.carriers.origins.items f shut.gate lt (stand.gates f shut.gate shut.has) after values alike_after w.alike wide_after w.widths z.value z.zero z.stands
        (sym (slice_other shut.gate apart) ∙ z.stands))
        (λ unshut. unread_there f lt own_f hears_not unshut) (shut_or_not t.gates.items nonzero net f) in
        same_rule ∙ was_right ∙ sym (slice_other f other)

    pub refreshed : Sweeping n s t marks after (rank + 1)
    refreshed = record {
      long = tells.long ∙ cleared_long;
      widths = wide_after;
      agree = λ f lt free. ⊎_elim
          (λ own_f. ⊎_elim
          (λ at. subst (Agrees n s after) (sym (of_rank f lt at)) agree_here)
          (λ ne. agree_there f lt own_f ne free) (cases_eq (rank_at ranks f) rank))
          (λ carried. carried_agrees n ranks t.carriers carriers s after alike_after f lt carried) (cases_eq (origin f) f);
      alike = alike_after;
      behind = λ j lt. below j lt ∙ cleared_behind j lt;
    }
