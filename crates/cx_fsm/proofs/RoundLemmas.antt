-- Rounds that mark what is reached, and raise what stands too low, come to what is reached and to the heights.
use Rattle.std.proofs.Common.{◌≡◌, ℕ, zero, suc, ◌+◌, ◌-◌, ◌<◌, ◌≤◌, ◌||◌, ◌&&◌, Bool, true, false, nat_eq, max, List, [], ◌∷◌, ◌++◌, length, map, flat_map, get_or, slice_get, refl, sym, ap, ap₂, ◌∙◌, subst, arith, true≢false, eqb-true, eq-eqb, ⊎_elim}
use Rattle.std.proofs.lemmas.Bool.{or_cases, or_left, or_right, and_parts, and_from}
use Rattle.std.proofs.lemmas.List.Concat.{flat_map_single}
use Rattle.std.proofs.lemmas.List.{map-id, length-map}
use Rattle.cx_prim.specs.Table.{PrimitiveRow}
use Rattle.cx_meaning.specs.Designs.{OfPrimitive, OfComponent, PlainCell}
use Rattle.cx_static.specs.Islands.{PlainLowered, PlainLowereds}
use Rattle.cx_static.specs.PlainLowered.{plain_lowered, plain_lowereds}
use Rattle.cx_static.specs.declared.lowered.Lowered.{Lowered}
use Rattle.cx_static.specs.declared.lowered.LoweredComponent.{LoweredComponent}
use Rattle.cx_wiring.specs.Reached.{component_of_kind, components_of, cells_at, has_number, below, reached_from, highest, height_of, count, height}
use Rattle.cx_wiring.proofs.MainLaws.{height_few}
use Rattle.cx_fsm.specs.Rounds.{below_marked, IsSpread, MarksReached, height_above, raised, HasHeights}
use Rattle.cx_text.proofs.BoolLaws.{or_assoc, bools_same}

has_append : (k : ℕ) (xs ys : List ℕ) → has_number k (xs ++ ys) ≡ (has_number k xs || has_number k ys)
has_append k [] ys = refl
has_append k (x ∷ xs) ys = ap (λ b. nat_eq k x || b) (has_append k xs ys) ∙ sym (or_assoc (nat_eq k x) (has_number k xs) (has_number k ys))

module _ (d : PlainLowereds) where
  -- a component is among those of the cells of one of these
  abbrev below_some : List ℕ → ℕ → Bool
  below_some [] k = false
  below_some (c ∷ cs) k = has_number k (below d c) || below_some cs k

  some_append : (k : ℕ) (xs ys : List ℕ) → below_some (xs ++ ys) k ≡ (below_some xs k || below_some ys k)
  some_append k [] ys = refl
  some_append k (x ∷ xs) ys = ap (λ b. has_number k (below d x) || b) (some_append k xs ys) ∙ sym (or_assoc (has_number k (below d x)) (below_some xs k) (below_some ys k))

  -- each component reaches itself
  reaches_itself : (l k : ℕ) → has_number k (reached_from d l k) ≡ true
  reaches_itself zero k = or_left (nat_eq k k) false (eq-eqb k k refl)
  reaches_itself (suc l) k = or_left (nat_eq k k) (has_number k (flat_map (reached_from d l) (below d k))) (eq-eqb k k refl)

  reached_by : (l k : ℕ) (cs : List ℕ) → has_number k cs ≡ true → has_number k (flat_map (reached_from d l) cs) ≡ true
  reached_by l k [] h = h
  reached_by l k (c ∷ cs) h =
      has_append k (reached_from d l c) (flat_map (reached_from d l) cs)
      ∙ ⊎_elim
      (λ e. or_left (has_number k (reached_from d l c)) (has_number k (flat_map (reached_from d l) cs)) (subst (λ n. has_number k (reached_from d l n) ≡ true) (eqb-true k c e) (reaches_itself l k)))
      (λ i. or_right (has_number k (reached_from d l c)) (has_number k (flat_map (reached_from d l) cs)) (reached_by l k cs i))
      (or_cases (nat_eq k c) (has_number k cs) h)

  -- a level more
  abbrev OneMore : ℕ → ℕ → ℕ → Type 0
  OneMore l k m = has_number k (reached_from d (suc l) m) ≡ (has_number k (reached_from d l m) || below_some (reached_from d l m) k)

  regrouped : (p q r s : Bool) → ((p || q) || (r || s)) ≡ ((p || r) || (q || s))
  regrouped true q r s = refl
  regrouped false true true s = refl
  regrouped false true false s = refl
  regrouped false false r s = refl

  more_of_all : (l k : ℕ) → ((m : ℕ) → OneMore l k m) → (cs : List ℕ)
      → has_number k (flat_map (reached_from d (suc l)) cs) ≡ (has_number k (flat_map (reached_from d l) cs) || below_some (flat_map (reached_from d l) cs) k)
  more_of_all l k h [] = refl
  more_of_all l k h (c ∷ cs) =
      has_append k (reached_from d (suc l) c) (flat_map (reached_from d (suc l)) cs)
      ∙ ap₂ (λ a b. a || b) (h c) (more_of_all l k h cs)
      ∙ regrouped (has_number k (reached_from d l c)) (below_some (reached_from d l c) k) (has_number k (flat_map (reached_from d l) cs)) (below_some (flat_map (reached_from d l) cs) k)
      ∙ ap₂ (λ a b. a || b) (sym (has_append k (reached_from d l c) (flat_map (reached_from d l) cs))) (sym (some_append k (reached_from d l c) (flat_map (reached_from d l) cs)))

  absorbed : (e p q h : Bool) → (h ≡ true → p ≡ true) → (e || (p || q)) ≡ ((e || p) || (h || q))
  absorbed true p q h f = refl
  absorbed false true q h f = refl
  absorbed false false q true f = absurd (true≢false (sym (f refl)))
  absorbed false false q false f = refl

  one_more : (l k m : ℕ) → OneMore l k m
  one_more zero k m =
      ap (λ cs. nat_eq k m || has_number k cs) (flat_map_single (λ c. c) (below d m) ∙ map-id (below d m))
      ∙ singles (nat_eq k m) (has_number k (below d m))
    where
      singles : (a b : Bool) → (a || b) ≡ ((a || false) || (b || false))
      singles true b = refl
      singles false true = refl
      singles false false = refl
  one_more (suc l) k m =
      ap (λ b. nat_eq k m || b) (more_of_all l k (one_more l k) (below d m))
      ∙ absorbed (nat_eq k m) (has_number k (flat_map (reached_from d l) (below d m))) (below_some (flat_map (reached_from d l) (below d m)) k) (has_number k (below d m)) (reached_by l k (below d m))

  -- what is below one of them is below some
  some_from : (k c : ℕ) (cs : List ℕ) → has_number c cs ≡ true → has_number k (below d c) ≡ true → below_some cs k ≡ true
  some_from k c [] i h = i
  some_from k c (e ∷ cs) i h =
      ⊎_elim
      (λ same. or_left (has_number k (below d e)) (below_some cs k) (subst (λ n. has_number k (below d n) ≡ true) (eqb-true c e same) h))
      (λ later. or_right (has_number k (below d e)) (below_some cs k) (some_from k c cs later h))
      (or_cases (nat_eq c e) (has_number c cs) i)

  some_is : (k : ℕ) (cs : List ℕ) → below_some cs k ≡ true → (c : ℕ) × (has_number c cs ≡ true) × (has_number k (below d c) ≡ true)
  some_is k [] h = absurd (true≢false (sym h))
  some_is k (e ∷ cs) h =
      ⊎_elim
      (λ here. (e, or_left (nat_eq e e) (has_number e cs) (eq-eqb e e refl), here))
      (λ later. let r = some_is k cs later in (r.0, or_right (nat_eq r.0 e) (has_number r.0 cs) r.1, r.2))
      (or_cases (has_number k (below d e)) (below_some cs k) h)

  marked_from : (k : ℕ) (marks : List Bool) (n i : ℕ) → get_or marks i false ≡ true → has_number k (below d (n + i)) ≡ true → below_marked d n marks k ≡ true
  marked_from k [] n i g h = g
  marked_from k (m ∷ marks) n zero g h =
      let at : n + 0 ≡ n = omega arith in
      or_left (m && has_number k (below d n)) (below_marked d (suc n) marks k) (and_from m (has_number k (below d n)) g (subst (λ c. has_number k (below d c) ≡ true) at h))
  marked_from k (m ∷ marks) n (suc i) g h =
      let at : n + suc i ≡ suc n + i = omega arith in
      or_right (m && has_number k (below d n)) (below_marked d (suc n) marks k) (marked_from k marks (suc n) i g (subst (λ c. has_number k (below d c) ≡ true) at h))

  marked_is : (k : ℕ) (marks : List Bool) (n : ℕ) → below_marked d n marks k ≡ true
      → (i : ℕ) × (i < length marks) × (get_or marks i false ≡ true) × (has_number k (below d (n + i)) ≡ true)
  marked_is k [] n h = absurd (true≢false (sym h))
  marked_is k (m ∷ marks) n h =
      ⊎_elim
      (λ here. let both = and_parts m (has_number k (below d n)) here in let at : n ≡ n + 0 = omega arith in
      (0, omega arith, both.0, subst (λ c. has_number k (below d c) ≡ true) at both.1))
      (λ later. let r = marked_is k marks (suc n) later in let at : suc n + r.0 ≡ n + suc r.0 = omega arith in let within : r.0 < length marks = r.1 in
      (suc r.0, omega arith, r.2, subst (λ c. has_number k (below d c) ≡ true) at r.3))
      (or_cases (m && has_number k (below d n)) (below_marked d (suc n) marks k) h)

  few_below : (parts : List PlainLowered) (k c : ℕ) → has_number k (components_of (cells_at (slice_get parts c))) ≡ true → c < length parts
  few_below [] k c h = absurd (true≢false (sym h))
  few_below (p ∷ parts) k zero h = omega arith
  few_below (p ∷ parts) k (suc c) h = let within : c < length parts = few_below parts k c h in omega arith

  module _ (levels : ℕ) (marks : List Bool) (reached : MarksReached d levels marks) where
    below_is : (k : ℕ) → below_marked d 0 marks k ≡ below_some (reached_from d levels d.main) k
    below_is k =
        bools_same (below_marked d 0 marks k) (below_some (reached_from d levels d.main) k)
        (λ h. let r = marked_is k marks 0 h in
        let at : 0 + r.0 ≡ r.0 = omega arith in
        let all : length marks ≡ count d = reached.all in
        let within : r.0 < length marks = r.1 in
        let there : r.0 < count d = omega arith in
        some_from k r.0 (reached_from d levels d.main) (sym (reached.right r.0 there) ∙ r.2) (subst (λ c. has_number k (below d c) ≡ true) at r.3))
        (λ h. let r = some_is k (reached_from d levels d.main) h in
        let at : r.0 ≡ 0 + r.0 = omega arith in
        marked_from k marks 0 r.0 (reached.right r.0 (few_below d.components k r.0 r.2) ∙ r.1) (subst (λ c. has_number k (below d c) ≡ true) at r.2))

    -- a round marks one level more
    pub spread_more : (further : List Bool) → IsSpread d marks further → MarksReached d (suc levels) further
    spread_more further s = record {
      all = s.count ∙ reached.all;
      right = λ k within.
          let all : length marks ≡ count d = reached.all in
          let here : k < length marks = omega arith in
          s.right k here ∙ ap₂ (λ a b. a || b) (reached.right k within) (below_is k) ∙ sym (one_more levels k d.main);
    }

  -- where a round marks nothing, none does
  spread_stays : (levels : ℕ) (marks : List Bool) → MarksReached d levels marks → IsSpread d marks marks → (n : ℕ) → MarksReached d (n + levels) marks
  spread_stays levels marks reached s zero = let at : levels ≡ 0 + levels = omega arith in subst (λ l. MarksReached d l marks) at reached
  spread_stays levels marks reached s (suc n) =
      let at : suc (n + levels) ≡ suc n + levels = omega arith in
      subst (λ l. MarksReached d l marks) at (spread_more (n + levels) marks (spread_stays levels marks reached s n) marks s)

  -- HEIGHTS
  same_highest : (f g : ℕ → ℕ) → ((c : ℕ) → f c ≡ g c) → (cs : List ℕ) → highest d (map (λ c. suc (f c)) cs) ≡ highest d (map (λ c. suc (g c)) cs)
  same_highest f g h [] = refl
  same_highest f g h (c ∷ cs) = ap₂ (λ a b. max (suc a) b) (h c) (same_highest f g h cs)

  raised_at : (heights : List ℕ) (parts : List PlainLowered) (k : ℕ)
      → get_or (map (λ c. height_above d heights c.part.cells) parts) k 0 ≡ height_above d heights (cells_at (slice_get parts k))
  raised_at heights [] k = refl
  raised_at heights (p ∷ parts) zero = refl
  raised_at heights (p ∷ parts) (suc k) = raised_at heights parts k

  -- a round tells one level more
  pub raised_more : (levels : ℕ) (heights higher : List ℕ) → HasHeights d levels heights → higher ≡ raised d heights → HasHeights d (suc levels) higher
  raised_more levels heights higher h e = record {
    right = λ k.
        ap (λ l. get_or l k 0) e ∙ raised_at heights d.components k ∙ same_highest (λ c. get_or heights c 0) (height_of d levels) h.right (below d k);
  }

  -- where a round raises nothing, none does
  raised_stays : (levels : ℕ) (heights : List ℕ) → HasHeights d levels heights → heights ≡ raised d heights → (n : ℕ) → HasHeights d (n + levels) heights
  raised_stays levels heights h e zero = let at : levels ≡ 0 + levels = omega arith in subst (λ l. HasHeights d l heights) at h
  raised_stays levels heights h e (suc n) =
      let at : suc (n + levels) ≡ suc n + levels = omega arith in
      subst (λ l. HasHeights d l heights) at (raised_more (n + levels) heights heights (raised_stays levels heights h e n) e)

  -- heights that many levels tell are no higher than few levels tell that tell the same
  heights_within : (levels : ℕ) (heights : List ℕ) → HasHeights d levels heights → HasHeights d (count d) heights → (k : ℕ) → height d k ≤ levels
  heights_within levels heights few all k =
      let same : height_of d levels k ≡ height d k = sym (few.right k) ∙ all.right k in
      let within : height_of d levels k ≤ levels = height_few d levels k in
      omega arith

  -- the height above one cell more
  pub above_part : (heights : List ℕ) (now next k whole : ℕ) (cell : PlainCell) (rest : List PlainCell) → cell.kind ≡ OfComponent k → next ≡ max now (get_or heights k 0 + 1)
      → max now (height_above d heights (cell ∷ rest)) ≡ whole → max next (height_above d heights rest) ≡ whole
  above_part heights now next k whole cell rest is e h =
      let above : height_above d heights (cell ∷ rest) ≡ max (suc (get_or heights k 0)) (height_above d heights rest) =
      ap (λ kind. highest d (map (λ c. suc (get_or heights c 0)) (component_of_kind kind ++ components_of rest))) is in
      omega arith

  pub above_primitive : (heights : List ℕ) (now whole : ℕ) (p : PrimitiveRow) (cell : PlainCell) (rest : List PlainCell) → cell.kind ≡ OfPrimitive p
      → max now (height_above d heights (cell ∷ rest)) ≡ whole → max now (height_above d heights rest) ≡ whole
  above_primitive heights now whole p cell rest is h =
      let above : height_above d heights (cell ∷ rest) ≡ height_above d heights rest =
      ap (λ kind. highest d (map (λ c. suc (get_or heights c 0)) (component_of_kind kind ++ components_of rest))) is in
      omega arith

  -- where a round raises nothing, all levels are told
  pub raised_all : (levels : ℕ) (heights : List ℕ) → HasHeights d levels heights → heights ≡ raised d heights → levels ≤ count d → HasHeights d (count d) heights
  raised_all levels heights h e few =
      let all : (count d - levels) + levels ≡ count d = omega arith in
      subst (λ l. HasHeights d l heights) all (raised_stays levels heights h e (count d - levels))

  pub height_within : (levels : ℕ) (heights : List ℕ) → HasHeights d levels heights → heights ≡ raised d heights → levels ≤ count d → (k : ℕ) → height d k ≤ levels
  height_within levels heights h e few k = heights_within levels heights h (raised_all levels heights h e few) k

  -- where a round marks nothing, all is marked
  pub spread_all : (levels : ℕ) (marks : List Bool) → MarksReached d levels marks → IsSpread d marks marks → levels ≤ count d → MarksReached d (count d) marks
  spread_all levels marks reached s few =
      let all : (count d - levels) + levels ≡ count d = omega arith in
      subst (λ l. MarksReached d l marks) all (spread_stays levels marks reached s (count d - levels))

-- the components of a design are counted
pub counted : (design : Lowered) (parts : List LoweredComponent) → map plain_lowered parts ≡ (plain_lowereds design).components → length parts ≡ count (plain_lowereds design)
counted design parts e = sym (length-map parts plain_lowered) ∙ ap length e
