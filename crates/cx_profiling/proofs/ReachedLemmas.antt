-- Which components are reached: main, and what it leads to.
use Rattle.std.proofs.Common.{◌≡◌, ℕ, zero, suc, ◌+◌, ◌<◌, ◌≤◌, Bool, true, false, inl, inr, ◌⊎◌, List, [], ◌∷◌, ◌++◌, length, flat_map, refl, sym, ap, ◌∙◌, subst, arith}
use Rattle.std.specs.Prelude.{nat_eq}
use Rattle.std.proofs.lemmas.Bool.{eq-eqb, eqb-true}
use Rattle.cx_text.proofs.BoolLaws.{or_either, or_right, or_left}
use Rattle.cx_meaning.specs.Designs.{PlainKind, OfPrimitive, OfComponent, PlainCell, PlainDesign, component_at, component_of_kind, components_of}
use Rattle.cx_text.specs.Members.{In}
use Rattle.cx_rules.specs.Wellformed.{LeadsTo, by_cell, by_way_of, IsDesign}
use Rattle.cx_profiling.specs.Instrumented.{reached_from, is_reached}
use Rattle.cx_rules.specs.Counts.{is_one_of}
use Rattle.cx_flattening.proofs.TreeLevels.{IsWay, no_way, further, way_is_short}

is_one_of-append : (k : ℕ) (ms ns : List ℕ) → is_one_of k ms ≡ true → is_one_of k (ms ++ ns) ≡ true
is_one_of-append k [] ns h = absurd cc
is_one_of-append k (m ∷ ms) ns h = by (or_either (nat_eq k m) (is_one_of k ms) h) (is_one_of-append k ms ns)
  where
    by : (nat_eq k m ≡ true) ⊎ (is_one_of k ms ≡ true) → (is_one_of k ms ≡ true → is_one_of k (ms ++ ns) ≡ true) → is_one_of k (m ∷ ms ++ ns) ≡ true
    by (inl e) more = or_left (nat_eq k m) (is_one_of k (ms ++ ns)) e
    by (inr i) more = or_right (nat_eq k m) (is_one_of k (ms ++ ns)) (more i)

is_one_of-behind : (k : ℕ) (ms ns : List ℕ) → is_one_of k ns ≡ true → is_one_of k (ms ++ ns) ≡ true
is_one_of-behind k [] ns h = h
is_one_of-behind k (m ∷ ms) ns h = or_right (nat_eq k m) (is_one_of k (ms ++ ns)) (is_one_of-behind k ms ns h)

is_one_of-either : (k : ℕ) (ms ns : List ℕ) → is_one_of k (ms ++ ns) ≡ true → (is_one_of k ms ≡ true) ⊎ (is_one_of k ns ≡ true)
is_one_of-either k [] ns h = inr h
is_one_of-either k (m ∷ ms) ns h = by (or_either (nat_eq k m) (is_one_of k (ms ++ ns)) h) (is_one_of-either k ms ns)
  where
    next : (is_one_of k ms ≡ true) ⊎ (is_one_of k ns ≡ true) → (is_one_of k (m ∷ ms) ≡ true) ⊎ (is_one_of k ns ≡ true)
    next (inl i) = inl (or_right (nat_eq k m) (is_one_of k ms) i)
    next (inr j) = inr j

    by : (nat_eq k m ≡ true) ⊎ (is_one_of k (ms ++ ns) ≡ true) → (is_one_of k (ms ++ ns) ≡ true → (is_one_of k ms ≡ true) ⊎ (is_one_of k ns ≡ true)) → (is_one_of k (m ∷ ms) ≡ true) ⊎ (is_one_of k ns ≡ true)
    by (inl e) more = inl (or_left (nat_eq k m) (is_one_of k ms) e)
    by (inr i) more = next (more i)

-- the component of a cell among those of cells, and what is had by way of it
of_cell : (cells : List PlainCell) (cell : PlainCell) (j : ℕ) → In cells cell → cell.kind ≡ OfComponent j → In (components_of cells) j
of_cell [] cell j i e = absurd i
of_cell (c ∷ cs) cell j (inl same) e = first c.kind (ap (λ x. x.kind) same ∙ e)
  where
    first : (kind : PlainKind) → kind ≡ OfComponent j → In (component_of_kind kind ++ components_of cs) j
    first (OfPrimitive p) e = absurd cc
    first (OfComponent m) e = inl (omega (arith, number m e))
      where
        number : (m : ℕ) → OfComponent m ≡ OfComponent j → m ≡ j
        number m e = ap component e
          where
            component : PlainKind → ℕ
            component (OfPrimitive p) = 0
            component (OfComponent n) = n
of_cell (c ∷ cs) cell j (inr i) e = later c.kind (of_cell cs cell j i e)
  where
    later : (kind : PlainKind) → In (components_of cs) j → In (component_of_kind kind ++ components_of cs) j
    later (OfPrimitive p) h = h
    later (OfComponent m) h = inr h

cell_of : (cells : List PlainCell) (j : ℕ) → In (components_of cells) j → (cell : PlainCell) × In cells cell × (cell.kind ≡ OfComponent j)
cell_of [] j i = absurd i
cell_of (c ∷ cs) j i = first c.kind refl i (cell_of cs j)
  where
    step : (cell : PlainCell) × In cs cell × (cell.kind ≡ OfComponent j) → (cell : PlainCell) × In (c ∷ cs) cell × (cell.kind ≡ OfComponent j)
    step (cell, i, e) = (cell, inr i, e)

    first : (kind : PlainKind) → c.kind ≡ kind → In (component_of_kind kind ++ components_of cs) j → (In (components_of cs) j → (cell : PlainCell) × In cs cell × (cell.kind ≡ OfComponent j)) → (cell : PlainCell) × In (c ∷ cs) cell × (cell.kind ≡ OfComponent j)
    first (OfPrimitive p) e i more = step (more i)
    first (OfComponent m) e (inl same) more = (c, inl refl, e ∙ ap OfComponent same)
    first (OfComponent m) e (inr i) more = step (more i)

by_one : (f : ℕ → List ℕ) (ms : List ℕ) (m k : ℕ) → In ms m → is_one_of k (f m) ≡ true → is_one_of k (flat_map f ms) ≡ true
by_one f [] m k i h = absurd i
by_one f (x ∷ ms) m k (inl e) h = is_one_of-append k (f x) (flat_map f ms) (subst (λ y. is_one_of k (f y) ≡ true) (sym e) h)
by_one f (x ∷ ms) m k (inr i) h = is_one_of-behind k (f x) (flat_map f ms) (by_one f ms m k i h)

one_by : (f : ℕ → List ℕ) (ms : List ℕ) (k : ℕ) → is_one_of k (flat_map f ms) ≡ true → (m : ℕ) × In ms m × (is_one_of k (f m) ≡ true)
one_by f [] k h = absurd cc
one_by f (x ∷ ms) k h = by (is_one_of-either k (f x) (flat_map f ms) h) (one_by f ms k)
  where
    next : (m : ℕ) × In ms m × (is_one_of k (f m) ≡ true) → (m : ℕ) × In (x ∷ ms) m × (is_one_of k (f m) ≡ true)
    next (m, i, h) = (m, inr i, h)

    by : (is_one_of k (f x) ≡ true) ⊎ (is_one_of k (flat_map f ms) ≡ true) → (is_one_of k (flat_map f ms) ≡ true → (m : ℕ) × In ms m × (is_one_of k (f m) ≡ true)) → (m : ℕ) × In (x ∷ ms) m × (is_one_of k (f m) ≡ true)
    by (inl h) more = (x, inl refl, h)
    by (inr i) more = next (more i)

module _ (d : PlainDesign) where
  -- the first step of a way
  pub record FirstStep (m k : ℕ) : Type 0 where
    pub j : ℕ
    pub cell : PlainCell
    pub here : In (component_at d m).cells cell
    pub kind : cell.kind ≡ OfComponent j
    pub rest : (j ≡ k) ⊎ LeadsTo d j k

  first_step : (m k : ℕ) → LeadsTo d m k → FirstStep m k
  first_step m k (by_cell n cell i e) = record { j = k; cell = cell; here = i; kind = e; rest = inl refl }
  first_step m k (by_way_of n a b) =
      let s : FirstStep m n = first_step m n a in
      record { j = s.j; cell = s.cell; here = s.here; kind = s.kind; rest = inr (on s.rest) }
    where
      on : {j : ℕ} → (j ≡ n) ⊎ LeadsTo d j n → LeadsTo d j k
      on (inl e) = subst (λ x. LeadsTo d x k) (sym e) b
      on (inr l) = by_way_of n l b

  -- what is found from a component is it, or it leads there
  found_from : (n m k : ℕ) → is_one_of k (reached_from d n m) ≡ true → (m ≡ k) ⊎ LeadsTo d m k
  found_from zero m k h = by (or_either (nat_eq k m) false h)
    where
      by : (nat_eq k m ≡ true) ⊎ (false ≡ true) → (m ≡ k) ⊎ LeadsTo d m k
      by (inl e) = inl (sym (eqb-true k m e))
      by (inr f) = absurd cc
  found_from (suc n) m k h = by (or_either (nat_eq k m) (is_one_of k (flat_map (reached_from d n) (components_of (component_at d m).cells))) h) (λ j. found_from n j k)
    where
      down : (j : ℕ) × In (components_of (component_at d m).cells) j × (is_one_of k (reached_from d n j) ≡ true) → ((j : ℕ) → is_one_of k (reached_from d n j) ≡ true → (j ≡ k) ⊎ LeadsTo d j k) → LeadsTo d m k
      down (j, i, h) below = go (cell_of (component_at d m).cells j i) (below j h)
        where
          go : (cell : PlainCell) × In (component_at d m).cells cell × (cell.kind ≡ OfComponent j) → (j ≡ k) ⊎ LeadsTo d j k → LeadsTo d m k
          go (cell, i, e) (inl same) = by_cell k cell i (e ∙ ap OfComponent same)
          go (cell, i, e) (inr l) = by_way_of j (by_cell j cell i e) l

      by : (nat_eq k m ≡ true) ⊎ (is_one_of k (flat_map (reached_from d n) (components_of (component_at d m).cells)) ≡ true) → ((j : ℕ) → is_one_of k (reached_from d n j) ≡ true → (j ≡ k) ⊎ LeadsTo d j k) → (m ≡ k) ⊎ LeadsTo d m k
      by (inl e) below = inl (sym (eqb-true k m e))
      by (inr f) below = inr (down (one_by (reached_from d n) (components_of (component_at d m).cells) k f) below)

  module _ (rules : IsDesign d) where
    -- with levels enough all is found that a component leads to
    finds : (n m k : ℕ) (path : List ℕ) → IsWay d rules path m → length d.components ≤ n + length path → (m ≡ k) ⊎ LeadsTo d m k → is_one_of k (reached_from d n m) ≡ true
    finds zero m k path way many l = absurd (let short : length path < length d.components = way_is_short d rules path m way in omega arith)
    finds (suc n) m k path way many (inl e) = or_left (nat_eq k m) (is_one_of k (flat_map (reached_from d n) (components_of (component_at d m).cells))) (eq-eqb k m (sym e))
    finds (suc n) m k path way many (inr l) =
        let s : FirstStep m k = first_step m k l in
        or_right (nat_eq k m) (is_one_of k (flat_map (reached_from d n) (components_of (component_at d m).cells)))
        (by_one (reached_from d n) (components_of (component_at d m).cells) s.j k (of_cell (component_at d m).cells s.cell s.j s.here s.kind)
        (finds n s.j k (m ∷ path) (further d rules path m s.j s.cell way s.here s.kind) (omega arith) s.rest))

    -- REACHED: main, and what it leads to
    pub is_reached-from : (k : ℕ) → (d.main ≡ k) ⊎ LeadsTo d d.main k → is_reached d k ≡ true
    is_reached-from k l = finds (length d.components) d.main k [] (no_way d rules d.main rules.main_there) (omega arith) l

    pub is_reached-to : (k : ℕ) → is_reached d k ≡ true → (d.main ≡ k) ⊎ LeadsTo d d.main k
    is_reached-to k h = found_from (length d.components) d.main k h

    -- the components of a reached component's cells are reached, and none is main
    pub child_reached : (k j : ℕ) (cell : PlainCell) → is_reached d k ≡ true → In (component_at d k).cells cell → cell.kind ≡ OfComponent j → (is_reached d j ≡ true) × (nat_eq j d.main ≡ false)
    child_reached k j cell h i e = (is_reached-from j (inr leads), other)
      where
        on : (d.main ≡ k) ⊎ LeadsTo d d.main k → LeadsTo d d.main j
        on (inl same) = subst (λ x. LeadsTo d x j) (sym same) (by_cell j cell i e)
        on (inr l) = by_way_of k l (by_cell j cell i e)

        leads : LeadsTo d d.main j
        leads = on (is_reached-to k h)

        other : nat_eq j d.main ≡ false
        other = by (nat_eq j d.main) refl
          where
            by : (b : Bool) → nat_eq j d.main ≡ b → b ≡ false
            by false e = refl
            by true e = absurd (rules.not_recursive d.main (subst (λ x. LeadsTo d d.main x) (eqb-true j d.main e) leads))
