-- THE ENTRIES OF A PROFILE are of groups that are there.
use Rattle.std.proofs.Common.{◌≡◌, ℕ, suc, ◌+◌, ◌<◌, inl, inr, ⊎_elim, Bool, true, false, List, [], ◌∷◌, length, map, refl, sym, ap, ◌∙◌, subst, arith}
use Rattle.std.specs.Prelude.{if◌then◌else◌}
use Rattle.cx_text.proofs.MemberLaws.{image_in, in_either}
use Rattle.cx_meaning.specs.Designs.{PlainGroup, PlainDesign}
use Rattle.cx_meaning.specs.Instances.{Instance, Node, Cells, no_cells, a_primitive, an_instance, part_of, child_at, Path, tree_of}
use Rattle.cx_text.specs.Members.{In}
use Rattle.cx_profiling.specs.Counters.{Counter, ProfileEntry, Shown, is_counted, counters_from, behind_cell, first_gained, shown_here, shown_at_cell, shown_in, shown_below, entries_of}
use Rattle.cx_profiling.specs.FlatEntries.{entry_at}
use Rattle.cx_profiling.proofs.FlatTotals.{IsThere}

counter_there : (cells : Cells) (c g : ℕ) (xs : List PlainGroup) (k : Counter) → In (counters_from cells c g xs) k → k.group < g + length xs
counter_there cells c g [] k i = absurd i
counter_there cells c g (x ∷ xs) k i = by (is_counted cells x) i (λ j. counter_there cells (suc (suc c)) (suc g) xs k j) (λ j. counter_there cells c (suc g) xs k j)
  where
    by : (b : Bool) → In (if b then record { group = g; register = c } ∷ counters_from cells (suc (suc c)) (suc g) xs else counters_from cells c (suc g) xs) k
        → (In (counters_from cells (suc (suc c)) (suc g) xs) k → k.group < suc g + length xs) → (In (counters_from cells c (suc g) xs) k → k.group < suc g + length xs)
        → k.group < g + length (x ∷ xs)
    by true (inl e) later other = let here : g ≡ k.group = ap (λ y. y.group) e in omega (arith, here)
    by true (inr j) later other = let less = later j in omega (arith, less)
    by false j later other = let less = other j in omega (arith, less)

-- what a child shows at a cell
record AtCell (c : ℕ) (list : List Shown) (x : Shown) : Type 0 where
  inner : Shown
  among : In list inner
  entry : x.entry ≡ behind_cell c inner.entry

at_cell : (c p : ℕ) (list : List Shown) (x : Shown) → In (shown_at_cell c p list) x → AtCell c list x
at_cell c p [] x i = absurd i
at_cell c p (y ∷ ys) x (inl e) = record { inner = y; among = inl refl; entry = ap (λ z. z.entry) (sym e) }
at_cell c p (y ∷ ys) x (inr i) = let r = at_cell c (suc p) ys x i in record { inner = r.inner; among = inr r.among; entry = r.entry }

-- an entry below a cell
record BelowCell (rest : Cells) (c : ℕ) (e : ProfileEntry) : Type 0 where
  cell : ℕ
  path : Path
  is : e ≡ entry_at ((c + cell) ∷ path) e.group
  there : e.group < length (part_of (child_at rest cell path)).groups

deeper : (rest : Cells) (child : Instance) (c : ℕ) (e : ProfileEntry) → BelowCell rest (suc c) e → BelowCell (an_instance child rest) c e
deeper rest child c e r =
    let next : suc c + r.cell ≡ c + suc r.cell = omega arith in
    record { cell = suc r.cell; path = r.path; is = r.is ∙ ap (λ k. entry_at (k ∷ r.path) e.group) next; there = r.there }

mutual
  pub shown_there : (i : Instance) (x : Shown) → In (shown_in i) x → IsThere i x.entry.path x.entry.group
  shown_there (Node part cells) x i =
      ⊎_elim
      (λ own.
      let r = image_in shown_here (counters_from cells (length part.cells) 0 part.groups) x own in
      let less = counter_there cells (length part.cells) 0 part.groups r.0 r.1 in
      subst (λ (y : Shown). IsThere (Node part cells) y.entry.path y.entry.group) r.2 (omega (arith, less)))
      (λ deep.
      let r = below_there cells 0 x.entry x refl deep in
      let here : 0 + r.cell ≡ r.cell = omega arith in
      subst (λ (y : ProfileEntry). IsThere (Node part cells) y.path y.group) (sym (r.is ∙ ap (λ k. entry_at (k ∷ r.path) x.entry.group) here)) r.there)
      (in_either (map shown_here (counters_from cells (length part.cells) 0 part.groups)) (shown_below cells 0) x i)

  below_there : (rest : Cells) (c : ℕ) (e : ProfileEntry) (x : Shown) → x.entry ≡ e → In (shown_below rest c) x → BelowCell rest c e
  below_there no_cells c e x is i = absurd i
  below_there (a_primitive row rest) c e x is i =
      let r = below_there rest (suc c) e x is i in
      let next : suc c + r.cell ≡ c + suc r.cell = omega arith in
      record { cell = suc r.cell; path = r.path; is = r.is ∙ ap (λ k. entry_at (k ∷ r.path) e.group) next; there = r.there }
  below_there (an_instance child rest) c e x is i =
      ⊎_elim
      (λ here.
      let r = at_cell c (first_gained (part_of child)) (shown_in child) x here in
      let same : e ≡ behind_cell c r.inner.entry = sym is ∙ r.entry in
      let none : c ≡ c + 0 = omega arith in
      record {
        cell = 0;
        path = r.inner.entry.path;
        is =
            same ∙ ap (λ k. entry_at (k ∷ r.inner.entry.path) r.inner.entry.group) none ∙ ap (λ k. entry_at ((c + 0) ∷ r.inner.entry.path) k)
            (ap (λ (y : ProfileEntry). y.group) (sym same));
        there =
            subst (λ k. k < length (part_of (child_at (an_instance child rest) 0 r.inner.entry.path)).groups) (ap (λ (y : ProfileEntry). y.group) (sym same))
            (shown_there child r.inner r.among);
      })
      (λ there. deeper rest child c e (below_there rest (suc c) e x is there))
      (in_either (shown_at_cell c (first_gained (part_of child)) (shown_in child)) (shown_below rest (suc c)) x i)

pub entry_is_there : (d : PlainDesign) (e : ProfileEntry) → In (entries_of (tree_of d)) e → IsThere (tree_of d) e.path e.group
entry_is_there d e inside =
    let r = image_in (λ (x : Shown). x.entry) (shown_in (tree_of d)) e inside in
    subst (λ (y : ProfileEntry). IsThere (tree_of d) y.path y.group) r.2 (shown_there (tree_of d) r.0 r.1)
