-- The steps of a demand.
use Rattle.std.proofs.Common.{◌≡◌, ℕ, zero, suc, ◌+◌, ◌-◌, ◌*◌, ◌<◌, ◌≤◌, ◌≢◌, true, false, inl, inr, ◌⊎◌, ⊎_elim, List, [], ◌∷◌, length, get_or, set, Option, Some, None, refl, sym, ap, ◌∙◌, subst, arith}
use Rattle.std.specs.List.{slice_get}
use Rattle.std.proofs.lemmas.Bool.{cases_lt}
use Rattle.std.proofs.lemmas.List.{get_or-set_same, get_or-set_other, length-set}
use Rattle.std.proofs.lemmas.Option.{slice_get-get_or}
use Rattle.cx_meaning.specs.declared.sights.Seen.{Seen}
use Rattle.cx_text.specs.Members.{In}
use Rattle.cx_eval_network.specs.declared.marks.NodeMark.{NodeMark}
use Rattle.cx_eval_network.specs.declared.marks.NodeMark.TheVariants.{Unseen, Open, Known}
use Rattle.cx_eval_network.specs.Demands.{Way, at_once, by_way_of, IsGrounded, StaysWithin, is_known, known_at, IsRight, Ready, Demanded}
use Rattle.cx_text.proofs.ListLaws.{there_below, set_other, set_same}
use Rattle.cx_text.proofs.NumberLaws.{same_or}
use Rattle.cx_text.proofs.OptionLaws.{none_is_some}

-- HOW MANY ARE UNSEEN
abbrev pub weight : NodeMark → ℕ
weight Unseen = 1
weight Open = 0
weight (Known x) = 0

abbrev pub unseen : List NodeMark → ℕ
unseen [] = 0
unseen (m ∷ ms) = weight m + unseen ms

weight_le : (m : NodeMark) → weight m ≤ 1
weight_le Unseen = omega arith
weight_le Open = omega arith
weight_le (Known x) = omega arith

pub unseen_le : (marks : List NodeMark) → unseen marks ≤ length marks
unseen_le [] = omega arith
unseen_le (m ∷ ms) = let w = weight_le m in let r = unseen_le ms in omega (arith, w, r)

pub unseen_set : (marks : List NodeMark) (n : ℕ) (m x : NodeMark) → slice_get marks n ≡ Some m → unseen (set marks n x) + weight m ≡ unseen marks + weight x
unseen_set [] n m x e = absurd (none_is_some m e)
unseen_set (y ∷ ys) zero m x e = let same : y ≡ m = (let f : Some y ≡ Some m = e in cc) in let w : weight y ≡ weight m = ap weight same in omega (arith, w)
unseen_set (y ∷ ys) (suc n) m x e = let r = unseen_set ys n m x e in omega (arith, r)

further : (leads : ℕ → List ℕ) (n m k : ℕ) → Way leads n m → In (leads m) k → Way leads n k
further leads n m k (at_once i) j = by_way_of m i (at_once j)
further leads n m k (by_way_of l i w) j = by_way_of l i (further leads l m k w j)

is_open_or : (o : Option NodeMark) → is_known o ≡ false → (o ≡ None) ⊎ ((o ≡ Some Unseen) ⊎ (o ≡ Some Open))
is_open_or None e = inl refl
is_open_or (Some Unseen) e = inr (inl refl)
is_open_or (Some Open) e = inr (inr refl)
is_open_or (Some (Known x)) e = absurd (let f : true ≡ false = e in cc)

is_known_some : (o : Option NodeMark) → is_known o ≡ true → (x : Seen) × (o ≡ Some (Known x))
is_known_some None e = absurd (let f : false ≡ true = e in cc)
is_known_some (Some Unseen) e = absurd (let f : false ≡ true = e in cc)
is_known_some (Some Open) e = absurd (let f : false ≡ true = e in cc)
is_known_some (Some (Known x)) e = (x, refl)

-- the stack leads from the root to the node that is looked at, and has the nodes that wait
pub record Going (leads : ℕ → List ℕ) (value : ℕ → Seen) (root : ℕ) (old marks : List NodeMark) (stack : List ℕ) (depth : ℕ) : Type 0 where
  pub long : length stack ≡ length marks
  pub sized : length marks ≡ length old
  pub right : IsRight value marks
  pub kept : (n : ℕ) (x : Seen) → slice_get old n ≡ Some (Known x) → slice_get marks n ≡ Some (Known x)
  pub opens : (n : ℕ) → slice_get marks n ≡ Some Open → (j : ℕ) × (j < depth) × (get_or stack j 0 ≡ n)
  pub stacked : (j : ℕ) → j < depth → slice_get marks (get_or stack j 0) ≡ Some Open
  pub chain : (j k : ℕ) → j < k → k < depth → Way leads (get_or stack j 0) (get_or stack k 0)
  pub room : depth + unseen marks ≤ length marks
  pub rooted : ((0 < depth) × (get_or stack 0 0 ≡ root)) ⊎ ((depth ≡ 0) × (slice_get marks root ≡ Some (Known (value root))))

-- what is known already
pub known_before : (value : ℕ → Seen) (root : ℕ) (marks : List NodeMark) → Ready value marks → known_at marks root ≡ true → Demanded value root marks marks
known_before value root marks ready e =
    let k = is_known_some (slice_get marks root) e in
    record {
      ready = ready;
      found = k.1 ∙ ap (λ x. Some (Known x)) (ready.right root k.0 k.1);
      kept = λ n x h. h;
    }

pub root_unseen : (value : ℕ → Seen) (root : ℕ) (marks : List NodeMark) → Ready value marks → root < length marks → known_at marks root ≡ false → slice_get marks root ≡ Some Unseen
root_unseen value root marks ready lt e = by (is_open_or (slice_get marks root) e)
  where
    there : slice_get marks root ≡ Some (get_or marks root Unseen)
    there = slice_get-get_or marks root Unseen lt

    by : (slice_get marks root ≡ None) ⊎ ((slice_get marks root ≡ Some Unseen) ⊎ (slice_get marks root ≡ Some Open)) → slice_get marks root ≡ Some Unseen
    by (inl none) = absurd (none_is_some (get_or marks root Unseen) (sym none ∙ there))
    by (inr (inl is)) = is
    by (inr (inr is)) = absurd (ready.closed root is)

pub begin : (leads : ℕ → List ℕ) (value : ℕ → Seen) (root : ℕ) (marks : List NodeMark) (stack : List ℕ) → Ready value marks → root < length marks → length stack ≡ length marks → known_at marks root ≡ false
    → Going leads value root marks (set marks root Open) (set stack 0 root) 1
begin leads value root marks stack ready lt long e = record {
  long = length-set stack 0 root ∙ long ∙ sym (length-set marks root Open);
  sized = length-set marks root Open;
  right = λ n x h. ⊎_elim (λ s. absurd (opened n x s h)) (λ ne. ready.right n x (sym (set_other marks root n Open ne) ∙ h)) (same_or n root);
  kept = λ n x h. ⊎_elim (λ s. absurd (let f : Some Unseen ≡ Some (Known x) = sym unseen_root ∙ ap (slice_get marks) (sym s) ∙ h in cc)) (λ ne. set_other marks root n Open ne ∙ h) (same_or n root);
  opens = λ n h. ⊎_elim (λ s. (0, omega arith, top ∙ sym s)) (λ ne. absurd (ready.closed n (sym (set_other marks root n Open ne) ∙ h))) (same_or n root);
  stacked = λ j less. (let z : j ≡ 0 = omega arith in ap (λ k. slice_get (set marks root Open) (get_or (set stack 0 root) k 0)) z ∙ ap (slice_get (set marks root Open)) top ∙ set_same marks root Open lt);
  chain = λ j k less more. absurd (omega arith);
  room = (let u = unseen_set marks root Unseen Open unseen_root in let l = unseen_le marks in let s = length-set marks root Open in omega (arith, u, l, s));
  rooted = inl (omega arith, top);
}
  where
    unseen_root : slice_get marks root ≡ Some Unseen
    unseen_root = root_unseen value root marks ready lt e

    top : get_or (set stack 0 root) 0 0 ≡ root
    top = get_or-set_same stack 0 root 0 (omega arith)

    opened : (n : ℕ) (x : Seen) → n ≡ root → slice_get (set marks root Open) n ≡ Some (Known x) → ⊥
    opened n x s h = let f : Some Open ≡ Some (Known x) = sym (set_same marks root Open lt) ∙ ap (slice_get (set marks root Open)) (sym s) ∙ h in cc

module _ (leads : ℕ → List ℕ) (value : ℕ → Seen) (root : ℕ) (old marks : List NodeMark) (stack : List ℕ) (depth : ℕ) (g : Going leads value root old marks stack depth) (some : 0 < depth)
    (within : StaysWithin leads (length old)) (grounded : IsGrounded leads) where
  last_less : depth - 1 < depth
  last_less = omega arith

  pub top_open : slice_get marks (get_or stack (depth - 1) 0) ≡ Some Open
  top_open = g.stacked (depth - 1) last_less

  pub top_within : get_or stack (depth - 1) 0 < length marks
  top_within = there_below marks (get_or stack (depth - 1) 0) Open top_open

  rooted_still : (0 < depth) × (get_or stack 0 0 ≡ root)
  rooted_still = ⊎_elim (λ r. r) (λ r. absurd (let z = r.0 in omega (arith, z))) g.rooted

  pub depth_within : depth ≤ length stack
  depth_within = let r = g.room in let l = g.long in omega (arith, r, l)

  -- PUSH
  module _ (next : ℕ) (step : In (leads (get_or stack (depth - 1) 0)) next) (unknown : known_at marks next ≡ false) where
    pub next_within : next < length marks
    next_within =
        let s = g.sized in
        let lt : get_or stack (depth - 1) 0 < length old = (let t = top_within in omega (arith, t, s)) in
        let n = within (get_or stack (depth - 1) 0) next lt step in omega (arith, n, s)

    pub next_unseen : slice_get marks next ≡ Some Unseen
    next_unseen = by (is_open_or (slice_get marks next) unknown)
      where
        there : slice_get marks next ≡ Some (get_or marks next Unseen)
        there = slice_get-get_or marks next Unseen next_within

        circle : slice_get marks next ≡ Some Open → ⊥
        circle is =
            let o = g.opens next is in
            ⊎_elim
            (λ (e : o.0 ≡ depth - 1). grounded next (subst (λ n. Way leads n next) (ap (λ k. get_or stack k 0) (sym e) ∙ o.2) (at_once step)))
            (λ (ne : o.0 ≢ depth - 1).
            let less : o.0 < depth - 1 = (let lt = o.1 in before o.0 lt ne) in
            grounded next (subst (λ n. Way leads n next) o.2 (further leads (get_or stack o.0 0) (get_or stack (depth - 1) 0) next (g.chain o.0 (depth - 1) less last_less) step)))
            (same_or o.0 (depth - 1))
          where
            before : (j : ℕ) → j < depth → j ≢ depth - 1 → j < depth - 1
            before j lt ne = ⊎_elim (λ less. less) (λ (le : depth - 1 ≤ j). absurd (ne (omega arith))) (cases_lt j (depth - 1))

        by : (slice_get marks next ≡ None) ⊎ ((slice_get marks next ≡ Some Unseen) ⊎ (slice_get marks next ≡ Some Open)) → slice_get marks next ≡ Some Unseen
        by (inl none) = absurd (none_is_some (get_or marks next Unseen) (sym none ∙ there))
        by (inr (inl is)) = is
        by (inr (inr is)) = absurd (circle is)

    counts : unseen (set marks next Open) + 1 ≡ unseen marks
    counts = let u = unseen_set marks next Unseen Open next_unseen in omega (arith, u)

    pub push_room : depth < length stack
    push_room = let r = g.room in let l = g.long in let u = counts in omega (arith, r, l, u)

    pub push_smaller : 2 * unseen (set marks next Open) + (depth + 1) < 2 * unseen marks + depth
    push_smaller = let u = counts in omega (arith, u)

    above : (j : ℕ) → j < depth → get_or (set stack depth next) j 0 ≡ get_or stack j 0
    above j lt = get_or-set_other stack depth j next 0 (λ e. (let f : j ≡ depth = e in omega arith))

    new_top : get_or (set stack depth next) depth 0 ≡ next
    new_top = get_or-set_same stack depth next 0 push_room

    link : (j : ℕ) → j < depth → Way leads (get_or stack j 0) next
    link j lt =
        ⊎_elim
        (λ (e : j ≡ depth - 1). subst (λ k. Way leads (get_or stack k 0) next) (sym e) (at_once step))
        (λ (ne : j ≢ depth - 1). ⊎_elim
        (λ (less : j < depth - 1). further leads (get_or stack j 0) (get_or stack (depth - 1) 0) next (g.chain j (depth - 1) less last_less) step)
        (λ (le : depth - 1 ≤ j). absurd (ne (omega arith))) (cases_lt j (depth - 1)))
        (same_or j (depth - 1))

    pub push : Going leads value root old (set marks next Open) (set stack depth next) (depth + 1)
    push = record {
      long = length-set stack depth next ∙ g.long ∙ sym (length-set marks next Open);
      sized = length-set marks next Open ∙ g.sized;
      right = λ n x h. ⊎_elim
          (λ s. absurd (let f : Some Open ≡ Some (Known x) = sym (set_same marks next Open next_within) ∙ ap (slice_get (set marks next Open)) (sym s) ∙ h in cc))
          (λ ne. g.right n x (sym (set_other marks next n Open ne) ∙ h)) (same_or n next);
      kept = λ n x h. ⊎_elim
          (λ s. absurd (let f : Some Unseen ≡ Some (Known x) = sym next_unseen ∙ ap (slice_get marks) (sym s) ∙ g.kept n x h in cc))
          (λ ne. set_other marks next n Open ne ∙ g.kept n x h) (same_or n next);
      opens = λ n h. ⊎_elim
          (λ s. (depth, omega arith, new_top ∙ sym s))
          (λ ne. let o = g.opens n (sym (set_other marks next n Open ne) ∙ h) in (o.0, (let lt = o.1 in omega (arith, lt)), above o.0 o.1 ∙ o.2)) (same_or n next);
      stacked = λ j lt. ⊎_elim
          (λ (e : j ≡ depth). ap (λ k. slice_get (set marks next Open) (get_or (set stack depth next) k 0)) e ∙ ap (slice_get (set marks next Open)) new_top ∙ set_same marks next Open next_within)
          (λ (ne : j ≢ depth). old_stacked j (inner j lt ne)) (same_or j depth);
      chain = λ j k less lt. ⊎_elim
          (λ (e : k ≡ depth).
          let j_less : j < depth = omega arith in
          subst (λ n. Way leads n (get_or (set stack depth next) k 0)) (sym (above j j_less)) (subst (λ n. Way leads (get_or stack j 0) n) (sym (ap (λ i. get_or (set stack depth next) i 0) e ∙ new_top)) (link j j_less)))
          (λ (ne : k ≢ depth).
          let k_less : k < depth = inner k lt ne in
          let j_less : j < depth = omega arith in
          subst (λ n. Way leads n (get_or (set stack depth next) k 0)) (sym (above j j_less)) (subst (λ n. Way leads (get_or stack j 0) n) (sym (above k k_less)) (g.chain j k less k_less)))
          (same_or k depth);
      room = (let r = g.room in let u = counts in let s = length-set marks next Open in omega (arith, r, u, s));
      rooted = inl (omega arith, above 0 some ∙ rooted_still.1);
    }
      where
        inner : (j : ℕ) → j < depth + 1 → j ≢ depth → j < depth
        inner j lt ne = ⊎_elim (λ less. less) (λ (le : depth ≤ j). absurd (ne (omega arith))) (cases_lt j depth)

        old_stacked : (j : ℕ) → j < depth → slice_get (set marks next Open) (get_or (set stack depth next) j 0) ≡ Some Open
        old_stacked j lt =
            ap (slice_get (set marks next Open)) (above j lt)
            ∙ set_other marks next (get_or stack j 0) Open (λ s. (let f : Some Unseen ≡ Some Open = sym next_unseen ∙ ap (slice_get marks) (sym s) ∙ g.stacked j lt in cc))
            ∙ g.stacked j lt

  -- POP
  module _ (v : Seen) (is : v ≡ value (get_or stack (depth - 1) 0)) where
    same_count : unseen (set marks (get_or stack (depth - 1) 0) (Known v)) ≡ unseen marks
    same_count = let u = unseen_set marks (get_or stack (depth - 1) 0) Open (Known v) top_open in omega (arith, u)

    pub pop_smaller : 2 * unseen (set marks (get_or stack (depth - 1) 0) (Known v)) + (depth - 1) < 2 * unseen marks + depth
    pop_smaller = let u = same_count in omega (arith, u)

    pub pop : Going leads value root old (set marks (get_or stack (depth - 1) 0) (Known v)) stack (depth - 1)
    pop = record {
      long = g.long ∙ sym (length-set marks (get_or stack (depth - 1) 0) (Known v));
      sized = length-set marks (get_or stack (depth - 1) 0) (Known v) ∙ g.sized;
      right = λ n x h. ⊎_elim
          (λ s. let f : Some (Known v) ≡ Some (Known x) = sym here ∙ ap (slice_get (set marks (get_or stack (depth - 1) 0) (Known v))) (sym s) ∙ h in
          let same : v ≡ x = cc in sym same ∙ is ∙ ap value (sym s))
          (λ ne. g.right n x (sym (set_other marks (get_or stack (depth - 1) 0) n (Known v) ne) ∙ h)) (same_or n (get_or stack (depth - 1) 0));
      kept = λ n x h. ⊎_elim
          (λ s. absurd (let f : Some Open ≡ Some (Known x) = sym top_open ∙ ap (slice_get marks) (sym s) ∙ g.kept n x h in cc))
          (λ ne. set_other marks (get_or stack (depth - 1) 0) n (Known v) ne ∙ g.kept n x h) (same_or n (get_or stack (depth - 1) 0));
      opens = λ n h. ⊎_elim
          (λ s. absurd (let f : Some (Known v) ≡ Some Open = sym here ∙ ap (slice_get (set marks (get_or stack (depth - 1) 0) (Known v))) (sym s) ∙ h in cc))
          (λ ne. let o = g.opens n (sym (set_other marks (get_or stack (depth - 1) 0) n (Known v) ne) ∙ h) in
          (o.0, below o.0 n o.1 o.2 ne, o.2)) (same_or n (get_or stack (depth - 1) 0));
      stacked = λ j lt.
          set_other marks (get_or stack (depth - 1) 0) (get_or stack j 0) (Known v)
          (λ s. grounded (get_or stack j 0) (subst (Way leads (get_or stack j 0)) (sym s) (g.chain j (depth - 1) lt last_less)))
          ∙ g.stacked j (omega arith);
      chain = λ j k less lt. g.chain j k less (omega arith);
      room = (let r = g.room in let u = same_count in let s = length-set marks (get_or stack (depth - 1) 0) (Known v) in omega (arith, r, u, s));
      rooted = ⊎_elim
          (λ (e : depth ≡ 1).
          let z : depth - 1 ≡ 0 = omega arith in
          let at : get_or stack (depth - 1) 0 ≡ root = ap (λ k. get_or stack k 0) z ∙ rooted_still.1 in
          inr (z, ap (slice_get (set marks (get_or stack (depth - 1) 0) (Known v))) (sym at) ∙ here ∙ ap (λ x. Some (Known x)) (is ∙ ap value at)))
          (λ (ne : depth ≢ 1). inl (more ne, rooted_still.1))
          (same_or depth 1);
    }
      where
        here : slice_get (set marks (get_or stack (depth - 1) 0) (Known v)) (get_or stack (depth - 1) 0) ≡ Some (Known v)
        here = set_same marks (get_or stack (depth - 1) 0) (Known v) top_within

        more : depth ≢ 1 → 0 < depth - 1
        more ne = ⊎_elim (λ lt. lt) (λ (le : depth - 1 ≤ 0). absurd (ne (omega arith))) (cases_lt 0 (depth - 1))

        below : (j n : ℕ) → j < depth → get_or stack j 0 ≡ n → n ≢ get_or stack (depth - 1) 0 → j < depth - 1
        below j n lt at ne =
            ⊎_elim (λ less. less)
            (λ (le : depth - 1 ≤ j). absurd (ne (sym at ∙ (let e : j ≡ depth - 1 = omega arith in ap (λ k. get_or stack k 0) e))))
            (cases_lt j (depth - 1))

-- THE END
pub finish : (leads : ℕ → List ℕ) (value : ℕ → Seen) (root : ℕ) (old marks : List NodeMark) (stack : List ℕ) (depth : ℕ) → Going leads value root old marks stack depth → depth ≡ 0 → Demanded value root old marks
finish leads value root old marks stack depth g z = record {
  ready = record {
    right = g.right;
    closed = λ n h. let o = g.opens n h in (let lt = o.1 in absurd (omega (arith, lt)));
  };
  found = ⊎_elim (λ r. absurd (let lt = r.0 in omega (arith, lt))) (λ r. r.1) g.rooted;
  kept = g.kept;
}
