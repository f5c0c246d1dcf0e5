-- The tree of instances: what stands where.
use Rattle.std.proofs.Common.{◌≡◌, ◌⊎◌, ℕ, zero, suc, ◌+◌, ◌<◌, ◌≤◌, List, [], ◌∷◌, ◌++◌, length, Option, Some, slice_get, refl, ap, sym, ◌∙◌, subst, inl, inr, arith, length-append, le_refl}
use Rattle.cx_vtree.specs.Plain.{PlainInstance, PlainModule}
use Rattle.cx_vtree.specs.InstanceTree.{Placed, below}
use Rattle.cx_text.proofs.ListLaws.{front}

back : {A : Type 0} (xs ys : List A) (j k : ℕ) (p : A) → k ≡ length xs + j → slice_get ys j ≡ Some p → slice_get (xs ++ ys) k ≡ Some p
back [] ys j k p e at = let same : k ≡ j = omega arith in subst (λ i. slice_get ys i ≡ Some p) (sym same) at
back (x ∷ xs) ys j zero p e at = absurd (omega arith)
back (x ∷ xs) ys j (suc k) p e at = let same : k ≡ length xs + j = omega arith in back xs ys j k p same at

pub split : {A : Type 0} (xs ys : List A) (k : ℕ) (p : A) → slice_get (xs ++ ys) k ≡ Some p → (slice_get xs k ≡ Some p) ⊎ ((j : ℕ) × (k ≡ length xs + j) × (slice_get ys j ≡ Some p))
split [] ys k p e = let same : k ≡ 0 + k = omega arith in inr (k, same, e)
split (x ∷ xs) ys zero p e = inl e
split (x ∷ xs) ys (suc k) p e = go (split xs ys k p e) where
  go : (slice_get xs k ≡ Some p) ⊎ ((j : ℕ) × (k ≡ length xs + j) × (slice_get ys j ≡ Some p)) → (slice_get xs k ≡ Some p) ⊎ ((j : ℕ) × (suc k ≡ length (x ∷ xs) + j) × (slice_get ys j ≡ Some p))
  go (inl at) = inl at
  go (inr (j, same, at)) = let more : suc k ≡ length (x ∷ xs) + j = omega arith in inr (j, more, at)

-- a list stands within another, from a place on
abbrev pub StandsAt : {A : Type 0} → List A → ℕ → List A → Type 0
StandsAt {A} whole n part = (j : ℕ) (p : A) → slice_get part j ≡ Some p → slice_get whole (n + j) ≡ Some p

stands-tail : {A : Type 0} (whole : List A) (n : ℕ) (x : A) (part : List A) → StandsAt whole n (x ∷ part) → StandsAt whole (n + 1) part
stands-tail whole n x part h j p e = let same : n + suc j ≡ n + 1 + j = omega arith in subst (λ i. slice_get whole i ≡ Some p) same (h (suc j) p e)

stands-left : {A : Type 0} (whole : List A) (n : ℕ) (xs ys : List A) → StandsAt whole n (xs ++ ys) → StandsAt whole n xs
stands-left whole n xs ys h j p e = h j p (front xs ys j p e)

stands-right : {A : Type 0} (whole : List A) (n : ℕ) (xs ys : List A) → StandsAt whole n (xs ++ ys) → StandsAt whole (n + length xs) ys
stands-right whole n xs ys h j p e =
    let same : n + (length xs + j) ≡ n + length xs + j = omega arith in
    subst (λ i. slice_get whole i ≡ Some p) same (h (length xs + j) p (back xs ys j (length xs + j) p refl e))

stands-same : {A : Type 0} (whole : List A) (n : ℕ) (xs ys : List A) → xs ≡ ys → StandsAt whole n xs → StandsAt whole n ys
stands-same whole n xs ys e h = subst (StandsAt whole n) e h

-- an instance of a module in another one
abbrev pub placed : PlainInstance → ℕ → PlainModule → Placed
placed x holder m = record { part = m; name = x.name; holder = holder; conns = x.conns }

-- `tree` lists an instance and all below it
module _ (tree : PlainInstance → ℕ → ℕ → List Placed) where
  -- the number of an instance among those that an instance holds, of which the first one has the number `n`
  abbrev pub number_of : ℕ → ℕ → List PlainInstance → ℕ → ℕ
  number_of holder n [] s = n
  number_of holder n (x ∷ xs) zero = n
  number_of holder n (x ∷ xs) (suc s) = number_of holder (n + length (tree x holder n)) xs s

  -- of these trees one that a place is within
  pub record IsWithin (whole : List Placed) (holder n : ℕ) (xs : List PlainInstance) (j : ℕ) (p : Placed) : Type 0 where
    pub s : ℕ
    pub y : PlainInstance
    pub there : slice_get xs s ≡ Some y
    pub at : ℕ
    pub place : n + j ≡ number_of holder n xs s + at
    pub is : slice_get (tree y holder (number_of holder n xs s)) at ≡ Some p
    pub stands : StandsAt whole (number_of holder n xs s) (tree y holder (number_of holder n xs s))
    pub short : length (tree y holder (number_of holder n xs s)) ≤ length (below tree holder n xs)

  within : (whole : List Placed) (holder n : ℕ) (xs : List PlainInstance) (j : ℕ) (p : Placed) → StandsAt whole n (below tree holder n xs) → slice_get (below tree holder n xs) j ≡ Some p → IsWithin whole holder n xs j p
  within whole holder n [] j p h e = absurd (cc)
  within whole holder n (x ∷ xs) j p h e =
      let t : List Placed = tree x holder n in
      let next : ℕ = n + length t in
      let rest : List Placed = below tree holder next xs in
      go (split t rest j p e) (within whole holder next xs) where
        go : (slice_get (tree x holder n) j ≡ Some p) ⊎ ((k : ℕ) × (j ≡ length (tree x holder n) + k) × (slice_get (below tree holder (n + length (tree x holder n)) xs) k ≡ Some p))
            → ((k : ℕ) (q : Placed) → StandsAt whole (n + length (tree x holder n)) (below tree holder (n + length (tree x holder n)) xs) → slice_get (below tree holder (n + length (tree x holder n)) xs) k ≡ Some q
            → IsWithin whole holder (n + length (tree x holder n)) xs k q)
            → IsWithin whole holder n (x ∷ xs) j p
        go (inl here) later =
            let total : length (tree x holder n ++ below tree holder (n + length (tree x holder n)) xs) ≡ length (tree x holder n) + length (below tree holder (n + length (tree x holder n)) xs) =
            length-append (tree x holder n) (below tree holder (n + length (tree x holder n)) xs) in
            let less : length (tree x holder n) ≤ length (tree x holder n ++ below tree holder (n + length (tree x holder n)) xs) = omega arith in
            record { s = zero; y = x; there = refl; at = j; place = refl; is = here; stands = stands-left whole n (tree x holder n) (below tree holder (n + length (tree x holder n)) xs) h; short = less }
        go (inr (k, same, there)) later =
            let w = later k p (stands-right whole n (tree x holder n) (below tree holder (n + length (tree x holder n)) xs) h) there in
            let w-place = w.place in
            let w-short = w.short in
            let total : length (tree x holder n ++ below tree holder (n + length (tree x holder n)) xs) ≡ length (tree x holder n) + length (below tree holder (n + length (tree x holder n)) xs) =
            length-append (tree x holder n) (below tree holder (n + length (tree x holder n)) xs) in
            let place-here : n + j ≡ number_of holder (n + length (tree x holder n)) xs w.s + w.at = omega arith in
            let short-here : length (tree w.y holder (number_of holder (n + length (tree x holder n)) xs w.s)) ≤ length (tree x holder n ++ below tree holder (n + length (tree x holder n)) xs) = omega arith in
            record { s = suc w.s; y = w.y; there = w.there; at = w.at; place = place-here; is = w.is; stands = w.stands; short = short-here }

  -- each of these instances has its tree at its number
  pub tree_stands : (whole : List Placed) (holder n : ℕ) (xs : List PlainInstance) (s : ℕ) (y : PlainInstance) → StandsAt whole n (below tree holder n xs) → slice_get xs s ≡ Some y
      → StandsAt whole (number_of holder n xs s) (tree y holder (number_of holder n xs s))
  tree_stands whole holder n [] s y h e = absurd (cc)
  tree_stands whole holder n (x ∷ xs) zero y h e =
      let same : x ≡ y = cc in
      subst (λ z. StandsAt whole n (tree z holder n)) same (stands-left whole n (tree x holder n) (below tree holder (n + length (tree x holder n)) xs) h)
  tree_stands whole holder n (x ∷ xs) (suc s) y h e =
      tree_stands whole holder (n + length (tree x holder n)) xs s y (stands-right whole n (tree x holder n) (below tree holder (n + length (tree x holder n)) xs) h) e

  number-more : (holder n : ℕ) (xs : List PlainInstance) (s : ℕ) → n ≤ number_of holder n xs s
  number-more holder n [] s = omega arith
  number-more holder n (x ∷ xs) zero = omega arith
  number-more holder n (x ∷ xs) (suc s) = let later = number-more holder (n + length (tree x holder n)) xs s in omega arith

module _ (tree : PlainInstance → ℕ → ℕ → List Placed) (modules : List ℕ → Option PlainModule) where
  -- the instance of number `i` is held by another one, as this part of its module
  pub record IsHeld (whole : List Placed) (i : ℕ) (p : Placed) (x : PlainInstance) : Type 0 where
    pub holder : Placed
    pub at : slice_get whole p.holder ≡ Some holder
    pub s : ℕ
    pub there : slice_get holder.part.instances s ≡ Some x
    pub number : i ≡ number_of tree p.holder (p.holder + 1) holder.part.instances s
    pub lower : p.holder < i

  -- the instance of a number: how it was made, and what stands after it
  pub record Stands (whole : List Placed) (i : ℕ) (p : Placed) (first around : ℕ) (root : PlainInstance) : Type 0 where
    pub x : PlainInstance
    pub known : modules x.kind ≡ Some p.part
    pub is : p ≡ placed x p.holder p.part
    pub holds : StandsAt whole (i + 1) (below tree i (i + 1) p.part.instances)
    pub held : ((i ≡ first) × (x ≡ root) × (p.holder ≡ around)) ⊎ IsHeld whole i p x

-- each kind has its module, by which the tree is made
module _ (tree : PlainInstance → ℕ → ℕ → List Placed) (modules : List ℕ → Option PlainModule)
    (unfolds : (x : PlainInstance) (holder n : ℕ) (m : PlainModule) → modules x.kind ≡ Some m → tree x holder n ≡ placed x holder m ∷ below tree n (n + 1) m.instances)
    (closed : (kind : List ℕ) (m : PlainModule) → modules kind ≡ Some m → (s : ℕ) (y : PlainInstance) → slice_get m.instances s ≡ Some y → (part : PlainModule) × (modules y.kind ≡ Some part)) where
  root_holds : (whole : List Placed) (x : PlainInstance) (holder n : ℕ) (m : PlainModule) → modules x.kind ≡ Some m → StandsAt whole n (tree x holder n) → StandsAt whole (n + 1) (below tree n (n + 1) m.instances)
  root_holds whole x holder n m known h =
      stands-tail whole n (placed x holder m) (below tree n (n + 1) m.instances) (stands-same whole n (tree x holder n) (placed x holder m ∷ below tree n (n + 1) m.instances) (unfolds x holder n m known) h)

  root_at : (whole : List Placed) (x : PlainInstance) (holder n : ℕ) (m : PlainModule) → modules x.kind ≡ Some m → StandsAt whole n (tree x holder n) → slice_get whole n ≡ Some (placed x holder m)
  root_at whole x holder n m known h =
      let same : n + 0 ≡ n = omega arith in
      subst (λ j. slice_get whole j ≡ Some (placed x holder m)) same
      (stands-same whole n (tree x holder n) (placed x holder m ∷ below tree n (n + 1) m.instances) (unfolds x holder n m known) h zero (placed x holder m) refl)

  root_stands : (whole : List Placed) (x : PlainInstance) (holder n : ℕ) (m : PlainModule) → modules x.kind ≡ Some m → StandsAt whole n (tree x holder n) → Stands tree modules whole n (placed x holder m) n holder x
  root_stands whole x holder n m known h = record { x = x; known = known; is = refl; holds = root_holds whole x holder n m known h; held = inl (refl, refl, refl) }

  -- what stands in the tree of a part of a module stands in that of the module
  held_here : (whole : List Placed) (x : PlainInstance) (holder n : ℕ) (m : PlainModule) → modules x.kind ≡ Some m → StandsAt whole n (tree x holder n)
      → (s : ℕ) (y : PlainInstance) → slice_get m.instances s ≡ Some y → (i : ℕ) (p : Placed) → Stands tree modules whole i p (number_of tree n (n + 1) m.instances s) n y → Stands tree modules whole i p n holder x
  held_here whole x holder n m known h s y there i p r = record { x = r.x; known = r.known; is = r.is; holds = r.holds; held = inr (go r.held) } where
    go : ((i ≡ number_of tree n (n + 1) m.instances s) × (r.x ≡ y) × (p.holder ≡ n)) ⊎ IsHeld tree modules whole i p r.x → IsHeld tree modules whole i p r.x
    go (inr held) = held
    go (inl (number, same, around)) =
        let more = number-more tree n (n + 1) m.instances s in
        let lower : p.holder < i = omega arith in
        record {
          holder = placed x holder m;
          at = ap (slice_get whole) around ∙ root_at whole x holder n m known h;
          s = s;
          there = there ∙ ap Some (sym same);
          number = number ∙ ap (λ a. number_of tree a (a + 1) m.instances s) (sym around);
          lower = lower;
        }

  all_stand : (bound : ℕ) (whole : List Placed) (x : PlainInstance) (holder n : ℕ) (m : PlainModule) → modules x.kind ≡ Some m → StandsAt whole n (tree x holder n)
      → length (tree x holder n) ≡ suc (length (below tree n (n + 1) m.instances)) → length (tree x holder n) ≤ bound
      → (k i : ℕ) (p : Placed) → slice_get (placed x holder m ∷ below tree n (n + 1) m.instances) k ≡ Some p → i ≡ n + k → Stands tree modules whole i p n holder x
  all_stand zero whole x holder n m known h long short k i p e same = absurd (omega arith)
  all_stand (suc bound) whole x holder n m known h long short zero i p e same =
      let first : n ≡ i = omega arith in
      let root : placed x holder m ≡ p = cc in
      subst (λ j. Stands tree modules whole j p n holder x) first (subst (λ q. Stands tree modules whole n q n holder x) root (root_stands whole x holder n m known h))
  all_stand (suc bound) whole x holder n m known h long short (suc j) i p e same =
      let w = within tree whole n (n + 1) m.instances j p (root_holds whole x holder n m known h) e in
      let w-place = w.place in
      let w-short = w.short in
      let (part, is_known) = closed x.kind m known w.s w.y w.there in
      let number : ℕ = number_of tree n (n + 1) m.instances w.s in
      let unfolded = unfolds w.y n number part is_known in
      let less : length (tree w.y n number) ≤ bound = omega arith in
      let place : i ≡ number + w.at = omega arith in
      held_here whole x holder n m known h w.s w.y w.there i p
      (all_stand bound whole w.y n number part is_known w.stands (ap length unfolded) less w.at i p (subst (λ l. slice_get l w.at ≡ Some p) unfolded w.is) place)

  -- what stands in a tree
  pub every_stands : (x : PlainInstance) (m : PlainModule) → modules x.kind ≡ Some m → (i : ℕ) (p : Placed) → slice_get (tree x 0 0) i ≡ Some p → Stands tree modules (tree x 0 0) i p 0 0 x
  every_stands x m known i p e =
      let unfolded = unfolds x 0 0 m known in
      let place : i ≡ 0 + i = omega arith in
      all_stand (length (tree x 0 0)) (tree x 0 0) x 0 0 m known (λ j q at. let same : 0 + j ≡ j = omega arith in subst (λ k. slice_get (tree x 0 0) k ≡ Some q) (sym same) at)
      (ap length unfolded) (le_refl (length (tree x 0 0))) i i p (subst (λ l. slice_get l i ≡ Some p) unfolded e) place

  -- each part of a module of the tree is one of its instances
  pub part_stands : (x : PlainInstance) (m : PlainModule) → modules x.kind ≡ Some m → (i : ℕ) (p : Placed) → slice_get (tree x 0 0) i ≡ Some p → (s : ℕ) (y : PlainInstance) → slice_get p.part.instances s ≡ Some y
      → (part : PlainModule) × (modules y.kind ≡ Some part) × (slice_get (tree x 0 0) (number_of tree i (i + 1) p.part.instances s) ≡ Some (placed y i part))
  part_stands x m known i p e s y there =
      let r = every_stands x m known i p e in
      let (part, is_known) = closed r.x.kind p.part r.known s y there in
      (part, is_known, root_at (tree x 0 0) y i (number_of tree i (i + 1) p.part.instances s) part is_known (tree_stands tree (tree x 0 0) i (i + 1) p.part.instances s y r.holds there))
