-- Graphs that change by edges, as they lie in memory and as lists.
use Rattle.std.proofs.Common.{◌≡◌, ◌+◌, ◌<◌, ℕ, zero, suc, List, [], ◌∷◌, ◌++◌, length, get_or, slice_set, ◌⊎◌, inl, inr, ⊎_elim, refl, ap, ◌∙◌, arith}
use Rattle.std.specs.declared.vec.Vec.{Vec}
use Rattle.std.proofs.lemmas.List.{map-append}
use Rattle.cx_text.specs.Members.{In}
use Rattle.cx_graphs.specs.Graphs.{Edges, edges_of, targets_of}
use Rattle.cx_graphs.specs.Edges.{with_edge, without_edges, no_edges}

module _ {A : Type 0} where
  -- the edges of a node, as they lie in memory
  pub targets_are : (lists : List (Vec ℕ A)) (n : ℕ) (list : Vec ℕ A) → n < length lists → list ≡ get_or lists n list → list.items ≡ targets_of (edges_of lists) n
  targets_are [] n list within e = absurd (omega (arith, within))
  targets_are (first ∷ lists) zero list within e = ap (λ l. l.items) e
  targets_are (first ∷ lists) (suc n) list within e = targets_are lists n list (omega (arith, within)) e

  pub set_with : (lists : List (Vec ℕ A)) (n m : ℕ) (old new : Vec ℕ A) → n < length lists → old ≡ get_or lists n old → new.items ≡ old.items ++ m ∷ []
      → edges_of (slice_set lists n new) ≡ with_edge (edges_of lists) n m
  set_with [] n m old new within e more = absurd (omega (arith, within))
  set_with (first ∷ lists) zero m old new within e more = ap (λ l. l ∷ edges_of lists) (more ∙ ap (λ l. l.items ++ m ∷ []) e)
  set_with (first ∷ lists) (suc n) m old new within e more = ap (λ l. first.items ∷ l) (set_with lists n m old new (omega (arith, within)) e more)

  pub set_without : (lists : List (Vec ℕ A)) (n : ℕ) (new : Vec ℕ A) → new.items ≡ [] → edges_of (slice_set lists n new) ≡ without_edges (edges_of lists) n
  set_without [] n new e = refl
  set_without (first ∷ lists) zero new e = ap (λ l. l ∷ edges_of lists) e
  set_without (first ∷ lists) (suc n) new e = ap (λ l. first.items ∷ l) (set_without lists n new e)

  pub one_more : (lists : List (Vec ℕ A)) (n : ℕ) (new : Vec ℕ A) → new.items ≡ [] → edges_of lists ≡ no_edges n → edges_of (lists ++ new ∷ []) ≡ no_edges (n + 1)
  one_more lists n new e so_far = map-append (λ l. l.items) lists (new ∷ []) ∙ ap (λ g. g ++ new.items ∷ []) so_far ∙ ap (λ l. no_edges n ++ l ∷ []) e ∙ last n
    where
      last : (k : ℕ) → no_edges k ++ [] ∷ [] ≡ no_edges (k + 1)
      last zero = refl
      last (suc k) = ap (λ g. [] ∷ g) (last k) ∙ ap no_edges (step k)
        where
          step : (j : ℕ) → suc (j + 1) ≡ suc j + 1
          step j = omega arith

pub length-with_edge : (g : Edges) (n m : ℕ) → length (with_edge g n m) ≡ length g
length-with_edge [] n m = refl
length-with_edge (ms ∷ rest) zero m = refl
length-with_edge (ms ∷ rest) (suc n) m = ap suc (length-with_edge rest n m)

pub length-without_edges : (g : Edges) (n : ℕ) → length (without_edges g n) ≡ length g
length-without_edges [] n = refl
length-without_edges (ms ∷ rest) zero = refl
length-without_edges (ms ∷ rest) (suc n) = ap suc (length-without_edges rest n)

pub length-no_edges : (n : ℕ) → length (no_edges n) ≡ n
length-no_edges zero = refl
length-no_edges (suc n) = ap suc (length-no_edges n)

pub in_front : (xs : List ℕ) (m k : ℕ) → In xs k → In (xs ++ m ∷ []) k
in_front [] m k i = absurd i
in_front (x ∷ xs) m k (inl e) = inl e
in_front (x ∷ xs) m k (inr i) = inr (in_front xs m k i)

pub in_end : (xs : List ℕ) (m : ℕ) → In (xs ++ m ∷ []) m
in_end [] m = inl refl
in_end (x ∷ xs) m = inr (in_end xs m)

pub front_or_end : (xs : List ℕ) (m k : ℕ) → In (xs ++ m ∷ []) k → In xs k ⊎ (m ≡ k)
front_or_end [] m k (inl e) = inr e
front_or_end [] m k (inr i) = absurd i
front_or_end (x ∷ xs) m k (inl e) = inl (inl e)
front_or_end (x ∷ xs) m k (inr i) = ⊎_elim (λ j. inl (inr j)) (λ e. inr e) (front_or_end xs m k i)

pub edge_added : (g : Edges) (n m : ℕ) → n < length g → In (targets_of (with_edge g n m) n) m
edge_added [] n m within = absurd (omega (arith, within))
edge_added (ms ∷ rest) zero m within = in_end ms m
edge_added (ms ∷ rest) (suc n) m within = edge_added rest n m (omega (arith, within))

pub edge_kept : (g : Edges) (n m x y : ℕ) → In (targets_of g x) y → In (targets_of (with_edge g n m) x) y
edge_kept [] n m x y i = i
edge_kept (ms ∷ rest) zero m zero y i = in_front ms m y i
edge_kept (ms ∷ rest) zero m (suc x) y i = i
edge_kept (ms ∷ rest) (suc n) m zero y i = i
edge_kept (ms ∷ rest) (suc n) m (suc x) y i = edge_kept rest n m x y i

pub edge_from : (g : Edges) (n m x y : ℕ) → In (targets_of (with_edge g n m) x) y → In (targets_of g x) y ⊎ (m ≡ y)
edge_from [] n m x y i = inl i
edge_from (ms ∷ rest) zero m zero y i = front_or_end ms m y i
edge_from (ms ∷ rest) zero m (suc x) y i = inl i
edge_from (ms ∷ rest) (suc n) m zero y i = inl i
edge_from (ms ∷ rest) (suc n) m (suc x) y i = edge_from rest n m x y i

-- an edge is of the node whose edges are taken, or it stays
pub taken_or_left : (g : Edges) (n x y : ℕ) → In (targets_of g x) y → ((n ≡ x) × In (targets_of g n) y) ⊎ In (targets_of (without_edges g n) x) y
taken_or_left [] n x y i = inr i
taken_or_left (ms ∷ rest) zero zero y i = inl (refl, i)
taken_or_left (ms ∷ rest) zero (suc x) y i = inr i
taken_or_left (ms ∷ rest) (suc n) zero y i = inr i
taken_or_left (ms ∷ rest) (suc n) (suc x) y i = ⊎_elim (λ h. inl (ap suc h.0, h.1)) (λ j. inr j) (taken_or_left rest n x y i)

pub none_of_taken : (g : Edges) (n y : ℕ) → In (targets_of (without_edges g n) n) y → ⊥
none_of_taken [] n y i = i
none_of_taken (ms ∷ rest) zero y i = i
none_of_taken (ms ∷ rest) (suc n) y i = none_of_taken rest n y i

pub left_from : (g : Edges) (n x y : ℕ) → In (targets_of (without_edges g n) x) y → In (targets_of g x) y
left_from [] n x y i = i
left_from (ms ∷ rest) zero zero y i = absurd i
left_from (ms ∷ rest) zero (suc x) y i = i
left_from (ms ∷ rest) (suc n) zero y i = i
left_from (ms ∷ rest) (suc n) (suc x) y i = left_from rest n x y i

pub no_edge : (n x y : ℕ) → In (targets_of (no_edges n) x) y → ⊥
no_edge zero x y i = i
no_edge (suc n) zero y i = i
no_edge (suc n) (suc x) y i = no_edge n x y i
