-- Graphs that grow by lists of edges.
use Rattle.std.proofs.Common.{◌≡◌, ◌+◌, ◌≤◌, ℕ, zero, suc, nat_eq, cond, List, [], ◌∷◌, ◌++◌, Some, map, drop, flat_map, refl, sym, ap, ◌∙◌, arith}
use Rattle.std.proofs.Common.{append_assoc}
use Rattle.cx_graphs.specs.Graphs.{Edges}
use Rattle.cx_graphs.specs.Edges.{with_edge, no_edges}
use Rattle.cx_shape_state.specs.Waits.{if_reader, tabled}
use Rattle.cx_shape_state.specs.Joining.{with_edges, joined}
use Rattle.cx_text.proofs.NumberLaws.{apart_numbers, apart_above, same_numbers}
use Rattle.cx_text.proofs.ListLaws.{nothing_more}

pub with_edge-edges : (g : Edges) (n m : ℕ) → with_edge g n m ≡ with_edges g n (m ∷ [])
with_edge-edges [] n m = refl
with_edge-edges (ms ∷ rest) zero m = refl
with_edge-edges (ms ∷ rest) (suc n) m = ap (λ g. ms ∷ g) (with_edge-edges rest n m)

pub with_edges-none : (g : Edges) (n : ℕ) → with_edges g n [] ≡ g
with_edges-none [] n = refl
with_edges-none (ms ∷ rest) zero = ap (λ l. l ∷ rest) (nothing_more ms)
with_edges-none (ms ∷ rest) (suc n) = ap (λ g. ms ∷ g) (with_edges-none rest n)

pub with_edges-more : (g : Edges) (n : ℕ) (xs ys : List ℕ) → with_edges (with_edges g n xs) n ys ≡ with_edges g n (xs ++ ys)
with_edges-more [] n xs ys = refl
with_edges-more (ms ∷ rest) zero xs ys = ap (λ l. l ∷ rest) (append_assoc ms xs ys)
with_edges-more (ms ∷ rest) (suc n) xs ys = ap (λ g. ms ∷ g) (with_edges-more rest n xs ys)

pub joined-none : (g : Edges) (n : ℕ) → joined g n (λ c. []) ≡ g
joined-none [] n = refl
joined-none (ms ∷ rest) n = ap (λ l. l ∷ joined rest (suc n) (λ c. [])) (nothing_more ms) ∙ ap (λ g. ms ∷ g) (joined-none rest (suc n))

pub joined-same : (g : Edges) (n : ℕ) (f h : ℕ → List ℕ) → ((c : ℕ) → f c ≡ h c) → joined g n f ≡ joined g n h
joined-same [] n f h e = refl
joined-same (ms ∷ rest) n f h e = ap (λ l. (ms ++ l) ∷ joined rest (suc n) f) (e n) ∙ ap (λ g. (ms ++ h n) ∷ g) (joined-same rest (suc n) f h e)

pub joined-more : (g : Edges) (n : ℕ) (f h : ℕ → List ℕ) → joined (joined g n f) n h ≡ joined g n (λ c. f c ++ h c)
joined-more [] n f h = refl
joined-more (ms ∷ rest) n f h = ap (λ l. l ∷ joined (joined rest (suc n) f) (suc n) h) (append_assoc ms (f n) (h n)) ∙ ap (λ g. (ms ++ (f n ++ h n)) ∷ g) (joined-more rest (suc n) f h)

joined_past : (g : Edges) (n : ℕ) (f : ℕ → List ℕ) → ((c : ℕ) → n ≤ c → f c ≡ []) → joined g n f ≡ g
joined_past [] n f e = refl
joined_past (ms ∷ rest) n f e =
    ap (λ l. (ms ++ l) ∷ joined rest (suc n) f) (e n (omega arith))
    ∙ ap (λ l. l ∷ joined rest (suc n) f) (nothing_more ms)
    ∙ ap (λ g. ms ∷ g) (joined_past rest (suc n) f (λ c h. e c (omega (arith, h))))

-- what one node gets
pub joined-one : (g : Edges) (n t d : ℕ) (f : ℕ → List ℕ) → t ≡ n + d → with_edges g d (f t) ≡ joined g n (λ c. if_reader (Some t) c (f c))
joined-one [] n t d f e = refl
joined-one (ms ∷ rest) n t zero f e =
    let same : t ≡ n = omega (arith, e) in
    let at : cond (nat_eq t n) (f n) [] ≡ f t = ap (λ b. cond b (f n) []) (same_numbers t n same) ∙ ap f (sym same) in
    let past = joined_past rest (suc n) (λ c. if_reader (Some t) c (f c)) (λ c h. ap (λ b. cond b (f c) []) (apart_numbers t c (omega (arith, h, same)))) in
    ap (λ l. (ms ++ l) ∷ rest) (sym at) ∙ ap (λ g. (ms ++ if_reader (Some t) n (f n)) ∷ g) (sym past)
joined-one (ms ∷ rest) n t (suc d) f e =
    let apart : cond (nat_eq t n) (f n) [] ≡ [] = ap (λ b. cond b (f n) []) (apart_above t n (omega (arith, e))) in
    ap (λ g. ms ∷ g) (joined-one rest (suc n) t d f (omega (arith, e)))
    ∙ ap (λ l. l ∷ joined rest (suc n) (λ c. if_reader (Some t) c (f c))) (sym (nothing_more ms) ∙ ap (λ l. ms ++ l) (sym apart))

pub joined_no_edges : (f : ℕ → List ℕ) (n k : ℕ) → joined (no_edges k) n f ≡ tabled f n k
joined_no_edges f n zero = refl
joined_no_edges f n (suc k) = ap (λ g. f n ∷ g) (joined_no_edges f (suc n) k)

-- one more item is looked at
pub next_joined : {X A : Type 0} (view : X → A) (f : ℕ → A → List ℕ) (k : ℕ) (xs : List X) (x : X) (now new rest : Edges)
    → drop k xs ≡ x ∷ drop (k + 1) xs → new ≡ joined now 0 (λ c. f c (view x)) → joined now 0 (λ c. flat_map (f c) (map view (drop k xs))) ≡ rest
    → joined new 0 (λ c. flat_map (f c) (map view (drop (k + 1) xs))) ≡ rest
next_joined view f k xs x now new rest at step so_far =
    ap (λ g. joined g 0 (λ c. flat_map (f c) (map view (drop (k + 1) xs)))) step
    ∙ joined-more now 0 (λ c. f c (view x)) (λ c. flat_map (f c) (map view (drop (k + 1) xs)))
    ∙ ap (λ l. joined now 0 (λ c. flat_map (f c) (map view l))) (sym at)
    ∙ so_far

pub next_edges : {A : Type 0} (f : A → List ℕ) (k n : ℕ) (xs : List A) (x : A) (now new rest : Edges)
    → drop k xs ≡ x ∷ drop (k + 1) xs → new ≡ with_edges now n (f x) → with_edges now n (flat_map f (drop k xs)) ≡ rest
    → with_edges new n (flat_map f (drop (k + 1) xs)) ≡ rest
next_edges f k n xs x now new rest at step so_far =
    ap (λ g. with_edges g n (flat_map f (drop (k + 1) xs))) step
    ∙ with_edges-more now n (f x) (flat_map f (drop (k + 1) xs))
    ∙ ap (λ l. with_edges now n (flat_map f l)) (sym at)
    ∙ so_far

-- nothing is left to be looked at
pub all_joined : {X A : Type 0} (view : X → A) (f : ℕ → A → List ℕ) (xs : List X) (now rest : Edges) → xs ≡ [] → joined now 0 (λ c. flat_map (f c) (map view xs)) ≡ rest → now ≡ rest
all_joined view f xs now rest none so_far = sym (joined-none now 0) ∙ ap (λ l. joined now 0 (λ c. flat_map (f c) (map view l))) (sym none) ∙ so_far

pub all_edges : {A : Type 0} (f : A → List ℕ) (n : ℕ) (xs : List A) (now rest : Edges) → xs ≡ [] → with_edges now n (flat_map f xs) ≡ rest → now ≡ rest
all_edges f n xs now rest none so_far = sym (with_edges-none now n) ∙ ap (λ l. with_edges now n (flat_map f l)) (sym none) ∙ so_far
