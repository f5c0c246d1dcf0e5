-- Zeros have the widths of the nets and the arrays.
use Rattle.std.proofs.Common.{◌≡◌, ℕ, zero, suc, ◌+◌, List, [], ◌∷◌, ◌++◌, map, length, Some, option_map, slice_get, refl, ap, sym, ◌∙◌, length-append, arith}
use Rattle.std.specs.Prelude.{replicate}
use Rattle.cx_bits.specs.BitVector.{BitVector, zero_of}
use Rattle.cx_vtree.specs.Plain.{PlainDecl, WireOf, RegisterOf, ArrayOf}
use Rattle.cx_vtree.specs.InstanceTree.{Placed, decls_at, nets_at}
use Rattle.cx_vnets.specs.declared.arrays.Words.{Words}
use Rattle.cx_vnets.specs.Fits.{width_at}
use Rattle.cx_vnets.specs.Stores.{PlainWords, plain_words}
use Rattle.cx_vnets.specs.CodeLaws.{net_widths, array_widths}
use Rattle.cx_vnets.specs.Numbers.{nets_before, arrays_before}
use Rattle.cx_velab.specs.Tables.{module_zeros, zero_arrays, all_zeros, all_zero_arrays}
use Rattle.cx_velab.specs.FitsLaws.{ZerosFit}
use Rattle.cx_velab.proofs.ZeroLemmas.{before_first, length-net_widths, zeros_at, zero_arrays_at, zeros}
use Rattle.cx_text.proofs.ListLaws.{at_map, length-map}

-- as many zeros as nets
zeros_count : (tree : List Placed) → length (all_zeros tree) ≡ nets_before tree (length tree)
zeros_count [] = refl
zeros_count (p ∷ ps) =
    let first = before_first (nets_at (p ∷ ps)) (nets_at ps) (λ j. refl) (length ps) in
    let long = length-map zero_of (net_widths p.part.ports p.part.decls) ∙ length-net_widths p.part.ports p.part.decls in
    let both = length-append (module_zeros p.part) (all_zeros ps) in
    let rest = zeros_count ps in
    omega arith

-- an array has zeros of its width
array_zeros : (ds : List PlainDecl) (a w : ℕ) → slice_get (array_widths ds) a ≡ Some w → (k : ℕ) × (slice_get (zero_arrays ds) a ≡ Some (zeros w k))
array_zeros [] a w e = absurd (cc)
array_zeros (WireOf n v ∷ ds) a w e = array_zeros ds a w e
array_zeros (RegisterOf n v ∷ ds) a w e = array_zeros ds a w e
array_zeros (ArrayOf n v k ∷ ds) zero w e = let same : v ≡ w = cc in (k, ap (λ u. Some (zeros u k)) same)
array_zeros (ArrayOf n v k ∷ ds) (suc a) w e = array_zeros ds a w e

-- all arrays are of zeros
abbrev AreZeros : List PlainWords → Type 0
AreZeros xs = (a : ℕ) (x : PlainWords) → slice_get xs a ≡ Some x → (w : ℕ) × (k : ℕ) × (x ≡ zeros w k)

zeros_next : (w k : ℕ) (xs : List PlainWords) → AreZeros xs → AreZeros (zeros w k ∷ xs)
zeros_next w k xs h zero x e = let same : x ≡ zeros w k = cc in (w, k, same)
zeros_next w k xs h (suc a) x e = h a x e

zeros_both : (xs ys : List PlainWords) → AreZeros xs → AreZeros ys → AreZeros (xs ++ ys)
zeros_both [] ys h g a x e = g a x e
zeros_both (x ∷ xs) ys h g zero y e = h 0 y e
zeros_both (x ∷ xs) ys h g (suc a) y e = zeros_both xs ys (λ b z f. h (suc b) z f) g a y e

decl_zeros : (ds : List PlainDecl) → AreZeros (zero_arrays ds)
decl_zeros [] = λ a x e. absurd (cc)
decl_zeros (WireOf n v ∷ ds) = decl_zeros ds
decl_zeros (RegisterOf n v ∷ ds) = decl_zeros ds
decl_zeros (ArrayOf n v k ∷ ds) = zeros_next v k (zero_arrays ds) (decl_zeros ds)

tree_zeros : (tree : List Placed) → AreZeros (all_zero_arrays tree)
tree_zeros [] = λ a x e. absurd (cc)
tree_zeros (p ∷ ps) = zeros_both (zero_arrays p.part.decls) (all_zero_arrays ps) (decl_zeros p.part.decls) (tree_zeros ps)

word_width : (w k i : ℕ) (b : BitVector) → slice_get (replicate k (zero_of w)) i ≡ Some b → b.width ≡ w
word_width w zero i b e = absurd (cc)
word_width w (suc k) zero b e = let same : zero_of w ≡ b = cc in ap (λ x. x.width) (sym same)
word_width w (suc k) (suc i) b e = word_width w k i b e

array_at : (xs : List Words) (a : ℕ) (x : Words) → slice_get xs a ≡ Some x → slice_get (map plain_words xs) a ≡ Some (plain_words x)
array_at [] a x e = absurd (cc)
array_at (y ∷ xs) zero x e = let same : y ≡ x = cc in ap (λ z. Some (plain_words z)) same
array_at (y ∷ xs) (suc a) x e = array_at xs a x e

pub zeros_fit : ZerosFit
zeros_fit tree s nets arrays = record {
  count = ap length nets ∙ zeros_count tree;
  nets = λ i k w e. ap (λ l. width_at l (nets_before tree i + k)) nets ∙ ap (option_map (λ b. b.width)) (zeros_at tree i k w e);
  arrays = λ i a w e.
      let z = array_zeros (decls_at tree i) a w e in
      let x = at_map plain_words s.arrays.items (arrays_before tree i + a) (zeros w z.0) (ap (λ l. slice_get l (arrays_before tree i + a)) arrays ∙ zero_arrays_at tree i a (zeros w z.0) z.1) in
      ap (option_map (λ y. y.zero.width)) x.1 ∙ ap (λ p. Some p.zero.width) x.2;
  even = λ a x k b at word.
      let z = tree_zeros tree a (plain_words x) (ap (λ l. slice_get l a) (sym arrays) ∙ array_at s.arrays.items a x at) in
      let width_is : x.zero.width ≡ z.0 = ap (λ p. p.zero.width) z.2 in
      word_width z.0 z.1 k b (ap (λ p. slice_get p.words k) (sym z.2) ∙ word) ∙ sym width_is;
}
