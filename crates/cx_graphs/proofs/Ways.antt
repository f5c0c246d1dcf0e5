-- A search begins, goes on, and ends with all that is reached.
use Rattle.std.proofs.Common.{◌≡◌, ℕ, ◌<◌, Bool, true, List, [], ◌∷◌, ◌++◌, length, inl, inr, ⊎_elim, refl, sym, ◌∙◌, subst}
use Rattle.std.proofs.lemmas.Option.{slice_get_within}
use Rattle.cx_text.specs.Members.{In}
use Rattle.cx_graphs.specs.Graphs.{Edges, targets_of, IsReached, at_start, by_edge, Marked, Spread}
use Rattle.cx_graphs.specs.Search.{IsUnderWay}
use Rattle.cx_graphs.proofs.Marks.{in_left, in_right, in_either}

pub begins : (g : Edges) (starts : List ℕ) (marks : List Bool) (waiting : List ℕ) (none : List Bool) → length none ≡ length g → ((n : ℕ) → Marked none n → ⊥)
    → Spread none [] starts marks waiting → IsUnderWay g starts marks waiting
begins g starts marks waiting none long clean s = record {
  same_length = s.same_length ∙ long;
  sound = λ n k. ⊎_elim (λ m. absurd (clean n m)) (λ j. at_start j.0) (s.new n k);
  begun = λ n i. s.marked n i;
  waits = λ n i. ⊎_elim (λ w. absurd w) (λ j. s.marked n j) (s.known n i);
  gone = λ n k. ⊎_elim (λ m. absurd (clean n m)) (λ j. inl j.1) (s.new n k);
}

-- the last that waits is gone through
pub goes_on : (g : Edges) (starts : List ℕ) (marks : List Bool) (waiting rest : List ℕ) (node : ℕ) (after : List Bool) (more : List ℕ)
    → waiting ≡ rest ++ node ∷ [] → IsUnderWay g starts marks waiting → Spread marks rest (targets_of g node) after more → IsUnderWay g starts after more
goes_on g starts marks waiting rest node after more e way s =
    let waited : (n : ℕ) → In (rest ++ node ∷ []) n → Marked marks n = λ n i. way.waits n (subst (λ l. In l n) (sym e) i) in
    let reached : IsReached g starts node = way.sound node (waited node (in_right rest (node ∷ []) node (inl refl))) in
    record {
      same_length = s.same_length ∙ way.same_length;
      sound = λ n k. ⊎_elim (λ m. way.sound n m) (λ j. by_edge node reached j.0) (s.new n k);
      begun = λ n i. s.kept n (way.begun n i);
      waits = λ n i. ⊎_elim (λ w. s.kept n (waited n (in_left rest (node ∷ []) n w))) (λ j. s.marked n j) (s.known n i);
      gone = λ n k. ⊎_elim
          (λ m. ⊎_elim
          (λ w. ⊎_elim
          (λ l. inl (s.still n l))
          (λ r. ⊎_elim (λ same. inr (λ t i. s.marked t (subst (λ v. In (targets_of g v) t) (sym same) i))) (λ j. absurd j) r)
          (in_either rest (node ∷ []) n (subst (λ l. In l n) e w)))
          (λ f. inr (λ t i. s.kept t (f t i)))
          (way.gone n m))
          (λ j. inl j.1)
          (s.new n k);
    }

-- where nothing waits, all that is reached is marked
pub ends : (g : Edges) (starts : List ℕ) (marks : List Bool) → IsUnderWay g starts marks [] → (n : ℕ) → IsReached g starts n → Marked marks n
ends g starts marks way n (at_start i) = way.begun n i
ends g starts marks way n (by_edge m r i) = ⊎_elim (λ w. absurd w) (λ f. f n i) (way.gone m (ends g starts marks way m r))

-- what waits is a node
pub waits_within : (g : Edges) (starts : List ℕ) (marks : List Bool) (waiting rest : List ℕ) (node : ℕ) → waiting ≡ rest ++ node ∷ [] → IsUnderWay g starts marks waiting → node < length g
waits_within g starts marks waiting rest node e way =
    subst (λ n. node < n) way.same_length (slice_get_within marks node true (way.waits node (subst (λ l. In l node) (sym e) (in_right rest (node ∷ []) node (inl refl)))))
