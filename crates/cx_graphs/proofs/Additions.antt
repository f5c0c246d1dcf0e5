-- Edges that are added one after the other.
use Rattle.std.proofs.Common.{◌≡◌, ℕ, zero, suc, ◌+◌, ◌<◌, List, [], ◌∷◌, ◌++◌, length, slice_set, ◌⊎◌, inl, inr, ⊎_elim, refl, sym, ap, ◌∙◌, subst, arith}
use Rattle.std.proofs.lemmas.List.{length-append, length-map, length-set}
use Rattle.std.specs.declared.vec.Vec.{Vec}
use Rattle.cx_text.proofs.MemberLaws.{in_left}
use Rattle.cx_text.specs.Members.{In}
use Rattle.cx_graphs.specs.Graphs.{Edges, edges_of, targets_of}
use Rattle.cx_graphs.specs.Additions.{Link, IsEdge, Adds, IsBare, IntoNode, IsBackOfFirst}
use Rattle.cx_graphs.specs.Ways.{IsTurned}
use Rattle.cx_graphs.proofs.WalkLemmas.{targets_within}
use Rattle.cx_graphs.proofs.Lists.{in_last, the_last}
use Rattle.cx_text.proofs.NumberLaws.{same_or_not}

pub adds_none : (g : Edges) (more : Link) → ((m n : ℕ) → more m n → ⊥) → Adds g more g
adds_none g more none = record { same_length = refl; kept = λ m n i. i; all = λ m n e. absurd (none m n e); known = λ m n i. inl i }

pub adds_then : (g h k : Edges) (a b : Link) → Adds g a h → Adds h b k → Adds g (λ m n. a m n ⊎ b m n) k
adds_then g h k a b x y = record {
  same_length = y.same_length ∙ x.same_length;
  kept = λ m n i. y.kept m n (x.kept m n i);
  all = λ m n e. ⊎_elim (λ f. y.kept m n (x.all m n f)) (λ f. y.all m n f) e;
  known = λ m n i. ⊎_elim (λ j. ⊎_elim inl (λ e. inr (inl e)) (x.known m n j)) (λ e. inr (inr e)) (y.known m n i);
}

pub adds_as : (g h : Edges) (a b : Link) → ((m n : ℕ) → a m n → b m n) → ((m n : ℕ) → b m n → a m n) → Adds g a h → Adds g b h
adds_as g h a b to from x = record {
  same_length = x.same_length;
  kept = x.kept;
  all = λ m n e. x.all m n (from m n e);
  known = λ m n i. ⊎_elim inl (λ e. inr (to m n e)) (x.known m n i);
}

-- what is added to a bare graph is all that it has
pub bare_adds : (count : ℕ) (g h : Edges) (a : Link) → IsBare count g → Adds g a h → (m n : ℕ) → In (targets_of h m) n → a m n
bare_adds count g h a bare x m n i = ⊎_elim (λ j. absurd (bare.no_edges m n j)) (λ e. e) (x.known m n i)

-- the edges of a node after its list is replaced
set_same : {A : Type 0} (lists : List (Vec ℕ A)) (from : ℕ) (list : Vec ℕ A) → from < length lists → targets_of (edges_of (slice_set lists from list)) from ≡ list.items
set_same [] from list h = absurd (omega (arith, h))
set_same (x ∷ lists) zero list h = refl
set_same (x ∷ lists) (suc from) list h = set_same lists from list (omega (arith, h))

set_apart : {A : Type 0} (lists : List (Vec ℕ A)) (from m : ℕ) (list : Vec ℕ A) → (from ≡ m → ⊥) → targets_of (edges_of (slice_set lists from list)) m ≡ targets_of (edges_of lists) m
set_apart [] from m list d = refl
set_apart (x ∷ lists) zero zero list d = absurd (d refl)
set_apart (x ∷ lists) zero (suc m) list d = refl
set_apart (x ∷ lists) (suc from) zero list d = refl
set_apart (x ∷ lists) (suc from) (suc m) list d = set_apart lists from m list (λ e. d (ap suc e))

pub edge_added : {A : Type 0} (lists after : List (Vec ℕ A)) (from to : ℕ) (before list : Vec ℕ A) → from < length lists → targets_of (edges_of lists) from ≡ before.items
    → list.items ≡ before.items ++ to ∷ [] → after ≡ slice_set lists from list → Adds (edges_of lists) (IsEdge from to) (edges_of after)
edge_added lists after from to before list h was is e = subst (λ l. Adds (edges_of lists) (IsEdge from to) (edges_of l)) (sym e) (record {
  same_length = length-map (slice_set lists from list) _ ∙ length-set lists from list ∙ sym (length-map lists _);
  kept = λ m n i. ⊎_elim
      (λ same. subst (λ k. In (targets_of (edges_of (slice_set lists from list)) k) n) same
      (subst (λ l. In l n) (sym now) (in_left (targets_of (edges_of lists) from) (to ∷ []) n (subst (λ k. In (targets_of (edges_of lists) k) n) (sym same) i))))
      (λ d. subst (λ l. In l n) (sym (set_apart lists from m list d)) i)
      (same_or_not from m);
  all = λ m n p. subst (λ k. In (targets_of (edges_of (slice_set lists from list)) k) n) (sym p.0)
      (subst (λ l. In l n) (sym now) (subst (In (targets_of (edges_of lists) from ++ to ∷ [])) (sym p.1) (the_last (targets_of (edges_of lists) from) to)));
  known = λ m n i. ⊎_elim
      (λ same. ⊎_elim
      (λ j. inl (subst (λ k. In (targets_of (edges_of lists) k) n) same j))
      (λ p. inr (sym same, sym p))
      (in_last (targets_of (edges_of lists) from) to n (subst (λ l. In l n) now (subst (λ k. In (targets_of (edges_of (slice_set lists from list)) k) n) (sym same) i))))
      (λ d. inl (subst (λ l. In l n) (set_apart lists from m list d) i))
      (same_or_not from m);
})
  where
    now : targets_of (edges_of (slice_set lists from list)) from ≡ targets_of (edges_of lists) from ++ to ∷ []
    now = set_same lists from list h ∙ is ∙ ap (λ l. l ++ to ∷ []) (sym was)

targets_last : {A : Type 0} (lists : List (Vec ℕ A)) (list : Vec ℕ A) (m n : ℕ) → In (targets_of (edges_of (lists ++ list ∷ [])) m) n → In (targets_of (edges_of lists) m) n ⊎ In list.items n
targets_last [] list zero n i = inr i
targets_last [] list (suc m) n i = inl i
targets_last (x ∷ lists) list zero n i = inl i
targets_last (x ∷ lists) list (suc m) n i = targets_last lists list m n i

pub bare_more : {A : Type 0} (count : ℕ) (lists after : List (Vec ℕ A)) (list : Vec ℕ A) → after ≡ lists ++ list ∷ [] → list.items ≡ [] → IsBare count (edges_of lists) → IsBare (count + 1) (edges_of after)
bare_more count lists after list e none bare = subst (λ l. IsBare (count + 1) (edges_of l)) (sym e) (record {
  same_length = let short = bare.same_length in omega (arith, short, length-map lists (λ v. v.items), length-map (lists ++ list ∷ []) (λ v. v.items), length-append lists (list ∷ []));
  no_edges = λ m n i. ⊎_elim (λ j. bare.no_edges m n j) (λ j. subst (λ l. In l n) none j) (targets_last lists list m n i);
})

-- what is added to lists in memory keeps their number
pub same_nodes : {A B : Type 0} (lists : List (Vec ℕ A)) (after : List (Vec ℕ B)) (more : Link) → Adds (edges_of lists) more (edges_of after) → length after ≡ length lists
same_nodes lists after more a = sym (length-map after (λ v. v.items)) ∙ a.same_length ∙ length-map lists (λ v. v.items)

-- TURNED ROUND: one more node of a list, and one more list
pub no_nodes : (g : Edges) (to : ℕ) → Adds g (IntoNode [] to) g
no_nodes g to = adds_none g (IntoNode [] to) (λ m n h. h.0)

pub more_nodes : (g h k : Edges) (list : List ℕ) (node to : ℕ) → Adds g (IntoNode list to) h → Adds h (IsEdge node to) k → Adds g (IntoNode (list ++ node ∷ []) to) k
more_nodes g h k list node to x y = adds_as g k (λ m n. IntoNode list to m n ⊎ IsEdge node to m n) (IntoNode (list ++ node ∷ []) to)
    (λ m n e. ⊎_elim (λ p. (in_left list (node ∷ []) m p.0, p.1)) (λ p. (subst (In (list ++ node ∷ [])) (sym p.0) (the_last list node), p.1)) e)
    (λ m n e. ⊎_elim (λ i. inl (i, e.1)) (λ same. inr (sym same, e.1)) (in_last list node m e.0))
    (adds_then g h k (IntoNode list to) (IsEdge node to) x y)

pub none_back : (g h : Edges) → Adds h (IsBackOfFirst g 0) h
none_back g h = adds_none h (IsBackOfFirst g 0) (λ m n e. let none : n < 0 = e.0 in omega (arith, none))

pub more_back : (g h k l : Edges) (count : ℕ) → Adds h (IsBackOfFirst g count) k → Adds k (IntoNode (targets_of g count) count) l → Adds h (IsBackOfFirst g (count + 1)) l
more_back g h k l count x y = adds_as h l (λ m n. IsBackOfFirst g count m n ⊎ IntoNode (targets_of g count) count m n) (IsBackOfFirst g (count + 1))
    (λ m n e. ⊎_elim
    (λ p. let lt : n < count = p.0 in (omega (arith, lt), p.1))
    (λ p. let same : n ≡ count = p.1 in (omega (arith, same), subst (λ j. In (targets_of g j) m) (sym same) p.0)) e)
    (λ m n e. ⊎_elim (λ lt. inl (lt, e.1)) (λ same. inr (subst (λ j. In (targets_of g j) m) same e.1, same)) (last_or count n e.0))
    (adds_then h k l (IsBackOfFirst g count) (IntoNode (targets_of g count) count) x y)
  where
    last_or : (count n : ℕ) → n < count + 1 → (n < count) ⊎ (n ≡ count)
    last_or count n h = ⊎_elim (λ e. inr e) (λ d. inl (omega (arith, h, d))) (same_or_not n count)

pub all_back : (g h k : Edges) (count : ℕ) → length g ≡ count → IsBare count h → Adds h (IsBackOfFirst g count) k → IsTurned g k
all_back g h k count long bare x = (
  x.same_length ∙ bare.same_length ∙ sym long,
  λ m n. (
    λ i. (bare_adds count h k (IsBackOfFirst g count) bare x m n i).1,
    λ i. x.all m n (subst (λ j. n < j) long (targets_within g n m i), i),
  ),
)

-- a node without its edges
pub cleared : {A : Type 0} (lists : List (Vec ℕ A)) (node : ℕ) (list : Vec ℕ A) → node < length lists → list.items ≡ [] → (m n : ℕ) → In (targets_of (edges_of (slice_set lists node list)) m) n
    → In (targets_of (edges_of lists) m) n × (m ≡ node → ⊥)
cleared lists node list h none m n i =
    ⊎_elim
    (λ same. absurd (subst (λ l. In l n) (set_same lists node list h ∙ none) (subst (λ k. In (targets_of (edges_of (slice_set lists node list)) k) n) (sym same) i)))
    (λ d. (subst (λ l. In l n) (set_apart lists node m list d) i, λ e. d (sym e)))
    (same_or_not node m)
