-- How many counts each component shows.
use Rattle.std.proofs.Common.{◌≡◌, ◌≢◌, ℕ, suc, ◌+◌, ◌<◌, ◌≤◌, Bool, true, false, not, ◌&&◌, ◌||◌, inl, inr, ◌⊎◌, List, [], ◌∷◌, ◌++◌, length, map, take, get_or, Some, refl, sym, ap, ◌∙◌, subst, arith, set}
use Rattle.std.specs.Prelude.{nat_eq, if◌then◌else◌}
use Rattle.std.specs.List.{slice_get, range_with_len}
use Rattle.std.proofs.Math.Logic.{∥∥₁_elim}
use denote.Struct.Props.{props}
use Rattle.std.proofs.lemmas.Bool.{eqb-true, eq-eqb, cases_eq}
use Rattle.std.proofs.lemmas.List.{length-map, length-append, length-set, get_or-set_same, get_or-set_other, take_all, take_more}
use Rattle.std.proofs.lemmas.List.FromFn.{get_or-map-range_with_len, length-map-range_with_len}
use Rattle.std.proofs.lemmas.Option.{slice_get-get_or}
use Rattle.cx_text.proofs.MemberLaws.{in_at}
use Rattle.cx_meaning.specs.Designs.{PlainKind, OfPrimitive, OfComponent, PlainCell, PlainComponent, PlainDesign, component_at, has_number}
use Rattle.cx_meaning.specs.Instances.{Instance, Node, add_cell, cells_for, part_of}
use Rattle.cx_text.specs.Members.{In}
use Rattle.cx_rules.specs.Ports.{component_of}
use Rattle.cx_rules.specs.Wellformed.{LeadsTo, by_cell, by_way_of, IsDesign}
use Rattle.cx_design_sizes.specs.Orders.{IsChildrenFirst}
use Rattle.cx_design_sizes.proofs.Places.{in_snoc}
use Rattle.cx_state.proofs.TreeLemmas.{child_in, tree_is}
use Rattle.cx_profiling.specs.Counters.{counters_from, Shown, shown_here, shown_at_cell, shown_in, shown_below, first_gained}
use Rattle.cx_rules.specs.Counts.{is_one_of}
use Rattle.cx_profiling.specs.Instrumented.{is_reached, gained}
use Rattle.cx_profiling.proofs.ReachedLemmas.{is_reached-to}
use Rattle.cx_profile.specs.Counted.{counted_among}
use Rattle.cx_profile.specs.Gains.{kind_count, cells_count, shown_count, AreShown}
use Rattle.cx_profile.specs.Renumbering.{AreGained}
use Rattle.cx_profile.proofs.CountLemmas.{counted_among-counters}

-- THE COUNTS of cells, where those of their components are known
at_cell-length : (c p : ℕ) (xs : List Shown) → length (shown_at_cell c p xs) ≡ length xs
at_cell-length c p [] = refl
at_cell-length c p (x ∷ xs) = ap suc (at_cell-length c (suc p) xs)

abbrev Known : (ℕ → Instance) → List ℕ → List PlainCell → Type 0
Known trees counts cells = (cell : PlainCell) (j : ℕ) → In cells cell → cell.kind ≡ OfComponent j → get_or counts j 0 ≡ length (shown_in (trees j))

below-length : (trees : ℕ → Instance) (counts : List ℕ) (cells : List PlainCell) (c : ℕ) → Known trees counts cells → length (shown_below (cells_for trees cells) c) ≡ cells_count counts cells
below-length trees counts [] c known = refl
below-length trees counts (cell ∷ cells) c known = by cell.kind (λ j e. known cell j (inl refl) e) (below-length trees counts cells (suc c) (λ x j i. known x j (inr i)))
  where
    by : (kind : PlainKind) → ((j : ℕ) → kind ≡ OfComponent j → get_or counts j 0 ≡ length (shown_in (trees j))) → length (shown_below (cells_for trees cells) (suc c)) ≡ cells_count counts cells
        → length (shown_below (add_cell trees kind (cells_for trees cells)) c) ≡ kind_count counts kind + cells_count counts cells
    by (OfPrimitive primitive) own rest = rest ∙ let z : cells_count counts cells ≡ 0 + cells_count counts cells = omega arith in z
    by (OfComponent j) own rest =
        let here : get_or counts j 0 ≡ length (shown_in (trees j)) = own j refl in
        let first : length (shown_at_cell c (first_gained (part_of (trees j))) (shown_in (trees j))) ≡ length (shown_in (trees j)) = at_cell-length c (first_gained (part_of (trees j))) (shown_in (trees j)) in
        let both : length (shown_at_cell c (first_gained (part_of (trees j))) (shown_in (trees j)) ++ shown_below (cells_for trees cells) (suc c))
        ≡ length (shown_at_cell c (first_gained (part_of (trees j))) (shown_in (trees j))) + length (shown_below (cells_for trees cells) (suc c)) =
        length-append (shown_at_cell c (first_gained (part_of (trees j))) (shown_in (trees j))) (shown_below (cells_for trees cells) (suc c)) in
        omega arith

-- of an instance, by its component
instance-length : (trees : ℕ → Instance) (counts : List ℕ) (part : PlainComponent) → Known trees counts part.cells → length (shown_in (Node part (cells_for trees part.cells))) ≡ shown_count counts part
instance-length trees counts part known =
    let cells = cells_for trees part.cells in
    let own : length (map shown_here (counters_from cells (length part.cells) 0 part.groups)) ≡ length (counters_from cells (length part.cells) 0 part.groups) = length-map (counters_from cells (length part.cells) 0 part.groups) shown_here in
    let counted : length (counters_from cells (length part.cells) 0 part.groups) ≡ counted_among part.cells part.groups = counted_among-counters trees part.cells (length part.cells) 0 part.groups in
    let below : length (shown_below cells 0) ≡ cells_count counts part.cells = below-length trees counts part.cells 0 known in
    let both : length (map shown_here (counters_from cells (length part.cells) 0 part.groups) ++ shown_below cells 0) ≡ length (map shown_here (counters_from cells (length part.cells) 0 part.groups)) + length (shown_below cells 0) =
    length-append (map shown_here (counters_from cells (length part.cells) 0 part.groups)) (shown_below cells 0) in
    omega arith

-- A COMPONENT THAT IS REACHED stands in the order
in_has : (ks : List ℕ) (k : ℕ) → In ks k → is_one_of k ks ≡ true
in_has [] k i = absurd i
in_has (n ∷ ks) k (inl e) = ap (λ b. b || is_one_of k ks) (eq-eqb k n (sym e))
in_has (n ∷ ks) k (inr i) = ap (λ b. nat_eq k n || b) (in_has ks k i) ∙ by (nat_eq k n)
  where
    by : (b : Bool) → b || true ≡ true
    by true = refl
    by false = refl

has_in : (ks : List ℕ) (k : ℕ) → is_one_of k ks ≡ true → In ks k
has_in [] k h = absurd cc
has_in (n ∷ ks) k h = by (nat_eq k n) refl h (has_in ks k)
  where
    by : (b : Bool) → nat_eq k n ≡ b → b || is_one_of k ks ≡ true → (is_one_of k ks ≡ true → In ks k) → In (n ∷ ks) k
    by true e h more = inl (sym (eqb-true k n e))
    by false e h more = inr (more h)

-- THE COUNTS so far: those of the first components of the order are known
pub record IsCountedTo (d : PlainDesign) (order : List ℕ) (i : ℕ) (counts : List ℕ) : Type 0 where
  pub sized : length counts ≡ length d.components
  pub known : (k : ℕ) → In (take i order) k → get_or counts k 0 ≡ length (shown_in (component_of d k))

module _ (d : PlainDesign) (order : List ℕ) (first : IsChildrenFirst d order) where
  leads_in : (m n : ℕ) → LeadsTo d m n → In order m → In order n
  leads_in m n (by_cell j cell i e) here = child_in d order first m n cell here i e
  leads_in m n (by_way_of k a b) here = leads_in k n b (leads_in m k a here)

  reached_in : IsDesign d → (k : ℕ) → is_reached d k ≡ true → is_one_of k order ≡ true
  reached_in rules k h = by (is_reached-to d rules k h)
    where
      by : (d.main ≡ k) ⊎ LeadsTo d d.main k → is_one_of k order ≡ true
      by (inl e) = in_has order k (subst (In order) e first.main)
      by (inr l) = in_has order k (leads_in d.main k l first.main)

  in_order : ∥ IsDesign d ∥₁ → (k : ℕ) → is_reached d k ≡ true → In order k
  in_order keeps k h = has_in order k (∥∥₁_elim keeps (hlevel props) (λ rules. reached_in rules k h))

  pub counted_none : (counts : List ℕ) → length counts ≡ length d.components → IsCountedTo d order 0 counts
  counted_none counts sized = record { sized = sized; known = λ k i. absurd i }

  counts-are : (i k : ℕ) (counts : List ℕ) → slice_get order i ≡ Some k → In order k → IsCountedTo d order i counts → length (shown_in (component_of d k)) ≡ shown_count counts (component_at d k)
  counts-are i k counts at here known =
      ap (λ t. length (shown_in t)) (tree_is d order k first here)
      ∙ instance-length (component_of d) counts (component_at d k) (λ cell j c e. known.known j (first.behind i k j cell at c e))

  -- one component more
  pub counted_next : (i none : ℕ) (counts : List ℕ) (part : PlainComponent) (v : ℕ) → IsCountedTo d order i counts → i < length order → part ≡ component_at d (get_or order i none) → v ≡ shown_count counts part
      → IsCountedTo d order (i + 1) (set counts (get_or order i none) v)
  counted_next i none counts part v known less own is = record { sized = length-set counts (get_or order i none) v ∙ known.sized; known = λ j h. one j (cases_eq k j) (in_snoc (take i order) j k (subst (λ xs. In xs j) taken h)) }
    where
      k : ℕ
      k = get_or order i none

      at : slice_get order i ≡ Some k
      at = slice_get-get_or order i none less

      here : In order k
      here = in_at order i k at

      taken : take (i + 1) order ≡ take i order ++ k ∷ []
      taken = take_more order i none less

      within : k < length counts
      within = subst (λ n. k < n) (sym known.sized) (first.there k here)

      right : v ≡ length (shown_in (component_of d k))
      right = is ∙ ap (shown_count counts) own ∙ sym (counts-are i k counts at here known)

      one : (j : ℕ) → (k ≡ j) ⊎ (k ≡ j → ⊥) → In (take i order) j ⊎ (k ≡ j) → get_or (set counts k v) j 0 ≡ length (shown_in (component_of d j))
      one j (inl same) h = subst (λ x. get_or (set counts k v) x 0 ≡ length (shown_in (component_of d x))) same (get_or-set_same counts k v 0 within ∙ right)
      one j (inr other) (inl before) = get_or-set_other counts k j v 0 (λ e. other (sym e)) ∙ known.known j before
      one j (inr other) (inr same) = absurd (other same)

  -- the component of a turn is there
  pub turn_within : (i none : ℕ) → i < length order → get_or order i none < length d.components
  turn_within i none less = first.there (get_or order i none) (in_at order i (get_or order i none) (slice_get-get_or order i none less))

  -- behind the last component
  pub counted_all : ∥ IsDesign d ∥₁ → (i : ℕ) (counts : List ℕ) → length order ≤ i → IsCountedTo d order i counts → AreShown d counts
  counted_all keeps i counts past known = record {
    sized = known.sized;
    shown = λ k h. known.known k (subst (λ xs. In xs k) (sym (take_all i order past)) (in_order keeps k h));
    trees = λ k h. tree_is d order k first (in_order keeps k h);
  }

-- THE OUTPUTS that a component gains
module _ (d : PlainDesign) where
  pub gained_none : (k : ℕ) → (is_reached d k ≡ false) ⊎ (k ≡ d.main) → gained d k ≡ 0
  gained_none k (inl e) = ap (λ b. if b && not (nat_eq k d.main) then length (shown_in (component_of d k)) else 0) e
  gained_none k (inr e) = ap (λ b. if is_reached d k && not b then length (shown_in (component_of d k)) else 0) (eq-eqb k d.main e) ∙ by (is_reached d k)
    where
      by : (b : Bool) → (if b && false then length (shown_in (component_of d k)) else 0) ≡ 0
      by true = refl
      by false = refl

  pub are_gained : (outputs : List ℕ) (n : ℕ) → n ≡ length d.components → outputs ≡ map (gained d) (range_with_len 0 n) → AreGained d outputs
  are_gained outputs n count is k less =
      let short : k < n = omega arith in
      let long : length outputs ≡ n = ap length is ∙ length-map-range_with_len (gained d) 0 n in
      let there : k < length outputs = omega arith in
      slice_get-get_or outputs k 0 there ∙ ap (λ x. Some x) (ap (λ xs. get_or xs k 0) is ∙ get_or-map-range_with_len (gained d) 0 n k k 0 short (omega arith))
