-- The way through the components: the path from main to the one whose cells are gone through, and those that are placed.
use Rattle.std.proofs.Common.{◌≡◌, ◌≢◌, ℕ, zero, suc, ◌+◌, ◌<◌, ◌≤◌, inl, inr, ◌⊎◌, ⊎_elim, Bool, true, false, List, [], ◌∷◌, ◌++◌, length, map, take, set, replicate, Option, Some, None, refl, sym, ap, ◌∙◌, subst, arith}
use Rattle.std.specs.List.{slice_get}
use Rattle.std.proofs.Math.Logic.{∥∥₁_elim}
use denote.Struct.Props.{props}
use Rattle.std.proofs.lemmas.Bool.{cases_lt, cases_eq}
use Rattle.std.proofs.Math.Seq.{take-append_seam}
use Rattle.std.proofs.lemmas.List.{length-set, length-append, length-map, take-append-le}
use Rattle.cx_text.proofs.MemberLaws.{in_at, in_either, in_left, in_right, number_in}
use Rattle.cx_meaning.specs.Designs.{PlainKind, OfPrimitive, OfComponent, PlainCell, PlainDesign, component_at}
use Rattle.cx_text.specs.Members.{In}
use Rattle.cx_rules.specs.Wellformed.{IsDesign, LeadsTo, by_cell, by_way_of}
use Rattle.cx_rules.proofs.Finite.{Distinct}
use Rattle.cx_design_sizes.specs.declared.order.Step.{Step}
use Rattle.cx_design_sizes.specs.Orders.{IsChildrenFirst, if_unplaced, unplaced, ArePlaced, IsNext}
use Rattle.cx_design_sizes.proofs.Places.{slice_get-replicate, in_snoc, snoc_place, distinct_snoc, distinct_append, few_below}
use Rattle.cx_text.proofs.OptionLaws.{none_is_some}
use Rattle.cx_text.proofs.ListLaws.{set_same, set_other, there_below}
use Rattle.cx_rules.proofs.ItemsLemmas.{kind_there}

-- a component that is cut off from others
abbrev pub comps : List Step → List ℕ
comps path = map (λ s. s.component) path

-- each leads to all behind it
abbrev pub IsPath : PlainDesign → List ℕ → Type 0
IsPath d [] = Unit {0}
IsPath d (k ∷ ks) = ((j : ℕ) → In ks j → LeadsTo d k j) × IsPath d ks

path_snoc : (d : PlainDesign) (ks : List ℕ) (x : ℕ) → IsPath d ks → ((j : ℕ) → In ks j → LeadsTo d j x) → IsPath d (ks ++ x ∷ [])
path_snoc d [] x p h = ((λ j i. absurd i), tt)
path_snoc d (k ∷ ks) x (first, p) h = (leads, path_snoc d ks x p (λ j i. h j (inr i)))
  where
    either : (j : ℕ) → In ks j ⊎ (x ≡ j) → LeadsTo d k j
    either j (inl i) = first j i
    either j (inr e) = subst (λ y. LeadsTo d k y) e (h k (inl refl))

    leads : (j : ℕ) → In (ks ++ x ∷ []) j → LeadsTo d k j
    leads j i = either j (in_snoc ks j x i)

path_front : (d : PlainDesign) (ks : List ℕ) (x : ℕ) → IsPath d (ks ++ x ∷ []) → IsPath d ks
path_front d [] x p = tt
path_front d (k ∷ ks) x (first, p) = ((λ j i. first j (in_left ks (x ∷ []) j i)), path_front d ks x p)

path_leads : (d : PlainDesign) (ks : List ℕ) (x : ℕ) → IsPath d (ks ++ x ∷ []) → (j : ℕ) → In ks j → LeadsTo d j x
path_leads d [] x p j i = absurd i
path_leads d (k ∷ ks) x (first, p) j (inl e) = subst (λ y. LeadsTo d y x) e (first x (in_right ks (x ∷ []) x (inl refl)))
path_leads d (k ∷ ks) x (first, p) j (inr i) = path_leads d ks x p j i

path_distinct : (d : PlainDesign) (ks : List ℕ) → ((k : ℕ) → LeadsTo d k k → ⊥) → IsPath d ks → Distinct ks
path_distinct d [] n p = tt
path_distinct d (k ∷ ks) n (first, p) = ((λ i. n k (first k i)), path_distinct d ks n p)

-- a component on the path is there and not placed, and its cells before the next one are
pub record IsOnWay (d : PlainDesign) (placed : List Bool) (s : Step) : Type 0 where
  pub within : s.component < length d.components
  pub waits : slice_get placed s.component ≡ Some false
  pub gone : ArePlaced placed (component_at d s.component).cells 0 s.next

pub record IsUnderWay (d : PlainDesign) (placed : List Bool) (order : List ℕ) (path : List Step) : Type 0 where
  pub sized : length placed ≡ length d.components
  pub there : (k : ℕ) → In order k → k < length d.components
  pub behind : (i k j : ℕ) (cell : PlainCell) → slice_get order i ≡ Some k → In (component_at d k).cells cell → cell.kind ≡ OfComponent j → In (take i order) j
  pub ordered : (k : ℕ) → In order k → slice_get placed k ≡ Some true
  pub found : (k : ℕ) → slice_get placed k ≡ Some true → In order k
  pub distinct : Distinct order
  pub leads : IsPath d (comps path)
  pub steps : (s : Step) → In path s → IsOnWay d placed s
  pub main : In order d.main ⊎ In (comps path) d.main

not_recursive : (d : PlainDesign) → ∥ IsDesign d ∥₁ → (k : ℕ) → LeadsTo d k k → ⊥
not_recursive d keeps k l = ∥∥₁_elim keeps (hlevel props) (λ h. h.not_recursive k l)

child_there : (d : PlainDesign) → ∥ IsDesign d ∥₁ → (k j : ℕ) (cell : PlainCell) → k < length d.components → In (component_at d k).cells cell → cell.kind ≡ OfComponent j → j < length d.components
child_there d keeps k j cell lt i e = ∥∥₁_elim keeps (hlevel props) (λ h. kind_there d cell.kind j (((h.components k lt).cells cell i).kind) e)

in_comps : (path : List Step) (k : ℕ) → In (comps path) k → (s : Step) × In path s × (s.component ≡ k)
in_comps [] k h = absurd h
in_comps (s ∷ path) k (inl e) = (s, inl refl, e)
in_comps (s ∷ path) k (inr h) = let r : (t : Step) × In path t × (t.component ≡ k) = in_comps path k h in (r.0, inr r.1, r.2)

comps_snoc : (path : List Step) (s : Step) → comps (path ++ s ∷ []) ≡ comps path ++ s.component ∷ []
comps_snoc [] s = refl
comps_snoc (t ∷ path) s = ap (λ ks. t.component ∷ ks) (comps_snoc path s)

-- those that are placed and those on the path are no more than there are
pub few : (d : PlainDesign) (placed : List Bool) (order : List ℕ) (path : List Step) → ∥ IsDesign d ∥₁ → IsUnderWay d placed order path → length order + length path ≤ length d.components
few d placed order path keeps u =
    let all : Distinct (order ++ comps path) = distinct_append order (comps path) u.distinct (path_distinct d (comps path) (not_recursive d keeps) u.leads) apart in
    let count : length (order ++ comps path) ≤ length d.components = few_below (order ++ comps path) (length d.components) all within in
    let sum : length (order ++ comps path) ≡ length order + length (comps path) = length-append order (comps path) in
    let same : length (comps path) ≡ length path = length-map path (λ s. s.component) in
    omega arith
  where
    apart : (k : ℕ) → In order k → In (comps path) k → ⊥
    apart k i j =
        let r : (s : Step) × In path s × (s.component ≡ k) = in_comps path k j in
        let waits : slice_get placed r.0.component ≡ Some false = (u.steps r.0 r.1).waits in
        let done : slice_get placed k ≡ Some true = u.ordered k i in
        let e : r.0.component ≡ k = r.2 in
        let waiting : slice_get placed k ≡ Some false = subst (λ x. slice_get placed x ≡ Some false) e waits in
        cc

    either : (k : ℕ) → In order k ⊎ In (comps path) k → k < length d.components
    either k (inl i) = u.there k i
    either k (inr j) = let r : (s : Step) × In path s × (s.component ≡ k) = in_comps path k j in subst (λ x. x < length d.components) r.2 (u.steps r.0 r.1).within

    within : (k : ℕ) → In (order ++ comps path) k → k < length d.components
    within k i = either k (in_either order (comps path) k i)

replicate_get : (n i : ℕ) → i < n → slice_get (replicate n false) i ≡ Some false
replicate_get zero i h = absurd (omega arith)
replicate_get (suc n) zero h = refl
replicate_get (suc n) (suc i) h = replicate_get n i (let lt : suc i < suc n = h in omega arith)

below_some : (xs : List Bool) (j : ℕ) → j < length xs → slice_get xs j ≡ None → ⊥
below_some [] j lt e = omega arith
below_some (x ∷ xs) zero lt e = none_is_some x (sym e)
below_some (x ∷ xs) (suc j) lt e = below_some xs j (let h : suc j < suc (length xs) = lt in omega arith) e

-- at the start main alone is on the path
pub begin : (d : PlainDesign) (placed : List Bool) → d.main < length d.components → placed ≡ replicate (length d.components) false → length placed ≡ length d.components
    → IsUnderWay d placed [] (record { component = d.main; next = 0 } ∷ [])
begin d placed lt made sized = record {
  sized = sized;
  there = λ k i. absurd i;
  behind = λ i k j cell e. absurd (none_is_some k e);
  ordered = λ k i. absurd i;
  found = found;
  distinct = tt;
  leads = ((λ j i. absurd i), tt);
  steps = steps;
  main = inr (inl refl);
}
  where
    found : (k : ℕ) → slice_get placed k ≡ Some true → In [] k
    found k e = absurd (let f : false ≡ true = slice_get-replicate (length d.components) k false true (subst (λ xs. slice_get xs k ≡ Some true) made e) in cc)

    steps : (s : Step) → In (record { component = d.main; next = 0 } ∷ []) s → IsOnWay d placed s
    steps s (inl e) = subst (IsOnWay d placed) e (record {
      within = lt;
      waits = subst (λ xs. slice_get xs d.main ≡ Some false) (sym made) (replicate_get (length d.components) d.main lt);
      gone = λ i cell low high. absurd (omega arith);
    })
    steps s (inr i) = absurd i

unplaced_there : (placed : List Bool) (kind : PlainKind) (c : ℕ) → unplaced placed kind ≡ Some c → (kind ≡ OfComponent c) × (slice_get placed c ≡ Some false)
unplaced_there placed (OfPrimitive p) c e = absurd (none_is_some c e)
unplaced_there placed (OfComponent k) c e = by (slice_get placed k) refl e
  where
    by : (o : Option Bool) → slice_get placed k ≡ o → if_unplaced o k ≡ Some c → (OfComponent k ≡ OfComponent c) × (slice_get placed c ≡ Some false)
    by None h e = absurd (none_is_some c e)
    by (Some true) h e = absurd (none_is_some c e)
    by (Some false) h e = let f : k ≡ c = (let g : Some k ≡ Some c = e in cc) in (ap OfComponent f, subst (λ x. slice_get placed x ≡ Some false) f h)

-- a component of a cell that is not placed goes on the path
pub push : (d : PlainDesign) (placed : List Bool) (order : List ℕ) (front : List Step) (s : Step) (next c : ℕ)
    → IsUnderWay d placed order (front ++ s ∷ []) → IsNext placed (component_at d s.component).cells s.next next c
    → IsUnderWay d placed order ((front ++ record { component = s.component; next = next } ∷ []) ++ record { component = c; next = 0 } ∷ [])
push d placed order front s next c u is_next = record {
  sized = u.sized;
  there = u.there;
  behind = u.behind;
  ordered = u.ordered;
  found = u.found;
  distinct = u.distinct;
  leads = subst (IsPath d) (sym path_is) (path_snoc d (comps front ++ s.component ∷ []) c old_path lead);
  steps = steps;
  main = main u.main;
}
  where
    path_is : comps ((front ++ record { component = s.component; next = next } ∷ []) ++ record { component = c; next = 0 } ∷ []) ≡ (comps front ++ s.component ∷ []) ++ c ∷ []
    path_is = comps_snoc (front ++ record { component = s.component; next = next } ∷ []) (record { component = c; next = 0 }) ∙ ap (λ ks. ks ++ c ∷ []) (comps_snoc front (record { component = s.component; next = next }))

    old_path : IsPath d (comps front ++ s.component ∷ [])
    old_path = subst (IsPath d) (comps_snoc front s) u.leads

    top : IsOnWay d placed s
    top = u.steps s (in_right front (s ∷ []) s (inl refl))

    child : (is_next.cell.kind ≡ OfComponent c) × (slice_get placed c ≡ Some false)
    child = unplaced_there placed is_next.cell.kind c is_next.waits

    by_top : LeadsTo d s.component c
    by_top = by_cell c is_next.cell (in_at (component_at d s.component).cells next is_next.cell is_next.stands) child.0

    either : (j : ℕ) → In (comps front) j ⊎ (s.component ≡ j) → LeadsTo d j c
    either j (inl i) = by_way_of s.component (path_leads d (comps front) s.component old_path j i) by_top
    either j (inr e) = subst (λ x. LeadsTo d x c) e by_top

    lead : (j : ℕ) → In (comps front ++ s.component ∷ []) j → LeadsTo d j c
    lead j i = either j (in_snoc (comps front) j s.component i)

    gone : ArePlaced placed (component_at d s.component).cells 0 next
    gone i cell low high at = ⊎_elim (λ before. top.gone i cell low before at) (λ after. is_next.before i cell after high at) (cases_lt i s.next)

    middle : IsOnWay d placed (record { component = s.component; next = next })
    middle = record { within = top.within; waits = top.waits; gone = gone }

    last : IsOnWay d placed (record { component = c; next = 0 })
    last = record {
      within = let h : c < length placed = there_below placed c false child.1 in let e : length placed ≡ length d.components = u.sized in omega arith;
      waits = child.1;
      gone = λ i cell low high. absurd (omega arith);
    }

    inner : (t : Step) → In front t ⊎ (record { component = s.component; next = next } ≡ t) → IsOnWay d placed t
    inner t (inl i) = u.steps t (in_left front (s ∷ []) t i)
    inner t (inr e) = subst (IsOnWay d placed) e middle

    outer : (t : Step) → In (front ++ record { component = s.component; next = next } ∷ []) t ⊎ (record { component = c; next = 0 } ≡ t) → IsOnWay d placed t
    outer t (inl i) = inner t (in_snoc front t (record { component = s.component; next = next }) i)
    outer t (inr e) = subst (IsOnWay d placed) e last

    steps : (t : Step) → In ((front ++ record { component = s.component; next = next } ∷ []) ++ record { component = c; next = 0 } ∷ []) t → IsOnWay d placed t
    steps t i = outer t (in_snoc (front ++ record { component = s.component; next = next } ∷ []) t (record { component = c; next = 0 }) i)

    main : In order d.main ⊎ In (comps (front ++ s ∷ [])) d.main → In order d.main ⊎ In (comps ((front ++ record { component = s.component; next = next } ∷ []) ++ record { component = c; next = 0 } ∷ [])) d.main
    main (inl i) = inl i
    main (inr i) = inr (subst (λ ks. In ks d.main) (sym path_is) (in_left (comps front ++ s.component ∷ []) (c ∷ []) d.main (subst (λ ks. In ks d.main) (comps_snoc front s) i)))

set_true : (placed : List Bool) (k : ℕ) → k < length placed → (j : ℕ) → slice_get (set placed k true) j ≡ Some true → (k ≡ j) ⊎ (slice_get placed j ≡ Some true)
set_true placed k lt j e = by (cases_eq k j)
  where
    by : (k ≡ j) ⊎ (k ≡ j → ⊥) → (k ≡ j) ⊎ (slice_get placed j ≡ Some true)
    by (inl same) = inl same
    by (inr other) = inr (sym (set_other placed k j true (λ f. other (sym f))) ∙ e)

-- a component all of whose cells are placed is placed
pub place : (d : PlainDesign) → ∥ IsDesign d ∥₁ → (placed : List Bool) (order : List ℕ) (front : List Step) (s : Step)
    → IsUnderWay d placed order (front ++ s ∷ []) → ArePlaced placed (component_at d s.component).cells s.next (length (component_at d s.component).cells)
    → IsUnderWay d (set placed s.component true) (order ++ s.component ∷ []) front
place d keeps placed order front s u rest = record {
  sized = length-set placed s.component true ∙ u.sized;
  there = λ k i. there_one k (in_snoc order k s.component i);
  behind = λ i k j cell at i_cell e. behind_one i k j cell i_cell e (snoc_place order s.component i k at);
  ordered = λ k i. ordered_one k (in_snoc order k s.component i);
  found = λ k e. found_one k (set_true placed s.component within k e);
  distinct = distinct_snoc order s.component u.distinct (λ i. new (u.ordered s.component i));
  leads = path_front d (comps front) s.component old_path;
  steps = steps;
  main = main u.main;
}
  where
    top : IsOnWay d placed s
    top = u.steps s (in_right front (s ∷ []) s (inl refl))

    within : s.component < length placed
    within = let h : s.component < length d.components = top.within in let e : length placed ≡ length d.components = u.sized in omega arith

    new : slice_get placed s.component ≡ Some true → ⊥
    new e = let waits : slice_get placed s.component ≡ Some false = top.waits in cc

    old_path : IsPath d (comps front ++ s.component ∷ [])
    old_path = subst (IsPath d) (comps_snoc front s) u.leads

    there_one : (k : ℕ) → In order k ⊎ (s.component ≡ k) → k < length d.components
    there_one k (inl i) = u.there k i
    there_one k (inr e) = subst (λ x. x < length d.components) e top.within

    -- the component of a cell of the one that is placed now
    none_waits : (cell : PlainCell) → In (component_at d s.component).cells cell → unplaced placed cell.kind ≡ None
    none_waits cell i =
        let r : (n : ℕ) × (slice_get (component_at d s.component).cells n ≡ Some cell) = number_in (component_at d s.component).cells cell i in
        let lt : r.0 < length (component_at d s.component).cells = there_below (component_at d s.component).cells r.0 cell r.1 in
        ⊎_elim (λ before. top.gone r.0 cell (omega arith) before r.1) (λ after. rest r.0 cell after lt r.1) (cases_lt r.0 s.next)

    not_waiting : (j : ℕ) (o : Option Bool) → slice_get placed j ≡ o → if_unplaced o j ≡ None → j < length placed → slice_get placed j ≡ Some true
    not_waiting j None h e lt = absurd (below_some placed j lt h)
    not_waiting j (Some true) h e lt = h
    not_waiting j (Some false) h e lt = absurd (let f : Some j ≡ None = e in cc)

    child_placed : (j : ℕ) (cell : PlainCell) → In (component_at d s.component).cells cell → cell.kind ≡ OfComponent j → In order j
    child_placed j cell i e =
        let lt : j < length d.components = child_there d keeps s.component j cell top.within i e in
        let same : length placed ≡ length d.components = u.sized in
        let none : unplaced placed (OfComponent j) ≡ None = subst (λ kind. unplaced placed kind ≡ None) e (none_waits cell i) in
        u.found j (not_waiting j (slice_get placed j) refl none (omega arith))

    behind_one : (i k j : ℕ) (cell : PlainCell) → In (component_at d k).cells cell → cell.kind ≡ OfComponent j
        → (slice_get order i ≡ Some k) ⊎ ((i ≡ length order) × (s.component ≡ k)) → In (take i (order ++ s.component ∷ [])) j
    behind_one i k j cell i_cell e (inl at) =
        let lt : i < length order = there_below order i k at in
        subst (λ xs. In xs j) (sym (take-append-le i order (s.component ∷ []) (omega arith))) (u.behind i k j cell at i_cell e)
    behind_one i k j cell i_cell e (inr (last, same)) =
        let h : In order j = child_placed j cell (subst (λ x. In (component_at d x).cells cell) (sym same) i_cell) e in
        subst (λ n. In (take n (order ++ s.component ∷ [])) j) (sym last) (subst (λ xs. In xs j) (sym (take-append_seam order (s.component ∷ []))) h)

    ordered_one : (k : ℕ) → In order k ⊎ (s.component ≡ k) → slice_get (set placed s.component true) k ≡ Some true
    ordered_one k (inr e) = subst (λ x. slice_get (set placed s.component true) x ≡ Some true) e (set_same placed s.component true within)
    ordered_one k (inl i) = set_other placed s.component k true (λ e. new (subst (λ x. slice_get placed x ≡ Some true) e (u.ordered k i))) ∙ u.ordered k i

    found_one : (k : ℕ) → (s.component ≡ k) ⊎ (slice_get placed k ≡ Some true) → In (order ++ s.component ∷ []) k
    found_one k (inl e) = in_right order (s.component ∷ []) k (inl e)
    found_one k (inr h) = in_left order (s.component ∷ []) k (u.found k h)

    all_distinct : Distinct (comps front ++ s.component ∷ [])
    all_distinct = path_distinct d (comps front ++ s.component ∷ []) (not_recursive d keeps) old_path

    other_comp : (t : Step) → In front t → t.component ≢ s.component
    other_comp t i e = not_recursive d keeps s.component (subst (λ x. LeadsTo d x s.component) e (path_leads d (comps front) s.component old_path t.component (comp_in front t i)))
      where
        comp_in : (path : List Step) (t : Step) → In path t → In (comps path) t.component
        comp_in [] t h = absurd h
        comp_in (v ∷ path) t (inl e) = inl (ap (λ x. x.component) e)
        comp_in (v ∷ path) t (inr h) = inr (comp_in path t h)

    still : (kind : PlainKind) → unplaced placed kind ≡ None → unplaced (set placed s.component true) kind ≡ None
    still (OfPrimitive p) e = refl
    still (OfComponent k) e = by (cases_eq s.component k)
      where
        by : (s.component ≡ k) ⊎ (s.component ≡ k → ⊥) → if_unplaced (slice_get (set placed s.component true) k) k ≡ None
        by (inl same) = ap (λ o. if_unplaced o k) (subst (λ x. slice_get (set placed s.component true) x ≡ Some true) same (set_same placed s.component true within))
        by (inr other) = ap (λ o. if_unplaced o k) (set_other placed s.component k true (λ f. other (sym f))) ∙ e

    steps : (t : Step) → In front t → IsOnWay d (set placed s.component true) t
    steps t i =
        let old : IsOnWay d placed t = u.steps t (in_left front (s ∷ []) t i) in
        record {
          within = old.within;
          waits = set_other placed s.component t.component true (other_comp t i) ∙ old.waits;
          gone = λ n cell low high at. still cell.kind (old.gone n cell low high at);
        }

    in_front : In (comps front) d.main ⊎ (s.component ≡ d.main) → In (order ++ s.component ∷ []) d.main ⊎ In (comps front) d.main
    in_front (inl i) = inr i
    in_front (inr e) = inl (in_right order (s.component ∷ []) d.main (inl e))

    main : In order d.main ⊎ In (comps (front ++ s ∷ [])) d.main → In (order ++ s.component ∷ []) d.main ⊎ In (comps front) d.main
    main (inl i) = inl (in_left order (s.component ∷ []) d.main i)
    main (inr i) = in_front (in_snoc (comps front) d.main s.component (subst (λ ks. In ks d.main) (comps_snoc front s) i))

pub finish : (d : PlainDesign) → ∥ IsDesign d ∥₁ → (placed : List Bool) (order : List ℕ) → IsUnderWay d placed order [] → IsChildrenFirst d order
finish d keeps placed order u = record {
  there = u.there;
  behind = u.behind;
  main = main u.main;
  few = few_done (few d placed order [] keeps u);
}
  where
    few_done : length order + 0 ≤ length d.components → length order ≤ length d.components
    few_done h = omega arith

    main : In order d.main ⊎ In (comps []) d.main → In order d.main
    main (inl i) = i
    main (inr i) = absurd i
