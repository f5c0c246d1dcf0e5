-- No cell of a design leads back to its component where no cell of the text does within as many cells as there are components.
use Rattle.std.proofs.Common.{◌≡◌, ℕ, zero, suc, ◌<◌, ◌≤◌, Bool, true, false, ◌||◌, List, [], ◌∷◌, ◌++◌, Option, Some, None, length, option_map, slice_get, unwrap_or, ◌⊎◌, inl, inr, ⊎_elim, refl, sym, ap, ◌∙◌, subst, arith, true≢false}
use Rattle.std.proofs.lemmas.Option.{slice_get-map, slice_get_within, unwrap_or-slice_get}
use Rattle.cx_text.proofs.MemberLaws.{image_in, in_at, in_flat}
use Rattle.cx_text.specs.declared.diagnostics.Diagnostic.{Diagnostic}
use Rattle.cx_text.specs.declared.rules.Rule.TheVariants.{Recursive}
use Rattle.cx_ast.specs.PlainTree as ast
use Rattle.cx_ast.specs.PlainTree.{PlainTree}
use Rattle.cx_meaning.specs.Designs.{PlainCell, OfComponent, component_at, no_component}
use Rattle.cx_text.specs.Members.{In}
use Rattle.cx_rules.specs.Wellformed.{LeadsTo, by_cell, by_way_of}
use Rattle.cx_rules.proofs.Finite.{distinct_few}
use Rattle.cx_rules.proofs.Finite as finite
use Rattle.cx_numbering.specs.Names.{same_name, component_names, component_among, CellOf, Neither, APrimitive, AComponent, cell_of, primitive_of}
use Rattle.cx_numbering.specs.DesignOf.{kind_or, plain_cell_of, component_of, design_of}
use Rattle.cx_numbering.specs.NameRules.{tell_if, component_kinds, some_part, leads_back, recursive_breaks, kind_breaks, external_breaks, cell_breaks}
use Rattle.cx_numbering.proofs.NamesLemmas.{same_name-refl}
use Rattle.cx_names.proofs.Base.{append_none, tell_none}
use Rattle.cx_names.proofs.NumberLemmas.{or_0, part_found}
use Rattle.cx_names.proofs.There.{component_is, of_component}
use Rattle.cx_text.proofs.NumberLaws.{same_or_not}

in_or_not : (m : ℕ) (ms : List ℕ) → In ms m ⊎ (In ms m → ⊥)
in_or_not m [] = inr (λ i. absurd i)
in_or_not m (x ∷ xs) =
    ⊎_elim (λ e. inl (inl e))
    (λ other. ⊎_elim (λ i. inl (inr i)) (λ absent. inr (λ i. ⊎_elim other absent i)) (in_or_not m xs))
    (same_or_not x m)

-- the numbers below n
below : ℕ → List ℕ
below zero = []
below (suc n) = n ∷ below n

below_length : (n : ℕ) → length (below n) ≡ n
unfolding below
below_length zero = refl
below_length (suc n) = ap suc (below_length n)

in_below : (n m : ℕ) → m < n → In (below n) m
unfolding below
in_below zero m few = absurd (omega (arith, few))
in_below (suc n) m few = ⊎_elim (λ e. inl e) (λ other. inr (in_below n m (omega (arith, few, other)))) (same_or_not n m)

-- a test that holds of one part holds of some
some_of : (test : ast.PlainComponent → Bool) (parts : List ast.PlainComponent) (part : ast.PlainComponent) → In parts part → test part ≡ true → some_part test parts ≡ true
some_of test [] part i h = absurd i
some_of test (p ∷ parts) part (inl e) h = ap (λ b. b || some_part test parts) (ap test e ∙ h)
some_of test (p ∷ parts) part (inr i) h = or_true (test p) (some_part test parts) (some_of test parts part i h)
  where
    or_true : (a b : Bool) → b ≡ true → (a || b) ≡ true
    or_true true b h = refl
    or_true false b h = h

module _ (tree : PlainTree) where
  -- a component has a cell of another
  pub record Edge (k j : ℕ) : Type 0 where
    pub from : ast.PlainComponent
    pub from_at : slice_get tree.components k ≡ Some from
    pub cell : ast.PlainCell
    pub stands : In from.cells cell
    pub to : ast.PlainComponent
    pub of : cell_of tree cell ≡ AComponent to
    pub to_at : slice_get tree.components j ≡ Some to

  -- components, one after another, each with a cell of the next
  abbrev pub IsWay : ℕ → List ℕ → ℕ → Type 0
  IsWay j [] k = j ≡ k
  IsWay j (m ∷ ms) k = Edge j m × IsWay m ms k

  way_append : (j m k : ℕ) (ms ns : List ℕ) → IsWay j ms m → IsWay m ns k → IsWay j (ms ++ ns) k
  way_append j m k [] ns e w = subst (λ x. IsWay x ns k) (sym e) w
  way_append j m k (x ∷ ms) ns (edge, rest) w = (edge, way_append x m k ms ns rest w)

  -- a way from a node in it on
  pub record Shorter (j k : ℕ) : Type 0 where
    pub nodes : List ℕ
    pub way : IsWay j nodes k
    pub apart : finite.Distinct nodes

  cut : (a m k : ℕ) (ms : List ℕ) → IsWay a ms k → finite.Distinct ms → In ms m → (rest : List ℕ) × IsWay m rest k × finite.Distinct (m ∷ rest)
  cut a m k [] w d i = absurd i
  cut a m k (x ∷ xs) w d (inl e) = (xs, subst (λ y. IsWay y xs k) e w.1, subst (λ y. finite.Distinct (y ∷ xs)) e d)
  cut a m k (x ∷ xs) w d (inr i) = cut x m k xs w.1 d.1 i

  shorten : (j k : ℕ) (ms : List ℕ) → IsWay j ms k → Shorter j k
  shorten j k [] w = record { nodes = []; way = w; apart = tt }
  shorten j k (m ∷ ms) (edge, rest) =
      let tail = shorten m k ms rest in
      ⊎_elim
      (λ i. let found = cut m m k tail.nodes tail.way tail.apart i in record { nodes = m ∷ found.0; way = (edge, found.1); apart = found.2 })
      (λ new. record { nodes = m ∷ tail.nodes; way = (edge, tail.way); apart = (new, tail.apart) })
      (in_or_not m tail.nodes)

  way_within : (j k : ℕ) (ms : List ℕ) → IsWay j ms k → (m : ℕ) → In ms m → m < length tree.components
  way_within j k [] w m i = absurd i
  way_within j k (x ∷ xs) (edge, rest) m (inl e) = subst (λ y. y < length tree.components) e (slice_get_within tree.components x edge.to edge.to_at)
  way_within j k (x ∷ xs) (edge, rest) m (inr i) = way_within x k xs rest m i

  few_nodes : (j k : ℕ) (ms : List ℕ) → IsWay j ms k → finite.Distinct ms → length ms ≤ length tree.components
  few_nodes j k ms w d =
      subst (λ n. length ms ≤ n) (below_length (length tree.components)) (distinct_few ms (below (length tree.components)) d (λ m i. in_below (length tree.components) m (way_within j k ms w m i)))

  kind_in : (part : ast.PlainComponent) (cell : ast.PlainCell) (to : ast.PlainComponent) → In part.cells cell → cell_of tree cell ≡ AComponent to → In (component_kinds tree part) to
  kind_in part cell to i e = in_kinds part.cells i
    where
      in_kinds : (cells : List ast.PlainCell) → In cells cell → In (component_kinds tree (record { attributes = part.attributes; length = part.length; name = part.name; marks = part.marks; inputs = part.inputs; outputs = part.outputs; cells = cells; wires = part.wires; control = part.control; place = part.place })) to
      in_kinds cells i = in_flat _ cells cell to i (subst (λ of. In (component_kinds_of of) to) (sym e) (inl refl))
        where
          component_kinds_of : CellOf → List ast.PlainComponent
          component_kinds_of Neither = []
          component_kinds_of (APrimitive p) = []
          component_kinds_of (AComponent c) = c ∷ []

  -- a way of so many cells leads back
  leads : (n j k : ℕ) (ms : List ℕ) (start end : ast.PlainComponent) → slice_get tree.components j ≡ Some start → slice_get tree.components k ≡ Some end → IsWay j ms k → length ms ≤ n → leads_back tree end.name n start ≡ true
  leads n j k [] start end s e w few = same n
    where
      is : start ≡ end
      is = (let one : Some start ≡ Some end = sym s ∙ ap (slice_get tree.components) w ∙ e in cc)

      same : (n : ℕ) → leads_back tree end.name n start ≡ true
      same zero = ap (λ p. same_name p.name end.name) is ∙ same_name-refl end.name
      same (suc n) = ap (λ b. b || some_part (leads_back tree end.name n) (component_kinds tree start)) (ap (λ p. same_name p.name end.name) is ∙ same_name-refl end.name)
  leads zero j k (m ∷ ms) start end s e w few = absurd (omega (arith, few))
  leads (suc n) j k (m ∷ ms) start end s e (edge, rest) few =
      let from_is : edge.from ≡ start = (let one : Some edge.from ≡ Some start = sym edge.from_at ∙ s in cc) in
      let next = leads n m k ms edge.to end edge.to_at e rest (omega (arith, few)) in
      or_true (same_name start.name end.name) _ (some_of (leads_back tree end.name n) (component_kinds tree start) edge.to (kind_in start edge.cell edge.to (subst (λ p. In p.cells edge.cell) from_is edge.stands) edge.of) next)
    where
      or_true : (a b : Bool) → b ≡ true → (a || b) ≡ true
      or_true true b h = refl
      or_true false b h = h

-- what no break of a cell says
pub record KeptCell (tree : PlainTree) (part : ast.PlainComponent) (cell : ast.PlainCell) : Type 0 where
  pub kind : kind_breaks tree part cell (cell_of tree cell) ≡ []
  pub external : external_breaks tree part cell ≡ []
  pub circle : recursive_breaks tree part cell ≡ []

pub kept_cell : (tree : PlainTree) (part : ast.PlainComponent) (cell : ast.PlainCell) → cell_breaks tree part cell ≡ [] → KeptCell tree part cell
kept_cell tree part cell h =
    let two = append_none _ (recursive_breaks tree part cell) h in
    let one = append_none (kind_breaks tree part cell (cell_of tree cell)) (external_breaks tree part cell) two.0 in
    record { kind = one.0; external = one.1; circle = two.1 }

module _ (tree : PlainTree) (kept : (part : ast.PlainComponent) → In tree.components part → (cell : ast.PlainCell) → In part.cells cell → KeptCell tree part cell) where
  edge_from : (k j : ℕ) (cell : PlainCell) → In (component_at (design_of tree) k).cells cell → cell.kind ≡ OfComponent j → Edge tree k j
  edge_from k j cell i h = by (slice_get tree.components k) refl
    where
      none : slice_get tree.components k ≡ None → component_at (design_of tree) k ≡ no_component
      none e = sym (unwrap_or-slice_get (design_of tree).components k no_component) ∙ ap (λ o. unwrap_or o no_component) (slice_get-map (component_of tree) tree.components k ∙ ap (λ o. option_map (component_of tree) o) e)

      of : (part : ast.PlainComponent) (c : ast.PlainCell) (at : slice_get tree.components k ≡ Some part) → In part.cells c → (what : CellOf) → cell_of tree c ≡ what → kind_breaks tree part c what ≡ [] → kind_or tree part what ≡ OfComponent j → Edge tree k j
      of part c at i Neither e none h = absurd cc
      of part c at i (APrimitive p) e none h = absurd cc
      of part c at i (AComponent to) e none h =
          let found = part_found c.kind tree.components to (of_component (primitive_of c.kind) c.numbers (component_among c.kind tree.components) to e) in
          let number : found.number ≡ j = sym (or_0 to.name (component_names tree) found.number found.is) ∙ cc in
          record { from = part; from_at = at; cell = c; stands = i; to = to; of = e; to_at = subst (λ n. slice_get tree.components n ≡ Some to) number found.at }

      by : (o : Option ast.PlainComponent) → slice_get tree.components k ≡ o → Edge tree k j
      by None e = absurd (subst (λ p. In p.cells cell) (none e) i)
      by (Some part) e =
          let found = image_in (plain_cell_of tree part) part.cells cell (subst (λ p. In p.cells cell) (component_is tree k part e) i) in
          of part found.0 e found.1 (cell_of tree found.0) refl (kept part (in_at tree.components k part e) found.0 found.1).kind (ap (λ c. c.kind) found.2 ∙ h)

  way_of : (k j : ℕ) → LeadsTo (design_of tree) k j → (m : ℕ) × (ms : List ℕ) × Edge tree k m × IsWay tree m ms j
  way_of k j (by_cell n cell i e) = (n, [], edge_from k n cell i e, refl)
  way_of k j (by_way_of m a b) =
      let one = way_of k m a in
      let two = way_of m j b in
      (one.0, one.1 ++ (two.0 ∷ two.1), one.2, way_append tree one.0 m j one.1 (two.0 ∷ two.1) one.3 (two.2, two.3))

  circle_told : ast.PlainComponent → ast.PlainCell → CellOf → List Diagnostic
  circle_told part cell Neither = []
  circle_told part cell (APrimitive primitive) = []
  circle_told part cell (AComponent component) = tell_if (leads_back tree part.name (length tree.components) component) Recursive cell.place cell.name

  no_lead : (part : ast.PlainComponent) (cell : ast.PlainCell) (to : ast.PlainComponent) (what : CellOf) → what ≡ AComponent to → circle_told part cell what ≡ [] → leads_back tree part.name (length tree.components) to ≡ false
  unfolding circle_told
  no_lead part cell to Neither e h = absurd cc
  no_lead part cell to (APrimitive p) e h = absurd cc
  no_lead part cell to (AComponent c) e h = let same : c ≡ to = cc in subst (λ x. leads_back tree part.name (length tree.components) x ≡ false) same (tell_none _ _ _ _ h)

  pub no_circle : (k : ℕ) → LeadsTo (design_of tree) k k → ⊥
  unfolding circle_told
  no_circle k h =
      let way = way_of k k h in
      let edge = way.2 in
      let short = shorten tree way.0 k way.1 way.3 in
      let leads_is = leads tree (length tree.components) way.0 k short.nodes edge.to edge.from edge.to_at edge.from_at short.way (few_nodes tree way.0 k short.nodes short.way short.apart) in
      let circle = (kept edge.from (in_at tree.components k edge.from edge.from_at) edge.cell edge.stands).circle in
      true≢false (sym leads_is ∙ no_lead edge.from edge.cell edge.to (cell_of tree edge.cell) edge.of circle)
