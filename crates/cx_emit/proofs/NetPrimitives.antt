-- The primitives of a net whose modules stand in its source: each that a cell has, once.
use Rattle.std.proofs.Common.{◌≡◌, ℕ, zero, suc, ◌<◌, Bool, true, false, List, [], ◌∷◌, ◌++◌, length, map, Some, slice_get, refl, ap, sym, ◌∙◌, subst, if◌then◌else◌, append_assoc, append-nil}
use Rattle.std.proofs.lemmas.Bool.{or_left}
use Rattle.std.proofs.lemmas.List.{map-append}
use Rattle.std.proofs.lemmas.Option.{slice_get-get_or, slice_get_within}
use Rattle.cx_prim.specs.Table.{PrimitiveRow, HasRow}
use Rattle.cx_meaning.specs.Designs.{PlainKind, OfPrimitive, OfComponent, PlainCell}
use Rattle.cx_vtree.specs.InstanceTree.{same_name}
use Rattle.cx_vtree.specs.Plain.{PlainModule}
use Rattle.cx_vtree.specs.Sound.{has_name}
use Rattle.cx_vlaws.proofs.Fresh.{Fresh, has_left, has_right, at_has}
use Rattle.cx_net.specs.Nets.{PlainNetComponent, PlainNet}
use Rattle.cx_net.specs.NetTree.{no_net_component, net_component_at}
use Rattle.cx_net.specs.NetFits.{IsFitKind, IsFit}
use Rattle.cx_emit.specs.Names.{primitive_name}
use Rattle.cx_emit.specs.Signatures.{primitive_module}
use Rattle.cx_emit.specs.Sources.{primitives_of, primitives_in, primitives_among, firsts, with_primitives}
use Rattle.cx_emit.proofs.NumberedLemmas.{In, in_flat, flat_in}
use Rattle.cx_emit.proofs.PrimitiveNames.{primitive_name_tells}
use Rattle.cx_vtree.proofs.InstanceTreeLemmas.{same_self}
use Rattle.cx_text.proofs.OptionLaws.{one_value, map_some}
use Rattle.std.proofs.lemmas.Option.{slice_get-map}

abbrev pub names_of : List PrimitiveRow → List (List ℕ)
names_of ps = map primitive_name ps

-- the names of their modules
pub names-modules : (ps : List PrimitiveRow) → map (λ m. m.name) (map primitive_module ps) ≡ names_of ps
names-modules [] = refl
names-modules (p ∷ ps) = ap (λ ns. primitive_name p ∷ ns) (names-modules ps)

-- EACH ONCE
pub firsts-fresh : (names : List (List ℕ)) (ps : List PrimitiveRow) → Fresh names (names_of (firsts names ps))
firsts-fresh names [] = tt
firsts-fresh names (p ∷ ps) = go (has_name names (primitive_name p)) refl (firsts-fresh names ps) (firsts-fresh (names ++ primitive_name p ∷ []) ps) where
  go : (b : Bool) → has_name names (primitive_name p) ≡ b → Fresh names (names_of (firsts names ps)) → Fresh (names ++ primitive_name p ∷ []) (names_of (firsts (names ++ primitive_name p ∷ []) ps))
      → Fresh names (names_of (if b then firsts names ps else p ∷ firsts (names ++ primitive_name p ∷ []) ps))
  go true is same next = same
  go false is same next = (is, next)

-- of those that are given
pub firsts_in : (names : List (List ℕ)) (ps : List PrimitiveRow) (q : PrimitiveRow) → In q (firsts names ps) → In q ps
firsts_in names [] q h = h
firsts_in names (p ∷ ps) q h = go (has_name names (primitive_name p)) h (firsts_in names ps q) (firsts_in (names ++ primitive_name p ∷ []) ps q) where
  go : (b : Bool) → In q (if b then firsts names ps else p ∷ firsts (names ++ primitive_name p ∷ []) ps) → (In q (firsts names ps) → In q ps) → (In q (firsts (names ++ primitive_name p ∷ []) ps) → In q ps) → In q (p ∷ ps)
  go true i same next = let later = same i in (suc later.0, later.1)
  go false (zero, e) same next = (zero, e)
  go false (suc k, e) same next = let later = next (k, e) in (suc later.0, later.1)

-- and no name of one lacks
pub firsts-have : (names : List (List ℕ)) (ps : List PrimitiveRow) (q : PrimitiveRow) → In q ps → has_name (names ++ names_of (firsts names ps)) (primitive_name q) ≡ true
firsts-have names [] q h = absurd (let e = h.1 in cc)
firsts-have names (p ∷ ps) q h =
    go (has_name names (primitive_name p)) refl h (firsts-have names ps q) (firsts-have (names ++ primitive_name p ∷ []) ps q)
  where
    regrouped : has_name ((names ++ primitive_name p ∷ []) ++ names_of (firsts (names ++ primitive_name p ∷ []) ps)) (primitive_name q) ≡ true
        → has_name (names ++ (primitive_name p ∷ names_of (firsts (names ++ primitive_name p ∷ []) ps))) (primitive_name q) ≡ true
    regrouped e = ap (λ ns. has_name ns (primitive_name q)) (sym (append_assoc names (primitive_name p ∷ []) (names_of (firsts (names ++ primitive_name p ∷ []) ps)))) ∙ e

    go : (b : Bool) → has_name names (primitive_name p) ≡ b → In q (p ∷ ps) → (In q ps → has_name (names ++ names_of (firsts names ps)) (primitive_name q) ≡ true)
        → (In q ps → has_name ((names ++ primitive_name p ∷ []) ++ names_of (firsts (names ++ primitive_name p ∷ []) ps)) (primitive_name q) ≡ true)
        → has_name (names ++ names_of (if b then firsts names ps else p ∷ firsts (names ++ primitive_name p ∷ []) ps)) (primitive_name q) ≡ true
    go true is (zero, e) same next =
        let one : p ≡ q = cc in
        subst (λ (x : PrimitiveRow). has_name (names ++ names_of (firsts names ps)) (primitive_name x) ≡ true) one (has_left names (names_of (firsts names ps)) (primitive_name p) is)
    go true is (suc k, e) same next = same (k, e)
    go false is (zero, e) same next =
        let one : p ≡ q = cc in
        subst (λ (x : PrimitiveRow). has_name (names ++ (primitive_name p ∷ names_of (firsts (names ++ primitive_name p ∷ []) ps))) (primitive_name x) ≡ true) one
        (has_right names (primitive_name p ∷ names_of (firsts (names ++ primitive_name p ∷ []) ps)) (primitive_name p)
        (or_left (same_name (primitive_name p) (primitive_name p)) (has_name (names_of (firsts (names ++ primitive_name p ∷ []) ps)) (primitive_name p)) (same_self (primitive_name p))))
    go false is (suc k, e) same next = regrouped (next (k, e))

-- where all have rows, each is there
pub firsts_all : (ps : List PrimitiveRow) → ((q : PrimitiveRow) → In q ps → HasRow q) → (p : PrimitiveRow) → In p ps → In p (firsts [] ps)
firsts_all ps rows p h =
    let (k, e) = at_has (names_of (firsts [] ps)) (primitive_name p) (firsts-have [] ps p h) in
    let (q, at, same) = map_some primitive_name (slice_get (firsts [] ps) k) (primitive_name p) (sym (slice_get-map primitive_name (firsts [] ps) k) ∙ e) in
    let is : q ≡ p = primitive_name_tells q p (rows q (firsts_in [] ps q (k, at))) (rows p h) same in
    (k, at ∙ ap Some is)

-- THOSE OF A NET
module _ (net : PlainNet) where
  abbrev pub its_primitives : List PrimitiveRow
  its_primitives = firsts [] (primitives_among net.components)

  pub in_net : (k c : ℕ) (part : PlainNetComponent) (cell : PlainCell) (p : PrimitiveRow) → slice_get net.components k ≡ Some part → slice_get part.cells c ≡ Some cell → cell.kind ≡ OfPrimitive p → In p (primitives_among net.components)
  in_net k c part cell p there at is =
      let here : In p (primitives_of cell.kind) = subst (λ kind. In p (primitives_of kind)) (sym is) (zero, refl) in
      in_flat (λ (x : PlainNetComponent). primitives_in x.cells) net.components k part p there (in_flat (λ (x : PlainCell). primitives_of x.kind) part.cells c cell p at here)

  pub net_in : (p : PrimitiveRow) → In p (primitives_among net.components)
      → (k : ℕ) × (part : PlainNetComponent) × (slice_get net.components k ≡ Some part) × ((c : ℕ) × (cell : PlainCell) × (slice_get part.cells c ≡ Some cell) × (cell.kind ≡ OfPrimitive p))
  net_in p h =
      let (k, part, there, i) = flat_in (λ (x : PlainNetComponent). primitives_in x.cells) net.components p h in
      let (c, cell, at, j) = flat_in (λ (x : PlainCell). primitives_of x.kind) part.cells p i in
      (k, part, there, (c, cell, at, by_kind cell.kind j))
    where
      by_kind : (kind : PlainKind) → In p (primitives_of kind) → kind ≡ OfPrimitive p
      by_kind (OfPrimitive q) (zero, e) = let same : q ≡ p = cc in ap OfPrimitive same
      by_kind (OfPrimitive q) (suc n, e) = absurd (cc)
      by_kind (OfComponent j) (n, e) = absurd (cc)

  module _ (fit : IsFit net) where
    pub have_rows : (p : PrimitiveRow) → In p (primitives_among net.components) → HasRow p
    have_rows p h =
        let (k, part, there, (c, cell, at, is)) = net_in p h in
        let lt = slice_get_within net.components k part there in
        let same : part ≡ net_component_at net k = one_value (slice_get net.components k) part (net_component_at net k) there (slice_get-get_or net.components k no_net_component lt) in
        subst (IsFitKind k) is ((fit.components k lt).cells c cell (subst (λ (x : PlainNetComponent). slice_get x.cells c ≡ Some cell) same at))

    -- a cell's primitive is among them
    pub its_primitive : (k c : ℕ) (cell : PlainCell) (p : PrimitiveRow) → k < length net.components → slice_get (net_component_at net k).cells c ≡ Some cell → cell.kind ≡ OfPrimitive p → In p its_primitives
    its_primitive k c cell p lt at is =
        firsts_all (primitives_among net.components) have_rows p (in_net k c (net_component_at net k) cell p (slice_get-get_or net.components k no_net_component lt) at is)

    pub its_rows : (p : PrimitiveRow) → In p its_primitives → HasRow p
    its_rows p h = have_rows p (firsts_in [] (primitives_among net.components) p h)

-- MODULES AND MORE of them
firsts-append : (names : List (List ℕ)) (ps qs : List PrimitiveRow) → firsts names (ps ++ qs) ≡ firsts names ps ++ firsts (names ++ names_of (firsts names ps)) qs
firsts-append names [] qs = ap (λ ns. firsts ns qs) (sym (append-nil names))
firsts-append names (p ∷ ps) qs = go (has_name names (primitive_name p)) (firsts-append names ps qs) (firsts-append (names ++ primitive_name p ∷ []) ps qs) where
  go : (b : Bool) → firsts names (ps ++ qs) ≡ firsts names ps ++ firsts (names ++ names_of (firsts names ps)) qs
      → firsts (names ++ primitive_name p ∷ []) (ps ++ qs) ≡ firsts (names ++ primitive_name p ∷ []) ps ++ firsts ((names ++ primitive_name p ∷ []) ++ names_of (firsts (names ++ primitive_name p ∷ []) ps)) qs
      → (if b then firsts names (ps ++ qs) else p ∷ firsts (names ++ primitive_name p ∷ []) (ps ++ qs))
      ≡ (if b then firsts names ps else p ∷ firsts (names ++ primitive_name p ∷ []) ps) ++ firsts (names ++ names_of (if b then firsts names ps else p ∷ firsts (names ++ primitive_name p ∷ []) ps)) qs
  go true same next = same
  go false same next =
      ap (λ xs. p ∷ xs) next
      ∙ ap (λ ns. (p ∷ firsts (names ++ primitive_name p ∷ []) ps) ++ firsts ns qs) (append_assoc names (primitive_name p ∷ []) (names_of (firsts (names ++ primitive_name p ∷ []) ps)))

-- the modules of some and of more are those of all
pub with-append : (ms : List PlainModule) (ps qs : List PrimitiveRow) → with_primitives (with_primitives ms ps) qs ≡ with_primitives ms (ps ++ qs)
with-append ms ps qs =
    let new : List PrimitiveRow = firsts (map (λ m. m.name) ms) ps in
    let names : map (λ m. m.name) (with_primitives ms ps) ≡ map (λ m. m.name) ms ++ names_of new = map-append (λ m. m.name) ms (map primitive_module new) ∙ ap (λ ns. map (λ m. m.name) ms ++ ns) (names-modules new) in
    append_assoc ms (map primitive_module new) _
    ∙ ap (λ ns. ms ++ (map primitive_module new ++ map primitive_module (firsts ns qs))) names
    ∙ ap (λ xs. ms ++ xs) (sym (ap (map primitive_module) (firsts-append (map (λ m. m.name) ms) ps qs) ∙ map-append primitive_module new (firsts (map (λ m. m.name) ms ++ names_of new) qs)))
