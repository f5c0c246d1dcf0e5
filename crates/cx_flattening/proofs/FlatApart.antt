-- NAMES OF FLAT CELLS are apart, where names are plain and those of cells and of ports are apart: what stands before the first point is the
-- name of a cell of the component, and what stands behind it the name of a cell of the child, or of an output with a point.
use Rattle.std.proofs.Common.{◌≡◌, ◌≢◌, ℕ, zero, suc, inl, inr, ⊎_elim, true, nat_eq, List, [], ◌∷◌, ◌++◌, map, Option, Some, None, refl, sym, ap, ◌∙◌, subst, arith}
use Rattle.std.specs.Prelude.{if◌then◌else◌, slice_get}
use Rattle.std.proofs.lemmas.Bool.{ne_eqb}
use Rattle.std.proofs.lemmas.List.{append_assoc}
use Rattle.cx_text.proofs.MemberLaws.{image_in, in_either, in_image, in_right}
use Rattle.cx_meaning.specs.declared.kinds.PortDecl.{PortDecl}
use Rattle.cx_meaning.specs.Designs.{PlainCell, PlainComponent}
use Rattle.cx_meaning.specs.Instances.{Instance, Node, Cells, OfInstance, cell_at}
use Rattle.cx_text.specs.Members.{In}
use Rattle.cx_rules.specs.Flat.{IsPlainName, HasPlainNames}
use Rattle.cx_rules.specs.Wellformed.{AreApart}
use Rattle.cx_rules.proofs.Finite.{Distinct}
use Rattle.cx_flattening.specs.Whole.{is_static}
use Rattle.cx_flattening.specs.Flattened.{point, inner_cell, wire_of, Kids, kid_at, kept, block, blocks, flat_cells, flat_kids, flat_part}
use Rattle.cx_flattening.proofs.FlatSafe.{kid_from}

abbrev Name : Type 0
Name = List ℕ

-- LISTS whose entries are apart
apart_both : (xs ys : List Name) → Distinct xs → Distinct ys → ((x : Name) → In xs x → In ys x → ⊥) → Distinct (xs ++ ys)
apart_both [] ys h g none = g
apart_both (x ∷ xs) ys h g none =
    (λ i. ⊎_elim h.0 (λ j. none x (inl refl) j) (in_either xs ys x i), apart_both xs ys h.1 g (λ y i j. none y (inr i) j))

apart_map : (f : Name → Name) → ((x y : Name) → f x ≡ f y → x ≡ y) → (xs : List Name) → Distinct xs → Distinct (map f xs)
apart_map f one [] h = tt
apart_map f one (x ∷ xs) h = (λ i. let r = image_in f xs (f x) i in h.0 (subst (In xs) (one r.0 x r.2) r.1), apart_map f one xs h.1)

get_in : (xs : List Name) (n : ℕ) (x : Name) → slice_get xs n ≡ Some x → In xs x
get_in [] n x e = absurd (cc)
get_in (y ∷ ys) zero x e = inl (let same : y ≡ x = cc in same)
get_in (y ∷ ys) (suc n) x e = inr (get_in ys n x e)

in_get : (xs : List Name) (x : Name) → In xs x → (n : ℕ) × (slice_get xs n ≡ Some x)
in_get [] x i = absurd i
in_get (y ∷ ys) x (inl e) = (0, ap Some e)
in_get (y ∷ ys) x (inr i) = let r = in_get ys x i in (suc r.0, r.1)

pub distinct_apart : (xs : List Name) → Distinct xs → AreApart xs
distinct_apart [] h m n name e f some = absurd (cc)
distinct_apart (x ∷ xs) h zero zero name e f some = refl
distinct_apart (x ∷ xs) h zero (suc n) name e f some = absurd (h.0 (let same : x ≡ name = cc in subst (In xs) (sym same) (get_in xs n name f)))
distinct_apart (x ∷ xs) h (suc m) zero name e f some = absurd (h.0 (let same : x ≡ name = cc in subst (In xs) (sym same) (get_in xs m name e)))
distinct_apart (x ∷ xs) h (suc m) (suc n) name e f some = ap suc (distinct_apart xs h.1 m n name e f some)

apart_distinct : (xs : List Name) → AreApart xs → ((x : Name) → In xs x → x ≢ []) → Distinct xs
apart_distinct [] h some = tt
apart_distinct (x ∷ xs) h some = (
  λ i. let r = in_get xs x i in let clash : 0 ≡ suc r.0 = h 0 (suc r.0) x refl r.1 (some x (inl refl)) in omega (arith, clash),
  apart_distinct xs (λ m n name e f full. let same : suc m ≡ suc n = h (suc m) (suc n) name e f full in omega (arith, same)) (λ y i. some y (inr i)),
)

-- BEFORE AND BEHIND THE FIRST POINT
abbrev before : Name → Name
before [] = []
before (x ∷ xs) = if nat_eq x 46 then [] else x ∷ before xs

abbrev behind : Name → Name
behind [] = []
behind (x ∷ xs) = if nat_eq x 46 then xs else behind xs

abbrev NoPoint : Name → Type 0
NoPoint name = In name 46 → ⊥

before-joined : (a b : Name) → NoPoint a → before (a ++ 46 ∷ b) ≡ a
before-joined [] b none = refl
before-joined (x ∷ a) b none =
    ap (λ t. if t then [] else x ∷ before (a ++ 46 ∷ b)) (ne_eqb x 46 (λ e. none (inl e))) ∙ ap (λ l. x ∷ l) (before-joined a b (λ i. none (inr i)))

behind-joined : (a b : Name) → NoPoint a → behind (a ++ 46 ∷ b) ≡ b
behind-joined [] b none = refl
behind-joined (x ∷ a) b none =
    ap (λ t. if t then a ++ 46 ∷ b else behind (a ++ 46 ∷ b)) (ne_eqb x 46 (λ e. none (inl e))) ∙ behind-joined a b (λ i. none (inr i))

has_point : (a b : Name) → In (a ++ 46 ∷ b) 46
has_point a b = in_right a (46 ∷ b) 46 (inl refl)

-- A NAME OF A FLAT CELL: a plain one, or two parts that a point joins
pub data IsFlatName (name : Name) : Type 0 where
  plain : IsPlainName name → IsFlatName name
  joined : (a b : Name) → IsPlainName a → b ≢ [] → name ≡ a ++ 46 ∷ b → IsFlatName name

some_joined : (a b : Name) → a ++ 46 ∷ b ≢ []
some_joined [] b e = cc
some_joined (x ∷ a) b e = cc

flat_some : (name : Name) → IsFlatName name → name ≢ []
flat_some name (plain p) e = p.some e
flat_some name (joined a b p some is) e = some_joined a b (sym is ∙ e)

-- no such name is a plain one with a point
not_ended : (name o : Name) → IsFlatName name → NoPoint o → name ≡ o ++ point → ⊥
not_ended name o (plain p) none e = p.no_point (subst (λ l. In l 46) (sym e) (has_point o []))
not_ended name o (joined a b p some is) none e = some (sym (behind-joined a b p.no_point) ∙ ap behind (sym is ∙ e) ∙ behind-joined o [] none)

-- THE BLOCK of a cell
abbrev names : List PlainCell → List Name
names cs = map (λ (cell : PlainCell). cell.name) cs

abbrev port_names : List PortDecl → List Name
port_names ds = map (λ (decl : PortDecl). decl.name) ds

one_point : (a b : Name) → a ++ point ++ b ≡ a ++ 46 ∷ b
one_point a b = append_assoc a point b

two_points : (a b : Name) → a ++ point ++ b ++ point ≡ a ++ 46 ∷ (b ++ point)
two_points a b = append_assoc (a ++ point) b point ∙ append_assoc a point (b ++ point)

names_inner : (c : PlainCell) (cs : List PlainCell) → names (map (inner_cell c) cs) ≡ map (λ name. c.name ++ 46 ∷ name) (names cs)
names_inner c [] = refl
names_inner c (x ∷ xs) = ap (λ n. n ∷ names (map (inner_cell c) xs)) (one_point c.name x.name) ∙ ap (λ l. (c.name ++ 46 ∷ x.name) ∷ l) (names_inner c xs)

names_wires : (c : PlainCell) (ds : List PortDecl) → names (map (wire_of c) ds) ≡ map (λ name. c.name ++ 46 ∷ (name ++ point)) (port_names ds)
names_wires c [] = refl
names_wires c (x ∷ xs) = ap (λ n. n ∷ names (map (wire_of c) xs)) (two_points c.name x.name) ∙ ap (λ l. (c.name ++ 46 ∷ (x.name ++ point)) ∷ l) (names_wires c xs)

names_both : (xs ys : List PlainCell) → names (xs ++ ys) ≡ names xs ++ names ys
names_both [] ys = refl
names_both (x ∷ xs) ys = ap (λ l. x.name ∷ l) (names_both xs ys)

-- a name with a point behind it
ended : (x y : Name) → NoPoint x → NoPoint y → x ++ point ≡ y ++ point → x ≡ y
ended x y none also e = sym (before-joined x [] none) ∙ ap before e ∙ before-joined y [] also

-- a component whose flat cells have names that are apart
pub record HasApart (part : PlainComponent) : Type 0 where
  pub apart : Distinct (map (λ (cell : PlainCell). cell.name) part.cells)
  pub each : (cell : PlainCell) → In part.cells cell → IsFlatName cell.name
  pub outputs : (decl : PortDecl) → In part.outputs decl → IsPlainName decl.name
  pub ports : Distinct (map (λ (decl : PortDecl). decl.name) part.outputs)

name_of : (cs : List PlainCell) (name : Name) → In (names cs) name → (cell : PlainCell) × In cs cell × (cell.name ≡ name)
name_of cs name i = image_in (λ (cell : PlainCell). cell.name) cs name i

module _ (c : PlainCell) (plain_name : IsPlainName c.name) where
  behind_cell : (x y : Name) → c.name ++ 46 ∷ x ≡ c.name ++ 46 ∷ y → x ≡ y
  behind_cell x y e = sym (behind-joined c.name x plain_name.no_point) ∙ ap behind e ∙ behind-joined c.name y plain_name.no_point

  -- wires are apart
  wires_apart : (ds : List PortDecl) → ((decl : PortDecl) → In ds decl → IsPlainName decl.name) → Distinct (port_names ds) → Distinct (map (λ name. c.name ++ 46 ∷ (name ++ point)) (port_names ds))
  wires_apart [] each h = tt
  wires_apart (d ∷ ds) each h = (
    λ i.
        let r = image_in (λ name. c.name ++ 46 ∷ (name ++ point)) (port_names ds) (c.name ++ 46 ∷ (d.name ++ point)) i in
        let o = image_in (λ (decl : PortDecl). decl.name) ds r.0 r.1 in
        let other : NoPoint r.0 = subst NoPoint o.2 (each o.0 (inr o.1)).no_point in
        h.0 (subst (In (port_names ds)) (ended r.0 d.name other (each d (inl refl)).no_point (behind_cell (r.0 ++ point) (d.name ++ point) r.2)) r.1),
    wires_apart ds (λ decl i. each decl (inr i)) h.1,
  )

  module _ (child : PlainComponent) (has : HasApart child) where
    block_names : names (block (Some child) c) ≡ map (λ name. c.name ++ 46 ∷ name) (names child.cells) ++ map (λ name. c.name ++ 46 ∷ (name ++ point)) (port_names child.outputs)
    block_names = names_both (map (inner_cell c) child.cells) (map (wire_of c) child.outputs) ∙ ap (λ l. l ++ names (map (wire_of c) child.outputs)) (names_inner c child.cells) ∙ ap (λ l. map (λ name. c.name ++ 46 ∷ name) (names child.cells) ++ l) (names_wires c child.outputs)

    block_apart : Distinct (names (block (Some child) c))
    block_apart =
        subst Distinct (sym block_names)
        (apart_both (map (λ name. c.name ++ 46 ∷ name) (names child.cells)) (map (λ name. c.name ++ 46 ∷ (name ++ point)) (port_names child.outputs))
        (apart_map (λ name. c.name ++ 46 ∷ name) behind_cell (names child.cells) has.apart)
        (wires_apart child.outputs has.outputs has.ports)
        (λ x i j.
        let r = image_in (λ name. c.name ++ 46 ∷ name) (names child.cells) x i in
        let o = image_in (λ name. c.name ++ 46 ∷ (name ++ point)) (port_names child.outputs) x j in
        let cell = name_of child.cells r.0 r.1 in
        let port = image_in (λ (decl : PortDecl). decl.name) child.outputs o.0 o.1 in
        not_ended r.0 o.0 (subst IsFlatName cell.2 (has.each cell.0 cell.1)) (subst NoPoint port.2 (has.outputs port.0 port.1).no_point) (behind_cell r.0 (o.0 ++ point) (r.2 ∙ sym o.2))))

    -- each of them is the cell's name, a point, and something
    block_each : (cell : PlainCell) → In (block (Some child) c) cell → (b : Name) × (b ≢ []) × (cell.name ≡ c.name ++ 46 ∷ b)
    block_each cell i =
        ⊎_elim
        (λ j. let r = image_in (inner_cell c) child.cells cell j in (r.0.name, flat_some r.0.name (has.each r.0 r.1), ap (λ (x : PlainCell). x.name) (sym r.2) ∙ one_point c.name r.0.name))
        (λ j. let r = image_in (wire_of c) child.outputs cell j in (r.0.name ++ point, some_joined r.0.name [], ap (λ (x : PlainCell). x.name) (sym r.2) ∙ two_points c.name r.0.name))
        (in_either (map (inner_cell c) child.cells) (map (wire_of c) child.outputs) cell i)

-- ALL CELLS
kept_in : (kids : Kids) (cs : List PlainCell) (cell : PlainCell) → In (kept kids cs) cell → In cs cell
kept_in [] cs cell i = i
kept_in (k ∷ ks) [] cell i = absurd i
kept_in (None ∷ ks) (c ∷ cs) cell (inl e) = inl e
kept_in (None ∷ ks) (c ∷ cs) cell (inr i) = inr (kept_in ks cs cell i)
kept_in (Some child ∷ ks) (c ∷ cs) cell i = inr (kept_in ks cs cell i)

named_in : (xs ys : List PlainCell) → ((cell : PlainCell) → In xs cell → In ys cell) → (name : Name) → In (names xs) name → In (names ys) name
named_in xs ys more name i = let r = name_of xs name i in subst (In (names ys)) r.2 (in_image (λ (cell : PlainCell). cell.name) ys r.0 (more r.0 r.1))

kept_apart : (kids : Kids) (cs : List PlainCell) → Distinct (names cs) → Distinct (names (kept kids cs))
kept_apart [] cs h = h
kept_apart (k ∷ ks) [] h = tt
kept_apart (None ∷ ks) (c ∷ cs) h = (λ i. h.0 (named_in (kept ks cs) cs (kept_in ks cs) c.name i), kept_apart ks cs h.1)
kept_apart (Some child ∷ ks) (c ∷ cs) h = kept_apart ks cs h.1

-- a cell of a block has a name that begins with that of a cell
abbrev Begins : List PlainCell → Name → Type 0
Begins cs name = (c : PlainCell) × In cs c × (b : Name) × (b ≢ []) × (name ≡ c.name ++ 46 ∷ b)

module _ (whole : List PlainCell) (plain_names : (cell : PlainCell) → In whole cell → IsPlainName cell.name) where
  blocks_each : (kids : Kids) (cs : List PlainCell) → ((cell : PlainCell) → In cs cell → In whole cell) → ((e : ℕ) (child : PlainComponent) → kid_at kids e ≡ Some child → HasApart child)
      → (cell : PlainCell) → In (blocks kids cs) cell → Begins cs cell.name
  blocks_each [] cs inside has cell i = absurd i
  blocks_each (k ∷ ks) [] inside has cell i = absurd i
  blocks_each (k ∷ ks) (c ∷ cs) inside has cell i =
      ⊎_elim (λ j. own k (has 0) j) (λ j. let r = blocks_each ks cs (λ x m. inside x (inr m)) (λ e child its. has (suc e) child its) cell j in (r.0, inr r.1, r.2, r.3, r.4)) (in_either (block k c) (blocks ks cs) cell i)
    where
      own : (o : Option PlainComponent) → ((child : PlainComponent) → o ≡ Some child → HasApart child) → In (block o c) cell → Begins (c ∷ cs) cell.name
      own None h j = absurd j
      own (Some child) h j = let r = block_each c (plain_names c (inside c (inl refl))) child (h child refl) cell j in (c, inl refl, r.0, r.1, r.2)

  blocks_apart : (kids : Kids) (cs : List PlainCell) → ((cell : PlainCell) → In cs cell → In whole cell) → ((e : ℕ) (child : PlainComponent) → kid_at kids e ≡ Some child → HasApart child)
      → Distinct (names cs) → Distinct (names (blocks kids cs))
  blocks_apart [] cs inside has h = tt
  blocks_apart (k ∷ ks) [] inside has h = tt
  blocks_apart (k ∷ ks) (c ∷ cs) inside has h =
      subst Distinct (sym (names_both (block k c) (blocks ks cs)))
      (apart_both (names (block k c)) (names (blocks ks cs)) (own k (has 0)) (blocks_apart ks cs (λ x m. inside x (inr m)) (λ e child its. has (suc e) child its) h.1)
      (λ x i j.
      let one = name_of (block k c) x i in
      let other = name_of (blocks ks cs) x j in
      let r = blocks_each ks cs (λ y m. inside y (inr m)) (λ e child its. has (suc e) child its) other.0 other.1 in
      clash k (has 0) one.0 one.1 r (one.2 ∙ sym other.2)))
    where
      c_plain : IsPlainName c.name
      c_plain = plain_names c (inside c (inl refl))

      own : (o : Option PlainComponent) → ((child : PlainComponent) → o ≡ Some child → HasApart child) → Distinct (names (block o c))
      own None g = tt
      own (Some child) g = block_apart c c_plain child (g child refl)

      clash : (o : Option PlainComponent) → ((child : PlainComponent) → o ≡ Some child → HasApart child) → (cell : PlainCell) → In (block o c) cell → {name : Name} → Begins cs name → cell.name ≡ name → ⊥
      clash None g cell m r same = absurd m
      clash (Some child) g cell m r same =
          let b = block_each c c_plain child (g child refl) cell m in
          let e : c.name ≡ r.0.name =
          sym (before-joined c.name b.0 c_plain.no_point) ∙ ap before (sym b.2 ∙ same ∙ r.4) ∙ before-joined r.0.name r.2 (plain_names r.0 (inside r.0 (inr r.1))).no_point in
          h.0 (subst (In (names cs)) (sym e) (in_image (λ (x : PlainCell). x.name) cs r.0 r.1))

  -- THE FLAT CELLS
  flat_names_apart : (kids : Kids) → ((e : ℕ) (child : PlainComponent) → kid_at kids e ≡ Some child → HasApart child) → Distinct (names whole) → Distinct (names (flat_cells kids whole))
  flat_names_apart kids has h =
      subst Distinct (sym (names_both (kept kids whole) (blocks kids whole)))
      (apart_both (names (kept kids whole)) (names (blocks kids whole)) (kept_apart kids whole h) (blocks_apart kids whole (λ cell i. i) has h)
      (λ x i j.
      let one = name_of (kept kids whole) x i in
      let other = name_of (blocks kids whole) x j in
      let r = blocks_each kids whole (λ cell m. m) has other.0 other.1 in
      (plain_names one.0 (kept_in kids whole one.0 one.1)).no_point (subst (λ l. In l 46) (sym (one.2 ∙ sym other.2 ∙ r.4)) (has_point r.0.name r.2))))

  flat_each : (kids : Kids) → ((e : ℕ) (child : PlainComponent) → kid_at kids e ≡ Some child → HasApart child) → (cell : PlainCell) → In (flat_cells kids whole) cell → IsFlatName cell.name
  flat_each kids has cell i =
      ⊎_elim
      (λ j. plain (plain_names cell (kept_in kids whole cell j)))
      (λ j. let r = blocks_each kids whole (λ x m. m) has cell j in joined r.0.name r.2 (plain_names r.0 r.1) r.3 r.4)
      (in_either (kept kids whole) (blocks kids whole) cell i)

-- OF AN INSTANCE
apart_right : (xs ys : List Name) → Distinct (xs ++ ys) → Distinct ys
apart_right [] ys h = h
apart_right (x ∷ xs) ys h = apart_right xs ys h.1

pub part_apart : (part : PlainComponent) (cells : Cells) → HasPlainNames part → AreApart (map (λ (cell : PlainCell). cell.name) part.cells) → AreApart (map (λ (decl : PortDecl). decl.name) part.outputs)
    → ((c : ℕ) (child : Instance) → cell_at cells c ≡ OfInstance child → is_static child ≡ true → HasApart (flat_part child)) → HasApart (flat_part (Node part cells))
part_apart part cells plain_names cells_apart outputs_apart below = record {
  apart = flat_names_apart part.cells plain_names.cells (flat_kids cells) kids_apart
      (apart_distinct (names part.cells) cells_apart (λ x i. let r = name_of part.cells x i in subst (λ l. l ≢ []) r.2 (plain_names.cells r.0 r.1).some));
  each = flat_each part.cells plain_names.cells (flat_kids cells) kids_apart;
  outputs = plain_names.outputs;
  ports = apart_distinct (port_names part.outputs) outputs_apart (λ x i. let r = image_in (λ (decl : PortDecl). decl.name) part.outputs x i in subst (λ l. l ≢ []) r.2 (plain_names.outputs r.0 r.1).some);
}
  where
    kids_apart : (e : ℕ) (child : PlainComponent) → kid_at (flat_kids cells) e ≡ Some child → HasApart child
    kids_apart e child its = let r = kid_from cells e child its in subst HasApart r.3 (below e r.0 r.1 r.2)
