-- Where the cells of a flat component stand, by their kinds; and what stands at them in a tree.
use Rattle.std.proofs.Common.{◌≡◌, ℕ, zero, suc, ◌+◌, ◌<◌, ◌≤◌, inl, inr, true, List, [], ◌∷◌, ◌++◌, length, map, Option, Some, None, refl, sym, ap, ◌∙◌, arith}
use Rattle.std.proofs.lemmas.List.{length-append, length-map}
use Rattle.std.specs.Prelude.{◌&&◌, nat_le, option_map, unwrap_or, if◌then◌else◌}
use Rattle.std.proofs.lemmas.Bool.{le-leb}
use Rattle.cx_prim.specs.declared.names.PrimitiveName.TheVariants as primitives
use Rattle.cx_prim.specs.Widths.{is_width}
use Rattle.cx_prim.specs.Table.{row_of, no_row}
use Rattle.cx_meaning.specs.declared.kinds.PortDecl.{PortDecl}
use Rattle.cx_meaning.specs.Designs.{PlainKind, OfPrimitive, OfComponent, PlainCell, PlainComponent, PlainDesign}
use Rattle.cx_meaning.specs.Instances.{Instance, Cells, At, Nothing, OfRow, cell_at, cell_count, add_cell, cells_for}
use Rattle.cx_text.specs.Members.{In}
use Rattle.cx_rules.specs.Wellformed.{IsSignature}
use Rattle.cx_meaning.proofs.InstancesLemmas.{kind_skip, at_kind as at_one, first_at}
use Rattle.cx_flattening.specs.Flattened.{Kids, kid_at, kept, kept_at, block, blocks, block_size, block_at, inner_cell, wire_of, flat_cells, start_of, wire_at}
use Rattle.cx_flattening.specs.Embedded.{wire_row, HasWires}
use Rattle.cx_flattening.specs.FlatDesign.{renumbered_kind, renumbered_cell, reached_below}
use Rattle.cx_flattening.proofs.Placing.{kept_less}
use Rattle.cx_flattening.proofs.Standing.{length-block, in_flat_cells}

zero_plus : (a : ℕ) → 0 + a ≡ a
zero_plus a = omega arith

suc_plus : (a b : ℕ) → suc a + b ≡ suc (a + b)
suc_plus a b = omega arith

sum_twice : (a b c : ℕ) → a + b + c ≡ a + (b + c)
sum_twice a b c = omega arith

-- KINDS of cells in order
abbrev pub kind_at : List PlainCell → ℕ → Option PlainKind
kind_at [] e = None
kind_at (c ∷ cs) zero = Some c.kind
kind_at (c ∷ cs) (suc e) = kind_at cs e

abbrev pub at_kind : (ℕ → Instance) → Option PlainKind → At
at_kind trees None = Nothing
at_kind trees (Some kind) = at_one trees kind

-- what stands at a cell of a tree
pub cell_for : (trees : ℕ → Instance) (cs : List PlainCell) (e : ℕ) → cell_at (cells_for trees cs) e ≡ at_kind trees (kind_at cs e)
cell_for trees [] e = refl
cell_for trees (c ∷ cs) zero = first_at trees c.kind (cells_for trees cs)
cell_for trees (c ∷ cs) (suc e) = kind_skip trees c.kind (cells_for trees cs) e ∙ cell_for trees cs e

one_more : (trees : ℕ → Instance) (kind : PlainKind) (rest : Cells) → cell_count (add_cell trees kind rest) ≡ suc (cell_count rest)
one_more trees (OfPrimitive primitive) rest = refl
one_more trees (OfComponent k) rest = refl

pub count_for : (trees : ℕ → Instance) (cs : List PlainCell) → cell_count (cells_for trees cs) ≡ length cs
count_for trees [] = refl
count_for trees (c ∷ cs) = one_more trees c.kind (cells_for trees cs) ∙ ap suc (count_for trees cs)

-- a cell that has a kind is there
pub kind_there : (cs : List PlainCell) (e : ℕ) (kind : PlainKind) → kind_at cs e ≡ Some kind → e < length cs
kind_there [] e kind is = absurd (cc)
kind_there (c ∷ cs) zero kind is = omega arith
kind_there (c ∷ cs) (suc e) kind is = let less = kind_there cs e kind is in omega (arith, less)

kinds_front : (xs ys : List PlainCell) (e : ℕ) → e < length xs → kind_at (xs ++ ys) e ≡ kind_at xs e
kinds_front [] ys e less = absurd (omega (arith, less))
kinds_front (x ∷ xs) ys zero less = refl
kinds_front (x ∷ xs) ys (suc e) less = kinds_front xs ys e (omega (arith, less))

kinds_behind : (xs ys : List PlainCell) (e : ℕ) → kind_at (xs ++ ys) (length xs + e) ≡ kind_at ys e
kinds_behind [] ys e = ap (kind_at ys) (zero_plus e)
kinds_behind (x ∷ xs) ys e = ap (kind_at (x ∷ (xs ++ ys))) (suc_plus (length xs) e) ∙ kinds_behind xs ys e

kinds_inner : (x : PlainCell) (cs : List PlainCell) (e : ℕ) → kind_at (map (inner_cell x) cs) e ≡ kind_at cs e
kinds_inner x [] e = refl
kinds_inner x (c ∷ cs) zero = refl
kinds_inner x (c ∷ cs) (suc e) = kinds_inner x cs e

-- A CELL THAT IS KEPT
kept_kind : (kids : Kids) (cs : List PlainCell) (c : ℕ) → kid_at kids c ≡ None → kind_at (kept kids cs) (kept_at kids c) ≡ kind_at cs c
kept_kind [] cs c none = refl
kept_kind (k ∷ ks) [] c none = refl
kept_kind (None ∷ ks) (x ∷ xs) zero none = refl
kept_kind (Some child ∷ ks) (x ∷ xs) zero none = absurd (cc)
kept_kind (None ∷ ks) (x ∷ xs) (suc c) none = kept_kind ks xs c none
kept_kind (Some child ∷ ks) (x ∷ xs) (suc c) none = kept_kind ks xs c none

pub kept_stands : (kids : Kids) (cs : List PlainCell) (c : ℕ) → c < length cs → kid_at kids c ≡ None → kind_at (flat_cells kids cs) (kept_at kids c) ≡ kind_at cs c
kept_stands kids cs c less none = kinds_front (kept kids cs) (blocks kids cs) (kept_at kids c) (kept_less kids cs c less none) ∙ kept_kind kids cs c none

pub kept_inside : (kids : Kids) (cs : List PlainCell) (c : ℕ) → c < length cs → kid_at kids c ≡ None → kept_at kids c < length (flat_cells kids cs)
kept_inside kids cs c less none =
    let all = length-append (kept kids cs) (blocks kids cs) in
    let inside = kept_less kids cs c less none in
    omega (arith, all, inside)

-- A BLOCK, which is that of some cell
abbrev BlockAt : List PlainCell → ℕ → PlainComponent → Type 0
BlockAt list from child = (x : PlainCell) × ((e : ℕ) → e < block_size (Some child) → kind_at list (from + e) ≡ kind_at (block (Some child) x) e)

pub block_stands : (kids : Kids) (cs : List PlainCell) (c : ℕ) (child : PlainComponent) → c < length cs → kid_at kids c ≡ Some child → BlockAt (blocks kids cs) (block_at kids c) child
block_stands [] cs c child less its = absurd (cc)
block_stands (k ∷ ks) [] c child less its = absurd (omega (arith, less))
block_stands (None ∷ ks) (x ∷ xs) zero child less its = absurd (cc)
block_stands (Some other ∷ ks) (x ∷ xs) zero child less its =
    let same : other ≡ child = cc in (
      x,
      λ e inside.
          ap (kind_at (block (Some other) x ++ blocks ks xs)) (zero_plus e)
          ∙ kinds_front (block (Some other) x) (blocks ks xs) e (let size = length-block (Some other) x in let alike = ap (λ o. block_size (Some o)) same in omega (arith, inside, size, alike))
          ∙ ap (λ o. kind_at (block (Some o) x) e) same,
    )
block_stands (k ∷ ks) (x ∷ xs) (suc c) child less its =
    let r = block_stands ks xs c child (omega (arith, less)) its in (
      r.0,
      λ e inside.
          ap (kind_at (block k x ++ blocks ks xs)) (sum_twice (block_size k) (block_at ks c) e ∙ ap (λ n. n + (block_at ks c + e)) (sym (length-block k x)))
          ∙ kinds_behind (block k x) (blocks ks xs) (block_at ks c + e) ∙ r.1 e inside,
    )

-- A LIST STANDS IN ANOTHER from some cell on
abbrev pub Holds : List PlainCell → ℕ → List PlainCell → Type 0
Holds list first host = (e : ℕ) → e < length list → kind_at host (first + e) ≡ kind_at list e

module _ (kids : Kids) (part : PlainComponent) (host : List PlainCell) (first : ℕ) (holds : Holds (flat_cells kids part.cells) first host) where
  pub holds_kept : (c : ℕ) → c < length part.cells → kid_at kids c ≡ None → kind_at host (first + kept_at kids c) ≡ kind_at part.cells c
  holds_kept c less none = holds (kept_at kids c) (kept_inside kids part.cells c less none) ∙ kept_stands kids part.cells c less none

  module _ (c : ℕ) (child : PlainComponent) (less : c < length part.cells) (its : kid_at kids c ≡ Some child) where
    abbrev x : PlainCell
    x = (block_stands kids part.cells c child less its).0

    in_block : (e : ℕ) → e < block_size (Some child) → kind_at host (first + (start_of kids part c + e)) ≡ kind_at (block (Some child) x) e
    in_block e inside =
        holds (start_of kids part c + e) (in_flat_cells kids part c e child less its inside)
        ∙ ap (kind_at (flat_cells kids part.cells)) (sum_twice (length (kept kids part.cells)) (block_at kids c) e)
        ∙ kinds_behind (kept kids part.cells) (blocks kids part.cells) (block_at kids c + e)
        ∙ (block_stands kids part.cells c child less its).1 e inside

    -- the cells of a static child stand where its block begins
    pub holds_inner : Holds child.cells (first + start_of kids part c) host
    holds_inner e inside =
        ap (kind_at host) (sum_twice first (start_of kids part c) e)
        ∙ in_block e (omega (arith, inside))
        ∙ kinds_front (map (inner_cell x) child.cells) (map (wire_of x) child.outputs) e (let size = length-map child.cells (inner_cell x) in omega (arith, inside, size))
        ∙ kinds_inner x child.cells e

    -- and its wires behind them
    pub holds_wires : Holds (map (wire_of x) child.outputs) (first + wire_at kids part child c 0) host
    holds_wires n inside =
        let size = length-map child.outputs (wire_of x) in
        ap (kind_at host) (place n)
        ∙ in_block (length child.cells + n) (omega (arith, inside, size))
        ∙ ap (λ k. kind_at (block (Some child) x) (k + n)) (sym (length-map child.cells (inner_cell x)))
        ∙ kinds_behind (map (inner_cell x) child.cells) (map (wire_of x) child.outputs) n
      where
        place : (n : ℕ) → first + wire_at kids part child c 0 + n ≡ first + (start_of kids part c + (length child.cells + n))
        place n = omega arith

-- WHAT A HOST HAS at the cells of a list
abbrev pub IsHost : Cells → List PlainCell → (ℕ → Instance) → Type 0
IsHost host list trees = (e : ℕ) → cell_at host e ≡ at_kind trees (kind_at list e)

-- a wire has its row, where its width is one of a port
wire_fits : (width : ℕ) → 1 ≤ width → width ≤ 128 → OfRow (row_of (record { name = primitives.Wire; numbers = width ∷ [] })) ≡ OfRow (wire_row width)
wire_fits width some few = ap (λ t. OfRow (unwrap_or (if t then Some (wire_row width) else None) no_row)) fits
  where
    fits : is_width width ≡ true
    fits = ap (λ b. b && nat_le width 128) (le-leb 1 width some) ∙ le-leb width 128 few

pub wires_stand : (cell : PlainCell) (outputs : List PortDecl) (e : ℕ) (host : Cells) (list : List PlainCell) (trees : ℕ → Instance)
    → IsSignature outputs → IsHost host list trees → Holds (map (wire_of cell) outputs) e list → HasWires outputs e host
wires_stand cell [] e host list trees signed is holds = tt
wires_stand cell (output ∷ outputs) e host list trees signed is holds =
    let port = signed output (inl refl) in (
      is e ∙ ap (λ k. at_kind trees (kind_at list k)) (plus_zero e) ∙ ap (at_kind trees) (holds 0 (omega arith)) ∙ wire_fits output.width port.some_bits port.few_bits,
      wires_stand cell outputs (suc e) host list trees (λ decl i. signed decl (inr i)) is (λ n inside. ap (kind_at list) (plus e n) ∙ holds (suc n) (omega (arith, inside))),
    )
  where
    plus_zero : (a : ℕ) → a ≡ a + 0
    plus_zero a = omega arith

    plus : (a b : ℕ) → suc a + b ≡ a + suc b
    plus a b = omega arith

-- the cells of a list with new numbers of components
kinds_renumbered : (d : PlainDesign) (cs : List PlainCell) (e : ℕ) → kind_at (map (renumbered_cell d) cs) e ≡ option_map (renumbered_kind d) (kind_at cs e)
kinds_renumbered d [] e = refl
kinds_renumbered d (c ∷ cs) zero = refl
kinds_renumbered d (c ∷ cs) (suc e) = kinds_renumbered d cs e

renumbered_at : (d : PlainDesign) (trees : ℕ → Instance) (kind : Option PlainKind) → at_kind trees (option_map (renumbered_kind d) kind) ≡ at_kind (λ j. trees (reached_below d j)) kind
renumbered_at d trees None = refl
renumbered_at d trees (Some kind) = by kind
  where
    by : (k : PlainKind) → at_one trees (renumbered_kind d k) ≡ at_one (λ j. trees (reached_below d j)) k
    by (OfPrimitive primitive) = refl
    by (OfComponent j) = refl

pub renumbered_host : (d : PlainDesign) (trees : ℕ → Instance) (cs : List PlainCell) → IsHost (cells_for trees (map (renumbered_cell d) cs)) cs (λ j. trees (reached_below d j))
renumbered_host d trees cs e = cell_for trees (map (renumbered_cell d) cs) e ∙ ap (at_kind trees) (kinds_renumbered d cs e) ∙ renumbered_at d trees (kind_at cs e)

-- a cell of a kind
pub kind_in : (cs : List PlainCell) (e : ℕ) (kind : PlainKind) → kind_at cs e ≡ Some kind → (cell : PlainCell) × In cs cell × (cell.kind ≡ kind)
kind_in [] e kind is = absurd (cc)
kind_in (c ∷ cs) zero kind is = (c, inl refl, let same : c.kind ≡ kind = cc in same)
kind_in (c ∷ cs) (suc e) kind is = let r = kind_in cs e kind is in (r.0, inr r.1, r.2)
