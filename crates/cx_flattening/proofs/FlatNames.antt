-- NAMES OF FLAT CELLS: a cell that is kept has its own; in a block stand those of the child, behind the child's cell and a point.
use Rattle.std.proofs.Common.{◌≡◌, ℕ, zero, suc, ◌+◌, ◌<◌, inl, inr, true, false, List, [], ◌∷◌, ◌++◌, length, map, Some, None, refl, sym, ap, ◌∙◌, arith}
use Rattle.std.proofs.lemmas.Bool.{ne_eqb}
use Rattle.std.proofs.lemmas.List.{length-map}
use Rattle.cx_meaning.specs.declared.kinds.PortDecl.{PortDecl}
use Rattle.cx_meaning.specs.Designs.{PlainCell, PlainComponent}
use Rattle.cx_text.specs.Members.{In}
use Rattle.cx_rules.specs.Ports.{declared_name, cell_name}
use Rattle.cx_rules.specs.Flat.{IsPlainName}
use Rattle.cx_flattening.specs.Flattened.{point, inner_cell, wire_of, Kids, kid_at, kept, kept_at, block, blocks, block_size, block_at, flat_cells, start_of, wire_at}
use Rattle.cx_rules.specs.FullPaths.{ends_in_point, but_last}
use Rattle.cx_flattening.proofs.Placing.{kept_less}
use Rattle.cx_flattening.proofs.Standing.{length-block}

zero_plus : (a : ℕ) → 0 + a ≡ a
zero_plus a = omega arith

suc_plus : (a b : ℕ) → suc a + b ≡ suc (a + b)
suc_plus a b = omega arith

sum_twice : (a b c : ℕ) → a + b + c ≡ a + (b + c)
sum_twice a b c = omega arith

-- POINTS at the end
ends_behind : (xs : List ℕ) (y : ℕ) (ys : List ℕ) → ends_in_point (xs ++ (y ∷ ys)) ≡ ends_in_point (y ∷ ys)
ends_behind [] y ys = refl
ends_behind (x ∷ []) y ys = refl
ends_behind (x ∷ z ∷ xs) y ys = ends_behind (z ∷ xs) y ys

plain_ends : (y : ℕ) (ys : List ℕ) → (In (y ∷ ys) 46 → ⊥) → ends_in_point (y ∷ ys) ≡ false
plain_ends y [] none = ne_eqb y 46 (λ e. none (inl e))
plain_ends y (z ∷ zs) none = plain_ends z zs (λ i. none (inr i))

-- a plain name ends in none, whatever stands before it
pub plain_end : (xs name : List ℕ) → IsPlainName name → ends_in_point (xs ++ name) ≡ false
plain_end xs [] plain = absurd (plain.some refl)
plain_end xs (y ∷ ys) plain = ends_behind xs y ys ∙ plain_ends y ys plain.no_point

pub point_end : (xs : List ℕ) → ends_in_point (xs ++ point) ≡ true
point_end xs = ends_behind xs 46 []

pub point_off : (xs : List ℕ) → but_last (xs ++ point) ≡ xs
point_off [] = refl
point_off (x ∷ []) = refl
point_off (x ∷ y ∷ rest) = ap (λ l. x ∷ l) (point_off (y ∷ rest))

-- NAMES of cells in order
names_front : (xs ys : List PlainCell) (e : ℕ) → e < length xs → cell_name (xs ++ ys) e ≡ cell_name xs e
names_front [] ys e less = absurd (omega (arith, less))
names_front (x ∷ xs) ys zero less = refl
names_front (x ∷ xs) ys (suc e) less = names_front xs ys e (omega (arith, less))

names_behind : (xs ys : List PlainCell) (e : ℕ) → cell_name (xs ++ ys) (length xs + e) ≡ cell_name ys e
names_behind [] ys e = ap (cell_name ys) (zero_plus e)
names_behind (x ∷ xs) ys e = ap (cell_name (x ∷ (xs ++ ys))) (suc_plus (length xs) e) ∙ names_behind xs ys e

names_inner : (x : PlainCell) (cs : List PlainCell) (e : ℕ) → e < length cs → cell_name (map (inner_cell x) cs) e ≡ x.name ++ point ++ cell_name cs e
names_inner x [] e less = absurd (omega (arith, less))
names_inner x (c ∷ cs) zero less = refl
names_inner x (c ∷ cs) (suc e) less = names_inner x cs e (omega (arith, less))

names_wires : (x : PlainCell) (outputs : List PortDecl) (n : ℕ) → n < length outputs → cell_name (map (wire_of x) outputs) n ≡ x.name ++ point ++ declared_name outputs n ++ point
names_wires x [] n less = absurd (omega (arith, less))
names_wires x (o ∷ os) zero less = refl
names_wires x (o ∷ os) (suc n) less = names_wires x os n (omega (arith, less))

kept_named : (kids : Kids) (cs : List PlainCell) (c : ℕ) → kid_at kids c ≡ None → cell_name (kept kids cs) (kept_at kids c) ≡ cell_name cs c
kept_named [] cs c none = refl
kept_named (k ∷ ks) [] c none = refl
kept_named (None ∷ ks) (x ∷ xs) zero none = refl
kept_named (Some child ∷ ks) (x ∷ xs) zero none = absurd (cc)
kept_named (None ∷ ks) (x ∷ xs) (suc c) none = kept_named ks xs c none
kept_named (Some child ∷ ks) (x ∷ xs) (suc c) none = kept_named ks xs c none

-- A CELL THAT IS KEPT
pub kept_name : (kids : Kids) (cs : List PlainCell) (c : ℕ) → c < length cs → kid_at kids c ≡ None → cell_name (flat_cells kids cs) (kept_at kids c) ≡ cell_name cs c
kept_name kids cs c less none = names_front (kept kids cs) (blocks kids cs) (kept_at kids c) (kept_less kids cs c less none) ∙ kept_named kids cs c none

-- A BLOCK, of the cell
record BlockNamed (list : List PlainCell) (from : ℕ) (child : PlainComponent) (name : List ℕ) : Type 0 where
  cell : PlainCell
  is : cell.name ≡ name
  names : (e : ℕ) → e < block_size (Some child) → cell_name list (from + e) ≡ cell_name (block (Some child) cell) e

block_named : (kids : Kids) (cs : List PlainCell) (c : ℕ) (child : PlainComponent) → c < length cs → kid_at kids c ≡ Some child → BlockNamed (blocks kids cs) (block_at kids c) child (cell_name cs c)
block_named [] cs c child less its = absurd (cc)
block_named (k ∷ ks) [] c child less its = absurd (omega (arith, less))
block_named (None ∷ ks) (x ∷ xs) zero child less its = absurd (cc)
block_named (Some other ∷ ks) (x ∷ xs) zero child less its =
    let same : other ≡ child = cc in
    record {
      cell = x;
      is = refl;
      names = λ e inside.
          ap (cell_name (block (Some other) x ++ blocks ks xs)) (zero_plus e)
          ∙ names_front (block (Some other) x) (blocks ks xs) e (let size = length-block (Some other) x in let alike = ap (λ o. block_size (Some o)) same in omega (arith, inside, size, alike))
          ∙ ap (λ o. cell_name (block (Some o) x) e) same;
    }
block_named (k ∷ ks) (x ∷ xs) (suc c) child less its =
    let r = block_named ks xs c child (omega (arith, less)) its in
    record {
      cell = r.cell;
      is = r.is;
      names = λ e inside.
          ap (cell_name (block k x ++ blocks ks xs)) (sum_twice (block_size k) (block_at ks c) e ∙ ap (λ n. n + (block_at ks c + e)) (sym (length-block k x)))
          ∙ names_behind (block k x) (blocks ks xs) (block_at ks c + e) ∙ r.names e inside;
    }

module _ (kids : Kids) (part : PlainComponent) (c : ℕ) (child : PlainComponent) (less : c < length part.cells) (its : kid_at kids c ≡ Some child) where
  stands : BlockNamed (blocks kids part.cells) (block_at kids c) child (cell_name part.cells c)
  stands = block_named kids part.cells c child less its

  in_block : (e : ℕ) → e < block_size (Some child) → cell_name (flat_cells kids part.cells) (start_of kids part c + e) ≡ cell_name (block (Some child) stands.cell) e
  in_block e inside =
      ap (cell_name (flat_cells kids part.cells)) (sum_twice (length (kept kids part.cells)) (block_at kids c) e) ∙ names_behind (kept kids part.cells) (blocks kids part.cells) (block_at kids c + e) ∙ stands.names e inside

  -- a cell of the child
  pub inner_name : (e : ℕ) → e < length child.cells → cell_name (flat_cells kids part.cells) (start_of kids part c + e) ≡ cell_name part.cells c ++ point ++ cell_name child.cells e
  inner_name e inside =
      in_block e (omega (arith, inside))
      ∙ names_front (map (inner_cell stands.cell) child.cells) (map (wire_of stands.cell) child.outputs) e (let size = length-map child.cells (inner_cell stands.cell) in omega (arith, inside, size))
      ∙ names_inner stands.cell child.cells e inside ∙ ap (λ name. name ++ point ++ cell_name child.cells e) stands.is

  -- the wire of an output
  pub wire_name : (n : ℕ) → n < length child.outputs → cell_name (flat_cells kids part.cells) (wire_at kids part child c n) ≡ cell_name part.cells c ++ point ++ declared_name child.outputs n ++ point
  wire_name n inside =
      ap (cell_name (flat_cells kids part.cells)) (sum_twice (start_of kids part c) (length child.cells) n)
      ∙ in_block (length child.cells + n) (omega (arith, inside))
      ∙ ap (cell_name (block (Some child) stands.cell)) (ap (λ k. k + n) (sym (length-map child.cells (inner_cell stands.cell))))
      ∙ names_behind (map (inner_cell stands.cell) child.cells) (map (wire_of stands.cell) child.outputs) n
      ∙ names_wires stands.cell child.outputs n inside ∙ ap (λ name. name ++ point ++ declared_name child.outputs n ++ point) stands.is
