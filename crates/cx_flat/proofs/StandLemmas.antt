-- Where the cells of a component stand is where its flat form has them, and so are its ports.
use Rattle.std.proofs.Common.{◌≡◌, ℕ, zero, suc, ◌+◌, List, [], ◌∷◌, ◌⊎◌, inl, inr, Option, Some, None, length, slice_get, refl, sym, ap, ◌∙◌, arith}
use Rattle.std.proofs.Math.Path.{fun_ext}
use Rattle.cx_meaning.specs.declared.ports.PortRef.{PortRef}
use Rattle.cx_meaning.specs.declared.ports.PortRef.TheVariants as ports
use Rattle.cx_meaning.specs.Designs.{PlainComponent}
use Rattle.cx_flattening.specs.Flattened.{Kids, kid_at, kept, behind, kept_at, block_size, block_at, start_of, port_if, own_port, child_port}
use Rattle.cx_flat.specs.declared.stands.Block.{Block}
use Rattle.cx_flat.specs.declared.stands.Stand.{Stand}
use Rattle.cx_flat.specs.declared.stands.Stand.TheVariants.{Inlined}
use Rattle.cx_flat.specs.Stands.{block_of, stand_of, stands_from, stands_of, behind_stand, kept_by, stand_port, own_by, block_by}

-- what stands at a cell: one that is there, or none, and then no child either
abbrev pub StandsAt : List Stand → Kids → ℕ → ℕ → ℕ → Type 0
StandsAt stands kids n b c = (slice_get stands c ≡ Some (stand_of (kid_at kids c) (n + kept_at kids c) (b + block_at kids c))) ⊎ ((slice_get stands c ≡ None) × (kid_at kids c ≡ None))

first : (k : Option PlainComponent) (n b : ℕ) → stand_of k n b ≡ stand_of k (n + 0) (b + 0)
first k n b = ap (λ x. stand_of k x b) (let e : n ≡ n + 0 = omega arith in e) ∙ ap (stand_of k (n + 0)) (let e : b ≡ b + 0 = omega arith in e)

further : (k : Option PlainComponent) (n m : ℕ) → behind k n + m ≡ n + behind k m
further None n m = omega arith
further (Some child) n m = refl

sum_twice : (a b c : ℕ) → a + b + c ≡ a + (b + c)
sum_twice a b c = omega arith

pub stands_at : (kids : Kids) (n b c : ℕ) → StandsAt (stands_from n b kids) kids n b c
stands_at [] n b c = inr (refl, refl)
stands_at (k ∷ ks) n b zero = inl (ap (λ s. Some s) (first k n b))
stands_at (k ∷ ks) n b (suc c) = by (stands_at ks (behind k n) (b + block_size k) c)
  where
    by : StandsAt (stands_from (behind k n) (b + block_size k) ks) ks (behind k n) (b + block_size k) c → StandsAt (stands_from n b (k ∷ ks)) (k ∷ ks) n b (suc c)
    by (inl e) = inl (e ∙ ap (λ x. Some (stand_of (kid_at ks c) x (b + block_size k + block_at ks c))) (further k n (kept_at ks c)) ∙ ap (λ x. Some (stand_of (kid_at ks c) (n + behind k (kept_at ks c)) x)) (sum_twice b (block_size k) (block_at ks c)))
    by (inr e) = inr e

stands_behind : (k : Option PlainComponent) (n b c : ℕ) → behind_stand (stand_of k n b) c ≡ behind k c
stands_behind None n b c = refl
stands_behind (Some child) n b c = refl

pub kept-is : (kids : Kids) (n b c : ℕ) → kept_by (stands_from n b kids) c ≡ kept_at kids c
kept-is [] n b c = refl
kept-is (k ∷ ks) n b zero = refl
kept-is (k ∷ ks) n b (suc c) = stands_behind k n b (kept_by (stands_from (behind k n) (b + block_size k) ks) c) ∙ ap (behind k) (kept-is ks (behind k n) (b + block_size k) c)

module _ (kids : Kids) (part : PlainComponent) where
  abbrev here : List Stand
  here = stands_of kids part.cells

  port-at : (k : Option PlainComponent) (c p : ℕ) → kid_at kids c ≡ k
      → stand_port (Some (stand_of k (0 + kept_at kids c) (length (kept kids part.cells) + block_at kids c))) (kept_by here c) p ≡ port_if kids part k c p
  port-at None c p e = ap (λ x. ports.Cell x p) (let same : 0 + kept_at kids c ≡ kept_at kids c = omega arith in same)
  port-at (Some child) c p e = refl

  cell-is : (c p : ℕ) → own_by here (ports.Cell c p) ≡ own_port kids part (ports.Cell c p)
  cell-is c p = by (stands_at kids 0 (length (kept kids part.cells)) c)
    where
      by : StandsAt here kids 0 (length (kept kids part.cells)) c → own_by here (ports.Cell c p) ≡ own_port kids part (ports.Cell c p)
      by (inl e) = ap (λ s. stand_port s (kept_by here c) p) e ∙ port-at (kid_at kids c) c p refl
      by (inr e) = ap (λ s. stand_port s (kept_by here c) p) e.0 ∙ ap (λ x. ports.Cell x p) (kept-is kids 0 (length (kept kids part.cells)) c) ∙ ap (λ k. port_if kids part k c p) (sym e.1)

  own-at : (p : PortRef) → own_by here p ≡ own_port kids part p
  own-at (ports.Cell c p) = cell-is c p
  own-at (ports.Input n) = refl
  own-at (ports.Output n) = refl
  own-at (ports.Done g) = refl
  own-at (ports.Literal w v) = refl

  -- THE PORTS of the component
  pub own-is : own_by here ≡ own_port kids part
  own-is = fun_ext own-at

  abbrev block_at_cell : PlainComponent → ℕ → Block
  block_at_cell child c = block_of child (start_of kids part c)

  -- the block of a static child
  pub block-is : (c : ℕ) (child : PlainComponent) (block : Block) → slice_get here c ≡ Some (Inlined block) → kid_at kids c ≡ Some child → block ≡ block_at_cell child c
  block-is c child block is its = by (stands_at kids 0 (length (kept kids part.cells)) c)
    where
      by : StandsAt here kids 0 (length (kept kids part.cells)) c → block ≡ block_at_cell child c
      by (inl e) = let same : Some (Inlined block) ≡ Some (Inlined (block_at_cell child c)) = sym is ∙ e ∙ ap (λ k. Some (stand_of k (0 + kept_at kids c) (start_of kids part c))) its in cc
      by (inr e) = absurd (let no : Some (Inlined block) ≡ None = sym is ∙ e.0 in cc)

  child-at : (c : ℕ) (child : PlainComponent) (sources : ℕ → PortRef) (p : PortRef) → block_by (block_at_cell child c) sources p ≡ child_port kids part child c sources p
  child-at c child sources (ports.Cell e p) = refl
  child-at c child sources (ports.Input n) = refl
  child-at c child sources (ports.Output n) = refl
  child-at c child sources (ports.Done g) = refl
  child-at c child sources (ports.Literal w v) = refl

  -- THE PORTS of a static child
  pub child-is : (c : ℕ) (child : PlainComponent) (block : Block) (sources others : ℕ → PortRef) → slice_get here c ≡ Some (Inlined block) → kid_at kids c ≡ Some child → ((n : ℕ) → sources n ≡ others n)
      → block_by block sources ≡ child_port kids part child c others
  child-is c child block sources others is its same =
      ap (λ x. block_by x sources) (block-is c child block is its) ∙ ap (block_by (block_at_cell child c)) (fun_ext same) ∙ fun_ext (child-at c child others)
