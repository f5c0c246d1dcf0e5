-- Ports of a flat component: those of the caller and of each block are apart, and each map keeps ports apart that may be driven.
use Rattle.std.proofs.Common.{◌≡◌, ◌≢◌, ℕ, ◌+◌, ◌<◌, Bool, true, false, ◌&&◌, nat_eq, length, Some, None, refl, sym, ap, ◌∙◌, arith}
use Rattle.cx_meaning.specs.declared.ports.PortRef.{PortRef}
use Rattle.cx_meaning.specs.declared.ports.PortRef.TheVariants as ports
use Rattle.cx_meaning.specs.Designs.{PlainComponent}
use Rattle.cx_meaning.specs.Active.{same_port, cell_number}
use Rattle.cx_rules.proofs.FoundLemmas.{same_is}
use Rattle.cx_rewrites.proofs.MovedCalls.{same_both}
use Rattle.cx_flattening.specs.Flattened.{Kids, kid_at, kept_at, block_size, start_of, wire_at, port_if, own_port, child_port}
use Rattle.cx_flattening.specs.Targets.{OwnTarget, BlockTarget}
use Rattle.cx_flattening.proofs.Placing.{kept_less, kept_apart, blocks_apart}

pub not_same : (x y : PortRef) → x ≢ y → same_port x y ≡ false
not_same x y apart = choice (same_port x y) refl
  where
    choice : (b : Bool) → same_port x y ≡ b → b ≡ false
    choice true e = absurd (apart (same_is x y e))
    choice false e = refl

abbrev number_of : PortRef → ℕ
number_of (ports.Cell c p) = p
number_of (ports.Input n) = n
number_of (ports.Output n) = n
number_of (ports.Done g) = g
number_of (ports.Literal w v) = w

module _ (kids : Kids) (part : PlainComponent) where
  pub own-kept : (c p : ℕ) → kid_at kids c ≡ None → own_port kids part (ports.Cell c p) ≡ ports.Cell (kept_at kids c) p
  own-kept c p e = ap (λ k. port_if kids part k c p) e

  kept_same : (c d p q : ℕ) → kid_at kids c ≡ None → kid_at kids d ≡ None → same_port (own_port kids part (ports.Cell c p)) (own_port kids part (ports.Cell d q)) ≡ same_port (ports.Cell c p) (ports.Cell d q)
  kept_same c d p q e f =
      ap (λ x. same_port x (own_port kids part (ports.Cell d q))) (own-kept c p e) ∙ ap (same_port (ports.Cell (kept_at kids c) p)) (own-kept d q f)
      ∙ ap (λ b. b && nat_eq p q) (kept_apart kids c d e f)

  -- the caller's own ports are kept apart
  pub own_same : (x y : PortRef) → OwnTarget kids part x → OwnTarget kids part y → same_port (own_port kids part x) (own_port kids part y) ≡ same_port x y
  own_same (ports.Cell c p) (ports.Cell d q) h k = kept_same c d p q h.1 k.1
  own_same (ports.Cell c p) (ports.Input n) h k = absurd k
  own_same (ports.Cell c p) (ports.Output n) h k = ap (λ x. same_port x (ports.Output n)) (own-kept c p h.1)
  own_same (ports.Cell c p) (ports.Done g) h k = ap (λ x. same_port x (ports.Done g)) (own-kept c p h.1)
  own_same (ports.Cell c p) (ports.Literal w v) h k = absurd k
  own_same (ports.Input n) y h k = absurd h
  own_same (ports.Output n) (ports.Cell d q) h k = ap (same_port (ports.Output n)) (own-kept d q k.1)
  own_same (ports.Output n) (ports.Input m) h k = absurd k
  own_same (ports.Output n) (ports.Output m) h k = refl
  own_same (ports.Output n) (ports.Done g) h k = refl
  own_same (ports.Output n) (ports.Literal w v) h k = absurd k
  own_same (ports.Done g) (ports.Cell d q) h k = ap (same_port (ports.Done g)) (own-kept d q k.1)
  own_same (ports.Done g) (ports.Input m) h k = absurd k
  own_same (ports.Done g) (ports.Output m) h k = refl
  own_same (ports.Done g) (ports.Done e) h k = refl
  own_same (ports.Done g) (ports.Literal w v) h k = absurd k
  own_same (ports.Literal w v) y h k = absurd h

  -- a port of a block, by the number of its cell in the block
  pub record InBlock (child : PlainComponent) (c : ℕ) (x : PortRef) : Type 0 where
    pub cell : ℕ
    pub port : ℕ
    pub less : cell < block_size (Some child)
    pub is : x ≡ ports.Cell (start_of kids part c + cell) port

  pub in_block : (child : PlainComponent) (c : ℕ) (sources : ℕ → PortRef) (x : PortRef) → BlockTarget child x → InBlock child c (child_port kids part child c sources x)
  in_block child c sources (ports.Cell e p) h = record { cell = e; port = p; less = omega (arith, h); is = refl }
  in_block child c sources (ports.Input n) h = absurd h
  in_block child c sources (ports.Output n) h = record { cell = length child.cells + n; port = 0; less = omega (arith, h); is = ap (λ e. ports.Cell e 0) (plus (start_of kids part c) (length child.cells) n) }
    where
      plus : (a b m : ℕ) → a + b + m ≡ a + (b + m)
      plus a b m = omega arith
  in_block child c sources (ports.Done g) h = absurd h
  in_block child c sources (ports.Literal w v) h = absurd h

  -- no own port is one of a block
  pub own_apart : (child : PlainComponent) (c : ℕ) (x y : PortRef) → OwnTarget kids part x → InBlock child c y → own_port kids part x ≢ y
  own_apart child c (ports.Cell d q) y h inside e =
      let same : kept_at kids d ≡ start_of kids part c + inside.cell = ap cell_number (sym (own-kept d q h.1) ∙ e ∙ inside.is) in
      let less = kept_less kids part.cells d h.0 h.1 in
      omega (arith, same, less)
  own_apart child c (ports.Input n) y h inside e = absurd h
  own_apart child c (ports.Output n) y h inside e = absurd (let none : ports.Output n ≡ ports.Cell (start_of kids part c + inside.cell) inside.port = e ∙ inside.is in cc)
  own_apart child c (ports.Done g) y h inside e = absurd (let none : ports.Done g ≡ ports.Cell (start_of kids part c + inside.cell) inside.port = e ∙ inside.is in cc)
  own_apart child c (ports.Literal w v) y h inside e = absurd h

  -- no port of a block is one of another
  pub block_apart : (one other : PlainComponent) (c d : ℕ) (x y : PortRef) → c ≢ d → kid_at kids c ≡ Some one → kid_at kids d ≡ Some other → InBlock one c x → InBlock other d y → x ≢ y
  block_apart one other c d x y apart e f here there same =
      let cells : start_of kids part c + here.cell ≡ start_of kids part d + there.cell = ap cell_number (sym here.is ∙ same ∙ there.is) in
      blocks_apart kids c d here.cell there.cell one other apart e f here.less there.less (omega (arith, cells))

  -- the ports of a block are kept apart
  pub child_same : (child : PlainComponent) (c : ℕ) (sources : ℕ → PortRef) (x y : PortRef) → BlockTarget child x → BlockTarget child y
      → same_port (child_port kids part child c sources x) (child_port kids part child c sources y) ≡ same_port x y
  child_same child c sources x y h k = same_both (child_port kids part child c sources x) (child_port kids part child c sources y) x y (back x y h k) (ap (child_port kids part child c sources))
    where
      back : (x y : PortRef) → BlockTarget child x → BlockTarget child y → child_port kids part child c sources x ≡ child_port kids part child c sources y → x ≡ y
      back (ports.Cell e p) (ports.Cell f q) h k same =
          let cells : start_of kids part c + e ≡ start_of kids part c + f = ap cell_number same in
          let one : e ≡ f = omega (arith, cells) in
          let two : p ≡ q = ap number_of same in
          ap (λ n. ports.Cell n p) one ∙ ap (ports.Cell f) two
      back (ports.Cell e p) (ports.Output n) h k same =
          let cells : start_of kids part c + e ≡ wire_at kids part child c n = ap cell_number same in
          absurd (omega (arith, cells, h))
      back (ports.Output n) (ports.Cell f q) h k same =
          let cells : wire_at kids part child c n ≡ start_of kids part c + f = ap cell_number same in
          absurd (omega (arith, cells, k))
      back (ports.Output n) (ports.Output m) h k same =
          let cells : wire_at kids part child c n ≡ wire_at kids part child c m = ap cell_number same in
          let one : n ≡ m = omega (arith, cells) in
          ap ports.Output one
      back (ports.Cell e p) (ports.Input n) h k same = absurd k
      back (ports.Cell e p) (ports.Done g) h k same = absurd k
      back (ports.Cell e p) (ports.Literal w v) h k same = absurd k
      back (ports.Output n) (ports.Input m) h k same = absurd k
      back (ports.Output n) (ports.Done g) h k same = absurd k
      back (ports.Output n) (ports.Literal w v) h k same = absurd k
      back (ports.Input n) y h k same = absurd h
      back (ports.Done g) y h k same = absurd h
      back (ports.Literal w v) y h k same = absurd h
