-- PORTS OF CELLS THAT ARE KEPT are moved to places of their own; so the registers that a group captures in the flat component are those that it
-- captures in the component, each where it stands.
use Rattle.std.proofs.Common.{◌≡◌, ℕ, zero, suc, ◌+◌, ◌<◌, ◌≤◌, inl, inr, Bool, true, false, ◌||◌, ◌&&◌, List, [], ◌∷◌, ◌++◌, length, map, Option, Some, None, slice_get, refl, sym, ap, ◌∙◌, subst, arith}
use Rattle.std.proofs.lemmas.Bool.{eqb-true, eq-eqb}
use Rattle.std.proofs.lemmas.List.{append-nil}
use Rattle.cx_meaning.specs.declared.ports.PortRef.{PortRef}
use Rattle.cx_meaning.specs.declared.ports.PortRef.TheVariants as ports
use Rattle.cx_meaning.specs.Designs.{PlainAssign, PlainKind, OfPrimitive, OfComponent, PlainCell, PlainComponent, PlainDesign}
use Rattle.cx_meaning.specs.Active.{same_port, cell_number, port_number}
use Rattle.cx_text.specs.Members.{In}
use Rattle.cx_rules.specs.ShapeRules.{some_target}
use Rattle.cx_rules.specs.CallShape.{write_en_of, is_reg_kind, is_register_cell, is_register, one, added, captured_from, captured}
use Rattle.cx_rewrites.specs.Moving.{moved_assign}
use Rattle.cx_rewrites.proofs.MovedLists.{some_target-moved}
use Rattle.cx_rewrites.proofs.MovedCalls.{IsApart, apart_right}
use Rattle.cx_flattening.specs.Flattened.{Kids, kid_at, kept, kept_at, blocks, flat_cells, port_if, own_port}
use Rattle.cx_flattening.specs.FlatDesign.{renumbered_kind, renumbered_cell}
use Rattle.cx_flattening.specs.Targets.{OwnTarget}
use Rattle.cx_flattening.proofs.Placing.{kept_less, kept_apart}
use Rattle.cx_flattening.proofs.PortLemmas.{own-kept, not_same}
use Rattle.cx_flattening.proofs.CellLayout.{kind_at, kept_stands}

module _ (kids : Kids) (part : PlainComponent) where
  abbrev f : PortRef → PortRef
  f = own_port kids part

  -- literals stay, and nothing else becomes one
  pub own_one : (t : PortRef) → same_port (f t) one ≡ same_port t one
  own_one (ports.Cell c p) = by (kid_at kids c)
    where
      by : (k : Option PlainComponent) → same_port (port_if kids part k c p) one ≡ false
      by None = refl
      by (Some kid) = refl
  own_one (ports.Input n) = refl
  own_one (ports.Output n) = refl
  own_one (ports.Done g) = refl
  own_one (ports.Literal w v) = refl

  -- A PORT OF A CELL THAT IS KEPT stands alone
  pub cell_alone : (c p : ℕ) → c < length part.cells → kid_at kids c ≡ None → IsApart f (ports.Cell c p)
  cell_alone c p less none t e = by t (e ∙ own-kept kids part c p none)
    where
      of_cell : (d m : ℕ) (k : Option PlainComponent) → kid_at kids d ≡ k → port_if kids part k d m ≡ ports.Cell (kept_at kids c) p → ports.Cell d m ≡ ports.Cell c p
      of_cell d m None its e =
          let cells : kept_at kids d ≡ kept_at kids c = ap cell_number e in
          let one_cell : d ≡ c = eqb-true d c (sym (kept_apart kids d c its none) ∙ eq-eqb (kept_at kids d) (kept_at kids c) cells) in
          let one_port : m ≡ p = ap port_number e in
          ap (λ x. ports.Cell x m) one_cell ∙ ap (ports.Cell c) one_port
      of_cell d m (Some kid) its e =
          let cells = ap cell_number e in
          let inside = kept_less kids part.cells c less none in
          absurd (omega (arith, cells, inside))

      by : (t : PortRef) → f t ≡ ports.Cell (kept_at kids c) p → t ≡ ports.Cell c p
      by (ports.Cell d m) e = of_cell d m (kid_at kids d) refl e
      by (ports.Input n) e = absurd (cc)
      by (ports.Output n) e = absurd (cc)
      by (ports.Done g) e = absurd (cc)
      by (ports.Literal w v) e = absurd (cc)

  -- so does a hole
  pub done_alone : (h : ℕ) → IsApart f (ports.Done h)
  done_alone h (ports.Cell d m) e = absurd (by (kid_at kids d) e)
    where
      by : (k : Option PlainComponent) → port_if kids part k d m ≡ ports.Done h → ⊥
      by None e = cc
      by (Some kid) e = cc
  done_alone h (ports.Input n) e = absurd (cc)
  done_alone h (ports.Output n) e = absurd (cc)
  done_alone h (ports.Done g) e = e
  done_alone h (ports.Literal w v) e = absurd (cc)

-- REGISTERS
abbrev reg_at : Option PlainKind → Bool
reg_at None = false
reg_at (Some kind) = is_reg_kind kind

register_kind : (cs : List PlainCell) (r : ℕ) → is_register_cell (slice_get cs r) ≡ reg_at (kind_at cs r)
register_kind [] r = refl
register_kind (c ∷ cs) zero = refl
register_kind (c ∷ cs) (suc r) = register_kind cs r

module _ (d : PlainDesign) where
  reg_renumbered : (kind : PlainKind) → is_reg_kind (renumbered_kind d kind) ≡ is_reg_kind kind
  reg_renumbered (OfPrimitive primitive) = refl
  reg_renumbered (OfComponent k) = refl

  register_renumbered : (cs : List PlainCell) (r : ℕ) → is_register_cell (slice_get (map (renumbered_cell d) cs) r) ≡ is_register_cell (slice_get cs r)
  register_renumbered [] r = refl
  register_renumbered (c ∷ cs) zero = reg_renumbered c.kind
  register_renumbered (c ∷ cs) (suc r) = register_renumbered cs r

  captured_renumbered : (assigns : List PlainAssign) (r : ℕ) (cs : List PlainCell) → captured_from assigns r (map (renumbered_cell d) cs) ≡ captured_from assigns r cs
  captured_renumbered assigns r [] = refl
  captured_renumbered assigns r (c ∷ cs) =
      ap (λ b. added r (b && some_target (same_port (write_en_of r)) assigns) (captured_from assigns (suc r) (map (renumbered_cell d) cs))) (reg_renumbered c.kind)
      ∙ ap (added r (is_reg_kind c.kind && some_target (same_port (write_en_of r)) assigns)) (captured_renumbered assigns (suc r) cs)

  -- a cell that is kept is a register where it was one
  pub register_kept : (kids : Kids) (part flat : PlainComponent) → flat.cells ≡ map (renumbered_cell d) (flat_cells kids part.cells)
      → (c : ℕ) → c < length part.cells → kid_at kids c ≡ None → is_register flat (kept_at kids c) ≡ is_register part c
  register_kept kids part flat cells c less none =
      ap (λ cs. is_register_cell (slice_get cs (kept_at kids c))) cells
      ∙ register_renumbered (flat_cells kids part.cells) (kept_at kids c)
      ∙ register_kind (flat_cells kids part.cells) (kept_at kids c)
      ∙ ap reg_at (kept_stands kids part.cells c less none)
      ∙ sym (register_kind part.cells c)

-- the captured registers of cells behind others, and of cells that are not written
module _ (assigns : List PlainAssign) where
  abbrev Writes : ℕ → Bool
  Writes r = some_target (same_port (write_en_of r)) assigns

  captured_both : (r : ℕ) (xs ys : List PlainCell) → captured_from assigns r (xs ++ ys) ≡ captured_from assigns r xs ++ captured_from assigns (r + length xs) ys
  captured_both r [] ys = ap (λ n. captured_from assigns n ys) (plus_zero r)
    where
      plus_zero : (a : ℕ) → a ≡ a + 0
      plus_zero a = omega arith
  captured_both r (x ∷ xs) ys =
      ap (added r (is_reg_kind x.kind && Writes r)) (captured_both (suc r) xs ys ∙ ap (λ n. captured_from assigns (suc r) xs ++ captured_from assigns n ys) (plus r (length xs)))
      ∙ by (is_reg_kind x.kind && Writes r)
    where
      plus : (a b : ℕ) → suc a + b ≡ a + suc b
      plus a b = omega arith

      by : (b : Bool) → added r b (captured_from assigns (suc r) xs ++ captured_from assigns (r + suc (length xs)) ys) ≡ added r b (captured_from assigns (suc r) xs) ++ captured_from assigns (r + suc (length xs)) ys
      by true = refl
      by false = refl

  captured_none : (r : ℕ) (cs : List PlainCell) → ((e : ℕ) → r ≤ e → Writes e ≡ false) → captured_from assigns r cs ≡ []
  captured_none r [] none = refl
  captured_none r (x ∷ xs) none =
      ap (λ b. added r (is_reg_kind x.kind && b) (captured_from assigns (suc r) xs)) (none r (omega arith))
      ∙ by (is_reg_kind x.kind) ∙ captured_none (suc r) xs (λ e less. none e (omega (arith, less)))
    where
      by : (b : Bool) → added r (b && false) (captured_from assigns (suc r) xs) ≡ captured_from assigns (suc r) xs
      by true = refl
      by false = refl

  -- each stands among the cells, and is written
  abbrev Found : ℕ → List PlainCell → ℕ → Type 0
  Found r cs q = (m : ℕ) × (q ≡ r + m) × (m < length cs) × (Writes q ≡ true)

  captured_in : (r : ℕ) (cs : List PlainCell) (q : ℕ) → In (captured_from assigns r cs) q → Found r cs q
  captured_in r [] q j = absurd j
  captured_in r (x ∷ xs) q j = by (is_reg_kind x.kind) (Writes r) refl j (λ l. captured_in (suc r) xs q l)
    where
      on : Found (suc r) xs q → Found r (x ∷ xs) q
      on h =
          let e = h.1 in
          let less = h.2 in
          (suc h.0, omega (arith, e), omega (arith, less), h.3)

      by : (a b : Bool) → Writes r ≡ b → In (added r (a && b) (captured_from assigns (suc r) xs)) q → (In (captured_from assigns (suc r) xs) q → Found (suc r) xs q) → Found r (x ∷ xs) q
      by true true w (inl same) later = (0, omega (arith, same), omega arith, subst (λ k. Writes k ≡ true) same w)
      by true true w (inr l) later = on (later l)
      by true false w l later = on (later l)
      by false b w l later = on (later l)

no_target : (test : PortRef → Bool) (list : List PlainAssign) → ((a : PlainAssign) → In list a → test a.target ≡ false) → some_target test list ≡ false
no_target test [] each = refl
no_target test (a ∷ rest) each = ap (λ b. b || some_target test rest) (each a (inl refl)) ∙ no_target test rest (λ x i. each x (inr i))

no_moved : (g : PortRef → PortRef) (test : PortRef → Bool) (list : List PlainAssign) → ((a : PlainAssign) → In list a → test (g a.target) ≡ false) → some_target test (map (moved_assign g) list) ≡ false
no_moved g test [] each = refl
no_moved g test (a ∷ rest) each = ap (λ b. b || some_target test (map (moved_assign g) rest)) (each a (inl refl)) ∙ no_moved g test rest (λ x i. each x (inr i))

module _ (kids : Kids) (part : PlainComponent) (assigns : List PlainAssign) (own : (a : PlainAssign) → In assigns a → OwnTarget kids part a.target) where
  abbrev moved : List PlainAssign
  moved = map (moved_assign (own_port kids part)) assigns

  abbrev K : ℕ → ℕ
  K = kept_at kids

  writes_kept : (c : ℕ) → c < length part.cells → kid_at kids c ≡ None → Writes moved (K c) ≡ Writes assigns c
  writes_kept c less none =
      some_target-moved (own_port kids part) (same_port (write_en_of c)) (same_port (write_en_of (K c)))
      (λ p. ap (λ q. same_port q (own_port kids part p)) (sym (own-kept kids part c 1 none))
      ∙ apart_right (own_port kids part) (ports.Cell c 1) (cell_alone kids part c 1 less none) p)
      assigns

  -- nothing drives a port of a static child's cell
  writes_static : (c : ℕ) (kid : PlainComponent) → kid_at kids c ≡ Some kid → Writes assigns c ≡ false
  writes_static c kid its = no_target (same_port (write_en_of c)) assigns (λ a i. not_same (write_en_of c) a.target (apart a.target (own a i)))
    where
      apart : (q : PortRef) → OwnTarget kids part q → write_en_of c ≡ q → ⊥
      apart (ports.Cell d p) h e =
          let same : c ≡ d = ap cell_number e in
          let clash : Some kid ≡ None = sym its ∙ ap (kid_at kids) same ∙ h.1 in cc
      apart (ports.Input n) h e = h
      apart (ports.Output n) h e = cc
      apart (ports.Done g) h e = cc
      apart (ports.Literal w v) h e = h

  -- nor what stands in a block
  writes_block : (e : ℕ) → length (kept kids part.cells) ≤ e → Writes moved e ≡ false
  writes_block e past = no_moved (own_port kids part) (same_port (write_en_of e)) assigns (λ a i. not_same (write_en_of e) (own_port kids part a.target) (apart a.target (own a i)))
    where
      apart : (q : PortRef) → OwnTarget kids part q → write_en_of e ≡ own_port kids part q → ⊥
      apart (ports.Cell d p) h same =
          let cells : e ≡ K d = ap cell_number (same ∙ own-kept kids part d p h.1) in
          let inside = kept_less kids part.cells d h.0 h.1 in
          omega (arith, cells, inside, past)
      apart (ports.Input n) h same = h
      apart (ports.Output n) h same = cc
      apart (ports.Done g) h same = cc
      apart (ports.Literal w v) h same = h

  added_moved : (c : ℕ) (b : Bool) (list : List ℕ) → added (K c) b (map K list) ≡ map K (added c b list)
  added_moved c true list = refl
  added_moved c false list = refl

  -- cells from c on, of which those that are kept stand from r on
  record Tail (ks : Kids) (cs : List PlainCell) (c r : ℕ) : Type 0 where
    its : (n : ℕ) → kid_at ks n ≡ kid_at kids (c + n)
    there : (n : ℕ) → n < length cs → r + kept_at ks n ≡ K (c + n)
    few : c + length cs ≤ length part.cells

  zero_plus : (a : ℕ) → a + 0 ≡ a
  zero_plus a = omega arith

  plus : (a b : ℕ) → a + suc b ≡ suc a + b
  plus a b = omega arith

  one_kept : (x : PlainCell) (c r : ℕ) (list : List ℕ) → kid_at kids c ≡ None → c < length part.cells → r ≡ K c
      → added r (is_reg_kind x.kind && Writes moved r) (map K list) ≡ map K (added c (is_reg_kind x.kind && Writes assigns c) list)
  one_kept x c r list none less same =
      ap (λ k. added k (is_reg_kind x.kind && Writes moved k) (map K list)) same
      ∙ ap (λ b. added (K c) (is_reg_kind x.kind && b) (map K list)) (writes_kept c less none)
      ∙ added_moved c (is_reg_kind x.kind && Writes assigns c) list

  captured_kept : (ks : Kids) (cs : List PlainCell) (c r : ℕ) → Tail ks cs c r → captured_from moved r (kept ks cs) ≡ map K (captured_from assigns c cs)
  captured_kept [] [] c r t = refl
  captured_kept [] (x ∷ xs) c r t =
      ap (added r (is_reg_kind x.kind && Writes moved r)) (captured_kept [] xs (suc c) (suc r) (record {
        its = λ n. t.its (suc n) ∙ ap (kid_at kids) (plus c n);
        there = λ n less. (let h = t.there (suc n) (omega (arith, less)) in let e : suc r + n ≡ r + suc n = omega arith in e ∙ h) ∙ ap K (plus c n);
        few = (let h = t.few in omega (arith, h));
      }))
      ∙ one_kept x c r (captured_from assigns (suc c) xs) (ap (kid_at kids) (sym (zero_plus c)) ∙ sym (t.its 0)) (let h = t.few in omega (arith, h))
      (sym (zero_plus r) ∙ t.there 0 (omega arith) ∙ ap K (zero_plus c))
  captured_kept (k ∷ ks) [] c r t = refl
  captured_kept (None ∷ ks) (x ∷ xs) c r t =
      ap (added r (is_reg_kind x.kind && Writes moved r)) (captured_kept ks xs (suc c) (suc r) (record {
        its = λ n. t.its (suc n) ∙ ap (kid_at kids) (plus c n);
        there = λ n less. (let h = t.there (suc n) (omega (arith, less)) in let e : suc r + kept_at ks n ≡ r + suc (kept_at ks n) = omega arith in e ∙ h) ∙ ap K (plus c n);
        few = (let h = t.few in omega (arith, h));
      }))
      ∙ one_kept x c r (captured_from assigns (suc c) xs) (ap (kid_at kids) (sym (zero_plus c)) ∙ sym (t.its 0)) (let h = t.few in omega (arith, h))
      (sym (zero_plus r) ∙ t.there 0 (omega arith) ∙ ap K (zero_plus c))
  captured_kept (Some kid ∷ ks) (x ∷ xs) c r t =
      captured_kept ks xs (suc c) r (record {
        its = λ n. t.its (suc n) ∙ ap (kid_at kids) (plus c n);
        there = λ n less. t.there (suc n) (omega (arith, less)) ∙ ap K (plus c n);
        few = (let h = t.few in omega (arith, h));
      })
      ∙ ap (map K) (sym (by (is_reg_kind x.kind)) ∙ ap (λ b. added c (is_reg_kind x.kind && b) (captured_from assigns (suc c) xs)) (sym (writes_static c kid (ap (kid_at kids) (sym (zero_plus c)) ∙ sym (t.its 0)))))
    where
      by : (b : Bool) → added c (b && false) (captured_from assigns (suc c) xs) ≡ captured_from assigns (suc c) xs
      by true = refl
      by false = refl

  -- THE CAPTURED REGISTERS
  pub captured_moved : (d : PlainDesign) (flat : PlainComponent) → flat.cells ≡ map (renumbered_cell d) (flat_cells kids part.cells) → captured flat moved ≡ map K (captured part assigns)
  captured_moved d flat cells =
      ap (captured_from moved 0) cells
      ∙ captured_renumbered d moved 0 (flat_cells kids part.cells)
      ∙ captured_both moved 0 (kept kids part.cells) (blocks kids part.cells)
      ∙ ap (λ l. captured_from moved 0 (kept kids part.cells) ++ l) (captured_none moved (0 + length (kept kids part.cells)) (blocks kids part.cells) (λ e past. writes_block e (omega (arith, past))))
      ∙ append-nil (captured_from moved 0 (kept kids part.cells))
      ∙ captured_kept kids part.cells 0 0 (record { its = λ n. ap (kid_at kids) (none n); there = λ n less. sym (none (K n)) ∙ ap K (none n); few = omega arith })
    where
      none : (n : ℕ) → n ≡ 0 + n
      none n = omega arith

  -- each is a cell that is kept
  pub captured_one : (r : ℕ) → In (captured part assigns) r → (r < length part.cells) × (kid_at kids r ≡ None)
  captured_one r j =
      let h = captured_in assigns 0 part.cells r j in
      let e = h.1 in
      let less = h.2 in
      (omega (arith, e, less), by (kid_at kids r) refl h.3)
    where
      by : (k : Option PlainComponent) → kid_at kids r ≡ k → Writes assigns r ≡ true → k ≡ None
      by None its w = refl
      by (Some kid) its w = absurd (let clash : false ≡ true = sym (writes_static r kid its) ∙ w in cc)
