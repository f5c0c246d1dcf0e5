-- The registers of the targets, in ascending order, are the captured ones.
use Rattle.std.proofs.Common.{◌≡◌, ◌<◌, ◌≤◌, ◌+◌, ℕ, zero, suc, Bool, true, false, ◌&&◌, ◌||◌, cond, nat_eq, nat_lt, List, [], ◌∷◌, Option, Some, None, slice_get, refl, sym, ap, ◌∙◌, subst, arith, tests, true≢false}
use Rattle.std.specs.List.{list_any}
use Rattle.std.specs.BTreeSet.{insert_key}
use Rattle.std.specs.Ordering.{nat_cmp, match_ordering}
use Rattle.std.specs.declared.cmp.Ordering.TheVariants.{Less, Equal, Greater}
use Rattle.cx_meaning.specs.declared.ports.PortRef.{PortRef}
use Rattle.cx_meaning.specs.declared.ports.PortRef.TheVariants as ports
use Rattle.cx_meaning.specs.Designs.{PlainAssign, PlainCell, PlainComponent}
use Rattle.cx_meaning.specs.Active.{same_port}
use Rattle.cx_rules.specs.ShapeRules.{some_target}
use Rattle.cx_rules.specs.CallShape.{write_en_of, is_reg_kind, is_register_cell, is_register, captured_from, captured, added}
use Rattle.cx_callees.specs.Callees.{is_cell}
use Rattle.cx_shape_calls.specs.Forms.{register_of, with_register, registers_in}
use Rattle.cx_text.proofs.NumberLaws.{apart_numbers, true_lt, from_eq, equal}
use Rattle.cx_text.proofs.BoolLaws.{swapped, once}

abbrev has : List ℕ → ℕ → Bool
has xs q = list_any (nat_eq q) xs

-- ascending, from a number on
abbrev Up : ℕ → List ℕ → Type 0
Up n [] = Unit {0}
Up n (x ∷ xs) = (n ≤ x) × Up (suc x) xs

up_weaker : (m n : ℕ) (xs : List ℕ) → m ≤ n → Up n xs → Up m xs
up_weaker m n [] le h = tt
up_weaker m n (x ∷ xs) le h = (omega (arith, le, h.0), h.1)

above : (x y : ℕ) → nat_lt x y ≡ false → nat_eq x y ≡ false → y < x
above x y h e = grind (arith, tests)

none_below : (n q : ℕ) (xs : List ℕ) → Up n xs → q < n → has xs q ≡ false
none_below n q [] h lt = refl
none_below n q (x ∷ xs) h lt =
    ap (λ b. b || has xs q) (apart_numbers q x (omega (arith, lt, h.0))) ∙ none_below (suc x) q xs h.1 (omega (arith, lt, h.0))

first_has : (x : ℕ) (xs : List ℕ) → has (x ∷ xs) x ≡ true
first_has x xs = ap (λ b. b || has xs x) (equal x)

-- what an ascending list has is no less than its first
no_less : (y x : ℕ) (ys : List ℕ) → Up (suc y) ys → has (y ∷ ys) x ≡ true → y ≤ x
no_less y x ys h e = choice (nat_lt x y) refl
  where
    choice : (t : Bool) → nat_lt x y ≡ t → y ≤ x
    choice true l = absurd (true≢false (sym e ∙ none_below y x (y ∷ ys) (omega arith, h) (true_lt x y l)))
    choice false l = grind (arith, tests)

tail_has : (x q : ℕ) (xs : List ℕ) → x < q → has (x ∷ xs) q ≡ has xs q
tail_has x q xs lt = ap (λ b. b || has xs q) (not_eq' x q lt)
  where
    not_eq' : (x q : ℕ) → x < q → nat_eq q x ≡ false
    not_eq' x q h = grind (arith, tests)

up_same : (n : ℕ) (xs ys : List ℕ) → Up n xs → Up n ys → ((q : ℕ) → has xs q ≡ has ys q) → xs ≡ ys
up_same n [] [] a b h = refl
up_same n [] (y ∷ ys) a b h = absurd (true≢false (sym (first_has y ys) ∙ sym (h y)))
up_same n (x ∷ xs) [] a b h = absurd (true≢false (sym (first_has x xs) ∙ h x))
up_same n (x ∷ xs) (y ∷ ys) a b h =
    let p : y ≤ x = no_less y x ys b.1 (sym (h x) ∙ first_has x xs) in
    let q : x ≤ y = no_less x y xs a.1 (h y ∙ first_has y ys) in
    let e : x ≡ y = omega (arith, p, q) in
    ap (λ v. v ∷ xs) e
    ∙ ap (λ l. y ∷ l) (up_same (suc y) xs ys (subst (λ v. Up (suc v) xs) e a.1) b.1
    (λ q. choice q (nat_lt y q) refl e))
  where
    choice : (q : ℕ) (t : Bool) → nat_lt y q ≡ t → x ≡ y → has xs q ≡ has ys q
    choice q true l e = sym (tail_has x q xs (subst (λ v. v < q) (sym e) (true_lt y q l))) ∙ h q ∙ tail_has y q ys (true_lt y q l)
    choice q false l e =
        let small : q < suc y = grind (arith, tests) in
        none_below (suc x) q xs a.1 (subst (λ v. q < suc v) (sym e) small) ∙ sym (none_below (suc y) q ys b.1 small)

abbrev placed : ℕ → ℕ → List ℕ → Bool → Bool → List ℕ
placed k x xs s t = match_ordering (cond s Less (cond t Equal Greater)) (k ∷ x ∷ xs) (x ∷ xs) (x ∷ insert_key nat_cmp xs k)

up_insert : (n : ℕ) (xs : List ℕ) (k : ℕ) → n ≤ k → Up n xs → Up n (insert_key nat_cmp xs k)
up_insert n [] k le h = (le, tt)
up_insert n (x ∷ xs) k le h = choice (nat_lt k x) (nat_eq k x) refl refl (up_insert (suc x) xs k)
  where
    choice : (s t : Bool) → nat_lt k x ≡ s → nat_eq k x ≡ t → (suc x ≤ k → Up (suc x) xs → Up (suc x) (insert_key nat_cmp xs k)) → Up n (placed k x xs s t)
    choice true t e f ih = (le, (true_lt k x e, h.1))
    choice false true e f ih = h
    choice false false e f ih = (h.0, ih (omega (arith, above k x e f)) h.1)

has_insert : (xs : List ℕ) (k q : ℕ) → has (insert_key nat_cmp xs k) q ≡ nat_eq q k || has xs q
has_insert [] k q = refl
has_insert (x ∷ xs) k q = choice (nat_lt k x) (nat_eq k x) refl (has_insert xs k q)
  where
    choice : (s t : Bool) → nat_eq k x ≡ t → has (insert_key nat_cmp xs k) q ≡ nat_eq q k || has xs q → has (placed k x xs s t) q ≡ nat_eq q k || has (x ∷ xs) q
    choice true t e ih = refl
    choice false true e ih = subst (λ v. has (x ∷ xs) q ≡ nat_eq q v || has (x ∷ xs) q) (sym (from_eq k x e)) (once (nat_eq q x) (has xs q))
    choice false false e ih = ap (λ b. nat_eq q x || b) ih ∙ swapped (nat_eq q x) (nat_eq q k) (has xs q)

-- whether the targets of assignments have a register
abbrev registers_have : PlainComponent → List PlainAssign → ℕ → Bool
registers_have part assigns q = list_any (λ (a : PlainAssign). is_cell (register_of part a.target) q) assigns

up_registers : (part : PlainComponent) (found : List ℕ) (assigns : List PlainAssign) → Up 0 found → Up 0 (registers_in part found assigns)
up_registers part found [] h = h
up_registers part found (a ∷ rest) h = up_registers part (with_register found (register_of part a.target)) rest (choice (register_of part a.target))
  where
    choice : (o : Option ℕ) → Up 0 (with_register found o)
    choice None = h
    choice (Some r) = up_insert 0 found r (omega arith) h

pub eq_sym : (x y : ℕ) → nat_eq x y ≡ nat_eq y x
eq_sym x y = grind (arith, tests)

has_registers : (part : PlainComponent) (found : List ℕ) (assigns : List PlainAssign) (q : ℕ) → has (registers_in part found assigns) q ≡ has found q || registers_have part assigns q
has_registers part found [] q = sym (no_more (has found q))
  where
    no_more : (b : Bool) → b || false ≡ b
    no_more true = refl
    no_more false = refl
has_registers part found (a ∷ rest) q =
    has_registers part (with_register found (register_of part a.target)) rest q ∙ ap (λ b. b || registers_have part rest q) (choice (register_of part a.target))
    ∙ grouped (has found q) (is_cell (register_of part a.target) q) (registers_have part rest q)
  where
    grouped : (a b c : Bool) → (a || b) || c ≡ a || (b || c)
    grouped true b c = refl
    grouped false b c = refl

    turned : (a b : Bool) → a || b ≡ b || a
    turned true true = refl
    turned true false = refl
    turned false true = refl
    turned false false = refl

    choice : (o : Option ℕ) → has (with_register found o) q ≡ has found q || is_cell o q
    choice None = sym (turned (has found q) false)
    choice (Some r) = has_insert found r q ∙ turned (nat_eq q r) (has found q) ∙ ap (λ b. has found q || b) (eq_sym q r)

-- one target
enables : (part : PlainComponent) (q : ℕ) (t : PortRef) → is_cell (register_of part t) q ≡ is_register part q && same_port (write_en_of q) t
enables part q (ports.Cell r p) = choice (nat_eq r q) refl
  where
    no : (s t : Bool) → nat_eq r q ≡ false → is_cell (cond (s && t) (Some r) None) q ≡ false
    no true true e = e
    no true false e = refl
    no false t e = refl

    right : (b : Bool) → b && false ≡ false
    right true = refl
    right false = refl

    same : (s t : Bool) → nat_eq r q ≡ true → is_cell (cond (s && t) (Some r) None) q ≡ s && t
    same true true e = e
    same true false e = refl
    same false t e = refl

    choice : (b : Bool) → nat_eq r q ≡ b → is_cell (register_of part (ports.Cell r p)) q ≡ is_register part q && (nat_eq q r && nat_eq 1 p)
    choice true e =
        same (is_register part r) (nat_eq p 1) e
        ∙ ap (λ v. is_register part v && nat_eq p 1) (from_eq r q e)
        ∙ ap (λ b. is_register part q && b) (eq_sym p 1 ∙ ap (λ b. b && nat_eq 1 p) (sym (eq_sym q r ∙ e)))
    choice false e =
        no (is_register part r) (nat_eq p 1) e ∙ sym (right (is_register part q))
        ∙ ap (λ b. is_register part q && (b && nat_eq 1 p)) (sym (eq_sym q r ∙ e))
enables part q (ports.Input n) = nothing (is_register part q)
  where
    nothing : (b : Bool) → false ≡ b && false
    nothing true = refl
    nothing false = refl
enables part q (ports.Output n) = nothing (is_register part q)
  where
    nothing : (b : Bool) → false ≡ b && false
    nothing true = refl
    nothing false = refl
enables part q (ports.Done g) = nothing (is_register part q)
  where
    nothing : (b : Bool) → false ≡ b && false
    nothing true = refl
    nothing false = refl
enables part q (ports.Literal w v) = nothing (is_register part q)
  where
    nothing : (b : Bool) → false ≡ b && false
    nothing true = refl
    nothing false = refl

registers_are : (part : PlainComponent) (assigns : List PlainAssign) (q : ℕ) → registers_have part assigns q ≡ is_register part q && some_target (same_port (write_en_of q)) assigns
registers_are part [] q = nothing (is_register part q)
  where
    nothing : (b : Bool) → false ≡ b && false
    nothing true = refl
    nothing false = refl
registers_are part (a ∷ rest) q =
    ap (λ b. b || registers_have part rest q) (enables part q a.target) ∙ ap (λ b. (is_register part q && same_port (write_en_of q) a.target) || b) (registers_are part rest q)
    ∙ spread (is_register part q) (same_port (write_en_of q) a.target) (some_target (same_port (write_en_of q)) rest)
  where
    spread : (a b c : Bool) → (a && b) || (a && c) ≡ a && (b || c)
    spread true b c = refl
    spread false b c = refl

-- the captured registers from a number on
up_captured : (assigns : List PlainAssign) (r : ℕ) (cells : List PlainCell) → Up r (captured_from assigns r cells)
up_captured assigns r [] = tt
up_captured assigns r (cell ∷ cells) = choice (is_reg_kind cell.kind && some_target (same_port (write_en_of r)) assigns) (up_captured assigns (suc r) cells)
  where
    choice : (b : Bool) → Up (suc r) (captured_from assigns (suc r) cells) → Up r (added r b (captured_from assigns (suc r) cells))
    choice true ih = (omega arith, ih)
    choice false ih = up_weaker r (suc r) (captured_from assigns (suc r) cells) (omega arith) ih

has_captured : (assigns : List PlainAssign) (r : ℕ) (cells : List PlainCell) (m q : ℕ) → q ≡ r + m
    → has (captured_from assigns r cells) q ≡ is_register_cell (slice_get cells m) && some_target (same_port (write_en_of q)) assigns
has_captured assigns r [] m q e = refl
has_captured assigns r (cell ∷ cells) zero q e =
    let same : q ≡ r = omega (arith, e) in
    subst (λ v. has (added r (is_reg_kind cell.kind && some_target (same_port (write_en_of r)) assigns) (captured_from assigns (suc r) cells)) v ≡ is_reg_kind cell.kind && some_target (same_port (write_en_of v)) assigns) (sym same)
    (choice (is_reg_kind cell.kind && some_target (same_port (write_en_of r)) assigns))
  where
    choice : (b : Bool) → has (added r b (captured_from assigns (suc r) cells)) r ≡ b
    choice true = first_has r (captured_from assigns (suc r) cells)
    choice false = none_below (suc r) r (captured_from assigns (suc r) cells) (up_captured assigns (suc r) cells) (omega arith)
has_captured assigns r (cell ∷ cells) (suc m) q e =
    choice (is_reg_kind cell.kind && some_target (same_port (write_en_of r)) assigns) ∙ has_captured assigns (suc r) cells m q (omega (arith, e))
  where
    choice : (b : Bool) → has (added r b (captured_from assigns (suc r) cells)) q ≡ has (captured_from assigns (suc r) cells) q
    choice true = tail_has r q (captured_from assigns (suc r) cells) (omega (arith, e))
    choice false = refl

pub registers_captured : (part : PlainComponent) (assigns : List PlainAssign) → registers_in part [] assigns ≡ captured part assigns
registers_captured part assigns =
    up_same 0 (registers_in part [] assigns) (captured part assigns) (up_registers part [] assigns tt) (up_captured assigns 0 part.cells)
    (λ q. has_registers part [] assigns q ∙ registers_are part assigns q ∙ sym (has_captured assigns 0 part.cells q q (omega arith)))
