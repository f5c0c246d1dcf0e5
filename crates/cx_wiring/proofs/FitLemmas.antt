-- What holds of all in a list, entries of a list from one on, and widths of expressions.
use Rattle.std.proofs.Common.{◌≡◌, inl, inr, ℕ, zero, suc, ◌+◌, ◌<◌, ◌≤◌, ◌&&◌, if◌then◌else◌, List, [], ◌∷◌, ◌++◌, Some, None, length, map, replicate, slice_get, refl, ap, sym, ◌∙◌, subst, arith}
use Rattle.std.specs.Prelude.{◌^◌, nat_lt, option_map, option_and_then, unwrap_or}
use Rattle.std.proofs.lemmas.Bool.{le-leb, lt-ltb}
use Rattle.std.proofs.lemmas.Option.{slice_get-map}
use Rattle.cx_bits.specs.BitVector.{BitVector}
use Rattle.cx_prim.specs.declared.names.PrimitiveName.TheVariants as primitives
use Rattle.cx_prim.specs.Rows.{IsOfWidth}
use Rattle.cx_prim.specs.PipeRows.{timer_row}
use Rattle.cx_prim.specs.Table.{no_row, row_of}
use Rattle.cx_meaning.specs.declared.ports.PortRef.TheVariants as ports
use Rattle.cx_meaning.specs.Designs.{PlainCell}
use Rattle.cx_text.specs.Members.{In, Each}
use Rattle.cx_net.specs.Nets.{PlainNetExpr, exprs_of, PlainNetComponent, PlainNet}
use Rattle.cx_net.specs.NetFits.{kind_width, port_width, HasPortWidth, HasWidth, AreBits}
use Rattle.cx_wiring.specs.Wiring.{kind_in, cell_in}
use Rattle.cx_wiring.specs.Fitting.{HasFrom, IsTimer}
use Rattle.cx_text.proofs.ListLaws.{front}

module _ {A : Type 0} (P : A → Type 0) where
  pub are_at : (xs : List A) → Each P xs → (n : ℕ) (x : A) → slice_get xs n ≡ Some x → P x
  are_at [] h n x e = absurd cc
  are_at (y ∷ xs) h zero x e = let same : y ≡ x = cc in subst P same h.0
  are_at (y ∷ xs) h (suc n) x e = are_at xs h.1 n x e

  pub are_each : (xs : List A) → ((x : A) → In xs x → P x) → Each P xs
  are_each [] each = tt
  are_each (x ∷ xs) each = (each x (inl refl), are_each xs (λ y i. each y (inr i)))

module _ {A : Type 0} (P Q : A → Type 0) (more : (x : A) → P x → Q x) where
  pub are_more : (xs : List A) → Each P xs → Each Q xs
  are_more [] h = tt
  are_more (x ∷ xs) h = (more x h.0, are_more xs h.1)

pub slice_right : {A : Type 0} (xs ys : List A) (n : ℕ) → slice_get (xs ++ ys) (length xs + n) ≡ slice_get ys n
slice_right [] ys n = let same : 0 + n ≡ n = omega arith in ap (slice_get ys) same
slice_right (x ∷ xs) ys n =
    let same : length (x ∷ xs) + n ≡ suc (length xs + n) = omega arith in
    ap (slice_get (x ∷ xs ++ ys)) same ∙ slice_right xs ys n

pub slice_replicate : {A : Type 0} (x : A) (n k : ℕ) → k < n → slice_get (replicate n x) k ≡ Some x
slice_replicate x zero k h = absurd (omega arith)
slice_replicate x (suc n) zero h = refl
slice_replicate x (suc n) (suc k) h = slice_replicate x n k (let i : suc k < suc n = h in omega arith)

-- ENTRIES from one on
module _ (list : List ℕ) where
  pub from_first : (n x : ℕ) (xs : List ℕ) → HasFrom list n (x ∷ xs) → slice_get list n ≡ Some x
  from_first n x xs has = let same : n ≡ n + 0 = omega arith in ap (slice_get list) same ∙ has 0 x refl

  pub from_later : (n x : ℕ) (xs : List ℕ) → HasFrom list n (x ∷ xs) → HasFrom list (suc n) xs
  from_later n x xs has i w e = let same : suc n + i ≡ n + suc i = omega arith in ap (slice_get list) same ∙ has (suc i) w e

  pub from_left : (n : ℕ) (xs ys : List ℕ) → HasFrom list n (xs ++ ys) → HasFrom list n xs
  from_left n xs ys has i w e = has i w (front xs ys i w e)

  pub from_right : (n : ℕ) (xs ys : List ℕ) → HasFrom list n (xs ++ ys) → HasFrom list (n + length xs) ys
  from_right n xs ys has i w e =
      let same : n + length xs + i ≡ n + (length xs + i) = omega arith in
      ap (slice_get list) same ∙ has (length xs + i) w (slice_right xs ys i ∙ e)

  pub from_whole : HasFrom list 0 list
  from_whole i w e = let same : 0 + i ≡ i = omega arith in ap (slice_get list) same ∙ e

  pub from_replicate : (n k w i : ℕ) → HasFrom list n (replicate k w) → i < k → slice_get list (n + i) ≡ Some w
  from_replicate n k w i has less = has i w (slice_replicate w k i less)

-- EXPRESSIONS
pub word_width : (n : ℕ) → n < 2 ^ 32 → IsOfWidth 32 (record { width = 32; value = n })
word_width n few = record { same_width = refl; fits = record { some_bits = omega arith; few_bits = omega arith; in_range = few } }

pub bit_width : (b : BitVector) → b.width ≡ 1 → b.value < 2 → IsOfWidth 1 b
bit_width b e few = record { same_width = e; fits = record { some_bits = omega (arith, e); few_bits = omega (arith, e); in_range = subst (λ w. b.value < 2 ^ w) (sym e) few } }

module _ (net : PlainNet) (part : PlainNetComponent) where
  pub bits_of : (es : List PlainNetExpr) → Each (λ e. HasWidth net part e 1) es → AreBits net part (exprs_of es)
  bits_of [] h = tt
  bits_of (e ∷ es) h = (h.0, bits_of es h.1)

  -- what stands in an expression is the port of a component
  pub port_has : (c p w : ℕ) → port_width net part (ports.Cell c p) ≡ Some w → HasPortWidth net part (ports.Cell c p) w
  port_has c p w e = e

  -- A TIMER has a go, a count and a done
  module _ (numbers : List ℕ) (cells : List PlainCell) (same : part.cells ≡ map (cell_in numbers) cells) where
    timer_is : (n : ℕ) → 1 ≤ n → n < 2 ^ 32 → row_of (record { name = primitives.Timer; numbers = n ∷ [] }) ≡ timer_row n
    timer_is n some few =
        ap (λ b. unwrap_or (if b && nat_lt n (2 ^ 32) then Some (timer_row n) else None) no_row) (le-leb 1 n some)
        ∙ ap (λ b. unwrap_or (if b then Some (timer_row n) else None) no_row) (lt-ltb n (2 ^ 32) few)

    pub timer_port : (c p w : ℕ) → (t : IsTimer cells c) → option_map (λ port. port.width) (slice_get (timer_row t.cycles).ports p) ≡ Some w → port_width net part (ports.Cell c p) ≡ Some w
    timer_port c p w t e =
        ap (λ list. option_and_then (λ cell. kind_width net cell.kind p) (slice_get list c)) same
        ∙ ap (option_and_then (λ cell. kind_width net cell.kind p)) (slice_get-map (cell_in numbers) cells c ∙ ap (option_map (cell_in numbers)) t.stands)
        ∙ ap (λ kind. kind_width net (kind_in numbers kind) p) t.is
        ∙ ap (λ row. option_map (λ port. port.width) (slice_get row.ports p)) (timer_is t.cycles t.some t.few)
        ∙ e
