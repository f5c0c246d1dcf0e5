-- The rows of the primitives without state keep the laws of a row.
use Rattle.std.specs.Prelude.{◌≡◌, ℕ, zero, suc, ◌<◌, ◌==◌, Bool, true, false, List, [], ◌∷◌, Option, Some, None, IsSome, slice_get, nat_lt, if◌then◌else◌, option_and_then, option_map, refl}
use Rattle.std.specs.List.{list_all}
use Rattle.std.specs.Prelude.{◌⊎◌}
use Rattle.std.proofs.Common.{ap, sym, ◌∙◌, subst, arith, inl, inr}
use Rattle.std.proofs.lemmas.Bool.{ltb-true}
use Rattle.cx_bits.specs.BitVector.{BitVector, Fits}
use Rattle.cx_prim.specs.declared.ports.PortName.TheVariants.{In, Left, Right, Tru, Fal}
use Rattle.cx_prim.specs.declared.ports.PortRow.{PortRow}
use Rattle.cx_prim.specs.declared.ports.Side.{Side}
use Rattle.cx_prim.specs.declared.ports.Side.TheVariants.{Plain, Registered}
use Rattle.cx_prim.specs.Rows.{Inputs, input, Row, is_output_side, IsOfWidth, KeepsRegistered, GivesWidths, ReadsOnly, AnswersStrictly}
use Rattle.cx_prim.specs.CombinationalRows.{constant_row, unary_row, binary_row, mux_row, chosen}
use Rattle.cx_text.proofs.BoolLaws.{and_left, and_right}

-- a test that each item passes, passed by the item at a place
pub passes_at : {X : Type 0} (test : X → Bool) (xs : List X) (n : ℕ) (x : X) → list_all test xs ≡ true
    → slice_get xs n ≡ Some x → test x ≡ true
passes_at test [] n x all at = absurd (cc)
passes_at test (y ∷ ys) zero x all at =
    let same : y ≡ x = cc in ap test (sym same) ∙ and_left (test y) (list_all test ys) all
passes_at test (y ∷ ys) (suc n) x all at = passes_at test ys n x (and_right (test y) (list_all test ys) all) at

abbrev pub is_unregistered_side : Side → Bool
is_unregistered_side Registered = false
is_unregistered_side _ = true

-- a row without registered outputs
pub no_registered : (r : Row) → list_all (λ port. is_unregistered_side port.side) r.ports ≡ true → KeepsRegistered r
no_registered r none state inputs others n port at registered =
    let test : is_unregistered_side port.side ≡
    true = passes_at (λ (p : PortRow). is_unregistered_side p.side) r.ports n port none at in
    absurd (let wrong : false ≡ true = ap is_unregistered_side (sym registered) ∙ test in cc)

-- a port that is no output is not one
pub not_output : (p q : PortRow) → Some p ≡ Some q → is_output_side p.side ≡ false → is_output_side q.side ≡ true → ⊥
not_output p q same no_out out =
    let one : p ≡ q = cc in
    let wrong : false ≡ true = sym no_out ∙ ap (λ (x : PortRow). is_output_side x.side) one ∙ out in cc

pub port_width : (p q : PortRow) → Some p ≡ Some q → q.width ≡ p.width
port_width p q same = let one : p ≡ q = cc in ap (λ (x : PortRow). x.width) (sym one)

pub mapped_some : (f : BitVector → BitVector) (o : Option BitVector) (b : BitVector)
    → option_map f o ≡ Some b → (a : BitVector) × (o ≡ Some a) × (f a ≡ b)
mapped_some f None b e = absurd (cc)
mapped_some f (Some a) b e = (a, refl, cc)

pub chained_some : (f : BitVector → Option BitVector) (o : Option BitVector) (b : BitVector)
    → option_and_then f o ≡ Some b → (a : BitVector) × (o ≡ Some a) × (f a ≡ Some b)
chained_some f None b e = absurd (cc)
chained_some f (Some a) b e = (a, refl, e)

-- the operator gives values of this width
abbrev pub GivesWidth1 : ℕ → ℕ → (BitVector → BitVector) → Type 0
GivesWidth1 width out_width f = (a : BitVector) → Fits a → a.width ≡ width → IsOfWidth out_width (f a)

abbrev pub GivesWidth2 : ℕ → ℕ → (BitVector → BitVector → BitVector) → Type 0
GivesWidth2 width out_width f =
    (a b : BitVector) → Fits a → Fits b → a.width ≡ width → b.width ≡ width → IsOfWidth out_width (f a b)

pub constant_widths : (w v : ℕ) → Fits (record { width = w; value = v }) → GivesWidths (constant_row w v)
constant_widths w v good state inputs zero port b of_row fits values at out e =
    let is_b : record { width = w; value = v } ≡ b = cc in
    record {
      same_width =
          let have : w ≡ b.width = ap (λ (x : BitVector). x.width) is_b in sym have
          ∙ sym (port_width _ port at);
      fits = subst Fits is_b good;
    }
constant_widths w v good state inputs (suc n) port b of_row fits values at out e = absurd (cc)

pub unary_widths : (w v : ℕ) (f : BitVector → BitVector) → GivesWidth1 w v f → GivesWidths (unary_row w v f)
unary_widths w v f gives state inputs zero port b of_row fits values at out e = absurd (not_output _ port at refl out)
unary_widths w v f gives state inputs (suc zero) port b of_row fits values at out e =
    let found = mapped_some f (input inputs 0) b e in
    let width = fits.widths 0 (record { name = In; side = Plain; width = w }) found.0 refl found.1 in
    let made = gives found.0 (values 0 found.0 found.1) width in
    let made_b : IsOfWidth v b = subst (IsOfWidth v) found.2 made in
    record { same_width = made_b.same_width ∙ sym (port_width _ port at); fits = made_b.fits }
unary_widths w v f gives state inputs (suc (suc n)) port b of_row fits values at out e = absurd (cc)

pub binary_widths : (w v : ℕ) (f : BitVector → BitVector → BitVector) → GivesWidth2 w v f
    → GivesWidths (binary_row w v f)
binary_widths w v f gives state inputs zero port b of_row fits values at out e = absurd (not_output _ port at refl out)
binary_widths w v f gives state inputs (suc zero) port b of_row fits values at out e =
    absurd (not_output _ port at refl out)
binary_widths w v f gives state inputs (suc (suc zero)) port b of_row fits values at out e =
    let left = chained_some (λ l. option_map (f l) (input inputs 1)) (input inputs 0) b e in
    let right = mapped_some (f left.0) (input inputs 1) b left.2 in
    let left_width = fits.widths 0 (record { name = Left; side = Plain; width = w }) left.0 refl left.1 in
    let right_width = fits.widths 1 (record { name = Right; side = Plain; width = w }) right.0 refl right.1 in
    let made = gives left.0 right.0 (values 0 left.0 left.1) (values 1 right.0 right.1) left_width right_width in
    let made_b : IsOfWidth v b = subst (IsOfWidth v) right.2 made in
    record { same_width = made_b.same_width ∙ sym (port_width _ port at); fits = made_b.fits }
binary_widths w v f gives state inputs (suc (suc (suc n))) port b of_row fits values at out e = absurd (cc)

pub chosen_width : (w : ℕ) (c a b : BitVector) → IsOfWidth w a → IsOfWidth w b → IsOfWidth w (chosen c a b)
chosen_width w c a b ok_a ok_b =
    elim (c.value == 1) as (λ t. IsOfWidth w (if t then a else b)) [ true ↦ ok_a | false ↦ ok_b ]

pub mux_widths : (w : ℕ) → GivesWidths (mux_row w)
mux_widths w state inputs zero port b of_row fits values at out e = absurd (not_output _ port at refl out)
mux_widths w state inputs (suc zero) port b of_row fits values at out e = absurd (not_output _ port at refl out)
mux_widths w state inputs (suc (suc zero)) port b of_row fits values at out e = absurd (not_output _ port at refl out)
mux_widths w state inputs (suc (suc (suc zero))) port b of_row fits values at out e =
    let cond = chained_some
    (λ c. option_and_then (λ t. option_map (chosen c t) (input inputs 2)) (input inputs 1))
    (input inputs 0) b e in
    let tru = chained_some (λ t. option_map (chosen cond.0 t) (input inputs 2)) (input inputs 1) b cond.2 in
    let fal = mapped_some (chosen cond.0 tru.0) (input inputs 2) b tru.2 in
    let tru_width = fits.widths 1 (record { name = Tru; side = Plain; width = w }) tru.0 refl tru.1 in
    let fal_width = fits.widths 2 (record { name = Fal; side = Plain; width = w }) fal.0 refl fal.1 in
    let made = chosen_width w cond.0 tru.0 fal.0
    (record { same_width = tru_width; fits = values 1 tru.0 tru.1 })
    (record { same_width = fal_width; fits = values 2 fal.0 fal.1 }) in
    let made_b : IsOfWidth w b = subst (IsOfWidth w) fal.2 made in
    record { same_width = made_b.same_width ∙ sym (port_width _ port at); fits = made_b.fits }
mux_widths w state inputs (suc (suc (suc (suc n)))) port b of_row fits values at out e = absurd (cc)

-- an output depends only on the inputs that it reads
pub constant_reads_only : (w v : ℕ) → ReadsOnly (constant_row w v)
constant_reads_only w v state inputs others n agree = refl

pub unary_reads_only : (w v : ℕ) (f : BitVector → BitVector) → ReadsOnly (unary_row w v f)
unary_reads_only w v f state inputs others n agree = ap (option_map f) (agree 0 refl)

pub binary_reads_only : (w v : ℕ) (f : BitVector → BitVector → BitVector) → ReadsOnly (binary_row w v f)
binary_reads_only w v f state inputs others n agree =
    rw (agree 0 refl, agree 1 refl) refl

pub mux_reads_only : (w : ℕ) → ReadsOnly (mux_row w)
mux_reads_only w state inputs others n agree = rw (agree 0 refl, agree 1 refl, agree 2 refl) refl

some_mapped : (f : BitVector → BitVector) (o : Option BitVector) → IsSome o → IsSome (option_map f o)
some_mapped f None h = h
some_mapped f (Some a) h = h

some_chained : (f : BitVector → Option BitVector) (o : Option BitVector) → IsSome o
    → ((a : BitVector) → IsSome (f a)) → IsSome (option_and_then f o)
some_chained f None h each = h
some_chained f (Some a) h each = each a

none_chained : (f : BitVector → Option BitVector) (o : Option BitVector) → ((a : BitVector) → f a ≡ None)
    → option_and_then f o ≡ None
none_chained f None each = refl
none_chained f (Some a) each = each a

-- one of the first inputs has no value
pub first_none : (inputs : Inputs) (m : ℕ) → nat_lt m 1 ≡ true → input inputs m ≡ None → input inputs 0 ≡ None
first_none inputs zero low none = none
first_none inputs (suc m) low none = absurd (let below : suc m < 1 = ltb-true (suc m) 1 low in omega arith)

pub first_two_none : (inputs : Inputs) (m : ℕ) → nat_lt m 2 ≡ true → input inputs m ≡ None
    → (input inputs 0 ≡ None) ⊎ (input inputs 1 ≡ None)
first_two_none inputs zero low none = inl none
first_two_none inputs (suc zero) low none = inr none
first_two_none inputs (suc (suc m)) low none =
    absurd (let below : suc (suc m) < 2 = ltb-true (suc (suc m)) 2 low in omega arith)

-- an output has a value exactly where each input has one
pub constant_strict : (w v : ℕ) → AnswersStrictly (constant_row w v)
constant_strict w v state inputs n of_row out = record {
  unread = λ m reads none. absurd (let below : m < 0 = ltb-true m 0 reads in omega arith);
  beyond = λ e. absurd (cc);
  otherwise = λ all within. refl;
}

pub unary_strict : (w v : ℕ) (f : BitVector → BitVector) → AnswersStrictly (unary_row w v f)
unary_strict w v f state inputs n of_row out = record {
  unread = λ m reads none. ap (option_map f) (first_none inputs m reads none);
  beyond = λ e. absurd (cc);
  otherwise = λ all within. some_mapped f (input inputs 0) (all 0 refl);
}

pub binary_strict : (w v : ℕ) (f : BitVector → BitVector → BitVector) → AnswersStrictly (binary_row w v f)
binary_strict w v f state inputs n of_row out = record {
  unread = λ m reads none. by_side (first_two_none inputs m reads none);
  beyond = λ e. absurd (cc);
  otherwise =
      λ all within. some_chained (λ l. option_map (f l) (input inputs 1)) (input inputs 0) (all 0 refl)
      (λ l. some_mapped (f l) (input inputs 1) (all 1 refl));
}
  where
    by_side : (input inputs 0 ≡ None) ⊎ (input inputs 1 ≡ None)
        → option_and_then (λ l. option_map (f l) (input inputs 1)) (input inputs 0) ≡ None
    by_side (inl none) = ap (option_and_then (λ l. option_map (f l) (input inputs 1))) none
    by_side (inr none) =
        none_chained (λ l. option_map (f l) (input inputs 1)) (input inputs 0)
        (λ l. ap (option_map (f l)) none)

pub mux_strict : (w : ℕ) → AnswersStrictly (mux_row w)
mux_strict w state inputs n of_row out = record {
  unread = unread;
  beyond = λ e. absurd (cc);
  otherwise =
      λ all within. some_chained after_cond (input inputs 0) (all 0 refl)
      (λ c. some_chained (after_tru c) (input inputs 1) (all 1 refl)
      (λ t. some_mapped (chosen c t) (input inputs 2) (all 2 refl)));
}
  where
    after_tru : BitVector → BitVector → Option BitVector
    after_tru c t = option_map (chosen c t) (input inputs 2)

    after_cond : BitVector → Option BitVector
    after_cond c = option_and_then (after_tru c) (input inputs 1)

    unread : (m : ℕ) → nat_lt m 3 ≡ true → input inputs m ≡ None → option_and_then after_cond (input inputs 0) ≡ None
    unread zero low none = ap (option_and_then after_cond) none
    unread (suc zero) low none = none_chained after_cond (input inputs 0) (λ c. ap (option_and_then (after_tru c)) none)
    unread (suc (suc zero)) low none =
        none_chained after_cond (input inputs 0)
        (λ c. none_chained (after_tru c) (input inputs 1) (λ t. ap (option_map (chosen c t)) none))
    unread (suc (suc (suc m))) low none =
        absurd (let below : suc (suc (suc m)) < 3 = ltb-true (suc (suc (suc m))) 3 low in omega arith)
