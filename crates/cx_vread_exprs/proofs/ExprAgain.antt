-- An expression that is spelled is read.
use Rattle.std.proofs.Common.{◌≡◌, ℕ, ◌-◌, ◌^◌, inl, inr, zero, suc, ◌==◌, not, true, false, ◌&&◌, ◌||◌, List, [], ◌∷◌, ◌++◌, Option, Some, None, refl, ◌∙◌, ap, subst, arith, append_assoc, ⊎_elim, if◌then◌else◌}
use Rattle.std.specs.Prelude.{codes, is_some, nat_lt, nat_le, min}
use Rattle.std.specs.List.{list_all}
use Rattle.std.specs.Str.Parse.{digits_value}
use Rattle.std.proofs.lemmas.Bool.{and_parts, or_parts, ltb-true, cases_lt}
use Rattle.std.proofs.lemmas.Bool.Decides.{nat_tests}
use Rattle.cx_vtree.specs.declared.operators.Operator.{Operator}
use Rattle.cx_vtree.specs.declared.operators.Operator.TheVariants.{Add, Subtract, Multiply, And, Or, Xor, ShiftLeft, ShiftRight, Equal, NotEqual, Less, Greater, AtMost, AtLeast}
use Rattle.cx_vtree.specs.Layout.{is_letter, is_name_byte, is_word, is_name, is_keyword, begins_word, expr_fits}
use Rattle.cx_vtree.specs.Lines.{number_text, decimal_text, op_text, expr_text}
use Rattle.cx_vtree.specs.Plain.{PlainExpr, Named, Number, Part, Word, Applied, Inverted, Chosen, Joined}
use Rattle.cx_vtree.specs.Sound.{nests_over}
use Rattle.cx_vread_exprs.specs.Places as Places
use Rattle.cx_vread_exprs.specs.Places.{Place, Reads, then_reads, then_at, after_text, begins}
use Rattle.cx_text.specs.Spans.{front, back, Stops}
use Rattle.cx_text.proofs.SpanLemmas.{front_again, back_again}
use Rattle.cx_vread_exprs.specs.Tokens.{name_at, is_digit_in, is_numeral, digits_at, number_at, capped, no_more, kept_small, kept_literal, misnamed, miswidened, small_at, literal_at}
use Rattle.cx_vread_exprs.specs.Exprs.{operator_at, is_part, part_by, item_by, bracketed_by, named_by, behind_by, applied_by, chosen_by, round_by, inverted_by, brackets_by, by_first, expr_at, inner_at, nested_at}
use Rattle.cx_vread_exprs.specs.Holds.{numbers_fit}
use Rattle.cx_vread_exprs.proofs.Kept.{kept_expr}
use Rattle.cx_vread_exprs.proofs.Numerals.{capped_some, capped_none}
use Rattle.cx_vread_exprs.proofs.Levels.{expr_at_is}
use Rattle.cx_vread_exprs.proofs.NumberAgain.{clean, digits_again, number_again, text_digits, text_numeral, text_value}

-- neither a name nor an expression goes on
pub record Ends (rest : List ℕ) : Type 0 where
  pub stops : Stops is_name_byte rest
  pub bracket : begins (codes "[") (clean rest) ≡ false

pub name_parts : (n : List ℕ) → is_name n ≡ true → (begins_word n ≡ true) × (list_all is_name_byte n ≡ true)
name_parts n h =
    let word = and_parts (is_word n) (not (is_keyword n)) h in
    let parts = and_parts (begins_word n && list_all is_name_byte n) _ word.0 in
    and_parts (begins_word n) (list_all is_name_byte n) parts.0

-- a name, before what does not go on
pub name_again : (n rest : List ℕ) → is_name n ≡ true → Stops is_name_byte rest → name_at (clean (n ++ rest)) ≡ Some (n, clean rest)
name_again n rest h ends =
    let all : list_all is_name_byte n ≡ true = (name_parts n h).1 in
    ap (λ w. if is_name w then Some (w, clean (back is_name_byte (n ++ rest))) else None) (front_again is_name_byte n rest all ends)
    ∙ ap (λ r. if is_name n then Some (n, clean r) else None) (back_again is_name_byte n rest all ends)
    ∙ ap (λ b. if b then Some (n, clean rest) else None) h

pub letter-not_round : (c : ℕ) → is_letter c ≡ true → (c == 40) ≡ false
letter-not_round c h = grind (arith, nat_tests)

pub letter-not_curly : (c : ℕ) → is_letter c ≡ true → (c == 123) ≡ false
letter-not_curly c h = grind (arith, nat_tests)

letter-not_tilde : (c : ℕ) → is_letter c ≡ true → (c == 126) ≡ false
letter-not_tilde c h = grind (arith, nat_tests)

pub letter-not_digit : (c : ℕ) → is_letter c ≡ true → (nat_le 48 c && nat_le c 57) ≡ false
letter-not_digit c h = grind (arith, nat_tests)

pub digit-not_round : (c : ℕ) → is_digit_in 10 c ≡ true → (c == 40) ≡ false
digit-not_round c h = grind (arith, nat_tests)

pub digit-not_curly : (c : ℕ) → is_digit_in 10 c ≡ true → (c == 123) ≡ false
digit-not_curly c h = grind (arith, nat_tests)

digit-not_tilde : (c : ℕ) → is_digit_in 10 c ≡ true → (c == 126) ≡ false
digit-not_tilde c h = grind (arith, nat_tests)

pub digit-digit : (c : ℕ) → is_digit_in 10 c ≡ true → (nat_le 48 c && nat_le c 57) ≡ true
digit-digit c h = grind (arith, nat_tests)

-- what is read by a first byte that opens no bracket
unbracketed : (nested named : Place → Reads PlainExpr) (c : ℕ) (x : List ℕ) → (c == 40) ≡ false → (c == 123) ≡ false
    → by_first nested named (clean (c ∷ x)) ≡ (if nat_le 48 c && nat_le c 57 then literal_at (clean (c ∷ x)) else named (clean (c ∷ x)))
unbracketed nested named c x round curly =
    ap (λ b. if is_some (if b then Some x else None) || is_some (if c == 123 then Some x else None) then nested (clean (c ∷ x)) else (if nat_le 48 c && nat_le c 57 then literal_at (clean (c ∷ x)) else named (clean (c ∷ x)))) round
    ∙ ap (λ b. if is_some (if b then Some x else None) then nested (clean (c ∷ x)) else (if nat_le 48 c && nat_le c 57 then literal_at (clean (c ∷ x)) else named (clean (c ∷ x)))) curly

pub first_name : (nested named : Place → Reads PlainExpr) (n x : List ℕ) → is_name n ≡ true → by_first nested named (clean (n ++ x)) ≡ named (clean (n ++ x))
first_name nested named [] x h = absurd (cc)
first_name nested named (c ∷ cs) x h =
    let letter : is_letter c ≡ true = (name_parts (c ∷ cs) h).0 in
    unbracketed nested named c (cs ++ x) (letter-not_round c letter) (letter-not_curly c letter)
    ∙ ap (λ b. if b then literal_at (clean (c ∷ cs ++ x)) else named (clean (c ∷ cs ++ x))) (letter-not_digit c letter)

first_number : (nested named : Place → Reads PlainExpr) (t x : List ℕ) → list_all (is_digit_in 10) t ≡ true → is_numeral t ≡ true → by_first nested named (clean (t ++ x)) ≡ literal_at (clean (t ++ x))
first_number nested named [] x all some = absurd (cc)
first_number nested named (c ∷ cs) x all some =
    let digit : is_digit_in 10 c ≡ true = (and_parts (is_digit_in 10 c) (list_all (is_digit_in 10) cs) all).0 in
    unbracketed nested named c (cs ++ x) (digit-not_round c digit) (digit-not_curly c digit)
    ∙ ap (λ b. if b then literal_at (clean (c ∷ cs ++ x)) else named (clean (c ∷ cs ++ x))) (digit-digit c digit)

-- no expression begins with `~`
tilde_name : (n x : List ℕ) → is_name n ≡ true → after_text (codes "~") (n ++ x) ≡ None
tilde_name [] x h = absurd (cc)
tilde_name (c ∷ cs) x h = ap (λ b. if b then Some (cs ++ x) else None) (letter-not_tilde c (name_parts (c ∷ cs) h).0)

tilde_number : (t x : List ℕ) → list_all (is_digit_in 10) t ≡ true → is_numeral t ≡ true → after_text (codes "~") (t ++ x) ≡ None
tilde_number [] x all some = absurd (cc)
tilde_number (c ∷ cs) x all some =
    ap (λ b. if b then Some (cs ++ x) else None) (digit-not_tilde c (and_parts (is_digit_in 10 c) (list_all (is_digit_in 10) cs) all).0)

pub no_tilde : (e : PlainExpr) (x : List ℕ) → expr_fits e ≡ true → after_text (codes "~") (expr_text e ++ x) ≡ None
no_tilde (Named n) x h = tilde_name n x h
no_tilde (Number b) x h =
    ap (after_text (codes "~")) (append_assoc (decimal_text b.width ++ codes "'h") (number_text 16 b.value) x ∙ append_assoc (decimal_text b.width) (codes "'h") (number_text 16 b.value ++ x))
    ∙ tilde_number (decimal_text b.width) _ (text_digits 10 b.width (inl refl)) (text_numeral 10 b.width (inl refl))
no_tilde (Part n high low) x h =
    let e : expr_text (Part n high low) ++ x ≡ n ++ (codes "[" ++ (decimal_text high ++ (codes ":" ++ (decimal_text low ++ (codes "]" ++ x))))) = simp append_assoc in
    ap (after_text (codes "~")) e ∙ tilde_name n _ h
no_tilde (Word n i) x h =
    let e : expr_text (Word n i) ++ x ≡ n ++ (codes "[" ++ (expr_text i ++ (codes "]" ++ x))) = simp append_assoc in
    ap (after_text (codes "~")) e ∙ tilde_name n _ (and_parts (is_name n) (expr_fits i) h).0
no_tilde (Applied op a b) x h = refl
no_tilde (Inverted a) x h = refl
no_tilde (Chosen c a b) x h = refl
no_tilde (Joined a b) x h = refl

-- an operator before a space
pub operator_again : (op : Operator) (x : List ℕ) → operator_at (clean (op_text op ++ (codes " " ++ x))) ≡ Some (op, clean (codes " " ++ x))
operator_again Add x = refl
operator_again Subtract x = refl
operator_again Multiply x = refl
operator_again And x = refl
operator_again Or x = refl
operator_again Xor x = refl
operator_again ShiftLeft x = refl
operator_again ShiftRight x = refl
operator_again Equal x = refl
operator_again NotEqual x = refl
operator_again Less x = refl
operator_again Greater x = refl
operator_again AtMost x = refl
operator_again AtLeast x = refl

pub no_choice : (op : Operator) (x : List ℕ) → begins (codes "? ") (clean (op_text op ++ (codes " " ++ x))) ≡ false
no_choice Add x = refl
no_choice Subtract x = refl
no_choice Multiply x = refl
no_choice And x = refl
no_choice Or x = refl
no_choice Xor x = refl
no_choice ShiftLeft x = refl
no_choice ShiftRight x = refl
no_choice Equal x = refl
no_choice NotEqual x = refl
no_choice Less x = refl
no_choice Greater x = refl
no_choice AtMost x = refl
no_choice AtLeast x = refl

-- a literal, before what is no digit of it
pub literal_again : (w v : ℕ) (x : List ℕ) → Stops is_name_byte x
    → literal_at (clean (decimal_text w ++ (codes "'h" ++ (number_text 16 v ++ x)))) ≡ Some (kept_literal w v, clean x)
literal_again w v x ends =
    ap (λ r. then_reads r (λ ws q. then_at (Places.after (codes "'h") q) (λ r. then_reads (digits_at 16 r) (λ vs s. Some (kept_literal (digits_value 10 ws) (digits_value 16 vs), s)))))
    (digits_again 10 w (codes "'h" ++ (number_text 16 v ++ x)) (inl refl) refl)
    ∙ ap (λ r. then_reads r (λ vs s. Some (kept_literal (digits_value 10 (decimal_text w)) (digits_value 16 vs), s))) (digits_again 16 v x (inr refl) (no_digits x ends))
    ∙ ap (λ n. Some (kept_literal n (digits_value 16 (number_text 16 v)), clean x)) (text_value 10 w (inl refl))
    ∙ ap (λ n. Some (kept_literal w n, clean x)) (text_value 16 v (inr refl))
  where
    not_digit : (c : ℕ) → is_name_byte c ≡ false → is_digit_in 16 c ≡ false
    not_digit c h = grind (arith, nat_tests)

    no_digits : (x : List ℕ) → Stops is_name_byte x → Stops (is_digit_in 16) x
    no_digits [] h = tt
    no_digits (c ∷ cs) h = not_digit c h

no_number : (c : ℕ) (x : List ℕ) → is_digit_in 10 c ≡ false → number_at 10 (clean (c ∷ x)) ≡ None
no_number c x h =
    ap (λ ds. then_reads (if is_numeral ds then Some (ds, clean (back (is_digit_in 10) (c ∷ x))) else None) (λ ds q. Some (capped (digits_value 10 ds), q)))
    (ap (λ b. if b then c ∷ front (is_digit_in 10) x else []) h)

letter-no_digit_in : (c : ℕ) → is_letter c ≡ true → is_digit_in 10 c ≡ false
letter-no_digit_in c h = grind (arith, nat_tests)

-- what begins with a name is no bound of a part
name-not_part : (n x : List ℕ) → is_name n ≡ true → is_part (clean (n ++ x)) ≡ false
name-not_part [] x h = absurd (cc)
name-not_part (c ∷ cs) x h =
    ap (λ r. is_some (then_reads r (λ n q. Places.after (codes ":") q))) (no_number c (cs ++ x) (letter-no_digit_in c (name_parts (c ∷ cs) h).0))

pub expr-not_part : (e : PlainExpr) (x : List ℕ) → expr_fits e ≡ true → is_part (clean (expr_text e ++ x)) ≡ false
expr-not_part (Named n) x h = name-not_part n x h
expr-not_part (Number b) x h =
    ap (λ t. is_part (clean t)) (append_assoc (decimal_text b.width ++ codes "'h") (number_text 16 b.value) x ∙ append_assoc (decimal_text b.width) (codes "'h") (number_text 16 b.value ++ x))
    ∙ ap (λ r. is_some (then_reads r (λ n q. Places.after (codes ":") q))) (number_again 10 b.width (codes "'h" ++ (number_text 16 b.value ++ x)) (inl refl) refl)
expr-not_part (Part n high low) x h =
    let e : expr_text (Part n high low) ++ x ≡ n ++ (codes "[" ++ (decimal_text high ++ (codes ":" ++ (decimal_text low ++ (codes "]" ++ x))))) = simp append_assoc in
    ap (λ t. is_part (clean t)) e ∙ name-not_part n _ h
expr-not_part (Word n i) x h =
    let e : expr_text (Word n i) ++ x ≡ n ++ (codes "[" ++ (expr_text i ++ (codes "]" ++ x))) = simp append_assoc in
    ap (λ t. is_part (clean t)) e ∙ name-not_part n _ (and_parts (is_name n) (expr_fits i) h).0
expr-not_part (Applied op a b) x h = refl
expr-not_part (Inverted a) x h = refl
expr-not_part (Chosen c a b) x h = refl
expr-not_part (Joined a b) x h = refl

-- what is kept of a number that was read
pub capped_small : (n : ℕ) → no_more 255 (capped n) ≡ kept_small n
capped_small n = ⊎_elim
    (λ lt. ap (no_more 255) (capped_some n lt))
    (λ le. let most : 255 ≡ min n 255 = omega arith in ap (no_more 255) (capped_none n le) ∙ most)
    (cases_lt n (2 ^ 128))

pub small_again : (n : ℕ) (x : List ℕ) → Stops (is_digit_in 10) x → small_at (clean (decimal_text n ++ x)) ≡ Some (kept_small n, clean x)
small_again n x ends =
    ap (λ r. then_reads r (λ n q. Some (no_more 255 n, q))) (number_again 10 n x (inl refl) ends)
    ∙ ap (λ k. Some (k, clean x)) (capped_small n)

-- the bounds of a part, after its bracket
abbrev pub bounds_of_part : ℕ → ℕ → List ℕ → List ℕ
bounds_of_part high low x = decimal_text high ++ (codes ":" ++ (decimal_text low ++ (codes "]" ++ x)))

pub bounds-are_part : (high low : ℕ) (x : List ℕ) → is_part (clean (bounds_of_part high low x)) ≡ true
bounds-are_part high low x =
    ap (λ r. is_some (then_reads r (λ n q. Places.after (codes ":") q))) (number_again 10 high (codes ":" ++ (decimal_text low ++ (codes "]" ++ x))) (inl refl) refl)

pub part_by_again : (n : List ℕ) (high low : ℕ) (x : List ℕ) → part_by n (clean (bounds_of_part high low x)) ≡ Some (Part n (kept_small high) (kept_small low), clean x)
part_by_again n high low x =
    ap (λ r. then_reads r (λ h q. then_at (Places.after (codes ":") q) (λ r. then_reads (small_at r) (λ l s. then_at (Places.after (codes "]") s) (λ t. Some (Part n h l, t)))))) (small_again high (codes ":" ++ (decimal_text low ++ (codes "]" ++ x))) refl)
    ∙ ap (λ r. then_reads r (λ l s. then_at (Places.after (codes "]") s) (λ t. Some (Part n (kept_small high) l, t)))) (small_again low (codes "]" ++ x) refl)

part_again : (inner : Place → Reads PlainExpr) (n : List ℕ) (high low : ℕ) (x : List ℕ)
    → bracketed_by inner n (clean (codes "[" ++ bounds_of_part high low x)) ≡ Some (Part n (kept_small high) (kept_small low), clean x)
part_again inner n high low x =
    let q : Place = clean (bounds_of_part high low x) in
    ap (λ b. if b then part_by n q else then_reads (inner q) (item_by n)) (bounds-are_part high low x) ∙ part_by_again n high low x

item_again : (inner : Place → Reads PlainExpr) (n : List ℕ) (i : PlainExpr) (x : List ℕ) → expr_fits i ≡ true → inner (clean (expr_text i ++ (codes "]" ++ x))) ≡ Some (kept_expr i, clean (codes "]" ++ x))
    → bracketed_by inner n (clean (codes "[" ++ (expr_text i ++ (codes "]" ++ x)))) ≡ Some (Word n (kept_expr i), clean x)
item_again inner n i x fits is =
    let q : Place = clean (expr_text i ++ (codes "]" ++ x)) in
    ap (λ b. if b then part_by n q else then_reads (inner q) (item_by n)) (expr-not_part i (codes "]" ++ x) fits)
    ∙ ap (λ r. then_reads r (item_by n)) is

-- with what stands in square brackets
pub bracketed_again : (inner : Place → Reads PlainExpr) (n x : List ℕ) (o : Option (PlainExpr × Place)) → is_name n ≡ true → bracketed_by inner n (clean (codes "[" ++ x)) ≡ o
    → named_by inner (clean (n ++ (codes "[" ++ x))) ≡ o
bracketed_again inner n x o h is =
    ap (λ r. then_reads r (λ n q. if begins (codes "[") q then bracketed_by inner n q else Some (Named n, q))) (name_again n (codes "[" ++ x) h refl) ∙ is

named_again : (inner : Place → Reads PlainExpr) (n x : List ℕ) → is_name n ≡ true → Ends x → named_by inner (clean (n ++ x)) ≡ Some (Named n, clean x)
named_again inner n x h ends =
    ap (λ r. then_reads r (λ n q. if begins (codes "[") q then bracketed_by inner n q else Some (Named n, q))) (name_again n x h ends.stops)
    ∙ ap (λ b. if b then bracketed_by inner n (clean x) else Some (Named n, clean x)) ends.bracket

joined_again : (inner : Place → Reads PlainExpr) (a b : PlainExpr) (x : List ℕ)
    → inner (clean (expr_text a ++ (codes ", " ++ (expr_text b ++ (codes "}" ++ x))))) ≡ Some (kept_expr a, clean (codes ", " ++ (expr_text b ++ (codes "}" ++ x))))
    → inner (clean (expr_text b ++ (codes "}" ++ x))) ≡ Some (kept_expr b, clean (codes "}" ++ x))
    → brackets_by inner (clean (codes "{" ++ (expr_text a ++ (codes ", " ++ (expr_text b ++ (codes "}" ++ x)))))) ≡ Some (Joined (kept_expr a) (kept_expr b), clean x)
joined_again inner a b x one two =
    ap (λ r. then_reads r (λ a r. then_at (Places.after (codes ", ") r) (λ s. then_reads (inner s) (λ b t. then_at (Places.after (codes "}") t) (λ u. Some (Joined a b, u)))))) one
    ∙ ap (λ r. then_reads r (λ b t. then_at (Places.after (codes "}") t) (λ u. Some (Joined (kept_expr a) b, u)))) two

inverted_again : (inner : Place → Reads PlainExpr) (a : PlainExpr) (x : List ℕ)
    → inner (clean (expr_text a ++ (codes ")" ++ x))) ≡ Some (kept_expr a, clean (codes ")" ++ x))
    → brackets_by inner (clean (codes "(~" ++ (expr_text a ++ (codes ")" ++ x)))) ≡ Some (Inverted (kept_expr a), clean x)
inverted_again inner a x one = ap (λ r. then_reads r (λ a r. then_at (Places.after (codes ")") r) (λ s. Some (Inverted a, s)))) one

-- round brackets without `~`
pub round_again : (inner : Place → Reads PlainExpr) (a : PlainExpr) (x : List ℕ) → expr_fits a ≡ true → inner (clean (expr_text a ++ (codes " " ++ x))) ≡ Some (kept_expr a, clean (codes " " ++ x))
    → brackets_by inner (clean (codes "(" ++ (expr_text a ++ (codes " " ++ x)))) ≡ behind_by inner (kept_expr a) (clean x)
round_again inner a x fits one =
    let p : Place = clean (codes "(" ++ (expr_text a ++ (codes " " ++ x))) in
    ap (λ o. if is_some o then inverted_by inner p else round_by inner p) (no_tilde a (codes " " ++ x) fits)
    ∙ ap (λ r. then_reads r (λ e r. then_at (Places.after (codes " ") r) (behind_by inner e))) one

applied_again : (inner : Place → Reads PlainExpr) (op : Operator) (a b : PlainExpr) (x : List ℕ)
    → inner (clean (expr_text b ++ (codes ")" ++ x))) ≡ Some (kept_expr b, clean (codes ")" ++ x))
    → behind_by inner a (clean (op_text op ++ (codes " " ++ (expr_text b ++ (codes ")" ++ x))))) ≡ Some (Applied op a (kept_expr b), clean x)
applied_again inner op a b x two =
    let p : Place = clean (op_text op ++ (codes " " ++ (expr_text b ++ (codes ")" ++ x)))) in
    ap (λ t. if t then chosen_by inner a p else applied_by inner a p) (no_choice op (expr_text b ++ (codes ")" ++ x)))
    ∙ ap (λ r. then_reads r (λ op q. then_at (Places.after (codes " ") q) (λ r. then_reads (inner r) (λ b s. then_at (Places.after (codes ")") s) (λ t. Some (Applied op a b, t)))))) (operator_again op (expr_text b ++ (codes ")" ++ x)))
    ∙ ap (λ r. then_reads r (λ b s. then_at (Places.after (codes ")") s) (λ t. Some (Applied op a b, t)))) two

chosen_again : (inner : Place → Reads PlainExpr) (c a b : PlainExpr) (x : List ℕ)
    → inner (clean (expr_text a ++ (codes " : " ++ (expr_text b ++ (codes ")" ++ x))))) ≡ Some (kept_expr a, clean (codes " : " ++ (expr_text b ++ (codes ")" ++ x))))
    → inner (clean (expr_text b ++ (codes ")" ++ x))) ≡ Some (kept_expr b, clean (codes ")" ++ x))
    → behind_by inner c (clean (codes "? " ++ (expr_text a ++ (codes " : " ++ (expr_text b ++ (codes ")" ++ x)))))) ≡ Some (Chosen c (kept_expr a) (kept_expr b), clean x)
chosen_again inner c a b x one two =
    ap (λ r. then_reads r (λ a r. then_at (Places.after (codes " : ") r) (λ s. then_reads (inner s) (λ b t. then_at (Places.after (codes ")") t) (λ u. Some (Chosen c a b, u)))))) one
    ∙ ap (λ r. then_reads r (λ b t. then_at (Places.after (codes ")") t) (λ u. Some (Chosen c (kept_expr a) b, u)))) two

-- the pieces of an expression
pub number_pieces : (w v : ℕ) (x : List ℕ) → (decimal_text w ++ codes "'h" ++ number_text 16 v) ++ x ≡ decimal_text w ++ (codes "'h" ++ (number_text 16 v ++ x))
number_pieces w v x = append_assoc (decimal_text w ++ codes "'h") (number_text 16 v) x ∙ append_assoc (decimal_text w) (codes "'h") (number_text 16 v ++ x)

pub part_pieces : (n : List ℕ) (high low : ℕ) (x : List ℕ) → expr_text (Part n high low) ++ x ≡ n ++ (codes "[" ++ bounds_of_part high low x)
part_pieces n high low x = simp append_assoc

pub word_pieces : (n i x : List ℕ) → (n ++ codes "[" ++ i ++ codes "]") ++ x ≡ n ++ (codes "[" ++ (i ++ (codes "]" ++ x)))
word_pieces n i x = simp append_assoc

pub applied_pieces : (a op b x : List ℕ) → (codes "(" ++ a ++ codes " " ++ op ++ codes " " ++ b ++ codes ")") ++ x ≡ codes "(" ++ (a ++ (codes " " ++ (op ++ (codes " " ++ (b ++ (codes ")" ++ x))))))
applied_pieces a op b x = simp append_assoc

pub inverted_pieces : (a x : List ℕ) → (codes "(~" ++ a ++ codes ")") ++ x ≡ codes "(~" ++ (a ++ (codes ")" ++ x))
inverted_pieces a x = simp append_assoc

pub chosen_pieces : (c a b x : List ℕ) → (codes "(" ++ c ++ codes " ? " ++ a ++ codes " : " ++ b ++ codes ")") ++ x ≡ codes "(" ++ (c ++ (codes " " ++ (codes "? " ++ (a ++ (codes " : " ++ (b ++ (codes ")" ++ x)))))))
chosen_pieces c a b x = simp append_assoc

pub joined_pieces : (a b x : List ℕ) → (codes "{" ++ a ++ codes ", " ++ b ++ codes "}") ++ x ≡ codes "{" ++ (a ++ (codes ", " ++ (b ++ (codes "}" ++ x))))
joined_pieces a b x = simp append_assoc

-- one level fewer
pub fewer : (l : ℕ) (e : PlainExpr) → nests_over (suc l - 1) e ≡ false → nests_over l e ≡ false
fewer l e h = let n : suc l - 1 ≡ l = omega arith in subst (λ k. nests_over k e ≡ false) n h

pub closed : (c : ℕ) (x : List ℕ) → is_name_byte c ≡ false → (c == 91) ≡ false → Ends (c ∷ x)
closed c x h k = record { stops = h; bracket = ap (λ b. is_some (if b then Some x else None)) k }

pub expr_again : (l : ℕ) (e : PlainExpr) (x : List ℕ) → expr_fits e ≡ true → nests_over l e ≡ false → Ends x
    → expr_at l (clean (expr_text e ++ x)) ≡ Some (kept_expr e, clean x)
expr_again l (Named n) x f d ends =
    expr_at_is l (clean (n ++ x)) ∙ first_name (nested_at l) (named_by (inner_at l)) n x f ∙ named_again (inner_at l) n x f ends
expr_again l (Number b) x f d ends =
    ap (λ t. expr_at l (clean t)) (number_pieces b.width b.value x)
    ∙ expr_at_is l (clean (decimal_text b.width ++ (codes "'h" ++ (number_text 16 b.value ++ x))))
    ∙ first_number (nested_at l) (named_by (inner_at l)) (decimal_text b.width) (codes "'h" ++ (number_text 16 b.value ++ x)) (text_digits 10 b.width (inl refl)) (text_numeral 10 b.width (inl refl))
    ∙ literal_again b.width b.value x ends.stops
expr_again l (Part n high low) x f d ends =
    ap (λ t. expr_at l (clean t)) (part_pieces n high low x)
    ∙ expr_at_is l (clean (n ++ (codes "[" ++ (decimal_text high ++ (codes ":" ++ (decimal_text low ++ (codes "]" ++ x)))))))
    ∙ first_name (nested_at l) (named_by (inner_at l)) n (codes "[" ++ (decimal_text high ++ (codes ":" ++ (decimal_text low ++ (codes "]" ++ x))))) f
    ∙ bracketed_again (inner_at l) n (decimal_text high ++ (codes ":" ++ (decimal_text low ++ (codes "]" ++ x)))) (Some (Part n (kept_small high) (kept_small low), clean x)) f
    (part_again (inner_at l) n high low x)
expr_again zero (Word n i) x f d ends = absurd (cc)
expr_again (suc l) (Word n i) x f d ends =
    let fit = and_parts (is_name n) (expr_fits i) f in
    ap (λ t. expr_at (suc l) (clean t)) (word_pieces n (expr_text i) x)
    ∙ first_name (brackets_by (expr_at l)) (named_by (expr_at l)) n (codes "[" ++ (expr_text i ++ (codes "]" ++ x))) fit.0
    ∙ bracketed_again (expr_at l) n (expr_text i ++ (codes "]" ++ x)) (Some (Word n (kept_expr i), clean x)) fit.0
    (item_again (expr_at l) n i x fit.1 (expr_again l i (codes "]" ++ x) fit.1 (fewer l i (or_parts (suc l == 0) (nests_over (suc l - 1) i) d).1) (closed 93 x refl refl)))
expr_again zero (Applied op a b) x f d ends = absurd (cc)
expr_again (suc l) (Applied op a b) x f d ends =
    let fit = and_parts (expr_fits a) (expr_fits b) f in
    let deeps = or_parts (suc l == 0 || nests_over (suc l - 1) a) (nests_over (suc l - 1) b) d in
    let deep = or_parts (suc l == 0) (nests_over (suc l - 1) a) deeps.0 in
    ap (λ t. expr_at (suc l) (clean t)) (applied_pieces (expr_text a) (op_text op) (expr_text b) x)
    ∙ round_again (expr_at l) a (op_text op ++ (codes " " ++ (expr_text b ++ (codes ")" ++ x)))) fit.0
    (expr_again l a (codes " " ++ (op_text op ++ (codes " " ++ (expr_text b ++ (codes ")" ++ x))))) fit.0 (fewer l a deep.1) (closed 32 _ refl refl))
    ∙ applied_again (expr_at l) op (kept_expr a) b x (expr_again l b (codes ")" ++ x) fit.1 (fewer l b deeps.1) (closed 41 x refl refl))
expr_again zero (Inverted a) x f d ends = absurd (cc)
expr_again (suc l) (Inverted a) x f d ends =
    ap (λ t. expr_at (suc l) (clean t)) (inverted_pieces (expr_text a) x)
    ∙ inverted_again (expr_at l) a x (expr_again l a (codes ")" ++ x) f (fewer l a (or_parts (suc l == 0) (nests_over (suc l - 1) a) d).1) (closed 41 x refl refl))
expr_again zero (Chosen c a b) x f d ends = absurd (cc)
expr_again (suc l) (Chosen c a b) x f d ends =
    let fits = and_parts (expr_fits c && expr_fits a) (expr_fits b) f in
    let fit = and_parts (expr_fits c) (expr_fits a) fits.0 in
    let deepest = or_parts (suc l == 0 || nests_over (suc l - 1) c || nests_over (suc l - 1) a) (nests_over (suc l - 1) b) d in
    let deeps = or_parts (suc l == 0 || nests_over (suc l - 1) c) (nests_over (suc l - 1) a) deepest.0 in
    let deep = or_parts (suc l == 0) (nests_over (suc l - 1) c) deeps.0 in
    ap (λ t. expr_at (suc l) (clean t)) (chosen_pieces (expr_text c) (expr_text a) (expr_text b) x)
    ∙ round_again (expr_at l) c (codes "? " ++ (expr_text a ++ (codes " : " ++ (expr_text b ++ (codes ")" ++ x))))) fit.0
    (expr_again l c (codes " " ++ (codes "? " ++ (expr_text a ++ (codes " : " ++ (expr_text b ++ (codes ")" ++ x)))))) fit.0 (fewer l c deep.1) (closed 32 _ refl refl))
    ∙ chosen_again (expr_at l) (kept_expr c) a b x
    (expr_again l a (codes " : " ++ (expr_text b ++ (codes ")" ++ x))) fit.1 (fewer l a deeps.1) (closed 32 _ refl refl))
    (expr_again l b (codes ")" ++ x) fits.1 (fewer l b deepest.1) (closed 41 x refl refl))
expr_again zero (Joined a b) x f d ends = absurd (cc)
expr_again (suc l) (Joined a b) x f d ends =
    let fit = and_parts (expr_fits a) (expr_fits b) f in
    let deeps = or_parts (suc l == 0 || nests_over (suc l - 1) a) (nests_over (suc l - 1) b) d in
    let deep = or_parts (suc l == 0) (nests_over (suc l - 1) a) deeps.0 in
    ap (λ t. expr_at (suc l) (clean t)) (joined_pieces (expr_text a) (expr_text b) x)
    ∙ joined_again (expr_at l) a b x
    (expr_again l a (codes ", " ++ (expr_text b ++ (codes "}" ++ x))) fit.0 (fewer l a deep.1) (closed 44 _ refl refl))
    (expr_again l b (codes "}" ++ x) fit.1 (fewer l b deeps.1) (closed 125 x refl refl))

-- an expression that a tree holds is kept
pub small_kept : (n : ℕ) → nat_lt n 256 ≡ true → kept_small n ≡ n
small_kept n h = let lt = ltb-true n 256 h in omega arith

pub expr_kept : (e : PlainExpr) → numbers_fit e ≡ true → kept_expr e ≡ e
expr_kept (Named n) h = refl
expr_kept (Number b) h = ap (λ t. if t then Number b else (if nat_le (2 ^ b.width) b.value then misnamed else miswidened)) h
expr_kept (Part n high low) h =
    let both = and_parts (nat_lt high 256) (nat_lt low 256) h in
    ap (λ k. Part n k (kept_small low)) (small_kept high both.0) ∙ ap (Part n high) (small_kept low both.1)
expr_kept (Word n i) h = ap (Word n) (expr_kept i h)
expr_kept (Applied op a b) h =
    let both = and_parts (numbers_fit a) (numbers_fit b) h in
    ap (λ x. Applied op x (kept_expr b)) (expr_kept a both.0) ∙ ap (Applied op a) (expr_kept b both.1)
expr_kept (Inverted a) h = ap Inverted (expr_kept a h)
expr_kept (Chosen c a b) h =
    let outer = and_parts (numbers_fit c && numbers_fit a) (numbers_fit b) h in
    let both = and_parts (numbers_fit c) (numbers_fit a) outer.0 in
    ap (λ x. Chosen x (kept_expr a) (kept_expr b)) (expr_kept c both.0) ∙ ap (λ x. Chosen c x (kept_expr b)) (expr_kept a both.1) ∙ ap (Chosen c a) (expr_kept b outer.1)
expr_kept (Joined a b) h =
    let both = and_parts (numbers_fit a) (numbers_fit b) h in
    ap (λ x. Joined x (kept_expr b)) (expr_kept a both.0) ∙ ap (Joined a) (expr_kept b both.1)
