-- An expression that is spelled is passed, however deep it nests.
use Rattle.std.proofs.Common.{◌≡◌, ℕ, ◌+◌, ◌<◌, ◌≤◌, inl, zero, suc, ◌==◌, true, false, ◌&&◌, List, [], ◌∷◌, ◌++◌, length, Some, None, refl, ◌∙◌, ap, arith, length-append, if◌then◌else◌}
use Rattle.std.specs.Prelude.{codes, is_some, nat_le}
use Rattle.std.specs.List.{list_all}
use Rattle.std.proofs.lemmas.Bool.{and_parts}
use Rattle.cx_vtree.specs.declared.operators.Operator.{Operator}
use Rattle.cx_vtree.specs.declared.operators.Operator.TheVariants.{Add, Subtract, Multiply, And, Or, Xor, ShiftLeft, ShiftRight, Equal, NotEqual, Less, Greater, AtMost, AtLeast}
use Rattle.cx_vtree.specs.Layout.{is_letter, is_name, expr_fits}
use Rattle.cx_vtree.specs.Lines.{number_text, decimal_text, op_text, expr_text}
use Rattle.cx_vtree.specs.Plain.{PlainExpr, Named, Number, Part, Word, Applied, Inverted, Chosen, Joined}
use Rattle.cx_vread_exprs.specs.declared.passing.Await.{Await}
use Rattle.cx_vread_exprs.specs.declared.passing.Await.TheVariants.{Inverse, Index, High, Low, Sign, One, Other, Right}
use Rattle.cx_vread_exprs.specs.declared.passing.Found.{Found}
use Rattle.cx_vread_exprs.specs.declared.passing.Found.TheVariants.{Within, Ended}
use Rattle.cx_vscope.specs.declared.shapes.Shape.{Shape}
use Rattle.cx_vscope.specs.Shapes.{shape_of, array_shape}
use Rattle.cx_vread_exprs.specs.Places.{Place, Reads, then_reads, after_text, begins}
use Rattle.cx_vread_exprs.specs.Tokens.{is_digit_in, is_numeral, kept_small, kept_literal}
use Rattle.cx_vread_exprs.specs.Exprs.{operator_at, part_by}
use Rattle.cx_vread_exprs.specs.Passing.{ended_by, opened_by, want_bracketed, want_named, want_literal, want_at, end_at, pass_on, shape_at, passed_at}
use Rattle.cx_vscope.specs.Scopes.{nothing_meant}
use Rattle.cx_vtree.specs.Sound.{Scope}
use Rattle.cx_vread_exprs.proofs.Kept.{kept_expr}
use Rattle.cx_vread_exprs.proofs.NumberAgain.{clean, text_digits, text_numeral}
use Rattle.cx_vread_exprs.proofs.ExprAgain.{number_pieces, part_pieces, word_pieces, applied_pieces, inverted_pieces, chosen_pieces, joined_pieces, Ends, name_parts, name_again, letter-not_round, letter-not_curly, letter-not_digit, digit-not_round, digit-not_curly, digit-digit, no_tilde, operator_again, no_choice, literal_again, expr-not_part, bounds_of_part, bounds-are_part, part_by_again, closed}

-- the steps past an expression, before `more` others
abbrev steps_before : PlainExpr → ℕ → ℕ
steps_before (Named n) more = more
steps_before (Number b) more = more
steps_before (Part n high low) more = more
steps_before (Word n i) more = suc (steps_before i (suc more))
steps_before (Applied op a b) more = suc (steps_before a (suc (suc (steps_before b (suc more)))))
steps_before (Inverted a) more = suc (steps_before a (suc more))
steps_before (Chosen c a b) more = suc (steps_before c (suc (suc (steps_before a (suc (suc (steps_before b (suc more))))))))
steps_before (Joined a b) more = suc (steps_before a (suc (suc (steps_before b (suc more)))))

-- there are fewer steps than bytes
some_name : (n : List ℕ) → is_name n ≡ true → 0 < length n
some_name [] h = absurd (cc)
some_name (c ∷ cs) h = omega arith

steps_few : (e : PlainExpr) (more : ℕ) → expr_fits e ≡ true → suc (steps_before e more) ≤ length (expr_text e) + more
steps_few (Named n) more f = let some = some_name n f in omega arith
steps_few (Number b) more f =
    let l1 : length (expr_text (Number b)) ≡ length (decimal_text b.width ++ codes "'h") + length (number_text 16 b.value) = length-append (decimal_text b.width ++ codes "'h") (number_text 16 b.value) in
    let l2 : length (decimal_text b.width ++ codes "'h") ≡ length (decimal_text b.width) + 2 = length-append (decimal_text b.width) (codes "'h") in
    omega arith
steps_few (Part n high low) more f =
    let t : List ℕ = n ++ codes "[" ++ decimal_text high ++ codes ":" ++ decimal_text low in
    let l : length (expr_text (Part n high low)) ≡ length t + 1 = length-append t (codes "]") in
    omega arith
steps_few (Word n i) more f =
    let few = steps_few i (suc more) (and_parts (is_name n) (expr_fits i) f).1 in
    let l1 : length (expr_text (Word n i)) ≡ length (n ++ codes "[" ++ expr_text i) + 1 = length-append (n ++ codes "[" ++ expr_text i) (codes "]") in
    let l2 : length (n ++ codes "[" ++ expr_text i) ≡ length (n ++ codes "[") + length (expr_text i) = length-append (n ++ codes "[") (expr_text i) in
    let l3 : length (n ++ codes "[") ≡ length n + 1 = length-append n (codes "[") in
    omega arith
steps_few (Applied op a b) more f =
    let fit = and_parts (expr_fits a) (expr_fits b) f in
    let last : ℕ = steps_before b (suc more) in
    let few_b = steps_few b (suc more) fit.1 in
    let few_a = steps_few a (suc (suc last)) fit.0 in
    let t1 : List ℕ = codes "(" ++ expr_text a in
    let t2 : List ℕ = t1 ++ codes " " in
    let t3 : List ℕ = t2 ++ op_text op in
    let t4 : List ℕ = t3 ++ codes " " in
    let t5 : List ℕ = t4 ++ expr_text b in
    let l6 : length (expr_text (Applied op a b)) ≡ length t5 + 1 = length-append t5 (codes ")") in
    let l5 : length t5 ≡ length t4 + length (expr_text b) = length-append t4 (expr_text b) in
    let l4 : length t4 ≡ length t3 + 1 = length-append t3 (codes " ") in
    let l3 : length t3 ≡ length t2 + length (op_text op) = length-append t2 (op_text op) in
    let l2 : length t2 ≡ length t1 + 1 = length-append t1 (codes " ") in
    let l1 : length t1 ≡ 1 + length (expr_text a) = length-append (codes "(") (expr_text a) in
    let o = some_operator op in
    omega arith
  where
    some_operator : (op : Operator) → 0 < length (op_text op)
    some_operator Add = omega arith
    some_operator Subtract = omega arith
    some_operator Multiply = omega arith
    some_operator And = omega arith
    some_operator Or = omega arith
    some_operator Xor = omega arith
    some_operator ShiftLeft = omega arith
    some_operator ShiftRight = omega arith
    some_operator Equal = omega arith
    some_operator NotEqual = omega arith
    some_operator Less = omega arith
    some_operator Greater = omega arith
    some_operator AtMost = omega arith
    some_operator AtLeast = omega arith
steps_few (Inverted a) more f =
    let few = steps_few a (suc more) f in
    let t : List ℕ = codes "(~" ++ expr_text a in
    let l2 : length (expr_text (Inverted a)) ≡ length t + 1 = length-append t (codes ")") in
    let l1 : length t ≡ 2 + length (expr_text a) = length-append (codes "(~") (expr_text a) in
    omega arith
steps_few (Chosen c a b) more f =
    let fits = and_parts (expr_fits c && expr_fits a) (expr_fits b) f in
    let fit = and_parts (expr_fits c) (expr_fits a) fits.0 in
    let last : ℕ = steps_before b (suc more) in
    let middle : ℕ = steps_before a (suc (suc last)) in
    let few_b = steps_few b (suc more) fits.1 in
    let few_a = steps_few a (suc (suc last)) fit.1 in
    let few_c = steps_few c (suc (suc middle)) fit.0 in
    let t1 : List ℕ = codes "(" ++ expr_text c in
    let t2 : List ℕ = t1 ++ codes " ? " in
    let t3 : List ℕ = t2 ++ expr_text a in
    let t4 : List ℕ = t3 ++ codes " : " in
    let t5 : List ℕ = t4 ++ expr_text b in
    let l6 : length (expr_text (Chosen c a b)) ≡ length t5 + 1 = length-append t5 (codes ")") in
    let l5 : length t5 ≡ length t4 + length (expr_text b) = length-append t4 (expr_text b) in
    let l4 : length t4 ≡ length t3 + 3 = length-append t3 (codes " : ") in
    let l3 : length t3 ≡ length t2 + length (expr_text a) = length-append t2 (expr_text a) in
    let l2 : length t2 ≡ length t1 + 3 = length-append t1 (codes " ? ") in
    let l1 : length t1 ≡ 1 + length (expr_text c) = length-append (codes "(") (expr_text c) in
    omega arith
steps_few (Joined a b) more f =
    let fit = and_parts (expr_fits a) (expr_fits b) f in
    let last : ℕ = steps_before b (suc more) in
    let few_b = steps_few b (suc more) fit.1 in
    let few_a = steps_few a (suc (suc last)) fit.0 in
    let t1 : List ℕ = codes "{" ++ expr_text a in
    let t2 : List ℕ = t1 ++ codes ", " in
    let t3 : List ℕ = t2 ++ expr_text b in
    let l4 : length (expr_text (Joined a b)) ≡ length t3 + 1 = length-append t3 (codes "}") in
    let l3 : length t3 ≡ length t2 + length (expr_text b) = length-append t2 (expr_text b) in
    let l2 : length t2 ≡ length t1 + 2 = length-append t1 (codes ", ") in
    let l1 : length t1 ≡ 1 + length (expr_text a) = length-append (codes "{") (expr_text a) in
    omega arith

module _ (scope : Scope) where
  -- by a first byte that opens no bracket
  unbracketed : (c : ℕ) (x : List ℕ) → (c == 40) ≡ false → (c == 123) ≡ false
      → want_at scope (clean (c ∷ x)) ≡ (if nat_le 48 c && nat_le c 57 then want_literal scope (clean (c ∷ x)) else want_named scope (clean (c ∷ x)))
  unbracketed c x round curly =
      let p : Place = clean (c ∷ x) in
      ap (λ b. if is_some (if b then after_text (codes "~") x else None) then opened_by (codes "(~") Inverse p
      else (if is_some (if b then Some x else None) then opened_by (codes "(") Sign p
      else (if is_some (if c == 123 then Some x else None) then opened_by (codes "{") High p
      else (if nat_le 48 c && nat_le c 57 then want_literal scope p else want_named scope p)))) round
      ∙ ap (λ b. if is_some (if b then Some x else None) then opened_by (codes "{") High p else (if nat_le 48 c && nat_le c 57 then want_literal scope p else want_named scope p)) curly

  want-name : (n x : List ℕ) → is_name n ≡ true → want_at scope (clean (n ++ x)) ≡ want_named scope (clean (n ++ x))
  want-name [] x h = absurd (cc)
  want-name (c ∷ cs) x h =
      let letter : is_letter c ≡ true = (name_parts (c ∷ cs) h).0 in
      unbracketed c (cs ++ x) (letter-not_round c letter) (letter-not_curly c letter)
      ∙ ap (λ b. if b then want_literal scope (clean (c ∷ cs ++ x)) else want_named scope (clean (c ∷ cs ++ x))) (letter-not_digit c letter)

  want-number : (t x : List ℕ) → list_all (is_digit_in 10) t ≡ true → is_numeral t ≡ true → want_at scope (clean (t ++ x)) ≡ want_literal scope (clean (t ++ x))
  want-number [] x all some = absurd (cc)
  want-number (c ∷ cs) x all some =
      let digit : is_digit_in 10 c ≡ true = (and_parts (is_digit_in 10 c) (list_all (is_digit_in 10) cs) all).0 in
      unbracketed c (cs ++ x) (digit-not_round c digit) (digit-not_curly c digit)
      ∙ ap (λ b. if b then want_literal scope (clean (c ∷ cs ++ x)) else want_named scope (clean (c ∷ cs ++ x))) (digit-digit c digit)

  -- a round bracket without `~`
  want-round : (a : PlainExpr) (x : List ℕ) → expr_fits a ≡ true → want_at scope (clean (codes "(" ++ (expr_text a ++ x))) ≡ Some (Within Sign, clean (expr_text a ++ x))
  want-round a x fits =
      let p : Place = clean (codes "(" ++ (expr_text a ++ x)) in
      ap (λ o. if is_some o then opened_by (codes "(~") Inverse p else opened_by (codes "(") Sign p) (no_tilde a x fits)

  want-square : (n x : List ℕ) → is_name n ≡ true → want_at scope (clean (n ++ (codes "[" ++ x))) ≡ want_bracketed scope n (clean (codes "[" ++ x))
  want-square n x h =
      want-name n (codes "[" ++ x) h
      ∙ ap (λ r. then_reads r (λ n q. if begins (codes "[") q then want_bracketed scope n q else Some (Ended (shape_of scope (Named n)), q))) (name_again n (codes "[" ++ x) h refl)

  want-leaf_name : (n x : List ℕ) → is_name n ≡ true → Ends x → want_at scope (clean (n ++ x)) ≡ Some (Ended (shape_of scope (Named n)), clean x)
  want-leaf_name n x h ends =
      want-name n x h
      ∙ ap (λ r. then_reads r (λ n q. if begins (codes "[") q then want_bracketed scope n q else Some (Ended (shape_of scope (Named n)), q))) (name_again n x h ends.stops)
      ∙ ap (λ b. if b then want_bracketed scope n (clean x) else Some (Ended (shape_of scope (Named n)), clean x)) ends.bracket

  want-leaf_number : (w v : ℕ) (x : List ℕ) → Ends x → want_at scope (clean (decimal_text w ++ (codes "'h" ++ (number_text 16 v ++ x)))) ≡ Some (Ended (shape_of scope (kept_literal w v)), clean x)
  want-leaf_number w v x ends =
      want-number (decimal_text w) (codes "'h" ++ (number_text 16 v ++ x)) (text_digits 10 w (inl refl)) (text_numeral 10 w (inl refl))
      ∙ ap (ended_by scope) (literal_again w v x ends.stops)

  want-leaf_part : (n : List ℕ) (high low : ℕ) (x : List ℕ) → is_name n ≡ true
      → want_at scope (clean (n ++ (codes "[" ++ bounds_of_part high low x))) ≡ Some (Ended (shape_of scope (Part n (kept_small high) (kept_small low))), clean x)
  want-leaf_part n high low x h =
      let q : Place = clean (bounds_of_part high low x) in
      want-square n (bounds_of_part high low x) h
      ∙ ap (λ b. if b then ended_by scope (part_by n q) else Some (Within (Index (array_shape scope n)), q)) (bounds-are_part high low x)
      ∙ ap (ended_by scope) (part_by_again n high low x)

  want-index : (n : List ℕ) (i : PlainExpr) (x : List ℕ) → is_name n ≡ true → expr_fits i ≡ true
      → want_at scope (clean (n ++ (codes "[" ++ (expr_text i ++ x)))) ≡ Some (Within (Index (array_shape scope n)), clean (expr_text i ++ x))
  want-index n i x h fits =
      let q : Place = clean (expr_text i ++ x) in
      want-square n (expr_text i ++ x) h
      ∙ ap (λ b. if b then ended_by scope (part_by n q) else Some (Within (Index (array_shape scope n)), q)) (expr-not_part i x fits)

  -- behind the first expression in round brackets
  end-operator : (op : Operator) (shape : Shape) (x : List ℕ) → end_at Sign shape (clean (codes " " ++ (op_text op ++ (codes " " ++ x)))) ≡ Some (Within (Right op shape), clean x)
  end-operator op shape x =
      let q : Place = clean (op_text op ++ (codes " " ++ x)) in
      ap (λ b. if b then opened_by (codes "? ") (One shape) q else then_reads (operator_at q) (λ op r. opened_by (codes " ") (Right op shape) r)) (no_choice op x)
      ∙ ap (λ r. then_reads r (λ op r. opened_by (codes " ") (Right op shape) r)) (operator_again op x)

  -- where an expression begins, with what is awaited behind it
  abbrev passes : ℕ → List Await → List ℕ → Reads Shape
  passes n awaited bytes = then_reads (want_at scope (clean bytes)) (λ found q. pass_on scope n found awaited q)

  abbrev goes_on : ℕ → List Await → Reads Found → Reads Shape
  goes_on n awaited r = then_reads r (λ found q. pass_on scope n found awaited q)

  abbrev shaped : PlainExpr → Shape
  shaped e = shape_of scope (kept_expr e)

  expr_passed : (e : PlainExpr) (more : ℕ) (awaited : List Await) (x : List ℕ) → expr_fits e ≡ true → Ends x
      → passes (steps_before e more) awaited (expr_text e ++ x) ≡ pass_on scope more (Ended (shaped e)) awaited (clean x)
  expr_passed (Named n) more awaited x f ends = ap (goes_on more awaited) (want-leaf_name n x f ends)
  expr_passed (Number b) more awaited x f ends =
      ap (passes more awaited) (number_pieces b.width b.value x)
      ∙ ap (goes_on more awaited) (want-leaf_number b.width b.value x ends)
  expr_passed (Part n high low) more awaited x f ends =
      ap (passes more awaited) (part_pieces n high low x) ∙ ap (goes_on more awaited) (want-leaf_part n high low x f)
  expr_passed (Word n i) more awaited x f ends =
      let fit = and_parts (is_name n) (expr_fits i) f in
      let k : ℕ = steps_before i (suc more) in
      ap (passes (suc k) awaited) (word_pieces n (expr_text i) x)
      ∙ ap (goes_on (suc k) awaited) (want-index n i (codes "]" ++ x) fit.0 fit.1)
      ∙ expr_passed i (suc more) (Index (array_shape scope n) ∷ awaited) (codes "]" ++ x) fit.1 (closed 93 x refl refl)
  expr_passed (Applied op a b) more awaited x f ends =
      let y : List ℕ = codes " " ++ (expr_text b ++ (codes ")" ++ x)) in
      let fit = and_parts (expr_fits a) (expr_fits b) f in
      let last : ℕ = steps_before b (suc more) in
      let k : ℕ = steps_before a (suc (suc last)) in
      ap (passes (suc k) awaited) (applied_pieces (expr_text a) (op_text op) (expr_text b) x)
      ∙ ap (goes_on (suc k) awaited) (want-round a (codes " " ++ (op_text op ++ y)) fit.0)
      ∙ expr_passed a (suc (suc last)) (Sign ∷ awaited) (codes " " ++ (op_text op ++ y)) fit.0 (closed 32 _ refl refl)
      ∙ ap (goes_on (suc last) awaited) (end-operator op (shaped a) (expr_text b ++ (codes ")" ++ x)))
      ∙ expr_passed b (suc more) (Right op (shaped a) ∷ awaited) (codes ")" ++ x) fit.1 (closed 41 x refl refl)
  expr_passed (Inverted a) more awaited x f ends =
      ap (passes (suc (steps_before a (suc more))) awaited) (inverted_pieces (expr_text a) x)
      ∙ expr_passed a (suc more) (Inverse ∷ awaited) (codes ")" ++ x) f (closed 41 x refl refl)
  expr_passed (Chosen c a b) more awaited x f ends =
      let z : List ℕ = codes " : " ++ (expr_text b ++ (codes ")" ++ x)) in
      let fits = and_parts (expr_fits c && expr_fits a) (expr_fits b) f in
      let fit = and_parts (expr_fits c) (expr_fits a) fits.0 in
      let last : ℕ = steps_before b (suc more) in
      let middle : ℕ = steps_before a (suc (suc last)) in
      let k : ℕ = steps_before c (suc (suc middle)) in
      ap (passes (suc k) awaited) (chosen_pieces (expr_text c) (expr_text a) (expr_text b) x)
      ∙ ap (goes_on (suc k) awaited) (want-round c (codes " " ++ (codes "? " ++ (expr_text a ++ z))) fit.0)
      ∙ expr_passed c (suc (suc middle)) (Sign ∷ awaited) (codes " " ++ (codes "? " ++ (expr_text a ++ z))) fit.0 (closed 32 _ refl refl)
      ∙ expr_passed a (suc (suc last)) (One (shaped c) ∷ awaited) z fit.1 (closed 32 _ refl refl)
      ∙ expr_passed b (suc more) (Other (shaped c) (shaped a) ∷ awaited) (codes ")" ++ x) fits.1 (closed 41 x refl refl)
  expr_passed (Joined a b) more awaited x f ends =
      let fit = and_parts (expr_fits a) (expr_fits b) f in
      let last : ℕ = steps_before b (suc more) in
      ap (passes (suc (steps_before a (suc (suc last)))) awaited) (joined_pieces (expr_text a) (expr_text b) x)
      ∙ expr_passed a (suc (suc last)) (High ∷ awaited) (codes ", " ++ (expr_text b ++ (codes "}" ++ x))) fit.0 (closed 44 _ refl refl)
      ∙ expr_passed b (suc more) (Low (shaped a) ∷ awaited) (codes "}" ++ x) fit.1 (closed 125 x refl refl)

  -- more steps do no harm
  go_further : (n m : ℕ) (awaited : List Await) (z : Shape × Place) (r : Reads Found)
      → ((found : Found) (p : Place) → pass_on scope n found awaited p ≡ Some z → pass_on scope m found awaited p ≡ Some z)
      → goes_on n awaited r ≡ Some z → goes_on m awaited r ≡ Some z
  go_further n m awaited z None more is = absurd (cc)
  go_further n m awaited z (Some x) more is = more x.0 x.1 is

  more_steps : (n m : ℕ) (next : Found) (awaited : List Await) (p : Place) (z : Shape × Place) → n ≤ m → pass_on scope n next awaited p ≡ Some z → pass_on scope m next awaited p ≡ Some z
  more_steps zero m next awaited p z le is = absurd (cc)
  more_steps (suc n) zero next awaited p z le is = absurd (omega arith)
  more_steps (suc n) (suc m) (Ended shape) [] p z le is = is
  more_steps (suc n) (suc m) (Within next) awaited p z le is =
      go_further n m (next ∷ awaited) z (want_at scope p) (λ found r is. more_steps n m found (next ∷ awaited) r z (omega arith) is) is
  more_steps (suc n) (suc m) (Ended shape) (last ∷ awaited) p z le is =
      go_further n m awaited z (end_at last shape p) (λ found r is. more_steps n m found awaited r z (omega arith) is) is

  -- an expression that is spelled is passed, before what does not go on
  pub shape_again : (e : PlainExpr) (x : List ℕ) → expr_fits e ≡ true → Ends x → shape_at scope (clean (expr_text e ++ x)) ≡ Some (shape_of scope (kept_expr e), clean x)
  shape_again e x f ends = go (want_at scope (clean (expr_text e ++ x))) (expr_passed e (suc zero) [] x f ends)
    where
      room : steps_before e (suc zero) ≤ length (expr_text e ++ x)
      room = let few = steps_few e (suc zero) f in let l = length-append (expr_text e) x in omega arith

      go : (r : Reads Found) → goes_on (steps_before e (suc zero)) [] r ≡ Some (shaped e, clean x) → goes_on (length (expr_text e ++ x)) [] r ≡ Some (shaped e, clean x)
      go None is = absurd (cc)
      go (Some y) is = more_steps (steps_before e (suc zero)) (length (expr_text e ++ x)) y.0 [] y.1 (shaped e, clean x) room is

pub passed_again : (e : PlainExpr) (x : List ℕ) → expr_fits e ≡ true → Ends x → passed_at (clean (expr_text e ++ x)) ≡ Some (clean x)
passed_again e x f ends = ap (λ r. then_reads r (λ shape q. Some q)) (shape_again nothing_meant e x f ends)
