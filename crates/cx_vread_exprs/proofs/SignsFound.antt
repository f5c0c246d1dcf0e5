-- Numbers and operators that are read stand there.
use Rattle.std.proofs.Common.{◌≡◌, ℕ, inl, Option, Some, None, refl, ◌∙◌, ap, sym, subst}
use Rattle.std.specs.Prelude.{codes}
use Rattle.std.specs.Str.Parse.{digits_value}
use Rattle.cx_vtree.specs.declared.operators.Operator.{Operator}
use Rattle.cx_vtree.specs.declared.operators.Operator.TheVariants.{Add, Subtract, Multiply, And, Or, Xor, ShiftLeft, ShiftRight, Equal, NotEqual, Less, Greater, AtMost, AtLeast}
use Rattle.cx_vtree.specs.Lines.{decimal_text, op_text}
use Rattle.cx_vread_exprs.specs.Places.{Place, Reads, after}
use Rattle.cx_vread_exprs.specs.Tokens.{digits_at, number_at, any_number_at, capped, no_more, kept_small, small_at}
use Rattle.cx_vread_exprs.specs.Exprs.{or_else, operator_at}
use Rattle.cx_vread_exprs.proofs.ExprAgain.{capped_small}
use Rattle.cx_vread_exprs.proofs.Found.{ends, Stands, after_found, then_reads_some, digits_found, numeral_text}

-- numbers
pub record NumberFound (p : Place) (o : Option ℕ) (q : Place) : Type 0 where
  pub number : ℕ
  pub stands : Stands (decimal_text number) p q
  pub value_is : capped number ≡ o

pub number_found : (p : Place) (o : Option ℕ) (q : Place) → number_at 10 p ≡ Some (o, q) → NumberFound p o q
number_found p o q e =
    let s = then_reads_some (digits_at 10 p) o q (λ ds q. Some (capped (digits_value 10 ds), q)) e in
    let both = ends o q (capped (digits_value 10 s.0)) s.1 s.3 in
    let d = digits_found 10 p s.0 s.1 s.2 in
    record {
      number = digits_value 10 s.0;
      stands = subst (λ t. Stands t p q) (sym (numeral_text 10 s.0 (inl refl) d.digits d.numeral)) (subst (λ q. Stands s.0 p q) both.1 d.stands);
      value_is = both.0;
    }

-- a number, however great
pub any_number_found : (p : Place) (n : ℕ) (q : Place) → any_number_at p ≡ Some (n, q) → Stands (decimal_text n) p q
any_number_found p n q e =
    let s = then_reads_some (digits_at 10 p) n q (λ ds q. Some (digits_value 10 ds, q)) e in
    let both = ends n q (digits_value 10 s.0) s.1 s.3 in
    let d = digits_found 10 p s.0 s.1 s.2 in
    subst (λ m. Stands (decimal_text m) p q) both.0
    (subst (λ t. Stands t p q) (sym (numeral_text 10 s.0 (inl refl) d.digits d.numeral)) (subst (λ q. Stands s.0 p q) both.1 d.stands))

pub record SmallFound (p : Place) (n : ℕ) (q : Place) : Type 0 where
  pub number : ℕ
  pub stands : Stands (decimal_text number) p q
  pub value_is : kept_small number ≡ n

pub small_found : (p : Place) (n : ℕ) (q : Place) → small_at p ≡ Some (n, q) → SmallFound p n q
small_found p n q e =
    let s = then_reads_some (number_at 10 p) n q (λ n q. Some (no_more 255 n, q)) e in
    let both = ends n q (no_more 255 s.0) s.1 s.3 in
    let f = number_found p s.0 s.1 s.2 in
    record { number = f.number; stands = subst (λ q. Stands (decimal_text f.number) p q) both.1 f.stands; value_is = sym (capped_small f.number) ∙ ap (no_more 255) f.value_is ∙ both.0 }

-- operators
else_found : (op : Operator) (p : Place) (other : Reads Operator) (got : Operator) (q : Place) → (other ≡ Some (got, q) → Stands (op_text got) p q)
    → or_else op (after (op_text op) p) other ≡ Some (got, q) → Stands (op_text got) p q
else_found op p other got q more e = go (after (op_text op) p) refl e
  where
    go : (o : Option Place) → after (op_text op) p ≡ o → or_else op o other ≡ Some (got, q) → Stands (op_text got) p q
    go None is e = more e
    go (Some r) is e =
        let both = ends got q op r e in
        subst (λ g. Stands (op_text g) p q) both.0 (subst (λ r. Stands (op_text op) p r) both.1 (after_found (op_text op) p r is))

abbrev from_greater : Place → Reads Operator
from_greater p = or_else Greater (after (codes ">") p) None

abbrev from_less : Place → Reads Operator
from_less p = or_else Less (after (codes "<") p) (from_greater p)

abbrev from_xor : Place → Reads Operator
from_xor p = or_else Xor (after (codes "^") p) (from_less p)

abbrev from_or : Place → Reads Operator
from_or p = or_else Or (after (codes "|") p) (from_xor p)

abbrev from_and : Place → Reads Operator
from_and p = or_else And (after (codes "&") p) (from_or p)

abbrev from_multiply : Place → Reads Operator
from_multiply p = or_else Multiply (after (codes "*") p) (from_and p)

abbrev from_subtract : Place → Reads Operator
from_subtract p = or_else Subtract (after (codes "-") p) (from_multiply p)

abbrev from_add : Place → Reads Operator
from_add p = or_else Add (after (codes "+") p) (from_subtract p)

abbrev from_not_equal : Place → Reads Operator
from_not_equal p = or_else NotEqual (after (codes "!=") p) (from_add p)

abbrev from_equal : Place → Reads Operator
from_equal p = or_else Equal (after (codes "==") p) (from_not_equal p)

abbrev from_at_least : Place → Reads Operator
from_at_least p = or_else AtLeast (after (codes ">=") p) (from_equal p)

abbrev from_at_most : Place → Reads Operator
from_at_most p = or_else AtMost (after (codes "<=") p) (from_at_least p)

abbrev from_shift_right : Place → Reads Operator
from_shift_right p = or_else ShiftRight (after (codes ">>") p) (from_at_most p)

abbrev from_shift_left : Place → Reads Operator
from_shift_left p = or_else ShiftLeft (after (codes "<<") p) (from_shift_right p)

from_greater_found : (p : Place) (got : Operator) (q : Place) → from_greater p ≡ Some (got, q) → Stands (op_text got) p q
from_greater_found p got q e = else_found Greater p None got q (λ e. absurd (cc)) e

from_less_found : (p : Place) (got : Operator) (q : Place) → from_less p ≡ Some (got, q) → Stands (op_text got) p q
from_less_found p got q e = else_found Less p (from_greater p) got q (from_greater_found p got q) e

from_xor_found : (p : Place) (got : Operator) (q : Place) → from_xor p ≡ Some (got, q) → Stands (op_text got) p q
from_xor_found p got q e = else_found Xor p (from_less p) got q (from_less_found p got q) e

from_or_found : (p : Place) (got : Operator) (q : Place) → from_or p ≡ Some (got, q) → Stands (op_text got) p q
from_or_found p got q e = else_found Or p (from_xor p) got q (from_xor_found p got q) e

from_and_found : (p : Place) (got : Operator) (q : Place) → from_and p ≡ Some (got, q) → Stands (op_text got) p q
from_and_found p got q e = else_found And p (from_or p) got q (from_or_found p got q) e

from_multiply_found : (p : Place) (got : Operator) (q : Place) → from_multiply p ≡ Some (got, q) → Stands (op_text got) p q
from_multiply_found p got q e = else_found Multiply p (from_and p) got q (from_and_found p got q) e

from_subtract_found : (p : Place) (got : Operator) (q : Place) → from_subtract p ≡ Some (got, q) → Stands (op_text got) p q
from_subtract_found p got q e = else_found Subtract p (from_multiply p) got q (from_multiply_found p got q) e

from_add_found : (p : Place) (got : Operator) (q : Place) → from_add p ≡ Some (got, q) → Stands (op_text got) p q
from_add_found p got q e = else_found Add p (from_subtract p) got q (from_subtract_found p got q) e

from_not_equal_found : (p : Place) (got : Operator) (q : Place) → from_not_equal p ≡ Some (got, q) → Stands (op_text got) p q
from_not_equal_found p got q e = else_found NotEqual p (from_add p) got q (from_add_found p got q) e

from_equal_found : (p : Place) (got : Operator) (q : Place) → from_equal p ≡ Some (got, q) → Stands (op_text got) p q
from_equal_found p got q e = else_found Equal p (from_not_equal p) got q (from_not_equal_found p got q) e

from_at_least_found : (p : Place) (got : Operator) (q : Place) → from_at_least p ≡ Some (got, q) → Stands (op_text got) p q
from_at_least_found p got q e = else_found AtLeast p (from_equal p) got q (from_equal_found p got q) e

from_at_most_found : (p : Place) (got : Operator) (q : Place) → from_at_most p ≡ Some (got, q) → Stands (op_text got) p q
from_at_most_found p got q e = else_found AtMost p (from_at_least p) got q (from_at_least_found p got q) e

from_shift_right_found : (p : Place) (got : Operator) (q : Place) → from_shift_right p ≡ Some (got, q) → Stands (op_text got) p q
from_shift_right_found p got q e = else_found ShiftRight p (from_at_most p) got q (from_at_most_found p got q) e

from_shift_left_found : (p : Place) (got : Operator) (q : Place) → from_shift_left p ≡ Some (got, q) → Stands (op_text got) p q
from_shift_left_found p got q e = else_found ShiftLeft p (from_shift_right p) got q (from_shift_right_found p got q) e

pub operator_found : (p : Place) (got : Operator) (q : Place) → operator_at p ≡ Some (got, q) → Stands (op_text got) p q
operator_found p got q e = from_shift_left_found p got q e
