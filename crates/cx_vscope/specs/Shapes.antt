-- What the rules on names and widths look at of an expression, and how it comes from that of its parts.
use Rattle.std.specs.Prelude.{ℕ, ◌==◌, ◌||◌, not, Bool, false, List, Option, Some, option_and_then}
use Rattle.std.specs.Option.{option_map_or}
use Rattle.cx_vtree.specs.declared.operators.Operator.{Operator}
use Rattle.cx_vtree.specs.Plain.{PlainExpr}
use Rattle.cx_vtree.specs.Sound.{Scope, is_array, width_of, misnames, fitting_width, operator_width, choice_width, sides_width}
use Rattle.cx_vscope.specs.declared.shapes.Shape.{Shape}

-- whether it breaks a rule on names, and its width where the widths in it fit
abbrev pub shape_of : Scope → PlainExpr → Shape
shape_of scope e = record { misnamed = misnames scope e; width = fitting_width scope e }

-- the widths in it fit, and it has this width
abbrev pub has_width : Shape → ℕ → Bool
has_width shape w = option_map_or (λ v. v == w) shape.width false

-- of the words of an array
abbrev pub array_shape : Scope → List ℕ → Shape
array_shape scope n = record { misnamed = not (is_array (scope n)); width = Some (width_of (scope n)) }

-- the second of two widths, where the first is one
abbrev pub width_behind : Option ℕ → Option ℕ → Option ℕ
width_behind first second = option_and_then (λ v. second) first

abbrev pub indexed : Shape → Shape → Shape
indexed array index =
    record { misnamed = array.misnamed || index.misnamed; width = width_behind index.width array.width }

abbrev pub applied : Operator → Shape → Shape → Shape
applied op left right =
    record { misnamed = left.misnamed || right.misnamed; width = operator_width op left.width right.width }

abbrev pub chosen : Shape → Shape → Shape → Shape
chosen test one other =
    record {
      misnamed = test.misnamed || one.misnamed || other.misnamed;
      width = choice_width test.width one.width other.width;
    }

abbrev pub joined : Shape → Shape → Shape
joined high low = record { misnamed = high.misnamed || low.misnamed; width = sides_width high.width low.width }
