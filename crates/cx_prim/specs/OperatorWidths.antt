-- What the operators give has the width of their output, so the rows without state keep the laws of a row.
use Rattle.cx_prim.specs.declared.ports.PortRow.{PortRow}
use Rattle.std.specs.Prelude.{◌≡◌, ℕ, ◌≤◌, List, Option, Some, None, refl}
use Rattle.std.proofs.Common.{sym, ◌∙◌}
use Rattle.std.proofs.lemmas.Bool.{eqb-true, leb-true}
use Rattle.cx_bits.specs.BitVector.{BitVector, Fits}
use Rattle.cx_bits.proofs.OperatorLaws.{Fits-sum_of, Fits-difference_of, Fits-and_of, Fits-or_of, Fits-xor_of, Fits-complement_of, Fits-left_shift_of, Fits-right_shift_of, Fits-bit_of, Fits-low_bits_of, Fits-zero_extension_of}
use Rattle.cx_prim.specs.Rows.{Inputs, KeepsRegistered, GivesWidths, ReadsOnly, AnswersStrictly, IsLawful}
use Rattle.cx_prim.specs.CombinationalRows.{combinational_row, constant_row, unary_row, binary_row, mux_row}
use Rattle.cx_prim.specs.CombinationalLaws.{GivesWidth1, GivesWidth2, no_registered, constant_widths, unary_widths, binary_widths, mux_widths, constant_reads_only, unary_reads_only, binary_reads_only, mux_reads_only, constant_strict, unary_strict, binary_strict, mux_strict}
use Rattle.cx_prim.specs.Operators.{IsUnary, apply_unary, binary_out_width, apply_binary}
use Rattle.cx_prim.specs.declared.operators.UnaryOperator.{UnaryOperator}
use Rattle.cx_prim.specs.declared.operators.UnaryOperator.TheVariants.{Wire, Not, Slice, Pad}
use Rattle.cx_prim.specs.declared.operators.BinaryOperator.{BinaryOperator}
use Rattle.cx_prim.specs.declared.operators.BinaryOperator.TheVariants.{Add, Sub, And, Or, Xor, Lsh, Rsh, Lt, Gt, Equal, Neq, Le, Ge, Slt, Sgt, Sle, Sge}

pub unary_gives : (operator : UnaryOperator) (w v : ℕ) → IsUnary operator w v → GivesWidth1 w v (apply_unary operator v)
unary_gives Wire w v takes a fits same = record { same_width = same ∙ eqb-true w v takes.taken; fits = fits }
unary_gives Not w v takes a fits same =
    record { same_width = same ∙ eqb-true w v takes.taken; fits = Fits-complement_of a fits }
unary_gives Slice w v takes a fits same =
    let within : v ≤ a.width = rw same (leb-true v w takes.taken) in
    record { same_width = refl; fits = Fits-low_bits_of a v fits takes.output.some_bits within }
unary_gives Pad w v takes a fits same =
    let wider : a.width ≤ v = rw same (leb-true w v takes.taken) in
    record { same_width = refl; fits = Fits-zero_extension_of a v fits wider takes.output.few_bits }

pub binary_gives : (operator : BinaryOperator) (w : ℕ)
    → GivesWidth2 w (binary_out_width operator w) (apply_binary operator)
binary_gives Add w a b fits_a fits_b same_a same_b = record { same_width = same_a; fits = Fits-sum_of a b fits_a }
binary_gives Sub w a b fits_a fits_b same_a same_b =
    record { same_width = same_a; fits = Fits-difference_of a b fits_a }
binary_gives And w a b fits_a fits_b same_a same_b = record { same_width = same_a; fits = Fits-and_of a b fits_a }
binary_gives Or w a b fits_a fits_b same_a same_b =
    record { same_width = same_a; fits = Fits-or_of a b fits_a fits_b (same_a ∙ sym same_b) }
binary_gives Xor w a b fits_a fits_b same_a same_b =
    record { same_width = same_a; fits = Fits-xor_of a b fits_a fits_b (same_a ∙ sym same_b) }
binary_gives Lsh w a b fits_a fits_b same_a same_b =
    record { same_width = same_a; fits = Fits-left_shift_of a b fits_a }
binary_gives Rsh w a b fits_a fits_b same_a same_b =
    record { same_width = same_a; fits = Fits-right_shift_of a b fits_a }
binary_gives Lt w a b fits_a fits_b same_a same_b = record { same_width = refl; fits = Fits-bit_of _ }
binary_gives Gt w a b fits_a fits_b same_a same_b = record { same_width = refl; fits = Fits-bit_of _ }
binary_gives Equal w a b fits_a fits_b same_a same_b = record { same_width = refl; fits = Fits-bit_of _ }
binary_gives Neq w a b fits_a fits_b same_a same_b = record { same_width = refl; fits = Fits-bit_of _ }
binary_gives Le w a b fits_a fits_b same_a same_b = record { same_width = refl; fits = Fits-bit_of _ }
binary_gives Ge w a b fits_a fits_b same_a same_b = record { same_width = refl; fits = Fits-bit_of _ }
binary_gives Slt w a b fits_a fits_b same_a same_b = record { same_width = refl; fits = Fits-bit_of _ }
binary_gives Sgt w a b fits_a fits_b same_a same_b = record { same_width = refl; fits = Fits-bit_of _ }
binary_gives Sle w a b fits_a fits_b same_a same_b = record { same_width = refl; fits = Fits-bit_of _ }
binary_gives Sge w a b fits_a fits_b same_a same_b = record { same_width = refl; fits = Fits-bit_of _ }

-- without a state, only what the output is has to be shown
pub combinational_lawful : (ports : List PortRow) (input_count : ℕ) (value : Inputs → Option BitVector)
    → KeepsRegistered (combinational_row ports input_count value)
    → GivesWidths (combinational_row ports input_count value)
    → ReadsOnly (combinational_row ports input_count value)
    → AnswersStrictly (combinational_row ports input_count value)
    → IsLawful (combinational_row ports input_count value)
combinational_lawful ports input_count value registered widths reads_only strict = record {
  starts_settled = refl;
  idle_once = λ state. refl;
  quiet_is_idle = λ state inputs quiet. refl;
  registered = registered;
  looked_at = λ state inputs others agree. refl;
  by_enabling = λ state inputs others n agree. refl;
  nothing_demanded = λ state inputs n quiet. refl;
  ranges = λ inputs n beyond. absurd (let none : None ≡ Some n = beyond in cc);
  widths = widths;
  reads_only = reads_only;
  strict = strict;
  states = record { start = tt; next = λ state inputs of_row fits values. of_row; idle = λ state of_row. of_row };
}

pub constant_lawful : (w v : ℕ) → Fits (record { width = w; value = v }) → IsLawful (constant_row w v)
constant_lawful w v fits =
    combinational_lawful _ _ _ (no_registered (constant_row w v) refl) (constant_widths w v fits)
    (constant_reads_only w v) (constant_strict w v)

pub unary_lawful : (operator : UnaryOperator) (w v : ℕ) → IsUnary operator w v
    → IsLawful (unary_row w v (apply_unary operator v))
unary_lawful operator w v takes =
    let f = apply_unary operator v in
    combinational_lawful _ _ _ (no_registered (unary_row w v f) refl)
    (unary_widths w v f (unary_gives operator w v takes)) (unary_reads_only w v f) (unary_strict w v f)

pub binary_lawful : (operator : BinaryOperator) (w : ℕ)
    → IsLawful (binary_row w (binary_out_width operator w) (apply_binary operator))
binary_lawful operator w =
    let v = binary_out_width operator w in
    let f = apply_binary operator in
    combinational_lawful _ _ _ (no_registered (binary_row w v f) refl)
    (binary_widths w v f (binary_gives operator w)) (binary_reads_only w v f) (binary_strict w v f)

pub mux_lawful : (w : ℕ) → IsLawful (mux_row w)
mux_lawful w =
    combinational_lawful _ _ _ (no_registered (mux_row w) refl) (mux_widths w) (mux_reads_only w)
    (mux_strict w)
