-- Every row of the table keeps the laws of a row.
use Rattle.std.specs.Prelude.{refl}
use Rattle.cx_prim.specs.Rows.{IsLawful}
use Rattle.cx_prim.specs.CombinationalLaws.{no_registered}
use Rattle.cx_prim.specs.OperatorWidths.{combinational_lawful, constant_lawful, unary_lawful, binary_lawful, mux_lawful}
use Rattle.cx_prim.proofs.RegisterLaws.{register_lawful}
use Rattle.cx_prim.proofs.MemoryLaws.{memory_lawful, sequential_lawful}
use Rattle.cx_prim.proofs.PipeLaws.{multiplier_lawful, divider_lawful, timer_lawful}
use Rattle.cx_prim.specs.Table.{PrimitiveRow, no_row, row_of}
use Rattle.cx_prim.proofs.TableCases.{OfEachKind, of_row}

no_row_lawful : IsLawful no_row
no_row_lawful = combinational_lawful _ _ _ (no_registered no_row refl) (λ state inputs n port b of_row fits values at out e. absurd (cc)) (λ state inputs others n agree. refl)
    (λ state inputs n of_row out. absurd (let at = out.1 in cc))

each_kind_lawful : OfEachKind IsLawful
each_kind_lawful = record {
  none = no_row_lawful;
  constant = constant_lawful;
  unary = unary_lawful;
  binary = λ operator w ok. binary_lawful operator w;
  mux = λ w ok. mux_lawful w;
  register = register_lawful;
  memory = memory_lawful;
  sequential = sequential_lawful;
  multiplier = multiplier_lawful;
  divider = divider_lawful;
  timer = timer_lawful;
}

-- the row of a primitive keeps the laws
pub row_of_lawful : (p : PrimitiveRow) → IsLawful (row_of p)
row_of_lawful p = of_row IsLawful each_kind_lawful p
