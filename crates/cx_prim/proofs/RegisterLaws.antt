-- The row of a register keeps the laws of a row.
use Rattle.std.specs.Prelude.{◌≡◌, ℕ, zero, suc, ◌==◌, true, false, Option, Some, None, Ok, IsSome, if◌then◌else◌, refl}
use Rattle.std.proofs.Common.{ap, ◌∙◌}
use Rattle.std.proofs.lemmas.Nat.{pow_pos}
use Rattle.cx_bits.specs.BitVector.{BitVector}
use Rattle.cx_bits.proofs.OperatorLaws.{Fits-bit_of}
use Rattle.cx_prim.specs.declared.ports.PortName.TheVariants.{In, Out, WriteEn, Done}
use Rattle.cx_prim.specs.CellStates.{CellState, Register, IsState, RegisterOf}
use Rattle.cx_prim.specs.Rows.{number_of, value_at, is_on, LooksWhereDemanded, GivesWidths, IsLawful}
use Rattle.cx_prim.specs.CombinationalRows.{enable_port, plain_port, registered_port}
use Rattle.cx_prim.specs.CombinationalLaws.{not_output}
use Rattle.cx_prim.specs.RegisterRow.{register_output, register_idle, register_row}
use Rattle.cx_prim.proofs.RowTools.{out_fits, number_fits, if-same_else, if-each, value_at_fits}
use Rattle.cx_prim.specs.Widths.{IsWidth}

pub register_idle_once : (state : CellState) → register_idle (register_idle state) ≡ register_idle state
register_idle_once (Register value done) = refl
register_idle_once state = refl

pub register_looks : (w : ℕ) → LooksWhereDemanded (register_row w)
register_looks w state inputs others agree =
    let there = agree.enabling 1 (enable_port WriteEn) refl refl in
    let written = if-same_else (is_on inputs 1) (Register (value_at inputs 0) true) (Register (value_at others 0) true) (register_idle state)
    (λ on. ap (λ (i : Option BitVector). Register (number_of i) true) (agree.demanded 0 (plain_port In w) refl refl (rw on refl))) in
    ap Ok (written ∙ ap (λ (i : Option BitVector). if number_of i == 1 then Register (value_at others 0) true else register_idle state) there)

pub register_widths : (w : ℕ) → IsWidth w → GivesWidths (register_row w)
register_widths w is_width (Register value done) inputs zero port b of_row fits values at out e = absurd (not_output _ port at refl out)
register_widths w is_width (Register value done) inputs (suc zero) port b of_row fits values at out e = absurd (not_output _ port at refl out)
register_widths w is_width (Register value done) inputs (suc (suc zero)) port b of_row fits values at out e =
    out_fits (registered_port Out w) port _ b at e (number_fits w value is_width of_row)
register_widths w is_width (Register value done) inputs (suc (suc (suc zero))) port b of_row fits values at out e =
    out_fits (registered_port Done 1) port _ b at e (record { same_width = refl; fits = Fits-bit_of done })
register_widths w is_width (Register value done) inputs (suc (suc (suc (suc n)))) port b of_row fits values at out e = absurd (cc)
register_widths w is_width state inputs n port b of_row fits values at out e = absurd of_row

pub register_answers : (w : ℕ) (state : CellState) (n : ℕ) → IsState (RegisterOf w) state → IsSome (register_output w state n)
register_answers w (Register value done) n of_row = refl
register_answers w state n of_row = absurd of_row

pub register_idle_keeps : (w : ℕ) (state : CellState) → IsState (RegisterOf w) state → IsState (RegisterOf w) (register_idle state)
register_idle_keeps w (Register value done) of_row = of_row
register_idle_keeps w state of_row = absurd of_row

pub register_lawful : (w : ℕ) → IsWidth w → IsLawful (register_row w)
register_lawful w is_width = record {
  starts_settled = refl;
  idle_once = register_idle_once;
  quiet_is_idle = λ state inputs quiet.
      let off : value_at inputs 1 ≡ 0 = quiet 1 (enable_port WriteEn) refl refl in
      ap (λ (v : ℕ). Ok (if v == 1 then Register (value_at inputs 0) true else register_idle state)) off;
  registered = λ state inputs others n port at registered. refl;
  looked_at = register_looks w;
  by_enabling = λ state inputs others n agree. ap (λ (i : Option BitVector). if number_of i == 1 then n == 0 else false) (agree.enabling 1 (enable_port WriteEn) refl refl);
  nothing_demanded = λ state inputs n quiet. ap (λ (v : ℕ). if v == 1 then n == 0 else false) (quiet 1 (enable_port WriteEn) refl refl);
  ranges = λ inputs n beyond. absurd (let none : None ≡ Some n = beyond in cc);
  widths = register_widths w is_width;
  reads_only = λ state inputs others n agree. refl;
  strict = λ state inputs n of_row out. record {
    unread = λ m reads none. absurd (let wrong : false ≡ true = reads in cc);
    beyond = λ reads. absurd (let wrong : false ≡ true = reads in cc);
    otherwise = λ all within. register_answers w state n of_row;
  };
  states = record {
    start = pow_pos w;
    next = λ state inputs of_row fits values.
        if-each (IsState (RegisterOf w)) (is_on inputs 1) (Register (value_at inputs 0) true) (register_idle state)
        (value_at_fits (register_row w).ports inputs 0 (plain_port In w) fits values refl) (register_idle_keeps w state of_row);
    idle = register_idle_keeps w;
  };
}
