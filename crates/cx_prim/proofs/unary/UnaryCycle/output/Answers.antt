use Rattle.std.proofs.Common.{refl, sym, subst, ℕ}
use Rattle.cx_prim.specs.Operators.{IsUnary}
use Rattle.cx_prim.proofs.unary.UnaryCycle.output.Goals as goal

pub apply-requires : goal.apply-requires
apply-requires c =
    let width = c.requires.inputs_fit.widths 0 _ c.in_ok-value.value refl (sym c.in_ok-value.ensures.value) in
    subst (λ (w : ℕ). IsUnary c.args.self.now.operator w c.args.self.now.out_width) (sym width) c.args.self.now.within
