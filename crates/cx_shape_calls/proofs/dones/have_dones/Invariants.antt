use Rattle.std.proofs.Common.{◌≡◌, drop, not, nat_eq}
use Rattle.std.specs.List.{list_all}
use Rattle.cx_shape_calls.specs.Forms.{times}
use Rattle.cx_shape_calls.proofs.dones.have_dones.Given as goal

-- all are counted if those that are left are
abbrev pub invariant-loop-register : goal.invariant-loop-register
invariant-loop-register l =
    list_all (λ r. not (nat_eq (times l.tally r 3) 0)) (drop l.register-index l.registers) ≡ list_all (λ r. not (nat_eq (times l.tally r 3) 0)) l.registers
