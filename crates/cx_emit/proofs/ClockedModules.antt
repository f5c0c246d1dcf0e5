-- The modules of the register, the timer and the pipes keep the rules.
use Rattle.std.proofs.Common.{◌≡◌, ℕ, zero, suc, ◌+◌, ◌-◌, ◌^◌, ◌≤◌, Bool, true, false, List, if◌then◌else◌, refl, arith}
use Rattle.std.specs.Prelude.{codes, nat_le}
use Rattle.cx_prim.specs.Widths.{IsWidth}
use Rattle.cx_prim.specs.RegisterRow.{register_row}
use Rattle.cx_prim.specs.PipeRows.{multiplier_row, divider_row, timer_row}
use Rattle.cx_vtree.specs.declared.operators.Operator.TheVariants.{Add, Subtract, Multiply, And, Or, ShiftLeft, ShiftRight, Equal, AtLeast}
use Rattle.cx_vtree.specs.Plain.{PlainModule}
use Rattle.cx_vtree.specs.Layout.{is_name}
use Rattle.cx_vmods.specs.Spelling.{spelled}
use Rattle.cx_vmods.specs.Parts.{with_piece}
use Rattle.cx_vmods.specs.BitCounts.{bits_for, bits_from}
use Rattle.cx_vmods.specs.Clocked.{register, timer, multiplier, divider}
use Rattle.cx_emit.proofs.Keeping.{keeps_part, keeps_applied, keeps_chosen}
use Rattle.cx_emit.proofs.CleanModules.{IsKept}
use Rattle.cx_emit.proofs.StatelessModules.{made, one_wide, literal_keeps, input_kept, output_kept, net_keeps, names_fresh, assign_keeps, set_keeps}

two_wide : IsWidth 2
two_wide = record { some_bits = omega arith; few_bits = omega arith }

word_wide : IsWidth 32
word_wide = record { some_bits = omega arith; few_bits = omega arith }

-- a counter or an index has 1 to 32 bits
bits_within : (more width numbers : ℕ) → (width ≤ bits_from more width numbers) × (bits_from more width numbers ≤ width + more)
unfolding bits_from
bits_within zero width numbers = (omega arith, omega arith)
bits_within (suc more) width numbers = go (nat_le numbers (2 ^ width)) (bits_within more (width + 1) numbers) where
  go : (b : Bool) → (width + 1 ≤ bits_from more (width + 1) numbers) × (bits_from more (width + 1) numbers ≤ width + 1 + more)
      → (width ≤ (if b then width else bits_from more (width + 1) numbers)) × ((if b then width else bits_from more (width + 1) numbers) ≤ width + suc more)
  go true h = (omega arith, omega arith)
  go false h = let low = h.0 in let high = h.1 in (omega (arith, low), omega (arith, high))

pub bits_wide_for : (numbers : ℕ) → IsWidth (bits_for numbers)
unfolding bits_for
bits_wide_for numbers = let h = bits_within 31 1 numbers in let low = h.0 in let high = h.1 in record { some_bits = omega (arith, low); few_bits = omega (arith, high) }

module _ (before : List PlainModule) (name : List ℕ) (named : is_name name ≡ true) where
  pub register_kept : (w : ℕ) → IsWidth w → IsKept before (made name (register_row w) (register w))
  unfolding spelled with_piece
  register_kept w wide = record {
    named = named;
    behind = _;
    clocked = refl;
    names = names_fresh (made name (register_row w) (register w)) refl;
    ports = (input_kept _ _ 1 refl one_wide, (input_kept _ _ 1 refl one_wide, (input_kept _ _ w refl wide, (input_kept _ _ 1 refl one_wide, (output_kept _ _ w refl wide refl, (output_kept _ _ 1 refl one_wide refl, tt))))));
    decls = ((refl, wide), ((refl, one_wide), tt));
    driven_once = (refl, (refl, tt));
    assigns = (assign_keeps _ _ _ refl refl (net_keeps _ 64 (codes "finished") 1 refl refl refl), (assign_keeps _ _ _ refl refl (net_keeps _ 64 (codes "held") w refl refl refl), tt));
    instances = tt;
    edge = record { reset_once = (refl, (refl, tt)); reset = (set_keeps _ _ _ refl refl (literal_keeps _ 64 w 0 wide), (set_keeps _ _ _ refl refl (literal_keeps _ 64 1 0 one_wide), tt)); step_once = (refl, (refl, tt)); step = (set_keeps _ _ _ refl refl (keeps_chosen _ 64 (omega arith) _ _ _ w (net_keeps _ 63 (codes "write_en") 1 refl refl refl) (net_keeps _ 63 (codes "in") w refl refl refl) (net_keeps _ 63 (codes "held") w refl refl refl)), (set_keeps _ _ _ refl refl (net_keeps _ 64 (codes "write_en") 1 refl refl refl), tt)) };
  }

  pub timer_kept : (n : ℕ) → IsKept before (made name (timer_row n) (timer n))
  unfolding spelled with_piece
  timer_kept n = record {
    named = named;
    behind = _;
    clocked = refl;
    names = names_fresh (made name (timer_row n) (timer n)) refl;
    ports = (input_kept _ _ 1 refl one_wide, (input_kept _ _ 1 refl one_wide, (input_kept _ _ 1 refl one_wide, (output_kept _ _ 32 refl word_wide refl, (output_kept _ _ 1 refl one_wide refl, tt)))));
    decls = ((refl, one_wide, refl), ((refl, one_wide, refl), ((refl, word_wide), ((refl, one_wide), tt))));
    driven_once = (refl, (refl, (refl, (refl, tt))));
    assigns = (assign_keeps _ _ _ refl refl (keeps_applied _ 64 (omega arith) Equal _ _ 32 (net_keeps _ 63 (codes "count") 32 refl refl refl) (literal_keeps _ 63 32 (n - 1) word_wide)), (assign_keeps _ _ _ refl refl (keeps_applied _ 64 (omega arith) And _ _ 1 (net_keeps _ 63 (codes "go") 1 refl refl refl) (net_keeps _ 63 (codes "ends") 1 refl refl refl)), (assign_keeps _ _ _ refl refl (net_keeps _ 64 (codes "finished") 1 refl refl refl), (assign_keeps _ _ _ refl refl (net_keeps _ 64 (codes "count") 32 refl refl refl), tt))));
    instances = tt;
    edge = record { reset_once = (refl, (refl, tt)); reset = (set_keeps _ _ _ refl refl (literal_keeps _ 64 32 0 word_wide), (set_keeps _ _ _ refl refl (literal_keeps _ 64 1 0 one_wide), tt)); step_once = (refl, (refl, tt)); step = (set_keeps _ _ _ refl refl (keeps_chosen _ 64 (omega arith) _ _ _ 32 (net_keeps _ 63 (codes "go") 1 refl refl refl) (keeps_chosen _ 63 (omega arith) _ _ _ 32 (net_keeps _ 62 (codes "ends") 1 refl refl refl) (literal_keeps _ 62 32 0 word_wide) (keeps_applied _ 62 (omega arith) Add _ _ 32 (net_keeps _ 61 (codes "count") 32 refl refl refl) (literal_keeps _ 61 32 1 word_wide))) (literal_keeps _ 63 32 0 word_wide)), (set_keeps _ _ _ refl refl (net_keeps _ 64 (codes "finishes") 1 refl refl refl), tt)) };
  }

  pub multiplier_kept : (w : ℕ) → IsWidth w → IsKept before (made name (multiplier_row w) (multiplier w))
  unfolding spelled with_piece multiplier
  multiplier_kept w wide = record {
    named = named;
    behind = _;
    clocked = refl;
    names = names_fresh (made name (multiplier_row w) (multiplier w)) refl;
    ports = (input_kept _ _ 1 refl one_wide, (input_kept _ _ 1 refl one_wide, (input_kept _ _ 1 refl one_wide, (input_kept _ _ w refl wide, (input_kept _ _ w refl wide, (output_kept _ _ w refl wide refl, (output_kept _ _ 1 refl one_wide refl, tt)))))));
    decls = ((refl, one_wide, refl), ((refl, one_wide, refl), ((refl, two_wide), ((refl, one_wide), ((refl, one_wide, refl), ((refl, wide), ((refl, wide), ((refl, wide), tt))))))));
    driven_once = (refl, (refl, (refl, (refl, (refl, tt)))));
    assigns = (assign_keeps _ _ _ refl refl (keeps_applied _ 64 (omega arith) Equal _ _ 2 (net_keeps _ 63 (codes "count") 2 refl refl refl) (literal_keeps _ 63 2 2 two_wide)), (assign_keeps _ _ _ refl refl (keeps_applied _ 64 (omega arith) And _ _ 1 (net_keeps _ 63 (codes "go") 1 refl refl refl) (net_keeps _ 63 (codes "ends") 1 refl refl refl)), (assign_keeps _ _ _ refl refl (net_keeps _ 64 (codes "finished") 1 refl refl refl), (assign_keeps _ _ _ refl refl (keeps_applied _ 64 (omega arith) Equal _ _ 2 (net_keeps _ 63 (codes "count") 2 refl refl refl) (literal_keeps _ 63 2 0 two_wide)), (assign_keeps _ _ _ refl refl (net_keeps _ 64 (codes "product") w refl refl refl), tt)))));
    instances = tt;
    edge = record { reset_once = (refl, (refl, (refl, (refl, (refl, tt))))); reset = (set_keeps _ _ _ refl refl (literal_keeps _ 64 2 0 two_wide), (set_keeps _ _ _ refl refl (literal_keeps _ 64 1 0 one_wide), (set_keeps _ _ _ refl refl (literal_keeps _ 64 w 0 wide), (set_keeps _ _ _ refl refl (literal_keeps _ 64 w 0 wide), (set_keeps _ _ _ refl refl (literal_keeps _ 64 w 0 wide), tt))))); step_once = (refl, (refl, (refl, (refl, (refl, tt))))); step = (set_keeps _ _ _ refl refl (keeps_chosen _ 64 (omega arith) _ _ _ 2 (net_keeps _ 63 (codes "go") 1 refl refl refl) (keeps_chosen _ 63 (omega arith) _ _ _ 2 (net_keeps _ 62 (codes "ends") 1 refl refl refl) (literal_keeps _ 62 2 0 two_wide) (keeps_applied _ 62 (omega arith) Add _ _ 2 (net_keeps _ 61 (codes "count") 2 refl refl refl) (literal_keeps _ 61 2 1 two_wide))) (literal_keeps _ 63 2 0 two_wide)), (set_keeps _ _ _ refl refl (net_keeps _ 64 (codes "finishes") 1 refl refl refl), (set_keeps _ _ _ refl refl (keeps_chosen _ 64 (omega arith) _ _ _ w (net_keeps _ 63 (codes "starts") 1 refl refl refl) (net_keeps _ 63 (codes "left") w refl refl refl) (net_keeps _ 63 (codes "held_left") w refl refl refl)), (set_keeps _ _ _ refl refl (keeps_chosen _ 64 (omega arith) _ _ _ w (net_keeps _ 63 (codes "starts") 1 refl refl refl) (net_keeps _ 63 (codes "right") w refl refl refl) (net_keeps _ 63 (codes "held_right") w refl refl refl)), (set_keeps _ _ _ refl refl (keeps_chosen _ 64 (omega arith) _ _ _ w (net_keeps _ 63 (codes "finishes") 1 refl refl refl) (keeps_applied _ 63 (omega arith) Multiply _ _ w (net_keeps _ 62 (codes "held_left") w refl refl refl) (net_keeps _ 62 (codes "held_right") w refl refl refl)) (net_keeps _ 63 (codes "product") w refl refl refl)), tt))))) };
  }

  pub divider_kept : (w : ℕ) → IsWidth w → IsKept before (made name (divider_row w) (divider w))
  unfolding spelled with_piece divider
  divider_kept w wide =
      let b : ℕ = bits_for w in let bits_wide = bits_wide_for w in let some = wide.some_bits in record {
        named = named;
        behind = _;
        clocked = refl;
        names = names_fresh (made name (divider_row w) (divider w)) refl;
        ports = (input_kept _ _ 1 refl one_wide, (input_kept _ _ 1 refl one_wide, (input_kept _ _ 1 refl one_wide, (input_kept _ _ w refl wide, (input_kept _ _ w refl wide, (output_kept _ _ w refl wide refl, (output_kept _ _ w refl wide refl, (output_kept _ _ 1 refl one_wide refl, tt))))))));
        decls = ((refl, one_wide, refl), ((refl, one_wide, refl), ((refl, bits_wide), ((refl, one_wide), ((refl, one_wide, refl), ((refl, wide, refl), ((refl, wide, refl), ((refl, wide, refl), ((refl, wide, refl), ((refl, one_wide, refl), ((refl, wide, refl), ((refl, wide, refl), ((refl, wide), ((refl, wide), ((refl, wide), ((refl, wide), ((refl, wide), tt)))))))))))))))));
        driven_once = (refl, (refl, (refl, (refl, (refl, (refl, (refl, (refl, (refl, (refl, (refl, (refl, (refl, tt)))))))))))));
        assigns = (assign_keeps _ _ _ refl refl (keeps_applied _ 64 (omega arith) Equal _ _ b (net_keeps _ 63 (codes "count") b refl refl refl) (literal_keeps _ 63 b (w - 1) bits_wide)), (assign_keeps _ _ _ refl refl (keeps_applied _ 64 (omega arith) And _ _ 1 (net_keeps _ 63 (codes "go") 1 refl refl refl) (net_keeps _ 63 (codes "ends") 1 refl refl refl)), (assign_keeps _ _ _ refl refl (net_keeps _ 64 (codes "finished") 1 refl refl refl), (assign_keeps _ _ _ refl refl (keeps_applied _ 64 (omega arith) Equal _ _ b (net_keeps _ 63 (codes "count") b refl refl refl) (literal_keeps _ 63 b 0 bits_wide)), (assign_keeps _ _ _ refl refl (keeps_chosen _ 64 (omega arith) _ _ _ w (net_keeps _ 63 (codes "starts") 1 refl refl refl) (literal_keeps _ 63 w 0 wide) (net_keeps _ 63 (codes "rest") w refl refl refl)), (assign_keeps _ _ _ refl refl (keeps_chosen _ 64 (omega arith) _ _ _ w (net_keeps _ 63 (codes "starts") 1 refl refl refl) (net_keeps _ 63 (codes "left") w refl refl refl) (net_keeps _ 63 (codes "digits") w refl refl refl)), (assign_keeps _ _ _ refl refl (keeps_chosen _ 64 (omega arith) _ _ _ w (net_keeps _ 63 (codes "starts") 1 refl refl refl) (net_keeps _ 63 (codes "right") w refl refl refl) (net_keeps _ 63 (codes "divisor") w refl refl refl)), (assign_keeps _ _ _ refl refl (keeps_applied _ 64 (omega arith) Add _ _ w (keeps_applied _ 63 (omega arith) ShiftLeft _ _ w (net_keeps _ 62 (codes "rest_now") w refl refl refl) (literal_keeps _ 62 w 1 wide)) (keeps_applied _ 63 (omega arith) ShiftRight _ _ w (net_keeps _ 62 (codes "digits_now") w refl refl refl) (literal_keeps _ 62 w (w - 1) wide))), (assign_keeps _ _ _ refl refl (keeps_applied _ 64 (omega arith) Or _ _ 1 (keeps_part _ 63 (spelled (codes "rest_now")) (w - 1) (w - 1) w 1 refl refl refl (omega arith) (omega (arith, some)) (omega arith)) (keeps_applied _ 63 (omega arith) AtLeast _ _ w (net_keeps _ 62 (codes "longer") w refl refl refl) (net_keeps _ 62 (codes "divisor_now") w refl refl refl))), (assign_keeps _ _ _ refl refl (keeps_chosen _ 64 (omega arith) _ _ _ w (net_keeps _ 63 (codes "takes") 1 refl refl refl) (keeps_applied _ 63 (omega arith) Subtract _ _ w (net_keeps _ 62 (codes "longer") w refl refl refl) (net_keeps _ 62 (codes "divisor_now") w refl refl refl)) (net_keeps _ 63 (codes "longer") w refl refl refl)), (assign_keeps _ _ _ refl refl (keeps_applied _ 64 (omega arith) Add _ _ w (keeps_applied _ 63 (omega arith) ShiftLeft _ _ w (net_keeps _ 62 (codes "digits_now") w refl refl refl) (literal_keeps _ 62 w 1 wide)) (keeps_chosen _ 63 (omega arith) _ _ _ w (net_keeps _ 62 (codes "takes") 1 refl refl refl) (literal_keeps _ 62 w 1 wide) (literal_keeps _ 62 w 0 wide))), (assign_keeps _ _ _ refl refl (net_keeps _ 64 (codes "quotient") w refl refl refl), (assign_keeps _ _ _ refl refl (net_keeps _ 64 (codes "remainder") w refl refl refl), tt)))))))))))));
        instances = tt;
        edge = record { reset_once = (refl, (refl, (refl, (refl, (refl, (refl, (refl, tt))))))); reset = (set_keeps _ _ _ refl refl (literal_keeps _ 64 b 0 bits_wide), (set_keeps _ _ _ refl refl (literal_keeps _ 64 1 0 one_wide), (set_keeps _ _ _ refl refl (literal_keeps _ 64 w 0 wide), (set_keeps _ _ _ refl refl (literal_keeps _ 64 w 0 wide), (set_keeps _ _ _ refl refl (literal_keeps _ 64 w 0 wide), (set_keeps _ _ _ refl refl (literal_keeps _ 64 w 0 wide), (set_keeps _ _ _ refl refl (literal_keeps _ 64 w 0 wide), tt))))))); step_once = (refl, (refl, (refl, (refl, (refl, (refl, (refl, tt))))))); step = (set_keeps _ _ _ refl refl (keeps_chosen _ 64 (omega arith) _ _ _ b (net_keeps _ 63 (codes "go") 1 refl refl refl) (keeps_chosen _ 63 (omega arith) _ _ _ b (net_keeps _ 62 (codes "ends") 1 refl refl refl) (literal_keeps _ 62 b 0 bits_wide) (keeps_applied _ 62 (omega arith) Add _ _ b (net_keeps _ 61 (codes "count") b refl refl refl) (literal_keeps _ 61 b 1 bits_wide))) (literal_keeps _ 63 b 0 bits_wide)), (set_keeps _ _ _ refl refl (net_keeps _ 64 (codes "finishes") 1 refl refl refl), (set_keeps _ _ _ refl refl (net_keeps _ 64 (codes "rest_next") w refl refl refl), (set_keeps _ _ _ refl refl (net_keeps _ 64 (codes "digits_next") w refl refl refl), (set_keeps _ _ _ refl refl (net_keeps _ 64 (codes "divisor_now") w refl refl refl), (set_keeps _ _ _ refl refl (keeps_chosen _ 64 (omega arith) _ _ _ w (net_keeps _ 63 (codes "finishes") 1 refl refl refl) (net_keeps _ 63 (codes "digits_next") w refl refl refl) (net_keeps _ 63 (codes "quotient") w refl refl refl)), (set_keeps _ _ _ refl refl (keeps_chosen _ 64 (omega arith) _ _ _ w (net_keeps _ 63 (codes "finishes") 1 refl refl refl) (net_keeps _ 63 (codes "rest_next") w refl refl refl) (net_keeps _ 63 (codes "remainder") w refl refl refl)), tt))))))) };
      }
