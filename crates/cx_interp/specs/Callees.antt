-- Calls of components: the child at a cell, what it does, and what is behind it.
use Rattle.std.specs.Prelude.{ℕ, zero, suc, true}
use Rattle.cx_meaning.specs.Instances.{cells_of, under}
use Rattle.cx_meaning.specs.Calls.{captures, lift_answer, inputs_of_call, after_child}
use Rattle.cx_meaning.specs.Running.{control_below}
use Rattle.cx_interp.specs.declared.answers.Answer.{Answer}
use Rattle.cx_interp.specs.declared.answers.Answer.TheVariants.{End, More}
use Rattle.cx_interp.specs.Doings.{Doing}

-- the run of the child at a cell, as a run of the instance
abbrev pub child_does : ℕ → ℕ → Doing
child_does g c i held s n = lift_answer c s (control_below (cells_of i) c (inputs_of_call i held g c s) (under c s) n)

-- what is behind it: an idle turn, or the capture cycle and an idle turn
abbrev pub after_does : ℕ → ℕ → Doing
after_does g c i held s n = after_child i held g c (captures i g) s n

abbrev pub capture_does : ℕ → ℕ → Doing
capture_does g c i held s n = after_child i held g c true s n

-- a turn that goes on, with an idle turn behind it
abbrev pub two_turns : ℕ → Answer
two_turns zero = More
two_turns (suc zero) = More
two_turns (suc (suc budget)) = End 2
