-- What a loop has left to do: whatever comes of the rest is what comes of the whole.
use Rattle.std.proofs.Common.{◌≡◌, ℕ, ◌+◌, ◌-◌, List, refl, sym, ap, subst, arith}
use Rattle.cx_meaning.specs.Designs.{PlainDesign}
use Rattle.cx_state.specs.States.{PlainInstance}
use Rattle.cx_turns.specs.Groups.{Driving}
use Rattle.cx_interp.specs.declared.answers.Answer.TheVariants.{End, Fault, More}
use Rattle.cx_interp.specs.declared.answers.Answer.{Answer}
use Rattle.cx_interp.specs.Doings.{Doing, then_does}
use Rattle.cx_interp.specs.Done.{later, Done}
use Rattle.cx_interp.proofs.DoneLemmas.{Stops, done_then, done_stopped}

-- from the rows now, what comes of the rest with what is left of the budget, is what comes of the whole from the first rows
abbrev pub Continues : PlainDesign → ℕ → Driving → List PlainInstance → List PlainInstance → Doing → ℕ → Doing → ℕ → ℕ → Type 0
Continues d n driving initial now rest left whole budget spent = (new : List PlainInstance) (a : Answer) → Done d now new n driving rest left a → Done d initial new n driving whole budget (later spent a)

later_none : (a : Answer) → later 0 a ≡ a
later_none (End t) = ap (λ k. End k) (omega arith)
later_none (Fault f t) = ap (λ k. Fault f k) (omega arith)
later_none More = refl

pub later_later : (k m : ℕ) (a : Answer) → later k (later m a) ≡ later (k + m) a
later_later k m (End t) = ap (λ k. End k) (omega arith)
later_later k m (Fault f t) = ap (λ k. Fault f k) (omega arith)
later_later k m More = refl

module _ (d : PlainDesign) (n : ℕ) (driving : Driving) where
  pub continues_start : (rows : List PlainInstance) (whole : Doing) (budget : ℕ) → Continues d n driving rows rows whole (budget - 0) whole budget 0
  continues_start rows whole budget new a done =
      let same : budget - 0 ≡ budget = omega arith in
      subst (λ x. Done d rows new n driving whole budget x) (sym (later_none a)) (subst (λ b. Done d rows new n driving whole b a) same done)

  module _ (initial now : List PlainInstance) (first rest : Doing) (left : ℕ) (whole : Doing) (budget spent : ℕ) (goes : Continues d n driving initial now (then_does first rest) left whole budget spent) where
    pub continues_after : (middle : List PlainInstance) (turns : ℕ) → Done d now middle n driving first left (End turns) → Continues d n driving initial middle rest (left - turns) whole budget (spent + turns)
    continues_after middle turns one new a done =
        subst (λ x. Done d initial new n driving whole budget x) (later_later spent turns a)
        (goes new (later turns a) (done_then d n driving now middle new first rest left turns a one done))

    pub continues_stop : (new : List PlainInstance) (a : Answer) → Stops a → Done d now new n driving first left a → Done d initial new n driving whole budget (later spent a)
    continues_stop new a stop one = goes new a (done_stopped d n driving now new first rest left a stop one)
