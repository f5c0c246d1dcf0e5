-- A CALL carries a call where static children rest in the cycle that captures.
use Rattle.std.proofs.Common.{◌≡◌, ℕ, suc, ◌<◌, Bool, true, false, [], refl, sym, ap, ◌∙◌, subst}
use Rattle.cx_meaning.specs.declared.ports.PortRef.TheVariants as ports
use Rattle.cx_meaning.specs.Instances.{Instance, State, under, put, idle}
use Rattle.cx_meaning.specs.Active.{group, capture}
use Rattle.cx_meaning.specs.Sights.{Held}
use Rattle.cx_meaning.specs.Cycles.{Fault}
use Rattle.cx_meaning.specs.Answers.{Answer, End, More, idle_turn}
use Rattle.cx_meaning.specs.Answers as answers
use Rattle.cx_meaning.specs.Islands.{turn_of}
use Rattle.cx_meaning.specs.Calls.{captures, lift_answer, inputs_of_call}
use Rattle.cx_meaning.specs.Running.{Children}
use Rattle.cx_rewrites.specs.Tallies.{Tally, none, plus, at_cell, below, Counted}
use Rattle.cx_rewrites.specs.Carrying.{Exact, Rests, TurnCarried, Carried, Carries}
use Rattle.cx_rewrites.specs.Turns.{IsSeenAlike}
use Rattle.cx_flattening.specs.Whole.{whole_cycle, after_child, call}
use Rattle.cx_rewrites.proofs.TallyLemmas.{plus-none, one_none, then_none}
use Rattle.cx_rewrites.proofs.CarryLemmas.{then_carried, idle_carries, one_carries}

pub record WholeCallGrows (R Q : Tally → State → State → Type 0) (i j : Instance) (held twin : Held) (g c width : ℕ) : Type 0 where
  pub rests : Rests R (idle i) (idle j)
  pub inputs : (input : ℕ) → input < width → IsSeenAlike R i j held twin (group g) (group g) (ports.Cell c (suc input)) (ports.Cell c (suc input))
  pub begins : (before : Tally) (s z : State) → R before s z → Q (at_cell c before) (under c s) (under c z)
  pub ends : (before counted : Tally) (s z own other : State) → R before s z → Q (plus (at_cell c before) counted) own other → R (plus before (below c counted)) (put c own s) (put c other z)
  pub captured : captures j g ≡ captures i g
  pub capture_cycle : captures i g ≡ true → (before : Tally) (s z : State) → R before s z
      → TurnCarried Exact R (λ f. f) before none (turn_of (whole_cycle i held (capture g c) [] s)) (turn_of (whole_cycle j twin (capture g c) [] z))

module _ (R Q : Tally → State → State → Type 0) (i j : Instance) (held twin : Held) (g c width : ℕ) (carries : WholeCallGrows R Q i j held twin g c width) where
  after_carries : (capturing : Bool) → captures i g ≡ capturing → Carries Exact R (λ f. f) (λ s n. none) (after_child i held g c capturing) (after_child j twin g c capturing)
  after_carries false is before s z n m room r = idle_carries Exact R (λ f. f) (idle i) (idle j) carries.rests before s z n m room r
  after_carries true is before s z n m room r =
      subst (λ k. Carried Exact R (λ f. f) before k (after_child i held g c true s n) (after_child j twin g c true z m)) (one_none (λ s1. turn_of (whole_cycle i held (capture g c) [] s1)) s n)
      (one_carries Exact R (λ f. f) (idle i) (idle j) carries.rests (λ s1. turn_of (whole_cycle i held (capture g c) [] s1)) (λ z1. turn_of (whole_cycle j twin (capture g c) [] z1)) none (carries.capture_cycle is)
      (λ s1 k. none) (idle_turn (idle i)) (idle_turn (idle j)) (idle_carries Exact R (λ f. f) (idle i) (idle j) carries.rests) before s z n m room r)

  lift_carried : (before counted : Tally) (s z : State) (o x : Answer State Fault) → R before s z → Carried Exact Q (λ f. f) (at_cell c before) counted o x
      → Carried Exact R (λ f. f) before (below c counted) (lift_answer c s o) (lift_answer c z x)
  lift_carried before counted s z (End own t) x r (other, u, is, keeps, q) = (put c other z, u, ap (lift_answer c z) is, keeps, carries.ends before counted s z own other r q)
  lift_carried before counted s z (answers.Fault f t) x r told = ap (lift_answer c z) told
  lift_carried before counted s z More x r told = ap (lift_answer c z) told

  pub whole_call_grows : (children others : Children) (counts : Held → Counted State)
      → ((own other : Held) → ((n : ℕ) → n < width → other n ≡ own n) → Carries Exact Q (λ f. f) (counts own) (children c own) (others c other))
      → Carries Exact R (λ f. f) (λ s n. below c (counts (inputs_of_call i held g c s) (under c s) n)) (call i children held g c) (call j others twin g c)
  whole_call_grows children others counts kids before s z n m room r =
      subst (λ k. Carried Exact R (λ f. f) before k (call i children held g c s n) (call j others twin g c z m))
      (ap (plus child_counts) (then_none child_run n) ∙ plus-none child_counts)
      (then_carried Exact R (λ f. f) before child_counts n m room child_run (lift_answer c z (others c (inputs_of_call j twin g c z) (under c z) m)) (λ s1 k. none)
      (after_child i held g c (captures i g)) (after_child j twin g c (captures j g))
      (lift_carried before (counts (inputs_of_call i held g c s) (under c s) n) s z (children c (inputs_of_call i held g c s) (under c s) n) (others c (inputs_of_call j twin g c z) (under c z) m) r
      (kids (inputs_of_call i held g c s) (inputs_of_call j twin g c z) (λ input less. carries.inputs input less before s z r) (at_cell c before) (under c s) (under c z) n m room (carries.begins before s z r)))
      (subst (λ b. Carries Exact R (λ f. f) (λ s1 k. none) (after_child i held g c (captures i g)) (after_child j twin g c b)) (sym carries.captured) (after_carries (captures i g) refl)))
    where
      child_counts : Tally
      child_counts = below c (counts (inputs_of_call i held g c s) (under c s) n)

      child_run : Answer State Fault
      child_run = lift_answer c s (children c (inputs_of_call i held g c s) (under c s) n)
