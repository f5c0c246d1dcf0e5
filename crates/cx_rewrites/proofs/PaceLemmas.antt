-- Paces: turns add up, and what is left of a budget suffices.
use Rattle.std.proofs.Common.{◌≡◌, ℕ, zero, suc, ◌+◌, ◌-◌, max, refl, ap, ◌∙◌, arith}
use Rattle.cx_meaning.specs.Answers.{Answer, Fault, after_turns}
use Rattle.cx_rewrites.specs.Carrying.{Pace, NoLater, InStep, Exact, Keeps, Room, IfExact}

pub keeps_same : (pace : Pace) (t : ℕ) → Keeps pace t t
keeps_same NoLater t = omega arith
keeps_same InStep t = refl
keeps_same Exact t = refl

pub keeps-+ : (pace : Pace) (u t v w : ℕ) → Keeps pace u t → Keeps pace v w → Keeps pace (u + v) (t + w)
keeps-+ NoLater u t v w k l = omega (arith, k, l)
keeps-+ InStep u t v w k l = omega (arith, k, l)
keeps-+ Exact u t v w k l = omega (arith, k, l)

pub keeps-max : (pace : Pace) (u t v w : ℕ) → Keeps pace u t → Keeps pace v w → Keeps pace (max u v) (max t w)
keeps-max NoLater u t v w k l = omega (arith, k, l)
keeps-max InStep u t v w k l = ap (λ x. max x v) k ∙ ap (max t) l
keeps-max Exact u t v w k l = ap (λ x. max x v) k ∙ ap (max t) l

-- what is left of a budget suffices for what is left
pub room-- : (pace : Pace) (n m t u : ℕ) → Room pace n m → Keeps pace u t → Room pace (n - t) (m - u)
room-- NoLater n m t u r k = omega (arith, r, k)
room-- InStep n m t u r k = omega (arith, r, k)
room-- Exact n m t u r k = omega (arith, r, k)

pub room-suc : (pace : Pace) (n m : ℕ) → Room pace n m → Room pace (suc n) (suc m)
room-suc NoLater n m r = omega (arith, r)
room-suc InStep n m r = omega (arith, r)
room-suc Exact n m r = omega (arith, r)

pub room_less : (pace : Pace) (n m : ℕ) → Room pace (suc n) (suc m) → Room pace n m
room_less NoLater n m r = omega (arith, r)
room_less InStep n m r = omega (arith, r)
room_less Exact n m r = omega (arith, r)

pub no_room : (pace : Pace) (n : ℕ) → Room pace (suc n) zero → ⊥
no_room NoLater n r = omega (arith, r)
no_room InStep n r = omega (arith, r)
no_room Exact n r = omega (arith, r)

-- WHAT THE EXACT PACE PROMISES
pub if_exact : (pace : Pace) (P : Type 0) → P → IfExact pace P
if_exact NoLater P p = tt
if_exact InStep P p = tt
if_exact Exact P p = p

pub then_exact : (pace : Pace) (P Q : Type 0) → (P → Q) → IfExact pace P → IfExact pace Q
then_exact NoLater P Q f p = tt
then_exact InStep P Q f p = tt
then_exact Exact P Q f p = f p

pub both_exact : (pace : Pace) (P Q W : Type 0) → (P → Q → W) → IfExact pace P → IfExact pace Q → IfExact pace W
both_exact NoLater P Q W f p q = tt
both_exact InStep P Q W f p q = tt
both_exact Exact P Q W f p q = f p q

-- there both budgets are at an end together
pub if_greater : (pace : Pace) (P : Type 0) (m : ℕ) → Room pace zero (suc m) → IfExact pace P
if_greater NoLater P m r = tt
if_greater InStep P m r = tt
if_greater Exact P m r = absurd (omega (arith, r))

pub fault_later : {T G : Type 0} (pace : Pace) (t u v : ℕ) (g : G) (x : Answer T G) → Keeps pace u t → IfExact pace (x ≡ Fault g v) → IfExact pace (after_turns u x ≡ Fault g (t + v))
fault_later NoLater t u v g x k e = tt
fault_later InStep t u v g x k e = tt
fault_later Exact t u v g x k e = ap (after_turns u) e ∙ ap (λ w. Fault g (w + v)) k
