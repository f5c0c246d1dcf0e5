-- One cycle of one arm of a par: its register holds the number of its place, or of its end.
use Rattle.std.proofs.Common.{◌≡◌, ℕ, zero, suc, ◌+◌, ◌<◌, ◌==◌, Bool, true, false, ◌&&◌, ◌||◌, if◌then◌else◌, List, [], ◌∷◌, ◌++◌, Option, Some, refl, sym, ap, ◌∙◌, arith}
use Rattle.std.proofs.lemmas.Bool.{eq-eqb, ne_eqb}
use Rattle.std.specs.Option.{option_map_or}
use Rattle.cx_bits.specs.BitVector.{BitVector}
use Rattle.cx_meaning.specs.Designs.{PlainStatement}
use Rattle.cx_lockstep.specs.Worlds.{Control, At, Done, Machine, Store, step, is_done}
use Rattle.cx_lockstep.specs.Machines.{InPar, join, par_machine}
use Rattle.cx_lockstep.specs.Running.{at_control, par_runs}
use Rattle.cx_control.specs.Codings.{Coding, Bank, bank_code, left_control, right_control, at_fine, AreFine}
use Rattle.cx_net.specs.Nets.{OfRegister, ToRegister, ToHole, PlainNetDriver}
use Rattle.cx_net.specs.NetMeaning.{Node, NetAround, truth_bit}
use Rattle.cx_wiring.specs.Counts.{positions_of}
use Rattle.cx_wiring.specs.Parts.{equals}
use Rattle.cx_wiring.specs.Stands.{Stand, end_of}
use Rattle.cx_wiring.specs.Control.{arm_over, arm_restarts, arm_finishes}
use Rattle.cx_wiring.specs.Takings.{Says, takes, AllIdle}
use Rattle.cx_wiring.proofs.TakingLemmas.{takes_append, says_either, says_equals, idle_passes}
use Rattle.cx_wiring_cycles.specs.Shown.{wide, Going, told, in_par, counted}
use Rattle.cx_wiring_cycles.specs.Turning.{Turns}
use Rattle.cx_wiring_cycles.proofs.FormTurns.{region_known}
use Rattle.cx_text.proofs.NumberLaws.{never}

pub wide_value : (a b : ℕ) → ◌≡◌ {A = Option BitVector} (Some (wide a)) (Some (wide b)) → a ≡ b
wide_value a b e = ap (λ o. option_map_or (λ x. x.value) o 0) e

-- BOTH SIDES of a par
pub step_join : {X : Type 0} {V : X → Type 0} (A B : Machine X V) (k : Control (InPar A.Place B.Place)) (s : Store X V) → join (step A (left_control k) s) (step B (right_control k) s) ≡ step (par_machine A B) k s
step_join A B (At p) s = refl
step_join A B Done s = refl

pub join_left : {P Q : Type 0} (a : Control P) (b : Control Q) → left_control (join a b) ≡ a
join_left (At p) (At q) = refl
join_left (At p) Done = refl
join_left Done (At q) = refl
join_left Done Done = refl

pub join_right : {P Q : Type 0} (a : Control P) (b : Control Q) → right_control (join a b) ≡ b
join_right (At p) (At q) = refl
join_right (At p) Done = refl
join_right Done (At q) = refl
join_right Done Done = refl

pub join_done : {P Q : Type 0} (a : Control P) (b : Control Q) → is_done (join a b) ≡ (is_done a && is_done b)
join_done (At p) (At q) = refl
join_done (At p) Done = refl
join_done Done (At q) = refl
join_done Done Done = refl

pub left_fine : {P Q : Type 0} (a : Bank P) (b : Bank Q) (k : Control (InPar P Q)) → at_fine (AreFine a b) k → at_fine a.IsFine (left_control k)
left_fine a b (At p) fine = fine.left
left_fine a b Done fine = tt

pub right_fine : {P Q : Type 0} (a : Bank P) (b : Bank Q) (k : Control (InPar P Q)) → at_fine (AreFine a b) k → at_fine b.IsFine (right_control k)
right_fine a b (At p) fine = fine.right
right_fine a b Done fine = tt

pub left_says : {P Q : Type 0} (f : P → Type 0) (h : Q → Type 0) (k : Control (InPar P Q)) → at_fine (in_par f h) k → at_fine f (left_control k)
left_says f h (At p) says = says.0
left_says f h Done says = tt

pub right_says : {P Q : Type 0} (f : P → Type 0) (h : Q → Type 0) (k : Control (InPar P Q)) → at_fine (in_par f h) k → at_fine h (right_control k)
right_says f h (At p) says = says.1
right_says f h Done says = tt

pub runs_both : {P Q R : Type 0} (f : P → List R) (h : Q → List R) (k : Control (InPar P Q)) → at_control f (left_control k) ++ at_control h (right_control k) ≡ at_control (par_runs f h) k
runs_both f h (At p) = refl
runs_both f h Done = refl

module _ (groups : ℕ) (around : NetAround) (registers : ℕ → Option BitVector) (look : Node → Option BitVector) where
  -- AN ARM in one cycle, which comes to k; e says that the par ends
  pub record ArmTurns {P : Type 0} (coding : Coding P) (par : Stand) (wire register : ℕ) (s : PlainStatement) (ds : List PlainNetDriver) (next : ℕ → ℕ) (goes : List Going) (k : Control P) : Type 0 where
    pub over : Says around registers look (arm_over wire register s) (is_done k)
    pub goes_so : (g : ℕ) (o : Option BitVector) → takes around registers look (ToHole (groups + g)) o ds ≡ told g o goes
    pub nexts : (e : Bool) → Says around registers look (end_of par.wire) e → (e ≡ true → is_done k ≡ true) → (n : ℕ) → n < suc coding.extra → next n ≡ (if e then 0 else bank_code coding k n)

  module _ {P : Type 0} (coding : Coding P) (par : Stand) (wire register : ℕ) (s : PlainStatement) (ds : List PlainNetDriver) (kept next : ℕ) (later : ℕ → ℕ) (goes : List Going)
      (size : coding.size ≡ positions_of s) (is : registers register ≡ Some (wide kept))
      (taken : takes around registers look (ToRegister register) (Some (wide kept)) (arm_restarts par register ∷ (ds ++ arm_finishes wire register s ∷ [])) ≡ Some (wide next)) where
    next_is : (e f : Bool) → Says around registers look (end_of par.wire) e → Says around registers look (end_of wire) f
        → Some (wide next) ≡ (if e then Some (wide 0) else takes around registers look (ToRegister register) (if f then Some (wide (positions_of s)) else Some (wide kept)) ds)
    next_is e f h k =
        sym taken ∙ region_known around registers look register 0 (end_of par.wire) e _ h
        ∙ ap (λ l. if e then Some (wide 0) else l)
        (takes_append around registers look (ToRegister register) (Some (wide kept)) ds (arm_finishes wire register s ∷ [])
        ∙ ap (λ l. takes around registers look (ToRegister register) l ds) (region_known around registers look register (positions_of s) (end_of wire) f (Some (wide kept)) k))

    over_is : (f : Bool) → Says around registers look (end_of wire) f → Says around registers look (arm_over wire register s) ((kept == positions_of s) || f)
    over_is f h = says_either around registers look (equals (OfRegister register) (positions_of s)) (end_of wire) (kept == positions_of s) f (says_equals around registers look (OfRegister register) (wide kept) (positions_of s) is) h

    -- an arm that runs
    pub arm_runs : (p : P) → kept ≡ coding.number p → coding.number p < coding.size → (k : Control P) → Turns groups around registers look coding wire register 0 kept ds later goes k
        → ArmTurns coding par wire register s ds (counted next later) goes k
    arm_runs p so less k t = record { over = over_is (is_done k) t.ends ∙ ap (λ b. Some (truth_bit (b || is_done k))) apart; goes_so = t.goes_so; nexts = numbers k t }
      where
        apart : (kept == positions_of s) ≡ false
        apart = ne_eqb kept (positions_of s) (λ e. let z : coding.size ≡ positions_of s = size in let n : kept ≡ coding.number p = so in omega arith)

        numbers : (k : Control P) → Turns groups around registers look coding wire register 0 kept ds later goes k → (e : Bool) → Says around registers look (end_of par.wire) e → (e ≡ true → is_done k ≡ true)
            → (n : ℕ) → n < suc coding.extra → counted next later n ≡ (if e then 0 else bank_code coding k n)
        numbers (At q) t true h over n fewer = never (over refl)
        numbers (At q) t false h over zero fewer = wide_value next (coding.number q) (next_is false false h t.ends ∙ t.moves ∙ (let none : 0 + coding.number q ≡ coding.number q = omega arith in ap (λ n. Some (wide n)) none))
        numbers (At q) t false h over (suc n) fewer = t.others n (omega arith)
        numbers Done t true h over zero fewer = wide_value next 0 (next_is true true h t.ends)
        numbers Done t true h over (suc n) fewer = t.others n (omega arith)
        numbers Done t false h over zero fewer = wide_value next coding.size (next_is false true h t.ends ∙ t.moves (Some (wide (positions_of s))) ∙ ap (λ n. Some (wide n)) (sym size))
        numbers Done t false h over (suc n) fewer = t.others n (omega arith)

    -- an arm that has ended waits for the others
    pub arm_waits : kept ≡ coding.size → Says around registers look (end_of wire) false → AllIdle around registers look ds → ((n : ℕ) → n < coding.extra → later n ≡ 0)
        → ArmTurns coding par wire register s ds (counted next later) [] Done
    arm_waits so off idle rests = record {
      over = over_is false off ∙ ap (λ b. Some (truth_bit (b || false))) (eq-eqb kept (positions_of s) (so ∙ size));
      goes_so = λ g o. idle_passes around registers look (ToHole (groups + g)) tt o ds idle;
      nexts = numbers;
    }
      where
        numbers : (e : Bool) → Says around registers look (end_of par.wire) e → (e ≡ true → true ≡ true) → (n : ℕ) → n < suc coding.extra → counted next later n ≡ (if e then 0 else bank_code coding Done n)
        numbers true h over zero fewer = wide_value next 0 (next_is true false h off)
        numbers true h over (suc n) fewer = rests n (omega arith)
        numbers false h over zero fewer = wide_value next coding.size (next_is false false h off ∙ idle_passes around registers look (ToRegister register) tt (Some (wide kept)) ds idle ∙ ap (λ n. Some (wide n)) so)
        numbers false h over (suc n) fewer = rests n (omega arith)
