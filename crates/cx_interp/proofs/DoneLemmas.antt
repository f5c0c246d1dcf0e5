-- What runs on the rows of a state have done, and how it is put together.
use Rattle.std.proofs.Common.{◌≡◌, ℕ, zero, suc, ◌-◌, ◌≤◌, ◌<◌, true, false, List, Option, Ok, Err, refl, sym, ap, ◌∙◌, subst, arith}
use Rattle.std.proofs.Math.Path.{fun_ext}
use Rattle.cx_meaning.specs.declared.ports.PortRef.{PortRef}
use Rattle.cx_meaning.specs.Designs.{PlainDesign}
use Rattle.cx_meaning.specs.Instances.{Instance, Path, State, instance_at, tree_of, IsSettled}
use Rattle.cx_meaning.specs.Sights.{Held}
use Rattle.cx_meaning.specs.Answers as answers
use Rattle.cx_meaning.specs.Calls.{test}
use Rattle.cx_design.specs.declared.actives.PortFault.{PortFault}
use Rattle.cx_state.specs.Tables.{IsNumber}
use Rattle.cx_state.specs.States.{PlainInstance, inputs_held, IsStateOf, StandsFor, under_path, put_path}
use Rattle.cx_frames.specs.Ran.{Outcome, Ended, Faulted, Unfinished, Ran}
use Rattle.cx_turns.specs.Groups.{Driving}
use Rattle.cx_turns.specs.Tests.{Tested}
use Rattle.cx_turns.proofs.PathLemmas.{under_put, put_put, put_same, settled_under, settled_put}
use Rattle.cx_interp.specs.declared.answers.Answer.TheVariants.{End, Fault, More}
use Rattle.cx_interp.specs.declared.answers.Answer as told
use Rattle.cx_interp.specs.Doings.{Doing, then_does, stay_does, idle_does, test_does}
use Rattle.cx_interp.specs.Done.{Tells, IsWithin, later, KeepsHeld, Leaves, Done}
use Rattle.cx_interp.proofs.RanLemmas.{shifted, IsStop, ran_same, ran_wider, ran_stay, ran_idle, ran_more, ran_then, ran_stopped, ran_holds, ran_fails, ran_unclear}
use Rattle.cx_text.proofs.ListLaws.{nothing_more}

-- an answer that is no end
abbrev pub Stops : told.Answer → Type 0
Stops (End turns) = ⊥
Stops (Fault fault turn) = Unit {0}
Stops More = Unit {0}

pub within_later : (k n : ℕ) (a : told.Answer) → k ≤ n → IsWithin (n - k) a → IsWithin n (later k a)
within_later k n (End turns) le h = omega (arith, le, h)
within_later k n (Fault fault turn) le h = omega (arith, le, h)
within_later k n More le h = tt

module _ (d : PlainDesign) (n : ℕ) where
  tells_later : (path : Path) (k : ℕ) (a : told.Answer) (o : Outcome) → Tells d path a o → Tells d path (later k a) (shifted k o)
  tells_later path k (End turns) o e = ap (shifted k) e
  tells_later path k (Fault fault turn) o (f, tells, e) = (f, tells, ap (shifted k) e)
  tells_later path k More o e = ap (shifted k) e

  stops_tell : (path : Path) (a : told.Answer) (o : Outcome) → Stops a → Tells d path a o → IsStop o
  stops_tell path (End turns) o stop e = absurd stop
  stops_tell path (Fault fault turn) o stop (f, tells, e) = subst IsStop (sym e) tt
  stops_tell path More o stop e = subst IsStop (sym e) tt

  pub held_same : (old new : List PlainInstance) → KeepsHeld n old new → inputs_held new n ≡ inputs_held old n
  held_same old new keeps = fun_ext (λ input. keeps n input (omega arith))

  pub held_then : (old middle new : List PlainInstance) → KeepsHeld n old middle → KeepsHeld n middle new → KeepsHeld n old new
  held_then old middle new h k m input le = k m input le ∙ h m input le

  -- the state after a run is settled
  pub settled_after : (old new : List PlainInstance) (driving : Driving) (doing : Doing) (budget : ℕ) (a : told.Answer) (path : Path) (s : State) → IsSettled (tree_of d) s → (l : Leaves d old new n driving doing budget a path s) → IsSettled (tree_of d) (put_path path l.after s)
  settled_after old new driving doing budget a path s settled l = settled_put (tree_of d) path l.after s settled l.ran.settled (l.ran.top ∙ ap s (nothing_more path))

  module _ (driving : Driving) where
    leaves_then : (old middle new : List PlainInstance) (first second : Doing) (budget turns : ℕ) (a : told.Answer) (path : Path) (s : State)
        → (l : Leaves d old middle n driving first budget (End turns) path s) → Leaves d middle new n driving second (budget - turns) a path (put_path path l.after s)
        → Leaves d old new n driving (then_does first second) budget (later turns a) path s
    leaves_then old middle new first second budget turns a path s l r =
        let i : Instance = instance_at (tree_of d) path in
        let held : Held = inputs_held old n in
        let one : Ran i (driving i) (first i held) (under_path path s) budget l.after (Ended turns) = subst (λ o. Ran i (driving i) (first i held) (under_path path s) budget l.after o) l.told l.ran in
        let two : Ran i (driving i) (second i held) l.after (budget - turns) r.after r.outcome =
        subst (λ h. Ran i (driving i) (second i h) l.after (budget - turns) r.after r.outcome) (held_same old middle l.held)
        (subst (λ x. Ran i (driving i) (second i (inputs_held middle n)) x (budget - turns) r.after r.outcome) (under_put path l.after s) r.ran) in
        record {
          after = r.after;
          outcome = shifted turns r.outcome;
          stands = subst (λ x. StandsFor (tree_of d) new x) (put_put path r.after l.after s) r.stands;
          told = tells_later path turns a r.outcome r.told;
          held = held_then old middle new l.held r.held;
          ran = ran_then i (driving i) (first i held) (second i held) (under_path path s) budget turns l.after r.after r.outcome one two;
        }

    -- a run that ends, and then another with what is left
    pub done_then : (old middle new : List PlainInstance) (first second : Doing) (budget turns : ℕ) (a : told.Answer) → Done d old middle n driving first budget (End turns) → Done d middle new n driving second (budget - turns) a
        → Done d old new n driving (then_does first second) budget (later turns a)
    done_then old middle new first second budget turns a one two = record {
      leaves = λ path s number stands settled.
          let l = one.leaves path s number stands settled in
          leaves_then old middle new first second budget turns a path s l
          (two.leaves path (put_path path l.after s) number l.stands (settled_after old middle driving first budget (End turns) path s settled l));
      within = within_later turns budget a one.within two.within;
      fits = two.fits;
    }

    -- a run that does not end goes no further
    pub done_stopped : (old new : List PlainInstance) (first second : Doing) (budget : ℕ) (a : told.Answer) → Stops a → Done d old new n driving first budget a → Done d old new n driving (then_does first second) budget a
    done_stopped old new first second budget a stop one = record {
      leaves = λ path s number stands settled.
          let l = one.leaves path s number stands settled in
          record {
            after = l.after;
            outcome = l.outcome;
            stands = l.stands;
            told = l.told;
            held = l.held;
            ran = ran_stopped (instance_at (tree_of d) path) (driving (instance_at (tree_of d) path)) (first (instance_at (tree_of d) path) (inputs_held old n)) (second (instance_at (tree_of d) path) (inputs_held old n))
                (under_path path s) budget l.after l.outcome (stops_tell path a l.outcome stop l.told) l.ran;
          };
      within = one.within;
      fits = one.fits;
    }

    -- what a run means may be told otherwise
    pub done_same : (old new : List PlainInstance) (doing other : Doing) (budget : ℕ) (a : told.Answer) → ((i : Instance) (held : Held) (s : State) → doing i held s budget ≡ other i held s budget)
        → Done d old new n driving doing budget a → Done d old new n driving other budget a
    done_same old new doing other budget a same one = record {
      leaves = λ path s number stands settled.
          let l = one.leaves path s number stands settled in
          record {
            after = l.after;
            outcome = l.outcome;
            stands = l.stands;
            told = l.told;
            held = l.held;
            ran = ran_same (instance_at (tree_of d) path) (driving (instance_at (tree_of d) path)) (doing (instance_at (tree_of d) path) (inputs_held old n)) (other (instance_at (tree_of d) path) (inputs_held old n))
                (under_path path s) budget l.after l.outcome (same (instance_at (tree_of d) path) (inputs_held old n) (under_path path s)) l.ran;
          };
      within = one.within;
      fits = one.fits;
    }

    pub done_wider : (old new : List PlainInstance) (wider : Driving) (doing : Doing) (budget : ℕ) (a : told.Answer) → ((i : Instance) (c : ℕ) → wider i c ≡ false → driving i c ≡ false)
        → Done d old new n driving doing budget a → Done d old new n wider doing budget a
    done_wider old new wider doing budget a within one = record {
      leaves = λ path s number stands settled.
          let l = one.leaves path s number stands settled in
          record {
            after = l.after;
            outcome = l.outcome;
            stands = l.stands;
            told = l.told;
            held = l.held;
            ran = ran_wider (instance_at (tree_of d) path) (driving (instance_at (tree_of d) path)) (wider (instance_at (tree_of d) path)) (doing (instance_at (tree_of d) path) (inputs_held old n))
                (under_path path s) budget l.after l.outcome (within (instance_at (tree_of d) path)) l.ran;
          };
      within = one.within;
      fits = one.fits;
    }

    -- nothing changes
    pub done_here : (rows : List PlainInstance) (doing : Doing) (budget : ℕ) (a : told.Answer) → IsStateOf d rows → IsWithin budget a
        → ((path : Path) (s : State) → IsNumber d n path → StandsFor (tree_of d) rows s → IsSettled (instance_at (tree_of d) path) (under_path path s)
        → (o : Outcome) × Tells d path a o × Ran (instance_at (tree_of d) path) (driving (instance_at (tree_of d) path)) (doing (instance_at (tree_of d) path) (inputs_held rows n)) (under_path path s) budget (under_path path s) o)
        → Done d rows rows n driving doing budget a
    done_here rows doing budget a fits within h = record {
      leaves = λ path s number stands settled.
          let r = h path s number stands (settled_under (tree_of d) path s settled) in
          record { after = under_path path s; outcome = r.0; stands = subst (λ x. StandsFor (tree_of d) rows x) (sym (put_same path s)) stands; told = r.1; held = λ m input le. refl; ran = r.2 };
      within = within;
      fits = fits;
    }

    pub done_stay : (rows : List PlainInstance) (budget : ℕ) → IsStateOf d rows → Done d rows rows n driving stay_does budget (End 0)
    done_stay rows budget fits = done_here rows stay_does budget (End 0) fits (omega arith) (λ path s number stands settled. (Ended 0, refl, ran_stay (instance_at (tree_of d) path) (driving (instance_at (tree_of d) path)) (under_path path s) budget settled))

    pub done_idle : (rows : List PlainInstance) (budget : ℕ) → 0 < budget → IsStateOf d rows → Done d rows rows n driving idle_does budget (End 1)
    done_idle rows zero some fits = absurd (omega arith)
    done_idle rows (suc budget) some fits = done_here rows idle_does (suc budget) (End 1) fits (omega arith) (λ path s number stands settled. (Ended 1, refl, ran_idle (instance_at (tree_of d) path) (driving (instance_at (tree_of d) path)) (under_path path s) budget settled))

    pub done_more : (rows : List PlainInstance) (doing : Doing) (budget : ℕ) → ((i : Instance) (held : Held) (s : State) → doing i held s budget ≡ answers.More) → IsStateOf d rows → Done d rows rows n driving doing budget More
    done_more rows doing budget none fits = done_here rows doing budget More fits tt (λ path s number stands settled. (
      Unfinished,
      refl,
      ran_more (instance_at (tree_of d) path) (driving (instance_at (tree_of d) path)) (doing (instance_at (tree_of d) path) (inputs_held rows n)) (under_path path s) budget settled
          (none (instance_at (tree_of d) path) (inputs_held rows n) (under_path path s)),
    ))

    pub done_no_turn : (rows : List PlainInstance) (doing : Doing) → ((i : Instance) (held : Held) (s : State) → doing i held s zero ≡ answers.More) → IsStateOf d rows → Done d rows rows n driving doing zero More
    done_no_turn rows doing none fits = done_more rows doing zero none fits

    -- a test, and then one of two
    module _ (port : PortRef) (comb : Option ℕ) (first second : Doing) (old new : List PlainInstance) where
      one_within : (budget : ℕ) (a : told.Answer) → IsWithin budget a → IsWithin (suc budget) (later 1 a)
      one_within budget (End turns) h = omega (arith, h)
      one_within budget (Fault fault turn) h = omega (arith, h)
      one_within budget More h = tt

      pub done_holds : (budget : ℕ) (a : told.Answer) → Tested d old n port comb (Ok true) → Done d old new n driving first budget a → Done d old new n driving (test_does port comb first second) (suc budget) (later 1 a)
      done_holds budget a tested one = record {
        leaves = λ path s number stands settled.
            let l = one.leaves path s number stands settled in
            let i : Instance = instance_at (tree_of d) path in
            record {
              after = l.after;
              outcome = shifted 1 l.outcome;
              stands = l.stands;
              told = tells_later path 1 a l.outcome l.told;
              held = l.held;
              ran = ran_holds i (driving i) (test i (inputs_held old n) port comb) (first i (inputs_held old n)) (second i (inputs_held old n)) (under_path path s) budget
                  (settled_under (tree_of d) path s settled) l.after l.outcome (tested path s number stands) l.ran;
            };
        within = one_within budget a one.within;
        fits = one.fits;
      }

      pub done_fails : (budget : ℕ) (a : told.Answer) → Tested d old n port comb (Ok false) → Done d old new n driving second budget a → Done d old new n driving (test_does port comb first second) (suc budget) (later 1 a)
      done_fails budget a tested one = record {
        leaves = λ path s number stands settled.
            let l = one.leaves path s number stands settled in
            let i : Instance = instance_at (tree_of d) path in
            record {
              after = l.after;
              outcome = shifted 1 l.outcome;
              stands = l.stands;
              told = tells_later path 1 a l.outcome l.told;
              held = l.held;
              ran = ran_fails i (driving i) (test i (inputs_held old n) port comb) (first i (inputs_held old n)) (second i (inputs_held old n)) (under_path path s) budget
                  (settled_under (tree_of d) path s settled) l.after l.outcome (tested path s number stands) l.ran;
            };
        within = one_within budget a one.within;
        fits = one.fits;
      }

    pub done_unclear : (port : PortRef) (comb : Option ℕ) (first second : Doing) (rows : List PlainInstance) (budget : ℕ) (fault : PortFault) → IsStateOf d rows → Tested d rows n port comb (Err fault)
        → Done d rows rows n driving (test_does port comb first second) (suc budget) (Fault fault 0)
    done_unclear port comb first second rows budget fault fits tested = done_here rows (test_does port comb first second) (suc budget) (Fault fault 0) fits (omega arith)
        (λ path s number stands settled.
        let i : Instance = instance_at (tree_of d) path in
        let t = tested path s number stands in
        (Faulted t.0 0, (t.0, t.1, refl), ran_unclear i (driving i) (test i (inputs_held rows n) port comb) (first i (inputs_held rows n)) (second i (inputs_held rows n)) (under_path path s) budget settled t.0 t.2))
