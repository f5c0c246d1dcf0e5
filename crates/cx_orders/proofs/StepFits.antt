-- What a turn leaves open fits in the same statement.
use Rattle.std.proofs.Common.{◌≡◌, ℕ, zero, suc, ◌-◌, inl, inr, Bool, true, false, List, [], ◌∷◌, Option, Some, None}
use Rattle.std.specs.Prelude.{nat_lt}
use Rattle.cx_text.specs.Members.{In}
use Rattle.cx_meaning.specs.declared.sights.Seen.{Seen}
use Rattle.cx_meaning.specs.Designs.{PlainStatement, PlainStatements, no_statements, a_statement}
use Rattle.cx_meaning.specs.Instances.{Instance, part_of, State, instance_at, under}
use Rattle.cx_meaning.specs.Sights.{Held}
use Rattle.cx_meaning.specs.Cycles.{Fault}
use Rattle.cx_meaning.specs.Answers.{Turn, Ends, Goes, Faults, Test, Holds, Fails, Unclear}
use Rattle.cx_meaning.specs.Control.{groups_of, groups_in_all, drives}
use Rattle.cx_meaning.specs.Calls.{test, captures}
use Rattle.cx_rules.specs.Items.{Dynamic, visit, visit_all}
use Rattle.cx_frames.specs.Arms.{all_drive}
use Rattle.cx_orders.specs.Open.{Open, Idling, InGroup, Choosing, Testing, InIsland, Capturing, Closing, Waiting, InSeq, InPar, InLoop, InRepeat, InCall, Opens, no_arms, an_arm, leaves_of, open_statement}
use Rattle.cx_orders.specs.Steps.{Stepped, Now, Stops, within, turned, tested, seq_left, loop_left, repeat_left, arms_left, par_left, behind_child, call_left, lift_step, inputs_seen, inputs_for, held_as, first_or, step, step_arms}
use Rattle.cx_orders.proofs.Inside.{Stands, InsideAll, inside_left, inside_right, AnyReads}
use Rattle.cx_orders.proofs.Fits.{Fits, ArmsFit, AllSound, sound_below, statement_fits}
use Rattle.std.proofs.lemmas.Bool.{or_right}
use Rattle.cx_text.proofs.BoolLaws.{or_second}
use Rattle.cx_laws.proofs.VisitLemmas.{itself}

abbrev pub LeftFits : Instance → PlainStatement → Option Open → Type 0
LeftFits i st None = Unit {0}
LeftFits i st (Some o) = Fits i st o

abbrev pub StepFits : Instance → PlainStatement → Stepped (Option Open) → Type 0
StepFits i st (Now left after) = LeftFits i st left
StepFits i st (Stops fault) = Unit {0}

-- arms that are left, which read and drive no more
abbrev ArmsLeftFit : Instance → PlainStatement → List PlainStatement → Opens → Type 0
ArmsLeftFit i st list arms =
    (left : List PlainStatement) × ArmsFit i st left arms × ((c : ℕ) → AnyReads (part_of i) left c → AnyReads (part_of i) list c) × ((c : ℕ) → all_drive (part_of i) left c ≡ true → all_drive (part_of i) list c ≡ true)

abbrev ArmsStepFit : Instance → PlainStatement → List PlainStatement → Stepped Opens → Type 0
ArmsStepFit i st list (Now arms after) = ArmsLeftFit i st list arms
ArmsStepFit i st list (Stops fault) = Unit {0}

within_fits : (i : Instance) (st : PlainStatement) (f : Option Open → Option Open) → ((left : Option Open) → LeftFits i st left → LeftFits i st (f left)) → (x : Stepped (Option Open)) → StepFits i st x → StepFits i st (within f x)
within_fits i st f h (Now left after) k = h left k
within_fits i st f h (Stops fault) k = tt

turned_fits : (i : Instance) (st : PlainStatement) (turn : Turn State Fault) (s : State) (later : Open) → Fits i st later → StepFits i st (turned turn s later)
turned_fits i st Ends s later h = tt
turned_fits i st (Goes after) s later h = h
turned_fits i st (Faults fault) s later h = tt

tested_fits : (i : Instance) (st : PlainStatement) (t : Test Fault) (s : State) (a b : Option Open) → LeftFits i st a → LeftFits i st b → StepFits i st (tested t s a b)
tested_fits i st Holds s a b h k = h
tested_fits i st Fails s a b h k = k
tested_fits i st (Unclear fault) s a b h k = tt

behind_fits : (i : Instance) (st : PlainStatement) (b : Bool) (g c : ℕ) → In (groups_of st) g → Fits i st (behind_child b g c)
behind_fits i st true g c j = j
behind_fits i st false g c j = j

lift_fits : (i : Instance) (st : PlainStatement) (g c : ℕ) (inputs : List Seen) (s : State) → In (groups_of st) g → drives (part_of i) st c ≡ true → (x : Stepped (Option Open))
    → StepFits (instance_at i (c ∷ [])) (part_of (instance_at i (c ∷ []))).control x → StepFits i st (lift_step c s (call_left i g c inputs) x)
lift_fits i st g c inputs s j on (Now None own) h = behind_fits i st (captures i g) g c j
lift_fits i st g c inputs s j on (Now (Some child) own) h = (j, on, h)
lift_fits i st g c inputs s j on (Stops fault) h = tt

par_fits : (i : Instance) (st : PlainStatement) (list : List PlainStatement) (x : Stepped Opens) → ArmsStepFit i st list x → StepFits i st (within par_left x)
par_fits i st list (Now no_arms after) h = tt
par_fits i st list (Now (an_arm v arm arms) after) ([], fits, h, k) = absurd fits
par_fits i st list (Now (an_arm v arm arms) after) (x ∷ xs, fits, h, k) = (x, xs, fits)
par_fits i st list (Stops fault) h = tt

module _ (i : Instance) (st x : PlainStatement) (xs : List PlainStatement) (v : PlainStatement) (arm : Open) (arms : Opens) (fits : ArmsFit i st (x ∷ xs) (an_arm v arm arms)) where
  first_fits : (y : Stepped (Option Open)) → StepFits i x y → ArmsStepFit i st (x ∷ xs) (within (arms_left v arms) y)
  first_fits (Now None after) h = (xs, fits.3, λ c r. inr r, λ c e. or_right (drives (part_of i) x c) (all_drive (part_of i) xs c) e)
  first_fits (Now (Some one) after) h = (x ∷ xs, (fits.0, h, fits.2, fits.3), λ c r. r, λ c e. e)
  first_fits (Stops fault) h = tt

  later_fits : (y : Stepped Opens) → ArmsStepFit i st xs y → ArmsStepFit i st (x ∷ xs) (within (an_arm v arm) y)
  later_fits (Now more after) (left, h, reads, drive) = (
    x ∷ left,
    (fits.0, fits.1, record { one = λ c e r. fits.2.one c e (reads c r); other = λ c e r. fits.2.other c (drive c e) r }, h),
    later_reads,
    λ c e. or_second (drives (part_of i) x c) (all_drive (part_of i) left c) (all_drive (part_of i) xs c) (drive c) e,
  )
    where
      later_reads : (c : ℕ) → AnyReads (part_of i) (x ∷ left) c → AnyReads (part_of i) (x ∷ xs) c
      later_reads c (inl r) = inl r
      later_reads c (inr r) = inr (reads c r)
  later_fits (Stops fault) h = tt

  choose_fits : (b : Bool) (y z : Stepped Opens) → ArmsStepFit i st (x ∷ xs) y → ArmsStepFit i st (x ∷ xs) z → ArmsStepFit i st (x ∷ xs) (first_or b y z)
  choose_fits true y z h k = h
  choose_fits false y z h k = k

mutual
  pub step_fits : (i : Instance) → AllSound i → (held : Held) (st : PlainStatement) → Stands i st → (o : Open) → Fits i st o → (k : ℕ) (s : State) → StepFits i st (step i held o k s)
  step_fits i all held st stands Idling fits k s = tt
  step_fits i all held st stands (InGroup g) j k s = turned_fits i st _ _ (InGroup g) j
  step_fits i all held st stands (Choosing port comb a b) (fits, one, other) k s =
      tested_fits i st (test i held port comb s) _ _ _ (statement_fits i all st stands a one) (statement_fits i all st stands b other)
  step_fits i all held st stands (Testing port comb body) (fits, one) k s =
      tested_fits i st (test i held port comb s) _ (Some (InLoop (open_statement i body) port comb body)) None (statement_fits i all st stands body one, fits, one) tt
  step_fits i all held st stands (InIsland form t zero h) fits k s = tt
  step_fits i all held st stands (InIsland form t (suc left) h) fits k s = turned_fits i st _ _ (InIsland form (suc t) left _) fits
  step_fits i all held st stands (Capturing g c) j k s = turned_fits i st _ _ (Closing g) j
  step_fits i all held st stands (Closing g) j k s = tt
  step_fits i all held st stands Waiting fits k s = tt
  step_fits i all held st stands (InSeq first later) (fits, rest) k s = within_fits i st (seq_left i later) (keep later rest) (step i held first k s) (step_fits i all held st stands first fits k s)
    where
      keep : (parts : PlainStatements) → InsideAll st parts → (left : Option Open) → LeftFits i st left → LeftFits i st (seq_left i parts left)
      keep parts inside (Some o) h = (h, inside)
      keep no_statements inside None h = tt
      keep (a_statement next more) inside None h = (
        statement_fits i all st stands next (inside_left st (groups_of next) (groups_in_all more) (visit Dynamic next) (visit_all Dynamic more) inside),
        inside_right st (groups_of next) (groups_in_all more) (visit Dynamic next) (visit_all Dynamic more) inside,
      )
  step_fits i all held st stands (InPar arms) (x, xs, fits) k s = par_fits i st (x ∷ xs) (step_arms i held arms k s) (arms_step_fit i all held st stands (x ∷ xs) arms fits k s)
  step_fits i all held st stands (InLoop run port comb body) (fits, tested_so, inside) k s = within_fits i st (loop_left port comb body) keep (step i held run k s) (step_fits i all held st stands run fits k s)
    where
      keep : (left : Option Open) → LeftFits i st left → LeftFits i st (loop_left port comb body left)
      keep (Some o) h = (h, tested_so, inside)
      keep None h = (tested_so, inside)
  step_fits i all held st stands (InRepeat run left body) (fits, inside) k s = within_fits i st (repeat_left i left body) (keep left) (step i held run k s) (step_fits i all held st stands run fits k s)
    where
      keep : (n : ℕ) (more : Option Open) → LeftFits i st more → LeftFits i st (repeat_left i n body more)
      keep n (Some o) h = (h, inside)
      keep zero None h = tt
      keep (suc n) None h = (statement_fits i all st stands body inside, inside)
  step_fits i all held st stands (InCall g c inputs child) (j, on, fits) k s =
      lift_fits i st g c (inputs_for inputs (inputs_seen i held g c s)) s j on _
      (step_fits (instance_at i (c ∷ [])) (sound_below i all c) (held_as (inputs_for inputs (inputs_seen i held g c s))) (part_of (instance_at i (c ∷ []))).control (itself (part_of (instance_at i (c ∷ []))).control) child fits k (under c s))

  arms_step_fit : (i : Instance) → AllSound i → (held : Held) (st : PlainStatement) → Stands i st → (list : List PlainStatement) (arms : Opens) → ArmsFit i st list arms → (k : ℕ) (s : State) → ArmsStepFit i st list (step_arms i held arms k s)
  arms_step_fit i all held st stands [] no_arms fits k s = ([], tt, λ c r. r, λ c e. e)
  arms_step_fit i all held st stands [] (an_arm v arm arms) fits k s = absurd fits
  arms_step_fit i all held st stands (x ∷ xs) no_arms fits k s = absurd fits
  arms_step_fit i all held st stands (x ∷ xs) (an_arm v arm arms) (is, one, apart, rest) k s =
      choose_fits i st x xs v arm arms (is, one, apart, rest) (nat_lt k (leaves_of arm)) _ _
      (first_fits i st x xs v arm arms (is, one, apart, rest) (step i held arm k s) (step_fits i all held x is.stands arm one k s))
      (later_fits i st x xs v arm arms (is, one, apart, rest) (step_arms i held arms (k - leaves_of arm) s) (arms_step_fit i all held st stands xs arms rest (k - leaves_of arm) s))
