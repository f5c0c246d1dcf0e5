-- The turns of a group, one after the other, and the idle edges behind them.
use Rattle.std.proofs.Common.{◌≡◌, ℕ, suc, ◌+◌, ◌-◌, ◌≤◌, ◌<◌, Bool, true, false, List, [], ◌∷◌, refl, sym, ap, ◌∙◌, subst, arith, if◌then◌else◌}
use Rattle.std.proofs.Math.Path.{fun_ext}
use Rattle.cx_meaning.specs.Designs.{PlainDesign}
use Rattle.cx_meaning.specs.Instances.{Instance, Path, State, Set, idle, idle_at, instance_at, tree_of, IsSettled}
use Rattle.cx_meaning.specs.Cycles.{Fault}
use Rattle.cx_meaning.specs.Sights.{Held}
use Rattle.cx_meaning.specs.Answers.{Answer, End, More, after_turns, turn_then}
use Rattle.cx_meaning.specs.Answers as answers
use Rattle.cx_meaning.specs.Calls.{group_turn}
use Rattle.cx_meaning.specs.Active.{group}
use Rattle.cx_rewrites.specs.Tallies.{Tally, none, plus, turn_count}
use Rattle.cx_profiling.specs.Counting.{made_with, once}
use Rattle.cx_design.specs.declared.actives.PortFault.{PortFault}
use Rattle.cx_state.specs.Tables.{IsNumber}
use Rattle.cx_state.specs.States.{PlainInstance, inputs_held, IsStateOf, StandsFor, under_path, put_path}
use Rattle.cx_eval.specs.Evaluated.{HeldAlike}
use Rattle.cx_frames.specs.Ran.{Outcome, Ended, Faulted, Unfinished, AnswersAs}
use Rattle.cx_turns.specs.declared.turns.Turn.TheVariants as turns
use Rattle.cx_turns.specs.Groups.{Driving, group_driving}
use Rattle.cx_turns.specs.Turns.{IsBusy, rested, Taken, Rested}
use Rattle.cx_turns.proofs.PathLemmas.{under_put, put_put, put_same, settled_under}
use Rattle.cx_interp.specs.declared.answers.Answer as told
use Rattle.cx_interp.specs.declared.answers.Answer.TheVariants as result
use Rattle.cx_interp.specs.Doings.{Doing, turns_do}
use Rattle.cx_interp.specs.Done.{Done}
use Rattle.cx_interp.specs.Pauses.{AnswersIdle, Paused}
use Rattle.cx_interp.specs.Counts.{HasRows, KeepsShape, GrowsAt, at_path, Grows}
use Rattle.cx_interp.specs.Counted.{GrowsBy, turns_count_of}
use Rattle.cx_interp.proofs.GrowthLemmas.{grows_not, grows_both, grows_cycle, rows_kept}
use Rattle.cx_interp.proofs.IslandLoop.{twice_later, none_later}
use Rattle.cx_meaning.proofs.InstancesLemmas.{top_idle}

-- the state after so many turns that went on, and what comes of the rest; and whatever is counted of the rest is what is counted of
-- the whole
pub record Going (d : PlainDesign) (old rows : List PlainInstance) (initially so_far : List (List ℕ)) (n g budget taken : ℕ) (path : Path) (s : State) : Type 0 where
  pub now : State
  pub stands : StandsFor (tree_of d) rows (put_path path now s)
  pub busy : IsBusy (group_driving g (instance_at (tree_of d) path)) (under_path path s) now
  pub held : HeldAlike old rows
  pub same : turns_do g (instance_at (tree_of d) path) (inputs_held old n) (under_path path s) budget ≡ after_turns taken (turns_do g (instance_at (tree_of d) path) (inputs_held old n) now (budget - taken))
  pub counted : HasRows d initially → (new : List (List ℕ)) → Grows d so_far new (at_path path (turns_count_of g (instance_at (tree_of d) path) (inputs_held old n) now (budget - taken)))
      → Grows d initially new (at_path path (turns_count_of g (instance_at (tree_of d) path) (inputs_held old n) (under_path path s) budget))

abbrev pub AreGoing : PlainDesign → List PlainInstance → List PlainInstance → List (List ℕ) → List (List ℕ) → ℕ → ℕ → ℕ → ℕ → Type 0
AreGoing d old rows initially so_far n g budget taken = (path : Path) (s : State) → IsNumber d n path → StandsFor (tree_of d) old s → IsSettled (tree_of d) s → Going d old rows initially so_far n g budget taken path s

module _ (d : PlainDesign) (n g : ℕ) where
  pub going_start : (rows : List PlainInstance) (table : List (List ℕ)) (budget : ℕ) → AreGoing d rows rows table table n g budget 0
  going_start rows table budget path s number stands settled =
      let all : budget - 0 ≡ budget = omega arith in
      record {
        now = under_path path s;
        stands = subst (λ (x : State). StandsFor (tree_of d) rows x) (sym (put_same path s)) stands;
        busy = record { top = refl; others = λ c below e. refl; deeper = λ c e below. refl };
        held = λ m input. refl;
        same = sym (none_later _) ∙ ap (λ b. after_turns 0 (turns_do g (instance_at (tree_of d) path) (inputs_held rows n) (under_path path s) b)) (sym all);
        counted = λ has later one. subst (λ b. Grows d table later (at_path path (turns_count_of g (instance_at (tree_of d) path) (inputs_held rows n) (under_path path s) b))) all one;
      }

  module _ (old rows new : List PlainInstance) (initially so_far : List (List ℕ)) (budget taken : ℕ) (lt : taken < budget) where
    abbrev left : ℕ
    left = budget - (taken + 1)

    one_more : suc left ≡ budget - taken
    one_more = omega arith

    -- the turn as it is in the state now
    step : (i : Instance) (held : Held) (now : State) (t : answers.Turn State Fault) → group_turn i held g now ≡ t → turns_do g i held now (budget - taken) ≡ turn_then (idle i) now t (λ after. turns_do g i held after left)
    step i held now t e = ap (turns_do g i held now) (sym one_more) ∙ ap (λ x. turn_then (idle i) now x (λ after. turns_do g i held after left)) e

    -- what is counted in it, and behind it
    counts_step : (i : Instance) (held : Held) (now : State) (t : answers.Turn State Fault) → group_turn i held g now ≡ t
        → turns_count_of g i held now (budget - taken) ≡ turn_count t (λ after. plus (made_with (group g)) (turns_count_of g i held after left))
    counts_step i held now t e =
        ap (turns_count_of g i held now) (sym one_more) ∙ ap (λ x. turn_count x (λ after. plus (made_with (group g)) (turns_count_of g i held after left))) e

    held_same : HeldAlike old rows → inputs_held rows n ≡ inputs_held old n
    held_same alike = fun_ext (λ input. alike n input)

    pub going_on : (finally : List (List ℕ)) → KeepsShape initially so_far → GrowsAt n (λ h. once ((group g).offset h)) so_far finally → AreGoing d old rows initially so_far n g budget taken → Taken d rows new n g (group_driving g) turns.Goes → AreGoing d old new initially finally n g budget (taken + 1)
    going_on finally shape cycle going taken_one path s number stands settled =
        let k = going path s number stands settled in
        let i : Instance = instance_at (tree_of d) path in
        let r = taken_one.tells path s k.now number settled k.busy k.stands in
        let turn : group_turn i (inputs_held old n) g k.now ≡ answers.Goes r.0 = subst (λ h. group_turn i h g k.now ≡ answers.Goes r.0) (held_same k.held) r.1 in
        record {
          now = r.0;
          stands = r.2;
          busy = r.3;
          held = λ m input. r.4 m input ∙ k.held m input;
          same = k.same ∙ ap (after_turns taken) (step i (inputs_held old n) k.now (answers.Goes r.0) turn) ∙ twice_later taken 1 (turns_do g i (inputs_held old n) r.0 left);
          counted = λ has later one.
              k.counted has later
              (subst (λ (t : Tally). Grows d so_far later (at_path path t)) (sym (counts_step i (inputs_held old n) k.now (answers.Goes r.0) turn))
              (grows_both d so_far finally later path (made_with (group g)) (turns_count_of g i (inputs_held old n) r.0 left) (grows_cycle d n path (group g) so_far finally (rows_kept d initially so_far shape has) number cycle) one));
        }

    -- a turn that does not go on counts nothing, and nothing is counted behind it
    counts_stop : (i : Instance) (held : Held) (now : State) (t : answers.Turn State Fault) (path : Path) → group_turn i held g now ≡ t → (turn_count t (λ after. plus (made_with (group g)) (turns_count_of g i held after left)) ≡ none)
        → Grows d so_far so_far (at_path path (turns_count_of g i held now (budget - taken)))
    counts_stop i held now t path e nothing = subst (λ (x : Tally). Grows d so_far so_far (at_path path x)) (sym (counts_step i held now t e ∙ nothing)) (grows_not d so_far path)

    pub going_counts : AreGoing d old rows initially so_far n g budget taken → Taken d rows new n g (group_driving g) turns.Ends → GrowsBy d old initially so_far n (turns_count_of g) budget
    going_counts going taken_one has path s number stands settled =
        let k = going path s number stands settled in
        let i : Instance = instance_at (tree_of d) path in
        let r = taken_one.tells path s k.now number settled k.busy k.stands in
        let turn : group_turn i (inputs_held old n) g k.now ≡ answers.Ends = subst (λ h. group_turn i h g k.now ≡ answers.Ends) (held_same k.held) r.0 in
        k.counted has so_far (counts_stop i (inputs_held old n) k.now answers.Ends path turn refl)

    pub going_ends : AreGoing d old rows initially so_far n g budget taken → Taken d rows new n g (group_driving g) turns.Ends → Paused d old new n (group_driving g) (turns_do g) budget (result.End (taken + 1))
    going_ends going taken_one = record {
      pauses = λ path s number stands settled.
          let k = going path s number stands settled in
          let i : Instance = instance_at (tree_of d) path in
          let r = taken_one.tells path s k.now number settled k.busy k.stands in
          let turn : group_turn i (inputs_held old n) g k.now ≡ answers.Ends = subst (λ h. group_turn i h g k.now ≡ answers.Ends) (held_same k.held) r.0 in
          let whole : turns_do g i (inputs_held old n) (under_path path s) budget ≡ after_turns taken (End (idle i k.now) 1) = k.same ∙ ap (after_turns taken) (step i (inputs_held old n) k.now answers.Ends turn) in
          record {
            now = k.now;
            outcome = Ended (taken + 1);
            stands = subst (λ x. StandsFor (tree_of d) x (put_path path k.now s)) (sym r.1) k.stands;
            busy = k.busy;
            told = refl;
            held = λ m input. ap (λ x. inputs_held x m input) r.1 ∙ k.held m input;
            means = subst (λ x. AnswersIdle i k.now x (Ended (taken + 1))) (sym whole) (refl, refl);
          };
      within = omega arith;
      fits = taken_one.fits;
    }

    pub going_faults : (fault : PortFault) → AreGoing d old rows initially so_far n g budget taken → Taken d rows new n g (group_driving g) (turns.Faults fault) → Paused d old new n (group_driving g) (turns_do g) budget (result.Fault fault taken)
    going_faults fault going taken_one = record {
      pauses = λ path s number stands settled.
          let k = going path s number stands settled in
          let i : Instance = instance_at (tree_of d) path in
          let r = taken_one.tells path s k.now number settled k.busy k.stands in
          let turn : group_turn i (inputs_held old n) g k.now ≡ answers.Faults r.0 = subst (λ h. group_turn i h g k.now ≡ answers.Faults r.0) (held_same k.held) r.2 in
          let sum : taken + 0 ≡ taken = omega arith in
          let whole : turns_do g i (inputs_held old n) (under_path path s) budget ≡ answers.Fault r.0 taken =
          k.same ∙ ap (after_turns taken) (step i (inputs_held old n) k.now (answers.Faults r.0) turn) ∙ ap (λ t. answers.Fault r.0 t) sum in
          record {
            now = k.now;
            outcome = Faulted r.0 taken;
            stands = subst (λ x. StandsFor (tree_of d) x (put_path path k.now s)) (sym r.3) k.stands;
            busy = k.busy;
            told = (r.0, r.1, refl);
            held = λ m input. ap (λ x. inputs_held x m input) r.3 ∙ k.held m input;
            means = subst (λ x. AnswersIdle i k.now x (Faulted r.0 taken)) (sym whole) refl;
          };
      within = lt;
      fits = taken_one.fits;
    }

  pub going_more : (old rows : List PlainInstance) (initially so_far : List (List ℕ)) (budget taken : ℕ) → budget ≤ taken → IsStateOf d rows → AreGoing d old rows initially so_far n g budget taken → Paused d old rows n (group_driving g) (turns_do g) budget result.More
  going_more old rows initially so_far budget taken le fits going = record {
    pauses = λ path s number stands settled.
        let k = going path s number stands settled in
        let i : Instance = instance_at (tree_of d) path in
        let none : budget - taken ≡ 0 = omega arith in
        let whole : turns_do g i (inputs_held old n) (under_path path s) budget ≡ More = k.same ∙ ap (λ b. after_turns taken (turns_do g i (inputs_held old n) k.now b)) none in
        record {
          now = k.now;
          outcome = Unfinished;
          stands = k.stands;
          busy = k.busy;
          told = refl;
          held = k.held;
          means = subst (λ x. AnswersIdle i k.now x Unfinished) (sym whole) refl;
        };
    within = tt;
    fits = fits;
  }

rested_idle : (i : Instance) (listed driven : Set) (s now : State) → ((c : ℕ) → listed c ≡ false → driven c ≡ false) → IsSettled i s → IsBusy driven s now → (p : Path) → rested listed i now p ≡ idle i now p
rested_idle i listed driven s now lists settled busy [] = sym (top_idle i (now []))
rested_idle i listed driven s now lists settled busy (c ∷ e ∷ below) =
    let same : now (c ∷ e ∷ below) ≡ s (c ∷ e ∷ below) = busy.deeper c e below in
    same ∙ sym (settled (c ∷ e ∷ below)) ∙ ap (idle_at i (c ∷ e ∷ below)) (sym same)
rested_idle i listed driven s now lists settled busy (c ∷ []) = by_case (listed c) refl
  where
    by_case : (b : Bool) → listed c ≡ b → (if b then idle i now (c ∷ []) else now (c ∷ [])) ≡ idle i now (c ∷ [])
    by_case true e = refl
    by_case false e =
        let same : now (c ∷ []) ≡ s (c ∷ []) = busy.others c [] (lists c e) in
        same ∙ sym (settled (c ∷ [])) ∙ ap (idle_at i (c ∷ [])) (sym same)

rested_means : (i : Instance) (now after : State) → ((p : Path) → after p ≡ idle i now p) → (x : Answer State Fault) (o : Outcome) → AnswersIdle i now x o → AnswersAs after x o
rested_means i now after same (End a t) o (e, is) = (e, λ p. same p ∙ ap (λ (f : State). f p) (sym is))
rested_means i now after same (answers.Fault f t) o e = e
rested_means i now after same More o e = e

-- turns, and the idle edges behind them
pub done_rested : (d : PlainDesign) (n : ℕ) (old middle new : List PlainInstance) (driving : Driving) (doing : Doing) (budget : ℕ) (a : told.Answer) (listed : Set)
    → ((path : Path) (c : ℕ) → IsNumber d n path → listed c ≡ false → driving (instance_at (tree_of d) path) c ≡ false)
    → ((path : Path) (s : State) → IsSettled (instance_at (tree_of d) path) (idle (instance_at (tree_of d) path) s))
    → Paused d old middle n driving doing budget a → Rested d middle new n listed → Done d old new n driving doing budget a
done_rested d n old middle new driving doing budget a listed lists twice paused rests = record {
  leaves = λ path s number stands settled.
      let p = paused.pauses path s number stands settled in
      let i : Instance = instance_at (tree_of d) path in
      let idles : (q : Path) → rested listed i p.now q ≡ idle i p.now q =
      rested_idle i listed (driving i) (under_path path s) p.now (λ c. lists path c number) (settled_under (tree_of d) path s settled) p.busy in
      record {
        after = rested listed i p.now;
        outcome = p.outcome;
        stands =
            subst (λ (x : State). StandsFor (tree_of d) new x) (put_put path (rested listed i p.now) p.now s)
            (subst (λ (x : State). StandsFor (tree_of d) new (put_path path (rested listed i x) (put_path path p.now s))) (under_put path p.now s) (rests.stands path (put_path path p.now s) number p.stands));
        told = p.told;
        held = λ m input le. rests.held m input ∙ p.held m input;
        ran = record {
          settled = subst (λ (x : State). IsSettled i x) (sym (fun_ext idles)) (twice path p.now);
          top = p.busy.top;
          others = λ c below e. idles (c ∷ below) ∙ ap (idle_at i (c ∷ below)) (p.busy.others c below e) ∙ settled_under (tree_of d) path s settled (c ∷ below);
          answer = rested_means i p.now (rested listed i p.now) idles (doing i (inputs_held old n) (under_path path s) budget) p.outcome p.means;
        };
      };
  within = paused.within;
  fits = rests.fits;
}
