-- The cycles of an island, one after the other, up to the idle turn behind them.
use Rattle.std.proofs.Common.{◌≡◌, ℕ, zero, suc, ◌+◌, ◌-◌, ◌≤◌, ◌<◌, List, refl, sym, ap, ◌∙◌, subst, arith}
use Rattle.std.proofs.Math.Path.{fun_ext}
use Rattle.cx_meaning.specs.Designs.{PlainDesign, PlainComponent, PlainForm}
use Rattle.cx_meaning.specs.Instances.{Instance, Path, State, part_of, idle, instance_at, tree_of, IsSettled}
use Rattle.cx_meaning.specs.Active.{Active, nothing, entries}
use Rattle.cx_meaning.specs.Cycles.{Fault}
use Rattle.cx_meaning.specs.Sights.{Held, seen}
use Rattle.cx_meaning.specs.Answers.{Answer, End, More, after_turns, turn_then, idle_turn}
use Rattle.cx_meaning.specs.Answers as answers
use Rattle.cx_laws.specs.Samples.{Samples, says, active_by, samples_after}
use Rattle.cx_laws.specs.SampledIslands.{sampled_turn, sampled_from}
use Rattle.cx_rewrites.specs.Tallies.{Tally, plus, turn_count}
use Rattle.cx_profiling.specs.Counting.{made_with, once}
use Rattle.cx_profiling.specs.StatementCounts.{sampled_count_from}
use Rattle.cx_design.specs.declared.actives.PortFault.{PortFault}
use Rattle.cx_state.specs.Tables.{IsNumber}
use Rattle.cx_state.specs.States.{PlainInstance, inputs_held, IsStateOf, StandsFor, under_path, put_path}
use Rattle.cx_eval.specs.Evaluated.{HeldAlike}
use Rattle.cx_frames.specs.Ran.{Ended, Faulted, Unfinished}
use Rattle.cx_turns.specs.declared.turns.Turn.TheVariants as turns
use Rattle.cx_turns.specs.Groups.{Driving}
use Rattle.cx_turns.specs.Islands.{HasPart}
use Rattle.cx_turns.specs.Turns.{IsBusy}
use Rattle.cx_turns.proofs.PathLemmas.{put_same}
use Rattle.cx_interp.specs.declared.answers.Answer.TheVariants as result
use Rattle.cx_interp.specs.Pauses.{AnswersIdle, Paused}
use Rattle.cx_interp.specs.IslandCycles.{CycleTaken, sampled_does}
use Rattle.cx_interp.specs.Counts.{HasRows, KeepsShape, GrowsAt, at_path, Grows}
use Rattle.cx_interp.specs.Counted.{GrowsBy, sampled_counts}
use Rattle.cx_interp.proofs.GrowthLemmas.{grows_not, grows_both, grows_cycle, rows_kept}

pub twice_later : {S F : Type 0} (k m : ℕ) (x : Answer S F) → after_turns k (after_turns m x) ≡ after_turns (k + m) x
twice_later k m (End s t) = ap (λ j. End s j) (omega arith)
twice_later k m (answers.Fault f t) = ap (λ j. answers.Fault f j) (omega arith)
twice_later k m More = refl

pub none_later : {S F : Type 0} (x : Answer S F) → after_turns 0 x ≡ x
none_later (End s t) = ap (λ j. End s j) (omega arith)
none_later (answers.Fault f t) = ap (λ j. answers.Fault f j) (omega arith)
none_later More = refl

-- the state after so many cycles that went on, and what comes of the rest; and whatever is counted of the rest is what is counted of
-- the whole
pub record CyclesGoing (d : PlainDesign) (old rows : List PlainInstance) (initially so_far : List (List ℕ)) (n : ℕ) (form : PlainForm) (driving : Driving) (count budget : ℕ) (first kept : Samples) (taken : ℕ) (path : Path) (s : State) : Type 0 where
  pub now : State
  pub stands : StandsFor (tree_of d) rows (put_path path now s)
  pub busy : IsBusy (driving (instance_at (tree_of d) path)) (under_path path s) now
  pub held : HeldAlike old rows
  pub same : sampled_does form count first (instance_at (tree_of d) path) (inputs_held old n) (under_path path s) budget
      ≡ after_turns taken (sampled_from (instance_at (tree_of d) path) (inputs_held old n) form (count - taken) taken kept now (budget - taken))
  pub counted : HasRows d initially → (new : List (List ℕ)) → Grows d so_far new (at_path path (sampled_count_from (instance_at (tree_of d) path) (inputs_held old n) form (count - taken) taken kept now (budget - taken)))
      → Grows d initially new (at_path path (sampled_counts form count first (instance_at (tree_of d) path) (inputs_held old n) (under_path path s) budget))

module _ (d : PlainDesign) (n : ℕ) (form : PlainForm) (driving : Driving) (count budget : ℕ) (first : Samples) where
  abbrev pub CyclesGo : List PlainInstance → List PlainInstance → List (List ℕ) → List (List ℕ) → Samples → ℕ → Type 0
  CyclesGo old rows initially so_far kept taken = (path : Path) (s : State) → IsNumber d n path → StandsFor (tree_of d) old s → IsSettled (tree_of d) s → CyclesGoing d old rows initially so_far n form driving count budget first kept taken path s

  pub cycles_start : (rows : List PlainInstance) (table : List (List ℕ)) → CyclesGo rows rows table table first 0
  cycles_start rows table path s number stands settled =
      let i : Instance = instance_at (tree_of d) path in
      let all : budget - 0 ≡ budget = omega arith in
      let whole : count - 0 ≡ count = omega arith in
      record {
        now = under_path path s;
        stands = subst (λ (x : State). StandsFor (tree_of d) rows x) (sym (put_same path s)) stands;
        busy = record { top = refl; others = λ c below e. refl; deeper = λ c e below. refl };
        held = λ m input. refl;
        same = sym (none_later _)
            ∙ ap (λ b. after_turns 0 (sampled_from i (inputs_held rows n) form count 0 first (under_path path s) b)) (sym all)
            ∙ ap (λ k. after_turns 0 (sampled_from i (inputs_held rows n) form k 0 first (under_path path s) (budget - 0))) (sym whole);
        counted = λ has later one.
            subst (λ k. Grows d table later (at_path path (sampled_count_from i (inputs_held rows n) form k 0 first (under_path path s) budget))) whole
            (subst (λ b. Grows d table later (at_path path (sampled_count_from i (inputs_held rows n) form (count - 0) 0 first (under_path path s) b))) all one);
      }

  module _ (old rows new : List PlainInstance) (initially so_far : List (List ℕ)) (kept next : Samples) (taken : ℕ) (inside : taken < count) (lt : taken < budget) where
    abbrev left : ℕ
    left = budget - (taken + 1)

    abbrev cycles : ℕ
    cycles = count - (taken + 1)

    one_more : suc left ≡ budget - taken
    one_more = omega arith

    one_cycle : suc cycles ≡ count - taken
    one_cycle = omega arith

    following : suc taken ≡ taken + 1
    following = omega arith

    held_same : HeldAlike old rows → inputs_held rows n ≡ inputs_held old n
    held_same alike = fun_ext (λ input. alike n input)

    -- the cycle as it is in the state now
    step : (i : Instance) (held : Held) (now : State) (t : answers.Turn State Fault) → next ≡ samples_after (part_of i) (says (seen i held nothing now)) taken form kept → sampled_turn i held form taken next now ≡ t
        → sampled_from i held form (count - taken) taken kept now (budget - taken) ≡ turn_then (idle i) now t (λ after. sampled_from i held form cycles (taken + 1) next after left)
    step i held now t is e =
        ap (λ b. sampled_from i held form (count - taken) taken kept now b) (sym one_more)
        ∙ ap (λ k. sampled_from i held form k taken kept now (suc left)) (sym one_cycle)
        ∙ ap (λ (x : Samples). turn_then (idle i) now (sampled_turn i held form taken x now) (λ after. sampled_from i held form cycles (suc taken) x after left)) (sym is)
        ∙ ap (λ k. turn_then (idle i) now (sampled_turn i held form taken next now) (λ after. sampled_from i held form cycles k next after left)) following
        ∙ ap (λ x. turn_then (idle i) now x (λ after. sampled_from i held form cycles (taken + 1) next after left)) e

    -- what is counted in it, and behind it
    counts_step : (i : Instance) (held : Held) (now : State) (t : answers.Turn State Fault) → next ≡ samples_after (part_of i) (says (seen i held nothing now)) taken form kept → sampled_turn i held form taken next now ≡ t
        → sampled_count_from i held form (count - taken) taken kept now (budget - taken) ≡ turn_count t (λ after. plus (made_with (entries (active_by (part_of i) next taken form))) (sampled_count_from i held form cycles (taken + 1) next after left))
    counts_step i held now t is e =
        ap (λ b. sampled_count_from i held form (count - taken) taken kept now b) (sym one_more)
        ∙ ap (λ k. sampled_count_from i held form k taken kept now (suc left)) (sym one_cycle)
        ∙ ap (λ (x : Samples). turn_count (sampled_turn i held form taken x now) (λ after. plus (made_with (entries (active_by (part_of i) x taken form))) (sampled_count_from i held form cycles (suc taken) x after left))) (sym is)
        ∙ ap (λ k. turn_count (sampled_turn i held form taken next now) (λ after. plus (made_with (entries (active_by (part_of i) next taken form))) (sampled_count_from i held form cycles k next after left))) following
        ∙ ap (λ x. turn_count x (λ after. plus (made_with (entries (active_by (part_of i) next taken form))) (sampled_count_from i held form cycles (taken + 1) next after left))) e

    pub cycles_on : (part : PlainComponent) (finally : List (List ℕ)) → HasPart d n part → KeepsShape initially so_far → GrowsAt n (λ g. once ((entries (active_by part next taken form)).offset g)) so_far finally → CyclesGo old rows initially so_far kept taken
        → CycleTaken d rows new n form driving taken kept next turns.Goes → CyclesGo old new initially finally next (taken + 1)
    cycles_on part finally is_part shape cycle going one path s number stands settled =
        let k = going path s number stands settled in
        let i : Instance = instance_at (tree_of d) path in
        let told = one.tells path s k.now number settled k.busy k.stands in
        let r = told.1 in
        let is : next ≡ samples_after (part_of i) (says (seen i (inputs_held old n) nothing k.now)) taken form kept =
        subst (λ (h : Held). next ≡ samples_after (part_of i) (says (seen i h nothing k.now)) taken form kept) (held_same k.held) told.0 in
        let turn : sampled_turn i (inputs_held old n) form taken next k.now ≡ answers.Goes r.0 = subst (λ (h : Held). sampled_turn i h form taken next k.now ≡ answers.Goes r.0) (held_same k.held) r.1 in
        record {
          now = r.0;
          stands = r.2;
          busy = r.3;
          held = λ m input. r.4 m input ∙ k.held m input;
          same = k.same ∙ ap (after_turns taken) (step i (inputs_held old n) k.now (answers.Goes r.0) is turn)
              ∙ twice_later taken 1 (sampled_from i (inputs_held old n) form cycles (taken + 1) next r.0 left);
          counted = λ has later rest.
              let act : Active = entries (active_by (part_of i) next taken form) in
              let made : Grows d so_far finally (at_path path (made_with act)) =
              grows_cycle d n path act so_far finally (rows_kept d initially so_far shape has) number (subst (λ (p : PlainComponent). GrowsAt n (λ g. once ((entries (active_by p next taken form)).offset g)) so_far finally) (is_part path number) cycle) in
              k.counted has later
              (subst (λ (t : Tally). Grows d so_far later (at_path path t)) (sym (counts_step i (inputs_held old n) k.now (answers.Goes r.0) is turn))
              (grows_both d so_far finally later path (made_with act) (sampled_count_from i (inputs_held old n) form cycles (taken + 1) next r.0 left) made rest));
        }

    pub cycles_fault : (fault : PortFault) → CyclesGo old rows initially so_far kept taken → CycleTaken d rows new n form driving taken kept next (turns.Faults fault)
        → Paused d old new n driving (sampled_does form count first) budget (result.Fault fault taken)
    cycles_fault fault going one = record {
      pauses = λ path s number stands settled.
          let k = going path s number stands settled in
          let i : Instance = instance_at (tree_of d) path in
          let told = one.tells path s k.now number settled k.busy k.stands in
          let r = told.1 in
          let is : next ≡ samples_after (part_of i) (says (seen i (inputs_held old n) nothing k.now)) taken form kept =
          subst (λ (h : Held). next ≡ samples_after (part_of i) (says (seen i h nothing k.now)) taken form kept) (held_same k.held) told.0 in
          let turn : sampled_turn i (inputs_held old n) form taken next k.now ≡ answers.Faults r.0 = subst (λ (h : Held). sampled_turn i h form taken next k.now ≡ answers.Faults r.0) (held_same k.held) r.2 in
          let sum : taken + 0 ≡ taken = omega arith in
          let whole : sampled_does form count first i (inputs_held old n) (under_path path s) budget ≡ answers.Fault r.0 taken =
          k.same ∙ ap (after_turns taken) (step i (inputs_held old n) k.now (answers.Faults r.0) is turn) ∙ ap (λ t. answers.Fault r.0 t) sum in
          record {
            now = k.now;
            outcome = Faulted r.0 taken;
            stands = subst (λ x. StandsFor (tree_of d) x (put_path path k.now s)) (sym r.3) k.stands;
            busy = k.busy;
            told = (r.0, r.1, refl);
            held = λ m input. ap (λ x. inputs_held x m input) r.3 ∙ k.held m input;
            means = subst (λ x. AnswersIdle i k.now x (Faulted r.0 taken)) (sym whole) refl;
          };
      within = lt;
      fits = one.fits;
    }

  module _ (old rows : List PlainInstance) (initially so_far : List (List ℕ)) (kept : Samples) (fits : IsStateOf d rows) where
    -- all cycles are over, and the idle turn is within the budget
    pub cycles_end : count < budget → CyclesGo old rows initially so_far kept count → Paused d old rows n driving (sampled_does form count first) budget (result.End (count + 1))
    cycles_end lt going = record {
      pauses = λ path s number stands settled.
          let k = going path s number stands settled in
          let i : Instance = instance_at (tree_of d) path in
          let none : count - count ≡ 0 = omega arith in
          let some : budget - count ≡ suc (budget - (count + 1)) = omega arith in
          let whole : sampled_does form count first i (inputs_held old n) (under_path path s) budget ≡ End (idle i k.now) (count + 1) =
          k.same
          ∙ ap (λ c. after_turns count (sampled_from i (inputs_held old n) form c count kept k.now (budget - count))) none
          ∙ ap (λ b. after_turns count (idle_turn (idle i) k.now b)) some in
          record {
            now = k.now;
            outcome = Ended (count + 1);
            stands = k.stands;
            busy = k.busy;
            told = refl;
            held = k.held;
            means = subst (λ x. AnswersIdle i k.now x (Ended (count + 1))) (sym whole) (refl, refl);
          };
      within = omega arith;
      fits = fits;
    }

    -- the idle turn counts nothing
    pub cycles_counted : CyclesGo old rows initially so_far kept count → GrowsBy d old initially so_far n (sampled_counts form count first) budget
    cycles_counted going has path s number stands settled =
        let k = going path s number stands settled in
        let i : Instance = instance_at (tree_of d) path in
        let over : 0 ≡ count - count = omega arith in
        k.counted has so_far (subst (λ c. Grows d so_far so_far (at_path path (sampled_count_from i (inputs_held old n) form c count kept k.now (budget - count)))) over (grows_not d so_far path))

    no_turn : (i : Instance) (held : Held) (c t : ℕ) (now : State) → sampled_from i held form c t kept now 0 ≡ More
    no_turn i held zero t now = refl
    no_turn i held (suc c) t now = refl

    -- the budget is over
    pub cycles_more : (taken : ℕ) → budget ≤ taken → CyclesGo old rows initially so_far kept taken → Paused d old rows n driving (sampled_does form count first) budget result.More
    cycles_more taken le going = record {
      pauses = λ path s number stands settled.
          let k = going path s number stands settled in
          let i : Instance = instance_at (tree_of d) path in
          let none : budget - taken ≡ 0 = omega arith in
          let whole : sampled_does form count first i (inputs_held old n) (under_path path s) budget ≡ More =
          k.same
          ∙ ap (λ b. after_turns taken (sampled_from i (inputs_held old n) form (count - taken) taken kept k.now b)) none
          ∙ ap (after_turns taken) (no_turn i (inputs_held old n) (count - taken) taken k.now) in
          record {
            now = k.now;
            outcome = Unfinished;
            stands = k.stands;
            busy = k.busy;
            told = refl;
            held = k.held;
            means = subst (λ x. AnswersIdle i k.now x Unfinished) (sym whole) refl;
          };
      within = tt;
      fits = fits;
    }
