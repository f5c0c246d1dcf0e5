-- The net of an accepted design passes the scripts that the design passes, and what is ahead of it is what is ahead of the design.
use Rattle.std.proofs.Common.{◌≡◌, ℕ, zero, suc, ◌<◌, ◌≤◌, Bool, true, false, List, refl, sym, subst, arith}
use Rattle.cx_meaning.specs.Answers.{End}
use Rattle.cx_meaning.specs.Designs.{PlainDesign}
use Rattle.cx_meaning.specs.Instances.{State, tree_of, words_of, IsSettled}
use Rattle.cx_meaning.specs.Sights.{unheld}
use Rattle.cx_lockstep.specs.Worlds.{At, Done, Machine, Moment, after_cycles, is_done, IsQuiet}
use Rattle.cx_control.specs.Numbers.{spot_idle}
use Rattle.cx_control.specs.Spots.{Kept, shown}
use Rattle.cx_control.specs.DesignRuns.{design_machine}
use Rattle.cx_net.specs.NetTree.{NetInstance}
use Rattle.cx_net.specs.NetMeaning.{NetState}
use Rattle.cx_net.specs.NetEdges.{net_after}
use Rattle.cx_net.specs.NetRuns as nets
use Rattle.cx_net.specs.NetRuns.{net_words}
use Rattle.cx_wiring_runs.proofs.GroundedRuns.{HasLook}
use Rattle.cx_wiring_runs.proofs.EdgeRuns.{Place, next, after}
use Rattle.cx_emitted.specs.Scripts.{Stay, Undone, here, further, over, waits, runs}
use Rattle.cx_emitted.specs.Stays.{run_from, Stays, at_once, after_wait, after_run}
use Rattle.cx_emitted.proofs.AheadLemmas.{ComesBy, done_in, none, Ahead, LeadsTo}
use Rattle.cx_emitted.proofs.NetCycles.{NetCycle}
use Rattle.cx_emitted.proofs.MachineLemmas.{end_settled, moment_from, RunsFromAll}
use Rattle.cx_emitted.proofs.RootLemmas.{ScriptKeeps}
use Rattle.cx_text.proofs.NumberLaws.{true_false}

module _ (d : PlainDesign) (tree : NetInstance) (Holds : NetState → Type 0) (Good : Place d tree → Kept → Type 0) (Shows : Place d tree → Kept → NetState → Type 0)
    (keeps : ScriptKeeps d tree Holds Good Shows) (machine : RunsFromAll d) where
  abbrev later : ℕ → Moment (design_machine d) → Moment (design_machine d)
  later k m = after_cycles (spot_idle (tree_of d)) (design_machine d) k m

  abbrev from : Place d tree → Kept → Moment (design_machine d)
  from c s = record { control = c; store = s }

  -- where the machine is quiet for so many cycles and then done, the net is not done in them, and then shows the end
  undone_until : (t : ℕ) (c : Place d tree) (s : Kept) (v : NetState) → Good c s → Shows c s v → ((j : ℕ) → j < t → IsQuiet (design_machine d) (later j (from c s)))
      → is_done (Moment.control (later t (from c s))) ≡ true → (w : NetState) × Undone (NetCycle tree) v t w × Shows Done (Moment.store (later t (from c s))) w
  undone_until zero (At p) s v g h quiet e = absurd (true_false (sym e))
  undone_until zero Done s v g h quiet e = (v, here, h)
  undone_until (suc t) Done s v g h quiet e = absurd (true_false (quiet 0 (omega arith)).goes)
  undone_until (suc t) (At p) s v g h quiet e =
      let l = keeps.looks true v (keeps.holds (At p) s v h) in
      let q = quiet 0 (omega arith) in
      let r = undone_until t (next d tree (At p) s) (after d tree (At p) s) (net_after tree false true v l.look) (keeps.law.good p s g q.clean) (keeps.law.keeps p s v l.look g q.clean h l.is) (λ j lt. quiet (suc j) (omega arith)) e in
      (r.0, further (record { look = l.look; whole = l.is; shows = keeps.law.waits p s v l.look h l.is; leads = refl }) r.1, r.2)

  -- where it is quiet for so many cycles and done in none of them and not then, neither is the net
  undone_for : (n : ℕ) (c : Place d tree) (s : Kept) (v : NetState) → Good c s → Shows c s v → ((j : ℕ) → j < n → IsQuiet (design_machine d) (later j (from c s)))
      → ((j : ℕ) → j ≤ n → is_done (Moment.control (later j (from c s))) ≡ false) → (w : NetState) × Undone (NetCycle tree) v (suc n) w
  undone_for n Done s v g h quiet undone = absurd (true_false (undone 0 (omega arith)))
  undone_for zero (At p) s v g h quiet undone =
      let l = keeps.looks true v (keeps.holds (At p) s v h) in
      (net_after tree false true v l.look, further (record { look = l.look; whole = l.is; shows = keeps.law.waits p s v l.look h l.is; leads = refl }) here)
  undone_for (suc n) (At p) s v g h quiet undone =
      let l = keeps.looks true v (keeps.holds (At p) s v h) in
      let q = quiet 0 (omega arith) in
      let r = undone_for n (next d tree (At p) s) (after d tree (At p) s) (net_after tree false true v l.look) (keeps.law.good p s g q.clean) (keeps.law.keeps p s v l.look g q.clean h l.is)
      (λ j lt. quiet (suc j) (omega arith)) (λ j le. undone (suc j) (omega arith)) in
      (r.0, further (record { look = l.look; whole = l.is; shows = keeps.law.waits p s v l.look h l.is; leads = refl }) r.1)

  -- whatever comes, done comes in some cycle or in none up to a bound
  abbrev cycle_of : (v : NetState) (l : HasLook tree true v) (b : Bool) → nets.is_done l.look ≡ b → NetCycle tree true v b (net_after tree false true v l.look)
  cycle_of v l b e = record { look = l.look; whole = l.is; shows = e; leads = refl }

  further_on : (bound : ℕ) (v w : NetState) → NetCycle tree true v false w → ComesBy (NetCycle tree) w bound → ComesBy (NetCycle tree) v (suc bound)
  further_on bound v w c (done_in turns within undone last) = done_in (suc turns) (omega arith) (further c undone) last
  further_on bound v w c (none undone) = none (further c undone)

  last_cycle : (v : NetState) (l : HasLook tree true v) (b : Bool) → nets.is_done l.look ≡ b → ComesBy (NetCycle tree) v 0
  last_cycle v l true e = done_in 0 (omega arith) here (cycle_of v l true e)
  last_cycle v l false e = none (further (cycle_of v l false e) here)

  one_cycle : (bound : ℕ) (v : NetState) (l : HasLook tree true v) → ComesBy (NetCycle tree) (net_after tree false true v l.look) bound → (b : Bool) → nets.is_done l.look ≡ b → ComesBy (NetCycle tree) v (suc bound)
  one_cycle bound v l later true e = done_in 0 (omega arith) here (cycle_of v l true e)
  one_cycle bound v l later false e = further_on bound v (net_after tree false true v l.look) (cycle_of v l false e) later

  comes_on : (bound : ℕ) (v : NetState) → Holds v → ComesBy (NetCycle tree) v bound
  comes_on zero v h = let l = keeps.looks true v h in last_cycle v l (nets.is_done l.look) refl
  comes_on (suc bound) v h = let l = keeps.looks true v h in one_cycle bound v l (comes_on bound (net_after tree false true v l.look) (keeps.holds_on true v l.look h l.is)) (nets.is_done l.look) refl

  -- at the start of the machine, with the cells of a settled state
  abbrev ShowsStart : State → NetState → Type 0
  ShowsStart s v = Shows (Machine.start (design_machine d)) (shown unheld s) v

  -- A RUN to its end, and the cycle of done
  record Ran (s after : State) (v : NetState) (turns : ℕ) : Type 0 where
    last : NetState
    behind : NetState
    undone : Undone (NetCycle tree) v turns last
    done : NetCycle tree true last true behind
    told : net_words tree last ≡ words_of (tree_of d) after
    settled : IsSettled (tree_of d) after
    shows : ShowsStart after behind

  ran : (s after : State) (v : NetState) (n turns : ℕ) → IsSettled (tree_of d) s → ShowsStart s v → run_from d s n ≡ End after turns → (turns ≤ n) × Ran s after v turns
  ran s after v n turns settled h e =
      let m = machine.ends s n turns after settled e in
      let u = undone_until turns (Machine.start (design_machine d)) (shown unheld s) v (keeps.good s settled) h m.quiet m.is_over in
      let same : Moment.store (moment_from d s turns) ≡ shown unheld after = λ t x. m.store x t in
      let at_end : Shows Done (shown unheld after) u.0 = subst (λ k. Shows Done k u.0) same u.2 in
      let l = keeps.looks true u.0 (keeps.holds Done (shown unheld after) u.0 at_end) in
      let left = end_settled d s after n turns settled e in (
        m.in_budget,
        record {
          last = u.0;
          behind = net_after tree false true u.0 l.look;
          undone = u.1;
          done = record { look = l.look; whole = l.is; shows = keeps.law.done (shown unheld after) u.0 l.look at_end l.is; leads = refl };
          told = keeps.law.words Done (shown unheld after) u.0 at_end;
          settled = left;
          shows = keeps.again after u.0 l.look left at_end l.is;
        },
      )

  -- WHAT IS AHEAD
  ahead_of : (s : State) (v : NetState) → IsSettled (tree_of d) s → ShowsStart s v → Ahead d s (NetCycle tree) (net_words tree) v
  ahead_of s v settled h = record {
    told = keeps.law.words (Machine.start (design_machine d)) (shown unheld s) v h;
    ends = λ budget turns after e. let r = ran s after v budget turns settled h e in let x : Ran s after v turns = r.1 in (r.0, record { last = x.last; next = x.behind; undone = x.undone; done = x.done; told = x.told });
    goes_on = λ budget e. let m = machine.goes_on s budget settled e in undone_for budget (Machine.start (design_machine d)) (shown unheld s) v (keeps.good s settled) h m.quiet m.undone;
    comes = λ budget. comes_on budget v (keeps.holds (Machine.start (design_machine d)) (shown unheld s) v h);
  }

  -- EVERY SCRIPT of the design
  pub net_passes : {s after : State} {stays : List Stay} → Stays d s stays after → (v : NetState) → IsSettled (tree_of d) s → ShowsStart s v → LeadsTo d (NetCycle tree) (net_words tree) v stays after
  net_passes {s} at_once v settled h = record { now = v; passes = over; ahead = ahead_of s v settled h }
  net_passes {s} (after_wait rest) v settled h =
      let l = keeps.looks false v (keeps.holds (Machine.start (design_machine d)) (shown unheld s) v h) in
      let r = net_passes rest (net_after tree false false v l.look) settled (keeps.still s v l.look settled h l.is) in
      record { now = r.now; passes = waits (record { look = l.look; whole = l.is; shows = keeps.quiet s v l.look h l.is; leads = refl }) r.passes; ahead = r.ahead }
  net_passes {s} (after_run {middle = middle} {turns = turns} n e rest) v settled h =
      let x : Ran s middle v turns = (ran s middle v n turns settled h e).1 in
      let r = net_passes rest x.behind x.settled x.shows in
      record { now = r.now; passes = runs x.undone x.done r.passes; ahead = r.ahead }
