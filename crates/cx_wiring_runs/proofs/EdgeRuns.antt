-- What one edge owes, and that this makes the run of the net that of the design.
use Rattle.std.proofs.Common.{◌≡◌, ℕ, zero, suc, ◌+◌, ◌<◌, ◌≤◌, true, false, List, sym, ◌∙◌, subst, arith}
use Rattle.cx_meaning.specs.Designs.{PlainDesign}
use Rattle.cx_meaning.specs.Instances.{tree_of, start, words_of}
use Rattle.cx_meaning.specs.Sights.{unheld}
use Rattle.cx_lockstep.specs.Worlds.{Control, At, Done, Machine, edge, step, Moment, after_cycles, is_done, IsQuiet}
use Rattle.cx_control.specs.Spots.{Kept, cells_in, shown}
use Rattle.cx_control.specs.Numbers.{spot_idle}
use Rattle.cx_control.specs.DesignRuns.{design_machine}
use Rattle.cx_vtree.specs.SimRun.{Outcome, DoneAt, NotDone}
use Rattle.cx_net.specs.NetTree.{NetInstance}
use Rattle.cx_net.specs.NetMeaning.{NetState, NetLook}
use Rattle.cx_net.specs.NetEdges.{net_after}
use Rattle.cx_net.specs.NetRuns as nets
use Rattle.cx_net.specs.NetRuns.{IsWholeLook, NetRunsFrom, ends, spent, goes_on, Comes, at_next, AreWords, net_start, net_words}
use Rattle.cx_text.proofs.NumberLaws.{true_false}

module _ (d : PlainDesign) (tree : NetInstance) where
  abbrev pub Place : Type 0
  Place = Control (Machine.Place (design_machine d))

  abbrev pub next : Place → Kept → Place
  next c s = step (design_machine d) c s

  abbrev pub after : Place → Kept → Kept
  after c s = edge (spot_idle (tree_of d)) (design_machine d) c s

  -- WHAT ONE EDGE OWES: Good is the machine's invariant, and Shows says which state of the net shows a place and a store
  pub record EdgeKeeps (Good : Place → Kept → Type 0) (Shows : Place → Kept → NetState → Type 0) : Type 0 where
    pub starts : (words : List (List ℕ)) (look : NetLook) → AreWords d words → IsWholeLook tree false (net_start tree words) look
        → Good (Machine.start (design_machine d)) (shown unheld (start (tree_of d) words))
        × Shows (Machine.start (design_machine d)) (shown unheld (start (tree_of d) words)) (net_after tree true false (net_start tree words) look)
    pub good : (p : Machine.Place (design_machine d)) (s : Kept) → Good (At p) s → Machine.faults (design_machine d) p s ≡ false → Good (next (At p) s) (after (At p) s)
    pub keeps : (p : Machine.Place (design_machine d)) (s : Kept) (v : NetState) (look : NetLook) → Good (At p) s → Machine.faults (design_machine d) p s ≡ false → Shows (At p) s v
        → IsWholeLook tree true v look → Shows (next (At p) s) (after (At p) s) (net_after tree false true v look)
    pub waits : (p : Machine.Place (design_machine d)) (s : Kept) (v : NetState) (look : NetLook) → Shows (At p) s v → IsWholeLook tree true v look → nets.is_done look ≡ false
    pub done : (s : Kept) (v : NetState) (look : NetLook) → Shows Done s v → IsWholeLook tree true v look → nets.is_done look ≡ true
    pub words : (c : Place) (s : Kept) (v : NetState) → Shows c s v → net_words tree v ≡ words_of (tree_of d) (cells_in s)

  module _ (Good : Place → Kept → Type 0) (Shows : Place → Kept → NetState → Type 0) (law : EdgeKeeps Good Shows) where
    abbrev pub tick : Moment (design_machine d) → Moment (design_machine d)
    tick c = record { control = next c.control c.store; store = after c.control c.store }

    abbrev pub later : ℕ → Moment (design_machine d) → Moment (design_machine d)
    later k c = after_cycles (spot_idle (tree_of d)) (design_machine d) k c

    abbrev pub Quiet : Moment (design_machine d) → Type 0
    Quiet m = IsQuiet (design_machine d) m

    -- the net has a look in each state that it comes to
    module _ (loaded : List (List ℕ)) (looks : (v : NetState) → Comes tree loaded true v → (look : NetLook) × IsWholeLook tree true v look) where
      pub reaches : (t left cycle : ℕ) (c : Place) (s : Kept) (v : NetState) → Good c s → Shows c s v → Comes tree loaded true v
          → ((j : ℕ) → j < t → Quiet (later j (record { control = c; store = s }))) → is_done (Moment.control (later t (record { control = c; store = s }))) ≡ true → t ≤ left
          → NetRunsFrom tree v cycle left (DoneAt (cycle + t) (words_of (tree_of d) (cells_in (Moment.store (later t (record { control = c; store = s }))))))
      reaches zero left cycle (At p) s v g h comes quiet e le = absurd (true_false (sym e))
      reaches zero left cycle Done s v g h comes quiet e le =
          let l = looks v comes in let same : cycle ≡ cycle + 0 = omega arith in
          subst (λ m. NetRunsFrom tree v cycle left (DoneAt m (words_of (tree_of d) (cells_in s)))) same
          (subst (λ w. NetRunsFrom tree v cycle left (DoneAt cycle w)) (law.words Done s v h) (ends l.0 l.1 (law.done s v l.0 h l.1)))
      reaches (suc t) zero cycle c s v g h comes quiet e le = absurd (omega arith)
      reaches (suc t) (suc left) cycle Done s v g h comes quiet e le = absurd (true_false (quiet 0 (omega arith)).goes)
      reaches (suc t) (suc left) cycle (At p) s v g h comes quiet e le =
          let l = looks v comes in let q = quiet 0 (omega arith) in let same : (cycle + 1) + t ≡ cycle + suc t = omega arith in
          subst (λ m. NetRunsFrom tree v cycle (suc left) (DoneAt m (words_of (tree_of d) (cells_in (Moment.store (later (suc t) (record { control = At p; store = s }))))))) same
          (goes_on l.0 l.1 (law.waits p s v l.0 h l.1)
          (reaches t left (cycle + 1) (next (At p) s) (after (At p) s) (net_after tree false true v l.0) (law.good p s g q.clean) (law.keeps p s v l.0 g q.clean h l.1) (at_next l.0 comes l.1)
          (λ j lt. quiet (suc j) (omega arith)) e (omega arith)))

      no_earlier : (v : NetState) (cycle left : ℕ) (o : Outcome) → NetRunsFrom tree v cycle left o → (m : ℕ) (ws : List (List ℕ)) → o ≡ DoneAt m ws → cycle ≤ m
      no_earlier v cycle left (DoneAt k us) (ends look w e) m ws f = let same : k ≡ m = cc in omega arith
      no_earlier v cycle zero NotDone (spent look w e) m ws f = absurd (other f)
        where
          other : NotDone ≡ DoneAt m ws → ⊥
          other x = cc
      no_earlier v cycle (suc left) o (goes_on look w e rest) m ws f = let le : cycle + 1 ≤ m = no_earlier (net_after tree false true v look) (cycle + 1) left o rest m ws f in omega arith

      pub cannot : (n cycle left m : ℕ) (ws : List (List ℕ)) (c : Place) (s : Kept) (v : NetState) (o : Outcome) → Good c s → Shows c s v → NetRunsFrom tree v cycle left o → o ≡ DoneAt m ws
          → ((j : ℕ) → j < n → Quiet (later j (record { control = c; store = s }))) → ((j : ℕ) → j ≤ n → is_done (Moment.control (later j (record { control = c; store = s }))) ≡ false) → m ≤ cycle + n → ⊥
      cannot n cycle left m ws Done s v o g h ran f quiet going le = true_false (going 0 (omega arith))
      cannot n cycle left m ws (At p) s v (DoneAt k us) g h (ends look w e) f quiet going le = true_false (sym e ∙ law.waits p s v look h w)
      cannot n cycle zero m ws (At p) s v NotDone g h (spent look w e) f quiet going le = other f
        where
          other : NotDone ≡ DoneAt m ws → ⊥
          other x = cc
      cannot zero cycle (suc left) m ws (At p) s v o g h (goes_on look w e rest) f quiet going le =
          let low : cycle + 1 ≤ m = no_earlier (net_after tree false true v look) (cycle + 1) left o rest m ws f in absurd (omega arith)
      cannot (suc n) cycle (suc left) m ws (At p) s v o g h (goes_on look w e rest) f quiet going le =
          let q = quiet 0 (omega arith) in
          cannot n (cycle + 1) left m ws (next (At p) s) (after (At p) s) (net_after tree false true v look) o (law.good p s g q.clean) (law.keeps p s v look g q.clean h w) rest f
          (λ j lt. quiet (suc j) (omega arith)) (λ j l. going (suc j) (omega arith)) (omega arith)
