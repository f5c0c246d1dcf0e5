-- Where no static invoke and no static child is, an island does what it did: its list, its cycles, its run.
use Rattle.std.proofs.Common.{◌≡◌, ℕ, zero, suc, ◌+◌, ◌*◌, ◌-◌, max, Bool, true, false, ◌&&◌, nat_le, nat_lt, nat_eq, List, [], ◌∷◌, ◌++◌, map, Option, Some, None, refl, sym, ap, ◌∙◌}
use Rattle.cx_meaning.specs.declared.ports.PortRef.{PortRef}
use Rattle.cx_meaning.specs.declared.sights.Seen.{Seen}
use Rattle.cx_meaning.specs.declared.sights.Seen.TheVariants as sights
use Rattle.cx_meaning.specs.Designs.{PlainComponent, PlainForm, Empty, Enable, Seq, Par, If, While, Repeat, StaticSeq, StaticPar, StaticIf, StaticRepeat, Timed, PlainStatement, Placed, PlainStatements, no_statements, a_statement}
use Rattle.cx_meaning.specs.Instances.{Instance, Node, Cells, no_cells, a_primitive, an_instance, cells_of, State, Path, under}
use Rattle.cx_meaning.specs.Active.{Active, Entry, entries}
use Rattle.cx_meaning.specs.Sights.{Look, Held, seen}
use Rattle.cx_meaning.specs.Cycles.{Fault, Ended, cycle}
use Rattle.cx_meaning.specs.Islands.{group_length, form_length, length_of, sum_length, max_length, Condition, condition, Occurrence, occurrence, rounds_from, form_flat, flat, seq_flat, par_flat, is_wanted, entry_if, port_if, active_in, looked_at, is_one, fault_of, unless_unclear, island_turn, island_from, island}
use Rattle.cx_meaning.specs.Islands as islands
use Rattle.cx_rules.specs.Invokes.{form_lasts, lasts, sum_lasts, max_lasts}
use Rattle.cx_flattening.specs.Events.{spot, Sample, Event, Runs, Looks, Beginning, Events, also_if, group_events, rounds_events, form_events, events, seq_events, par_events}
use Rattle.cx_flattening.specs.Deeds.{History, hold, Deed, Acts, deed_if, deeds_in, spot_if, looked_in, own_entries, deeds_below, fault_in, or_later, first_unclear, held_below}
use Rattle.cx_flattening.specs.Whole.{is_static, child_if, whole_cycle, cycles_below}

-- no static invoke stands in it
abbrev mutual
  pub Bare : PlainForm → Type 0
  Bare Empty = Unit {0}
  Bare (Enable g) = Unit {0}
  Bare (Seq ss) = BareAll ss
  Bare (Par arms) = BareAll arms
  Bare (If test comb a b) = BareOne a × BareOne b
  Bare (While test comb a) = BareOne a
  Bare (Repeat count a) = BareOne a
  Bare (StaticSeq length ss) = BareAll ss
  Bare (StaticPar length arms) = BareAll arms
  Bare (StaticIf length test a b) = BareOne a × BareOne b
  Bare (StaticRepeat length count a) = BareOne a
  Bare (Timed k) = ⊥

  pub BareOne : PlainStatement → Type 0
  BareOne (Placed form place) = Bare form

  pub BareAll : PlainStatements → Type 0
  BareAll no_statements = Unit {0}
  BareAll (a_statement s ss) = BareOne s × BareAll ss

-- what stands in the landed list, at the island's own instance
abbrev pub sample_of : Condition → Sample
sample_of c = record { spot = spot [] c.port; cycle = c.at; wanted = c.wanted }

abbrev pub event_of : Occurrence → Event
event_of (islands.Runs g from to conditions) = Runs [] g from to (map sample_of conditions)
event_of (islands.Looks port at conditions) = Looks (spot [] port) at (map sample_of conditions)

abbrev pub begun : ℕ → List Condition → Beginning
begun x cs = record { at = []; bound = spot []; from = x; conditions = map sample_of cs }

events_both : (xs ys : List Occurrence) → map event_of (xs ++ ys) ≡ map event_of xs ++ map event_of ys
events_both [] ys = refl
events_both (x ∷ xs) ys = ap (λ l. event_of x ∷ l) (events_both xs ys)

module _ (part : PlainComponent) (below : ℕ → Events) where
  mutual
    pub bare_form_lasts : (form : PlainForm) → Bare form → form_lasts part form ≡ form_length part form
    bare_form_lasts Empty u = refl
    bare_form_lasts (Enable g) u = refl
    bare_form_lasts (Seq ss) u = refl
    bare_form_lasts (Par arms) u = refl
    bare_form_lasts (If test comb a b) u = refl
    bare_form_lasts (While test comb a) u = refl
    bare_form_lasts (Repeat count a) u = refl
    bare_form_lasts (StaticSeq length ss) u = bare_sum ss u
    bare_form_lasts (StaticPar length arms) u = bare_max arms u
    bare_form_lasts (StaticIf length test a b) u = ap (λ n. max n (lasts part b)) (bare_lasts a u.0) ∙ ap (max (length_of part a)) (bare_lasts b u.1)
    bare_form_lasts (StaticRepeat length count a) u = ap (λ n. count * n) (bare_lasts a u)
    bare_form_lasts (Timed k) u = absurd u

    pub bare_lasts : (s : PlainStatement) → BareOne s → lasts part s ≡ length_of part s
    bare_lasts (Placed form place) u = bare_form_lasts form u

    bare_sum : (ss : PlainStatements) → BareAll ss → sum_lasts part ss ≡ sum_length part ss
    bare_sum no_statements u = refl
    bare_sum (a_statement s ss) u = ap (λ n. n + sum_lasts part ss) (bare_lasts s u.0) ∙ ap (λ n. length_of part s + n) (bare_sum ss u.1)

    bare_max : (ss : PlainStatements) → BareAll ss → max_lasts part ss ≡ max_length part ss
    bare_max no_statements u = refl
    bare_max (a_statement s ss) u = ap (λ n. max n (max_lasts part ss)) (bare_lasts s u.0) ∙ ap (max (length_of part s)) (bare_max ss u.1)

  one_event : (g x : ℕ) (cs : List Condition) (o : Option ℕ) → group_events g o (begun x cs) ≡ map event_of (occurrence g x cs o)
  one_event g x cs None = refl
  one_event g x cs (Some n) = refl

  round_events : (body : Events) (list : ℕ → List Occurrence) (cs : List Condition) → ((x : ℕ) → body (begun x cs) ≡ map event_of (list x)) → (p k x : ℕ)
      → rounds_events body p k (begun x cs) ≡ map event_of (rounds_from list p k x)
  round_events body list cs h p zero x = refl
  round_events body list cs h p (suc k) x =
      ap (λ l. l ++ rounds_events body p k (begun (x + p) cs)) (h x) ∙ ap (λ l. map event_of (list x) ++ l) (round_events body list cs h p k (x + p))
      ∙ sym (events_both (list x) (rounds_from list p k (x + p)))

  mutual
    pub bare_form : (form : PlainForm) → Bare form → (x : ℕ) (cs : List Condition) → form_events part below form (begun x cs) ≡ map event_of (form_flat part form x cs)
    bare_form Empty u x cs = refl
    bare_form (Enable g) u x cs = one_event g x cs (group_length part g)
    bare_form (Seq ss) u x cs = refl
    bare_form (Par arms) u x cs = refl
    bare_form (If test comb a b) u x cs = refl
    bare_form (While test comb a) u x cs = refl
    bare_form (Repeat count a) u x cs = refl
    bare_form (StaticSeq length ss) u x cs = bare_seq ss u x cs
    bare_form (StaticPar length arms) u x cs = bare_par arms u x cs
    bare_form (StaticIf length test a b) u x cs =
        ap (λ l. Looks (spot [] test.port) x (map sample_of cs) ∷ l)
        (ap (λ l. l ++ events part below b (also_if (spot [] test.port) false (begun x cs))) (bare_events a u.0 x (condition test.port x true ∷ cs))
        ∙ ap (λ l. map event_of (flat part a x (condition test.port x true ∷ cs)) ++ l) (bare_events b u.1 x (condition test.port x false ∷ cs))
        ∙ sym (events_both (flat part a x (condition test.port x true ∷ cs)) (flat part b x (condition test.port x false ∷ cs))))
    bare_form (StaticRepeat length count a) u x cs =
        ap (λ p. rounds_events (events part below a) p count (begun x cs)) (bare_lasts a u)
        ∙ round_events (events part below a) (λ y. flat part a y cs) cs (λ y. bare_events a u y cs) (length_of part a) count x
    bare_form (Timed k) u x cs = absurd u

    -- THE LIST is the landed one
    pub bare_events : (s : PlainStatement) → BareOne s → (x : ℕ) (cs : List Condition) → events part below s (begun x cs) ≡ map event_of (flat part s x cs)
    bare_events (Placed form place) u x cs = bare_form form u x cs

    bare_seq : (ss : PlainStatements) → BareAll ss → (x : ℕ) (cs : List Condition) → seq_events part below ss (begun x cs) ≡ map event_of (seq_flat part ss x cs)
    bare_seq no_statements u x cs = refl
    bare_seq (a_statement s ss) u x cs =
        ap (λ l. l ++ seq_events part below ss (begun (x + lasts part s) cs)) (bare_events s u.0 x cs)
        ∙ ap (λ p. map event_of (flat part s x cs) ++ seq_events part below ss (begun (x + p) cs)) (bare_lasts s u.0)
        ∙ ap (λ l. map event_of (flat part s x cs) ++ l) (bare_seq ss u.1 (x + length_of part s) cs)
        ∙ sym (events_both (flat part s x cs) (seq_flat part ss (x + length_of part s) cs))

    bare_par : (ss : PlainStatements) → BareAll ss → (x : ℕ) (cs : List Condition) → par_events part below ss (begun x cs) ≡ map event_of (par_flat part ss x cs)
    bare_par no_statements u x cs = refl
    bare_par (a_statement s ss) u x cs =
        ap (λ l. l ++ par_events part below ss (begun x cs)) (bare_events s u.0 x cs)
        ∙ ap (λ l. map event_of (flat part s x cs) ++ l) (bare_par ss u.1 x cs)
        ∙ sym (events_both (flat part s x cs) (par_flat part ss x cs))

-- histories that say the same of the instance's own ports
abbrev pub Says : History → islands.History → Type 0
Says h k = (p : PortRef) (at : ℕ) → h (spot [] p) at ≡ k p at

module _ (h : History) (k : islands.History) (says : Says h k) where
  holds : (cs : List Condition) → hold h (map sample_of cs) ≡ islands.hold k cs
  holds [] = refl
  holds (c ∷ rest) = ap (λ b. is_wanted c.wanted b && hold h (map sample_of rest)) (says c.port c.at) ∙ ap (λ b. is_wanted c.wanted (k c.port c.at) && b) (holds rest)

  entry_same : (b : Bool) (e : Entry) (rest : List Deed) (list : List Entry) → own_entries rest ≡ list → own_entries (deed_if b (Acts [] e) rest) ≡ entry_if b e.group e.offset list
  entry_same true e rest list same = ap (λ l. e ∷ l) same
  entry_same false e rest list same = same

  -- the groups that act in a cycle, and the ports that are looked at
  pub acts_same : (t : ℕ) (list : List Occurrence) → own_entries (deeds_in h t (map event_of list)) ≡ active_in k t list
  acts_same t [] = refl
  acts_same t (islands.Runs g from to conditions ∷ rest) =
      ap (λ b. own_entries (deed_if (nat_le from t && nat_lt t to && b) (Acts [] (record { group = g; offset = t - from })) (deeds_in h t (map event_of rest)))) (holds conditions)
      ∙ entry_same (nat_le from t && nat_lt t to && islands.hold k conditions) (record { group = g; offset = t - from }) (deeds_in h t (map event_of rest)) (active_in k t rest) (acts_same t rest)
  acts_same t (islands.Looks port at conditions ∷ rest) = acts_same t rest

  spot_same : (b : Bool) (p : PortRef) (rest : List PortRef) → spot_if b (spot [] p) (map (spot []) rest) ≡ map (spot []) (port_if b p rest)
  spot_same true p rest = refl
  spot_same false p rest = refl

  pub looks_same : (t : ℕ) (list : List Occurrence) → looked_in h t (map event_of list) ≡ map (spot []) (looked_at k t list)
  looks_same t [] = refl
  looks_same t (islands.Runs g from to conditions ∷ rest) = looks_same t rest
  looks_same t (islands.Looks port at conditions ∷ rest) =
      ap (λ b. spot_if (nat_eq t at && b) (spot [] port) (looked_in h t (map event_of rest))) (holds conditions)
      ∙ ap (spot_if (nat_eq t at && islands.hold k conditions) (spot [] port)) (looks_same t rest)
      ∙ spot_same (nat_eq t at && islands.hold k conditions) port (looked_at k t rest)

-- the first port that is no value
unclear_one : (port : PortRef) (x : Seen) (later : Option Fault) → or_later (fault_in [] (fault_of port x None)) later ≡ fault_of port x later
unclear_one port (sights.Value b) later = refl
unclear_one port sights.Conflict later = refl
unclear_one port sights.Undefined later = refl

pub unclear_same : (look : Path → Look) (list : List PortRef) → first_unclear look (map (spot []) list) ≡ islands.first_unclear (look []) list
unclear_same look [] = refl
unclear_same look (port ∷ rest) = unclear_one port (look [] port) (first_unclear look (map (spot []) rest)) ∙ ap (fault_of port (look [] port)) (unclear_same look rest)

-- no child is of a static component
abbrev pub NoStatic : Cells → Type 0
NoStatic no_cells = Unit {0}
NoStatic (a_primitive row rest) = NoStatic rest
NoStatic (an_instance child rest) = (is_static child ≡ false) × NoStatic rest

no_cycles : (cells : Cells) → NoStatic cells → (c : ℕ) (look : Look) (deeds : List Deed) (s : State) (before : Ended) → cycles_below cells c look deeds s before ≡ before
no_cycles no_cells u c look deeds s before = refl
no_cycles (a_primitive row rest) u c look deeds s before = no_cycles rest u (suc c) look deeds s before
no_cycles (an_instance child rest) u c look deeds s before =
    ap (λ b. cycles_below rest (suc c) look deeds s (child_if b c before (whole_cycle child (held_below look c deeds) (entries (own_entries (deeds_below c deeds))) (deeds_below c deeds) (under c s)))) u.0
    ∙ no_cycles rest u.1 (suc c) look deeds s before

-- A CYCLE is the landed one
pub whole_is_cycle : (i : Instance) → NoStatic (cells_of i) → (held : Held) (act : Active) (deeds : List Deed) (s : State) → whole_cycle i held act deeds s ≡ cycle i held act s
whole_is_cycle (Node part cells) u held act deeds s = no_cycles cells u 0 (seen (Node part cells) held act s) deeds s (cycle (Node part cells) held act s)
