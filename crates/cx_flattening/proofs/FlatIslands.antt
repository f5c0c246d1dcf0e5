-- AN ISLAND of the flat instance is that of the tree: the same samples, the same cycles, the same end.
use Rattle.std.proofs.Common.{◌≡◌, ℕ, zero, suc, ◌+◌, ◌*◌, max, true, false, nat_eq, List, [], ◌∷◌, ◌++◌, length, get_or, Option, Some, None, refl, sym, ap, ◌∙◌, subst, arith}
use Rattle.std.proofs.lemmas.List.{append-nil, append_assoc}
use Rattle.std.specs.Prelude.{if◌then◌else◌}
use Rattle.cx_meaning.specs.declared.ports.PortRef.{PortRef}
use Rattle.cx_meaning.specs.declared.ports.PortRef.TheVariants as ports
use Rattle.cx_meaning.specs.declared.sights.Seen.{Seen}
use Rattle.cx_meaning.specs.declared.sights.Seen.TheVariants as sights
use Rattle.cx_meaning.specs.declared.sights.FaultKind.TheVariants as faults
use Rattle.cx_meaning.specs.Designs.{PlainComponent, no_group, PlainForm, Empty, Enable, Seq, Par, If, While, Repeat, StaticSeq, StaticPar, StaticIf, StaticRepeat, Timed, PlainStatement, Placed, PlainStatements, no_statements, a_statement}
use Rattle.cx_meaning.specs.Instances.{Instance, Node, Cells, no_cells, a_primitive, an_instance, OfInstance, part_of, cells_of, cell_at, Path, State, idle}
use Rattle.cx_meaning.specs.Truths.{truth_of}
use Rattle.cx_meaning.specs.Active.{nothing, entries}
use Rattle.cx_meaning.specs.Sights.{Look, Held, seen}
use Rattle.cx_meaning.specs.Cycles.{Fault, Ended, Goes, Faults, cycle}
use Rattle.cx_meaning.specs.Answers.{Answer, End, More, Turn, turn_then, after_turns, idle_turn}
use Rattle.cx_meaning.specs.Answers as answers
use Rattle.cx_meaning.specs.Islands.{kind_length, group_length, or_zero, form_length, length_of, sum_length, max_length, Condition, condition, Occurrence, occurrence, rounds_from, form_flat, flat, seq_flat, par_flat, is_one, fault_of, turn_of, unless_unclear, active_in, looked_at, island_turn, island_from, island}
use Rattle.cx_meaning.specs.Islands as islands
use Rattle.cx_rules.specs.Invokes.{form_lasts}
use Rattle.cx_flattening.proofs.FlatSafe.{flat_acyclic}
use Rattle.cx_flattening.proofs.FlatDeeper.{flat_deeper}
use Rattle.cx_flattening.specs.Events.{Spot, spot, Event}
use Rattle.cx_flattening.specs.Deeds.{History, no_history, own_entries, deeds_in, looked_in, and_now, fault_in, or_later, first_unclear}
use Rattle.cx_flattening.specs.Whole.{whole_cycle, look_below, whole_turn, whole_from, whole_island}
use Rattle.cx_flattening.specs.Flattened.{kept_at, Kids, flat_kids, flat_part, flat_form, start_of}
use Rattle.cx_flattening.specs.Acting.{ActsAs}
use Rattle.cx_flattening.specs.Embedded.{Stands}
use Rattle.cx_flattening.specs.FlatFaults.{flat_spot, at_spot, flat_fault, CycleAs}
use Rattle.cx_flattening.specs.Beside.{IsBeside}
use Rattle.cx_flattening.specs.Turning.{TurnAs}
use Rattle.cx_flattening.specs.Runs.{AnswerAs}
use Rattle.cx_flattening.specs.Sampling.{AllSpots, SpotsBelow, SampledAlike, AgreesAt}
use Rattle.cx_flattening.specs.Lists.{island_events, IsIsland}
use Rattle.cx_flattening.proofs.FlatCycles.{spot-in}
use Rattle.cx_flattening.proofs.FlatTops.{flat_seen, flat_cycle, all_numbers, top_played}
use Rattle.cx_flattening.proofs.StillActs.{still_tops}
use Rattle.cx_flattening.proofs.FlatLists.{island_length, island_acts, island_looks}
use Rattle.cx_flattening.proofs.FlatLooks.{AllRelated}
use Rattle.cx_flattening.proofs.FlatSpots.{look_from, spots_seen}
use Rattle.cx_flattening.proofs.IdleStands.{idle_stands}

-- RELATIONS of spots and ports, joined
module _ (R T V : Spot → PortRef → Type 0) (join : (x : Spot) (q : PortRef) → R x q → T x q → V x q) where
  mutual
    all_joined : (i : Instance) (first : ℕ) (at : Path) → AllSpots R i first at → AllSpots T i first at → AllSpots V i first at
    all_joined (Node part cells) first at a b = (λ p named own. join _ _ (a.0 p named own) (b.0 p named own), below_joined cells (flat_kids cells) part 0 first at a.1 b.1)

    below_joined : (rest : Cells) (kids : Kids) (part : PlainComponent) (c first : ℕ) (at : Path) → SpotsBelow R kids part rest c first at → SpotsBelow T kids part rest c first at → SpotsBelow V kids part rest c first at
    below_joined no_cells kids part c first at a b = tt
    below_joined (a_primitive row rest) kids part c first at a b = below_joined rest kids part (suc c) first at a b
    below_joined (an_instance child rest) kids part c first at a b = (λ static. all_joined child (first + start_of kids part c) (at ++ (c ∷ [])) (a.0 static) (b.0 static), below_joined rest kids part (suc c) first at a.1 b.1)

-- THE PORT of a fault at a spot
abbrev IsToldAt : Instance → Spot → PortRef → Type 0
IsToldAt top x q = flat_spot top 0 x.at x.port ≡ spot [] q

module _ (top : Instance) where
  mutual
    spots_told : (i : Instance) (first : ℕ) (at : Path) → ((path : Path) (p : PortRef) → flat_spot top 0 (at ++ path) p ≡ flat_spot i first path p) → AllSpots (IsToldAt top) i first at
    spots_told (Node part cells) first at same =
        (λ p named own. ap (λ path. flat_spot top 0 path p) (sym (append-nil at)) ∙ same [] p, below_told cells part cells 0 (λ n. ap (cell_at cells) (plus n)) first at same)
      where
        plus : (a : ℕ) → a ≡ 0 + a
        plus a = omega arith

    below_told : (rest : Cells) (part : PlainComponent) (cells : Cells) (c : ℕ) → ((n : ℕ) → cell_at rest n ≡ cell_at cells (c + n)) → (first : ℕ) (at : Path) → ((path : Path) (p : PortRef) → flat_spot top 0 (at ++ path) p ≡ flat_spot (Node part cells) first path p)
        → SpotsBelow (IsToldAt top) (flat_kids cells) part rest c first at
    below_told no_cells part cells c tail first at same = tt
    below_told (a_primitive row rest) part cells c tail first at same = below_told rest part cells (suc c) (λ n. tail (suc n) ∙ ap (cell_at cells) (plus c n)) first at same
      where
        plus : (a b : ℕ) → a + suc b ≡ suc a + b
        plus a b = omega arith
    below_told (an_instance child rest) part cells c tail first at same = (
      λ static. spots_told child (first + start_of (flat_kids cells) part c) (at ++ (c ∷ []))
          (λ path p. ap (λ whole. flat_spot top 0 whole p) (append_assoc at (c ∷ []) path) ∙ same (c ∷ path) p ∙ spot-in cells c child (first + start_of (flat_kids cells) part c) (first + kept_at (flat_kids cells) c) path p at_cell static),
      below_told rest part cells (suc c) (λ n. tail (suc n) ∙ ap (cell_at cells) (plus c n)) first at same,
    )
      where
        plus : (a b : ℕ) → a + suc b ≡ suc a + b
        plus a b = omega arith

        zero_plus : (a : ℕ) → a + 0 ≡ a
        zero_plus a = omega arith

        at_cell : cell_at cells c ≡ OfInstance child
        at_cell = ap (cell_at cells) (sym (zero_plus c)) ∙ sym (tail 0)

-- LISTS depend on the lengths of groups alone
module _ (P Q : PlainComponent) (same : (g : ℕ) → group_length P g ≡ group_length Q g) where
  mutual
    pub form_length-like : (form : PlainForm) → form_length P form ≡ form_length Q form
    form_length-like Empty = refl
    form_length-like (Enable g) = ap or_zero (same g)
    form_length-like (Seq ss) = refl
    form_length-like (Par arms) = refl
    form_length-like (If test comb a b) = refl
    form_length-like (While test comb a) = refl
    form_length-like (Repeat count a) = refl
    form_length-like (StaticSeq length ss) = sum_length-like ss
    form_length-like (StaticPar length arms) = max_length-like arms
    form_length-like (StaticIf length test a b) = ap (λ n. max n (length_of P b)) (length_of-like a) ∙ ap (max (length_of Q a)) (length_of-like b)
    form_length-like (StaticRepeat length count a) = ap (λ n. count * n) (length_of-like a)
    form_length-like (Timed k) = refl

    length_of-like : (s : PlainStatement) → length_of P s ≡ length_of Q s
    length_of-like (Placed form place) = form_length-like form

    sum_length-like : (ss : PlainStatements) → sum_length P ss ≡ sum_length Q ss
    sum_length-like no_statements = refl
    sum_length-like (a_statement s ss) = ap (λ n. n + sum_length P ss) (length_of-like s) ∙ ap (λ n. length_of Q s + n) (sum_length-like ss)

    max_length-like : (ss : PlainStatements) → max_length P ss ≡ max_length Q ss
    max_length-like no_statements = refl
    max_length-like (a_statement s ss) = ap (λ n. max n (max_length P ss)) (length_of-like s) ∙ ap (max (length_of Q s)) (max_length-like ss)

  rounds-like : (one other : ℕ → List Occurrence) → ((x : ℕ) → one x ≡ other x) → (m n count x : ℕ) → m ≡ n → rounds_from one m count x ≡ rounds_from other n count x
  rounds-like one other alike m n zero x e = refl
  rounds-like one other alike m n (suc count) x e = ap (λ l. l ++ rounds_from one m count (x + m)) (alike x) ∙ ap (λ l. other x ++ l) (rounds-like one other alike m n count (x + m) e ∙ ap (λ z. rounds_from other n count (x + z)) e)

  mutual
    pub form_flat-like : (form : PlainForm) (x : ℕ) (cs : List Condition) → form_flat P form x cs ≡ form_flat Q form x cs
    form_flat-like Empty x cs = refl
    form_flat-like (Enable g) x cs = ap (occurrence g x cs) (same g)
    form_flat-like (Seq ss) x cs = refl
    form_flat-like (Par arms) x cs = refl
    form_flat-like (If test comb a b) x cs = refl
    form_flat-like (While test comb a) x cs = refl
    form_flat-like (Repeat count a) x cs = refl
    form_flat-like (StaticSeq length ss) x cs = seq_flat-like ss x cs
    form_flat-like (StaticPar length arms) x cs = par_flat-like arms x cs
    form_flat-like (StaticIf length test a b) x cs =
        ap (λ l. islands.Looks test.port x cs ∷ (l ++ flat P b x (condition test.port x false ∷ cs))) (flat-like a x (condition test.port x true ∷ cs))
        ∙ ap (λ l. islands.Looks test.port x cs ∷ (flat Q a x (condition test.port x true ∷ cs) ++ l)) (flat-like b x (condition test.port x false ∷ cs))
    form_flat-like (StaticRepeat length count a) x cs = rounds-like (λ y. flat P a y cs) (λ y. flat Q a y cs) (λ y. flat-like a y cs) (length_of P a) (length_of Q a) count x (length_of-like a)
    form_flat-like (Timed k) x cs = refl

    flat-like : (s : PlainStatement) (x : ℕ) (cs : List Condition) → flat P s x cs ≡ flat Q s x cs
    flat-like (Placed form place) x cs = form_flat-like form x cs

    seq_flat-like : (ss : PlainStatements) (x : ℕ) (cs : List Condition) → seq_flat P ss x cs ≡ seq_flat Q ss x cs
    seq_flat-like no_statements x cs = refl
    seq_flat-like (a_statement s ss) x cs =
        ap (λ l. l ++ seq_flat P ss (x + length_of P s) cs) (flat-like s x cs) ∙ ap (λ n. flat Q s x cs ++ seq_flat P ss (x + n) cs) (length_of-like s) ∙ ap (λ l. flat Q s x cs ++ l) (seq_flat-like ss (x + length_of Q s) cs)

    par_flat-like : (ss : PlainStatements) (x : ℕ) (cs : List Condition) → par_flat P ss x cs ≡ par_flat Q ss x cs
    par_flat-like no_statements x cs = refl
    par_flat-like (a_statement s ss) x cs = ap (λ l. l ++ par_flat P ss x cs) (flat-like s x cs) ∙ ap (λ l. flat Q s x cs ++ l) (par_flat-like ss x cs)

-- ANSWERS
abbrev told_fault : Instance → Option Fault → Option Fault
told_fault i None = None
told_fault i (Some f) = Some (flat_fault i 0 f)

later_as : (i : Instance) (x y : Answer State Fault) → AnswerAs i x y → AnswerAs i (after_turns 1 x) (after_turns 1 y)
later_as i (End after n) y h = (h.0, ap (after_turns 1) h.1, h.2)
later_as i (answers.Fault f n) y h = ap (after_turns 1) h
later_as i More y h = ap (after_turns 1) h

pub turn_as : (i : Instance) (x y : Ended) → CycleAs i x y → TurnAs i (turn_of x) (turn_of y)
turn_as i (Goes after) y h = (h.0, ap turn_of h.1, h.2)
turn_as i (Faults f) y h = ap turn_of h

unclear_as : (i : Instance) (u v : Option Fault) (x y : Ended) → v ≡ told_fault i u → CycleAs i x y → TurnAs i (unless_unclear u x) (unless_unclear v y)
unclear_as i None v x y e h = subst (λ w. TurnAs i (turn_of x) (unless_unclear w y)) (sym e) (turn_as i x y h)
unclear_as i (Some f) v x y e h = ap (λ w. unless_unclear w y) e

-- the first port that is no value
first_as : (i : Instance) (below : Path → Look) (look : Look) (S : Spot → PortRef → Type 0) → ((x : Spot) (q : PortRef) → S x q → (look q ≡ below x.at x.port) × IsToldAt i x q)
    → (xs : List Spot) (qs : List PortRef) → AllRelated S xs qs → islands.first_unclear look qs ≡ told_fault i (first_unclear below xs)
first_as i below look S gives [] [] r = refl
first_as i below look S gives [] (q ∷ qs) r = absurd r
first_as i below look S gives (x ∷ xs) [] r = absurd r
first_as i below look S gives (x ∷ xs) (q ∷ qs) r =
    let g = gives x q r.0 in
    one (below x.at x.port) (look q) g.0 (first_unclear below xs) (islands.first_unclear look qs) (first_as i below look S gives xs qs r.1) g.1
  where
    one : (y w : Seen) → w ≡ y → (u v : Option Fault) → v ≡ told_fault i u → IsToldAt i x q → fault_of q w v ≡ told_fault i (or_later (fault_in x.at (fault_of x.port y None)) u)
    one (sights.Value b) w e u v same told = ap (λ z. fault_of q z v) e ∙ same
    one sights.Conflict w e u v same told = ap (λ z. fault_of q z v) e ∙ ap (λ y. Some (at_spot faults.Conflict y)) (sym told)
    one sights.Undefined w e u v same told = ap (λ z. fault_of q z v) e ∙ ap (λ y. Some (at_spot faults.Undefined y)) (sym told)

-- a turn, and then the rest
pub turn_then_as : (i flat : Instance) (s z : State) (x y : Turn State Fault) (go more : State → Answer State Fault) → TurnAs i x y → Stands i 0 (idle i s) (idle flat z) → ((after w : State) → Stands i 0 after w → AnswerAs i (go after) (more w))
    → AnswerAs i (turn_then (idle i) s x go) (turn_then (idle flat) z y more)
turn_then_as i flat s z answers.Ends y go more h idles later = (idle flat z, ap (λ u. turn_then (idle flat) z u more) h, idles)
turn_then_as i flat s z (answers.Goes after) y go more h idles later =
    subst (λ u. AnswerAs i (after_turns 1 (go after)) (turn_then (idle flat) z u more)) (sym h.1) (later_as i (go after) (more h.0) (later after h.0 h.2))
turn_then_as i flat s z (answers.Faults f) y go more h idles later = ap (λ u. turn_then (idle flat) z u more) h

mutual
  pub spots_all : (R : Spot → PortRef → Type 0) → ((x : Spot) (q : PortRef) → R x q) → (i : Instance) (first : ℕ) (at : Path) → AllSpots R i first at
  spots_all R all (Node part cells) first at = (λ p named own. all _ _, spots_all_below R all cells (flat_kids cells) part 0 first at)

  spots_all_below : (R : Spot → PortRef → Type 0) → ((x : Spot) (q : PortRef) → R x q) → (rest : Cells) (kids : Kids) (part : PlainComponent) (c first : ℕ) (at : Path) → SpotsBelow R kids part rest c first at
  spots_all_below R all no_cells kids part c first at = tt
  spots_all_below R all (a_primitive row rest) kids part c first at = spots_all_below R all rest kids part (suc c) first at
  spots_all_below R all (an_instance child rest) kids part c first at = (λ static. spots_all R all child (first + start_of kids part c) (at ++ (c ∷ [])), spots_all_below R all rest kids part (suc c) first at)

look_is : (i : Instance) (held : Held) (s : State) (path : Path) (p : PortRef) → look_below i held s path p ≡ look_from i held nothing s path p
look_is (Node part cells) held s [] p = refl
look_is (Node part cells) held s (c ∷ path) p = refl

look_own : (i : Instance) (held : Held) (s : State) (p : PortRef) → seen i held nothing s p ≡ look_below i held s [] p
look_own (Node part cells) held s p = refl

told_input : (i : Instance) (n : ℕ) → flat_spot i 0 [] (ports.Input n) ≡ spot [] (ports.Input n)
told_input (Node part cells) n = refl

told_below : (i : Instance) (path : Path) (p : PortRef) → flat_spot i 0 ([] ++ path) p ≡ flat_spot i 0 path p
told_below i path p = refl

-- samples agree after those of one more cycle
sampled_now : (h : History) (k : islands.History) (t : ℕ) (below : Path → Look) (look : Look) (x : Spot) (q : PortRef) → SampledAlike h k x q → look q ≡ below x.at x.port → SampledAlike (and_now h t below) (islands.and_now k t look) x q
sampled_now h k t below look x q same e u =
    ap (λ y. if nat_eq t u then is_one (truth_of y) else k q u) e ∙ ap (λ b. if nat_eq t u then is_one (truth_of (below x.at x.port)) else b) (same u)

module _ (i flat : Instance) (form : PlainForm) (held : Held) (its : IsIsland i flat form) where
  abbrev pub F : PlainForm
  F = flat_form (flat_kids (cells_of i)) (part_of i) form

  abbrev pub L : List Event
  L = island_events i form

  abbrev pub M : List Occurrence
  M = form_flat (part_of flat) F 0 []

  pub lengths : (g : ℕ) → group_length (part_of flat) g ≡ group_length (flat_part i) g
  lengths g = ap (λ gs. kind_length (get_or gs g no_group).kind) its.flattened.0.groups

  list_is : M ≡ form_flat (flat_part i) F 0 []
  list_is = form_flat-like (part_of flat) (flat_part i) lengths F 0 []

  module _ (s z : State) (stands : Stands i 0 s z) where
    calm_beside : IsBeside i flat nothing nothing [] s z
    calm_beside = record {
      flattened = its.flattened;
      fair = its.fair;
      stands = stands;
      acts = still_tops i;
      done = refl;
      kept = λ c none. absurd (cc);
      no_circle = its.still;
    }

    seen_there : AllSpots (λ x q. seen flat held nothing z q ≡ look_below i held s x.at x.port) i 0 []
    seen_there =
        spots_seen flat held nothing z (flat_acyclic i flat its.flattened its.fair nothing nothing [] (still_tops i) its.still) (flat_deeper i flat its.flattened its.fair nothing [] its.still) (look_below i held s) i its.fair 0 (λ q. q) held nothing nothing s all_numbers all_numbers all_numbers (top_played i flat held nothing nothing [] s z calm_beside)
        (still_tops i) its.still (λ d sources e n less. tt) [] (λ path p. look_is i held s path p)

    told_there : AllSpots (IsToldAt i) i 0 []
    told_there = spots_told i i 0 [] (told_below i)

    module _ (h : History) (k : islands.History) (t : ℕ) (agree : AgreesAt h k i 0 []) (inputs : (n u : ℕ) → k (ports.Input n) u ≡ h (spot [] (ports.Input n)) u) where
      abbrev pub now : History
      now = and_now h t (look_below i held s)

      abbrev pub flat_now : islands.History
      flat_now = islands.and_now k t (seen flat held nothing z)

      -- what is known of a port that is tested in this cycle
      abbrev Known : Spot → PortRef → Type 0
      Known x q = SampledAlike now flat_now x q × ((seen flat held nothing z q ≡ look_below i held s x.at x.port) × IsToldAt i x q)

      known : AllSpots Known i 0 []
      known =
          all_joined (SampledAlike h k) (λ x q. (seen flat held nothing z q ≡ look_below i held s x.at x.port) × IsToldAt i x q) Known
          (λ x q a b. (sampled_now h k t (look_below i held s) (seen flat held nothing z) x q a b.0, b)) i 0 [] agree
          (all_joined (λ x q. seen flat held nothing z q ≡ look_below i held s x.at x.port) (IsToldAt i) (λ x q. (seen flat held nothing z q ≡ look_below i held s x.at x.port) × IsToldAt i x q) (λ x q a b. (a, b)) i 0 [] seen_there told_there)

      input_seen : (n : ℕ) → seen flat held nothing z (ports.Input n) ≡ look_below i held s [] (ports.Input n)
      input_seen n = flat_seen i flat held nothing nothing [] s z (ports.Input n) calm_beside tt ∙ look_own i held s (ports.Input n)

      pub known_input : (n : ℕ) → Known (spot [] (ports.Input n)) (ports.Input n)
      known_input n = (sampled_now h k t (look_below i held s) (seen flat held nothing z) (spot [] (ports.Input n)) (ports.Input n) (inputs n) (input_seen n), (input_seen n, told_input i n))

      pub agree_now : AgreesAt now flat_now i 0 []
      agree_now = all_joined Known Known (SampledAlike now flat_now) (λ x q a b. a.0) i 0 [] known known

      pub acts_now : ActsAs i (entries (own_entries (deeds_in now t L))) (deeds_in now t L) (entries (active_in flat_now t M))
      acts_now =
          subst (λ l. ActsAs i (entries (own_entries (deeds_in now t L))) (deeds_in now t L) (entries (active_in flat_now t l))) (sym list_is)
          (island_acts i form now flat_now t its.fair its.controlled its.static agree_now (λ n u. (known_input n).0 u) (its.once now t))

      cycle_now : CycleAs i (whole_cycle i held (entries (own_entries (deeds_in now t L))) (deeds_in now t L) s) (cycle flat held (entries (active_in flat_now t M)) z)
      cycle_now = flat_cycle i flat held (entries (own_entries (deeds_in now t L))) (entries (active_in flat_now t M)) (deeds_in now t L) s z (record {
        flattened = its.flattened;
        fair = its.fair;
        stands = stands;
        acts = acts_now;
        done = refl;
        kept = λ c none. absurd (cc);
        no_circle = its.no_circle now t;
      })

      pub turn_now : TurnAs i (whole_turn i held L t now s) (island_turn flat held M t flat_now z)
      turn_now =
          unclear_as i (first_unclear (look_below i held s) (looked_in now t L)) (islands.first_unclear (seen flat held nothing z) (looked_at flat_now t M)) _ _
          (ap (λ l. islands.first_unclear (seen flat held nothing z) (looked_at flat_now t l)) list_is
          ∙ first_as i (look_below i held s) (seen flat held nothing z) Known (λ x q r. r.1) (looked_in now t L) (looked_at flat_now t (form_flat (flat_part i) F 0 []))
          (island_looks Known i form now flat_now t (λ x q r. r.0) its.fair its.controlled its.static known known_input))
          cycle_now

  -- from cycle t on
  from_as : (left t : ℕ) (h : History) (k : islands.History) (s z : State) (n : ℕ) → Stands i 0 s z → AgreesAt h k i 0 [] → ((m u : ℕ) → k (ports.Input m) u ≡ h (spot [] (ports.Input m)) u)
      → AnswerAs i (whole_from i held L left t h s n) (island_from flat held M left t k z n)
  from_as zero t h k s z zero stands agree inputs = refl
  from_as zero t h k s z (suc n) stands agree inputs = (idle flat z, refl, idle_stands i flat s z its.flattened.1 stands)
  from_as (suc left) t h k s z zero stands agree inputs = refl
  from_as (suc left) t h k s z (suc n) stands agree inputs =
      turn_then_as i flat s z (whole_turn i held L t (and_now h t (look_below i held s)) s) (island_turn flat held M t (islands.and_now k t (seen flat held nothing z)) z)
      (λ after. whole_from i held L left (suc t) (and_now h t (look_below i held s)) after n) (λ after. island_from flat held M left (suc t) (islands.and_now k t (seen flat held nothing z)) after n)
      (turn_now s z stands h k t agree inputs) (idle_stands i flat s z its.flattened.1 stands)
      (λ after w there. from_as left (suc t) (and_now h t (look_below i held s)) (islands.and_now k t (seen flat held nothing z)) after w n there (agree_now s z stands h k t agree inputs) (λ m u. (known_input s z stands h k t agree inputs m).0 u))

  -- AN ISLAND
  pub island_as : (s z : State) (n : ℕ) → Stands i 0 s z → AnswerAs i (whole_island i held form s n) (island flat held F z n)
  island_as s z n stands =
      subst (λ left. AnswerAs i (whole_island i held form s n) (island_from flat held M left 0 islands.no_history z n))
      (sym (form_length-like (part_of flat) (flat_part i) lengths F ∙ island_length i form its.fair its.controlled its.static))
      (from_as (form_lasts (part_of i) form) 0 no_history islands.no_history s z n stands (spots_all (SampledAlike no_history islands.no_history) (λ x q u. refl) i 0 []) (λ m u. refl))
