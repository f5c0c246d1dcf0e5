-- Islands hang on a set of cells alone.
use Rattle.std.proofs.Common.{◌≡◌, ℕ, zero, suc, ◌+◌, ◌-◌, inl, inr, Bool, true, false, ◌&&◌, nat_le, Option, Some, None, List, [], ◌∷◌, ◌++◌, map, refl, ap, ◌∙◌, subst}
use Rattle.std.specs.Prelude.{if◌then◌else◌, nat_eq, nat_lt}
use Rattle.cx_text.specs.Members.{In}
use Rattle.cx_meaning.specs.declared.ports.PortRef.{PortRef}
use Rattle.cx_meaning.specs.declared.ports.PlacedPort.{PlacedPort}
use Rattle.cx_meaning.specs.Designs.{PlainComponent, PlainForm, Empty, Enable, Seq, Par, If, While, Repeat, StaticSeq, StaticPar, StaticIf, StaticRepeat, Timed, PlainStatement, Placed, PlainStatements, no_statements, a_statement}
use Rattle.cx_meaning.specs.Instances.{Instance, cells_of, part_of, State, idle}
use Rattle.cx_meaning.specs.Active.{nothing, entries}
use Rattle.cx_meaning.specs.Truths.{truth_of}
use Rattle.cx_meaning.specs.Sights.{Look, Held, seen}
use Rattle.cx_meaning.specs.Cycles.{cycle}
use Rattle.cx_meaning.specs.Control.{groups_in, groups_of, groups_in_all}
use Rattle.cx_meaning.specs.Islands.{group_length, form_length, length_of, Condition, Occurrence, Runs, Looks, condition, rounds_from, occurrence, form_flat, flat, seq_flat, par_flat, History, no_history, is_wanted, hold, entry_if, active_in, port_if, looked_at, is_one, and_now, fault_of, first_unclear, turn_of, unless_unclear, island_turn, island_from, island}
use Rattle.cx_rules.specs.Items.{Context, InStatic, Branch, visit, visit_parts, visit_all, test_in}
use Rattle.cx_rules.specs.Circles.{IsAcyclic, AcyclicBelow}
use Rattle.cx_frames.specs.Agreeing.{Agree, Alike}
use Rattle.cx_frames.proofs.AlikeLemmas.{Frames, AlikeTurn, unclear_alike, idle_frames, turn_alike}
use Rattle.cx_frames.proofs.ControlFrames.{Holds, left, right}
use Rattle.cx_frames.proofs.RuleLemmas.{IsKept}
use Rattle.cx_frames.proofs.SightFrames.{InFrame, IsThrough, cycle_alike}
use Rattle.cx_frames.proofs.LeafFrames.{idle_agree, IsGood, bare_seen}
use Rattle.cx_frames.proofs.SharedLemmas.{entries_among}

pub unclear_same : (look more : Look) (list : List PortRef) → ((q : PortRef) → In list q → look q ≡ more q) → first_unclear look list ≡ first_unclear more list
unclear_same look more [] h = refl
unclear_same look more (p ∷ rest) h = ap (λ x. fault_of p x (first_unclear look rest)) (h p (inl refl)) ∙ ap (fault_of p (more p)) (unclear_same look more rest (λ q i. h q (inr i)))

module _ (G : ℕ → Type 0) (F : PortRef → Type 0) where
  -- the ports of conditions are such, and those of an occurrence and its group
  abbrev AllSampled : List Condition → Type 0
  AllSampled [] = Unit {0}
  AllSampled (s ∷ rest) = F s.port × AllSampled rest

  abbrev IsFineOne : Occurrence → Type 0
  IsFineOne (Runs g from to conditions) = G g × AllSampled conditions
  IsFineOne (Looks port at conditions) = F port × AllSampled conditions

  abbrev pub AllFine : List Occurrence → Type 0
  AllFine [] = Unit {0}
  AllFine (o ∷ rest) = IsFineOne o × AllFine rest

  joined : (xs ys : List Occurrence) → AllFine xs → AllFine ys → AllFine (xs ++ ys)
  joined [] ys h k = k
  joined (o ∷ xs) ys (h, rest) k = (h, joined xs ys rest k)

  rounds_fine : (body : ℕ → List Occurrence) (p k x : ℕ) → ((y : ℕ) → AllFine (body y)) → AllFine (rounds_from body p k x)
  rounds_fine body p zero x h = tt
  rounds_fine body p (suc k) x h = joined (body x) (rounds_from body p k (x + p)) (h x) (rounds_fine body p k (x + p) h)

  occurrence_fine : (g x : ℕ) (conditions : List Condition) (n : Option ℕ) → G g → AllSampled conditions → AllFine (occurrence g x conditions n)
  occurrence_fine g x conditions None good all = tt
  occurrence_fine g x conditions (Some n) good all = ((good, all), tt)

  -- the flat list of a statement whose groups and tests are such
  module _ (P : PlainForm → Type 0) (tests : (form : PlainForm) (p : PlacedPort) → P form → test_in form ≡ Some p → F p.port) where
    mutual
      pub form_fine : (part : PlainComponent) (context : Context) (form : PlainForm) (x : ℕ) (conditions : List Condition) → P form → Holds G P (groups_in form) (visit_parts context form) → AllSampled conditions → AllFine (form_flat part form x conditions)
      form_fine part context Empty x conditions p h all = tt
      form_fine part context (Enable g) x conditions p h all = occurrence_fine g x conditions (group_length part g) (h.groups g (inl refl)) all
      form_fine part context (Seq parts) x conditions p h all = tt
      form_fine part context (Par arms) x conditions p h all = tt
      form_fine part context (If test comb a b) x conditions p h all = tt
      form_fine part context (While test comb a) x conditions p h all = tt
      form_fine part context (Repeat count a) x conditions p h all = tt
      form_fine part context (StaticSeq length parts) x conditions p h all = seq_fine part parts x conditions h all
      form_fine part context (StaticPar length arms) x conditions p h all = par_fine part arms x conditions h all
      form_fine part context (StaticIf length test a b) x conditions p h all =
          let inside : F test.port = tests (StaticIf length test a b) test p refl in (
            (inside, all),
            joined (flat part a x (condition test.port x true ∷ conditions)) (flat part b x (condition test.port x false ∷ conditions))
                (statement_fine part Branch a x (condition test.port x true ∷ conditions) (left (groups_of a) (groups_of b) (visit Branch a) (visit Branch b) h) (inside, all))
                (statement_fine part Branch b x (condition test.port x false ∷ conditions) (right (groups_of a) (groups_of b) (visit Branch a) (visit Branch b) h) (inside, all)),
          )
      form_fine part context (StaticRepeat length count a) x conditions p h all = rounds_fine (λ y. flat part a y conditions) (length_of part a) count x (λ y. statement_fine part InStatic a y conditions h all)
      form_fine part context (Timed k) x conditions p h all = tt

      statement_fine : (part : PlainComponent) (context : Context) (s : PlainStatement) (x : ℕ) (conditions : List Condition) → Holds G P (groups_of s) (visit context s) → AllSampled conditions → AllFine (flat part s x conditions)
      statement_fine part context (Placed form place) x conditions h all =
          form_fine part context form x conditions (h.forms (record { context = context; form = form; place = place }) (inl refl)) (record { groups = h.groups; forms = λ v i. h.forms v (inr i) }) all

      seq_fine : (part : PlainComponent) (ss : PlainStatements) (x : ℕ) (conditions : List Condition) → Holds G P (groups_in_all ss) (visit_all InStatic ss) → AllSampled conditions → AllFine (seq_flat part ss x conditions)
      seq_fine part no_statements x conditions h all = tt
      seq_fine part (a_statement s ss) x conditions h all =
          joined (flat part s x conditions) (seq_flat part ss (x + length_of part s) conditions)
          (statement_fine part InStatic s x conditions (left (groups_of s) (groups_in_all ss) (visit InStatic s) (visit_all InStatic ss) h) all)
          (seq_fine part ss (x + length_of part s) conditions (right (groups_of s) (groups_in_all ss) (visit InStatic s) (visit_all InStatic ss) h) all)

      par_fine : (part : PlainComponent) (ss : PlainStatements) (x : ℕ) (conditions : List Condition) → Holds G P (groups_in_all ss) (visit_all InStatic ss) → AllSampled conditions → AllFine (par_flat part ss x conditions)
      par_fine part no_statements x conditions h all = tt
      par_fine part (a_statement s ss) x conditions h all =
          joined (flat part s x conditions) (par_flat part ss x conditions)
          (statement_fine part InStatic s x conditions (left (groups_of s) (groups_in_all ss) (visit InStatic s) (visit_all InStatic ss) h) all)
          (par_fine part ss x conditions (right (groups_of s) (groups_in_all ss) (visit InStatic s) (visit_all InStatic ss) h) all)

  -- histories that agree on such ports give the same cycle
  abbrev pub AreSame : History → History → Type 0
  AreSame h k = (port : PortRef) (at : ℕ) → F port → h port at ≡ k port at

  module _ (h k : History) (same : AreSame h k) where
    hold_same : (conditions : List Condition) → AllSampled conditions → hold h conditions ≡ hold k conditions
    hold_same [] all = refl
    hold_same (s ∷ rest) (inside, all) =
        ap (λ b. is_wanted s.wanted b && hold h rest) (same s.port s.at inside) ∙ ap (λ b. is_wanted s.wanted (k s.port s.at) && b) (hold_same rest all)

    pub active_same : (t : ℕ) (list : List Occurrence) → AllFine list → active_in h t list ≡ active_in k t list
    active_same t [] fine = refl
    active_same t (Runs g from to conditions ∷ rest) ((good, all), fine) =
        ap (λ b. entry_if (nat_le from t && nat_lt t to && b) g (t - from) (active_in h t rest)) (hold_same conditions all)
        ∙ ap (entry_if (nat_le from t && nat_lt t to && hold k conditions) g (t - from)) (active_same t rest fine)
    active_same t (Looks port at conditions ∷ rest) (here, fine) = active_same t rest fine

    pub looked_same : (t : ℕ) (list : List Occurrence) → AllFine list → looked_at h t list ≡ looked_at k t list
    looked_same t [] fine = refl
    looked_same t (Runs g from to conditions ∷ rest) (here, fine) = looked_same t rest fine
    looked_same t (Looks port at conditions ∷ rest) ((inside, all), fine) =
        ap (λ b. port_if (nat_eq t at && b) port (looked_at h t rest)) (hold_same conditions all)
        ∙ ap (port_if (nat_eq t at && hold k conditions) port) (looked_same t rest fine)

  -- what is active and looked at is such
  pub active_good : (h : History) (t : ℕ) (list : List Occurrence) → AllFine list → (g : ℕ) → In (map (λ e. e.group) (active_in h t list)) g → G g
  active_good h t [] fine g i = absurd i
  active_good h t (Runs n from to conditions ∷ rest) ((good, all), fine) g i = one (nat_le from t && nat_lt t to && hold h conditions) i (active_good h t rest fine g)
    where
      one : (b : Bool) → In (map (λ e. e.group) (entry_if b n (t - from) (active_in h t rest))) g → (In (map (λ e. e.group) (active_in h t rest)) g → G g) → G g
      one true (inl e) later = subst G e good
      one true (inr j) later = later j
      one false j later = later j
  active_good h t (Looks port at conditions ∷ rest) (here, fine) g i = active_good h t rest fine g i

  pub looked_good : (h : History) (t : ℕ) (list : List Occurrence) → AllFine list → (q : PortRef) → In (looked_at h t list) q → F q
  looked_good h t [] fine q i = absurd i
  looked_good h t (Runs n from to conditions ∷ rest) (here, fine) q i = looked_good h t rest fine q i
  looked_good h t (Looks port at conditions ∷ rest) ((inside, all), fine) q i = one (nat_eq t at && hold h conditions) i (looked_good h t rest fine q)
    where
      one : (b : Bool) → In (port_if b port (looked_at h t rest)) q → (In (looked_at h t rest) q → F q) → F q
      one true (inl e) later = subst F e inside
      one true (inr j) later = later j
      one false j later = later j

module _ (i : Instance) (held : Held) (set : ℕ → Type 0) (kept : IsKept i) (through : IsThrough (part_of i) set) (deeper : AcyclicBelow (cells_of i)) (bare : IsAcyclic i nothing) where
  module _ (list : List Occurrence) (fine : AllFine (IsGood i held set kept through deeper) (InFrame set) list) (acyclic : (h : History) (t : ℕ) → IsAcyclic i (entries (active_in h t list))) where
    cycle_turn : (t : ℕ) (h : History) (s s2 : State) → Agree set s s2 → AlikeTurn set (turn_of (cycle i held (entries (active_in h t list)) s)) (turn_of (cycle i held (entries (active_in h t list)) s2))
    cycle_turn t h s s2 agree =
        cycle_alike i held (entries (active_in h t list)) set (map (λ e. e.group) (active_in h t list)) kept through (entries_among (active_in h t list))
        (λ g j. (active_good (IsGood i held set kept through deeper) (InFrame set) h t list fine g j).within) s s2 agree (acyclic h t) deeper

    -- a cycle of an island
    pub same_turn : (t : ℕ) (h : History) (s s2 : State) → Agree set s s2 → AlikeTurn set (island_turn i held list t h s) (island_turn i held list t h s2)
    same_turn t h s s2 agree =
        unclear_alike set (first_unclear (seen i held nothing s) (looked_at h t list)) (first_unclear (seen i held nothing s2) (looked_at h t list)) _ _
        (unclear_same (seen i held nothing s) (seen i held nothing s2) (looked_at h t list) (λ q j. bare_seen i held set kept through deeper bare s s2 agree q (looked_good (IsGood i held set kept through deeper) (InFrame set) h t list fine q j)))
        (cycle_turn t h s s2 agree)

    pub island_alike : (t : ℕ) (h k : History) (s s2 : State) → AreSame (IsGood i held set kept through deeper) (InFrame set) h k → Agree set s s2 → AlikeTurn set (island_turn i held list t h s) (island_turn i held list t k s2)
    island_alike t h k s s2 same agree =
        subst (λ es. AlikeTurn set (island_turn i held list t h s) (unless_unclear (first_unclear (seen i held nothing s2) (looked_at k t list)) (cycle i held (entries es) s2)))
        (active_same (IsGood i held set kept through deeper) (InFrame set) h k same t list fine)
        (subst (λ ps. AlikeTurn set (island_turn i held list t h s) (unless_unclear (first_unclear (seen i held nothing s2) ps) (cycle i held (entries (active_in h t list)) s2)))
        (looked_same (IsGood i held set kept through deeper) (InFrame set) h k same t list fine)
        (same_turn t h s s2 agree))

    pub now_same : (t : ℕ) (h k : History) (s s2 : State) → AreSame (IsGood i held set kept through deeper) (InFrame set) h k → Agree set s s2
        → AreSame (IsGood i held set kept through deeper) (InFrame set) (and_now h t (seen i held nothing s)) (and_now k t (seen i held nothing s2))
    now_same t h k s s2 same agree port at inside = one (nat_eq t at)
      where
        one : (b : Bool) → (if b then is_one (truth_of (seen i held nothing s port)) else h port at) ≡ (if b then is_one (truth_of (seen i held nothing s2 port)) else k port at)
        one true = ap (λ x. is_one (truth_of x)) (bare_seen i held set kept through deeper bare s s2 agree port inside)
        one false = same port at inside

    cycles_alike : (rest t : ℕ) (h k : History) (s s2 : State) (n : ℕ) → AreSame (IsGood i held set kept through deeper) (InFrame set) h k → Agree set s s2
        → Alike set (island_from i held list rest t h s n) (island_from i held list rest t k s2 n)
    cycles_alike zero t h k s s2 n same agree = idle_frames set (idle i) (idle_agree set i) s s2 n agree
    cycles_alike (suc rest) t h k s s2 zero same agree = refl
    cycles_alike (suc rest) t h k s s2 (suc n) same agree =
        let later : AreSame (IsGood i held set kept through deeper) (InFrame set) (and_now h t (seen i held nothing s)) (and_now k t (seen i held nothing s2)) = now_same t h k s s2 same agree in
        turn_alike set (idle i) (idle_agree set i) s s2
        (island_turn i held list t (and_now h t (seen i held nothing s)) s) (island_turn i held list t (and_now k t (seen i held nothing s2)) s2)
        (λ after. island_from i held list rest (suc t) (and_now h t (seen i held nothing s)) after n) (λ after. island_from i held list rest (suc t) (and_now k t (seen i held nothing s2)) after n)
        agree (island_alike t _ _ s s2 later agree)
        (λ a b more. cycles_alike rest (suc t) _ _ a b n later more)

  -- an island whose groups and tests are within the set
  pub island_frames : (P : PlainForm → Type 0) → ((form : PlainForm) (p : PlacedPort) → P form → test_in form ≡ Some p → InFrame set p.port)
      → (context : Context) (form : PlainForm) → P form → Holds (IsGood i held set kept through deeper) P (groups_in form) (visit_parts context form)
      → ((h : History) (t : ℕ) → IsAcyclic i (entries (active_in h t (form_flat (part_of i) form 0 [])))) → Frames set (island i held form)
  island_frames P tests context form p holds acyclic s s2 n agree =
      cycles_alike (form_flat (part_of i) form 0 []) (form_fine (IsGood i held set kept through deeper) (InFrame set) P tests (part_of i) context form 0 [] p holds tt) acyclic
      (form_length (part_of i) form) 0 no_history no_history s s2 n (λ port at inside. refl) agree
