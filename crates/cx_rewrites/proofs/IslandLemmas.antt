-- ISLANDS WHOSE PORTS ARE MOVED: the flat list is the moved flat list, the same groups are active in each cycle, and the moved ports are
-- looked at. So an island carries the moved one where its cycles do.
use Rattle.std.proofs.Common.{◌≡◌, ℕ, zero, suc, ◌+◌, ◌-◌, ◌*◌, max, inl, inr, Bool, true, false, ◌&&◌, nat_le, List, [], ◌∷◌, ◌++◌, map, Option, Some, None, refl, sym, ap, ◌∙◌, subst}
use Rattle.std.specs.Prelude.{nat_eq, nat_lt, if◌then◌else◌}
use Rattle.std.proofs.lemmas.List.{map-append}
use Rattle.cx_text.specs.Members.{In}
use Rattle.cx_meaning.specs.declared.ports.PortRef.{PortRef}
use Rattle.cx_meaning.specs.declared.sights.Seen.{Seen}
use Rattle.cx_meaning.specs.declared.sights.Seen.TheVariants as sights
use Rattle.cx_meaning.specs.declared.sights.FaultKind.{FaultKind}
use Rattle.cx_meaning.specs.declared.sights.FaultKind.TheVariants as kinds
use Rattle.cx_meaning.specs.Designs.{PlainComponent, PlainForm, Empty, Enable, Seq, Par, If, While, Repeat, StaticSeq, StaticPar, StaticIf, StaticRepeat, Timed, PlainStatement, Placed, PlainStatements, no_statements, a_statement}
use Rattle.cx_meaning.specs.Instances.{Instance, part_of, State, idle}
use Rattle.cx_meaning.specs.Active.{Entry, entries, nothing}
use Rattle.cx_meaning.specs.Truths.{truth_of}
use Rattle.cx_meaning.specs.Sights.{Look, Held, seen}
use Rattle.cx_meaning.specs.Cycles.{Fault, fault_at, Ended, cycle}
use Rattle.cx_meaning.specs.Answers.{More, Faults}
use Rattle.cx_meaning.specs.Islands.{group_length, or_zero, form_length, length_of, sum_length, max_length, Condition, Occurrence, Runs, Looks, condition, rounds_from, occurrence, form_flat, flat, seq_flat, par_flat, History, no_history, is_wanted, hold, entry_if, active_in, port_if, looked_at, is_one, and_now, fault_of, first_unclear, turn_of, unless_unclear, island_turn, island_from, island}
use Rattle.cx_frames.proofs.IslandFrames.{AllFine, looked_good}
use Rattle.cx_rewrites.specs.Moving.{moved_form, moved_statement, moved_statements, moved_condition, moved_occurrence}
use Rattle.cx_rewrites.specs.Tallies.{Tally, plus, island_count_from, island_count}
use Rattle.cx_rewrites.specs.Carrying.{Pace, Carried, Carries, TurnCarried}
use Rattle.cx_rewrites.specs.Turns.{IslandCarries}
use Rattle.cx_rewrites.proofs.PaceLemmas.{room_less, no_room, if_exact, if_greater}
use Rattle.cx_rewrites.proofs.CarryLemmas.{idle_carries, turn_carried}

module _ (move : PortRef → PortRef) where
  two_moved : (xs ys us vs : List Occurrence) → us ≡ map (moved_occurrence move) xs → vs ≡ map (moved_occurrence move) ys → us ++ vs ≡ map (moved_occurrence move) (xs ++ ys)
  two_moved xs ys us vs e h = ap (λ z. z ++ vs) e ∙ ap (λ z. map (moved_occurrence move) xs ++ z) h ∙ sym (map-append (moved_occurrence move) xs ys)

  module _ (part other : PlainComponent) (lengths : (g : ℕ) → group_length other g ≡ group_length part g) where
    mutual
      pub form_length-moved : (form : PlainForm) → form_length other (moved_form move form) ≡ form_length part form
      form_length-moved Empty = refl
      form_length-moved (Enable g) = ap or_zero (lengths g)
      form_length-moved (Seq parts) = refl
      form_length-moved (Par arms) = refl
      form_length-moved (If test comb a b) = refl
      form_length-moved (While test comb a) = refl
      form_length-moved (Repeat count a) = refl
      form_length-moved (StaticSeq length parts) = sum_length-moved parts
      form_length-moved (StaticPar length arms) = max_length-moved arms
      form_length-moved (StaticIf length test a b) = ap (λ n. max n (length_of other (moved_statement move b))) (length_of-moved a) ∙ ap (max (length_of part a)) (length_of-moved b)
      form_length-moved (StaticRepeat length count a) = ap (λ n. count * n) (length_of-moved a)
      form_length-moved (Timed k) = refl

      length_of-moved : (s : PlainStatement) → length_of other (moved_statement move s) ≡ length_of part s
      length_of-moved (Placed form place) = form_length-moved form

      sum_length-moved : (ss : PlainStatements) → sum_length other (moved_statements move ss) ≡ sum_length part ss
      sum_length-moved no_statements = refl
      sum_length-moved (a_statement s ss) = ap (λ n. n + sum_length other (moved_statements move ss)) (length_of-moved s) ∙ ap (λ n. length_of part s + n) (sum_length-moved ss)

      max_length-moved : (ss : PlainStatements) → max_length other (moved_statements move ss) ≡ max_length part ss
      max_length-moved no_statements = refl
      max_length-moved (a_statement s ss) = ap (λ n. max n (max_length other (moved_statements move ss))) (length_of-moved s) ∙ ap (max (length_of part s)) (max_length-moved ss)

    occurrence-moved : (g x : ℕ) (conditions : List Condition) (n m : Option ℕ) → n ≡ m → occurrence g x (map (moved_condition move) conditions) n ≡ map (moved_occurrence move) (occurrence g x conditions m)
    occurrence-moved g x conditions n m e = ap (occurrence g x (map (moved_condition move) conditions)) e ∙ one m
      where
        one : (k : Option ℕ) → occurrence g x (map (moved_condition move) conditions) k ≡ map (moved_occurrence move) (occurrence g x conditions k)
        one None = refl
        one (Some k) = refl

    rounds_from-moved : (body others : ℕ → List Occurrence) (p q k x : ℕ) → q ≡ p → ((y : ℕ) → others y ≡ map (moved_occurrence move) (body y)) → rounds_from others q k x ≡ map (moved_occurrence move) (rounds_from body p k x)
    rounds_from-moved body others p q zero x e h = refl
    rounds_from-moved body others p q (suc k) x e h =
        two_moved (body x) (rounds_from body p k (x + p)) (others x) (rounds_from others q k (x + q)) (h x)
        (rounds_from-moved body others p q k (x + q) e h ∙ ap (λ n. map (moved_occurrence move) (rounds_from body p k (x + n))) e)

    mutual
      pub form_flat-moved : (form : PlainForm) (x : ℕ) (conditions : List Condition)
          → form_flat other (moved_form move form) x (map (moved_condition move) conditions) ≡ map (moved_occurrence move) (form_flat part form x conditions)
      form_flat-moved Empty x conditions = refl
      form_flat-moved (Enable g) x conditions = occurrence-moved g x conditions (group_length other g) (group_length part g) (lengths g)
      form_flat-moved (Seq parts) x conditions = refl
      form_flat-moved (Par arms) x conditions = refl
      form_flat-moved (If test comb a b) x conditions = refl
      form_flat-moved (While test comb a) x conditions = refl
      form_flat-moved (Repeat count a) x conditions = refl
      form_flat-moved (StaticSeq length parts) x conditions = seq_flat-moved parts x conditions
      form_flat-moved (StaticPar length arms) x conditions = par_flat-moved arms x conditions
      form_flat-moved (StaticIf length test a b) x conditions =
          ap (λ z. Looks (move test.port) x (map (moved_condition move) conditions) ∷ z)
          (two_moved (flat part a x (condition test.port x true ∷ conditions)) (flat part b x (condition test.port x false ∷ conditions)) _ _
          (flat-moved a x (condition test.port x true ∷ conditions)) (flat-moved b x (condition test.port x false ∷ conditions)))
      form_flat-moved (StaticRepeat length count a) x conditions =
          rounds_from-moved (λ y. flat part a y conditions) (λ y. flat other (moved_statement move a) y (map (moved_condition move) conditions)) (length_of part a) (length_of other (moved_statement move a)) count x
          (length_of-moved a) (λ y. flat-moved a y conditions)
      form_flat-moved (Timed k) x conditions = refl

      flat-moved : (s : PlainStatement) (x : ℕ) (conditions : List Condition) → flat other (moved_statement move s) x (map (moved_condition move) conditions) ≡ map (moved_occurrence move) (flat part s x conditions)
      flat-moved (Placed form place) x conditions = form_flat-moved form x conditions

      seq_flat-moved : (ss : PlainStatements) (x : ℕ) (conditions : List Condition)
          → seq_flat other (moved_statements move ss) x (map (moved_condition move) conditions) ≡ map (moved_occurrence move) (seq_flat part ss x conditions)
      seq_flat-moved no_statements x conditions = refl
      seq_flat-moved (a_statement s ss) x conditions =
          two_moved (flat part s x conditions) (seq_flat part ss (x + length_of part s) conditions) _ _ (flat-moved s x conditions)
          (seq_flat-moved ss (x + length_of other (moved_statement move s)) conditions ∙ ap (λ n. map (moved_occurrence move) (seq_flat part ss (x + n) conditions)) (length_of-moved s))

      par_flat-moved : (ss : PlainStatements) (x : ℕ) (conditions : List Condition)
          → par_flat other (moved_statements move ss) x (map (moved_condition move) conditions) ≡ map (moved_occurrence move) (par_flat part ss x conditions)
      par_flat-moved no_statements x conditions = refl
      par_flat-moved (a_statement s ss) x conditions = two_moved (flat part s x conditions) (par_flat part ss x conditions) _ _ (flat-moved s x conditions) (par_flat-moved ss x conditions)

  -- the groups of a list have the property G, and its ports the property H
  module _ (G : ℕ → Type 0) (H : PortRef → Type 0) where
    -- histories that say the same of such ports
    abbrev pub Matches : History → History → Type 0
    Matches h k = (port : PortRef) (at : ℕ) → H port → k (move port) at ≡ h port at

    now_matches : (t : ℕ) (h k : History) (look twin : Look) → Matches h k → ((port : PortRef) → H port → twin (move port) ≡ look port) → Matches (and_now h t look) (and_now k t twin)
    now_matches t h k look twin same seen port at here = one (nat_eq t at)
      where
        one : (b : Bool) → (if b then is_one (truth_of (twin (move port))) else k (move port) at) ≡ (if b then is_one (truth_of (look port)) else h port at)
        one true = ap (λ x. is_one (truth_of x)) (seen port here)
        one false = same port at here

    module _ (h k : History) (same : Matches h k) where
      -- conditions of each of which it is known that its port is such
      hold-moved : (A : List Condition → Type 0) → ((c : Condition) (rest : List Condition) → A (c ∷ rest) → H c.port × A rest)
          → (conditions : List Condition) → A conditions → hold k (map (moved_condition move) conditions) ≡ hold h conditions
      hold-moved A split [] all = refl
      hold-moved A split (c ∷ rest) all =
          let known : H c.port × A rest = split c rest all in
          ap (λ b. is_wanted c.wanted b && hold k (map (moved_condition move) rest)) (same c.port c.at known.0)
          ∙ ap (λ b. is_wanted c.wanted (h c.port c.at) && b) (hold-moved A split rest known.1)

      runs_hold : (g : ℕ) (conditions : List Condition) → AllFine G H (Runs g 0 0 conditions ∷ []) → hold k (map (moved_condition move) conditions) ≡ hold h conditions
      runs_hold g conditions fine = hold-moved (λ list. AllFine G H (Runs g 0 0 list ∷ [])) (λ c rest all. (all.0.1.0, ((all.0.0, all.0.1.1), tt))) conditions fine

      looks_hold : (port : PortRef) (conditions : List Condition) → AllFine G H (Looks port 0 conditions ∷ []) → hold k (map (moved_condition move) conditions) ≡ hold h conditions
      looks_hold port conditions fine = hold-moved (λ list. AllFine G H (Looks port 0 list ∷ [])) (λ c rest all. (all.0.1.0, ((all.0.0, all.0.1.1), tt))) conditions fine

      pub active_in-moved : (t : ℕ) (list : List Occurrence) → AllFine G H list → active_in k t (map (moved_occurrence move) list) ≡ active_in h t list
      active_in-moved t [] fine = refl
      active_in-moved t (Runs g from to conditions ∷ rest) (here, fine) =
          ap (λ b. entry_if (nat_le from t && nat_lt t to && b) g (t - from) (active_in k t (map (moved_occurrence move) rest))) (runs_hold g conditions (here, tt))
          ∙ ap (entry_if (nat_le from t && nat_lt t to && hold h conditions) g (t - from)) (active_in-moved t rest fine)
      active_in-moved t (Looks port at conditions ∷ rest) (here, fine) = active_in-moved t rest fine

      pub looked_at-moved : (t : ℕ) (list : List Occurrence) → AllFine G H list → looked_at k t (map (moved_occurrence move) list) ≡ map move (looked_at h t list)
      looked_at-moved t [] fine = refl
      looked_at-moved t (Runs g from to conditions ∷ rest) (here, fine) = looked_at-moved t rest fine
      looked_at-moved t (Looks port at conditions ∷ rest) (here, fine) =
          ap (λ b. port_if (nat_eq t at && b) (move port) (looked_at k t (map (moved_occurrence move) rest))) (looks_hold port conditions (here, tt))
          ∙ ap (port_if (nat_eq t at && hold h conditions) (move port)) (looked_at-moved t rest fine)
          ∙ one (nat_eq t at && hold h conditions)
        where
          one : (b : Bool) → port_if b (move port) (map move (looked_at h t rest)) ≡ map move (port_if b port (looked_at h t rest))
          one true = refl
          one false = refl

  -- the first port that is no value has its fault
  module _ (faults : Fault → Fault) (H : PortRef → Type 0) (told : (kind : FaultKind) (p : PortRef) → H p → faults (fault_at kind p) ≡ fault_at kind (move p)) where
    abbrev faulted : Option Fault → Option Fault
    faulted None = None
    faulted (Some f) = Some (faults f)

    first_unclear-moved : (look twin : Look) (list : List PortRef) → ((q : PortRef) → In list q → H q) → ((q : PortRef) → H q → twin (move q) ≡ look q)
        → first_unclear twin (map move list) ≡ faulted (first_unclear look list)
    first_unclear-moved look twin [] good same = refl
    first_unclear-moved look twin (p ∷ rest) good same =
        ap (λ x. fault_of (move p) x (first_unclear twin (map move rest))) (same p (good p (inl refl)))
        ∙ one (look p) (first_unclear-moved look twin rest (λ q i. good q (inr i)) same)
      where
        one : (x : Seen) → first_unclear twin (map move rest) ≡ faulted (first_unclear look rest) → fault_of (move p) x (first_unclear twin (map move rest)) ≡ faulted (fault_of p x (first_unclear look rest))
        one (sights.Value b) e = e
        one sights.Conflict e = ap Some (sym (told kinds.Conflict p (good p (inl refl))))
        one sights.Undefined e = ap Some (sym (told kinds.Undefined p (good p (inl refl))))

  -- AN ISLAND CARRIES, where each of its cycles does and the ports that it samples are seen alike
  module _ (pace : Pace) (R : Tally → State → State → Type 0) (faults : Fault → Fault) (made : List Entry → Tally) (G : ℕ → Type 0) (H : PortRef → Type 0) (i j : Instance) (held twin_held : Held) where
    module _ (list : List Occurrence) (fine : AllFine G H list) (carries : IslandCarries pace R faults move made H i j held twin_held list) where
      abbrev others : List Occurrence
      others = map (moved_occurrence move) list

      told : (kind : FaultKind) (p : PortRef) → H p → faults (fault_at kind p) ≡ fault_at kind (move p)
      told kind p here = carries.told p here kind

      clear_turn : (before one : Tally) (x : Option Fault) (a b : Ended) → TurnCarried pace R faults before one (turn_of a) (turn_of b)
          → TurnCarried pace R faults before one (unless_unclear x a) (unless_unclear (faulted faults H told x) b)
      clear_turn before one None a b h = h
      clear_turn before one (Some f) a b h = if_exact pace (Faults (faults f) ≡ Faults (faults f)) refl

      island_turn_carried : (t : ℕ) (h k : History) (before : Tally) (s z : State) → Matches G H h k → R before s z
          → TurnCarried pace R faults before (made (active_in h t list)) (island_turn i held list t h s) (island_turn j twin_held others t k z)
      island_turn_carried t h k before s z matches r =
          subst (λ es. TurnCarried pace R faults before (made (active_in h t list)) (island_turn i held list t h s)
          (unless_unclear (first_unclear (seen j twin_held nothing z) (looked_at k t others)) (cycle j twin_held (entries es) z))) (sym (active_in-moved G H h k matches t list fine))
          (subst (λ x. TurnCarried pace R faults before (made (active_in h t list)) (island_turn i held list t h s) (unless_unclear x (cycle j twin_held (entries (active_in h t list)) z)))
          (sym (ap (first_unclear (seen j twin_held nothing z)) (looked_at-moved G H h k matches t list fine)
          ∙ first_unclear-moved faults H told (seen i held nothing s) (seen j twin_held nothing z) (looked_at h t list) (λ q j. looked_good G H h t list fine q j)
          (λ q here. carries.samples q here before s z r)))
          (clear_turn before (made (active_in h t list)) (first_unclear (seen i held nothing s) (looked_at h t list)) (cycle i held (entries (active_in h t list)) s)
          (cycle j twin_held (entries (active_in h t list)) z) (carries.cycles h t before s z r)))

      island_from_carries : (left t : ℕ) (h k : History) → Matches G H h k
          → Carries pace R faults (island_count_from made i held list left t h) (island_from i held list left t h) (island_from j twin_held others left t k)
      island_from_carries zero t h k matches before s z n m room r = idle_carries pace R faults (idle i) (idle j) carries.rests before s z n m room r
      island_from_carries (suc left) t h k matches before s z zero zero room r = if_exact pace (More ≡ More) refl
      island_from_carries (suc left) t h k matches before s z zero (suc m) room r = if_greater pace (island_from j twin_held others (suc left) t k z (suc m) ≡ More) m room
      island_from_carries (suc left) t h k matches before s z (suc n) zero room r = absurd (no_room pace n room)
      island_from_carries (suc left) t h k matches before s z (suc n) (suc m) room r =
          let now : Matches G H (and_now h t (seen i held nothing s)) (and_now k t (seen j twin_held nothing z)) =
          now_matches G H t h k (seen i held nothing s) (seen j twin_held nothing z) matches (λ q here. carries.samples q here before s z r) in
          turn_carried pace R faults (idle i) (idle j) carries.rests before (made (active_in (and_now h t (seen i held nothing s)) t list)) s z
          (island_turn i held list t (and_now h t (seen i held nothing s)) s) (island_turn j twin_held others t (and_now k t (seen j twin_held nothing z)) z)
          (λ after. island_count_from made i held list left (suc t) (and_now h t (seen i held nothing s)) after n)
          (λ after. island_from i held list left (suc t) (and_now h t (seen i held nothing s)) after n)
          (λ after. island_from j twin_held others left (suc t) (and_now k t (seen j twin_held nothing z)) after m)
          r (island_turn_carried t _ _ before s z now r)
          (λ a b q. island_from_carries left (suc t) _ _ now (plus before (made (active_in (and_now h t (seen i held nothing s)) t list))) a b n m (room_less pace n m room) q)

    pub island_carries : (form : PlainForm) → ((g : ℕ) → group_length (part_of j) g ≡ group_length (part_of i) g) → AllFine G H (form_flat (part_of i) form 0 [])
        → IslandCarries pace R faults move made H i j held twin_held (form_flat (part_of i) form 0 [])
        → Carries pace R faults (island_count made i held form) (island i held form) (island j twin_held (moved_form move form))
    island_carries form lengths fine carries before s z n m room r =
        subst (λ list. Carried pace R faults before (island_count made i held form s n) (island i held form s n) (island_from j twin_held list (form_length (part_of j) (moved_form move form)) 0 no_history z m))
        (sym (form_flat-moved (part_of i) (part_of j) lengths form 0 []))
        (subst (λ left. Carried pace R faults before (island_count made i held form s n) (island i held form s n) (island_from j twin_held (map (moved_occurrence move) (form_flat (part_of i) form 0 [])) left 0 no_history z m))
        (sym (form_length-moved (part_of i) (part_of j) lengths form))
        (island_from_carries (form_flat (part_of i) form 0 []) fine carries (form_length (part_of i) form) 0 no_history no_history (λ port at here. refl) before s z n m room r))
