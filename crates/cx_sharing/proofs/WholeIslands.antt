-- AN ISLAND of an instance, with the static invokes in it, is carried by that of the shared instance, and so are the turns of a group.
use Rattle.std.proofs.Common.{◌≡◌, ℕ, zero, suc, ◌<◌, inl, inr, ⊎_elim, true, List, [], length, map, Option, Some, None, refl, sym, ap, ◌∙◌, subst, arith}
use Rattle.cx_text.proofs.MemberLaws.{in_either, in_left, in_right}
use Rattle.cx_text.specs.Members.{In}
use Rattle.cx_meaning.specs.declared.ports.PortRef.{PortRef}
use Rattle.cx_meaning.specs.declared.ports.PortRef.TheVariants as ports
use Rattle.cx_meaning.specs.declared.sights.FaultKind.TheVariants as kinds
use Rattle.cx_meaning.specs.Truths.{Truth, One, Zero, truth_of}
use Rattle.cx_meaning.specs.Truths as truths
use Rattle.cx_meaning.specs.Designs.{PlainComponent, PlainForm, Empty, Enable, Seq, Par, If, While, Repeat, StaticSeq, StaticPar, StaticIf, StaticRepeat, Timed, PlainStatement, Placed, PlainStatements, no_statements, a_statement}
use Rattle.cx_meaning.specs.Instances.{Instance, Node, part_of, cells_of, State, idle}
use Rattle.cx_meaning.specs.Active.{group, entries}
use Rattle.cx_meaning.specs.Sights.{Held, seen}
use Rattle.cx_meaning.specs.Cycles.{Fault, Ended}
use Rattle.cx_meaning.specs.Answers.{Answer, End, More, Faults, turns_of}
use Rattle.cx_meaning.specs.Answers as answers
use Rattle.cx_meaning.specs.Islands.{unless_unclear}
use Rattle.cx_meaning.specs.Calls.{hole_turn}
use Rattle.cx_rules.specs.Circles.{AreAcyclic}
use Rattle.cx_rules.specs.Invokes.{invoke_length, form_lasts}
use Rattle.cx_rules.specs.Items.{Context, InStatic, Branch, below_dynamic, Visited, visit, visit_parts, visit_all, statements_in}
use Rattle.cx_rules.specs.Wellformed.{IsForm}
use Rattle.cx_rewrites.specs.Moving.{moved_form}
use Rattle.cx_rewrites.specs.Renaming.{renamed}
use Rattle.cx_rewrites.specs.Tallies.{Tally, none, plus, turns_count, turn_count}
use Rattle.cx_rewrites.specs.Carrying.{Exact, TurnCarried, Carried, Carries}
use Rattle.cx_rewrites.proofs.CarryLemmas.{idle_carries, turn_carried, turns_carry}
use Rattle.cx_rewrites.proofs.MovedInvokes.{form_lasts-moved}
use Rattle.cx_flattening.specs.Events.{spot, Event, Beginning}
use Rattle.cx_flattening.specs.Controlled.{timed_in, timed_of, timed_all, AllControlled}
use Rattle.cx_flattening.specs.Deeds.{History, no_history, and_now, Deed, deeds_in, looked_in, own_entries, first_unclear}
use Rattle.cx_flattening.specs.Lists.{island_events}
use Rattle.cx_flattening.specs.Whole.{whole_cycle, look_below, whole_turn, whole_from, whole_island, group_turn}
use Rattle.cx_flattening.proofs.DeedSources.{island_does}
use Rattle.cx_flattening.proofs.DeedsApart.{Stands}
use Rattle.cx_flattening.proofs.Ruled.{AllRuled}
use Rattle.cx_sharing.specs.Uses.{group_uses}
use Rattle.cx_sharing.specs.Giving.{new_cell}
use Rattle.cx_sharing.specs.Following.{SharedStands, shared_fault}
use Rattle.cx_sharing.proofs.MeetLemmas.{group_covers, group_used_meet}
use Rattle.cx_sharing.proofs.TwinStates.{told_here}
use Rattle.cx_sharing.proofs.SharedParts.{of_invokes}
use Rattle.cx_sharing.proofs.SharedSights.{shares_of, seen_there}
use Rattle.cx_sharing.proofs.SharedCycles.{faulted}
use Rattle.cx_sharing.proofs.SharedGroups.{length_shared}
use Rattle.cx_sharing.proofs.SharedLeaves.{recount, rests}
use Rattle.cx_sharing.proofs.WholeTwins.{Twins, twins, twin_of, fit_of}
use Rattle.cx_sharing.proofs.WholeMoved.{moved_event, moved_deed, Says, deeds-moved, looks-moved, own-moved}
use Rattle.cx_sharing.proofs.WholeMeets.{Fine, FineBelow, done_fine, fine_none_below}
use Rattle.cx_sharing.proofs.WholeCycles.{EndedAlike, to_turn, whole_alike, deeds_alike}
use Rattle.cx_sharing.proofs.WholeLooks.{says_now, unclear_alike}
use Rattle.cx_sharing.proofs.WholeEvents.{Begins, form_follows, children_there}

-- THE STATIC INVOKES of statements that stand in a component are there
module _ (part : PlainComponent) where
  abbrev AreForms : List Visited → Type 0
  AreForms vs = (v : Visited) → In vs v → IsForm part v.form

  abbrev AllThere : List ℕ → Type 0
  AllThere list = (n : ℕ) → In list n → n < length part.invokes

  mutual
    form_there : (c : Context) (form : PlainForm) → AreForms (visit_parts c form) → ((n : ℕ) → form ≡ Timed n → n < length part.invokes) → AllThere (timed_in form)
    form_there c Empty all own n k = absurd k
    form_there c (Enable g) all own n k = absurd k
    form_there c (Seq parts) all own n k = all_there (below_dynamic c) parts all n k
    form_there c (Par arms) all own n k = all_there (below_dynamic c) arms all n k
    form_there c (If test comb a b) all own n k =
        ⊎_elim (λ x. statement_there (below_dynamic c) a (λ v m. all v (in_left (visit (below_dynamic c) a) (visit (below_dynamic c) b) v m)) n x)
        (λ x. statement_there (below_dynamic c) b (λ v m. all v (in_right (visit (below_dynamic c) a) (visit (below_dynamic c) b) v m)) n x) (in_either (timed_of a) (timed_of b) n k)
    form_there c (While test comb a) all own n k = statement_there (below_dynamic c) a all n k
    form_there c (Repeat count a) all own n k = statement_there (below_dynamic c) a all n k
    form_there c (StaticSeq written parts) all own n k = all_there InStatic parts all n k
    form_there c (StaticPar written arms) all own n k = all_there InStatic arms all n k
    form_there c (StaticIf written test a b) all own n k =
        ⊎_elim (λ x. statement_there Branch a (λ v m. all v (in_left (visit Branch a) (visit Branch b) v m)) n x)
        (λ x. statement_there Branch b (λ v m. all v (in_right (visit Branch a) (visit Branch b) v m)) n x) (in_either (timed_of a) (timed_of b) n k)
    form_there c (StaticRepeat written count a) all own n k = statement_there InStatic a all n k
    form_there c (Timed x) all own n (inl e) = own n (ap Timed e)
    form_there c (Timed x) all own n (inr k) = absurd k

    statement_there : (c : Context) (s : PlainStatement) → AreForms (visit c s) → AllThere (timed_of s)
    statement_there c (Placed form place) all n k =
        form_there c form (λ v m. all v (inr m)) (λ x e. subst (IsForm part) e (all (record { context = c; form = form; place = place }) (inl refl))) n k

    all_there : (c : Context) (ss : PlainStatements) → AreForms (visit_all c ss) → AllThere (timed_all ss)
    all_there c no_statements all n k = absurd k
    all_there c (a_statement s ss) all n k =
        ⊎_elim (λ x. statement_there c s (λ v m. all v (in_left (visit c s) (visit_all c ss) v m)) n x) (λ x. all_there c ss (λ v m. all v (in_right (visit c s) (visit_all c ss) v m)) n x)
        (in_either (timed_of s) (timed_all ss) n k)

  pub standing_there : (form : PlainForm) → Stands part form → ((v : Visited) → In (statements_in part) v → IsForm part v.form) → AllThere (timed_in form)
  standing_there form h forms n k = statement_there h.context (Placed form h.place) (λ v m. forms v (h.inside v m)) n k

-- where states are related whatever was counted, it does not matter what was
pub recounted : (Q : State → State → Type 0) (faults : Fault → Fault) (before one other : Tally) (o x : Answer State Fault)
    → Carried Exact (λ counted. Q) faults before one o x → Carried Exact (λ counted. Q) faults before other o x
recounted Q faults before one other (End a t) x h = h
recounted Q faults before one other (answers.Fault f t) x h = h
recounted Q faults before one other More x h = h

module _ {i j : Instance} (both : Twins i j) (held : Held) where
  abbrev R : Tally → State → State → Type 0
  R counted = SharedStands i

  unless_alike : (before : Tally) (o : Option Fault) (e x : Ended) → EndedAlike i e x → TurnCarried Exact R (shared_fault i) before none (unless_unclear o e) (unless_unclear (faulted (shared_fault i) o) x)
  unless_alike before None e x alike = to_turn i before none e x alike
  unless_alike before (Some f) e x alike = refl

  -- A CYCLE of an island
  turn_alike : (h k : History) → Says i h k → (t : ℕ) (list : List Event) → Fine i (deeds_in h t list) → (before : Tally) (s z : State) → SharedStands i s z
      → TurnCarried Exact R (shared_fault i) before none (whole_turn i held list t h s) (whole_turn j held (map (moved_event i) list) t k z)
  turn_alike h k says t list fine before s z stands =
      subst (TurnCarried Exact R (shared_fault i) before none (whole_turn i held list t h s)) (sym there)
      (unless_alike before (first_unclear (look_below i held s) (looked_in h t list)) (whole_cycle i held (entries (own_entries ds)) ds s) (whole_cycle j held (entries (own_entries ds)) (map (moved_deed i) ds) z)
      (deeds_alike both ds fine held s z stands))
    where
      ds : List Deed
      ds = deeds_in h t list

      there : whole_turn j held (map (moved_event i) list) t k z
          ≡ unless_unclear (faulted (shared_fault i) (first_unclear (look_below i held s) (looked_in h t list))) (whole_cycle j held (entries (own_entries ds)) (map (moved_deed i) ds) z)
      there =
          ap (λ l. unless_unclear (first_unclear (look_below j held z) l) (whole_cycle j held (entries (own_entries (deeds_in k t (map (moved_event i) list)))) (deeds_in k t (map (moved_event i) list)) z)) (looks-moved i h k says t list)
          ∙ ap (λ o. unless_unclear o (whole_cycle j held (entries (own_entries (deeds_in k t (map (moved_event i) list)))) (deeds_in k t (map (moved_event i) list)) z)) (unclear_alike both held s z stands (looked_in h t list))
          ∙ ap (λ l. unless_unclear (faulted (shared_fault i) (first_unclear (look_below i held s) (looked_in h t list))) (whole_cycle j held (entries (own_entries l)) l z)) (deeds-moved i h k says t list)
          ∙ ap (λ l. unless_unclear (faulted (shared_fault i) (first_unclear (look_below i held s) (looked_in h t list))) (whole_cycle j held (entries l) (map (moved_deed i) ds) z)) (own-moved i ds)

  -- THE CYCLES from one on
  from_alike : (list : List Event) → ((h : History) (t : ℕ) → Fine i (deeds_in h t list)) → (left t : ℕ) (h k : History) → Says i h k
      → Carries Exact R (shared_fault i) (λ s n. none) (whole_from i held list left t h) (whole_from j held (map (moved_event i) list) left t k)
  from_alike list fine zero t h k says before s z n m room stands = idle_carries Exact R (shared_fault i) (idle i) (idle j) (rests i j (twin_of both) (fit_of both) held) before s z n m room stands
  from_alike list fine (suc left) t h k says before s z zero zero room stands = refl
  from_alike list fine (suc left) t h k says before s z zero (suc m) room stands = absurd (let wrong : 0 ≡ suc m = room in omega (arith, wrong))
  from_alike list fine (suc left) t h k says before s z (suc n) zero room stands = absurd (let wrong : suc n ≡ 0 = room in omega (arith, wrong))
  from_alike list fine (suc left) t h k says before s z (suc n) (suc m) room stands =
      let now : Says i (and_now h t (look_below i held s)) (and_now k t (look_below j held z)) = says_now both held s z stands h k says t in
      recounted (SharedStands i) (shared_fault i) before
      (turn_count (whole_turn i held list t (and_now h t (look_below i held s)) s) (λ after. plus none none)) none
      (whole_from i held list (suc left) t h s (suc n)) (whole_from j held (map (moved_event i) list) (suc left) t k z (suc m))
      (turn_carried Exact R (shared_fault i) (idle i) (idle j) (rests i j (twin_of both) (fit_of both) held) before none s z
      (whole_turn i held list t (and_now h t (look_below i held s)) s) (whole_turn j held (map (moved_event i) list) t (and_now k t (look_below j held z)) z) (λ a. none)
      (λ a. whole_from i held list left (suc t) (and_now h t (look_below i held s)) a n) (λ b. whole_from j held (map (moved_event i) list) left (suc t) (and_now k t (look_below j held z)) b m) stands
      (turn_alike (and_now h t (look_below i held s)) (and_now k t (look_below j held z)) now t list (fine (and_now h t (look_below i held s)) t) before s z stands)
      (λ a b q. from_alike list fine left (suc t) (and_now h t (look_below i held s)) (and_now k t (look_below j held z)) now (plus before none) a b n m (let wanted : suc n ≡ suc m = room in omega (arith, wanted)) q))

-- A CYCLE IN WHICH NOTHING IS DONE BELOW, and A GROUP turn after turn
module _ {i j : Instance} (both : Twins i j) (calm : AreAcyclic i) (held : Held) where
  abbrev S : Tally → State → State → Type 0
  S counted = SharedStands i

  hole_alike : (g : ℕ) (before : Tally) (a b : Ended) (t : Truth) → EndedAlike i a b → TurnCarried Exact S (shared_fault i) before none (hole_turn g a t) (hole_turn g b t)
  hole_alike g before a b One alike = refl
  hole_alike g before a b Zero alike = to_turn i before none a b alike
  hole_alike g before a b truths.Conflict alike = ap Faults (sym (told_here i kinds.Conflict (ports.Done g)))
  hole_alike g before a b truths.Undefined alike = ap Faults (sym (told_here i kinds.Undefined (ports.Done g)))

  pub calm_below : (x : Instance) → AreAcyclic x → FineBelow (cells_of x) 0 []
  calm_below (Node part cells) h = fine_none_below cells 0 h.1

  group_alike : (g : ℕ) (before : Tally) (s z : State) → SharedStands i s z → TurnCarried Exact S (shared_fault i) before none (group_turn i held g s) (group_turn j held g z)
  group_alike g before s z stands =
      subst (λ x. TurnCarried Exact S (shared_fault i) before none (group_turn i held g s) (hole_turn g (whole_cycle j held (group g) [] z) (truth_of x)))
      (sym (seen_there i j (twin_of both) (group g) (group g) (λ h. refl) (λ c. group_uses (part_of i) g c ≡ true) (group_covers (part_of i) g) (group_used_meet (part_of i) g) held s z stands (λ c. refl) ((fit_of both).groups g) (ports.Done g) tt))
      (hole_alike g before (whole_cycle i held (group g) [] s) (whole_cycle j held (group g) [] z) (truth_of (seen i held (group g) s (ports.Done g)))
      (whole_alike both (group g) (group g) (λ h. refl) (λ c. group_uses (part_of i) g c ≡ true) (group_covers (part_of i) g) (group_used_meet (part_of i) g) (λ c. refl) ((fit_of both).groups g)
      held [] (λ c inputs k. absurd k) (calm_below i calm) s z stands))

  pub turns_alike : (g : ℕ) → Carries Exact S (shared_fault i) (λ s n. none) (turns_of (idle i) (group_turn i held g)) (turns_of (idle j) (group_turn j held g))
  turns_alike g =
      recount (SharedStands i) (shared_fault i) (turns_count (group_turn i held g) none) (λ s n. none) (turns_of (idle i) (group_turn i held g)) (turns_of (idle j) (group_turn j held g))
      (turns_carry Exact S (shared_fault i) (idle i) (idle j) (rests i j (twin_of both) (fit_of both) held) (group_turn i held g) (group_turn j held g) none (group_alike g))

-- THE ISLAND of a statement that stands in the component
pub island_alike : {i j : Instance} → Twins i j → (controlled : AllControlled i) → AllRuled i → AreAcyclic i → (held : Held) (form : PlainForm) → Stands (part_of i) form → ((v : Visited) → In (statements_in (part_of i)) v → IsForm (part_of i) v.form)
    → Carries Exact (λ counted. SharedStands i) (shared_fault i) (λ s n. none) (whole_island i held form) (whole_island j held (moved_form (renamed (new_cell (part_of i))) form))
island_alike (twins {part} {other} {cells} {kin} twin fit invoked remain) controlled rules calm held form h forms before s z n m room stands =
    subst (λ l. Carried Exact (λ counted. SharedStands i) (shared_fault i) before none (whole_island i held form s n) (whole_from j held l (form_lasts other (moved_form mv form)) 0 no_history z m)) (sym list_is)
    (subst (λ k. Carried Exact (λ counted. SharedStands i) (shared_fault i) before none (whole_island i held form s n) (whole_from j held (map (moved_event i) (island_events i form)) k 0 no_history z m)) (sym lasts_is)
    (from_alike both held (island_events i form) (λ a t. done_fine both rules calm form (deeds_in a t (island_events i form)) (island_does a t i form controlled there) h)
    (form_lasts part form) 0 no_history no_history (λ x u. refl) before s z n m room stands))
  where
    i : Instance
    i = Node part cells

    j : Instance
    j = Node other kin

    both : Twins (Node part cells) (Node other kin)
    both = twins twin fit invoked remain

    mv : PortRef → PortRef
    mv = renamed (new_cell part)

    there : (k : ℕ) → In (timed_in form) k → k < length part.invokes
    there = standing_there part form h forms

    start : Beginning
    start = record { at = []; bound = spot []; from = 0; conditions = [] }

    begins : Begins (Node part cells) (Node part cells) start (spot [])
    begins = record { stands = refl; seen_at = λ p. refl }

    list_is : island_events (Node other kin) (moved_form (renamed (new_cell part)) form) ≡ map (moved_event (Node part cells)) (island_events (Node part cells) form)
    list_is = form_follows (Node part cells) (Node part cells) (Node other kin) twin controlled.0 (children_there (Node part cells) both controlled) form there start (spot []) begins

    lasts_is : form_lasts other (moved_form (renamed (new_cell part)) form) ≡ form_lasts part form
    lasts_is = form_lasts-moved (renamed (new_cell part)) part other (length_shared (Node part cells) (Node other kin) twin) (of_invokes (shares_of twin) invoke_length (λ v. refl)) form
