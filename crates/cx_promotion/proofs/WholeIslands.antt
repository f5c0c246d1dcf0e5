-- ISLANDS WITH STATIC INVOKES STAY: they have the same lists, and none of their groups is promoted.
use Rattle.std.proofs.Common.{◌≡◌, ℕ, zero, suc, ◌<◌, inl, inr, ⊎_elim, List, ◌++◌, length, refl, ap, ◌∙◌, subst}
use Rattle.std.proofs.Math.Path.{fun_ext}
use Rattle.cx_text.specs.Members.{In}
use Rattle.cx_text.proofs.MemberLaws.{in_either, in_left, in_right}
use Rattle.cx_meaning.specs.Designs.{PlainComponent, PlainForm, Empty, Enable, Seq, Par, If, While, Repeat, StaticSeq, StaticPar, StaticIf, StaticRepeat, Timed, PlainStatement, Placed, PlainStatements, no_statements, a_statement}
use Rattle.cx_meaning.specs.Instances.{Instance, part_of, Path, State, idle}
use Rattle.cx_meaning.specs.Active.{entries}
use Rattle.cx_meaning.specs.Control.{groups_in}
use Rattle.cx_meaning.specs.Cycles.{Fault}
use Rattle.cx_meaning.specs.Sights.{Look, Held}
use Rattle.cx_meaning.specs.Answers.{Answer, Turn, idle_turn, turn_then}
use Rattle.cx_meaning.specs.Islands.{unless_unclear}
use Rattle.cx_rules.specs.Invokes.{form_lasts}
use Rattle.cx_rules.specs.Items.{Context, InStatic, Branch, below_dynamic, Visited, visit, visit_parts, visit_all, statements_in}
use Rattle.cx_rules.specs.Wellformed.{IsForm}
use Rattle.cx_flattening.specs.Controlled.{timed_in, timed_of, timed_all, AllControlled}
use Rattle.cx_flattening.specs.Deeds.{History, no_history, deeds_in, looked_in, own_entries, and_now, first_unclear}
use Rattle.cx_flattening.specs.Events.{Event}
use Rattle.cx_flattening.specs.Lists.{island_events}
use Rattle.cx_flattening.specs.Seeing.{NoCircle}
use Rattle.cx_flattening.specs.Whole.{whole_cycle, look_below, whole_turn, whole_from, whole_island}
use Rattle.cx_flattening.proofs.DeedSources.{island_does}
use Rattle.cx_flattening.proofs.DeedsApart.{Stands}
use Rattle.cx_flattening.proofs.DeedsOnce.{deeds_circle}
use Rattle.cx_flattening.proofs.Ruled.{AllRuled}
use Rattle.cx_promotion.proofs.Twins.{Twins, beside_each, idle-twin}
use Rattle.cx_promotion.proofs.MadeBeside.{MadeBeside}
use Rattle.cx_promotion.proofs.StaticStays.{Same}
use Rattle.cx_promotion.proofs.InvokesMade.{form_lasts_same}
use Rattle.cx_promotion.proofs.WholeStays.{entries_still, own_timed, whole_stays, looks_stay}
use Rattle.cx_flattening.proofs.FlatLengths.{AllThere}
use Rattle.cx_promotion.proofs.WholeLists.{island_events_same, TimedEvents, deeds_timed, island_timed}

-- THE INVOKES OF A STATEMENT that stands in a component are there
module _ (part : PlainComponent) where
  abbrev AreForms : List Visited → Type 0
  AreForms vs = (v : Visited) → In vs v → IsForm part v.form

  abbrev Less : List ℕ → Type 0
  Less ks = AllThere ks (length part.invokes)

  both_less : (ks ns : List ℕ) → Less ks → Less ns → (k : ℕ) → In (ks ++ ns) k → k < length part.invokes
  both_less ks ns one two k i = ⊎_elim (one k) (two k) (in_either ks ns k i)

  mutual
    parts_less : (context : Context) (form : PlainForm) → AreForms (visit_parts context form) → ((k : ℕ) → form ≡ Timed k → k < length part.invokes) → Less (timed_in form)
    parts_less context Empty all own k i = absurd i
    parts_less context (Enable g) all own k i = absurd i
    parts_less context (Seq parts) all own k i = all_less (below_dynamic context) parts all k i
    parts_less context (Par arms) all own k i = all_less (below_dynamic context) arms all k i
    parts_less context (If test comb a b) all own k i =
        both_less (timed_of a) (timed_of b) (statement_less (below_dynamic context) a (λ v j. all v (in_left (visit (below_dynamic context) a) (visit (below_dynamic context) b) v j)))
        (statement_less (below_dynamic context) b (λ v j. all v (in_right (visit (below_dynamic context) a) (visit (below_dynamic context) b) v j))) k i
    parts_less context (While test comb a) all own k i = statement_less (below_dynamic context) a all k i
    parts_less context (Repeat count a) all own k i = statement_less (below_dynamic context) a all k i
    parts_less context (StaticSeq written parts) all own k i = all_less InStatic parts all k i
    parts_less context (StaticPar written arms) all own k i = all_less InStatic arms all k i
    parts_less context (StaticIf written test a b) all own k i =
        both_less (timed_of a) (timed_of b) (statement_less Branch a (λ v j. all v (in_left (visit Branch a) (visit Branch b) v j)))
        (statement_less Branch b (λ v j. all v (in_right (visit Branch a) (visit Branch b) v j))) k i
    parts_less context (StaticRepeat written count a) all own k i = statement_less InStatic a all k i
    parts_less context (Timed n) all own k (inl e) = own k (ap Timed e)
    parts_less context (Timed n) all own k (inr i) = absurd i

    statement_less : (context : Context) (s : PlainStatement) → AreForms (visit context s) → Less (timed_of s)
    statement_less context (Placed form place) all k i =
        parts_less context form (λ v j. all v (inr j)) (λ n e. subst (IsForm part) e (all (record { context = context; form = form; place = place }) (inl refl))) k i

    all_less : (context : Context) (ss : PlainStatements) → AreForms (visit_all context ss) → Less (timed_all ss)
    all_less context no_statements all k i = absurd i
    all_less context (a_statement s ss) all k i =
        both_less (timed_of s) (timed_all ss) (statement_less context s (λ v j. all v (in_left (visit context s) (visit_all context ss) v j)))
        (all_less context ss (λ v j. all v (in_right (visit context s) (visit_all context ss) v j))) k i

  pub stands_less : (form : PlainForm) → AreForms (statements_in part) → Stands part form → Less (timed_in form)
  stands_less form all stands = statement_less stands.context (Placed form stands.place) (λ v j. all v (stands.inside v j))

-- THE CYCLES OF A LIST
module _ (i j : Instance) (t : Twins MadeBeside i j) (held : Held) (list : List Event)
    (calm : (h : History) (x : ℕ) → NoCircle i (entries (own_entries (deeds_in h x list))) (deeds_in h x list)) (timed : TimedEvents i list) where
  look_same : (s : State) → look_below j held s ≡ look_below i held s
  look_same s = fun_ext (λ path. fun_ext (λ p. looks_stay i j t held s path p))

  turn_same : (x : ℕ) (h : History) (s : State) → whole_turn j held list x h s ≡ whole_turn i held list x h s
  turn_same x h s =
      ap (λ look. unless_unclear (first_unclear look (looked_in h x list)) (whole_cycle j held (entries (own_entries (deeds_in h x list))) (deeds_in h x list) s)) (look_same s)
      ∙ ap (unless_unclear (first_unclear (look_below i held s) (looked_in h x list)))
      (whole_stays i j t held (entries (own_entries (deeds_in h x list))) (deeds_in h x list) s
      (entries_still i j (beside_each MadeBeside i j t) (own_entries (deeds_in h x list)) (own_timed i (deeds_in h x list) (deeds_timed i h x list timed)))
      (calm h x) (deeds_timed i h x list timed))

  abbrev one_step : (before : History) (x : ℕ) (s : State) → (State → State) → (Path → Look) → (History → Turn State Fault) → (History → State → Answer State Fault) → Answer State Fault
  one_step before x s rest look turn later = turn_then rest s (turn (and_now before x look)) (later (and_now before x look))

  pub from_stays : (left x : ℕ) (before : History) (s : State) (n : ℕ) → whole_from j held list left x before s n ≡ whole_from i held list left x before s n
  from_stays zero x before s n = ap (λ rest. idle_turn rest s n) (idle-twin MadeBeside i j t)
  from_stays (suc left) x before s zero = refl
  from_stays (suc left) x before s (suc n) =
      ap (λ rest. one_step before x s rest (look_below j held s) (λ h. whole_turn j held list x h s) (λ h after. whole_from j held list left (suc x) h after n)) (idle-twin MadeBeside i j t)
      ∙ ap (λ look. one_step before x s (idle i) look (λ h. whole_turn j held list x h s) (λ h after. whole_from j held list left (suc x) h after n)) (look_same s)
      ∙ ap (λ turn. one_step before x s (idle i) (look_below i held s) turn (λ h after. whole_from j held list left (suc x) h after n)) (fun_ext (λ h. turn_same x h s))
      ∙ ap (one_step before x s (idle i) (look_below i held s) (λ h. whole_turn i held list x h s)) (fun_ext (λ h. fun_ext (λ after. from_stays left (suc x) h after n)))

-- THE ISLAND
pub whole_island_stays : (i j : Instance) (t : Twins MadeBeside i j) → AllRuled i → AllControlled i → (held : Held) (form : PlainForm) → Stands (part_of i) form → Same (part_of i) (part_of j) (groups_in form)
    → (s : State) (n : ℕ) → whole_island j held form s n ≡ whole_island i held form s n
whole_island_stays i j t ruled controlled held form stands same s n =
    ap (λ list. whole_from j held list (form_lasts (part_of j) form) 0 no_history s n) (island_events_same i j t ruled controlled form same there)
    ∙ ap (λ left. whole_from j held (island_events i form) left 0 no_history s n) (form_lasts_same (part_of i) (part_of j) h.made.invokes form same)
    ∙ from_stays i j t held (island_events i form)
    (λ before x. deeds_circle i ruled h.acyclic form (deeds_in before x (island_events i form)) (island_does before x i form controlled there) stands)
    (island_timed i controlled form there) (form_lasts (part_of i) form) 0 no_history s n
  where
    h : MadeBeside i j
    h = beside_each MadeBeside i j t

    there : AllThere (timed_in form) (length (part_of i).invokes)
    there = stands_less (part_of i) form h.statements stands
