-- THE LIST OF AN ISLAND STAYS with static invokes: static control enables static groups alone, at every depth, and these are not promoted.
use Rattle.std.proofs.Common.{◌≡◌, ℕ, zero, suc, ◌+◌, ◌-◌, ◌<◌, inl, inr, ⊎_elim, Bool, true, false, List, [], ◌∷◌, ◌++◌, length, Option, Some, None, refl, sym, ap, ap₂, ◌∙◌, subst}
use Rattle.std.specs.Prelude.{is_some}
use Rattle.cx_text.specs.Members.{In}
use Rattle.cx_text.proofs.MemberLaws.{of_joined}
use Rattle.cx_meaning.specs.Designs.{PlainInvoke, PlainComponent, PlainGroup, PlainForm, Empty, Enable, Seq, Par, If, While, Repeat, StaticSeq, StaticPar, StaticIf, StaticRepeat, Timed, PlainStatement, Placed, form_of, PlainStatements, no_statements, a_statement}
use Rattle.cx_meaning.specs.Instances.{Instance, Node, Cells, no_cells, a_primitive, an_instance, OfInstance, cell_at, part_of, Path, instance_at}
use Rattle.cx_meaning.specs.Control.{groups_in, groups_of, groups_in_all}
use Rattle.cx_meaning.specs.Islands.{kind_length, group_length, or_zero}
use Rattle.cx_meaning.proofs.InstancesLemmas.{here, child_is, instance_along, instance_is, nothing_instance, row_instance}
use Rattle.cx_rules.specs.Invokes.{lasts}
use Rattle.cx_rules.specs.Items.{Dynamic, InStatic, Visited, visit, visit_parts}
use Rattle.cx_rules.specs.StaticControl.{is_in_static, may_stand}
use Rattle.cx_flattening.specs.Controlled.{timed_in, timed_of, timed_all, IsControlled, AllControlled, AllControlledBelow}
use Rattle.cx_flattening.specs.Deeds.{History, Acts, Fed, deed_if, is_now, deeds_in}
use Rattle.cx_flattening.specs.Events.{the_invoke, Spot, spot, Sample, Event, Runs, Feeds, Looks, Beginning, Events, later_by, also_if, group_events, capture_events, rounds_events, bound_below, invoke_events, form_events, events, seq_events, par_events, control_events, events_below}
use Rattle.cx_flattening.specs.Lists.{island_events}
use Rattle.cx_flattening.specs.Whole.{is_static}
use Rattle.cx_flattening.proofs.Ruled.{AllRuled, AllRuledBelow}
use Rattle.cx_flattening.proofs.Windows.{events-child}
use Rattle.cx_flattening.proofs.FairParts.{some_of}
use Rattle.cx_flattening.proofs.FlatLengths.{AllThere, there_left, there_right}
use Rattle.cx_flattening.proofs.StaticControls.{timed_form}
use Rattle.cx_promotion.specs.Made as made
use Rattle.cx_promotion.specs.Made.{IsPromoted, FormMade, StatementMade}
use Rattle.cx_promotion.proofs.Twins.{Twins, TwinCells}
use Rattle.cx_promotion.proofs.MadeBeside.{MadeBeside}
use Rattle.cx_promotion.proofs.Members.{group_made}
use Rattle.cx_promotion.proofs.StaticStays.{Same, same_left, same_right, parts_static}
use Rattle.cx_promotion.proofs.InvokesMade.{lasts_same}
use Rattle.cx_promotion.proofs.WholeStays.{timed_still, IsTimed, TimedDeeds}
use Rattle.cx_promotion.proofs.Impossible.{no_true}

-- a group with a length has it in the new design too
pub timed_same : (i j : Instance) (h : MadeBeside i j) (g : ℕ) → is_some (group_length (part_of i) g) ≡ true → group_length (part_of j) g ≡ group_length (part_of i) g
timed_same i j h g timed =
    ⊎_elim {C = group_length (part_of j) g ≡ group_length (part_of i) g}
    (λ stays. ap (λ (x : PlainGroup). kind_length x.kind) stays) (λ promoted. absurd (timed_still i j h g timed promoted)) (group_made h.whole h.made.groups g)

rounds_same : (body more : Events) (n count : ℕ) → ((b : Beginning) → more b ≡ body b) → (b : Beginning) → rounds_events more n count b ≡ rounds_events body n count b
rounds_same body more n zero same b = refl
rounds_same body more n (suc count) same b = ap₂ (λ xs ys. xs ++ ys) (same b) (rounds_same body more n count same (later_by n b))

-- THE LIST hangs on the lengths of the groups that are enabled, on the invokes, and on the children that they invoke
module _ (part other : PlainComponent) (invoked : part.invokes ≡ other.invokes) (below beneath : ℕ → Events)
    (kids : (k : ℕ) → k < length part.invokes → (b : Beginning) → beneath (the_invoke part k).cell b ≡ below (the_invoke part k).cell b) where
  abbrev There : List ℕ → Type 0
  There ks = AllThere ks (length part.invokes)

  invoke_is : (k : ℕ) → the_invoke other k ≡ the_invoke part k
  invoke_is k = ap (λ (list : List PlainInvoke). the_invoke (record part { invokes = list }) k) (sym invoked)

  invoke_same : (v : PlainInvoke) → ((b : Beginning) → beneath v.cell b ≡ below v.cell b) → (b : Beginning) → invoke_events beneath v b ≡ invoke_events below v b
  invoke_same v same b =
      ap (λ list. Feeds b.at v.cell v.inputs b.from (b.from + or_zero v.latency) b.conditions ∷ (list ++ capture_events v.captures (later_by (or_zero v.latency) b)))
      (same (record { at = b.at ++ (v.cell ∷ []); bound = bound_below b.bound b.at v.cell v.inputs; from = b.from; conditions = b.conditions }))

  mutual
    pub form_events_same : (form : PlainForm) → Same part other (groups_in form) → There (timed_in form) → (b : Beginning) → form_events other beneath form b ≡ form_events part below form b
    form_events_same Empty same there b = refl
    form_events_same (Enable g) same there b = ap (λ o. group_events g o b) (same g (inl refl))
    form_events_same (Seq ss) same there b = refl
    form_events_same (Par arms) same there b = refl
    form_events_same (If test comb x y) same there b = refl
    form_events_same (While test comb x) same there b = refl
    form_events_same (Repeat count x) same there b = refl
    form_events_same (StaticSeq written ss) same there b = seq_same ss same there b
    form_events_same (StaticPar written arms) same there b = par_same arms same there b
    form_events_same (StaticIf written test x y) same there b =
        ap₂ (λ xs ys. Looks (b.bound test.port) b.from b.conditions ∷ (xs ++ ys))
        (events_same x (same_left part other (groups_of x) (groups_of y) same) (there_left (timed_of x) (timed_of y) (length part.invokes) there) (also_if (b.bound test.port) true b))
        (events_same y (same_right part other (groups_of x) (groups_of y) same) (there_right (timed_of x) (timed_of y) (length part.invokes) there) (also_if (b.bound test.port) false b))
    form_events_same (StaticRepeat written count x) same there b =
        ap (λ n. rounds_events (events other beneath x) n count b) (lasts_same part other invoked x same)
        ∙ rounds_same (events part below x) (events other beneath x) (lasts part x) count (events_same x same there) b
    form_events_same (Timed k) same there b = ap (λ v. invoke_events beneath v b) (invoke_is k) ∙ invoke_same (the_invoke part k) (kids k (there k (inl refl))) b

    events_same : (s : PlainStatement) → Same part other (groups_of s) → There (timed_of s) → (b : Beginning) → events other beneath s b ≡ events part below s b
    events_same (Placed form place) same there b = form_events_same form same there b

    seq_same : (ss : PlainStatements) → Same part other (groups_in_all ss) → There (timed_all ss) → (b : Beginning) → seq_events other beneath ss b ≡ seq_events part below ss b
    seq_same no_statements same there b = refl
    seq_same (a_statement s ss) same there b =
        ap (λ n. events other beneath s b ++ seq_events other beneath ss (later_by n b)) (lasts_same part other invoked s (same_left part other (groups_of s) (groups_in_all ss) same))
        ∙ ap₂ (λ xs ys. xs ++ ys) (events_same s (same_left part other (groups_of s) (groups_in_all ss) same) (there_left (timed_of s) (timed_all ss) (length part.invokes) there) b)
        (seq_same ss (same_right part other (groups_of s) (groups_in_all ss) same) (there_right (timed_of s) (timed_all ss) (length part.invokes) there) (later_by (lasts part s) b))

    par_same : (ss : PlainStatements) → Same part other (groups_in_all ss) → There (timed_all ss) → (b : Beginning) → par_events other beneath ss b ≡ par_events part below ss b
    par_same no_statements same there b = refl
    par_same (a_statement s ss) same there b =
        ap₂ (λ xs ys. xs ++ ys) (events_same s (same_left part other (groups_of s) (groups_in_all ss) same) (there_left (timed_of s) (timed_all ss) (length part.invokes) there) b)
        (par_same ss (same_right part other (groups_of s) (groups_in_all ss) same) (there_right (timed_of s) (timed_all ss) (length part.invokes) there) b)

-- THE CONTROL OF A STATIC COMPONENT stays as it is
static_form : (promoted : ℕ → Type 0) (part : PlainComponent) {form other : PlainForm} → FormMade promoted form other → may_stand part InStatic form ≡ true → other ≡ form
static_form promoted part made.empty e = refl
static_form promoted part made.enable e = refl
static_form promoted part (made.seq parts) e = no_true e
static_form promoted part (made.collapsed parts) e = no_true e
static_form promoted part (made.par arms) e = no_true e
static_form promoted part (made.if_made one two) e = no_true e
static_form promoted part (made.while_made one) e = no_true e
static_form promoted part (made.repeat_made one) e = no_true e
static_form promoted part (made.static is) e = refl
static_form promoted part made.timed e = refl

static_made : (promoted : ℕ → Type 0) (part : PlainComponent) {s t : PlainStatement} → StatementMade promoted s t → may_stand part InStatic (form_of s) ≡ true → form_of t ≡ form_of s
static_made promoted part (made.placed form) e = static_form promoted part form e

groups_timed : (part : PlainComponent) (form : PlainForm) → may_stand part InStatic form ≡ true
    → ((v : Visited) → In (visit_parts Dynamic form) v → is_in_static v.context ≡ true → may_stand part v.context v.form ≡ true) → (g : ℕ) → In (groups_in form) g → is_some (group_length part g) ≡ true
groups_timed part Empty e all g k = absurd k
groups_timed part (Enable h) e all g (inl same) = subst (λ n. is_some (group_length part n) ≡ true) same e
groups_timed part (Enable h) e all g (inr k) = absurd k
groups_timed part (Seq parts) e all g k = no_true e
groups_timed part (Par arms) e all g k = no_true e
groups_timed part (If test comb a b) e all g k = no_true e
groups_timed part (While test comb a) e all g k = no_true e
groups_timed part (Repeat count a) e all g k = no_true e
groups_timed part (StaticSeq written parts) e all g k = parts_static part Dynamic (StaticSeq written parts) refl all g k
groups_timed part (StaticPar written arms) e all g k = parts_static part Dynamic (StaticPar written arms) refl all g k
groups_timed part (StaticIf written test a b) e all g k = parts_static part Dynamic (StaticIf written test a b) refl all g k
groups_timed part (StaticRepeat written count a) e all g k = parts_static part Dynamic (StaticRepeat written count a) refl all g k
groups_timed part (Timed n) e all g k = absurd k

events_of : (part : PlainComponent) (below : ℕ → Events) (s : PlainStatement) (b : Beginning) → events part below s b ≡ form_events part below (form_of s) b
events_of part below (Placed form place) b = refl

visited_below : (s : PlainStatement) (P : Visited → Type 0) → ((v : Visited) → In (visit Dynamic s) v → P v) → (v : Visited) → In (visit_parts Dynamic (form_of s)) v → P v
visited_below (Placed form place) P all v k = all v (inr k)

mutual
  pub control_events_same : (i j : Instance) → Twins MadeBeside i j → AllRuled i → AllControlled i → is_static i ≡ true → (b : Beginning) → control_events j b ≡ control_events i b
  control_events_same (Node part cells) (Node other more) (h, hs) ruled controlled static b =
      events_of other (events_below more) other.control b
      ∙ ap (λ form. form_events other (events_below more) form b) (static_made (IsPromoted h.whole part other) part h.made.control stands)
      ∙ form_events_same part other h.made.invokes (events_below cells) (events_below more)
      (λ k less b1. let its = controlled.0.invokes k less in kids_same cells more hs ruled.1 controlled.1 (the_invoke part k).cell its.child its.stands its.static b1)
      (form_of part.control)
      (λ g k. timed_same (Node part cells) (Node other more) h g (groups_timed part (form_of part.control) stands (visited_below part.control (λ v. is_in_static v.context ≡ true → may_stand part v.context v.form ≡ true) h.statics) g k))
      (λ k at. controlled.0.timed k (timed_form part.control k at)) b
      ∙ sym (events_of part (events_below cells) part.control b)
    where
      stands : may_stand part InStatic (form_of part.control) ≡ true
      stands = by (may_stand part InStatic (form_of part.control)) refl
        where
          by : (x : Bool) → may_stand part InStatic (form_of part.control) ≡ x → x ≡ true
          by true e = refl
          by false e = let n = some_of part.latency static in absurd (ruled.0.control n.0 n.1 (inl e))

  kids_same : (cells more : Cells) → TwinCells MadeBeside cells more → AllRuledBelow cells → AllControlledBelow cells → (c : ℕ) (child : Instance) → cell_at cells c ≡ OfInstance child → is_static child ≡ true
      → (b : Beginning) → events_below more c b ≡ events_below cells c b
  kids_same no_cells no_cells h ruled controlled c child at static b = refl
  kids_same no_cells (a_primitive twin more) h ruled controlled c child at static b = absurd h
  kids_same no_cells (an_instance twin more) h ruled controlled c child at static b = absurd h
  kids_same (a_primitive row rest) no_cells h ruled controlled c child at static b = absurd h
  kids_same (a_primitive row rest) (a_primitive twin more) (e, h) ruled controlled zero child at static b = refl
  kids_same (a_primitive row rest) (a_primitive twin more) (e, h) ruled controlled (suc c) child at static b = kids_same rest more h ruled controlled c child at static b
  kids_same (a_primitive row rest) (an_instance twin more) h ruled controlled c child at static b = absurd h
  kids_same (an_instance kid rest) no_cells h ruled controlled c child at static b = absurd h
  kids_same (an_instance kid rest) (a_primitive twin more) h ruled controlled c child at static b = absurd h
  kids_same (an_instance kid rest) (an_instance twin more) (t, h) ruled controlled zero child at static b =
      control_events_same kid twin t ruled.0 controlled.0 (ap is_static (instance_is kid child at) ∙ static) b
  kids_same (an_instance kid rest) (an_instance twin more) (t, h) ruled controlled (suc c) child at static b = kids_same rest more h ruled.1 controlled.1 c child at static b

-- THE LIST OF AN ISLAND whose groups have lengths in both designs
pub island_events_same : (i j : Instance) → Twins MadeBeside i j → AllRuled i → AllControlled i → (form : PlainForm) → Same (part_of i) (part_of j) (groups_in form) → AllThere (timed_in form) (length (part_of i).invokes)
    → island_events j form ≡ island_events i form
island_events_same (Node part cells) (Node other more) (h, hs) ruled controlled form same there =
    form_events_same part other h.made.invokes (events_below cells) (events_below more)
    (λ k less b. let its = controlled.0.invokes k less in kids_same cells more hs ruled.1 controlled.1 (the_invoke part k).cell its.child its.stands its.static b)
    form same there (record { at = []; bound = spot []; from = 0; conditions = [] })

-- EVENTS whose groups have lengths, each in the instance at its path
abbrev pub IsTimedEvent : Instance → Event → Type 0
IsTimedEvent root (Runs at g from to conditions) = is_some (group_length (part_of (instance_at root at)) g) ≡ true
IsTimedEvent root (Feeds at cell inputs from to conditions) = Unit {0}
IsTimedEvent root (Looks x at conditions) = Unit {0}

abbrev pub TimedEvents : Instance → List Event → Type 0
TimedEvents root list = (x : Event) → In list x → IsTimedEvent root x

-- so what is done has them
pub deeds_timed : (root : Instance) (h : History) (t : ℕ) (list : List Event) → TimedEvents root list → TimedDeeds root (deeds_in h t list)
deeds_timed root h t [] all d k = absurd k
deeds_timed root h t (Runs at g from to conditions ∷ rest) all d k = by (is_now h t from to conditions) k (deeds_timed root h t rest (λ x m. all x (inr m)) d)
  where
    by : (b : Bool) → In (deed_if b (Acts at (record { group = g; offset = t - from })) (deeds_in h t rest)) d → (In (deeds_in h t rest) d → IsTimed root d) → IsTimed root d
    by true (inl same) later = subst (IsTimed root) same (all (Runs at g from to conditions) (inl refl))
    by true (inr m) later = later m
    by false m later = later m
deeds_timed root h t (Feeds at cell inputs from to conditions ∷ rest) all d k = by (is_now h t from to conditions) k (deeds_timed root h t rest (λ x m. all x (inr m)) d)
  where
    by : (b : Bool) → In (deed_if b (Fed at cell inputs) (deeds_in h t rest)) d → (In (deeds_in h t rest) d → IsTimed root d) → IsTimed root d
    by true (inl same) later = subst (IsTimed root) same tt
    by true (inr m) later = later m
    by false m later = later m
deeds_timed root h t (Looks x at conditions ∷ rest) all d k = deeds_timed root h t rest (λ y m. all y (inr m)) d k

module _ (root : Instance) where
  abbrev Fine : List Event → Type 0
  Fine list = TimedEvents root list

  none_timed : Fine []
  none_timed x k = absurd k

  both_timed : (xs ys : List Event) → Fine xs → Fine ys → Fine (xs ++ ys)
  both_timed xs ys one two x k = of_joined xs ys x k (one x) (two x)

  looks_timed : (x : Spot) (at : ℕ) (conditions : List Sample) (list : List Event) → Fine list → Fine (Looks x at conditions ∷ list)
  looks_timed x at conditions list fine y (inl same) = subst (IsTimedEvent root) same tt
  looks_timed x at conditions list fine y (inr k) = fine y k

  rounds_timed : (body : Events) (at : Path) (n count : ℕ) → ((b : Beginning) → b.at ≡ at → Fine (body b)) → (b : Beginning) → b.at ≡ at → Fine (rounds_events body n count b)
  rounds_timed body at n zero one b is = none_timed
  rounds_timed body at n (suc count) one b is = both_timed (body b) (rounds_events body n count (later_by n b)) (one b is) (rounds_timed body at n count one (later_by n b) is)

  abbrev ControlTimed : Instance → Type 0
  ControlTimed i = (b : Beginning) → instance_at root b.at ≡ i → Fine (control_events i b)

  module _ (part : PlainComponent) (cells : Cells) (controlled : IsControlled (Node part cells)) (kids : (c : ℕ) (child : Instance) → cell_at cells c ≡ OfInstance child → ControlTimed child) where
    abbrev i : Instance
    i = Node part cells

    one_timed : (b : Beginning) → instance_at root b.at ≡ i → (g to : ℕ) → is_some (group_length part g) ≡ true → Fine (Runs b.at g b.from to b.conditions ∷ [])
    one_timed b is g to timed x (inl same) = subst (IsTimedEvent root) same (subst (λ y. is_some (group_length (part_of y) g) ≡ true) (sym is) timed)
    one_timed b is g to timed x (inr k) = absurd k

    group_timed : (g : ℕ) (o : Option ℕ) → group_length part g ≡ o → (b : Beginning) → instance_at root b.at ≡ i → Fine (group_events g o b)
    group_timed g None e b is = none_timed
    group_timed g (Some n) e b is = one_timed b is g (b.from + n) (ap (λ (o : Option ℕ). is_some o) e)

    invoke_timed : (k : ℕ) → k < length part.invokes → (b : Beginning) → instance_at root b.at ≡ i → Fine (invoke_events (events_below cells) (the_invoke part k) b)
    invoke_timed k less b is x (inl same) = subst (IsTimedEvent root) same tt
    invoke_timed k less b is x (inr m) = both_timed (events_below cells v.cell start) (capture_events v.captures (later_by (or_zero v.latency) b)) child_timed (capture_timed v.captures refl) x m
      where
        v : PlainInvoke
        v = the_invoke part k

        start : Beginning
        start = record { at = b.at ++ (v.cell ∷ []); bound = bound_below b.bound b.at v.cell v.inputs; from = b.from; conditions = b.conditions }

        child_timed : Fine (events_below cells v.cell start)
        child_timed =
            let its = controlled.invokes k less in
            subst Fine (sym (events-child cells v.cell its.child start its.stands))
            (kids v.cell its.child its.stands start
            (sym (instance_along root b.at (v.cell ∷ [])) ∙ ap (λ y. instance_at y (v.cell ∷ [])) is ∙ child_is cells v.cell its.child its.stands [] ∙ here its.child))

        capture_timed : (o : Option ℕ) → v.captures ≡ o → Fine (capture_events o (later_by (or_zero v.latency) b))
        capture_timed None e = none_timed
        capture_timed (Some g) e = one_timed (later_by (or_zero v.latency) b) is g ((later_by (or_zero v.latency) b).from + 1) (ap (λ (o : Option ℕ). is_some o) ((controlled.invokes k less).captures g e).1)

    abbrev Within : List ℕ → Type 0
    Within ks = AllThere ks (length part.invokes)

    mutual
      pub form_timed : (form : PlainForm) → Within (timed_in form) → (b : Beginning) → instance_at root b.at ≡ i → Fine (form_events part (events_below cells) form b)
      form_timed Empty there b is = none_timed
      form_timed (Enable g) there b is = group_timed g (group_length part g) refl b is
      form_timed (Seq ss) there b is = none_timed
      form_timed (Par arms) there b is = none_timed
      form_timed (If test comb x y) there b is = none_timed
      form_timed (While test comb x) there b is = none_timed
      form_timed (Repeat count x) there b is = none_timed
      form_timed (StaticSeq written ss) there b is = seq_timed ss there b is
      form_timed (StaticPar written arms) there b is = par_timed arms there b is
      form_timed (StaticIf written test x y) there b is =
          looks_timed (b.bound test.port) b.from b.conditions
          (events part (events_below cells) x (also_if (b.bound test.port) true b) ++ events part (events_below cells) y (also_if (b.bound test.port) false b))
          (both_timed (events part (events_below cells) x (also_if (b.bound test.port) true b)) (events part (events_below cells) y (also_if (b.bound test.port) false b))
          (statement_timed x (there_left (timed_of x) (timed_of y) (length part.invokes) there) (also_if (b.bound test.port) true b) is)
          (statement_timed y (there_right (timed_of x) (timed_of y) (length part.invokes) there) (also_if (b.bound test.port) false b) is))
      form_timed (StaticRepeat written count x) there b is =
          rounds_timed (events part (events_below cells) x) b.at (lasts part x) count (λ b1 same. statement_timed x there b1 (ap (instance_at root) same ∙ is)) b refl
      form_timed (Timed k) there b is = invoke_timed k (there k (inl refl)) b is

      pub statement_timed : (s : PlainStatement) → Within (timed_of s) → (b : Beginning) → instance_at root b.at ≡ i → Fine (events part (events_below cells) s b)
      statement_timed (Placed form place) there b is = form_timed form there b is

      seq_timed : (ss : PlainStatements) → Within (timed_all ss) → (b : Beginning) → instance_at root b.at ≡ i → Fine (seq_events part (events_below cells) ss b)
      seq_timed no_statements there b is = none_timed
      seq_timed (a_statement s ss) there b is =
          both_timed (events part (events_below cells) s b) (seq_events part (events_below cells) ss (later_by (lasts part s) b))
          (statement_timed s (there_left (timed_of s) (timed_all ss) (length part.invokes) there) b is)
          (seq_timed ss (there_right (timed_of s) (timed_all ss) (length part.invokes) there) (later_by (lasts part s) b) is)

      par_timed : (ss : PlainStatements) → Within (timed_all ss) → (b : Beginning) → instance_at root b.at ≡ i → Fine (par_events part (events_below cells) ss b)
      par_timed no_statements there b is = none_timed
      par_timed (a_statement s ss) there b is =
          both_timed (events part (events_below cells) s b) (par_events part (events_below cells) ss b)
          (statement_timed s (there_left (timed_of s) (timed_all ss) (length part.invokes) there) b is)
          (par_timed ss (there_right (timed_of s) (timed_all ss) (length part.invokes) there) b is)

  mutual
    control_timed : (i : Instance) → AllControlled i → ControlTimed i
    control_timed (Node part cells) controlled b is =
        statement_timed part cells controlled.0 (λ c child at. kids_timed cells controlled.1 c child at) part.control controlled.0.timed b is

    kids_timed : (cells : Cells) → AllControlledBelow cells → (c : ℕ) (child : Instance) → cell_at cells c ≡ OfInstance child → ControlTimed child
    kids_timed no_cells controlled c child at = absurd (nothing_instance child at)
    kids_timed (a_primitive row rest) controlled zero child at = absurd (row_instance row child at)
    kids_timed (a_primitive row rest) controlled (suc c) child at = kids_timed rest controlled c child at
    kids_timed (an_instance kid rest) controlled zero child at = subst ControlTimed (instance_is kid child at) (control_timed kid controlled.0)
    kids_timed (an_instance kid rest) controlled (suc c) child at = kids_timed rest controlled.1 c child at

-- THE ISLAND of an instance
pub island_timed : (i : Instance) → AllControlled i → (form : PlainForm) → AllThere (timed_in form) (length (part_of i).invokes) → TimedEvents i (island_events i form)
island_timed (Node part cells) controlled form there =
    form_timed (Node part cells) part cells controlled.0 (λ c child at. kids_timed (Node part cells) cells controlled.1 c child at) form there
    (record { at = []; bound = spot []; from = 0; conditions = [] }) refl
