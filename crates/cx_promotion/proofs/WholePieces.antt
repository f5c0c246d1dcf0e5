-- PIECES BESIDE STATIC CHILDREN: these rest while promoted groups run, in the old design and in the new one, so turns and islands are those
-- without them.
use Rattle.std.proofs.Common.{◌≡◌, ℕ, zero, suc, ◌-◌, true, List, [], ◌∷◌, map, nat_eq, cond, Option, Some, None, Bool, false, refl, sym, ap, ◌∙◌, subst}
use Rattle.cx_meaning.specs.declared.kinds.GroupKind.{GroupKind}
use Rattle.cx_meaning.specs.declared.kinds.GroupKind.TheVariants as kinds
use Rattle.cx_meaning.specs.declared.ports.PortRef.TheVariants as ports
use Rattle.cx_meaning.specs.Designs.{PlainGroup, PlainComponent, group_at, no_place, PlainForm, Enable, StaticSeq, PlainStatement, Placed, PlainStatements, a_statement}
use Rattle.cx_meaning.specs.Instances.{Instance, Node, Cells, State, idle, IsSettled}
use Rattle.cx_meaning.specs.Active.{nothing, group, entries}
use Rattle.cx_meaning.specs.Truths.{Truth, One, Zero, truth_of}
use Rattle.cx_meaning.specs.Truths as truths
use Rattle.cx_meaning.specs.Sights.{Held, seen}
use Rattle.cx_meaning.specs.Cycles.{Fault, Ended, Goes, cycle}
use Rattle.cx_meaning.specs.Answers.{Answer, End, More, Meaning, Turn, after_turns, then_do, turn_then, turns_of}
use Rattle.cx_meaning.specs.Answers as answers
use Rattle.cx_meaning.specs.Budgets.{Leaves}
use Rattle.cx_meaning.specs.Control as control
use Rattle.cx_meaning.specs.Control.{run_parts}
use Rattle.cx_meaning.specs.Islands.{Occurrence, form_flat, form_length, looked_at, active_in, is_one, unless_unclear, island_turn, island_from, island}
use Rattle.cx_meaning.specs.Islands as islands
use Rattle.cx_meaning.specs.Calls.{hole_turn, called}
use Rattle.cx_meaning.specs.Calls as calls
use Rattle.cx_meaning.specs.Running.{Children, leaves, control_below}
use Rattle.cx_meaning.proofs.CyclesLemmas.{turn_goes}
use Rattle.cx_meaning.proofs.RunningLemmas.{settles_statement}
use Rattle.cx_rules.specs.Invokes.{form_lasts}
use Rattle.cx_rules.specs.Items.{is_plain}
use Rattle.cx_rewrites.specs.Tallies.{Counted}
use Rattle.cx_rewrites.specs.Carrying.{NoLater, Same, Carried}
use Rattle.cx_rewrites.proofs.TurnLemmas.{enable-island}
use Rattle.cx_flattening.specs.Events.{events_below}
use Rattle.cx_flattening.specs.Deeds.{History, no_history, Acts, deed_if, is_now, deeds_in, own_entries, and_now, first_unclear}
use Rattle.cx_flattening.specs.Whole.{look_below, whole_cycle, whole_turn, whole_from, whole_island, group_turn, call_or_turns, enable_kind, enable, whole_leaves, whole_below}
use Rattle.cx_flattening.proofs.BareIslands.{Bare, BareAll, sample_of, event_of, bare_form, bare_form_lasts, Says, acts_same, looks_same, unclear_same}
use Rattle.cx_promotion.specs.Made.{IsPromoted, IsRun, no_more, one_more}
use Rattle.cx_promotion.proofs.Twins.{Twins, beside_each}
use Rattle.cx_promotion.proofs.MadeBeside.{MadeBeside}
use Rattle.cx_promotion.proofs.Shapes.{shape_of}
use Rattle.cx_promotion.proofs.LeavesQuicken.{same_fault, Quicker, child_settled}
use Rattle.cx_promotion.proofs.PiecesQuicken.{called_none, enable_turns, promoted_length, piece_quicker, promoted_quicker}
use Rattle.cx_promotion.proofs.WholeRests.{AllOwn, KidsRest, old_rests, new_rests, old_rest_on, new_rest_on}
use Rattle.cx_promotion.proofs.Impossible.{no_true}

-- where a cycle of a group goes on
hole_goes : (g : ℕ) (c : Ended) (v : Truth) (after : State) → hole_turn g c v ≡ answers.Goes after → c ≡ Goes after
hole_goes g c One after e = absurd (cc)
hole_goes g c Zero after e = turn_goes c after e
hole_goes g c truths.Conflict after e = absurd (cc)
hole_goes g c truths.Undefined after e = absurd (cc)

clear_goes : (unclear : Option Fault) (c : Ended) (after : State) → unless_unclear unclear c ≡ answers.Goes after → c ≡ Goes after
clear_goes None c after e = turn_goes c after e
clear_goes (Some f) c after e = absurd (cc)

-- what goes on from where a turn went hangs on that state alone
turns_alike : (rest : State → State) (s : State) (x : Turn State Fault) (f g : State → Answer State Fault) → ((after : State) → x ≡ answers.Goes after → f after ≡ g after) → turn_then rest s x f ≡ turn_then rest s x g
turns_alike rest s answers.Ends f g same = refl
turns_alike rest s (answers.Goes after) f g same = ap (after_turns 1) (same after refl)
turns_alike rest s (answers.Faults fault) f g same = refl

ends_alike : (P : State → Type 0) (o : Answer State Fault) (n : ℕ) (go on : Meaning State Fault) → Leaves P o → ((s : State) (k : ℕ) → P s → go s k ≡ on s k) → then_do o n go ≡ then_do o n on
ends_alike P (End s t) n go on left same = ap (after_turns t) (same s _ left)
ends_alike P (answers.Fault f t) n go on left same = refl
ends_alike P More n go on left same = refl

module _ (part other : PlainComponent) (cells more : Cells) (t : Twins MadeBeside (Node part cells) (Node other more)) (held : Held) where
  abbrev i : Instance
  i = Node part cells

  abbrev j : Instance
  j = Node other more

  abbrev h : MadeBeside i j
  h = beside_each MadeBeside i j t

  abbrev P : ℕ → Type 0
  P g = IsPromoted h.whole part other g

  abbrev L : control.Leaves State Fault
  L = leaves i (control_below cells) held

  abbrev W : control.Leaves State Fault
  W = whole_leaves i (whole_below cells) held

  rest_of : (s : State) → IsSettled i s → KidsRest cells s
  rest_of s settled c child at = child_settled i s c child at settled

  -- TURNS OF A GROUP in the old design
  turns_are : (g : ℕ) (s : State) (n : ℕ) → KidsRest cells s → turns_of (idle i) (group_turn i held g) s n ≡ turns_of (idle i) (calls.group_turn i held g) s n
  turns_are g s zero kids = refl
  turns_are g s (suc n) kids =
      ap (λ c. turn_then (idle i) s (hole_turn g c (truth_of (seen i held (group g) s (ports.Done g)))) (λ after. turns_of (idle i) (group_turn i held g) after n)) (old_rests i j t held (group g) [] tt s kids)
      ∙ turns_alike (idle i) s (calls.group_turn i held g s) (λ after. turns_of (idle i) (group_turn i held g) after n) (λ after. turns_of (idle i) (calls.group_turn i held g) after n)
      (λ after goes. turns_are g after n (old_rest_on i held (group g) s after kids (hole_goes g (cycle i held (group g) s) (truth_of (seen i held (group g) s (ports.Done g))) after goes)))

  -- ISLANDS in the new one, without static invokes
  own_deeds : (k : History) (x : ℕ) (list : List Occurrence) → AllOwn (deeds_in k x (map event_of list))
  own_deeds k x [] = tt
  own_deeds k x (islands.Runs g from to conditions ∷ rest) = by (is_now k x from to (map sample_of conditions)) (own_deeds k x rest)
    where
      by : (b : Bool) → AllOwn (deeds_in k x (map event_of rest)) → AllOwn (deed_if b (Acts [] (record { group = g; offset = x - from })) (deeds_in k x (map event_of rest)))
      by true own = own
      by false own = own
  own_deeds k x (islands.Looks port at conditions ∷ rest) = own_deeds k x rest

  says_now : (a : History) (k : islands.History) → Says a k → (x : ℕ) (s : State) → Says (and_now a x (look_below j held s)) (islands.and_now k x (seen j held nothing s))
  says_now a k says x s p at = ap (λ b. cond (nat_eq x at) (is_one (truth_of (seen j held nothing s p))) b) (says p at)

  turn_is : (list : List Occurrence) (x : ℕ) (a : History) (k : islands.History) → Says a k → (s : State) → KidsRest cells s → whole_turn j held (map event_of list) x a s ≡ island_turn j held list x k s
  turn_is list x a k says s kids =
      ap (λ f. unless_unclear f (whole_cycle j held (entries (own_entries (deeds_in a x (map event_of list)))) (deeds_in a x (map event_of list)) s))
      (ap (first_unclear (look_below j held s)) (looks_same a k says x list) ∙ unclear_same (look_below j held s) (looked_at k x list))
      ∙ ap (unless_unclear (islands.first_unclear (seen j held nothing s) (looked_at k x list)))
      (new_rests i j t held (entries (own_entries (deeds_in a x (map event_of list)))) (deeds_in a x (map event_of list)) (own_deeds a x list) s kids
      ∙ ap (λ es. cycle j held (entries es) s) (acts_same a k says x list))

  from_is : (list : List Occurrence) (left x : ℕ) (a : History) (k : islands.History) → Says a k → (s : State) (n : ℕ) → KidsRest cells s
      → whole_from j held (map event_of list) left x a s n ≡ island_from j held list left x k s n
  from_is list zero x a k says s n kids = refl
  from_is list (suc left) x a k says s zero kids = refl
  from_is list (suc left) x a k says s (suc n) kids =
      ap (λ turn. turn_then (idle j) s turn (λ after. whole_from j held (map event_of list) left (suc x) (and_now a x (look_below j held s)) after n))
      (turn_is list x (and_now a x (look_below j held s)) (islands.and_now k x (seen j held nothing s)) (says_now a k says x s) s kids)
      ∙ turns_alike (idle j) s (island_turn j held list x (islands.and_now k x (seen j held nothing s)) s)
      (λ after. whole_from j held (map event_of list) left (suc x) (and_now a x (look_below j held s)) after n) (λ after. island_from j held list left (suc x) (islands.and_now k x (seen j held nothing s)) after n)
      (λ after goes.
      from_is list left (suc x) (and_now a x (look_below j held s)) (islands.and_now k x (seen j held nothing s)) (says_now a k says x s) after n
      (new_rest_on i j t held (entries (active_in (islands.and_now k x (seen j held nothing s)) x list)) s after kids
      (clear_goes (islands.first_unclear (seen j held nothing s) (looked_at (islands.and_now k x (seen j held nothing s)) x list))
      (cycle j held (entries (active_in (islands.and_now k x (seen j held nothing s)) x list)) s) after goes)))

  island_is : (form : PlainForm) → Bare form → (s : State) (n : ℕ) → KidsRest cells s → whole_island j held form s n ≡ island j held form s n
  island_is form bare s n kids =
      ap (λ list. whole_from j held list (form_lasts other form) 0 no_history s n) (bare_form other (events_below more) form bare 0 [])
      ∙ ap (λ left. whole_from j held (map event_of (form_flat other form 0 [])) left 0 no_history s n) (bare_form_lasts other (events_below more) form bare)
      ∙ from_is (form_flat other form 0 []) (form_length other form) 0 no_history islands.no_history (λ p at. refl) s n kids

  run_bare : {ss : PlainStatements} → IsRun P ss → BareAll ss
  run_bare no_more = tt
  run_bare (one_more is later) = (tt, run_bare later)

  -- THE OLD PIECE
  plain_turns : (kids : Children) (g : ℕ) (kind : GroupKind) → is_plain kind ≡ true → called i g ≡ None → (s : State) (n : ℕ) → enable_kind i kids held g kind s n ≡ turns_of (idle i) (group_turn i held g) s n
  plain_turns kids g kinds.Plain e none s n = ap (λ o. call_or_turns i kids held g o s n) none
  plain_turns kids g kinds.Comb e none s n = no_true e
  plain_turns kids g (kinds.Timed k) e none s n = no_true e

  enable_is : (g : ℕ) → P g → (s : State) (n : ℕ) → KidsRest cells s → enable i (whole_below cells) held g s n ≡ calls.enable i (control_below cells) held g s n
  enable_is g is s n kids =
      let shape = shape_of h.whole (group_at part g) is.0 is.1 in
      plain_turns (whole_below cells) g (group_at part g).kind shape.plain (called_none i h.whole h.cells (group_at part g).assigns shape.no_part) s n
      ∙ turns_are g s n kids
      ∙ sym (enable_turns part other cells more t held g is s n)

  parts_are : {ss : PlainStatements} → IsRun P ss → (s : State) (n : ℕ) → IsSettled i s → run_parts W ss s n ≡ run_parts L ss s n
  parts_are no_more s n settled = refl
  parts_are (one_more {g = g} {p = p} {ss = ss} is later) s n settled =
      ap (λ o. then_do o n (run_parts W ss)) (enable_is g is s n (rest_of s settled))
      ∙ ends_alike (IsSettled i) (calls.enable i (control_below cells) held g s n) n (run_parts W ss) (run_parts L ss) (settles_statement i h.keeps_idle held (Placed (Enable g) no_place) s n settled)
      (λ s1 k settled1. parts_are later s1 k settled1)

  -- A PIECE
  pub piece_whole : (s0 : PlainStatement) (run : PlainStatements) → IsRun P (a_statement s0 run) → (counts : Counted State)
      → Quicker i counts (run_parts W (a_statement s0 run)) (whole_island j held (StaticSeq None (a_statement s0 run)))
  piece_whole s0 run is counts before s z n m room e settled =
      subst (λ o. Carried NoLater Same same_fault before (counts s n) o (whole_island j held (StaticSeq None (a_statement s0 run)) z m)) (sym (parts_are is s n settled))
      (subst (λ x. Carried NoLater Same same_fault before (counts s n) (run_parts L (a_statement s0 run) s n) x)
      (sym (island_is (StaticSeq None (a_statement s0 run)) (run_bare is) z m (subst (KidsRest cells) e (rest_of s settled))))
      (piece_quicker part other cells more t held s0 run is counts before s z n m room e settled))

  -- ONE ENABLE of a promoted group
  pub promoted_whole : (others : Children) (counts : Counted State) (g : ℕ) → P g → Quicker i counts (enable i (whole_below cells) held g) (enable j others held g)
  promoted_whole others counts g is before s z n m room e settled =
      subst (λ o. Carried NoLater Same same_fault before (counts s n) o (enable j others held g z m)) (sym (enable_is g is s n (rest_of s settled)))
      (subst (λ x. Carried NoLater Same same_fault before (counts s n) (calls.enable i (control_below cells) held g s n) x) (sym same_island)
      (promoted_quicker part other cells more t held others counts g is before s z n m room e settled))
    where
      same_island : enable j others held g z m ≡ calls.enable j others held g z m
      same_island =
          ap (λ (x : PlainGroup). enable_kind j others held g x.kind z m) is.2
          ∙ island_is (Enable g) tt z m (subst (KidsRest cells) e (rest_of s settled))
          ∙ sym (enable-island j others held g is.0 (promoted_length part other cells more t held g is) z m)
