-- GROUPS THAT STAY, beside static children: their turns, their calls and their islands are the same in both designs.
use Rattle.std.proofs.Common.{◌≡◌, ℕ, ◌<◌, inl, inr, Bool, true, false, [], ◌∷◌, length, Option, Some, None, refl, sym, ap, ◌∙◌, subst}
use Rattle.std.proofs.Math.Path.{fun_ext}
use Rattle.cx_text.specs.Members.{In}
use Rattle.cx_text.specs.declared.places.Place.{Place}
use Rattle.cx_meaning.specs.declared.kinds.GroupKind.{GroupKind}
use Rattle.cx_meaning.specs.declared.kinds.GroupKind.TheVariants as kinds
use Rattle.cx_meaning.specs.declared.ports.PortRef.TheVariants as ports
use Rattle.cx_meaning.specs.Designs.{PlainGroup, group_at, Enable, Placed}
use Rattle.cx_meaning.specs.Instances.{Instance, Node, OfInstance, part_of, cells_of, cell_at, State, under, idle}
use Rattle.cx_meaning.specs.Active.{Active, group, capture}
use Rattle.cx_meaning.specs.Truths.{truth_of}
use Rattle.cx_meaning.specs.Sights.{Held, seen}
use Rattle.cx_meaning.specs.Cycles.{Fault, Ended}
use Rattle.cx_meaning.specs.Answers.{Answer, End, More, idle_turn, one_turn, turns_of}
use Rattle.cx_meaning.specs.Answers as answers
use Rattle.cx_meaning.specs.Islands.{kind_length, turn_of}
use Rattle.cx_meaning.specs.Calls.{hole_turn, inputs_of_call, called, captures, lift_answer}
use Rattle.cx_meaning.specs.Running.{Children}
use Rattle.cx_meaning.proofs.AnswersLemmas.{steady_turns}
use Rattle.cx_meaning.proofs.ControlLemmas.{called_child}
use Rattle.cx_rules.specs.Circles.{IsAcyclic, AreAcyclic}
use Rattle.cx_rules.specs.Items.{Dynamic, Visited, visit, statements_in}
use Rattle.cx_frames.proofs.CircleFrames.{capture_acyclic}
use Rattle.cx_rewrites.specs.Tallies.{none, plus, Counted, then_count}
use Rattle.cx_rewrites.specs.Carrying.{NoLater, Same, Carried, Carries}
use Rattle.cx_rewrites.proofs.CarryLemmas.{then_carried}
use Rattle.cx_flattening.specs.Controlled.{AllControlled}
use Rattle.cx_flattening.specs.Seeing.{NoCircle}
use Rattle.cx_flattening.specs.Whole.{whole_cycle, whole_island, after_child, call, group_turn, call_or_turns, enable_kind, enable}
use Rattle.cx_flattening.proofs.FlatDeeper.{none_below}
use Rattle.cx_flattening.proofs.Ruled.{AllRuled}
use Rattle.cx_promotion.proofs.Twins.{Twins, beside_each, idle-twin}
use Rattle.cx_promotion.proofs.MadeBeside.{MadeBeside}
use Rattle.cx_promotion.proofs.Stays.{seen_stays}
use Rattle.cx_promotion.proofs.StaticStays.{Same as SameLengths}
use Rattle.cx_promotion.proofs.LeavesQuicken.{same_fault, SameSettled, Quicker, same_le, grown, steady_quicker, recounted, child_settled, group_idle, called_stays, captures_stays, length_stays, lift_carried, inputs_stay}
use Rattle.cx_promotion.proofs.WholeStays.{whole_stays}
use Rattle.cx_promotion.proofs.WholeIslands.{whole_island_stays}
use Rattle.cx_flattening.proofs.WholeSteady.{steady_island, steady_after}

-- nothing leads in a circle where nothing is done below
own_circle : (i : Instance) (act : Active) → IsAcyclic i act → AreAcyclic i → NoCircle i act []
own_circle (Node part cells) act acyclic h = (acyclic, h.1, none_below cells h.1)

module _ (i j : Instance) (t : Twins MadeBeside i j) (ruled : AllRuled i) (controlled : AllControlled i) (held : Held) (g : ℕ)
    (stays : group_at (part_of j) g ≡ group_at (part_of i) g) (there : g < length (part_of i).groups) where
  abbrev h : MadeBeside i j
  h = beside_each MadeBeside i j t

  -- TURNS
  turn_stays : group_turn j held g ≡ group_turn i held g
  turn_stays =
      fun_ext (λ s.
      ap (λ v. hole_turn g (whole_cycle j held (group g) [] s) (truth_of v)) (seen_stays i j t held (group g) s (group_idle i j t held g stays there) (h.groups g there) (ports.Done g))
      ∙ ap (λ c. hole_turn g c (truth_of (seen i held (group g) s (ports.Done g))))
      (whole_stays i j t held (group g) [] s (group_idle i j t held g stays there) (own_circle i (group g) (h.groups g there) h.acyclic) (λ d none. absurd none)))

  turns_stay : (s : State) (n : ℕ) → turns_of (idle j) (group_turn j held g) s n ≡ turns_of (idle i) (group_turn i held g) s n
  turns_stay s n = ap (λ rest. turns_of rest (group_turn j held g) s n) (idle-twin MadeBeside i j t) ∙ ap (λ turn. turns_of (idle i) turn s n) turn_stays

  -- A CALL
  capture_stays : (c : ℕ) (s : State) → whole_cycle j held (capture g c) [] s ≡ whole_cycle i held (capture g c) [] s
  capture_stays c s =
      whole_stays i j t held (capture g c) [] s (group_idle i j t held g stays there) (own_circle i (capture g c) (capture_acyclic i g c (h.groups g there)) h.acyclic) (λ d none. absurd none)

  after_stays : (c : ℕ) (capturing : Bool) (s : State) (n : ℕ) → after_child j held g c capturing s n ≡ after_child i held g c capturing s n
  after_stays c true s n =
      ap (λ rest. one_turn rest (λ s1. turn_of (whole_cycle j held (capture g c) [] s1)) (idle_turn rest) s n) (idle-twin MadeBeside i j t)
      ∙ ap (λ (go : State → Ended). one_turn (idle i) (λ s1. turn_of (go s1)) (idle_turn (idle i)) s n) (fun_ext (capture_stays c))
  after_stays c false s n = ap (λ rest. idle_turn rest s n) (idle-twin MadeBeside i j t)

  module _ (kids others : Children) (children : (c : ℕ) (child : Instance) → cell_at (cells_of i) c ≡ OfInstance child → (own : Held) → Carries NoLater (SameSettled child) same_fault (λ s n. none) (kids c own) (others c own)) where
    after_carries : (c : ℕ) → Carries NoLater Same same_fault (λ s n. none) (after_child i held g c (captures i g)) (after_child j held g c (captures j g))
    after_carries c before s z n m room e = by (after_child i held g c (captures i g) s n) refl
      where
        by : (o : Answer State Fault) → after_child i held g c (captures i g) s n ≡ o → Carried NoLater Same same_fault before none o (after_child j held g c (captures j g) z m)
        by (End a k) is =
            let later = grown n (after_child i held g c (captures i g) s n) (after_child i held g c (captures i g) s m) a k (steady_after i kids held g c (captures i g) s n m room) is in (
              a,
              k,
              ap (λ b. after_child j held g c b z m) (captures_stays i j t held g stays there) ∙ after_stays c (captures i g) z m ∙ ap (λ y. after_child i held g c (captures i g) y m) (sym e) ∙ later.1,
              same_le k,
              refl,
            )
        by (answers.Fault f k) is = tt
        by More is = tt

    call_quicker : (counts : Counted State) (c : ℕ) (child : Instance) → cell_at (cells_of i) c ≡ OfInstance child → Quicker i counts (call i kids held g c) (call j others held g c)
    call_quicker counts c child is before s z n m room e settled =
        recounted (λ a b. a ≡ b) before (plus none (then_count (lift_answer c s (kids c (inputs_of_call i held g c s) (under c s) n)) n (λ s1 k. none))) (counts s n) (call i kids held g c s n) (call j others held g c z m)
        (then_carried NoLater Same same_fault before none n m room
        (lift_answer c s (kids c (inputs_of_call i held g c s) (under c s) n)) (lift_answer c z (others c (inputs_of_call j held g c z) (under c z) m)) (λ s1 k. none)
        (after_child i held g c (captures i g)) (after_child j held g c (captures j g))
        (lift_carried i j t held g stays there child c before none s z (kids c (inputs_of_call i held g c s) (under c s) n) (others c (inputs_of_call j held g c z) (under c z) m) e
        (subst (λ own. Carried NoLater (SameSettled child) same_fault before none (kids c (inputs_of_call i held g c s) (under c s) n) (others c own (under c z) m))
        (sym (ap (inputs_of_call j held g c) (sym e) ∙ inputs_stay i j t held g stays there c s))
        (children c child is (inputs_of_call i held g c s) before (under c s) (under c z) n m room (ap (under c) e, child_settled i s c child is settled))))
        (after_carries c))

    called_quicker : (counts : Counted State) (o : Option ℕ) → called i g ≡ o → Quicker i counts (call_or_turns i kids held g o) (call_or_turns j others held g o)
    called_quicker counts None calls =
        steady_quicker i counts (turns_of (idle i) (group_turn i held g)) (turns_of (idle j) (group_turn j held g)) (steady_turns (idle i) (group_turn i held g)) turns_stay
    called_quicker counts (Some c) calls = let r = called_child (cells_of i) (group_at (part_of i) g).assigns c calls in call_quicker counts c r.0 r.1

    dynamic_quicker : (counts : Counted State) → Quicker i counts (call_or_turns i kids held g (called i g)) (call_or_turns j others held g (called j g))
    dynamic_quicker counts =
        subst (λ o. Quicker i counts (call_or_turns i kids held g (called i g)) (call_or_turns j others held g o)) (sym (called_stays i j t held g stays there)) (called_quicker counts (called i g) refl)

    -- THE ENABLE of such a group
    kind_quicker : (counts : Counted State) (place : Place) → In (statements_in (part_of i)) (record { context = Dynamic; form = Enable g; place = place })
        → (kind : GroupKind) → Quicker i counts (enable_kind i kids held g kind) (enable_kind j others held g kind)
    kind_quicker counts place stands kinds.Plain = dynamic_quicker counts
    kind_quicker counts place stands kinds.Comb = dynamic_quicker counts
    kind_quicker counts place stands (kinds.Timed length) =
        steady_quicker i counts (whole_island i held (Enable g)) (whole_island j held (Enable g)) (steady_island i held (Enable g))
        (whole_island_stays i j t ruled controlled held (Enable g) (record { context = Dynamic; place = place; inside = inside }) same)
      where
        inside : (v : Visited) → In (visit Dynamic (Placed (Enable g) place)) v → In (statements_in (part_of i)) v
        inside v (inl e) = subst (In (statements_in (part_of i))) e stands
        inside v (inr wrong) = absurd wrong

        same : SameLengths (part_of i) (part_of j) (g ∷ [])
        same k (inl e) = subst (λ n. kind_length (group_at (part_of j) n).kind ≡ kind_length (group_at (part_of i) n).kind) e (length_stays i j t held g stays there)
        same k (inr wrong) = absurd wrong

    pub enable_whole : (counts : Counted State) (place : Place) → In (statements_in (part_of i)) (record { context = Dynamic; form = Enable g; place = place }) → Quicker i counts (enable i kids held g) (enable j others held g)
    enable_whole counts place stands =
        subst (λ kind. Quicker i counts (enable i kids held g) (enable_kind j others held g kind)) (sym (ap (λ (x : PlainGroup). x.kind) stays)) (kind_quicker counts place stands (group_at (part_of i) g).kind)
