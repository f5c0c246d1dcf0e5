-- A woven run, choice by choice.
use Rattle.std.proofs.Common.{◌≡◌, ℕ, zero, suc, ◌+◌, ◌-◌, ◌%◌, ◌^◌, ◌≤◌, ◌<◌, ⊎_elim, List, [], Option, Some, None, Result, Ok, Err, refl, sym, ap, ◌∙◌, subst, arith}
use Rattle.std.proofs.Math.Path.{fun_ext}
use Rattle.std.proofs.Math.Nat.{mod-eq_of_lt}
use Rattle.std.proofs.lemmas.Bool.{cases_lt}
use Rattle.cx_meaning.specs.Designs.{PlainDesign, PlainStatement}
use Rattle.cx_meaning.specs.Instances.{Instance, Node, Path, State, start, part_of, instance_at, tree_of}
use Rattle.cx_meaning.specs.Sights.{Held, unheld}
use Rattle.cx_design.specs.declared.actives.PortFault.{PortFault}
use Rattle.cx_design_sizes.specs.Capped.{capped}
use Rattle.cx_state.specs.Tables.{IsNumber}
use Rattle.cx_state.specs.States.{PlainInstance, inputs_held, StandsFor, under_path}
use Rattle.cx_turns.specs.Children.{HasControl}
use Rattle.cx_weave.specs.declared.strands.Strand.{Strand}
use Rattle.cx_weave.specs.declared.weaving.Wove.TheVariants.{End, Fault, More}
use Rattle.cx_orders.specs.Open.{Open, open_control, open_statement}
use Rattle.cx_weave.specs.Results.{EndsIn}
use Rattle.cx_orders.specs.Steps.{Stepped, Now, Stops, step}
use Rattle.cx_weave.specs.Strands.{PlainStrand, plain_strand, strand_leaves, Shows, IsShown}
use Rattle.cx_weave.specs.Strides.{OpensAs, StepTold, HasStepped}
use Rattle.cx_orders.specs.Woven as woven
use Rattle.cx_orders.specs.Woven.{Woven, Choices, leaf_of, then_weave, weave_from, woven, by_list}
use Rattle.cx_weave.proofs.PartSteps.{leaves_shown}
use Rattle.cx_meaning.proofs.InstancesLemmas.{here, main_first}

-- a choice of 32 bits names the same leaf where leaves are counted up to a limit
pub capped_leaf : (choice leaves : ℕ) → choice < 2 ^ 32 → choice % capped leaves ≡ choice % leaves
capped_leaf choice leaves less = ⊎_elim
    (λ (small : leaves < 2 ^ 64). ap (λ m. choice % m) (let e : capped leaves ≡ leaves = omega arith in e))
    (λ (large : 2 ^ 64 ≤ leaves). mod-eq_of_lt {n = choice} {m = capped leaves} (omega (arith, less, large)) ∙ sym (mod-eq_of_lt {n = choice} {m = leaves} (omega (arith, less, large))))
    (cases_lt leaves (2 ^ 64))

-- the leaf that a choice names, where leaves are counted up to a limit
pub leaf_named : (choice other leaves count : ℕ) → choice < 2 ^ 32 → choice ≡ other → count ≡ capped leaves → choice % count ≡ other % leaves
leaf_named choice other leaves count less is told = ap (λ m. choice % m) told ∙ capped_leaf choice leaves less ∙ ap (λ k. k % leaves) is

-- A RUN SO FAR: what is open, and the state
pub record WovenSoFar (d : PlainDesign) (words : List (List ℕ)) (choice : Choices) (steps made sum : ℕ) (p : PlainStrand) (rows : List PlainInstance) : Type 0 where
  pub shown : Open
  pub shows : Shows d 0 p shown
  pub state : State
  pub stands : StandsFor (tree_of d) rows state
  pub same : woven d words choice steps ≡ weave_from (tree_of d) unheld choice (steps - made) made sum (Some shown) state

main_is : (d : PlainDesign) → instance_at (tree_of d) [] ≡ tree_of d
main_is d = here (tree_of d)

control_is : (i : Instance) → open_statement i (part_of i).control ≡ open_control i
control_is (Node part cells) = refl

module _ (d : PlainDesign) (words : List (List ℕ)) (choice : Choices) (steps : ℕ) where
  pub weave_starts : (control : PlainStatement) (strand : Strand) (rows : List PlainInstance) → HasControl d 0 control → OpensAs d 0 control strand → StandsFor (tree_of d) rows (start (tree_of d) words) → WovenSoFar d words choice steps 0 0 (plain_strand strand) rows
  weave_starts control strand rows controls opens stands = record {
    shown = open_control (tree_of d);
    shows =
        let e : open_statement (instance_at (tree_of d) []) control ≡ open_control (tree_of d) =
        ap (open_statement (instance_at (tree_of d) [])) (controls [] (main_first (tree_of d)))
        ∙ ap (λ i. open_statement i (part_of i).control) (main_is d) ∙ control_is (tree_of d) in
        subst (Shows d 0 (plain_strand strand)) e (opens [] (main_first (tree_of d)));
    state = start (tree_of d) words;
    stands = stands;
    same = ap (λ m. weave_from (tree_of d) unheld choice m 0 0 (Some (open_control (tree_of d))) (start (tree_of d) words)) (let e : steps ≡ steps - 0 = omega arith in e);
  }

  -- while no choice is left
  pub weave_more : (made sum : ℕ) (p : PlainStrand) (rows : List PlainInstance) → steps ≤ made → WovenSoFar d words choice steps made sum p rows → EndsIn d rows More (woven d words choice steps)
  weave_more made sum p rows past so = so.same ∙ ap (λ m. weave_from (tree_of d) unheld choice m made sum (Some so.shown) so.state) (let e : steps - made ≡ 0 = omega (arith, past) in e)

  module _ (made sum leaf : ℕ) (p : PlainStrand) (old : List PlainInstance) (less : made < steps) (is_leaf : leaf ≡ choice made % strand_leaves p) (none : (input : ℕ) → inputs_held old 0 input ≡ unheld input) (so : WovenSoFar d words choice steps made sum p old) where
    -- the next choice is a turn of the leaf
    next : woven d words choice steps ≡ then_weave made (step (tree_of d) unheld so.shown leaf so.state) (weave_from (tree_of d) unheld choice (steps - (made + 1)) (suc made) (sum + leaf))
    next =
        let one : steps - made ≡ suc (steps - (made + 1)) = omega (arith, less) in
        let same_leaf : leaf_of (choice made) so.shown ≡ leaf = ap (λ m. choice made % m) (leaves_shown d 0 p so.shown so.shows) ∙ sym is_leaf in
        so.same
        ∙ ap (λ m. weave_from (tree_of d) unheld choice m made sum (Some so.shown) so.state) one
        ∙ ap (λ k. then_weave made (step (tree_of d) unheld so.shown k so.state) (weave_from (tree_of d) unheld choice (steps - (made + 1)) (suc made) (sum + k))) same_leaf

    told : (new : List PlainInstance) (r : Result (Option Strand) PortFault) → HasStepped d old new 0 p leaf r → StepTold d 0 [] so.state new r (step (tree_of d) unheld so.shown leaf so.state)
    told new r stepped =
        let turn = stepped.tells [] so.state so.shown (main_first (tree_of d)) so.stands so.shows in
        subst (λ (h : Held). StepTold d 0 [] so.state new r (step (tree_of d) h so.shown leaf so.state)) (fun_ext none)
        (subst (λ i. StepTold d 0 [] so.state new r (step i (inputs_held old 0) so.shown leaf so.state)) (main_is d) turn)

    pub weave_goes : (new : List PlainInstance) (left : Strand) → HasStepped d old new 0 p leaf (Ok (Some left)) → WovenSoFar d words choice steps (made + 1) (sum + leaf) (plain_strand left) new
    weave_goes new left stepped = by_turn (step (tree_of d) unheld so.shown leaf so.state) (told new (Ok (Some left)) stepped) next
      where
        by_turn : (x : Stepped (Option Open)) → StepTold d 0 [] so.state new (Ok (Some left)) x → woven d words choice steps ≡ then_weave made x (weave_from (tree_of d) unheld choice (steps - (made + 1)) (suc made) (sum + leaf))
            → WovenSoFar d words choice steps (made + 1) (sum + leaf) (plain_strand left) new
        by_turn (Now None after) t e = absurd t.1
        by_turn (Now (Some o) after) t e = record {
          shown = o;
          shows = t.1;
          state = after;
          stands = t.0;
          same = e ∙ ap (λ m. weave_from (tree_of d) unheld choice (steps - (made + 1)) m (sum + leaf) (Some o) after) (let f : suc made ≡ made + 1 = omega arith in f);
        }
        by_turn (Stops fault) t e = absurd t

    pub weave_ends : (new : List PlainInstance) → HasStepped d old new 0 p leaf (Ok None) → EndsIn d new (End (made + 1) (sum + leaf)) (woven d words choice steps)
    weave_ends new stepped = by_turn (step (tree_of d) unheld so.shown leaf so.state) (told new (Ok None) stepped) next
      where
        by_turn : (x : Stepped (Option Open)) → StepTold d 0 [] so.state new (Ok None) x → woven d words choice steps ≡ then_weave made x (weave_from (tree_of d) unheld choice (steps - (made + 1)) (suc made) (sum + leaf)) → EndsIn d new (End (made + 1) (sum + leaf)) (woven d words choice steps)
        by_turn (Now None after) t e =
            (after, e ∙ ending (steps - (made + 1)) after ∙ ap (λ m. woven.Ends after m (sum + leaf)) (let f : suc made ≡ made + 1 = omega arith in f), t.0)
          where
            ending : (left : ℕ) (after : State) → weave_from (tree_of d) unheld choice left (suc made) (sum + leaf) None after ≡ woven.Ends after (suc made) (sum + leaf)
            ending zero after = refl
            ending (suc left) after = refl
        by_turn (Now (Some o) after) t e = absurd t.1
        by_turn (Stops fault) t e = absurd t

    pub weave_faults : (new : List PlainInstance) (fault : PortFault) → HasStepped d old new 0 p leaf (Err fault) → EndsIn d new (Fault fault made) (woven d words choice steps)
    weave_faults new fault stepped = by_turn (step (tree_of d) unheld so.shown leaf so.state) (told new (Err fault) stepped) next
      where
        by_turn : (x : Stepped (Option Open)) → StepTold d 0 [] so.state new (Err fault) x → woven d words choice steps ≡ then_weave made x (weave_from (tree_of d) unheld choice (steps - (made + 1)) (suc made) (sum + leaf)) → EndsIn d new (Fault fault made) (woven d words choice steps)
        by_turn (Now o after) t e = absurd t
        by_turn (Stops f) t e = (f, t, e)

-- what is left is shown
pub left_shown : (d : PlainDesign) (old new : List PlainInstance) (n k : ℕ) (p : PlainStrand) (left : Strand) → HasStepped d old new n p k (Ok (Some left)) → (path : Path) (s : State) → IsNumber d n path → StandsFor (tree_of d) old s → IsShown d n p → IsShown d n (plain_strand left)
left_shown d old new n k p left stepped path s number stands (o, shown) = by_turn (step (instance_at (tree_of d) path) (inputs_held old n) o k (under_path path s)) (stepped.tells path s o number stands shown)
  where
    by_turn : (x : Stepped (Option Open)) → StepTold d n path s new (Ok (Some left)) x → IsShown d n (plain_strand left)
    by_turn (Now None after) t = absurd t.1
    by_turn (Now (Some o) after) t = (o, t.1)
    by_turn (Stops fault) t = absurd t
