-- What a trial tells is one thing, made of what its parts tell; targets of its tree are ports.
use Rattle.std.proofs.Common.{◌≡◌, ◌⊎◌, inl, inr, ⊎_elim, ℕ, ◌≤◌, ◌<◌, ◌^◌, All, if◌then◌else◌, Bool, false, List, [], ◌∷◌, map, flat_map, Some, None, Result, Ok, Err, IfOk, IfErr, MatchResult, refl, sym, ap, ◌∙◌, subst}
use Rattle.std.proofs.lemmas.Bool.{lt-ltb, le-ltb}
use Rattle.cx_text.proofs.MemberLaws.{each_in, flat_in, in_either}
use Rattle.cx_text.specs.declared.diagnostics.Diagnostic.{Diagnostic}
use Rattle.cx_text.specs.declared.limits.TheConstants.{BUDGET, COMPILE_SIZE}
use Rattle.cx_text.specs.Loading.{FitsShape}
use Rattle.cx_data.specs.Dump.{dump_text}
use Rattle.cx_vtree.specs.PlainParts.{rows_of}
use Rattle.cx_ast.specs.PlainTree.{PlainTree, PlainComponent, PlainGroup, PlainAssign}
use Rattle.cx_meaning.specs.Designs.{PlainDesign}
use Rattle.cx_text.specs.Members.{Each, In}
use Rattle.cx_rules.specs.Externals.{external_rows}
use Rattle.cx_rules.specs.Sizes.{design_size}
use Rattle.cx_net.specs.Realises.{Realises}
use Rattle.cx_numbering.specs.DesignOf.{design_of}
use Rattle.cx_numbering.specs.Names.{groups_in, always_in}
use Rattle.cx_numbering.specs.NameRules.{Standing, standing}
use Rattle.cx_names.specs.Targets.{is_literal, HasTargets}
use Rattle.cx_check.specs.Acceptance.{IsAcceptedTree, TreeBreak}
use Rattle.cx_check.proofs.Verdicts as verdicts
use Rattle.cx_trial.specs.TrialTree.{all_groups, trial_tree}
use Rattle.cx_commands.specs.declared.stops.Stop.{Stop}
use Rattle.cx_commands.specs.declared.stops.Stop.TheVariants as stops
use Rattle.cx_compiler.specs.Interpreted.{PlainLeft, design_left, StopsDesign}
use Rattle.cx_compiler.specs.Compiled.{IsDesignTooLarge, IsDesignWritten, too_large, written_source}
use Rattle.cx_compiler.specs.Simulated.{IsSimStop, TextLeaves}
use Rattle.cx_compiler.specs.Texts.{IsTreeStop}
use Rattle.cx_compiler.proofs.Once.{Told, not_both, same_stop, all_answered, all_stopped}
use Rattle.cx_compiler.proofs.OneSource.{one_source_of}
use Rattle.cx_compiler.proofs.BelowLemmas.{loaded_fits}
use Rattle.cx_driver.specs.Tried.{HasTrialMemory, words_sum, zeros, line_of, line_result, try_result, TreeTries, Tries}
use Rattle.cx_driver.proofs.SimLemmas.{left_answers, no_stop}
use Rattle.cx_driver.proofs.TrialMemory.{shapes_stay, small_sum}
use Rattle.cx_driver.proofs.TrialPlaces.{trial_once}
use Rattle.cx_driver.proofs.TrialWires.{OfGroup, groups_each, none_always, all_hold}
use Rattle.cx_driver.proofs.LeftLemmas.{design_in_text, text_once}
use Rattle.cx_names.proofs.TargetLemmas.{IsPort, owned, inside, free, HasTarget}

-- TARGETS: no target of an assignment is a literal
all_driven : (seed : ℕ) → Each (OfGroup HasTarget) (all_groups seed)
all_driven seed = all_hold HasTarget (λ cell port source. refl) (λ group cell. refl) seed

owned_port : (g : PlainGroup) (assigns : List PlainAssign) (x : Standing) → Each HasTarget assigns → In (map (owned g) assigns) x → IsPort x
owned_port g [] x h i = absurd i
owned_port g (a ∷ rest) x h (inl e) = subst IsPort e h.0
owned_port g (a ∷ rest) x h (inr i) = owned_port g rest x h.1 i

stands_as_port : (part : PlainComponent) (x : Standing) → Each (OfGroup HasTarget) part.wires → In (standing part) x → IsPort x
stands_as_port part x h i =
    let none : In (map free (always_in part.wires)) x → IsPort x = λ p. absurd (subst (λ assigns. In (map free assigns) x) (none_always HasTarget part.wires h) p) in
    let of_group : In (flat_map inside (groups_in part.wires)) x → IsPort x = λ q.
    (let found = flat_in inside (groups_in part.wires) x q in owned_port found.0 found.0.assigns x (each_in (λ (g : PlainGroup). Each HasTarget g.assigns) (groups_in part.wires) found.0 (groups_each HasTarget part.wires h) found.1) found.2) in
    ⊎_elim none of_group (in_either (map free (always_in part.wires)) (flat_map inside (groups_in part.wires)) x i)

-- in the tree of a trial targets are ports
pub trial_targets : (seed : ℕ) → HasTargets (trial_tree seed)
trial_targets seed part (inl e) x i = stands_as_port part x (subst (λ (p : PlainComponent). Each (OfGroup HasTarget) p.wires) e (all_driven seed)) i
trial_targets seed part (inr none) x i = absurd none

-- WHAT A TRIAL DOES is one thing, where its tree is accepted
module _ (seed : ℕ) (tree : PlainTree) where
  abbrev pub Accepts : Told → Type 0
  Accepts result = IsAcceptedTree tree × (result ≡ try_result seed (design_of tree))

  pub one_line : (a b : Told) → Accepts a → TreeTries seed tree b → a ≡ b
  one_line a b h (inl k) = h.1 ∙ sym k.1
  one_line a b h (inr k) = absurd (verdicts.accepted_once tree k.0 h.0 k.1)

  pub line_accepts : (line : List ℕ) → TreeTries seed tree (Ok line) → Accepts (Ok line)
  line_accepts line (inl h) = h
  line_accepts line (inr h) = absurd (not_both line (stops.Rule h.0) h.2)

  pub one_trial : (line : List ℕ) (stop : Stop) → TreeTries seed tree (Ok line) → TreeTries seed tree (Err stop) → ⊥
  one_trial line stop h k = not_both line stop (one_line (Ok line) (Err stop) (line_accepts line h) k)

  -- what is told of a tree that is refused, where it breaks one rule alone
  abbrev pub BreaksOnce : Type 0
  BreaksOnce = (a b : Diagnostic) → TreeBreak tree a → TreeBreak tree b → a ≡ b

  tells_rule : BreaksOnce → (told : Diagnostic) (stop : Stop) → TreeBreak tree told → TreeTries seed tree (Err stop) → stop ≡ stops.Rule told
  tells_rule once told stop b (inl k) = absurd (verdicts.accepted_once tree told k.0 b)
  tells_rule once told stop b (inr k) = same_stop stop (stops.Rule k.0) k.2 ∙ ap (λ d. stops.Rule d) (once k.0 told k.1 b)

  pub all_told : BreaksOnce → {X : Type 0} (bytes : X → List ℕ) (r : Result X Stop) → IfOk r (λ x. TreeTries seed tree (Ok (bytes x))) → IfErr r (λ stop. (stop ≡ stops.Memory) ⊎ TreeTries seed tree (Err stop))
      → (told : Diagnostic) → TreeBreak tree told → MatchResult r (λ _. ⊥) (λ stop. (stop ≡ stops.Memory) ⊎ (stop ≡ stops.Rule told))
  all_told once bytes (Ok x) h k told b = verdicts.accepted_once tree told (line_accepts (bytes x) h).0 b
  all_told once bytes (Err stop) h (inl memory) told b = inl memory
  all_told once bytes (Err stop) h (inr own) told b = inr (tells_rule once told stop b own)

pub tries_once : (seed : ℕ) (line : List ℕ) (stop : Stop) → Tries seed (Ok line) → Tries seed (Err stop) → ⊥
tries_once seed line stop = one_trial seed (trial_tree seed) line stop

-- from what a design leaves to its line
module _ (seed : ℕ) (d : PlainDesign) where
  abbrev sized : List ℕ → Bool → Told
  sized line b = if b then Err (stops.Rule (too_large d)) else Ok line

  leaves_line : (left : PlainLeft) (line : List ℕ) → design_left d zeros BUDGET ≡ Ok left → line ≡ line_of seed left → design_size d ≤ COMPILE_SIZE → try_result seed d ≡ Ok line
  leaves_line left line h e within =
      ap (λ r. line_result seed d r) h ∙ ap (sized (line_of seed left)) (le-ltb COMPILE_SIZE (design_size d) within) ∙ ap (λ l. Ok l) (sym e)

  pub leaves_large : (left : PlainLeft) (stop : Stop) → design_left d zeros BUDGET ≡ Ok left → IsDesignTooLarge d stop → (stop ≡ stops.Memory) ⊎ (try_result seed d ≡ Err stop)
  leaves_large left stop h (inl memory) = inl memory
  leaves_large left stop h (inr k) =
      inr (ap (λ r. line_result seed d r) h ∙ ap (sized (line_of seed left)) (lt-ltb COMPILE_SIZE (design_size d) k.0) ∙ ap (λ s. Err s) (sym k.1))

  -- by the run of its text
  module _ (left : PlainLeft) (leaves : design_left d zeros BUDGET ≡ Ok left) (realised : Realises d (written_source d)) (verilog : List ℕ) (written : IsDesignWritten d verilog) where
    text_leaves : TextLeaves verilog zeros BUDGET left
    text_leaves = design_in_text d (written_source d) realised BUDGET left verilog zeros written.1 leaves

    left_rows : (own : PlainLeft) → TextLeaves verilog zeros BUDGET own → map (λ m. m.shape) own.memories ≡ external_rows d
    left_rows own ran =
        let same = one_source_of verilog ran.source (written_source d) ran.spelled written.1 in
        let fits = loaded_fits zeros (rows_of ran.source.externals) ran.leaves.memories ran.leaves.loads in
        ap (λ ms. map (λ m. m.shape) ms) ran.leaves.run.leaves ∙ shapes_stay ran.leaves.memories ran.leaves.run.words
        ∙ fits.same_rows ∙ ap (λ s. rows_of s.externals) same ∙ realised.rows

    pub left_small : (own : PlainLeft) → TextLeaves verilog zeros BUDGET own → HasTrialMemory d → All FitsShape own.memories → words_sum own.memories < 2 ^ 64
    left_small own ran memory fits = small_sum own.memories (left_rows own ran ∙ memory) fits

    pub simulated_line : (own : PlainLeft) (line : List ℕ) → TextLeaves verilog zeros BUDGET own → line ≡ line_of seed own → try_result seed d ≡ Ok line
    simulated_line own line ran told = leaves_line left line leaves (told ∙ ap (λ l. line_of seed l) (text_once verilog zeros BUDGET own left ran text_leaves)) written.0

    pub unsimulated : (stop : Stop) → IsSimStop verilog zeros BUDGET stop → (stop ≡ stops.Memory) ⊎ (try_result seed d ≡ Err stop)
    unsimulated stop (inl memory) = inl memory
    unsimulated stop (inr h) = absurd (no_stop verilog zeros BUDGET (dump_text left.turns left.memories) stop (left_answers verilog zeros BUDGET left (dump_text left.turns left.memories) text_leaves refl) h)

  pub unleft : (stop : Stop) → StopsDesign d zeros BUDGET stop → (stop ≡ stops.Memory) ⊎ (try_result seed d ≡ Err stop)
  unleft stop (inl memory) = inl memory
  unleft stop (inr h) = inr (ap (λ r. line_result seed d r) h)

-- from a design to its tree, and from this to its seed
module _ {X : Type 0} (bytes : X → List ℕ) (seed : ℕ) (tree : PlainTree) (d : PlainDesign) (accepted : IsAcceptedTree tree) (is : d ≡ design_of tree) where
  pub tree_tried : (r : Result X Stop) → IfOk r (λ x. try_result seed d ≡ Ok (bytes x)) → IfOk r (λ x. TreeTries seed tree (Ok (bytes x)))
  tree_tried (Ok x) h = inl (accepted, sym h ∙ ap (λ e. try_result seed e) is)
  tree_tried (Err stop) h = tt

  pub tree_stopped : (r : Result X Stop) → IfErr r (λ stop. (stop ≡ stops.Memory) ⊎ (try_result seed d ≡ Err stop)) → IfErr r (λ stop. (stop ≡ stops.Memory) ⊎ TreeTries seed tree (Err stop))
  tree_stopped (Ok x) h = tt
  tree_stopped (Err stop) (inl memory) = inl memory
  tree_stopped (Err stop) (inr h) = inr (inl (accepted, sym h ∙ ap (λ e. try_result seed e) is))

pub tree_refused : (seed : ℕ) (tree : PlainTree) (stop : Stop) → IsTreeStop tree stop → (stop ≡ stops.Memory) ⊎ TreeTries seed tree (Err stop)
tree_refused seed tree stop (inl memory) = inl memory
tree_refused seed tree stop (inr h) = inr (inr (h.0, h.1, ap (λ s. Err s) h.2))

-- what is told of a tree that is the one of the seed
pub record TreeTold {X : Type 0} (bytes : X → List ℕ) (seed : ℕ) (tree : PlainTree) (r : Result X Stop) : Type 0 where
  pub answer : IfOk r (λ x. TreeTries seed tree (Ok (bytes x)))
  pub cause : IfErr r (λ stop. (stop ≡ stops.Memory) ⊎ TreeTries seed tree (Err stop))
  pub all_answers : (line : List ℕ) → TreeTries seed tree (Ok line) → MatchResult r (λ x. bytes x ≡ line) (λ stop. stop ≡ stops.Memory)
  pub all_stops : (why : Stop) → IsAcceptedTree tree × (try_result seed (design_of tree) ≡ Err why) → MatchResult r (λ _. ⊥) (λ stop. (stop ≡ stops.Memory) ⊎ (stop ≡ why))
  pub all_refusals : (told : Diagnostic) → TreeBreak tree told → MatchResult r (λ _. ⊥) (λ stop. (stop ≡ stops.Memory) ⊎ (stop ≡ stops.Rule told))

tree_told : {X : Type 0} (bytes : X → List ℕ) (seed : ℕ) (tree : PlainTree) (r : Result X Stop) → tree ≡ trial_tree seed → IfOk r (λ x. TreeTries seed tree (Ok (bytes x))) → IfErr r (λ stop. (stop ≡ stops.Memory) ⊎ TreeTries seed tree (Err stop))
    → TreeTold bytes seed tree r
tree_told bytes seed tree r made answer cause = record {
  answer = answer;
  cause = cause;
  all_answers = λ line h. all_answered bytes (Accepts seed tree) (TreeTries seed tree) (one_line seed tree) r answer cause line (line_accepts seed tree line h);
  all_stops = λ why h. all_stopped bytes (Accepts seed tree) (TreeTries seed tree) (one_line seed tree) r answer cause why (h.0, sym h.1);
  all_refusals = all_told seed tree (subst (λ t. (a b : Diagnostic) → TreeBreak t a → TreeBreak t b → a ≡ b) (sym made) (trial_once seed)) bytes r answer cause;
}

-- from the tree that was made to that of the seed
pub design_told : {X : Type 0} (bytes : X → List ℕ) (seed : ℕ) (tree : PlainTree) (d : PlainDesign) (r : Result X Stop) → tree ≡ trial_tree seed → IsAcceptedTree tree → d ≡ design_of tree
    → IfOk r (λ x. try_result seed d ≡ Ok (bytes x)) → IfErr r (λ stop. (stop ≡ stops.Memory) ⊎ (try_result seed d ≡ Err stop)) → TreeTold bytes seed (trial_tree seed) r
design_told bytes seed tree d r made accepted is answer cause =
    subst (λ t. TreeTold bytes seed t r) made
    (tree_told bytes seed tree r made (tree_tried bytes seed tree d accepted is r answer) (tree_stopped bytes seed tree d accepted is r cause))

abbrev no_bytes : Unit {0} → List ℕ
no_bytes _ = []

abbrev pub StoppedTold : ℕ → PlainTree → Stop → Type 0
StoppedTold seed tree stop = TreeTold {X = Unit {0}} no_bytes seed tree (Err stop)

pub refusal_told : (seed : ℕ) (tree : PlainTree) (stop : Stop) → tree ≡ trial_tree seed → IsTreeStop tree stop → StoppedTold seed (trial_tree seed) stop
refusal_told seed tree stop made refused =
    subst (λ t. StoppedTold seed t stop) made (tree_told {X = Unit {0}} no_bytes seed tree (Err stop) made tt (tree_refused seed tree stop refused))
