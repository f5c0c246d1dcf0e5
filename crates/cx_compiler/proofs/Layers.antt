-- THE LAYERS JOINED, by what each pass promises: the net of a design does what the design means, so does it without holes, and so the source that
-- is written of it realises the design.
use Rattle.std.proofs.Common.{◌≡◌, ◌↔◌, ℕ, List, Result, Ok, Err, IfOk, sym, ap, ◌∙◌, subst}
use Rattle.cx_text.specs.Loading.{FitsRows, words_loaded}
use Rattle.cx_meaning.specs.Designs.{PlainDesign}
use Rattle.cx_rules.specs.Flat.{IsFlat}
use Rattle.cx_rules.specs.Accepted.{IsAccepted}
use Rattle.cx_rules.specs.Externals.{rows_of}
use Rattle.cx_rules.specs.Wellformed.{IsDesign}
use Rattle.cx_vtree.specs.Plain.{PlainSource}
use Rattle.cx_vtree.specs.PlainParts as text
use Rattle.cx_vtree.specs.SimRun.{Outcome, DoneAt, NotDone}
use Rattle.cx_net.specs.NetFits.{HasTargets, IsFit}
use Rattle.cx_net.specs.Nets.{PlainNet}
use Rattle.cx_net.specs.NetRuns.{NetRun}
use Rattle.cx_net.specs.NetTree.{net_component_at, net_tree}
use Rattle.cx_net.specs.Realises.{HasOutcome, comes, waits, RealisesBy, Realises}
use Rattle.cx_net.proofs.FollowLemmas.{source_realises}
use Rattle.cx_fsm.specs.Built.{IsNetFor}
use Rattle.cx_holes.specs.Inlining.{inlined}
use Rattle.cx_holes.specs.Kept.{DoesWithoutHoles}
use Rattle.cx_emit.specs.RunsAs.{RunsAs}
use Rattle.cx_compiler.specs.Compiled.{HasItsNet, IsHolelessNetFor, IsRealised, written_source}

-- runs that come to the same realise the same
module _ (d : PlainDesign) (first second : List (List ℕ) → ℕ → Outcome → Type 0) (same : (loaded : List (List ℕ)) (last : ℕ) (o : Outcome) → first loaded last o ↔ second loaded last o) where
  outcome_same : (words : List (List ℕ)) (last : ℕ) → HasOutcome first words last → HasOutcome second words last
  outcome_same words last (comes cycle left r) = comes cycle left ((same words last (DoneAt cycle left)).0 r)
  outcome_same words last (waits r) = waits ((same words last NotDone).0 r)

  runs_same : RealisesBy d first → RealisesBy d second
  runs_same below = record {
    ends = λ memories budget turns after fits e. (same (words_loaded memories) budget _).0 (below.ends memories budget turns after fits e);
    ends_only = λ memories budget cycle left fits r. below.ends_only memories budget cycle left fits ((same (words_loaded memories) budget (DoneAt cycle left)).1 r);
    never_stuck = λ memories budget fits. outcome_same (words_loaded memories) budget (below.never_stuck memories budget fits);
  }

-- THE NET WITHOUT HOLES
without_holes : (d : PlainDesign) (net holeless : PlainNet) → IsNetFor d net → holeless ≡ inlined net → DoesWithoutHoles net holeless → IsHolelessNetFor d holeless
without_holes d net holeless own is does = record {
  realises = record { grounded = does.grounded d own.realises.grounded; runs = runs_same d (NetRun (net_tree net)) (NetRun (net_tree holeless)) does.runs own.realises.runs };
  fits = does.fits;
  no_holes = does.no_holes;
  rows = ap (λ k. rows_of (net_component_at holeless k).cells) (ap (λ (n : PlainNet). n.main) is) ∙ ap (λ cells. rows_of cells) (does.cells net.main) ∙ own.rows;
}

pub net_without_holes : {X F : Type 0} (made : X → PlainNet) (d : PlainDesign) (net : PlainNet) (r : Result X F) → (IsDesign d → IsFlat d → IsAccepted d → IsNetFor d net) → IfOk r (λ x. made x ≡ inlined net)
    → (IsFit net → HasTargets net → IfOk r (λ x. DoesWithoutHoles net (made x))) → IfOk r (λ x. HasItsNet d (made x))
net_without_holes made d net (Ok x) own is does = λ rules flat accepted.
    let has = own rules flat accepted in
    without_holes d net (made x) has is (does has.fits has.targets)
net_without_holes made d net (Err fault) own is does = tt

-- ITS SOURCE
source_does : (d : PlainDesign) (net : PlainNet) (source : PlainSource) → IsHolelessNetFor d net → text.rows_of source.externals ≡ rows_of (net_component_at net net.main).cells → RunsAs net source → Realises d source
source_does d net source own rows carry =
    let same = rows ∙ own.rows in
    source_realises d (NetRun (net_tree net)) source same own.realises.runs (λ memories last o fits run. carry.runs memories last o (subst (λ rs. FitsRows rs memories) (sym same) fits) run)

pub source_of_net : {X F : Type 0} (made : X → PlainSource) (d : PlainDesign) (net : PlainNet) (r : Result X F) → HasItsNet d net → IfOk r (λ x. RunsAs net (made x))
    → IfOk r (λ x. text.rows_of (made x).externals ≡ rows_of (net_component_at net net.main).cells) → IfOk r (λ x. made x ≡ written_source d) → IfOk r (λ _. IsRealised d)
source_of_net made d net (Ok x) has runs rows written = λ rules flat accepted. subst (Realises d) written (source_does d net (made x) (has rules flat accepted) rows runs)
source_of_net made d net (Err fault) has runs rows written = tt

-- and the text that spells it
pub still_realised : {X F : Type 0} (d : PlainDesign) (r : Result X F) → IsRealised d → IfOk r (λ _. IsRealised d)
still_realised d (Ok x) realised = realised
still_realised d (Err fault) realised = tt
