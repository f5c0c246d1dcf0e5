-- LAWS of layers: what follows something that realises a design realises it too; and each source has one outcome.
use Rattle.std.proofs.Common.{◌≡◌, ℕ, List, Option, Some, None, refl, sym, ap, ◌∙◌, subst}
use Rattle.std.specs.Prelude.{◌≢◌}
use Rattle.cx_text.specs.Loading.{PlainMemory, FitsRows, words_loaded}
use Rattle.cx_meaning.specs.Answers.{More}
use Rattle.cx_meaning.specs.Designs.{PlainDesign}
use Rattle.cx_meaning.specs.Running.{run_main}
use Rattle.cx_rules.specs.Externals.{external_rows}
use Rattle.cx_vtree.specs.Plain.{PlainSource}
use Rattle.cx_vtree.specs.PlainParts.{rows_of}
use Rattle.cx_vtree.specs.SimRun.{Outcome, DoneAt, LoopAt, NotDone, SimRun}
use Rattle.cx_vtree.proofs.Runs.{one_outcome}
use Rattle.cx_net.specs.Realises.{HasOutcome, comes, waits, RealisesBy, Realises, Follows}

-- with the same words and the same last cycle, it comes to one thing at most
abbrev pub ComesToOne : (List (List ℕ) → ℕ → Outcome → Type 0) → Type 0
ComesToOne runs = (words : List (List ℕ)) (last : ℕ) (a b : Outcome) → runs words last a → runs words last b → a ≡ b

-- what comes to something, and to one thing, comes to nothing but what it is followed in
abbrev outcome_of : {runs : List (List ℕ) → ℕ → Outcome → Type 0} {words : List (List ℕ)} {last : ℕ} → HasOutcome runs words last → Outcome
outcome_of (comes cycle left r) = DoneAt cycle left
outcome_of (waits r) = NotDone

ran : {runs : List (List ℕ) → ℕ → Outcome → Type 0} {words : List (List ℕ)} {last : ℕ} (h : HasOutcome runs words last) → runs words last (outcome_of h)
ran (comes cycle left r) = r
ran (waits r) = r

has_outcome : (first second : List (List ℕ) → ℕ → Outcome → Type 0) (words : List (List ℕ)) (last : ℕ)
    → ((o : Outcome) → first words last o → second words last o) → HasOutcome first words last → HasOutcome second words last
has_outcome first second words last f (comes cycle left r) = comes cycle left (f (DoneAt cycle left) r)
has_outcome first second words last f (waits r) = waits (f NotDone r)

-- LAW: what follows something that realises the design realises it
pub follows_realises : (d : PlainDesign) (first second : List (List ℕ) → ℕ → Outcome → Type 0) → ComesToOne second → RealisesBy d first
    → Follows (external_rows d) first second → RealisesBy d second
follows_realises d first second unique below follow = record {
  ends = λ memories budget turns after fits e. follow memories budget _ fits (below.ends memories budget turns after fits e);
  ends_only = λ memories budget cycle left fits r.
      let h = below.never_stuck memories budget fits in
      let same = unique (words_loaded memories) budget (DoneAt cycle left) (outcome_of h) r (follow memories budget (outcome_of h) fits (ran h)) in
      below.ends_only memories budget cycle left fits (subst (first (words_loaded memories) budget) (sym same) (ran h));
  never_stuck = λ memories budget fits. has_outcome first second (words_loaded memories) budget (λ o r. follow memories budget o fits r) (below.never_stuck memories budget fits);
}

pub source_comes_to_one : (source : PlainSource) → ComesToOne (SimRun source)
source_comes_to_one source words last a b r q = one_outcome r q

-- LAW: a source that follows something that realises the design, and has its rows, realises the design
pub source_realises : (d : PlainDesign) (runs : List (List ℕ) → ℕ → Outcome → Type 0) (source : PlainSource) → rows_of source.externals ≡ external_rows d
    → RealisesBy d runs → Follows (external_rows d) runs (SimRun source) → Realises d source
source_realises d runs source rows below follow = record { rows = rows; runs = follows_realises d runs (SimRun source) (source_comes_to_one source) below follow }

not_loop : {runs : List (List ℕ) → ℕ → Outcome → Type 0} {words : List (List ℕ)} {last : ℕ} (h : HasOutcome runs words last) (i k : ℕ) → LoopAt i k ≡ outcome_of h → ⊥
not_loop (comes cycle left r) i k e = cc
not_loop (waits r) i k e = cc

-- no net of a source that realises a design is ever without a value
pub never_loops : (d : PlainDesign) (source : PlainSource) → Realises d source → (memories : List PlainMemory) (last i k : ℕ) → FitsRows (external_rows d) memories
    → SimRun source (words_loaded memories) last (LoopAt i k) → ⊥
never_loops d source is memories last i k fits r = let h = is.runs.never_stuck memories last fits in not_loop h i k (one_outcome r (ran h))
