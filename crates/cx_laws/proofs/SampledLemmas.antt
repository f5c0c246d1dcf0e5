-- An island by its samples runs as the island does.
use Rattle.std.proofs.Common.{◌≡◌, ℕ, zero, suc, ◌+◌, ◌<◌, List, [], refl, sym, ap, ◌∙◌, arith}
use Rattle.std.proofs.Math.Path.{fun_ext}
use Rattle.cx_meaning.specs.Designs.{PlainForm}
use Rattle.cx_meaning.specs.Instances.{Instance, part_of, State, idle}
use Rattle.cx_meaning.specs.Active.{nothing, entries}
use Rattle.cx_meaning.specs.Sights.{Look, Held, seen}
use Rattle.cx_meaning.specs.Cycles.{cycle}
use Rattle.cx_meaning.specs.Answers.{Answer, Turn, turn_then}
use Rattle.cx_meaning.specs.Islands.{Occurrence, form_length, form_flat, History, no_history, active_in, looked_at, and_now, first_unclear, unless_unclear, island_turn, island_from, island}
use Rattle.cx_laws.specs.Positions.{entry_at, no_entry, no_port, port_at, HasNoEmptyIf}
use Rattle.cx_laws.specs.Samples.{Samples, says, active_by, begun_by, samples_after, AreKept}
use Rattle.cx_laws.specs.SampledIslands.{sampled_turn, sampled_from, sampled_island}
use Rattle.cx_laws.proofs.IslandLemmas.{active_is, begun_is}
use Rattle.cx_laws.proofs.SampleLemmas.{first_kept, next_kept, by_samples}

-- one turn and what follows, by what each is
pub same_then : {S F : Type 0} (rest : S → S) (s : S) (turn other : Turn S F) (go more : S → Answer S F) → turn ≡ other → ((after : S) → go after ≡ more after) → turn_then rest s turn go ≡ turn_then rest s other more
same_then rest s turn other go more e f = ap (λ x. turn_then rest s x go) e ∙ ap (turn_then rest s other) (fun_ext f)

module _ (i : Instance) (held : Held) (form : PlainForm) (fine : HasNoEmptyIf (part_of i) form) where
  abbrev list : List Occurrence
  list = form_flat (part_of i) form 0 []

  abbrev now : State → Look
  now s = seen i held nothing s

  -- whatever is seen in cycle t, the samples are kept in it
  abbrev pub Ready : ℕ → History → Samples → Type 0
  Ready t h kept = (look : Look) → AreKept (part_of i) (and_now h t look) t form (samples_after (part_of i) (says look) t form kept)

  pub groups_are : (t : ℕ) (h : History) (kept : Samples) → t < form_length (part_of i) form → AreKept (part_of i) h t form kept → active_by (part_of i) kept t form ≡ active_in h t list
  groups_are t h kept l k = by_samples (part_of i) form h t kept entry_at no_entry k ∙ sym (active_is h t (part_of i) form l)

  pub turn_is : (t : ℕ) (h : History) (kept : Samples) (s : State) → t < form_length (part_of i) form → AreKept (part_of i) h t form kept → sampled_turn i held form t kept s ≡ island_turn i held list t h s
  turn_is t h kept s l k =
      let ports : begun_by (part_of i) kept t form ≡ looked_at h t list = by_samples (part_of i) form h t kept no_port port_at k ∙ sym (begun_is h t (part_of i) form fine l) in
      ap (λ ps. unless_unclear (first_unclear (now s) ps) (cycle i held (entries (active_by (part_of i) kept t form)) s)) ports
      ∙ ap (λ es. unless_unclear (first_unclear (now s) (looked_at h t list)) (cycle i held (entries es) s)) (groups_are t h kept l k)

  cycles_are : (left t : ℕ) (h : History) (kept : Samples) → t + left ≡ form_length (part_of i) form → Ready t h kept → (s : State) (n : ℕ) → sampled_from i held form left t kept s n ≡ island_from i held list left t h s n
  cycles_are zero t h kept e ready s n = refl
  cycles_are (suc left) t h kept e ready s zero = refl
  cycles_are (suc left) t h kept e ready s (suc n) =
      same_then (idle i) s _ _ _ _
      (turn_is t (and_now h t (now s)) (samples_after (part_of i) (says (now s)) t form kept) s (omega arith) (ready (now s)))
      (λ after. cycles_are left (suc t) (and_now h t (now s)) (samples_after (part_of i) (says (now s)) t form kept) (omega arith)
      (λ look. next_kept (part_of i) form (and_now h t (now s)) t look (samples_after (part_of i) (says (now s)) t form kept) (ready (now s))) after n)

  pub sampled_is : (kept : Samples) (s : State) (n : ℕ) → sampled_island i held form kept s n ≡ island i held form s n
  sampled_is kept s n =
      cycles_are (form_length (part_of i) form) 0 no_history kept (omega arith) (λ look. first_kept (part_of i) form no_history look kept) s n
