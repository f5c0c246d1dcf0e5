-- An island counts by its samples what it counts by its flat list.
use Rattle.std.proofs.Common.{◌≡◌, ℕ, zero, suc, ◌+◌, ◌<◌, List, [], refl, ap, ◌∙◌, arith}
use Rattle.std.proofs.Math.Path.{fun_ext}
use Rattle.cx_meaning.specs.Designs.{PlainForm}
use Rattle.cx_meaning.specs.Instances.{Instance, part_of, State}
use Rattle.cx_meaning.specs.Active.{Entry, nothing, entries}
use Rattle.cx_meaning.specs.Sights.{Held, seen}
use Rattle.cx_meaning.specs.Islands.{Occurrence, form_length, form_flat, History, no_history, and_now, island_turn}
use Rattle.cx_laws.specs.Positions.{HasNoEmptyIf}
use Rattle.cx_laws.specs.Samples.{Samples, says, active_by, samples_after}
use Rattle.cx_laws.proofs.SampleLemmas.{first_kept, next_kept}
use Rattle.cx_laws.proofs.SampledLemmas.{Ready, groups_are, turn_is}
use Rattle.cx_rewrites.specs.Tallies.{Tally, plus, turn_count, island_count_from}
use Rattle.cx_profiling.specs.Counting.{made_with, count_island}
use Rattle.cx_profiling.specs.StatementCounts.{sampled_count_from, sampled_count}
use Rattle.cx_profiling.proofs.CountFrames.{both_counted}

module _ (i : Instance) (held : Held) (form : PlainForm) (fine : HasNoEmptyIf (part_of i) form) where
  abbrev list : List Occurrence
  list = form_flat (part_of i) form 0 []

  abbrev made : List Entry → Tally
  made es = made_with (entries es)

  -- the samples in cycle t, by what is seen in it
  abbrev after : State → ℕ → Samples → Samples
  after s t kept = samples_after (part_of i) (says (seen i held nothing s)) t form kept

  cycles_count : (left t : ℕ) (h : History) (kept : Samples) → t + left ≡ form_length (part_of i) form → Ready i held form fine t h kept → (s : State) (n : ℕ)
      → sampled_count_from i held form left t kept s n ≡ island_count_from made i held list left t h s n
  cycles_count zero t h kept e ready s n = refl
  cycles_count (suc left) t h kept e ready s zero = refl
  cycles_count (suc left) t h kept e ready s (suc n) =
      let now : History = and_now h t (seen i held nothing s) in
      let within : t < form_length (part_of i) form = omega (arith, e) in
      let rest : suc t + left ≡ form_length (part_of i) form = omega (arith, e) in
      ap (λ x. turn_count x (λ s1. plus (made (active_by (part_of i) (after s t kept) t form)) (sampled_count_from i held form left (suc t) (after s t kept) s1 n)))
      (turn_is i held form fine t now (after s t kept) s within (ready (seen i held nothing s)))
      ∙ ap (turn_count (island_turn i held list t now s))
      (fun_ext (λ s1.
      both_counted (ap made (groups_are i held form fine t now (after s t kept) within (ready (seen i held nothing s))))
      (cycles_count left (suc t) now (after s t kept) rest (λ look. next_kept (part_of i) form now t look (after s t kept) (ready (seen i held nothing s))) s1 n)))

  pub sampled_counts : (kept : Samples) (s : State) (n : ℕ) → sampled_count i held form kept s n ≡ count_island i held form s n
  sampled_counts kept s n = cycles_count (form_length (part_of i) form) 0 no_history kept (omega arith) (λ look. first_kept (part_of i) form no_history look kept) s n
