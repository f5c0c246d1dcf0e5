-- What a target is seen as by moved assignments is what it is seen as by the assignments over the look at moved ports.
use Rattle.std.proofs.Common.{◌≡◌, ℕ, List, [], ◌∷◌, map, refl, ap, ◌∙◌}
use Rattle.cx_meaning.specs.declared.ports.PortRef.{PortRef}
use Rattle.cx_meaning.specs.declared.sights.Seen.{Seen}
use Rattle.cx_meaning.specs.Designs.{PlainGuard, Always, Atom, Negation, All, Any, Compared, Within, PlainGuards, no_guards, a_guard}
use Rattle.cx_meaning.specs.Active.{Acting}
use Rattle.cx_meaning.specs.Truths.{Truth, not_truth, and_truth, or_truth}
use Rattle.cx_meaning.specs.Truths as truths
use Rattle.cx_meaning.specs.Sights.{Look, guard_truth, all_truth, any_truth, Taken, Sources, Stopped, take_guard, taken, agreed, all_agreed, settle, target_seen}
use Rattle.cx_rewrites.specs.Moving.{moved_guard, moved_guards, moved_acting}

module _ (move : PortRef → PortRef) (look : Look) where
  abbrev through : Look
  through q = look (move q)

  mutual
    guard_truth-moved : (at : ℕ) (g : PlainGuard) → guard_truth look at (moved_guard move g) ≡ guard_truth through at g
    guard_truth-moved at Always = refl
    guard_truth-moved at (Atom p) = refl
    guard_truth-moved at (Negation g) = ap not_truth (guard_truth-moved at g)
    guard_truth-moved at (All gs) = all_truth-moved at gs
    guard_truth-moved at (Any gs) = any_truth-moved at gs
    guard_truth-moved at (Compared c a b) = refl
    guard_truth-moved at (Within from to) = refl

    all_truth-moved : (at : ℕ) (gs : PlainGuards) → all_truth look at (moved_guards move gs) ≡ all_truth through at gs
    all_truth-moved at no_guards = refl
    all_truth-moved at (a_guard g gs) =
        ap (λ x. and_truth x (all_truth look at (moved_guards move gs))) (guard_truth-moved at g) ∙ ap (and_truth (guard_truth through at g)) (all_truth-moved at gs)

    any_truth-moved : (at : ℕ) (gs : PlainGuards) → any_truth look at (moved_guards move gs) ≡ any_truth through at gs
    any_truth-moved at no_guards = refl
    any_truth-moved at (a_guard g gs) =
        ap (λ x. or_truth x (any_truth look at (moved_guards move gs))) (guard_truth-moved at g) ∙ ap (or_truth (guard_truth through at g)) (any_truth-moved at gs)

  abbrev moved_taken : Taken → Taken
  moved_taken (Sources list) = Sources (map move list)
  moved_taken (Stopped x) = Stopped x

  take_guard-moved : (t : Truth) (source : PortRef) (rest : Taken) → take_guard t (move source) (moved_taken rest) ≡ moved_taken (take_guard t source rest)
  take_guard-moved truths.One source (Sources list) = refl
  take_guard-moved truths.One source (Stopped x) = refl
  take_guard-moved truths.Zero source rest = refl
  take_guard-moved truths.Conflict source rest = refl
  take_guard-moved truths.Undefined source rest = refl

  taken-moved : (acts : List Acting) → taken look (map (moved_acting move) acts) ≡ moved_taken (taken through acts)
  taken-moved [] = refl
  taken-moved (a ∷ rest) =
      ap (λ g. take_guard g (move a.assign.source.port) (taken look (map (moved_acting move) rest))) (guard_truth-moved a.offset a.assign.guard)
      ∙ ap (take_guard (guard_truth through a.offset a.assign.guard) (move a.assign.source.port)) (taken-moved rest)
      ∙ take_guard-moved (guard_truth through a.offset a.assign.guard) a.assign.source.port (taken through rest)

  all_agreed-moved : (s : PortRef) (ss : List PortRef) → all_agreed look (move s) (map move ss) ≡ all_agreed through s ss
  all_agreed-moved s [] = refl
  all_agreed-moved s (t ∷ ts) = ap (agreed (through s)) (all_agreed-moved t ts)

  settle-moved : (u : Seen) (t : Taken) → settle u look (moved_taken t) ≡ settle u through t
  settle-moved u (Stopped x) = refl
  settle-moved u (Sources []) = refl
  settle-moved u (Sources (s ∷ ss)) = all_agreed-moved s ss

  pub target_seen-moved : (undriven : Seen) (acts : List Acting) → target_seen undriven look (map (moved_acting move) acts) ≡ target_seen undriven through acts
  target_seen-moved undriven acts = ap (settle undriven look) (taken-moved acts) ∙ settle-moved undriven (taken through acts)
