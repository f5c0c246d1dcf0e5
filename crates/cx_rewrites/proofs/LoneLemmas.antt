-- A seq of one part runs as that part: the law of runs, used once.
use Rattle.std.proofs.Common.{◌≡◌, ℕ, List, ◌++◌, refl, sym, ap, ◌∙◌, subst}
use Rattle.std.proofs.Math.Path.{ap₂}
use Rattle.std.proofs.lemmas.List.{append-nil}
use Rattle.cx_meaning.specs.Designs.{PlainComponent, PlainForm, Empty, Enable, Seq, Par, If, While, Repeat, StaticSeq, StaticPar, StaticIf, StaticRepeat, Timed, PlainStatement, Placed, PlainStatements, no_statements, a_statement}
use Rattle.cx_meaning.specs.Instances.{Instance, Node, Cells, State, merge}
use Rattle.cx_meaning.specs.Sights.{Held}
use Rattle.cx_meaning.specs.Cycles.{Fault}
use Rattle.cx_meaning.specs.Answers.{Test, Holds, Fails, Unclear}
use Rattle.cx_meaning.specs.Control.{Leaves, groups_in, groups_of, groups_in_all, groups_drive, with_comb, run}
use Rattle.cx_meaning.specs.Running.{leaves, control_below, run_statement}
use Rattle.cx_rewrites.specs.Tallies.{none, uncounted}
use Rattle.cx_rewrites.specs.Carrying.{Exact, Same, TestCarried}
use Rattle.cx_rewrites.specs.Beside.{FormBeside, outright, empties, seqs, collapsed, pars, ifs, whiles, repeats, Beside, placed, PartsBeside, no_parts, a_part, ArmsBeside, no_arms, an_arm}
use Rattle.cx_rewrites.specs.LoneParts.{unwrapped_form, unwrapped, all_unwrapped}
use Rattle.cx_rewrites.proofs.FollowLemmas.{same_carries, carried_is_same}
use Rattle.cx_rewrites.proofs.BesideLemmas.{run_carries}

-- the groups stay
mutual
  groups_in-unwrapped : (form : PlainForm) → groups_in (unwrapped_form form) ≡ groups_in form
  groups_in-unwrapped Empty = refl
  groups_in-unwrapped (Enable g) = refl
  groups_in-unwrapped (Seq no_statements) = refl
  groups_in-unwrapped (Seq (a_statement (Placed form place) no_statements)) = groups_in-unwrapped form ∙ sym (append-nil (groups_in form))
  groups_in-unwrapped (Seq (a_statement first (a_statement next rest))) =
      ap₂ (λ (xs ys : List ℕ). xs ++ ys) (groups_of-unwrapped first) (ap₂ (λ (xs ys : List ℕ). xs ++ ys) (groups_of-unwrapped next) (groups_in_all-unwrapped rest))
  groups_in-unwrapped (Par arms) = groups_in_all-unwrapped arms
  groups_in-unwrapped (If test comb a b) = ap (with_comb comb) (ap₂ (λ (xs ys : List ℕ). xs ++ ys) (groups_of-unwrapped a) (groups_of-unwrapped b))
  groups_in-unwrapped (While test comb a) = ap (with_comb comb) (groups_of-unwrapped a)
  groups_in-unwrapped (Repeat count a) = groups_of-unwrapped a
  groups_in-unwrapped (StaticSeq length parts) = refl
  groups_in-unwrapped (StaticPar length arms) = refl
  groups_in-unwrapped (StaticIf length test a b) = refl
  groups_in-unwrapped (StaticRepeat length count a) = refl
  groups_in-unwrapped (Timed k) = refl

  groups_of-unwrapped : (s : PlainStatement) → groups_of (unwrapped s) ≡ groups_of s
  groups_of-unwrapped (Placed form place) = groups_in-unwrapped form

  groups_in_all-unwrapped : (ss : PlainStatements) → groups_in_all (all_unwrapped ss) ≡ groups_in_all ss
  groups_in_all-unwrapped no_statements = refl
  groups_in_all-unwrapped (a_statement s ss) = ap₂ (λ (xs ys : List ℕ). xs ++ ys) (groups_of-unwrapped s) (groups_in_all-unwrapped ss)

-- the states are the same, so a test says the same, and arms leave the same
tests_same : (test : State → Test Fault) (s z : State) → s ≡ z → TestCarried Exact (λ f. f) (test s) (test z)
tests_same test s z e = subst (λ y. TestCarried Exact (λ f. f) (test s) (test y)) e (itself (test s))
  where
    itself : (t : Test Fault) → TestCarried Exact (λ f. f) t t
    itself Holds = refl
    itself Fails = refl
    itself (Unclear f) = refl

merges_same : (part : PlainComponent) (gs hs : List ℕ) (a b x y : State) → hs ≡ gs → a ≡ x → b ≡ y → merge (groups_drive part gs) a b ≡ merge (groups_drive part hs) x y
merges_same part gs hs a b x y groups e f = ap (λ list. merge (groups_drive part list) a b) (sym groups) ∙ ap (λ s. merge (groups_drive part hs) s b) e ∙ ap (merge (groups_drive part hs) x) f

module _ (part : PlainComponent) (cells : Cells) (held : Held) where
  abbrev L : Leaves State Fault
  L = leaves (Node part cells) (control_below cells) held

  abbrev id : Fault → Fault
  id f = f

  mutual
    form_beside : (form : PlainForm) → FormBeside Exact Same id L uncounted L form (unwrapped_form form)
    form_beside Empty = empties
    form_beside (Enable g) = outright (same_carries (λ s n. none) (L.enable g))
    form_beside (Seq no_statements) = seqs no_parts
    form_beside (Seq (a_statement (Placed form place) no_statements)) = collapsed {there = place} (a_part (placed (form_beside form)) no_parts)
    form_beside (Seq (a_statement first (a_statement next rest))) = seqs (a_part (beside first) (a_part (beside next) (parts_beside rest)))
    form_beside (Par arms) = pars (arms_beside arms)
    form_beside (If test comb a b) = ifs {p = test} {q = test} (λ before s z same. tests_same (L.test test.port comb) s z same) (beside a) (beside b)
    form_beside (While test comb a) = whiles {p = test} {q = test} (λ before s z same. tests_same (L.test test.port comb) s z same) (beside a)
    form_beside (Repeat count a) = repeats (beside a)
    form_beside (StaticSeq length parts) = outright (same_carries (λ s n. none) (L.island (StaticSeq length parts)))
    form_beside (StaticPar length arms) = outright (same_carries (λ s n. none) (L.island (StaticPar length arms)))
    form_beside (StaticIf length test a b) = outright (same_carries (λ s n. none) (L.island (StaticIf length test a b)))
    form_beside (StaticRepeat length count a) = outright (same_carries (λ s n. none) (L.island (StaticRepeat length count a)))
    form_beside (Timed k) = outright (same_carries (λ s n. none) (L.timed k))

    beside : (s : PlainStatement) → Beside Exact Same id L uncounted L s (unwrapped s)
    beside (Placed form place) = placed (form_beside form)

    parts_beside : (ss : PlainStatements) → PartsBeside Exact Same id L uncounted L ss (all_unwrapped ss)
    parts_beside no_statements = no_parts
    parts_beside (a_statement s ss) = a_part (beside s) (parts_beside ss)

    arms_beside : (ss : PlainStatements) → ArmsBeside Exact Same id L uncounted L ss (all_unwrapped ss)
    arms_beside no_statements = no_arms
    arms_beside (a_statement s ss) =
        an_arm (λ before z n a b x y t v e f p q. merges_same part (groups_of s) (groups_of (unwrapped s)) a b x y (groups_of-unwrapped s) p q) (beside s) (arms_beside ss)

  pub unwrapped_runs : (statement : PlainStatement) (s : State) (n : ℕ) → run_statement (Node part cells) held (unwrapped statement) s n ≡ run_statement (Node part cells) held statement s n
  unwrapped_runs statement s n =
      carried_is_same none none (run L statement s n) (run L (unwrapped statement) s n)
      (run_carries Exact Same id L uncounted L (λ before a b same. ap L.rest same) (beside statement) none s s n n refl refl)

pub instance_unwrapped : (i : Instance) (held : Held) (statement : PlainStatement) (s : State) (n : ℕ) → run_statement i held (unwrapped statement) s n ≡ run_statement i held statement s n
instance_unwrapped (Node part cells) held statement s n = unwrapped_runs part cells held statement s n
