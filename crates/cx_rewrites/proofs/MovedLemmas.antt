-- A statement stands beside itself with its ports moved, where the leaves carry.
use Rattle.std.proofs.Common.{◌≡◌, ℕ, inl, inr, List, ◌++◌, Option, refl, sym, ap, subst}
use Rattle.cx_meaning.specs.declared.ports.PortRef.{PortRef}
use Rattle.cx_meaning.specs.Designs.{PlainForm, Empty, Enable, Seq, Par, If, While, Repeat, StaticSeq, StaticPar, StaticIf, StaticRepeat, Timed, PlainStatement, Placed, PlainStatements, no_statements, a_statement}
use Rattle.cx_meaning.specs.Control.{Leaves, groups_in, groups_of, groups_in_all, with_comb, run}
use Rattle.cx_rules.specs.Items.{Context, below_dynamic, Visited, visit, visit_parts, visit_all}
use Rattle.cx_frames.proofs.ControlFrames.{Holds, left, right}
use Rattle.cx_rewrites.specs.Moving.{moved_port, moved_form, moved_statement, moved_statements}
use Rattle.cx_rewrites.specs.Tallies.{Tally, Counting, count}
use Rattle.cx_rewrites.specs.Carrying.{Pace, Carries}
use Rattle.cx_rewrites.specs.Beside.{joined, FormBeside, outright, empties, seqs, pars, ifs, whiles, repeats, Beside, placed, PartsBeside, no_parts, a_part, ArmsBeside, no_arms, an_arm, LeavesCarry}
use Rattle.cx_rewrites.proofs.BesideLemmas.{run_carries}
use Rattle.cx_meaning.proofs.SightsLaws.{behind_comb, in_comb}

pub below_comb : {G : ℕ → Type 0} {P : PlainForm → Type 0} (comb : Option ℕ) (gs : List ℕ) (vs : List Visited) → Holds G P (with_comb comb gs) vs → Holds G P gs vs
below_comb comb gs vs h = record { groups = λ g i. h.groups g (behind_comb comb gs g i); forms = h.forms }

-- an arm more at the end
abbrev pub with_last : PlainStatements → PlainStatement → PlainStatements
with_last no_statements s = a_statement s no_statements
with_last (a_statement first rest) s = a_statement first (with_last rest s)

pub joined-with_last : (done : PlainStatements) (s : PlainStatement) (later : PlainStatements) → joined (with_last done s) later ≡ joined done (a_statement s later)
joined-with_last no_statements s later = refl
joined-with_last (a_statement first rest) s later = ap (a_statement first) (joined-with_last rest s later)

module _ {S T F E : Type 0} (pace : Pace) (R : Tally → S → T → Type 0) (faults : F → E) (L : Leaves S F) (C : Counting S) (M : Leaves T E) (move : PortRef → PortRef) (G : ℕ → Type 0) (P : PlainForm → Type 0)
    (leaves : LeavesCarry pace R faults L C M move G P) where
  mutual
    form_beside : (context : Context) (form : PlainForm) → P form → Holds G P (groups_in form) (visit_parts context form) → FormBeside pace R faults L C M form (moved_form move form)
    form_beside context Empty p h = empties
    form_beside context (Enable g) p h = outright (leaves.enable g (h.groups g (inl refl)))
    form_beside context (Seq parts) p h = seqs (parts_beside (below_dynamic context) parts h)
    form_beside context (Par arms) p h = pars (arms_beside (below_dynamic context) no_statements arms p h)
    form_beside context (If test comb a b) p h =
        let parts : Holds G P (groups_of a ++ groups_of b) (visit (below_dynamic context) a ++ visit (below_dynamic context) b) = below_comb comb (groups_of a ++ groups_of b) (visit_parts context (If test comb a b)) h in
        ifs {p = test} {q = moved_port move test} (leaves.test (If test comb a b) test comb refl p (λ g e. h.groups g (in_comb comb (groups_of a ++ groups_of b) g e)))
        (beside (below_dynamic context) a (left (groups_of a) (groups_of b) (visit (below_dynamic context) a) (visit (below_dynamic context) b) parts))
        (beside (below_dynamic context) b (right (groups_of a) (groups_of b) (visit (below_dynamic context) a) (visit (below_dynamic context) b) parts))
    form_beside context (While test comb a) p h =
        whiles {p = test} {q = moved_port move test} (leaves.test (While test comb a) test comb refl p (λ g e. h.groups g (in_comb comb (groups_of a) g e)))
        (beside (below_dynamic context) a (below_comb comb (groups_of a) (visit (below_dynamic context) a) h))
    form_beside context (Repeat count a) p h = repeats (beside (below_dynamic context) a h)
    form_beside context (StaticSeq length parts) p h = outright (leaves.island context (StaticSeq length parts) p h)
    form_beside context (StaticPar length arms) p h = outright (leaves.island context (StaticPar length arms) p h)
    form_beside context (StaticIf length test a b) p h = outright (leaves.island context (StaticIf length test a b) p h)
    form_beside context (StaticRepeat length count a) p h = outright (leaves.island context (StaticRepeat length count a) p h)
    form_beside context (Timed k) p h = outright (leaves.timed k)

    pub beside : (context : Context) (statement : PlainStatement) → Holds G P (groups_of statement) (visit context statement) → Beside pace R faults L C M statement (moved_statement move statement)
    beside context (Placed form place) h =
        placed (form_beside context form (h.forms (record { context = context; form = form; place = place }) (inl refl)) (record { groups = h.groups; forms = λ v i. h.forms v (inr i) }))

    parts_beside : (context : Context) (parts : PlainStatements) → Holds G P (groups_in_all parts) (visit_all context parts) → PartsBeside pace R faults L C M parts (moved_statements move parts)
    parts_beside context no_statements h = no_parts
    parts_beside context (a_statement first rest) h =
        a_part (beside context first (left (groups_of first) (groups_in_all rest) (visit context first) (visit_all context rest) h))
        (parts_beside context rest (right (groups_of first) (groups_in_all rest) (visit context first) (visit_all context rest) h))

    arms_beside : (context : Context) (done arms : PlainStatements) → P (Par (joined done arms)) → Holds G P (groups_in_all arms) (visit_all context arms) → ArmsBeside pace R faults L C M arms (moved_statements move arms)
    arms_beside context done no_statements p h = no_arms
    arms_beside context done (a_statement first rest) p h =
        an_arm (leaves.merges done first rest p) (beside context first (left (groups_of first) (groups_in_all rest) (visit context first) (visit_all context rest) h))
        (arms_beside context (with_last done first) rest (subst (λ arms. P (Par arms)) (sym (joined-with_last done first rest)) p)
        (right (groups_of first) (groups_in_all rest) (visit context first) (visit_all context rest) h))

  -- THE LAW OF RUNS for a statement whose ports are moved
  pub moved_carries : (context : Context) (statement : PlainStatement) → Holds G P (groups_of statement) (visit context statement)
      → Carries pace R faults (count L C statement) (run L statement) (run M (moved_statement move statement))
  moved_carries context statement h = run_carries pace R faults L C M leaves.rests (beside context statement h)
