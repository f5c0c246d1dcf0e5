-- THE LAW OF RUNS: of two statements beside each other the one carries the other.
use Rattle.std.proofs.Common.{zero, suc, sym, subst}
use Rattle.cx_text.specs.declared.places.Place.{Place}
use Rattle.cx_meaning.specs.Designs.{PlainForm, Seq, Par, PlainStatement, Placed, PlainStatements, no_statements, a_statement}
use Rattle.cx_meaning.specs.Answers.{then_do}
use Rattle.cx_meaning.specs.Control.{Leaves, run_form, run, run_parts, run_arms}
use Rattle.cx_rewrites.specs.Tallies.{Tally, Counting, count_form, count, count_parts, count_arms}
use Rattle.cx_rewrites.specs.Carrying.{Pace, Rests, Carried, Carries}
use Rattle.cx_rewrites.specs.Beside.{joined, MergesCarry, FormBeside, outright, empties, seqs, collapsed, pars, ifs, whiles, repeats, Beside, placed, PartsBeside, no_parts, a_part, as_one, ArmsBeside, no_arms, an_arm}
use Rattle.cx_rewrites.proofs.CarryLemmas.{then_carries, stay_carries, idle_carries, test_carries, loop_of_carries, rounds_carry, both_carried}
use Rattle.cx_rewrites.proofs.PartLemmas.{run_parts-joined, count_parts-joined, then_do-stay}

module _ {S T F E : Type 0} (pace : Pace) (R : Tally → S → T → Type 0) (faults : F → E) (L : Leaves S F) (C : Counting S) (M : Leaves T E) (rests : Rests R L.rest M.rest) where
  abbrev BothForms : PlainForm → PlainForm → Type 0
  BothForms form other = Carries pace R faults (count_form L C form) (run_form L form) (run_form M other)

  abbrev Both : PlainStatement → PlainStatement → Type 0
  Both s t = Carries pace R faults (count L C s) (run L s) (run M t)

  abbrev BothParts : PlainStatements → PlainStatements → Type 0
  BothParts parts others = Carries pace R faults (count_parts L C parts) (run_parts L parts) (run_parts M others)

  abbrev BothArms : PlainStatements → PlainStatements → Type 0
  BothArms arms others = Carries pace R faults (count_arms L C arms) (run_arms L arms) (run_arms M others)

  -- some parts as one statement, and the parts behind them
  as_one_carries : (parts later : PlainStatements) (t : PlainStatement) (others : PlainStatements) → Carries pace R faults (count_parts L C parts) (run_parts L parts) (run M t) → BothParts later others
      → BothParts (joined parts later) (a_statement t others)
  as_one_carries parts later t others each rest before s z n m room r =
      subst (λ o. Carried pace R faults before (count_parts L C (joined parts later) s n) o (run_parts M (a_statement t others) z m)) (sym (run_parts-joined L C parts later s n))
      (subst (λ k. Carried pace R faults before k (then_do (run_parts L parts s n) n (run_parts L later)) (run_parts M (a_statement t others) z m)) (sym (count_parts-joined L C parts later s n))
      (then_carries pace R faults (count_parts L C parts) (count_parts L C later) (run_parts L parts) (run_parts L later) (run M t) (run_parts M others) each rest before s z n m room r))

  -- an arm, and the arms after it
  arm_carries : (arm other : PlainStatement) (later others : PlainStatements) → MergesCarry pace R faults L C M arm later other → Both arm other → BothArms later others
      → BothArms (a_statement arm later) (a_statement other others)
  arm_carries arm other later others merges each rest before s z n m room r =
      both_carried pace R faults (L.merged (L.driven arm)) (M.merged (M.driven other)) before (count L C arm s n) (count_arms L C later s n)
      (run L arm s n) (run_arms L later s n) (run M other z m) (run_arms M others z m) (λ a c b d t v e f p q. merges before s n a c b d t v e f p q)
      (each before s z n m room r) (rest before s z n m room r)

  mutual
    pub form_carries : {form other : PlainForm} → FormBeside pace R faults L C M form other → BothForms form other
    form_carries (outright each) before s z n m room r = each before s z n m room r
    form_carries empties before s z n m room r = idle_carries pace R faults L.rest M.rest rests before s z n m room r
    form_carries (seqs h) before s z n m room r = seq_carries h before s z n m room r
    form_carries (collapsed {parts = parts} {other = other} {there = there} h) before s z n m room r = alone_carries h before s z n m room r
    form_carries (pars h) before s z n m room r = par_carries h before s z n m room r
    form_carries (ifs {p = p} {q = q} {comb = comb} {twin = twin} {a = a} {b = b} {x = x} {y = y} tests h k) before s z n m room r =
        test_carries pace R faults L.rest M.rest rests (L.test p.port comb) (M.test q.port twin) tests (count L C a) (count L C b) (run L a) (run L b) (run M x) (run M y)
        (run_carries h) (run_carries k) before s z n m room r
    form_carries (whiles {p = p} {q = q} {comb = comb} {twin = twin} {a = a} {x = x} tests h) before s z n m room r =
        loop_of_carries pace R faults L.rest M.rest rests (L.test p.port comb) (M.test q.port twin) tests (count L C a) (run L a) (run M x) (run_carries h) before s z n m room r
    form_carries (repeats {count = zero} h) before s z n m room r = idle_carries pace R faults L.rest M.rest rests before s z n m room r
    form_carries (repeats {count = suc k} {a = a} {x = x} h) before s z n m room r = rounds_carry pace R faults (count L C a) (run L a) (run M x) (run_carries h) (suc k) before s z n m room r

    pub run_carries : {s t : PlainStatement} → Beside pace R faults L C M s t → Both s t
    run_carries (placed h) before s z n m room r = form_carries h before s z n m room r

    seq_carries : {parts others : PlainStatements} → PartsBeside pace R faults L C M parts others → BothForms (Seq parts) (Seq others)
    seq_carries no_parts before s z n m room r = idle_carries pace R faults L.rest M.rest rests before s z n m room r
    seq_carries (a_part {s = first} {t = other} {ss = rest} {tt = others} h k) before s z n m room r =
        then_carries pace R faults (count L C first) (count_parts L C rest) (run L first) (run_parts L rest) (run M other) (run_parts M others) (run_carries h) (parts_carry k) before s z n m room r
    seq_carries (as_one first more later {t = other} {tt = others} each k) before s z n m room r = as_one_carries (a_statement first more) later other others each (parts_carry k) before s z n m room r

    -- a seq that one statement stands for
    alone_carries : {parts : PlainStatements} {other : PlainForm} {there : Place} → PartsBeside pace R faults L C M parts (a_statement (Placed other there) no_statements) → BothForms (Seq parts) other
    alone_carries {other = other} (a_part {s = first} {ss = rest} h k) before s z n m room r =
        subst (λ x. Carried pace R faults before (count_form L C (Seq (a_statement first rest)) s n) (run_form L (Seq (a_statement first rest)) s n) x) (then_do-stay (run_form M other z m) m)
        (then_carries pace R faults (count L C first) (count_parts L C rest) (run L first) (run_parts L rest) (run_form M other) (run_parts M no_statements) (run_carries h) (parts_carry k) before s z n m room r)
    alone_carries {other = other} {there = there} (as_one first more later each k) before s z n m room r =
        subst (λ x. Carried pace R faults before (count_parts L C (joined (a_statement first more) later) s n) (run_parts L (joined (a_statement first more) later) s n) x) (then_do-stay (run_form M other z m) m)
        (as_one_carries (a_statement first more) later (Placed other there) no_statements each (parts_carry k) before s z n m room r)

    parts_carry : {parts others : PlainStatements} → PartsBeside pace R faults L C M parts others → BothParts parts others
    parts_carry no_parts before s z n m room r = stay_carries pace R faults before s z n m room r
    parts_carry (a_part {s = first} {t = other} {ss = rest} {tt = others} h k) before s z n m room r =
        then_carries pace R faults (count L C first) (count_parts L C rest) (run L first) (run_parts L rest) (run M other) (run_parts M others) (run_carries h) (parts_carry k) before s z n m room r
    parts_carry (as_one first more later {t = other} {tt = others} each k) before s z n m room r = as_one_carries (a_statement first more) later other others each (parts_carry k) before s z n m room r

    par_carries : {arms others : PlainStatements} → ArmsBeside pace R faults L C M arms others → BothForms (Par arms) (Par others)
    par_carries no_arms before s z n m room r = idle_carries pace R faults L.rest M.rest rests before s z n m room r
    par_carries (an_arm {s = first} {t = other} {ss = rest} {tt = others} merges h k) before s z n m room r = arm_carries first other rest others merges (run_carries h) (arms_carry k) before s z n m room r

    arms_carry : {arms others : PlainStatements} → ArmsBeside pace R faults L C M arms others → BothArms arms others
    arms_carry no_arms before s z n m room r = stay_carries pace R faults before s z n m room r
    arms_carry (an_arm {s = first} {t = other} {ss = rest} {tt = others} merges h k) before s z n m room r = arm_carries first other rest others merges (run_carries h) (arms_carry k) before s z n m room r
