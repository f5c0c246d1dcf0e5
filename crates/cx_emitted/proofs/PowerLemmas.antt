-- From any power-up state a source makes the cycles that it makes from the first one, and so passes the same scripts.
use Rattle.std.proofs.Common.{◌≡◌, ℕ, zero, suc, ◌+◌, ◌≤◌, Bool, true, false, List, Option, Some, None, if◌then◌else◌, refl, sym, ap, ◌∙◌, subst, arith}
use Rattle.cx_bits.specs.BitVector.{BitVector}
use Rattle.cx_meaning.specs.Designs.{PlainDesign}
use Rattle.cx_meaning.specs.Instances as instances
use Rattle.cx_vtree.specs.Plain.{PlainSource}
use Rattle.cx_vtree.specs.InstanceTree.{instances_of}
use Rattle.cx_vtree.specs.Meaning.{State, Look, running}
use Rattle.cx_vtree.specs.Edges.{state_after}
use Rattle.cx_vtree.specs.SimRun.{Outcome, DoneAt, NotDone, IsWhole, is_done, words_of, RunsFrom, loops, ends, spent, goes_on}
use Rattle.cx_vtree.specs.Sound.{is_sound}
use Rattle.cx_emitted.proofs.AlikeLemmas.{Alike, whole_alike, after_alike, told_alike}
use Rattle.cx_emit.proofs.TextWholes.{whole_has}
use Rattle.cx_emitted.specs.Scripts.{Stay, Undone, here, further}
use Rattle.cx_emitted.specs.Always.{in_cycle, SourceCycle, HasAnswer, done_in, not_yet, RunsAsMain, IsAt}
use Rattle.cx_emitted.proofs.AheadLemmas as ahead
use Rattle.cx_emitted.proofs.AheadLemmas.{ComesBy, Ahead, LeadsTo, leads_carry}

module _ (source : PlainSource) where
  -- A CYCLE from states that hold the same
  alike_goes : (go : Bool) (s : State) (done : Bool) (t k : State) → Alike (instances_of source) s k → SourceCycle source go s done t → (l : State) × SourceCycle source go k done l × Alike (instances_of source) t l
  alike_goes go s done t k same c = (
    state_after (instances_of source) (in_cycle go k) c.look,
    record { look = c.look; whole = whole_alike (instances_of source) (if go then 1 else 0) s k same c.look c.whole; shows = c.shows; leads = refl },
    subst (λ x. Alike (instances_of source) x (state_after (instances_of source) (in_cycle go k) c.look)) c.leads (after_alike (instances_of source) (if go then 1 else 0) s k same c.look),
  )

  -- SCRIPTS
  pub alike_leads : (d : PlainDesign) (s k : State) (stays : List Stay) (own : instances.State) → Alike (instances_of source) s k → LeadsTo d (SourceCycle source) (words_of source) s stays own
      → LeadsTo d (SourceCycle source) (words_of source) k stays own
  alike_leads d s k stays own same is =
      leads_carry (SourceCycle source) (SourceCycle source) (Alike (instances_of source)) alike_goes (words_of source) (words_of source) (λ x y a. sym (told_alike (instances_of source) x y a source.externals)) d s k stays own same is

  -- RUNS BY CYCLES
  undone_ends : {s last t : State} {n : ℕ} → Undone (SourceCycle source) s n last → SourceCycle source true last true t → (cycle left : ℕ) → n ≤ left → RunsFrom source s cycle left (DoneAt (cycle + n) (words_of source last))
  undone_ends {s} here c cycle left le =
      let same : cycle ≡ cycle + 0 = omega arith in
      subst (λ m. RunsFrom source s cycle left (DoneAt m (words_of source s))) same (ends c.look c.whole c.shows)
  undone_ends (further first rest) c cycle zero le = absurd (omega arith)
  undone_ends {s} {last} (further {n = n} first rest) c cycle (suc left) le =
      let same : (cycle + 1) + n ≡ cycle + suc n = omega arith in
      subst (λ m. RunsFrom source s cycle (suc left) (DoneAt m (words_of source last))) same
      (goes_on first.look first.whole first.shows
      (subst (λ x. RunsFrom source x (cycle + 1) left (DoneAt ((cycle + 1) + n) (words_of source last))) (sym first.leads) (undone_ends rest c (cycle + 1) left (omega arith))))

  undone_waits : {s t : State} {n : ℕ} → Undone (SourceCycle source) s n t → (cycle left : ℕ) → n ≡ suc left → RunsFrom source s cycle left NotDone
  undone_waits here cycle left e = absurd (omega arith)
  undone_waits (further first here) cycle zero e = spent first.look first.whole first.shows
  undone_waits (further first (further later rest)) cycle zero e = absurd (omega arith)
  undone_waits (further {n = n} first rest) cycle (suc left) e =
      goes_on first.look first.whole first.shows (subst (λ x. RunsFrom source x (cycle + 1) left NotDone) (sym first.leads) (undone_waits rest (cycle + 1) left (omega arith)))

  -- done comes in no cycle before the first
  from_first : {s : State} {cycle left : ℕ} {o : Outcome} (m : ℕ) (ws : List (List ℕ)) → RunsFrom source s cycle left o → o ≡ DoneAt m ws → cycle ≤ m
  from_first m ws (loops l) e = absurd (cc)
  from_first {cycle = cycle} m ws (ends look w d) e = let same : cycle ≡ m = cc in omega arith
  from_first m ws (spent look w d) e = absurd (cc)
  from_first {cycle = cycle} m ws (goes_on look w d rest) e = let low : cycle + 1 ≤ m = from_first m ws rest e in omega arith

  module _ (sound : is_sound source ≡ true) where
    -- two whole looks of one cycle are one
    same_entry : (go : Bool) (s : State) (a b : Look) → IsWhole (instances_of source) (in_cycle go s) a → IsWhole (instances_of source) (in_cycle go s) b → (i : ℕ) (n : List ℕ) → a i n ≡ b i n
    same_entry go s a b ha hb i n = by (a i n) (b i n) refl refl where
      by : (x y : Option BitVector) → a i n ≡ x → b i n ≡ y → x ≡ y
      by None None ex ey = refl
      by (Some v) y ex ey = sym (whole_has source sound (in_cycle go s) b hb i n v (ha.right i n v ex)) ∙ ey
      by None (Some w) ex ey = sym ex ∙ whole_has source sound (in_cycle go s) a ha i n w (hb.right i n w ey)

    same_look : (s : State) (a b : Look) → IsWhole (instances_of source) (running s) a → IsWhole (instances_of source) (running s) b → a ≡ b
    same_look s a b ha hb = λ t i n. same_entry true s a b ha hb i n t

    true_false : true ≡ false → ⊥
    true_false e = cc

    not_sooner : {s t : State} {cycle left n : ℕ} {o : Outcome} (m : ℕ) (ws : List (List ℕ)) → RunsFrom source s cycle left o → o ≡ DoneAt m ws → Undone (SourceCycle source) s n t → cycle + n ≤ m
    not_sooner {cycle = cycle} m ws run e here = let low : cycle ≤ m = from_first m ws run e in omega arith
    not_sooner m ws (loops l) e (further c rest) = absurd (cc)
    not_sooner {s} m ws (ends look w d) e (further c rest) = absurd (true_false (sym d ∙ ap is_done (same_look s look c.look w c.whole) ∙ c.shows))
    not_sooner m ws (spent look w d) e (further c rest) = absurd (cc)
    not_sooner {s} {t} {cycle} m ws (goes_on look w d run) e (further {n = n} c rest) =
        let same = ap (state_after (instances_of source) (running s)) (same_look s c.look look c.whole w) in
        let low : (cycle + 1) + n ≤ m = not_sooner m ws run e (subst (λ x. Undone (SourceCycle source) x n t) (sym c.leads ∙ same) rest) in
        omega arith

    -- WHAT IS AHEAD is a run as main
    answered : (now : State) (bound : ℕ) → ComesBy (SourceCycle source) now bound → HasAnswer (λ last o. RunsFrom source now 0 last o) bound
    answered now bound (ahead.done_in {last = last} turns within undone c) = done_in (0 + turns) (words_of source last) (undone_ends undone c 0 bound within)
    answered now bound (ahead.none undone) = not_yet (undone_waits undone 0 bound refl)

    pub runs_as_main : (d : PlainDesign) (own : instances.State) (now : State) → Ahead d own (SourceCycle source) (words_of source) now → RunsAsMain d own (λ last o. RunsFrom source now 0 last o)
    runs_as_main d own now a = record {
      ends = λ budget turns after e.
          let x = a.ends budget turns after e in
          let none : 0 + turns ≡ turns = omega arith in
          subst (λ ws. RunsFrom source now 0 budget (DoneAt turns ws)) x.1.told
          (subst (λ m. RunsFrom source now 0 budget (DoneAt m (words_of source x.1.last))) none (undone_ends x.1.undone x.1.done 0 budget x.0));
      ends_only = λ budget cycle left r e.
          let x = a.goes_on cycle e in
          let low : 0 + suc cycle ≤ cycle = not_sooner cycle left r refl x.1 in
          omega (arith, low);
      never_stuck = λ budget. answered now budget (a.comes budget);
    }

    pub is_at : (d : PlainDesign) (first : State) (stays : List Stay) (s : instances.State) → LeadsTo d (SourceCycle source) (words_of source) first stays s → IsAt d source first stays s
    is_at d first stays s is = record { now = is.now; passes = is.passes; words = is.ahead.told; runs = runs_as_main d s is.now is.ahead }
