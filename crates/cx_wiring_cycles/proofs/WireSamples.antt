-- THE SAMPLES in a cycle of an island: where each sample is its port where its static if begins and those around it go to it, and else
-- what is kept, the samples are those that the island's machine takes.
use Rattle.std.proofs.Common.{◌≡◌, ℕ, zero, suc, ◌+◌, ◌*◌, ◌%◌, ◌<◌, ◌≤◌, max, ⊎_elim, not, nat_lt, nat_eq, Bool, true, false, if◌then◌else◌, length, Option, Some, None, option_map, option_and_then, slice_get, refl, sym, ap, ◌∙◌, arith}
use Rattle.std.proofs.lemmas.Bool.{cases_lt, lt-ltb, le-ltb, eq-eqb, ne_eqb, cases_eq}
use Rattle.cx_meaning.specs.declared.ports.PortRef.{PortRef}
use Rattle.cx_meaning.specs.Designs.{PlainComponent, PlainForm, Empty, Enable, Seq, Par, If, While, Repeat, StaticSeq, StaticPar, StaticIf, StaticRepeat, Timed, PlainStatement, Placed, PlainStatements, no_statements, a_statement}
use Rattle.cx_meaning.specs.Islands.{form_length, length_of, sum_length, max_length}
use Rattle.cx_laws.specs.Positions.{FormIfs, StatementIfs, AllIfs}
use Rattle.cx_laws.specs.Samples.{form_ifs, ifs_of, ifs_in}
use Rattle.cx_control.specs.Sampling.{within_length, behind_length, where_so, taken, form_now, statement_now, parts_now, arms_now}
use Rattle.cx_static.specs.declared.islands.IslandTimer.{IslandTimer}
use Rattle.cx_static.specs.Islands.{PlainPoint}
use Rattle.cx_static.specs.Lowering.{Gathered, Begin, begin_at, later, if_sampled, with_timer, with_point, form_gathered, gathered, parts_gathered, arms_gathered}
use Rattle.cx_wiring.specs.TimerCounts.{nested, cycles_at}
use Rattle.cx_wiring_cycles.proofs.IslandOffsets.{live_in, live_short, live_behind, live_round, live_true, live_false}
use Rattle.cx_wiring_cycles.proofs.EntryLaws.{Extends, both_extend, extended, parts_extended, arms_extended, points, round_held}
use Rattle.cx_text.proofs.ListLaws.{get_end, snoc_length}

-- whether a static if begins is told by its first cycle
first_cycle : (a b : Bool) (o : Option ℕ) → taken a b (option_and_then (within_length 1) o) ≡ taken a b o
first_cycle a b None = refl
first_cycle a b (Some zero) = refl
first_cycle a b (Some (suc j)) = ap (λ c. taken a b (if c then Some (suc j) else None)) (le-ltb (suc j) 1 (omega arith))

so_within : (c : Bool) (m : ℕ) (o : Option ℕ) → option_and_then (within_length m) (where_so c o) ≡ where_so c (option_and_then (within_length m) o)
so_within true m o = refl
so_within false m o = refl

other_if : (m n : ℕ) → n ≤ m → (m ≡ n → ⊥) → suc n ≤ m
other_if m n low apart = ⊎_elim (λ l. omega arith) (λ l. let same : m ≡ n = omega arith in absurd (apart same)) (cases_lt n m)

module _ (part : PlainComponent) (counts : ℕ → Option ℕ) (S : ℕ → Bool) (final : Gathered) (now : PortRef → Bool) (kept : ℕ → Bool)
    (held : (n : ℕ) (timer : IslandTimer) → slice_get final.timers n ≡ Some timer → (outer : ℕ) → timer.outer ≡ Some outer → counts n ≡ nested timer.from timer.to (cycles_at final.cells timer.cell) (counts outer))
    (sampled : (m : ℕ) (p : PlainPoint) → slice_get final.points m ≡ Some p → S m ≡ taken (now p.port) (kept m) (live_in counts S (begin_at p.timer p.at p.samples) 1)) where
  abbrev Live : Begin → ℕ → Option ℕ
  Live = live_in counts S

  choose : (m n : ℕ) (x y z : Bool) → (m < n → z ≡ x) → (n ≤ m → z ≡ y) → z ≡ (if nat_lt m n then x else y)
  choose m n x y z f g = ⊎_elim (λ l. f l ∙ sym (ap (λ b. if b then x else y) (lt-ltb m n l))) (λ l. g l ∙ sym (ap (λ b. if b then x else y) (le-ltb m n l))) (cases_lt m n)

  if_case : (m n k : ℕ) (t a b z : Bool) → (m ≡ n → z ≡ t) → ((m ≡ n → ⊥) → m < k → z ≡ a) → ((m ≡ n → ⊥) → k ≤ m → z ≡ b) → z ≡ (if nat_eq m n then t else (if nat_lt m k then a else b))
  if_case m n k t a b z f g h =
      ⊎_elim
      (λ e. f e ∙ sym (ap (λ c. if c then t else (if nat_lt m k then a else b)) (eq-eqb m n e)))
      (λ e. choose m k a b z (g e) (h e) ∙ sym (ap (λ c. if c then t else (if nat_lt m k then a else b)) (ne_eqb m n e)))
      (cases_eq m n)

  -- the sample of a static if of so many cycles
  own_sample : (port : PortRef) (x : Begin) (g : Gathered) (len n : ℕ) (live : Option ℕ) → Extends (with_point port x g) final → 0 < len → live ≡ live_in counts S x len → n ≡ length g.points → S n ≡ taken (now port) (kept n) live
  own_sample port x g len n live e some is same =
      let p : PlainPoint = record { port = port; timer = x.timer; at = x.at; samples = x.samples } in
      ap S same ∙ sampled (length g.points) p (e.points (length g.points) p (get_end g.points p))
      ∙ ap (taken (now port) (kept (length g.points))) (sym (live_short counts S x len 1 some)) ∙ first_cycle (now port) (kept (length g.points)) (Live x len)
      ∙ ap (λ o. taken (now port) (kept (length g.points)) o) (sym is) ∙ ap (λ m. taken (now port) (kept m) live) (sym same)

  branch_true : (x : Begin) (g : Gathered) (len n m : ℕ) (t : Bool) (live : Option ℕ) → m ≤ len → live ≡ live_in counts S x len → n ≡ length g.points → S n ≡ t
      → option_and_then (within_length m) (where_so t live) ≡ live_in counts S (if_sampled (length g.points) true x) m
  branch_true x g len n m t live less is same own =
      so_within t m live ∙ ap (λ o. where_so t (option_and_then (within_length m) o)) is ∙ ap (where_so t) (live_short counts S x len m less)
      ∙ ap (λ c. where_so c (Live x m)) (sym own ∙ ap S same) ∙ sym (live_true counts S x (length g.points) m)

  branch_false : (x : Begin) (g : Gathered) (len n m : ℕ) (t : Bool) (live : Option ℕ) → m ≤ len → live ≡ live_in counts S x len → n ≡ length g.points → S n ≡ t
      → option_and_then (within_length m) (where_so (not t) live) ≡ live_in counts S (if_sampled (length g.points) false x) m
  branch_false x g len n m t live less is same own =
      so_within (not t) m live ∙ ap (λ o. where_so (not t) (option_and_then (within_length m) o)) is ∙ ap (where_so (not t)) (live_short counts S x len m less)
      ∙ ap (λ c. where_so (not c) (Live x m)) (sym own ∙ ap S same) ∙ sym (live_false counts S x (length g.points) m)

  mutual
    pub form_sampled : (form : PlainForm) (x : Begin) (g : Gathered) → Extends (form_gathered part form x g) final → FormIfs (λ n. 0 < n) part form → (live : Option ℕ) → live ≡ live_in counts S x (form_length part form)
        → (n m : ℕ) → n ≡ length g.points → n ≤ m → m < n + form_ifs form → S m ≡ form_now part now kept form n live m
    form_sampled Empty x g e ifs live is n m same low high = absurd (omega arith)
    form_sampled (Enable group) x g e ifs live is n m same low high = absurd (omega arith)
    form_sampled (Seq parts) x g e ifs live is n m same low high = absurd (omega arith)
    form_sampled (Par arms) x g e ifs live is n m same low high = absurd (omega arith)
    form_sampled (If test comb a b) x g e ifs live is n m same low high = absurd (omega arith)
    form_sampled (While test comb a) x g e ifs live is n m same low high = absurd (omega arith)
    form_sampled (Repeat count a) x g e ifs live is n m same low high = absurd (omega arith)
    form_sampled (StaticSeq written parts) x g e ifs live is n m same low high = parts_sampled parts x g e ifs live is n m same low high
    form_sampled (StaticPar written arms) x g e ifs live is n m same low high = arms_sampled arms x (max_length part arms) g (omega arith) e ifs live is n m same low high
    form_sampled (StaticIf written test a b) x g e ifs live is n m same low high =
        let len = max (length_of part a) (length_of part b) in
        let mid = with_point test.port x g in
        let xa = if_sampled (length g.points) true x in
        let xb = if_sampled (length g.points) false x in
        let ga = gathered part a xa mid in
        let later_a = both_extend part ga (gathered part b xb ga) final (extended part b xb ga) e in
        let t = taken (now test.port) (kept n) live in
        let own : S n ≡ taken (now test.port) (kept n) live = own_sample test.port x g len n live (both_extend part mid ga final (extended part a xa mid) later_a) ifs.0 is same in
        let one : length mid.points ≡ suc (length g.points) = snoc_length g.points (record { port = test.port; timer = x.timer; at = x.at; samples = x.samples }) in
        let two : length ga.points ≡ length mid.points + ifs_of a = points part a xa mid in
        if_case m n (suc n + ifs_of a) t _ _ (S m)
        (λ f. ap S f ∙ own)
        (λ apart l. statement_sampled a xa mid later_a ifs.1 (where_so t live) (branch_true x g len n (length_of part a) t live (omega arith) is same own) (suc n) m (omega arith) (other_if m n low apart) l)
        (λ apart l. statement_sampled b xb ga e ifs.2 (where_so (not t) live) (branch_false x g len n (length_of part b) t live (omega arith) is same own) (suc n + ifs_of a) m (omega arith) l (omega arith))
    form_sampled (StaticRepeat written count a) x g e ifs live is n m same low high =
        let p = length_of part a in
        let y = begin_at (length g.timers) 0 x.samples in
        let mid = with_timer part.place (length_of part a) (Some x.timer) x.at (x.at + count * length_of part a) g in
        let round = live_round counts S x (length g.timers) count p (round_held part counts S final held x p count g (both_extend part mid (gathered part a y mid) final (extended part a y mid) e)) in
        statement_sampled a y mid e ifs (option_map (λ j. j % p) live)
        (ap (λ o. option_and_then (within_length p) (option_map (λ j. j % p) o)) is ∙ ap (option_and_then (within_length p)) (sym round) ∙ live_short counts S y p p (omega arith)) n m same low high
    form_sampled (Timed k) x g e ifs live is n m same low high = absurd (omega arith)

    pub statement_sampled : (s : PlainStatement) (x : Begin) (g : Gathered) → Extends (gathered part s x g) final → StatementIfs (λ n. 0 < n) part s → (live : Option ℕ)
        → option_and_then (within_length (length_of part s)) live ≡ live_in counts S x (length_of part s) → (n m : ℕ) → n ≡ length g.points → n ≤ m → m < n + ifs_of s → S m ≡ statement_now part now kept s n live m
    statement_sampled (Placed form place) x g e ifs live is n m same low high = form_sampled form x g e ifs (option_and_then (within_length (length_of part (Placed form place))) live) is n m same low high

    parts_sampled : (ss : PlainStatements) (x : Begin) (g : Gathered) → Extends (parts_gathered part ss x g) final → AllIfs (λ n. 0 < n) part ss → (live : Option ℕ) → live ≡ live_in counts S x (sum_length part ss)
        → (n m : ℕ) → n ≡ length g.points → n ≤ m → m < n + ifs_in ss → S m ≡ parts_now part now kept ss n live m
    parts_sampled no_statements x g e ifs live is n m same low high = absurd (omega arith)
    parts_sampled (a_statement s ss) x g e ifs live is n m same low high =
        let a = length_of part s in
        let b = sum_length part ss in
        let y = later (length_of part s) x in
        let mid = gathered part s x g in
        let two : length mid.points ≡ length g.points + ifs_of s = points part s x g in
        choose m (n + ifs_of s) _ _ (S m)
        (λ l. statement_sampled s x g (both_extend part mid (parts_gathered part ss y mid) final (parts_extended part ss y mid) e) ifs.0 live (ap (option_and_then (within_length a)) is ∙ live_short counts S x (a + b) a (omega arith)) n m same low l)
        (λ l. parts_sampled ss y mid e ifs.1 (option_and_then (behind_length a) live) (ap (option_and_then (behind_length a)) is ∙ live_behind counts S x a b) (n + ifs_of s) m (omega arith) l (omega arith))

    arms_sampled : (ss : PlainStatements) (x : Begin) (len : ℕ) (g : Gathered) → max_length part ss ≤ len → Extends (arms_gathered part ss x g) final → AllIfs (λ n. 0 < n) part ss → (live : Option ℕ) → live ≡ live_in counts S x len
        → (n m : ℕ) → n ≡ length g.points → n ≤ m → m < n + ifs_in ss → S m ≡ arms_now part now kept ss n live m
    arms_sampled no_statements x len g less e ifs live is n m same low high = absurd (omega arith)
    arms_sampled (a_statement s ss) x len g less e ifs live is n m same low high =
        let long : max (length_of part s) (max_length part ss) ≤ len = less in
        let a = length_of part s in
        let mid = gathered part s x g in
        let two : length mid.points ≡ length g.points + ifs_of s = points part s x g in
        choose m (n + ifs_of s) _ _ (S m)
        (λ l. statement_sampled s x g (both_extend part mid (arms_gathered part ss x mid) final (arms_extended part ss x mid) e) ifs.0 live (ap (option_and_then (within_length a)) is ∙ live_short counts S x len a (omega arith)) n m same low l)
        (λ l. arms_sampled ss x len mid (omega arith) e ifs.1 live is (n + ifs_of s) m (omega arith) l (omega arith))
