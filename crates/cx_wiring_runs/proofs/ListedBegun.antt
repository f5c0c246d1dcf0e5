-- The points of an island whose static ifs begin in a cycle, in their order: their ports are those that begin by the samples.
use Rattle.std.proofs.Common.{◌≡◌, ℕ, zero, suc, ◌+◌, ◌-◌, ◌*◌, ◌%◌, ◌<◌, ◌≤◌, max, not, nat_lt, Bool, true, false, if◌then◌else◌, List, [], ◌∷◌, ◌++◌, length, Option, Some, None, option_map, option_and_then, slice_get, refl, sym, ap, ◌∙◌, arith}
use Rattle.std.proofs.lemmas.Bool.{le-ltb}
use Rattle.std.proofs.lemmas.List.{append_assoc, append-nil}
use Rattle.cx_meaning.specs.declared.ports.PortRef.{PortRef}
use Rattle.cx_meaning.specs.Designs.{PlainComponent, PlainForm, Empty, Enable, Seq, Par, If, While, Repeat, StaticSeq, StaticPar, StaticIf, StaticRepeat, Timed, PlainStatement, Placed, PlainStatements, no_statements, a_statement}
use Rattle.cx_meaning.specs.Islands.{group_length, form_length, length_of, sum_length, max_length}
use Rattle.cx_laws.specs.Positions.{FormIfs, StatementIfs, AllIfs, no_port, port_at}
use Rattle.cx_laws.specs.Samples.{ifs_of, form_by, statement_by, while_by, parts_by, arms_by}
use Rattle.cx_control.specs.Sampling.{within_length, behind_length, where_so}
use Rattle.cx_static.specs.declared.islands.IslandTimer.{IslandTimer}
use Rattle.cx_static.specs.Islands.{PlainPoint}
use Rattle.cx_static.specs.Lowering.{Gathered, Begin, begin_at, later, if_sampled, with_timer, with_point, with_occurrence, form_gathered, gathered, parts_gathered, arms_gathered}
use Rattle.cx_wiring.specs.TimerCounts.{nested, cycles_at}
use Rattle.cx_wiring_cycles.proofs.IslandOffsets.{live_in, live_short, live_behind, live_round, live_true, live_false}
use Rattle.cx_wiring_cycles.proofs.EntryLaws.{by_live, Extends, both_extend, extended, parts_extended, arms_extended, points, round_held}
use Rattle.cx_text.proofs.ListLaws.{snoc_length}

abbrev Ports : Option ℕ → (ℕ → List PortRef) → List PortRef
Ports o f = by_live o f

nothing_live : (o : Option ℕ) → [] ≡ Ports o (λ j. [])
nothing_live None = refl
nothing_live (Some j) = refl

split_live : (a : ℕ) (o : Option ℕ) (f h : ℕ → List PortRef) → Ports o (λ j. if nat_lt j a then f j else h (j - a)) ≡ Ports (option_and_then (within_length a) o) f ++ Ports (option_and_then (behind_length a) o) h
split_live a None f h = refl
split_live a (Some j) f h = by (nat_lt j a)
  where
    by : (b : Bool) → (if b then f j else h (j - a)) ≡ Ports (if b then Some j else None) f ++ Ports (if b then None else Some (j - a)) h
    by true = sym (append-nil (f j))
    by false = refl

both_live : (o : Option ℕ) (f h : ℕ → List PortRef) → Ports o (λ j. f j ++ h j) ≡ Ports o f ++ Ports o h
both_live None f h = refl
both_live (Some j) f h = refl

while_live : (a : ℕ) (o : Option ℕ) (f : ℕ → List PortRef) → Ports o (λ j. if nat_lt j a then f j else []) ≡ Ports (option_and_then (within_length a) o) f
while_live a None f = refl
while_live a (Some j) f = by (nat_lt j a)
  where
    by : (b : Bool) → (if b then f j else []) ≡ Ports (if b then Some j else None) f
    by true = refl
    by false = refl

round_live : (p : ℕ) (o : Option ℕ) (f : ℕ → List PortRef) → Ports o (λ j. f (j % p)) ≡ Ports (option_map (λ j. j % p) o) f
round_live p None f = refl
round_live p (Some j) f = refl

-- a port is looked at in the first cycle alone
first_live : (port : PortRef) (o : Option ℕ) → Ports (option_and_then (within_length 1) o) (port_at port) ≡ Ports o (port_at port)
first_live port None = refl
first_live port (Some zero) = refl
first_live port (Some (suc j)) = ap (λ b. Ports (if b then Some (suc j) else None) (port_at port)) (le-ltb (suc j) 1 (omega arith))

module _ (part : PlainComponent) (counts : ℕ → Option ℕ) (kept : ℕ → Bool) (final : Gathered)
    (held : (n : ℕ) (timer : IslandTimer) → slice_get final.timers n ≡ Some timer → (outer : ℕ) → timer.outer ≡ Some outer → counts n ≡ nested timer.from timer.to (cycles_at final.cells timer.cell) (counts outer)) where
  -- where the point begins
  abbrev pub point_now : PlainPoint → Option ℕ
  point_now p = live_in counts kept (begin_at p.timer p.at p.samples) 1

  abbrev pub ports_among : List PlainPoint → List PortRef
  ports_among [] = []
  ports_among (p ∷ rest) = Ports (point_now p) (port_at p.port) ++ ports_among rest

  among_both : (xs ys : List PlainPoint) → ports_among (xs ++ ys) ≡ ports_among xs ++ ports_among ys
  among_both [] ys = refl
  among_both (x ∷ xs) ys = ap (λ l. Ports (point_now x) (port_at x.port) ++ l) (among_both xs ys) ∙ sym (append_assoc (Ports (point_now x) (port_at x.port)) (ports_among xs) (ports_among ys))

  abbrev Live : Begin → ℕ → Option ℕ
  Live = live_in counts kept

  behind_nothing : (xs : List PortRef) (o : Option ℕ) → xs ≡ xs ++ Ports o (λ j. [])
  behind_nothing xs o = sym (append-nil xs) ∙ ap (λ l. xs ++ l) (nothing_live o)

  enable_begun : (group : ℕ) (x : Begin) (g : Gathered) (o : Option ℕ) (live : Option ℕ) → ports_among (with_occurrence group x o g).points ≡ ports_among g.points ++ Ports live (λ j. [])
  enable_begun group x g None live = behind_nothing (ports_among g.points) live
  enable_begun group x g (Some n) live = behind_nothing (ports_among g.points) live

  while_is : (s : PlainStatement) (n : ℕ) (o : Option ℕ) → Ports o (while_by part kept no_port port_at s n) ≡ Ports (option_and_then (within_length (length_of part s)) o) (statement_by part kept no_port port_at s n)
  while_is (Placed form place) n o = while_live (length_of part (Placed form place)) o (form_by part kept no_port port_at form n)

  -- of two branches that of the sample
  branches : (a b : PlainStatement) (x : Begin) (n len : ℕ) → length_of part a ≤ len → length_of part b ≤ len
      → Ports (live_in counts kept (if_sampled n true x) (length_of part a)) (statement_by part kept no_port port_at a (suc n)) ++ Ports (live_in counts kept (if_sampled n false x) (length_of part b)) (statement_by part kept no_port port_at b (suc n + ifs_of a))
      ≡ Ports (live_in counts kept x len) (λ j. if kept n then while_by part kept no_port port_at a (suc n) j else while_by part kept no_port port_at b (suc n + ifs_of a) j)
  branches a b x n len la lb =
      ap (λ o. Ports o (statement_by part kept no_port port_at a (suc n)) ++ Ports (Live (if_sampled n false x) (length_of part b)) (statement_by part kept no_port port_at b (suc n + ifs_of a))) (live_true counts kept x n (length_of part a))
      ∙ ap (λ o. Ports (where_so (kept n) (Live x (length_of part a))) (statement_by part kept no_port port_at a (suc n)) ++ Ports o (statement_by part kept no_port port_at b (suc n + ifs_of a))) (live_false counts kept x n (length_of part b))
      ∙ by (kept n)
    where
      by : (c : Bool) → Ports (where_so c (live_in counts kept x (length_of part a))) (statement_by part kept no_port port_at a (suc n)) ++ Ports (where_so (not c) (live_in counts kept x (length_of part b))) (statement_by part kept no_port port_at b (suc n + ifs_of a))
          ≡ Ports (live_in counts kept x len) (λ j. if c then while_by part kept no_port port_at a (suc n) j else while_by part kept no_port port_at b (suc n + ifs_of a) j)
      by true = append-nil (Ports (Live x (length_of part a)) (statement_by part kept no_port port_at a (suc n)))
          ∙ sym (while_is a (suc n) (Live x len) ∙ ap (λ o. Ports o (statement_by part kept no_port port_at a (suc n))) (live_short counts kept x len (length_of part a) la))
      by false = sym (while_is b (suc n + ifs_of a) (Live x len) ∙ ap (λ o. Ports o (statement_by part kept no_port port_at b (suc n + ifs_of a))) (live_short counts kept x len (length_of part b) lb))

  -- the port of a static if that takes some cycles
  own_port : (port : PortRef) (x : Begin) (len : ℕ) → 0 < len → Ports (live_in counts kept x 1) (port_at port) ≡ Ports (live_in counts kept x len) (port_at port)
  own_port port x len some = ap (λ o. Ports o (port_at port)) (sym (live_short counts kept x len 1 some)) ∙ first_live port (Live x len)

  mutual
    pub form_begun : (form : PlainForm) (x : Begin) (g : Gathered) → Extends (form_gathered part form x g) final → FormIfs (λ n. 0 < n) part form
        → ports_among (form_gathered part form x g).points ≡ ports_among g.points ++ by_live {A = PortRef} (live_in counts kept x (form_length part form)) (form_by part kept no_port port_at form (length g.points))
    form_begun Empty x g e ifs = behind_nothing (ports_among g.points) (Live x 0)
    form_begun (Enable group) x g e ifs = enable_begun group x g (group_length part group) (Live x (form_length part (Enable group)))
    form_begun (Seq parts) x g e ifs = behind_nothing (ports_among g.points) (Live x 0)
    form_begun (Par arms) x g e ifs = behind_nothing (ports_among g.points) (Live x 0)
    form_begun (If test comb a b) x g e ifs = behind_nothing (ports_among g.points) (Live x 0)
    form_begun (While test comb a) x g e ifs = behind_nothing (ports_among g.points) (Live x 0)
    form_begun (Repeat count a) x g e ifs = behind_nothing (ports_among g.points) (Live x 0)
    form_begun (StaticSeq written parts) x g e ifs = parts_begun parts x g e ifs
    form_begun (StaticPar written arms) x g e ifs = arms_begun arms x (max_length part arms) g (omega arith) e ifs
    form_begun (StaticIf written test a b) x g e ifs =
        let n = length g.points in
        let len = max (length_of part a) (length_of part b) in
        let mid = with_point test.port x g in
        let xa = if_sampled (length g.points) true x in
        let xb = if_sampled (length g.points) false x in
        let ga = gathered part a xa mid in
        let point : PlainPoint = record { port = test.port; timer = x.timer; at = x.at; samples = x.samples } in
        let one : length mid.points ≡ suc (length g.points) = snoc_length g.points point in
        let two : length ga.points ≡ suc (length g.points) + ifs_of a = points part a xa mid ∙ ap (λ m. m + ifs_of a) one in
        let own : ports_among mid.points ≡ ports_among g.points ++ Ports (Live x len) (port_at test.port) =
        among_both g.points (point ∷ []) ∙ ap (λ l. ports_among g.points ++ l) (append-nil (Ports (Live x 1) (port_at test.port)) ∙ own_port test.port x len ifs.0) in
        let first = statement_begun a xa mid (both_extend part ga (gathered part b xb ga) final (extended part b xb ga) e) ifs.1 in
        let second = statement_begun b xb ga e ifs.2 in
        let A : ℕ → List PortRef = λ m. Ports (Live xa (length_of part a)) (statement_by part kept no_port port_at a m) in
        let B : ℕ → List PortRef = λ m. Ports (Live xb (length_of part b)) (statement_by part kept no_port port_at b m) in
        let P : List PortRef = Ports (Live x len) (port_at test.port) in
        second
        ∙ ap (λ l. l ++ B (length ga.points)) (first ∙ ap (λ l. l ++ A (length mid.points)) own)
        ∙ ap (λ m. ((ports_among g.points ++ P) ++ A m) ++ B (length ga.points)) one
        ∙ ap (λ m. ((ports_among g.points ++ P) ++ A (suc n)) ++ B m) two
        ∙ append_assoc (ports_among g.points ++ P) (A (suc n)) (B (suc n + ifs_of a))
        ∙ append_assoc (ports_among g.points) P (A (suc n) ++ B (suc n + ifs_of a))
        ∙ ap (λ l. ports_among g.points ++ l) (
        ap (λ l. P ++ l) (branches a b x n (max (length_of part a) (length_of part b)) (omega arith) (omega arith))
        ∙ sym (both_live (Live x len) (port_at test.port) (λ j. if kept n then while_by part kept no_port port_at a (suc n) j else while_by part kept no_port port_at b (suc n + ifs_of a) j)))
    form_begun (StaticRepeat written count a) x g e ifs =
        let p = length_of part a in
        let y = begin_at (length g.timers) 0 x.samples in
        let mid = with_timer part.place (length_of part a) (Some x.timer) x.at (x.at + count * length_of part a) g in
        statement_begun a y mid e ifs
        ∙ ap (λ l. ports_among g.points ++ l)
        (ap (λ o. Ports o (statement_by part kept no_port port_at a (length g.points))) (live_round counts kept x (length g.timers) count p (round_held part counts kept final held x p count g (both_extend part mid (gathered part a y mid) final (extended part a y mid) e)))
        ∙ sym (round_live p (Live x (count * p)) (statement_by part kept no_port port_at a (length g.points))))
    form_begun (Timed k) x g e ifs = behind_nothing (ports_among g.points) (Live x 0)

    statement_begun : (s : PlainStatement) (x : Begin) (g : Gathered) → Extends (gathered part s x g) final → StatementIfs (λ n. 0 < n) part s
        → ports_among (gathered part s x g).points ≡ ports_among g.points ++ by_live {A = PortRef} (live_in counts kept x (length_of part s)) (statement_by part kept no_port port_at s (length g.points))
    statement_begun (Placed form place) x g e ifs = form_begun form x g e ifs

    parts_begun : (ss : PlainStatements) (x : Begin) (g : Gathered) → Extends (parts_gathered part ss x g) final → AllIfs (λ n. 0 < n) part ss
        → ports_among (parts_gathered part ss x g).points ≡ ports_among g.points ++ by_live {A = PortRef} (live_in counts kept x (sum_length part ss)) (parts_by part kept no_port port_at ss (length g.points))
    parts_begun no_statements x g e ifs = behind_nothing (ports_among g.points) (Live x 0)
    parts_begun (a_statement s ss) x g e ifs =
        let a = length_of part s in
        let b = sum_length part ss in
        let y = later (length_of part s) x in
        let mid = gathered part s x g in
        let n = length g.points in
        let two : length mid.points ≡ length g.points + ifs_of s = points part s x g in
        let first = statement_begun s x g (both_extend part mid (parts_gathered part ss y mid) final (parts_extended part ss y mid) e) ifs.0 in
        parts_begun ss y mid e ifs.1 ∙ ap (λ l. l ++ Ports (Live y b) (parts_by part kept no_port port_at ss (length mid.points))) first
        ∙ append_assoc (ports_among g.points) (Ports (Live x a) (statement_by part kept no_port port_at s n)) (Ports (Live y b) (parts_by part kept no_port port_at ss (length mid.points)))
        ∙ ap (λ m. ports_among g.points ++ (Ports (Live x a) (statement_by part kept no_port port_at s n) ++ Ports (Live y b) (parts_by part kept no_port port_at ss m))) two
        ∙ ap (λ l. ports_among g.points ++ l) (sym (
        split_live a (Live x (a + b)) (statement_by part kept no_port port_at s n) (parts_by part kept no_port port_at ss (n + ifs_of s))
        ∙ ap (λ o. Ports o (statement_by part kept no_port port_at s n) ++ Ports (option_and_then (behind_length a) (Live x (a + b))) (parts_by part kept no_port port_at ss (n + ifs_of s))) (live_short counts kept x (a + b) a (omega arith))
        ∙ ap (λ o. Ports (Live x a) (statement_by part kept no_port port_at s n) ++ Ports o (parts_by part kept no_port port_at ss (n + ifs_of s))) (live_behind counts kept x a b)))

    arms_begun : (ss : PlainStatements) (x : Begin) (len : ℕ) (g : Gathered) → max_length part ss ≤ len → Extends (arms_gathered part ss x g) final → AllIfs (λ n. 0 < n) part ss
        → ports_among (arms_gathered part ss x g).points ≡ ports_among g.points ++ by_live {A = PortRef} (live_in counts kept x len) (arms_by part kept no_port port_at ss (length g.points))
    arms_begun no_statements x len g less e ifs = behind_nothing (ports_among g.points) (Live x len)
    arms_begun (a_statement s ss) x len g less e ifs =
        let m : max (length_of part s) (max_length part ss) ≤ len = less in
        let a = length_of part s in
        let mid = gathered part s x g in
        let n = length g.points in
        let two : length mid.points ≡ length g.points + ifs_of s = points part s x g in
        let first = statement_begun s x g (both_extend part mid (arms_gathered part ss x mid) final (arms_extended part ss x mid) e) ifs.0 in
        arms_begun ss x len mid (omega arith) e ifs.1 ∙ ap (λ l. l ++ Ports (Live x len) (arms_by part kept no_port port_at ss (length mid.points))) first
        ∙ append_assoc (ports_among g.points) (Ports (Live x a) (statement_by part kept no_port port_at s n)) (Ports (Live x len) (arms_by part kept no_port port_at ss (length mid.points)))
        ∙ ap (λ k. ports_among g.points ++ (Ports (Live x a) (statement_by part kept no_port port_at s n) ++ Ports (Live x len) (arms_by part kept no_port port_at ss k))) two
        ∙ ap (λ l. ports_among g.points ++ l) (sym (
        both_live (Live x len) (while_by part kept no_port port_at s n) (arms_by part kept no_port port_at ss (n + ifs_of s))
        ∙ ap (λ l. l ++ Ports (Live x len) (arms_by part kept no_port port_at ss (n + ifs_of s)))
        (while_is s n (Live x len) ∙ ap (λ o. Ports o (statement_by part kept no_port port_at s n)) (live_short counts kept x len a (omega arith)))))
