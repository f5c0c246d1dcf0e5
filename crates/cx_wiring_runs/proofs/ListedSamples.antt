-- In a cycle of an island: what the points take one after the other each takes by all samples of the cycle; and what points and occurrences give
-- by their definition they give by where their statements are.
use Rattle.std.proofs.Common.{◌≡◌, inl, inr, ℕ, zero, suc, ◌+◌, ◌-◌, ◌<◌, ◌&&◌, nat_eq, nat_le, nat_lt, not, Bool, true, false, if◌then◌else◌, List, [], ◌∷◌, ◌++◌, Option, Some, None, slice_get, refl, sym, ap, ap₂, ◌∙◌, arith}
use Rattle.std.proofs.lemmas.Bool.{lt-ltb, le-ltb, le-leb, lt-leb, eq-eqb, ne_eqb}
use Rattle.cx_meaning.specs.declared.ports.PortRef.{PortRef}
use Rattle.cx_meaning.specs.Active.{Entry}
use Rattle.cx_meaning.specs.Islands.{port_if}
use Rattle.cx_text.specs.Members.{In}
use Rattle.cx_laws.specs.Positions.{entry_at, port_at}
use Rattle.cx_laws.specs.Samples.{Samples, with_sample}
use Rattle.cx_control.specs.Sampling.{taken, where_so}
use Rattle.cx_static.specs.declared.islands.Sample.{Sample}
use Rattle.cx_static.specs.Islands.{PlainPoint, PlainOccurrence}
use Rattle.cx_static.specs.Lowering.{begin_at}
use Rattle.cx_wiring_cycles.proofs.IslandOffsets.{range_in, Lies, lies, before, in_it, behind, at_before, at_in, at_behind, are_wanted, live_in}
use Rattle.cx_wiring_cycles.proofs.EntryLaws.{by_live}
use Rattle.cx_wiring_runs.specs.Listed.{is_wanted, all_wanted, is_at, entry_between, begins, sampled_from, begun_among, active_among}

-- a point begins at the one count
pub point_live : (w : Bool) (at : ℕ) (o : Option ℕ) → where_so w (range_in at 1 o) ≡ (if w && is_at at o then Some 0 else None)
point_live false at o = refl
point_live true at None = refl
point_live true at (Some c) = by (lies at 1 c)
  where
    apart : (c ≡ at → ⊥) → range_in at 1 (Some c) ≡ None → range_in at 1 (Some c) ≡ (if nat_eq c at then Some 0 else None)
    apart f g = g ∙ sym (ap (λ (b : Bool). if b then Some 0 else None) (ne_eqb c at f))

    by : Lies at 1 c → range_in at 1 (Some c) ≡ (if nat_eq c at then Some 0 else None)
    by (before l) = apart (λ s. omega arith) (at_before at 1 c l)
    by (behind l f) = apart (λ s. omega arith) (at_behind at 1 c l f)
    by (in_it l f) =
        let none : c - at ≡ 0 = omega arith in
        at_in at 1 c l f ∙ ap Some none ∙ sym (ap (λ (b : Bool). if b then Some 0 else None) (eq-eqb c at (omega arith)))

-- an occurrence is active in its range
entry_live : (w : Bool) (g from to : ℕ) (o : Option ℕ) → (if w then entry_between g from to o else []) ≡ by_live (where_so w (range_in from (to - from) o)) (entry_at g)
entry_live false g from to o = refl
entry_live true g from to None = refl
entry_live true g from to (Some c) = by (lies from (to - from) c)
  where
    It : Bool → Bool → List Entry
    It a b = if a && b then record { group = g; offset = c - from } ∷ [] else []

    off : (a : Bool) → It a false ≡ []
    off true = refl
    off false = refl

    by : Lies from (to - from) c → It (nat_le from c) (nat_lt c to) ≡ by_live (range_in from (to - from) (Some c)) (entry_at g)
    by (before l) = ap (λ a. It a (nat_lt c to)) (lt-leb from c l) ∙ ap (λ o. by_live o (entry_at g)) (sym (at_before from (to - from) c l))
    by (behind l f) = ap (It (nat_le from c)) (le-ltb c to (omega arith)) ∙ off (nat_le from c) ∙ ap (λ o. by_live o (entry_at g)) (sym (at_behind from (to - from) c l f))
    by (in_it l f) = ap (λ a. It a (nat_lt c to)) (le-leb from c l) ∙ ap (It true) (lt-ltb c to (omega arith)) ∙ ap (λ o. by_live o (entry_at g)) (sym (at_in from (to - from) c l f))

module _ (counts : ℕ → Option ℕ) where
  wanted_so : (kept : Samples) (list : List Sample) → all_wanted kept list ≡ are_wanted counts kept list
  wanted_so kept [] = refl
  wanted_so kept (s ∷ rest) = ap (λ b. is_wanted kept s && b) (wanted_so kept rest)

  wanted_same : (one other : Samples) (list : List Sample) → ((s : Sample) → In list s → one s.point ≡ other s.point) → all_wanted one list ≡ all_wanted other list
  wanted_same one other [] same = refl
  wanted_same one other (s ∷ rest) same = ap₂ (λ a b. (if s.wanted then a else not a) && b) (same s (inl refl)) (wanted_same one other rest (λ z i. same z (inr i)))

  point_so : (kept : Samples) (p : PlainPoint) → live_in counts kept (begin_at p.timer p.at p.samples) 1 ≡ (if begins counts kept p then Some 0 else None)
  point_so kept p =
      ap (λ b. where_so b (range_in p.at 1 (counts p.timer))) (sym (wanted_so kept p.samples)) ∙ point_live (all_wanted kept p.samples) p.at (counts p.timer)

  -- THE SAMPLES of the points, by those of the whole cycle
  module _ (now : PortRef → Bool) where
    abbrev also : Samples → ℕ → PlainPoint → Samples
    also kept n p = with_sample n (if begins counts kept p then now p.port else kept n) kept

    stays : (n : ℕ) (rest : List PlainPoint) (kept : Samples) (m : ℕ) → m < n → sampled_from counts now n rest kept m ≡ kept m
    stays n [] kept m less = refl
    stays n (p ∷ rest) kept m less =
        stays (suc n) rest (also kept n p) m (omega arith) ∙ ap (λ (b : Bool). if b then (if begins counts kept p then now p.port else kept n) else kept m) (ne_eqb m n (λ e. omega arith))

    same_point : (x y : PlainPoint) → ◌≡◌ {A = Option PlainPoint} (Some x) (Some y) → x ≡ y
    same_point x y e = cc

    at_point : (n i m : ℕ) (rest : List PlainPoint) (kept : Samples) (p : PlainPoint) → m ≡ n + i → slice_get rest i ≡ Some p → ((s : Sample) → In p.samples s → s.point < m)
        → sampled_from counts now n rest kept m ≡ (if begins counts (sampled_from counts now n rest kept) p then now p.port else kept m)
    at_point n i m [] kept p same e low = absurd cc
    at_point n zero m (x ∷ rest) kept p same e low =
        let is : x ≡ p = same_point x p e in
        let at_it : m ≡ n = omega arith in
        let all = sampled_from counts now (suc n) rest (also kept n x) in
        let before_it : (s : Sample) → In p.samples s → kept s.point ≡ all s.point = λ s j.
        let l : s.point < m = low s j in
        sym (stays (suc n) rest (also kept n x) s.point (omega arith) ∙ ap (λ (b : Bool). if b then (if begins counts kept x then now x.port else kept n) else kept s.point) (ne_eqb s.point n (λ f. omega arith))) in
        stays (suc n) rest (also kept n x) m (omega arith)
        ∙ ap (λ (b : Bool). if b then (if begins counts kept x then now x.port else kept n) else kept m) (eq-eqb m n at_it)
        ∙ ap (λ (q : PlainPoint). if begins counts kept q then now q.port else kept n) is
        ∙ ap (λ k. if begins counts kept p then now p.port else kept k) (sym at_it)
        ∙ ap (λ b. if b && is_at p.at (counts p.timer) then now p.port else kept m) (wanted_same kept all p.samples before_it)
    at_point n (suc i) m (x ∷ rest) kept p same e low =
        let all = sampled_from counts now (suc n) rest (also kept n x) in
        at_point (suc n) i m rest (also kept n x) p (omega arith) e low
        ∙ ap (λ k. if begins counts all p then now p.port else k)
        (ap (λ (b : Bool). if b then (if begins counts kept x then now x.port else kept n) else kept m) (ne_eqb m n (λ f. omega arith)))

    takes_so : (c a b : Bool) → (if c then a else b) ≡ taken a b (if c then Some 0 else None)
    takes_so true a b = refl
    takes_so false a b = refl

    pub point_takes : (list : List PlainPoint) (kept : Samples) (m : ℕ) (p : PlainPoint) → slice_get list m ≡ Some p → ((s : Sample) → In p.samples s → s.point < m)
        → sampled_from counts now 0 list kept m ≡ taken (now p.port) (kept m) (live_in counts (sampled_from counts now 0 list kept) (begin_at p.timer p.at p.samples) 1)
    point_takes list kept m p e low =
        let all = sampled_from counts now 0 list kept in
        at_point 0 m m list kept p (omega arith) e low ∙ takes_so (begins counts all p) (now p.port) (kept m) ∙ ap (taken (now p.port) (kept m)) (sym (point_so all p))

  -- THE OCCURRENCES
  pub active_so : (kept : Samples) (list : List PlainOccurrence) (other : List PlainOccurrence → List Entry) → other [] ≡ []
      → ((o : PlainOccurrence) (rest : List PlainOccurrence) → other (o ∷ rest) ≡ by_live (live_in counts kept (begin_at o.timer o.from o.samples) (o.to - o.from)) (entry_at o.group) ++ other rest)
      → active_among counts kept list ≡ other list
  active_so kept [] other none more = sym none
  active_so kept (o ∷ rest) other none more =
      ap₂ (λ xs ys. xs ++ ys)
      (entry_live (all_wanted kept o.samples) o.group o.from o.to (counts o.timer) ∙ ap (λ b. by_live (where_so b (range_in o.from (o.to - o.from) (counts o.timer))) (entry_at o.group)) (wanted_so kept o.samples))
      (active_so kept rest other none more)
      ∙ sym (more o rest)

  -- THE POINTS that begin
  ports_so : (c : Bool) (port : PortRef) (rest : List PortRef) → port_if c port rest ≡ by_live (if c then Some 0 else None) (port_at port) ++ rest
  ports_so true port rest = refl
  ports_so false port rest = refl

  pub begun_so : (kept : Samples) (list : List PlainPoint) (other : List PlainPoint → List PortRef) → other [] ≡ []
      → ((p : PlainPoint) (rest : List PlainPoint) → other (p ∷ rest) ≡ by_live (live_in counts kept (begin_at p.timer p.at p.samples) 1) (port_at p.port) ++ other rest)
      → begun_among counts kept list ≡ other list
  begun_so kept [] other none more = sym none
  begun_so kept (p ∷ rest) other none more =
      ports_so (begins counts kept p) p.port (begun_among counts kept rest)
      ∙ ap₂ (λ o ys. by_live o (port_at p.port) ++ ys) (sym (point_so kept p)) (begun_so kept rest other none more)
      ∙ sym (more p rest)
