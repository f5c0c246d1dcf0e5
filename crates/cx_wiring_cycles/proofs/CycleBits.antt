-- What the bits of an island's wires say in a cycle: whether a timer runs, a static if begins, an enable is active.
use Rattle.std.proofs.Common.{◌≡◌, ℕ, ◌-◌, ◌%◌, ⊎_elim, ◌&&◌, ◌==◌, not, nat_le, nat_lt, Bool, true, false, if◌then◌else◌, Option, Some, None, refl, sym, ap, ◌∙◌, arith}
use Rattle.std.proofs.lemmas.Bool.{cases_lt, lt-ltb, le-ltb, lt-leb, le-leb, eq-eqb, ne_eqb}
use Rattle.cx_control.specs.Sampling.{where_so, taken}
use Rattle.cx_wiring.specs.TimerCounts.{nested}
use Rattle.cx_wiring_cycles.proofs.IslandOffsets.{range_in, Lies, lies, before, in_it, behind, at_before, at_in, at_behind}
use Rattle.cx_text.proofs.BoolLaws.{and_false}

-- a count that is there
abbrev pub is_there : Option ℕ → Bool
is_there None = false
is_there (Some c) = true

not_less : (d from : ℕ) → not (nat_lt d from) ≡ nat_le from d
not_less d from = ⊎_elim (λ l. ap not (lt-ltb d from l) ∙ sym (lt-leb from d l)) (λ l. ap not (le-ltb d from l) ∙ sym (le-leb from d l)) (cases_lt d from)

-- A TIMER WITHIN runs in its range of the timer around it
pub nested_there : (from to p c : ℕ) (o : Option ℕ) → ((d : ℕ) → o ≡ Some d → c ≡ d) → is_there o && (not (nat_lt c from) && (nat_lt c to && true)) ≡ is_there (nested from to p o)
nested_there from to p c None e = refl
nested_there from to p c (Some d) e =
    ap (λ n. not (nat_lt n from) && (nat_lt n to && true)) (e d refl) ∙ ap (λ b. b && (nat_lt d to && true)) (not_less d from) ∙ by (nat_le from d) (nat_lt d to)
  where
    by : (a b : Bool) → (a && (b && true)) ≡ is_there (if a && b then Some ((d - from) % p) else None)
    by true true = refl
    by true false = refl
    by false b = refl

nothing_taken : (w now kept : Bool) → taken now kept (where_so w None) ≡ kept
nothing_taken true now kept = refl
nothing_taken false now kept = refl

-- A STATIC IF takes its port where it begins
pub taken_there : (at c : ℕ) (w now kept : Bool) (o : Option ℕ) → ((d : ℕ) → o ≡ Some d → c ≡ d) → (if is_there o && ((c == at) && w) then now else kept) ≡ taken now kept (where_so w (range_in at 1 o))
taken_there at c w now kept None e = sym (nothing_taken w now kept)
taken_there at c w now kept (Some d) e = ap (λ n. if (n == at) && w then now else kept) (e d refl) ∙ by (lies at 1 d)
  where
    apart : (d ≡ at → ⊥) → range_in at 1 (Some d) ≡ None → (if (d == at) && w then now else kept) ≡ taken now kept (where_so w (range_in at 1 (Some d)))
    apart f g = ap (λ b. if b && w then now else kept) (ne_eqb d at f) ∙ sym (ap (λ r. taken now kept (where_so w r)) g ∙ nothing_taken w now kept)

    begins : (b : Bool) → (if b then now else kept) ≡ taken now kept (where_so b (Some 0))
    begins true = refl
    begins false = refl

    by : Lies at 1 d → (if (d == at) && w then now else kept) ≡ taken now kept (where_so w (range_in at 1 (Some d)))
    by (before l) = apart (λ s. omega arith) (at_before at 1 d l)
    by (behind l f) = apart (λ s. omega arith) (at_behind at 1 d l f)
    by (in_it l f) =
        let none : d - at ≡ 0 = omega arith in
        ap (λ b. if b && w then now else kept) (eq-eqb d at (omega arith)) ∙ begins w ∙ sym (ap (λ r. taken now kept (where_so w r)) (at_in at 1 d l f ∙ ap Some none))

-- AN ENABLE is active at an offset of its range
pub active_there : (from to c : ℕ) (w : Bool) (o : Option ℕ) → ((d : ℕ) → o ≡ Some d → c ≡ d) → is_there o && (not (nat_lt c from) && (nat_lt c to && w)) ≡ is_there (where_so w (range_in from (to - from) o))
active_there from to c w None e = by w
  where
    by : (b : Bool) → false ≡ is_there (where_so b None)
    by true = refl
    by false = refl
active_there from to c w (Some d) e =
    ap (λ n. not (nat_lt n from) && (nat_lt n to && w)) (e d refl) ∙ ap (λ b. b && (nat_lt d to && w)) (not_less d from) ∙ by (lies from (to - from) d)
  where
    none : (b : Bool) → false ≡ is_there (where_so b None)
    none true = refl
    none false = refl

    some : (b : Bool) → b ≡ is_there (where_so b (Some (d - from)))
    some true = refl
    some false = refl

    by : Lies from (to - from) d → (nat_le from d && (nat_lt d to && w)) ≡ is_there (where_so w (range_in from (to - from) (Some d)))
    by (before l) = ap (λ b. b && (nat_lt d to && w)) (lt-leb from d l) ∙ none w ∙ ap (λ r. is_there (where_so w r)) (sym (at_before from (to - from) d l))
    by (behind l f) =
        ap (λ b. nat_le from d && (b && w)) (le-ltb d to (omega arith)) ∙ and_false (nat_le from d) ∙ none w ∙ ap (λ r. is_there (where_so w r)) (sym (at_behind from (to - from) d l f))
    by (in_it l f) =
        ap (λ b. b && (nat_lt d to && w)) (le-leb from d l) ∙ ap (λ b. b && w) (lt-ltb d to (omega arith)) ∙ some w ∙ ap (λ r. is_there (where_so w r)) (sym (at_in from (to - from) d l f))
