-- A STATIC SEQ OF ENABLES runs as a chain: in each of its cycles one group is active, at the offset since its own first cycle.
use Rattle.std.specs.Prelude.{◌≡◌, ℕ, zero, suc, ◌+◌, ◌-◌, ◌<◌, ◌≤◌, ◌&&◌, nat_le, nat_lt, Bool, true, false, List, [], ◌∷◌, refl}
use Rattle.std.proofs.Common.{subst, ap, ◌∙◌, arith}
use Rattle.std.proofs.lemmas.Bool.Decides.{nat_tests}
use Rattle.cx_meaning.specs.Instances.{Instance, State, idle}
use Rattle.cx_meaning.specs.Active.{Entry, entries}
use Rattle.cx_meaning.specs.Sights.{Held, seen}
use Rattle.cx_meaning.specs.Cycles.{Fault, cycle}
use Rattle.cx_meaning.specs.Answers.{after_turns, Answer, Meaning, Turn, Ends, Goes, Faults, turn_then, More}
use Rattle.cx_meaning.specs.Active.{nothing}
use Rattle.cx_meaning.specs.Islands.{History, Occurrence, Runs, active_in, looked_at, entry_if, hold, and_now, first_unclear, unless_unclear, turn_of, island_turn, island_from}
use Rattle.cx_promotion.proofs.Chains.{cycles, chain, total}

module _ (len : ℕ → ℕ) where
  abbrev pub runs_of : List ℕ → ℕ → List Occurrence
  runs_of [] x = []
  runs_of (g ∷ gs) x = Runs g x (x + len g) [] ∷ runs_of gs (x + len g)

  abbrev pub entry : ℕ → ℕ → Entry
  entry g o = record { group = g; offset = o }

  left_out : (b : Bool) (g o : ℕ) (rest : List Entry) → b ≡ false → entry_if b g o rest ≡ rest
  left_out b g o rest e = ap (λ x. entry_if x g o rest) e

  put_in : (b : Bool) (g o : ℕ) (rest : List Entry) → b ≡ true → entry_if b g o rest ≡ entry g o ∷ rest
  put_in b g o rest e = ap (λ x. entry_if x g o rest) e

  -- no group is active before its first cycle
  quiet_before : (h : History) (t x : ℕ) (gs : List ℕ) → t < x → active_in h t (runs_of gs x) ≡ []
  quiet_before h t x [] before = refl
  quiet_before h t x (g ∷ gs) before =
      let off : (nat_le x t && nat_lt t (x + len g) && hold h []) ≡ false = grind (arith, nat_tests) in
      left_out (nat_le x t && nat_lt t (x + len g) && hold h []) g (t - x) (active_in h t (runs_of gs (x + len g))) off
      ∙ quiet_before h t (x + len g) gs (omega arith)

  no_looks : (h : History) (t x : ℕ) (gs : List ℕ) → looked_at h t (runs_of gs x) ≡ []
  no_looks h t x [] = refl
  no_looks h t x (g ∷ gs) = no_looks h t (x + len g) gs

  -- from cycle x on a list is as these groups
  pub record IsAs (list : List Occurrence) (x : ℕ) (gs : List ℕ) : Type 0 where
    pub active : (h : History) (t : ℕ) → x ≤ t → active_in h t list ≡ active_in h t (runs_of gs x)
    pub looked : (h : History) (t : ℕ) → looked_at h t list ≡ []

  -- in the cycles of its first group that one alone is active
  pub active_now : (list : List Occurrence) (x g : ℕ) (gs : List ℕ) → IsAs list x (g ∷ gs) → (h : History) (o : ℕ) → o < len g → active_in h (x + o) list ≡ entry g o ∷ []
  active_now list x g gs is h o within =
      let on : (nat_le x (x + o) && nat_lt (x + o) (x + len g) && hold h []) ≡ true = grind (arith, nat_tests) in
      let at : (x + o) - x ≡ o = omega arith in
      is.active h (x + o) (omega arith)
      ∙ put_in (nat_le x (x + o) && nat_lt (x + o) (x + len g) && hold h []) g ((x + o) - x) (active_in h (x + o) (runs_of gs (x + len g))) on
      ∙ ap (λ k. entry g k ∷ active_in h (x + o) (runs_of gs (x + len g))) at
      ∙ ap (λ rest. entry g o ∷ rest) (quiet_before h (x + o) (x + len g) gs (omega arith))

  -- behind them the list is as the later groups
  pub is_as_later : (list : List Occurrence) (x g : ℕ) (gs : List ℕ) → IsAs list x (g ∷ gs) → IsAs list (x + len g) gs
  is_as_later list x g gs is = record {
    active = λ h t behind.
        let off : (nat_le x t && nat_lt t (x + len g) && hold h []) ≡ false = grind (arith, nat_tests) in
        is.active h t (omega arith) ∙ left_out (nat_le x t && nat_lt t (x + len g) && hold h []) g (t - x) (active_in h t (runs_of gs (x + len g))) off;
    looked = is.looked;
  }

  module _ (i : Instance) (held : Held) where
    abbrev pub one_cycle : ℕ → ℕ → State → Turn State Fault
    one_cycle g o s = turn_of (cycle i held (entries (entry g o ∷ [])) s)

    turn_same : (s : State) (x : Turn State Fault) (f g : State → Answer State Fault) → ((after : State) → f after ≡ g after) → turn_then (idle i) s x f ≡ turn_then (idle i) s x g
    turn_same s Ends f g same = refl
    turn_same s (Goes after) f g same = ap (after_turns 1) (same after)
    turn_same s (Faults fault) f g same = refl

    turn_is : (list : List Occurrence) (x g : ℕ) (gs : List ℕ) → IsAs list x (g ∷ gs) → (h : History) (o : ℕ) → o < len g → (s : State) → island_turn i held list (x + o) h s ≡ one_cycle g o s
    turn_is list x g gs is h o within s =
        ap (λ ports. unless_unclear (first_unclear (seen i held nothing s) ports) (cycle i held (entries (active_in h (x + o) list)) s)) (is.looked h (x + o))
        ∙ ap (λ es. turn_of (cycle i held (entries es) s)) (active_now list x g gs is h o within)

    abbrev pub sum_of : List ℕ → ℕ
    sum_of gs = total len gs

    abbrev pub link : List ℕ → Meaning State Fault
    link gs = chain (idle i) one_cycle len gs

    abbrev pub part_of_link : ℕ → ℕ → ℕ → Meaning State Fault → Meaning State Fault
    part_of_link g k o go = cycles (idle i) one_cycle len g k o go

    abbrev pub RunsAs : List Occurrence → ℕ → List ℕ → Type 0
    RunsAs list x gs = (before : History) (s : State) (n : ℕ) → island_from i held list (sum_of gs) x before s n ≡ link gs s n

    -- from any cycle of a group on, where the later groups are as the chain
    in_group : (list : List Occurrence) (x g : ℕ) (gs : List ℕ) (k o : ℕ) → IsAs list x (g ∷ gs) → RunsAs list (x + len g) gs → o + k ≡ len g → (before : History) (s : State) (n : ℕ)
        → island_from i held list (k + sum_of gs) (x + o) before s n ≡ part_of_link g k o (link gs) s n
    in_group list x g gs zero o is later all before s n =
        let left : sum_of gs ≡ 0 + sum_of gs = omega arith in
        let at : x + len g ≡ x + o = omega arith in
        subst (λ y. island_from i held list (0 + sum_of gs) y before s n ≡ link gs s n) at
        (subst (λ y. island_from i held list y (x + len g) before s n ≡ link gs s n) left (later before s n))
    in_group list x g gs (suc k) o is later all before s zero =
        let left : suc (k + sum_of gs) ≡ suc k + sum_of gs = omega arith in
        subst (λ y. island_from i held list y (x + o) before s zero ≡ More) left refl
    in_group list x g gs (suc k) o is later all before s (suc n) =
        let left : suc (k + sum_of gs) ≡ suc k + sum_of gs = omega arith in
        let next : x + suc o ≡ suc (x + o) = omega arith in
        let h : History = and_now before (x + o) (seen i held nothing s) in
        let go : State → Answer State Fault = λ after. island_from i held list (k + sum_of gs) (suc (x + o)) h after n in
        let more : State → Answer State Fault = λ after. part_of_link g k (suc o) (link gs) after n in
        let same : (after : State) → go after ≡ more after = λ after.
        subst (λ y. island_from i held list (k + sum_of gs) y h after n ≡ more after) next (in_group list x g gs k (suc o) is later (omega arith) h after n) in
        subst (λ y. island_from i held list y (x + o) before s (suc n) ≡ turn_then (idle i) s (one_cycle g o s) more) left
        (ap (λ y. turn_then (idle i) s y go) (turn_is list x g gs is h o (omega arith) s) ∙ turn_same s (one_cycle g o s) go more same)

    -- THE ISLAND IS THE CHAIN
    pub island_is_chain : (list : List Occurrence) (x : ℕ) (gs : List ℕ) → IsAs list x gs → RunsAs list x gs
    island_is_chain list x [] is before s n = refl
    island_is_chain list x (g ∷ gs) is before s n =
        let from : x + 0 ≡ x = omega arith in
        subst (λ y. island_from i held list (len g + sum_of gs) y before s n ≡ part_of_link g (len g) 0 (link gs) s n) from
        (in_group list x g gs (len g) 0 is (island_is_chain list (x + len g) gs (is_as_later list x g gs is)) (omega arith) before s n)

    -- a static seq of enables of these groups
    pub runs_are : (gs : List ℕ) (x : ℕ) → IsAs (runs_of gs x) x gs
    runs_are gs x = record { active = λ h t from. refl; looked = λ h t. no_looks h t x gs }
