-- Where an arm has a fault alone, the run of the whole has a fault, no later.
use Rattle.std.proofs.Common.{◌≡◌, ℕ, zero, suc, ◌+◌, ◌-◌, ◌≤◌, ◌<◌, ◌⊎◌, inl, inr, Bool, true, false, nat_le, if◌then◌else◌, List, [], ◌∷◌, length, Option, Some, None, refl, sym, ap, ◌∙◌, subst, arith}
use Rattle.std.proofs.lemmas.Bool.{leb-true, leb-false}
use Rattle.cx_text.specs.Members.{In}
use Rattle.cx_text.specs.declared.places.Place.{Place}
use Rattle.cx_meaning.specs.declared.ports.PlacedPort.{PlacedPort}
use Rattle.cx_meaning.specs.declared.kinds.GroupKind.{GroupKind}
use Rattle.cx_meaning.specs.declared.kinds.GroupKind.TheVariants as kinds
use Rattle.cx_meaning.specs.Designs.{PlainDesign, PlainComponent, group_at, Enable, Seq, Par, If, While, Repeat, PlainStatement, Placed, PlainStatements, no_statements, a_statement, list_of}
use Rattle.cx_meaning.specs.Instances.{Instance, Node, OfInstance, cell_at, cells_of, Cells, part_of, Path, State, instance_at, child_at, start, tree_of, under, idle, merge}
use Rattle.cx_meaning.specs.Sights.{Held, unheld}
use Rattle.cx_meaning.specs.Cycles.{Fault}
use Rattle.cx_meaning.specs.Answers.{Answer, End, Meaning, after_turns, then_do, stay, idle_turn, Test, Holds, Fails, chosen, test_turn, loop, rounds, both}
use Rattle.cx_meaning.specs.Answers as answers
use Rattle.cx_meaning.specs.Budgets.{Beyond, Grows}
use Rattle.cx_meaning.specs.Control.{drives, run, run_arms}
use Rattle.cx_meaning.specs.Calls.{called, captures, fault_below, inputs_of_call, lift_answer, test, after_child, call, call_or_turns, enable_kind}
use Rattle.cx_meaning.specs.Running.{leaves, run_main, run_control, run_statement, control_below}
use Rattle.cx_meaning.proofs.RunningLemmas.{steady_statement, child_runs}
use Rattle.cx_frames.proofs.AlikeLemmas.{a_fault}
use Rattle.cx_orders.specs.Open.{Open}
use Rattle.cx_orders.specs.Steps.{inputs_seen, held_as}
use Rattle.cx_orders.specs.Alone.{if_dynamic, HasAlone, LeafHasAlone, own, of_arm, of_first, behind_first, of_then, of_else, of_body, behind_body, of_round, behind_round, of_child}
use Rattle.cx_orders.specs.Woven.{Choices}
use Rattle.cx_orders.proofs.Runs.{first_at}
use Rattle.cx_meaning.proofs.InstancesLemmas.{here, child_is}

-- a run that has a fault in one of its first turns
abbrev pub Faulty : Answer State Fault → ℕ → Type 0
Faulty x m = (f : Fault) × (t : ℕ) × (x ≡ answers.Fault f t) × (t ≤ m)

later_faulty : (x : Answer State Fault) (k m : ℕ) → Faulty x m → Faulty (after_turns k x) (k + m)
later_faulty x k m (f, t, e, less) = (f, k + t, ap (after_turns k) e, omega arith)

later_one : (x : Answer State Fault) (m : ℕ) → Faulty x m → Faulty (after_turns 1 x) (suc m)
later_one x m (f, t, e, less) = (f, 1 + t, ap (after_turns 1) e, omega arith)

-- one run, and then another
first_faulty : (x : Answer State Fault) (m n : ℕ) (go : Meaning State Fault) → Faulty x m → Faulty (then_do x n go) m
first_faulty x m n go (f, t, e, less) = (f, t, ap (λ y. then_do y n go) e, less)

then_faulty : (x : Answer State Fault) (middle : State) (u m n : ℕ) (go : Meaning State Fault) → x ≡ End middle u → Faulty (go middle (n - u)) m → Faulty (then_do x n go) (u + m)
then_faulty x middle u m n go e h = subst (λ y. Faulty (then_do y n go) (u + m)) (sym e) (later_faulty (go middle (n - u)) u m h)

-- two arms
earlier : (f g : Fault) (t u m : ℕ) → t ≤ m ⊎ u ≤ m → (b : Bool) → nat_le t u ≡ b → Faulty (if b then a_fault f t else a_fault g u) m
earlier f g t u m (inl h) true e = (f, t, refl, h)
earlier f g t u m (inl h) false e = let less : u < t = leb-false t u e in (g, u, refl, omega arith)
earlier f g t u m (inr h) true e = let less : t ≤ u = leb-true t u e in (f, t, refl, omega arith)
earlier f g t u m (inr h) false e = (g, u, refl, h)

both_first : (merged : State → State → State) (x y : Answer State Fault) (m : ℕ) → Faulty x m → Faulty (both merged x y) m
both_first merged x y m (f, t, e, less) = subst (λ z. Faulty (both merged z y) m) (sym e) (one y)
  where
    one : (w : Answer State Fault) → Faulty (both merged (answers.Fault f t) w) m
    one (End b u) = (f, t, refl, less)
    one (answers.Fault g u) = earlier f g t u m (inl less) (nat_le t u) refl
    one answers.More = (f, t, refl, less)

both_second : (merged : State → State → State) (x y : Answer State Fault) (m : ℕ) → Faulty y m → Faulty (both merged x y) m
both_second merged x y m (g, u, e, less) = subst (λ z. Faulty (both merged x z) m) (sym e) (one x)
  where
    one : (w : Answer State Fault) → Faulty (both merged w (answers.Fault g u)) m
    one (End b t) = (g, u, refl, less)
    one (answers.Fault f t) = earlier f g t u m (inr less) (nat_le t u) refl
    one answers.More = (g, u, refl, less)

-- AN ANSWER within another budget that suffices
abbrev Suffices : Answer State Fault → ℕ → Type 0
Suffices (End s t) n = t ≤ n
Suffices (answers.Fault f t) n = t < n
Suffices answers.More n = ⊥

not_beyond : (a : Answer State Fault) (n : ℕ) → Suffices a n → Beyond n a → ⊥
not_beyond (End s t) n enough h = absurd (omega arith)
not_beyond (answers.Fault f t) n enough h = absurd (omega arith)
not_beyond answers.More n enough h = enough

with_more : (a x y : Answer State Fault) (k n : ℕ) → Suffices a n → x ≡ a → Grows k x y → y ≡ a
with_more a (End s t) y k n enough e h = h.1 ∙ e
with_more a (answers.Fault f t) y k n enough e h = h.1 ∙ e
with_more a answers.More y k n enough e h = absurd (subst (λ z. Suffices z n) (sym e) enough)

with_less : (a x y : Answer State Fault) (k n : ℕ) → Suffices a n → y ≡ a → Grows n x y → x ≡ a
with_less a (End s t) y k n enough e h = sym h.1 ∙ e
with_less a (answers.Fault f t) y k n enough e h = sym h.1 ∙ e
with_less a answers.More y k n enough e h = absurd (not_beyond a n enough (subst (Beyond n) e h))

in_budget : (i : Instance) (held : Held) (st : PlainStatement) (s : State) (a : Answer State Fault) (k n : ℕ) → Suffices a n → run_statement i held st s k ≡ a → run_statement i held st s n ≡ a
in_budget i held st s a k n enough e = go (nat_le k n) refl
  where
    go : (b : Bool) → nat_le k n ≡ b → run_statement i held st s n ≡ a
    go true le = with_more a (run_statement i held st s k) (run_statement i held st s n) k n enough e (steady_statement i held st s k n (leb-true k n le))
    go false le = let less : n < k = leb-false k n le in with_less a (run_statement i held st s n) (run_statement i held st s k) k n enough e (steady_statement i held st s n k (omega arith))

-- A LOOP, whose tests make no difference once they exceed the budget
module _ (rest : State → State) (tests : State → Test Fault) (body : Meaning State Fault) where
  behind_same : (few many : ℕ) (x : Answer State Fault) (n : ℕ) → ((s : State) (k : ℕ) → k ≤ n → loop few rest tests body s k ≡ loop many rest tests body s k)
      → then_do x n (loop few rest tests body) ≡ then_do x n (loop many rest tests body)
  behind_same few many (End s u) n same = ap (after_turns u) (same s (n - u) (omega arith))
  behind_same few many (answers.Fault f t) n same = refl
  behind_same few many answers.More n same = refl

  loops_same : (few many : ℕ) (s : State) (n : ℕ) → n < few → n < many → loop few rest tests body s n ≡ loop many rest tests body s n
  loops_same zero many s n less more = absurd (omega arith)
  loops_same (suc few) zero s n less more = absurd (omega arith)
  loops_same (suc few) (suc many) s zero less more = refl
  loops_same (suc few) (suc many) s (suc n) less more =
      ap (λ x. chosen (tests s) x (stay (rest s) n)) (behind_same few many (body (rest s) n) n (λ after k within. loops_same few many after k (omega arith) (omega arith)))

control_is : (i : Instance) (held : Held) (s : State) (n : ℕ) → run_statement i held (part_of i).control s n ≡ run_control i held s n
control_is (Node part cells) held s n = refl

-- what an instance does depends on the inputs that its component has
abbrev OwnSuffice : Instance → Type 0
OwnSuffice i = (held other : Held) (s : State) (n : ℕ) → ((input : ℕ) → input < length (part_of i).inputs → held input ≡ other input) → run_control i held s n ≡ run_control i other s n

abbrev pub AllSuffice : Instance → Type 0
AllSuffice i = (path : Path) → OwnSuffice (instance_at i path)

all_below : (part : PlainComponent) (cells : Cells) (c : ℕ) (child : Instance) → cell_at cells c ≡ OfInstance child → AllSuffice (Node part cells) → AllSuffice child
all_below part cells c child e all path = subst OwnSuffice (child_is cells c child e path) (all (c ∷ path))

below_all : (i : Instance) (c : ℕ) (child : Instance) → cell_at (cells_of i) c ≡ OfInstance child → AllSuffice i → AllSuffice child
below_all (Node part cells) c child e all = all_below part cells c child e all

-- PARTS of statements, one for each way to a fault
module _ (i : Instance) (held : Held) (place : Place) where
  arm_faulty : (arms : PlainStatements) (s : State) (n t : ℕ) (arm : PlainStatement) → In (list_of arms) arm → Faulty (run_statement i held arm s n) t → Faulty (run_statement i held (Placed (Par arms) place) s n) t
  arm_faulty arms s n t arm there h = go i held arms there h
    where
      among : (part : PlainComponent) (cells : Cells) (held : Held) (arms : PlainStatements) → In (list_of arms) arm → Faulty (run (leaves (Node part cells) (control_below cells) held) arm s n) t → Faulty (run_arms (leaves (Node part cells) (control_below cells) held) arms s n) t
      among part cells held no_statements there h = absurd there
      among part cells held (a_statement x xs) (inl same) h =
          both_first (merge (drives part x)) _ _ t (subst (λ y. Faulty (run (leaves (Node part cells) (control_below cells) held) y s n) t) (sym same) h)
      among part cells held (a_statement x xs) (inr there) h = both_second (merge (drives part x)) _ _ t (among part cells held xs there h)

      go : (i : Instance) (held : Held) (arms : PlainStatements) → In (list_of arms) arm → Faulty (run_statement i held arm s n) t → Faulty (run_statement i held (Placed (Par arms) place) s n) t
      go (Node part cells) held no_statements there h = absurd there
      go (Node part cells) held (a_statement x xs) there h = among part cells held (a_statement x xs) there h

seq_first : (i : Instance) (held : Held) (first : PlainStatement) (later : PlainStatements) (place : Place) (s : State) (n t : ℕ) → Faulty (run_statement i held first s n) t
    → Faulty (run_statement i held (Placed (Seq (a_statement first later)) place) s n) t
seq_first (Node part cells) held first later place s n t h = first_faulty _ t n _ h

no_end : (s : State) (u t : ℕ) → Faulty (End s u) t → ⊥
no_end s u t (f, v, e, less) = absurd (let h : End s u ≡ answers.Fault f v = e in end_fault f v h)
  where
    end_fault : (f : Fault) (v : ℕ) → End s u ≡ answers.Fault f v → ⊥
    end_fault f v e = cc

more_fault : (x : Answer State Fault) (f : Fault) (v : ℕ) → x ≡ answers.More → x ≡ answers.Fault f v → ⊥
more_fault x f v same e = cc

no_more : (t : ℕ) → Faulty answers.More t → ⊥
no_more t (f, v, e, less) = more_fault answers.More f v refl e

idle_faultless : (rest : State → State) (s : State) (n t : ℕ) → Faulty (idle_turn rest s n) t → ⊥
idle_faultless rest s zero t h = no_more t h
idle_faultless rest s (suc n) t h = no_end (rest s) 1 t h

seq_later : (i : Instance) (held : Held) (first : PlainStatement) (later : PlainStatements) (place : Place) (s middle : State) (n u t : ℕ) → run_statement i held first s n ≡ End middle u
    → Faulty (run_statement i held (Placed (Seq later) place) middle (n - u)) t → Faulty (run_statement i held (Placed (Seq (a_statement first later)) place) s n) (u + t)
seq_later (Node part cells) held first no_statements place s middle n u t e h = absurd (idle_faultless (idle (Node part cells)) middle (n - u) t h)
seq_later (Node part cells) held first (a_statement next rest) place s middle n u t e h = then_faulty _ middle u t n _ e h

round_first : (i : Instance) (held : Held) (count : ℕ) (a : PlainStatement) (place : Place) (s : State) (n t : ℕ) → Faulty (run_statement i held a s n) t
    → Faulty (run_statement i held (Placed (Repeat (suc count) a) place) s n) t
round_first (Node part cells) held count a place s n t h = first_faulty _ t n _ h

round_later : (i : Instance) (held : Held) (count : ℕ) (a : PlainStatement) (place : Place) (s middle : State) (n u t : ℕ) → run_statement i held a s n ≡ End middle u
    → Faulty (run_statement i held (Placed (Repeat count a) place) middle (n - u)) t → Faulty (run_statement i held (Placed (Repeat (suc count) a) place) s n) (u + t)
round_later (Node part cells) held zero a place s middle n u t e h = absurd (idle_faultless (idle (Node part cells)) middle (n - u) t h)
round_later (Node part cells) held (suc count) a place s middle n u t e h = then_faulty _ middle u t n _ e h

then_turn : (i : Instance) (held : Held) (port : PlacedPort) (comb : Option ℕ) (a b : PlainStatement) (place : Place) (s : State) (n t : ℕ) → test i held port.port comb s ≡ Holds
    → Faulty (run_statement i held a (idle i s) n) t → Faulty (run_statement i held (Placed (If port comb a b) place) s (suc n)) (suc t)
then_turn (Node part cells) held port comb a b place s n t e h =
    subst (λ x. Faulty (chosen x (run_statement (Node part cells) held a (idle (Node part cells) s) n) (run_statement (Node part cells) held b (idle (Node part cells) s) n)) (suc t)) (sym e) (later_one _ t h)

else_turn : (i : Instance) (held : Held) (port : PlacedPort) (comb : Option ℕ) (a b : PlainStatement) (place : Place) (s : State) (n t : ℕ) → test i held port.port comb s ≡ Fails
    → Faulty (run_statement i held b (idle i s) n) t → Faulty (run_statement i held (Placed (If port comb a b) place) s (suc n)) (suc t)
else_turn (Node part cells) held port comb a b place s n t e h =
    subst (λ x. Faulty (chosen x (run_statement (Node part cells) held a (idle (Node part cells) s) n) (run_statement (Node part cells) held b (idle (Node part cells) s) n)) (suc t)) (sym e) (later_one _ t h)

module _ (part : PlainComponent) (cells : Cells) (held : Held) (port : PlacedPort) (comb : Option ℕ) (a : PlainStatement) (place : Place) where
  abbrev Tests : State → Test Fault
  Tests s = test (Node part cells) held port.port comb s

  abbrev Body : Meaning State Fault
  Body = run (leaves (Node part cells) (control_below cells) held) a

  abbrev Looping : ℕ → Meaning State Fault
  Looping tests = loop tests (idle (Node part cells)) Tests Body

  loop_body : (s : State) (n t : ℕ) → Tests s ≡ Holds → Faulty (Body (idle (Node part cells) s) n) t → Faulty (Looping (suc (suc n)) s (suc n)) (suc t)
  loop_body s n t e h =
      subst (λ x. Faulty (chosen x (then_do (Body (idle (Node part cells) s) n) n (Looping (suc n))) (stay (idle (Node part cells) s) n)) (suc t)) (sym e)
      (later_one _ t (first_faulty (Body (idle (Node part cells) s) n) t n (Looping (suc n)) h))

  loop_later : (s middle : State) (n u t : ℕ) → u ≤ n → Tests s ≡ Holds → Body (idle (Node part cells) s) n ≡ End middle u → Faulty (Looping (suc (n - u)) middle (n - u)) t → Faulty (Looping (suc (suc n)) s (suc n)) (suc (u + t))
  loop_later s middle n u t few e ended h =
      let less : n - u < suc (n - u) = omega arith in
      let more : n - u < suc n = omega arith in
      subst (λ x. Faulty (chosen x (then_do (Body (idle (Node part cells) s) n) n (Looping (suc n))) (stay (idle (Node part cells) s) n)) (suc (u + t))) (sym e)
      (later_one _ (u + t)
      (then_faulty (Body (idle (Node part cells) s) n) middle u t n (Looping (suc n)) ended
      (subst (λ x. Faulty x t) (loops_same (idle (Node part cells)) Tests Body (suc (n - u)) (suc n) middle (n - u) less more) h)))

body_turn : (i : Instance) (held : Held) (port : PlacedPort) (comb : Option ℕ) (a : PlainStatement) (place : Place) (s : State) (n t : ℕ) → test i held port.port comb s ≡ Holds
    → Faulty (run_statement i held a (idle i s) n) t → Faulty (run_statement i held (Placed (While port comb a) place) s (suc n)) (suc t)
body_turn (Node part cells) held port comb a place s n t e h = loop_body part cells held port comb a place s n t e h

body_later : (i : Instance) (held : Held) (port : PlacedPort) (comb : Option ℕ) (a : PlainStatement) (place : Place) (s middle : State) (n u t : ℕ) → u ≤ n → test i held port.port comb s ≡ Holds
    → run_statement i held a (idle i s) n ≡ End middle u → Faulty (run_statement i held (Placed (While port comb a) place) middle (n - u)) t
    → Faulty (run_statement i held (Placed (While port comb a) place) s (suc n)) (suc (u + t))
body_later (Node part cells) held port comb a place s middle n u t few e ended h = loop_later part cells held port comb a place s middle n u t few e ended h

-- A CALL
calls : (i : Instance) (below : ℕ → Held → Meaning State Fault) (held : Held) (g c : ℕ) (kind : GroupKind) (s : State) (n : ℕ) → if_dynamic kind (called i g) ≡ Some c → enable_kind i below held g kind s n ≡ call i below held g c s n
calls i below held g c kinds.Plain s n e = ap (λ o. call_or_turns i below held g o s n) e
calls i below held g c kinds.Comb s n e = ap (λ o. call_or_turns i below held g o s n) e
calls i below held g c (kinds.Timed length) s n e = absurd (none_some c e)
  where
    none_some : (c : ℕ) → None ≡ Some c → ⊥
    none_some c e = cc

lift_faulty : (c : ℕ) (s : State) (x : Answer State Fault) (t : ℕ) → Faulty x t → Faulty (lift_answer c s x) t
lift_faulty c s x t (f, u, e, less) = (fault_below c f, u, ap (lift_answer c s) e, less)

call_faulty : (i : Instance) (held : Held) (g : ℕ) (place : Place) (c : ℕ) (child : Instance) (s : State) (n t : ℕ) → AllSuffice i → if_dynamic (group_at (part_of i) g).kind (called i g) ≡ Some c → cell_at (cells_of i) c ≡ OfInstance child
    → Faulty (run_statement child (held_as (inputs_seen i held g c s)) (part_of child).control (under c s) n) t → Faulty (run_statement i held (Placed (Enable g) place) s n) t
call_faulty (Node part cells) held g place c child s n t all is there h =
    let inputs : Held = held_as (inputs_seen (Node part cells) held g c s) in
    let seen : Held = inputs_of_call (Node part cells) held g c s in
    let at : child_at cells c [] ≡ child = child_is cells c child there [] ∙ here child in
    let alike : (input : ℕ) → input < length (part_of child).inputs → inputs input ≡ seen input =
    subst (λ j. (input : ℕ) → input < length (part_of j).inputs → inputs input ≡ seen input) at (first_at seen (length (part_of (child_at cells c [])).inputs)) in
    let suffice : OwnSuffice child = subst OwnSuffice (here child) (all_below part cells c child there all []) in
    let same : run_statement child inputs (part_of child).control (under c s) n ≡ control_below cells c seen (under c s) n =
    control_is child inputs (under c s) n ∙ suffice inputs seen (under c s) n alike ∙ sym (child_runs cells c child there seen (under c s) n) in
    subst (λ x. Faulty x t) (sym (calls (Node part cells) (control_below cells) held g c (group_at part g).kind s n is))
    (first_faulty (lift_answer c s (control_below cells c seen (under c s) n)) t n (after_child (Node part cells) held g c (captures (Node part cells) g))
    (lift_faulty c s (control_below cells c seen (under c s) n) t (subst (λ x. Faulty x t) same h)))

-- A FAULT THAT AN ARM HAS ALONE
pub alone_faulty : {i : Instance} {held : Held} {st : PlainStatement} {s : State} {f : Fault} {t : ℕ} {o : Open} {l : ℕ} → HasAlone i held st s f t o l → AllSuffice i → (n : ℕ) → t < n → Faulty (run_statement i held st s n) t
alone_faulty (own {i} {held} {st} {s} {f} {t} k is e) all n less = (f, t, in_budget i held st s (answers.Fault f t) k n less e, omega arith)
alone_faulty (of_arm {i} {held} {arms} {place} {s} {f} {t} arm o m there within_arm h) all n less = arm_faulty i held place arms s n t arm there (alone_faulty h all n less)
alone_faulty (of_first {i} {held} {first} {later} {place} {s} {f} {t} h) all n less = seq_first i held first later place s n t (alone_faulty h all n less)
alone_faulty (behind_first {i} {held} {first} {later} {place} {s} {f} {t} k middle u e h) all n less =
    let enough : u ≤ n = omega arith in
    seq_later i held first later place s middle n u t (in_budget i held first s (End middle u) k n enough e) (alone_faulty h all (n - u) (omega arith))
alone_faulty (of_then {i} {held} {port} {comb} {a} {b} {place} {s} {f} {t} e h) all zero less = absurd (omega arith)
alone_faulty (of_then {i} {held} {port} {comb} {a} {b} {place} {s} {f} {t} e h) all (suc n) less = then_turn i held port comb a b place s n t e (alone_faulty h all n (omega arith))
alone_faulty (of_else {i} {held} {port} {comb} {a} {b} {place} {s} {f} {t} e h) all zero less = absurd (omega arith)
alone_faulty (of_else {i} {held} {port} {comb} {a} {b} {place} {s} {f} {t} e h) all (suc n) less = else_turn i held port comb a b place s n t e (alone_faulty h all n (omega arith))
alone_faulty (of_body {i} {held} {port} {comb} {a} {place} {s} {f} {t} e h) all zero less = absurd (omega arith)
alone_faulty (of_body {i} {held} {port} {comb} {a} {place} {s} {f} {t} e h) all (suc n) less = body_turn i held port comb a place s n t e (alone_faulty h all n (omega arith))
alone_faulty (behind_body {i} {held} {port} {comb} {a} {place} {s} {f} {t} k middle u e ended h) all zero less = absurd (omega arith)
alone_faulty (behind_body {i} {held} {port} {comb} {a} {place} {s} {f} {t} k middle u e ended h) all (suc n) less =
    let enough : u ≤ n = omega arith in
    body_later i held port comb a place s middle n u t enough e (in_budget i held a (idle i s) (End middle u) k n enough ended) (alone_faulty h all (n - u) (omega arith))
alone_faulty (of_round {i} {held} {count} {a} {place} {s} {f} {t} h) all n less = round_first i held count a place s n t (alone_faulty h all n less)
alone_faulty (behind_round {i} {held} {count} {a} {place} {s} {f} {t} k middle u e h) all n less =
    let enough : u ≤ n = omega arith in
    round_later i held count a place s middle n u t (in_budget i held a s (End middle u) k n enough e) (alone_faulty h all (n - u) (omega arith))
alone_faulty (of_child {i} {held} {g} {place} {s} {f} {t} c child is there h) all n less = call_faulty i held g place c child s n t all is there (alone_faulty h (below_all i c child there all) n less)

-- where the arm of a leaf has a fault alone, the run of main has one
pub leaf_faulty : (d : PlainDesign) (words : List (List ℕ)) (choice : Choices) (fault : Fault) (before : ℕ) → AllSuffice (tree_of d) → LeafHasAlone d words choice fault before
    → (first : Fault) × (turn : ℕ) × (run_main d words (suc before) ≡ answers.Fault first turn) × (turn ≤ before)
leaf_faulty d words choice fault before all (now, after, opens, (t, alone, less)) =
    let run = alone_faulty alone all (suc before) (omega arith) in
    let turn : run.1 ≤ t = run.3 in
    (run.0, run.1, subst (λ x. x ≡ answers.Fault run.0 run.1) (control_is (tree_of d) unheld (start (tree_of d) words) (suc before)) run.2, omega arith)
