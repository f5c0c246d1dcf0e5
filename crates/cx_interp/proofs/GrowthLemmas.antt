-- How counts grow: by tallies of the tree, and by what runs count one after another.
use Rattle.std.proofs.Common.{◌≡◌, ℕ, suc, ◌+◌, ◌-◌, ◌%◌, ◌^◌, ◌<◌, Bool, true, false, ⊎_elim, nat_eq, List, [], ◌∷◌, ◌++◌, length, get_or, Some, Ok, Option, refl, sym, ap, ◌∙◌, subst, arith, if◌then◌else◌}
use Rattle.std.proofs.Math.Path.{fun_ext}
use Rattle.std.proofs.lemmas.Bool.{cases_eq}
use Rattle.cx_meaning.specs.declared.ports.PortRef.{PortRef}
use Rattle.cx_meaning.specs.Designs.{PlainDesign}
use Rattle.cx_meaning.specs.Instances.{Instance, Path, State, idle, instance_at, tree_of}
use Rattle.cx_meaning.specs.Active.{Active}
use Rattle.cx_meaning.specs.Cycles.{Fault}
use Rattle.cx_meaning.specs.Sights.{Held}
use Rattle.cx_meaning.specs.Answers.{Answer}
use Rattle.cx_meaning.specs.Answers as answers
use Rattle.cx_meaning.specs.Calls.{test}
use Rattle.cx_rewrites.specs.Tallies as tallies
use Rattle.cx_rewrites.specs.Tallies.{Tally, none, plus, below, then_count, chosen_count, test_count}
use Rattle.cx_profiling.specs.Counting.{made_with, once}
use Rattle.cx_state.specs.Tables.{IsNumber}
use Rattle.cx_state.proofs.ChangeLemmas.{one_number}
use Rattle.cx_state.specs.States.{PlainInstance, inputs_held, under_path, put_path}
use Rattle.cx_frames.specs.Ran.{Ended, AnswersAs}
use Rattle.cx_turns.specs.Groups.{Driving}
use Rattle.cx_turns.specs.Tests.{Tested}
use Rattle.cx_turns.proofs.PathLemmas.{under_put, settled_under}
use Rattle.cx_text.proofs.NumberLaws.{equal, from_eq}
use Rattle.cx_interp.specs.declared.answers.Answer as told
use Rattle.cx_interp.specs.declared.answers.Answer.TheVariants.{End}
use Rattle.cx_interp.specs.Doings.{Doing}
use Rattle.cx_interp.specs.Done.{KeepsHeld, Done}
use Rattle.cx_interp.specs.Counts.{HasRows, KeepsShape, GrowsAt, at_path, Grows, count_at}
use Rattle.cx_interp.specs.Counted.{Tallying, GrowsBy, Counted}
use Rattle.cx_interp.proofs.DoneLemmas.{Stops, held_same, settled_after}
use Rattle.cx_interp.proofs.TableCounts.{row_length, wraps_twice}

-- TALLIES AT A PATH
abbrev where_so : Bool → ℕ → ℕ
where_so b v = if b then v else 0

pub at_path_same : (path : Path) (a b : Tally) → ((q : Path) (g : ℕ) → a q g ≡ b q g) → (q : Path) (g : ℕ) → at_path path a q g ≡ at_path path b q g
at_path_same [] a b e q g = e q g
at_path_same (c ∷ path) a b e [] g = refl
at_path_same (c ∷ path) a b e (d ∷ q) g = ap (λ v. where_so (nat_eq c d) v) (at_path_same path a b e q g)

at_path_none : (path q : Path) (g : ℕ) → at_path path none q g ≡ 0
at_path_none [] q g = refl
at_path_none (c ∷ path) [] g = refl
at_path_none (c ∷ path) (d ∷ q) g = ap (λ v. where_so (nat_eq c d) v) (at_path_none path q g) ∙ either (nat_eq c d)
  where
    either : (b : Bool) → where_so b 0 ≡ 0
    either true = refl
    either false = refl

at_path_plus : (path : Path) (a b : Tally) (q : Path) (g : ℕ) → at_path path (plus a b) q g ≡ at_path path a q g + at_path path b q g
at_path_plus [] a b q g = refl
at_path_plus (c ∷ path) a b [] g = refl
at_path_plus (c ∷ path) a b (d ∷ q) g = ap (λ v. where_so (nat_eq c d) v) (at_path_plus path a b q g) ∙ either (nat_eq c d) (at_path path a q g) (at_path path b q g)
  where
    either : (t : Bool) (x y : ℕ) → where_so t (x + y) ≡ where_so t x + where_so t y
    either true x y = refl
    either false x y = refl

pub at_path_child : (path : Path) (c : ℕ) (a : Tally) → at_path (path ++ c ∷ []) a ≡ at_path path (below c a)
at_path_child [] c a = refl
at_path_child (e ∷ path) c a = ap (below e) (at_path_child path c a)

at_path_own : (path : Path) (a : Tally) (g : ℕ) → at_path path a path g ≡ a [] g
at_path_own [] a g = refl
at_path_own (c ∷ path) a g = ap (λ b. where_so b (at_path path a path g)) (equal c) ∙ at_path_own path a g

at_path_other : (path q : Path) (act : Active) (g : ℕ) → (q ≡ path → ⊥) → at_path path (made_with act) q g ≡ 0
at_path_other [] [] act g apart = absurd (apart refl)
at_path_other [] (d ∷ q) act g apart = refl
at_path_other (c ∷ path) [] act g apart = refl
at_path_other (c ∷ path) (d ∷ q) act g apart = by_case (nat_eq c d) refl (at_path_other path q act g)
  where
    by_case : (b : Bool) → nat_eq c d ≡ b → ((q ≡ path → ⊥) → at_path path (made_with act) q g ≡ 0) → where_so b (at_path path (made_with act) q g) ≡ 0
    by_case true e deeper = deeper (λ same. apart (ap (λ k. k ∷ q) (sym (from_eq c d e)) ∙ ap (λ (p : Path). c ∷ p) same))
    by_case false e deeper = refl

-- COUNTS THAT GROW
module _ (d : PlainDesign) where
  pub rows_kept : (old new : List (List ℕ)) → KeepsShape old new → HasRows d old → HasRows d new
  rows_kept old new shape rows n path number = row_length old new n shape ∙ rows n path number

  pub grows_same : (old new : List (List ℕ)) (a b : Tally) → ((q : Path) (g : ℕ) → a q g ≡ b q g) → Grows d old new a → Grows d old new b
  grows_same old new a b same one n g path number lt = one n g path number lt ∙ ap (λ k. (count_at old n g + k) % 2 ^ 64) (same path g)

  pub grows_not : (table : List (List ℕ)) (path : Path) → Grows d table table (at_path path none)
  grows_not table path n g q number lt =
      let same : count_at table n g ≡ count_at table n g + at_path path none q g = omega (arith, at_path_none path q g) in ap (λ v. v % 2 ^ 64) same

  pub grows_both : (old middle new : List (List ℕ)) (path : Path) (a b : Tally) → Grows d old middle (at_path path a) → Grows d middle new (at_path path b)
      → Grows d old new (at_path path (plus a b))
  grows_both old middle new path a b one two n g q number lt =
      wraps_twice (count_at old n g) (at_path path a q g) (count_at middle n g) (at_path path b q g) (count_at new n g) (one n g q number lt) (two n g q number lt)
      ∙ ap (λ k. (count_at old n g + k) % 2 ^ 64) (sym (at_path_plus path a b q g))

  -- a cycle of an instance
  pub grows_cycle : (n : ℕ) (path : Path) (act : Active) (old new : List (List ℕ)) → HasRows d old → IsNumber d n path → GrowsAt n (λ g. once (act.offset g)) old new
      → Grows d old new (at_path path (made_with act))
  grows_cycle n path act old new rows number one m g q at lt = ⊎_elim own others (cases_eq m n)
    where
      own : m ≡ n → count_at new m g % 2 ^ 64 ≡ (count_at old m g + at_path path (made_with act) q g) % 2 ^ 64
      own same =
          let there : IsNumber d n q = subst (λ k. IsNumber d k q) same at in
          let both : Some q ≡ Some path = sym there ∙ number in
          let equals : q ≡ path = cc in
          let within : g < length (get_or old n []) = subst (λ k. g < k) (sym (rows n q there)) lt in
          let counted : count_at new n g % 2 ^ 64 ≡ (count_at old n g + at_path path (made_with act) q g) % 2 ^ 64 =
          one.own g within ∙ ap (λ k. (count_at old n g + k) % 2 ^ 64) (sym (ap (λ (p : Path). at_path path (made_with act) p g) equals ∙ at_path_own path (made_with act) g)) in
          subst (λ k. count_at new k g % 2 ^ 64 ≡ (count_at old k g + at_path path (made_with act) q g) % 2 ^ 64) (sym same) counted

      others : (m ≡ n → ⊥) → count_at new m g % 2 ^ 64 ≡ (count_at old m g + at_path path (made_with act) q g) % 2 ^ 64
      others apart =
          let none_there : at_path path (made_with act) q g ≡ 0 = at_path_other path q act g
          (λ same. apart (one_number (tree_of d) m n path (subst (λ (p : Path). IsNumber d m p) same at) number)) in
          let same : count_at new m g ≡ count_at old m g + at_path path (made_with act) q g = omega (arith, none_there, one.others m g apart) in
          ap (λ v. v % 2 ^ 64) same

  -- WHAT RUNS COUNT
  module _ (n : ℕ) where
    pub by_same_at : (rows : List PlainInstance) (old new : List (List ℕ)) (a b : Tallying) (budget : ℕ)
        → ((path : Path) (held : Held) (s : State) → IsNumber d n path → (q : Path) (g : ℕ)
        → a (instance_at (tree_of d) path) held s budget q g ≡ b (instance_at (tree_of d) path) held s budget q g)
        → GrowsBy d rows old new n a budget → GrowsBy d rows old new n b budget
    by_same_at rows old new a b budget same one has path s number stands settled =
        let i : Instance = instance_at (tree_of d) path in
        let held : Held = inputs_held rows n in
        grows_same old new (at_path path (a i held (under_path path s) budget)) (at_path path (b i held (under_path path s) budget))
        (at_path_same path (a i held (under_path path s) budget) (b i held (under_path path s) budget) (same path held (under_path path s) number))
        (one has path s number stands settled)

    pub by_same : (rows : List PlainInstance) (old new : List (List ℕ)) (a b : Tallying) (budget : ℕ)
        → ((i : Instance) (held : Held) (s : State) (q : Path) (g : ℕ) → a i held s budget q g ≡ b i held s budget q g)
        → GrowsBy d rows old new n a budget → GrowsBy d rows old new n b budget
    by_same rows old new a b budget same one = by_same_at rows old new a b budget (λ path held s number. same (instance_at (tree_of d) path) held s) one

    pub by_none : (rows : List PlainInstance) (table : List (List ℕ)) (a : Tallying) (budget : ℕ)
        → ((i : Instance) (held : Held) (s : State) (q : Path) (g : ℕ) → a i held s budget q g ≡ 0) → GrowsBy d rows table table n a budget
    by_none rows table a budget nothing =
        by_same rows table table (λ i held s m. none) a budget (λ i held s q g. sym (nothing i held s q g)) (λ has path s number stands settled. grows_not table path)

    -- one run, and then another with what is left
    abbrev pub then_counts : Tallying → Doing → Tallying → Tallying
    then_counts first does second i held s m = plus (first i held s m) (then_count (does i held s m) m (second i held))

    then_is : (after : State) (x : Answer State Fault) (m t : ℕ) (go : tallies.Counted State) → AnswersAs after x (Ended t) → then_count x m go ≡ go after (m - t)
    then_is after (answers.End a u) m t go (e, same) =
        let turns : t ≡ u = cc in
        ap (λ k. go a (m - k)) (sym turns) ∙ ap (λ (y : State). go y (m - t)) (sym (fun_ext same))
    then_is after (answers.Fault f u) m t go e = cc
    then_is after answers.More m t go e = cc

    pub grows_both_at : (old middle : List PlainInstance) (initially so_far finally : List (List ℕ)) (path : Path) (s : State) (first whole : Tally) (second : Tallying)
        (budget : ℕ) (after : State) → KeepsHeld n old middle
        → ((q : Path) (g : ℕ) → whole q g ≡ first q g + second (instance_at (tree_of d) path) (inputs_held old n) after budget q g) → Grows d initially so_far (at_path path first)
        → Grows d so_far finally (at_path path (second (instance_at (tree_of d) path) (inputs_held middle n) (under_path path (put_path path after s)) budget))
        → Grows d initially finally (at_path path whole)
    grows_both_at old middle initially so_far finally path s first whole second budget after keeps sum one later =
        let i : Instance = instance_at (tree_of d) path in
        let there : Grows d so_far finally (at_path path (second i (inputs_held old n) after budget)) =
        subst (λ (h : Held). Grows d so_far finally (at_path path (second i h after budget))) (held_same d n old middle keeps)
        (subst (λ (x : State). Grows d so_far finally (at_path path (second i (inputs_held middle n) x budget))) (under_put path after s) later) in
        grows_same initially finally (at_path path (plus first (second i (inputs_held old n) after budget))) (at_path path whole)
        (at_path_same path (plus first (second i (inputs_held old n) after budget)) whole (λ q g. sym (sum q g)))
        (grows_both initially so_far finally path first (second i (inputs_held old n) after budget) one there)

    pub by_then : (driving : Driving) (old middle : List PlainInstance) (initially so_far finally : List (List ℕ)) (first second : Tallying) (does : Doing) (budget turns : ℕ)
        → KeepsShape initially so_far → Done d old middle n driving does budget (End turns)
        → GrowsBy d old initially so_far n first budget → GrowsBy d middle so_far finally n second (budget - turns)
        → GrowsBy d old initially finally n (then_counts first does second) budget
    by_then driving old middle initially so_far finally first second does budget turns shape done one two has path s number stands settled =
        let i : Instance = instance_at (tree_of d) path in
        let held : Held = inputs_held old n in
        let l = done.leaves path s number stands settled in
        let answer : AnswersAs l.after (does i held (under_path path s) budget) (Ended turns) = subst (λ o. AnswersAs l.after (does i held (under_path path s) budget) o) l.told
        l.ran.answer in
        let rest : then_count (does i held (under_path path s) budget) budget (second i held) ≡ second i held l.after (budget - turns) = then_is l.after
        (does i held (under_path path s) budget) budget turns (second i held) answer in
        grows_both_at old middle initially so_far finally path s (first i held (under_path path s) budget) (then_counts first does second i held (under_path path s) budget) second
        (budget - turns) l.after l.held
        (λ q g. ap (λ (t : Tally). first i held (under_path path s) budget q g + t q g) rest) (one has path s number stands settled)
        (two (rows_kept initially so_far shape has) path (put_path path l.after s) number l.stands (settled_after d n old middle driving does budget (End turns) path s settled l))

    -- a test, and then one of two
    abbrev pub test_counts : PortRef → Option ℕ → Tallying → Tallying → Tallying
    test_counts port comb first second i held s m = test_count (idle i) (test i held port comb) (first i held) (second i held) s m

    module _ (port : PortRef) (comb : Option ℕ) (first second : Tallying) (rows : List PlainInstance) (old new : List (List ℕ)) (budget : ℕ) where
      pub by_holds : Tested d rows n port comb (Ok true) → GrowsBy d rows old new n first budget → GrowsBy d rows old new n (test_counts port comb first second) (suc budget)
      by_holds tested one has path s number stands settled =
          let i : Instance = instance_at (tree_of d) path in
          let held : Held = inputs_held rows n in
          let rests : idle i (under_path path s) ≡ under_path path s = fun_ext (settled_under (tree_of d) path s settled) in
          subst (λ (t : Tally). Grows d old new (at_path path t))
          (sym (ap (λ x. chosen_count x (first i held (idle i (under_path path s)) budget) (second i held (idle i (under_path path s)) budget)) (tested path s number stands) ∙
          ap (λ (x : State). first i held x budget) rests))
          (one has path s number stands settled)

      pub by_fails : Tested d rows n port comb (Ok false) → GrowsBy d rows old new n second budget → GrowsBy d rows old new n (test_counts port comb first second) (suc budget)
      by_fails tested one has path s number stands settled =
          let i : Instance = instance_at (tree_of d) path in
          let held : Held = inputs_held rows n in
          let rests : idle i (under_path path s) ≡ under_path path s = fun_ext (settled_under (tree_of d) path s settled) in
          subst (λ (t : Tally). Grows d old new (at_path path t))
          (sym (ap (λ x. chosen_count x (first i held (idle i (under_path path s)) budget) (second i held (idle i (under_path path s)) budget)) (tested path s number stands) ∙
          ap (λ (x : State). second i held x budget) rests))
          (one has path s number stands settled)

    -- A RUN, by its answer
    pub counted_stops : (rows : List PlainInstance) (old new : List (List ℕ)) (a : Tallying) (budget : ℕ) (answer : told.Answer) → Stops answer → KeepsShape old new
        → Counted d rows old new n a budget answer
    counted_stops rows old new a budget answer stop shape = record { shape = shape; grows = λ turns e. absurd (subst Stops e stop) }

    pub counted_grows : (rows : List PlainInstance) (old new : List (List ℕ)) (a : Tallying) (budget : ℕ) (answer : told.Answer) → KeepsShape old new
        → GrowsBy d rows old new n a budget → Counted d rows old new n a budget answer
    counted_grows rows old new a budget answer shape grows = record { shape = shape; grows = λ turns e. grows }

    pub counted_same_at : (rows : List PlainInstance) (old new : List (List ℕ)) (a b : Tallying) (budget : ℕ) (answer : told.Answer)
        → ((path : Path) (held : Held) (s : State) → IsNumber d n path → (q : Path) (g : ℕ)
        → a (instance_at (tree_of d) path) held s budget q g ≡ b (instance_at (tree_of d) path) held s budget q g)
        → Counted d rows old new n a budget answer → Counted d rows old new n b budget answer
    counted_same_at rows old new a b budget answer same one = record { shape = one.shape; grows = λ turns e. by_same_at rows old new a b budget same (one.grows turns e) }

    pub counted_none : (rows : List PlainInstance) (table : List (List ℕ)) (a : Tallying) (budget : ℕ) (answer : told.Answer)
        → ((i : Instance) (held : Held) (s : State) (q : Path) (g : ℕ) → a i held s budget q g ≡ 0) → Counted d rows table table n a budget answer
    counted_none rows table a budget answer nothing = counted_grows rows table table a budget answer refl (by_none rows table a budget nothing)
