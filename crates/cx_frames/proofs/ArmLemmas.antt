-- One more arm of a par, on the state that the arms before it left.
use Rattle.std.proofs.Common.{◌≡◌, ℕ, zero, suc, ◌≤◌, max, inl, inr, Bool, true, false, ◌||◌, if◌then◌else◌, List, [], ◌∷◌, ◌++◌, Option, Some, take, drop, length, refl, sym, ap, ◌∙◌, subst, arith}
use Rattle.std.specs.Prelude.{slice_get}
use Rattle.std.proofs.Math.Path.{fun_ext}
use Rattle.cx_text.proofs.MemberLaws.{in_left, in_right}
use Rattle.cx_text.specs.Members.{In}
use Rattle.cx_text.specs.declared.places.Place.{Place}
use Rattle.cx_meaning.specs.Designs.{PlainComponent, PlainForm, Par, PlainStatement, Placed, PlainStatements, no_statements, a_statement, statements_of, list_of, no_place}
use Rattle.cx_meaning.specs.Instances.{Instance, Node, Cells, part_of, State, Path, Set, merge, IsSettled}
use Rattle.cx_meaning.specs.Sights.{Held}
use Rattle.cx_meaning.specs.Cycles.{Fault}
use Rattle.cx_meaning.specs.Answers.{Answer, End, More, both}
use Rattle.cx_meaning.specs.Answers as answers
use Rattle.cx_meaning.specs.Budgets.{Grows, IsSteady}
use Rattle.cx_meaning.specs.Control.{groups_of, groups_in_all, groups_drive, group_drives, drives, run_arms}
use Rattle.cx_meaning.specs.Running.{leaves, control_below, run_statement}
use Rattle.cx_rules.specs.Items.{Context, Dynamic, below_dynamic, Visited, visit, visit_parts, visit_all, statements_in}
use Rattle.cx_rules.specs.Footprints as footprints
use Rattle.cx_rules.specs.Footprints.{Reads}
use Rattle.cx_frames.specs.Agreeing.{Agree}
use Rattle.cx_frames.specs.Arms.{all_drive, arms_run}
use Rattle.cx_frames.specs.Ran.{Outcome, Ended, Unfinished, AnswersAs, Ran, limit, joined}
use Rattle.cx_frames.proofs.AlikeLemmas.{Frames}
use Rattle.cx_laws.proofs.VisitLemmas.{visited}
use Rattle.cx_frames.proofs.BothLemmas.{both_apart, arm_answers}
use Rattle.std.proofs.lemmas.Bool.{or_left, or_right}
use Rattle.cx_text.proofs.BoolLaws.{or_assoc}
use Rattle.cx_text.proofs.NumberLaws.{true_false}
use Rattle.cx_meaning.proofs.DesignsLemmas.{list_again}

-- merges of sets that have no cell in common, in either order
merges_apart : (one two : Set) → ((c : ℕ) → one c ≡ true → two c ≡ true → ⊥) → (a b c : State) → merge one a (merge two c b) ≡ merge two c (merge one a b)
merges_apart one two apart a b c = fun_ext at
  where
    pick : (e : ℕ) (path : Path) (k : Bool) → one e ≡ k → (l : Bool) → two e ≡ l
        → (if k then a (e ∷ path) else (if l then c (e ∷ path) else b (e ∷ path))) ≡ (if l then c (e ∷ path) else (if k then a (e ∷ path) else b (e ∷ path)))
    pick e path true f true g = absurd (apart e f g)
    pick e path true f false g = refl
    pick e path false f true g = refl
    pick e path false f false g = refl

    at : (path : Path) → merge one a (merge two c b) path ≡ merge two c (merge one a b) path
    at [] = refl
    at (e ∷ path) = pick e path (one e) refl (two e) refl

-- an arm alone
alone : (cells : Set) (s : State) (y : Answer State Fault) → both (merge cells) y (End s 0) ≡ both (λ a b. merge cells b a) (End s 0) y
alone cells s (End b u) = let turns : max u 0 ≡ max 0 u = omega arith in ap (End (merge cells b s)) turns
alone cells s (answers.Fault f u) = refl
alone cells s More = refl

module _ (part : PlainComponent) (cells : Cells) (held : Held) (arm : PlainStatement) (s : State) (n : ℕ) where
  -- the arms with one more after them
  one_more : (done : List PlainStatement) → ((c : ℕ) → all_drive part done c ≡ true → drives part arm c ≡ true → ⊥)
      → arms_run (Node part cells) held (done ++ (arm ∷ [])) s n ≡ both (λ a b. merge (drives part arm) b a) (arms_run (Node part cells) held done s n) (run_statement (Node part cells) held arm s n)
  one_more [] apart = alone (drives part arm) s (run_statement (Node part cells) held arm s n)
  one_more (x ∷ done) apart =
      ap (both (merge (drives part x)) (run_statement (Node part cells) held x s n)) (one_more done (λ c e f. apart c (or_right (drives part x c) (all_drive part done c) e) f))
      ∙ both_apart (merge (drives part x)) (λ a b. merge (drives part arm) b a) (merges_apart (drives part x) (drives part arm) (λ c e f. apart c (or_left (drives part x c) (all_drive part done c) e) f))
      (run_statement (Node part cells) held x s n) (arms_run (Node part cells) held done s n) (run_statement (Node part cells) held arm s n)

neither : (part : PlainComponent) (done : List PlainStatement) (arm : PlainStatement) (c : ℕ) → all_drive part (done ++ (arm ∷ [])) c ≡ false → (all_drive part done c ≡ false) × (drives part arm c ≡ false)
neither part [] arm c e = (refl, one (drives part arm c) e)
  where
    one : (b : Bool) → (b || false) ≡ false → b ≡ false
    one true e = e
    one false e = refl
neither part (x ∷ done) arm c e = go (drives part x c) refl e (neither part done arm c)
  where
    go : (b : Bool) → drives part x c ≡ b → (b || all_drive part (done ++ (arm ∷ [])) c) ≡ false → (all_drive part (done ++ (arm ∷ [])) c ≡ false → (all_drive part done c ≡ false) × (drives part arm c ≡ false))
        → (all_drive part (x ∷ done) c ≡ false) × (drives part arm c ≡ false)
    go true here e later = absurd (true_false e)
    go false here e later = let r = later e in (ap (λ b. b || all_drive part done c) here ∙ r.0, r.1)

-- a fault comes within the budget
limit_within : (cur : State) (n : ℕ) (x : Answer State Fault) (o : Outcome) → AnswersAs cur x o → Grows n x x → limit n o ≤ n
limit_within cur n (End a t) o (e, from) grows = let all : n ≤ n = omega arith in subst (λ w. limit n w ≤ n) (sym e) all
limit_within cur n (answers.Fault f t) o e (less, same) = let all : t ≤ n = omega arith in subst (λ w. limit n w ≤ n) (sym e) all
limit_within cur n More o e grows = let all : n ≤ n = omega arith in subst (λ w. limit n w ≤ n) (sym e) all

arms_grow : (i : Instance) (held : Held) → ((statement : PlainStatement) → IsSteady (run_statement i held statement)) → (done : List PlainStatement) (s : State) (n : ℕ) → Grows n (arms_run i held done s n) (arms_run i held done s n)
arms_grow (Node part cells) held steady [] s n = (omega arith, refl)
arms_grow (Node part cells) held steady (x ∷ done) s n = let all : n ≤ n = omega arith in steady (Placed (Par (statements_of (x ∷ done))) no_place) s n n all

pub next_ran : (i : Instance) (held : Held) (done : List PlainStatement) (arm : PlainStatement) (s cur next : State) (n : ℕ) (o p : Outcome)
    → ((c : ℕ) → Reads (part_of i) arm c → all_drive (part_of i) done c ≡ true → ⊥) → Frames (Reads (part_of i) arm) (run_statement i held arm) → ((statement : PlainStatement) → IsSteady (run_statement i held statement))
    → Ran i (all_drive (part_of i) done) (arms_run i held done) s n cur o → Ran i (drives (part_of i) arm) (run_statement i held arm) cur (limit n o) next p
    → Ran i (all_drive (part_of i) (done ++ (arm ∷ []))) (arms_run i held (done ++ (arm ∷ []))) s n next (joined o p)
next_ran (Node part cells) held done arm s cur next n o p apart frames steady first second = record {
  settled = second.settled;
  top = second.top ∙ first.top;
  others = λ c below e. let r = neither part done arm c e in second.others c below r.1 ∙ first.others c below r.0;
  answer =
      subst (λ x. AnswersAs next x (joined o p)) (sym (one_more part cells held arm s n done (λ c e f. apart c (footprints.driven f) e)))
      (arm_answers (Reads part arm) (drives part arm) (λ c e. footprints.driven e) n cur next second.top second.others
      (λ k. run_statement (Node part cells) held arm s k) (λ k l. steady arm s k n l)
      (arms_run (Node part cells) held done s n) (run_statement (Node part cells) held arm cur (limit n o)) o p
      (limit_within cur n (arms_run (Node part cells) held done s n) o first.answer (arms_grow (Node part cells) held steady done s n))
      first.answer second.answer (frames cur s (limit n o) agree));
}
  where
    agree : Agree (Reads part arm) cur s
    agree c below reads = one (all_drive part done c) refl
      where
        one : (b : Bool) → all_drive part done c ≡ b → cur (c ∷ below) ≡ s (c ∷ below)
        one true e = absurd (apart c reads e)
        one false e = first.others c below e

-- an arm of a visited par is visited
arm_visited : (context : Context) (arms : PlainStatements) (form : PlainForm) (place : Place) → In (list_of arms) (Placed form place) → In (visit_all context arms) (record { context = context; form = form; place = place })
arm_visited context no_statements form place i = absurd i
arm_visited context (a_statement s ss) form place (inl e) =
    in_left (visit context s) (visit_all context ss) _ (subst (λ x. In (visit context x) (record { context = context; form = form; place = place })) (sym e) (inl refl))
arm_visited context (a_statement s ss) form place (inr j) = in_right (visit context s) (visit_all context ss) _ (arm_visited context ss form place j)

pub arm_stands : (part : PlainComponent) (v : Visited) (arms : PlainStatements) (done later : List PlainStatement) (form : PlainForm) (place : Place)
    → In (statements_in part) v → v.form ≡ Par arms → list_of arms ≡ done ++ (Placed form place ∷ later)
    → In (statements_in part) (record { context = below_dynamic v.context; form = form; place = place })
arm_stands part v arms done later form place stands e f =
    let inside : In (list_of arms) (Placed form place) = subst (λ x. In x (Placed form place)) (sym f) (in_right done (Placed form place ∷ later) (Placed form place) (inl refl)) in
    visited Dynamic part.control v _ stands
    (inr (subst (λ x. In (visit_parts v.context x) (record { context = below_dynamic v.context; form = form; place = place })) (sym e) (arm_visited (below_dynamic v.context) arms form place inside)))

-- a member of a list, between those before it and those after it
pub behind : {A : Type 0} (xs : List A) (k : ℕ) (x : A) → slice_get xs k ≡ Some x → xs ≡ take k xs ++ (x ∷ drop (suc k) xs)
behind [] k x e = absurd (cc)
behind {A} (y ∷ ys) zero x e = ap (λ z. z ∷ ys) (inj e)
  where
    inj : ◌≡◌ {A = Option A} (Some y) (Some x) → y ≡ x
    inj e = cc
behind (y ∷ ys) (suc k) x e = ap (λ l. y ∷ l) (behind ys k x e)

pub one_longer : {A : Type 0} (xs : List A) (k : ℕ) (x : A) → slice_get xs k ≡ Some x → take (suc k) xs ≡ take k xs ++ (x ∷ [])
one_longer [] k x e = absurd (cc)
one_longer {A} (y ∷ ys) zero x e = ap (λ z. z ∷ []) (inj e)
  where
    inj : ◌≡◌ {A = Option A} (Some y) (Some x) → y ≡ x
    inj e = cc
one_longer (y ∷ ys) (suc k) x e = ap (λ l. y ∷ l) (one_longer ys k x e)

-- before the first arm
pub none_ran : (i : Instance) (held : Held) (s : State) (n : ℕ) → IsSettled i s → Ran i (all_drive (part_of i) []) (arms_run i held []) s n s (Ended 0)
none_ran (Node part cells) held s n settled = record { settled = settled; top = refl; others = λ c below e. refl; answer = (refl, λ path. refl) }

-- all arms are the par
same_arms : (arms : PlainStatements) → statements_of (list_of arms) ≡ arms
same_arms no_statements = refl
same_arms (a_statement s ss) = ap (a_statement s) (same_arms ss)

pub groups_joined : (part : PlainComponent) (gs hs : List ℕ) (c : ℕ) → groups_drive part (gs ++ hs) c ≡ (groups_drive part gs c || groups_drive part hs c)
groups_joined part [] hs c = refl
groups_joined part (g ∷ gs) hs c = ap (λ b. group_drives part g c || b) (groups_joined part gs hs c) ∙ sym (or_assoc (group_drives part g c) (groups_drive part gs c) (groups_drive part hs c))

arms_drive : (part : PlainComponent) (arms : PlainStatements) (c : ℕ) → groups_drive part (groups_in_all arms) c ≡ all_drive part (list_of arms) c
arms_drive part no_statements c = refl
arms_drive part (a_statement s ss) c = groups_joined part (groups_of s) (groups_in_all ss) c ∙ ap (λ b. drives part s c || b) (arms_drive part ss c)

pub all_ran : (i : Instance) (held : Held) (arms : PlainStatements) (place : Place) (first : PlainStatement) (rest : List PlainStatement) (s after : State) (n : ℕ) (o : Outcome) → list_of arms ≡ first ∷ rest
    → Ran i (all_drive (part_of i) (list_of arms)) (arms_run i held (list_of arms)) s n after o
    → Ran i (drives (part_of i) (Placed (Par arms) place)) (run_statement i held (Placed (Par arms) place)) s n after o
all_ran (Node part cells) held no_statements place first rest s after n o e ran = absurd (none e)
  where
    none : ◌≡◌ {A = List PlainStatement} [] (first ∷ rest) → ⊥
    none e = cc
all_ran (Node part cells) held (a_statement x xs) place first rest s after n o e ran = record {
  settled = ran.settled;
  top = ran.top;
  others = λ c below f. ran.others c below (sym (arms_drive part (a_statement x xs) c) ∙ f);
  answer = subst (λ w. AnswersAs after (run_arms (leaves (Node part cells) (control_below cells) held) w s n) o) (same_arms (a_statement x xs)) ran.answer;
}

pub listed_ran : (i : Instance) (held : Held) (list : List PlainStatement) (place : Place) (s after : State) (n : ℕ) (o : Outcome) → 1 ≤ length list
    → Ran i (all_drive (part_of i) list) (arms_run i held list) s n after o
    → Ran i (drives (part_of i) (Placed (Par (statements_of list)) place)) (run_statement i held (Placed (Par (statements_of list)) place)) s n after o
listed_ran i held [] place s after n o some ran = absurd (omega arith)
listed_ran i held (x ∷ xs) place s after n o some ran =
    all_ran i held (statements_of (x ∷ xs)) place x xs s after n o (list_again (x ∷ xs))
    (subst (λ l. Ran i (all_drive (part_of i) l) (arms_run i held l) s n after o) (sym (list_again (x ∷ xs))) ran)

-- a par without arms is the idle turn
pub empty_ran : (i : Instance) (held : Held) (place : Place) (s : State) (n : ℕ) → IsSettled i s
    → Ran i (drives (part_of i) (Placed (Par no_statements) place)) (run_statement i held (Placed (Par no_statements) place)) s (suc n) s (Ended 1)
empty_ran (Node part cells) held place s n settled = record { settled = settled; top = refl; others = λ c below e. refl; answer = (refl, λ path. sym (settled path)) }

pub empty_waits : (i : Instance) (held : Held) (place : Place) (s : State) → IsSettled i s
    → Ran i (drives (part_of i) (Placed (Par no_statements) place)) (run_statement i held (Placed (Par no_statements) place)) s 0 s Unfinished
empty_waits (Node part cells) held place s settled = record { settled = settled; top = refl; others = λ c below e. refl; answer = refl }
