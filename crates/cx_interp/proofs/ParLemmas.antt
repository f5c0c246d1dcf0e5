-- The arms of a par, one after the other on the one state.
use Rattle.std.proofs.Common.{◌≡◌, ℕ, zero, suc, ◌+◌, ◌≤◌, ◌<◌, List, [], ◌∷◌, length, get_or, take, map, Some, inl, inr, refl, sym, ap, ◌∙◌, subst, arith}
use Rattle.std.specs.List.{slice_get}
use Rattle.cx_text.specs.Members.{In}
use Rattle.cx_text.specs.declared.places.Place.{Place}
use Rattle.cx_meaning.specs.Designs.{PlainDesign, Par, PlainStatement, Placed, statements_of}
use Rattle.cx_meaning.specs.Instances.{Instance, Node, Path, State, part_of, instance_at, tree_of}
use Rattle.cx_meaning.specs.Sights.{Held}
use Rattle.cx_meaning.specs.Control.{drives}
use Rattle.cx_meaning.specs.Running.{run_statement}
use Rattle.cx_rules.specs.Items.{Visited, Dynamic, statements_in}
use Rattle.cx_design.specs.declared.statements.Statement.{Statement}
use Rattle.cx_design.specs.PlainForms.{plain_statement, plain_statements}
use Rattle.cx_state.specs.Tables.{IsNumber}
use Rattle.cx_state.specs.States.{PlainInstance, inputs_held, IsStateOf, StandsFor, under_path, put_path}
use Rattle.cx_frames.specs.Ran.{Outcome, Ran, limit, joined}
use Rattle.cx_frames.specs.Arms.{all_drive, arms_run}
use Rattle.cx_turns.specs.Groups.{Driving}
use Rattle.cx_turns.specs.Machines.{StandIn, FormStands}
use Rattle.cx_turns.proofs.PathLemmas.{under_put, put_put}
use Rattle.cx_interp.specs.declared.answers.Answer.{Answer}
use Rattle.cx_interp.specs.declared.answers.Answer.TheVariants.{End, Fault, More}
use Rattle.cx_interp.specs.Doings.{Doing, stay_does, idle_does, statement_does, statement_drives, form_does, form_drives}
use Rattle.cx_interp.specs.Done.{Tells, IsWithin, Done, limit_of, join}
use Rattle.cx_interp.proofs.RanLemmas.{ran_same}
use Rattle.cx_interp.proofs.DoneLemmas.{done_same, done_stay, held_same, held_then, settled_after}

abbrev pub some_do : List PlainStatement → Doing
some_do arms i held s n = arms_run i held arms s n

abbrev pub some_drive : List PlainStatement → Driving
some_drive arms i = all_drive (part_of i) arms

pub join_within : (budget : ℕ) (a b : Answer) → IsWithin budget a → IsWithin (limit_of budget a) b → IsWithin budget (join a b)
join_within budget (End t) (End u) h k = omega (arith, h, k)
join_within budget (End t) (Fault g u) h k = k
join_within budget (End t) More h k = tt
join_within budget (Fault f t) (End u) h k = h
join_within budget (Fault f t) (Fault g u) h k = omega (arith, h, k)
join_within budget (Fault f t) More h k = h
join_within budget More (End u) h k = tt
join_within budget More (Fault g u) h k = k
join_within budget More More h k = tt

limit_told : (d : PlainDesign) (path : Path) (budget : ℕ) (a : Answer) (o : Outcome) → Tells d path a o → limit_of budget a ≡ limit budget o
limit_told d path budget (End t) o e = ap (limit budget) (sym e)
limit_told d path budget (Fault f t) o (fault, tells, e) = ap (limit budget) (sym e)
limit_told d path budget More o e = ap (limit budget) (sym e)

both_told : (o p x y : Outcome) → o ≡ x → p ≡ y → joined o p ≡ joined x y
both_told o p x y e f = ap (λ z. joined z p) e ∙ ap (joined x) f

join_told : (d : PlainDesign) (path : Path) (a b : Answer) (o p : Outcome) → Tells d path a o → Tells d path b p → Tells d path (join a b) (joined o p)
join_told d path (End t) (End u) o p e f = both_told o p _ _ e f
join_told d path (End t) (Fault g u) o p e (fault, tells, f) = (fault, tells, both_told o p _ _ e f)
join_told d path (End t) More o p e f = both_told o p _ _ e f
join_told d path (Fault x t) (End u) o p (fault, tells, e) f = (fault, tells, both_told o p _ _ e f)
join_told d path (Fault x t) (Fault g u) o p (first, first_tells, e) (fault, tells, f) = (fault, tells, both_told o p _ _ e f)
join_told d path (Fault x t) More o p (fault, tells, e) f = (fault, tells, both_told o p _ _ e f)
join_told d path More (End u) o p e f = both_told o p _ _ e f
join_told d path More (Fault g u) o p e (fault, tells, f) = (fault, tells, both_told o p _ _ e f)
join_told d path More More o p e f = both_told o p _ _ e f

-- a statement of an instance as the laws have it
statement_is : (i : Instance) (held : Held) (statement : PlainStatement) (s : State) (n : ℕ) → statement_does statement i held s n ≡ run_statement i held statement s n
statement_is (Node part cells) held statement s n = refl

-- no arm yet
no_arms : (i : Instance) (held : Held) (s : State) (n : ℕ) → stay_does i held s n ≡ some_do [] i held s n
no_arms (Node part cells) held s n = refl

pub arms_start : (d : PlainDesign) (n : ℕ) (list : List PlainStatement) (rows : List PlainInstance) (budget : ℕ) → IsStateOf d rows → Done d rows rows n (some_drive (take 0 list)) (some_do (take 0 list)) budget (End 0)
arms_start d n list rows budget fits = done_same d n (some_drive []) rows rows stay_does (some_do []) budget (End 0) (λ i held s. no_arms i held s budget) (done_stay d n (some_drive []) rows budget fits)

module _ (d : PlainDesign) (n : ℕ) (list : List PlainStatement) (stands : FormStands d n (Par (statements_of list))) where
  abbrev visited : Visited
  visited = record { context = Dynamic; form = Par (statements_of list); place = stands.0 }

  pub there : (path : Path) → IsNumber d n path → In (statements_in (part_of (instance_at (tree_of d) path))) visited
  there path number = stands.1 path visited number (inl refl)

  -- one more arm
  pub arms_next : (k : ℕ) (arm : PlainStatement) → slice_get list k ≡ Some arm
      → ((path : Path) (held : Held) (v : Visited) (s cur next : State) (m : ℕ) (o p : Outcome) → In (statements_in (part_of (instance_at (tree_of d) path))) v → v.form ≡ Par (statements_of list)
      → Ran (instance_at (tree_of d) path) (all_drive (part_of (instance_at (tree_of d) path)) (take k list)) (arms_run (instance_at (tree_of d) path) held (take k list)) s m cur o
      → Ran (instance_at (tree_of d) path) (drives (part_of (instance_at (tree_of d) path)) arm) (run_statement (instance_at (tree_of d) path) held arm) cur (limit m o) next p
      → Ran (instance_at (tree_of d) path) (all_drive (part_of (instance_at (tree_of d) path)) (take (k + 1) list)) (arms_run (instance_at (tree_of d) path) held (take (k + 1) list)) s m next (joined o p))
      → (old middle new : List PlainInstance) (budget : ℕ) (a b : Answer) → Done d old middle n (some_drive (take k list)) (some_do (take k list)) budget a → Done d middle new n (statement_drives arm) (statement_does arm) (limit_of budget a) b
      → Done d old new n (some_drive (take (k + 1) list)) (some_do (take (k + 1) list)) budget (join a b)
  arms_next k arm is law old middle new budget a b one two = record {
    leaves = λ path s number holds settled.
        let l = one.leaves path s number holds settled in
        let r = two.leaves path (put_path path l.after s) number l.stands (settled_after d n old middle (some_drive (take k list)) (some_do (take k list)) budget a path s settled l) in
        let i : Instance = instance_at (tree_of d) path in
        let held : Held = inputs_held old n in
        let kept : Ran i (statement_drives arm i) (statement_does arm i held) (under_path path (put_path path l.after s)) (limit_of budget a) r.after r.outcome =
        subst (λ h. Ran i (statement_drives arm i) (statement_does arm i h) (under_path path (put_path path l.after s)) (limit_of budget a) r.after r.outcome) (held_same d n old middle l.held) r.ran in
        let here : Ran i (statement_drives arm i) (statement_does arm i held) l.after (limit_of budget a) r.after r.outcome =
        subst (λ (x : State). Ran i (statement_drives arm i) (statement_does arm i held) x (limit_of budget a) r.after r.outcome) (under_put path l.after s) kept in
        let limited : Ran i (statement_drives arm i) (statement_does arm i held) l.after (limit budget l.outcome) r.after r.outcome =
        subst (λ m. Ran i (statement_drives arm i) (statement_does arm i held) l.after m r.after r.outcome) (limit_told d path budget a l.outcome l.told) here in
        let second : Ran i (statement_drives arm i) (run_statement i held arm) l.after (limit budget l.outcome) r.after r.outcome =
        ran_same i (statement_drives arm i) (statement_does arm i held) (run_statement i held arm) l.after (limit budget l.outcome) r.after r.outcome (statement_is i held arm l.after (limit budget l.outcome)) limited in
        record {
          after = r.after;
          outcome = joined l.outcome r.outcome;
          stands = subst (λ (x : State). StandsFor (tree_of d) new x) (put_put path r.after l.after s) r.stands;
          told = join_told d path a b l.outcome r.outcome l.told r.told;
          held = held_then d n old middle new l.held r.held;
          ran = law path held visited (under_path path s) l.after r.after budget l.outcome r.outcome (there path number) refl l.ran second;
        };
    within = join_within budget a b one.within two.within;
    fits = two.fits;
  }

  -- all arms
  pub arms_end : ((i : Instance) (held : Held) (place : Place) (s after : State) (m : ℕ) (o : Outcome) → 1 ≤ length list → Ran i (all_drive (part_of i) list) (arms_run i held list) s m after o
      → Ran i (drives (part_of i) (Placed (Par (statements_of list)) place)) (run_statement i held (Placed (Par (statements_of list)) place)) s m after o)
      → (k : ℕ) → take k list ≡ list → 1 ≤ length list → (old new : List PlainInstance) (budget : ℕ) (a : Answer) → Done d old new n (some_drive (take k list)) (some_do (take k list)) budget a
      → Done d old new n (form_drives (Par (statements_of list))) (form_does (Par (statements_of list))) budget a
  arms_end law k all some old new budget a done =
      let whole : Done d old new n (some_drive list) (some_do list) budget a = subst (λ xs. Done d old new n (some_drive xs) (some_do xs) budget a) all done in
      record {
        leaves = λ path s number holds settled.
            let l = whole.leaves path s number holds settled in
            let i : Instance = instance_at (tree_of d) path in
            let held : Held = inputs_held old n in
            record {
              after = l.after;
              outcome = l.outcome;
              stands = l.stands;
              told = l.told;
              held = l.held;
              ran = ran_same i (form_drives (Par (statements_of list)) i) (run_statement i held (Placed (Par (statements_of list)) stands.0)) (form_does (Par (statements_of list)) i held) (under_path path s) budget l.after l.outcome
                  (sym (statement_is i held (Placed (Par (statements_of list)) stands.0) (under_path path s) budget)) (law i held stands.0 (under_path path s) l.after budget l.outcome some l.ran);
            };
        within = whole.within;
        fits = whole.fits;
      }

-- a par without arms
pub par_empty : (d : PlainDesign) (n : ℕ) (arms : List Statement) (rows : List PlainInstance) (budget : ℕ) (a : Answer) → length arms ≡ 0 → ((driving : Driving) → Done d rows rows n driving idle_does budget a)
    → Done d rows rows n (form_drives (Par (plain_statements arms))) (form_does (Par (plain_statements arms))) budget a
par_empty d n [] rows budget a e h = h (form_drives (Par (plain_statements [])))
par_empty d n (x ∷ xs) rows budget a e h = absurd (let f : suc (length xs) ≡ 0 = e in omega (arith, f))

-- an arm by its number
pub arm_is : (arms : List Statement) (k : ℕ) (x : Statement) → k < length arms → x ≡ get_or arms k x → slice_get (map plain_statement arms) k ≡ Some (plain_statement x)
arm_is arms k x lt is = at arms k x lt ∙ ap (λ s. Some (plain_statement s)) (sym is)
  where
    at : (arms : List Statement) (k : ℕ) (x : Statement) → k < length arms → slice_get (map plain_statement arms) k ≡ Some (plain_statement (get_or arms k x))
    at [] k x lt = absurd (omega arith)
    at (s ∷ ss) zero x lt = refl
    at (s ∷ ss) (suc k) x lt = at ss k x (let h : suc k < suc (length ss) = lt in omega arith)

pub map_length : (arms : List Statement) → length (map plain_statement arms) ≡ length arms
map_length [] = refl
map_length (s ∷ ss) = ap suc (map_length ss)

pub par_stands : (d : PlainDesign) (n : ℕ) (arms : List Statement) → FormStands d n (Par (plain_statements arms)) → StandIn d n (plain_statements arms)
par_stands d n arms (place, stands) path v number h = stands path v number (inr h)
