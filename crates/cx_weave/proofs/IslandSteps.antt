-- A cycle of an island of which the samples are kept, as a turn of its strand.
use Rattle.std.proofs.Common.{◌≡◌, ℕ, zero, suc, ◌≤◌, Bool, true, false, ◌&&◌, nat_eq, List, [], length, Option, Some, None, Result, Ok, Err, refl, sym, ap, ◌∙◌, subst, arith, if◌then◌else◌}
use Rattle.std.proofs.Math.Path.{fun_ext}
use Rattle.cx_meaning.specs.Control.{form_drives}
use Rattle.cx_meaning.specs.declared.ports.PortRef.{PortRef}
use Rattle.cx_meaning.specs.Designs.{PlainComponent, PlainDesign, PlainForm}
use Rattle.cx_meaning.specs.Instances.{Instance, Path, State, Set, part_of, instance_at, tree_of}
use Rattle.cx_meaning.specs.Active as acting
use Rattle.cx_meaning.specs.Active.{nothing, entries, Entry}
use Rattle.cx_meaning.specs.Cycles.{Fault, fault_at, cycle_of}
use Rattle.cx_meaning.specs.Sights.{Held, Look, seen}
use Rattle.cx_meaning.specs.Truths.{truth_of}
use Rattle.cx_meaning.specs.Answers as answers
use Rattle.cx_meaning.specs.Islands.{History, and_now, is_one, active_in, looked_at, form_flat, first_unclear, unless_unclear}
use Rattle.cx_laws.specs.Positions.{active_at, begun_at}
use Rattle.cx_laws.specs.Samples.{Samples, says, active_by, begun_by, samples_after, AreKept, form_ifs}
use Rattle.cx_design.specs.declared.actives.PortFault.{PortFault}
use Rattle.cx_design.specs.declared.actives.Active.{Active}
use Rattle.cx_design.specs.PlainActives.{plain_active, TellsFault}
use Rattle.cx_state.specs.Tables.{IsNumber}
use Rattle.cx_state.specs.States.{PlainInstance, inputs_held, StandsFor, under_path}
use Rattle.cx_eval.specs.Evaluated.{Cycled, EndsAs, HeldAlike, fault_along}
use Rattle.cx_eval_cycle.specs.Passes.{listed_in}
use Rattle.cx_frames.proofs.IslandFrames.{active_same, looked_same}
use Rattle.cx_interp_islands.specs.Rooms.{samples_of}
use Rattle.cx_interp_islands.specs.Sampled.{AreSampled}
use Rattle.cx_turns.specs.Islands.{HasPart, SamplesTaken}
use Rattle.cx_turns.specs.Rooms.{HasActive}
use Rattle.cx_turns.specs.Turns.{cycle_as}
use Rattle.cx_turns.proofs.IslandLemmas.{entries_are}
use Rattle.cx_turns.proofs.TestLemmas.{tells_own}
use Rattle.cx_weave.specs.declared.strands.Strand.{Strand}
use Rattle.cx_orders.specs.Open.{InIsland}
use Rattle.cx_orders.specs.Steps.{step, turned}
use Rattle.cx_orders.specs.Leaves.{is_tested, sampled_now, samples_now, own_island}
use Rattle.cx_turns.specs.Groups.{ListDriven}
use Rattle.cx_weave.specs.Strands.{AnIsland, IsAtCycle, IsShown, KeptBefore, Knows, Shows, plain_strand}
use Rattle.cx_weave.specs.Strides.{TurnTold, HasRested, HasStepped, IslandTaken, StepTold}
use Rattle.cx_orders.proofs.Runs.{tested_fine}
use Rattle.cx_weave.proofs.TurnsTaken.{ends_told}
use Rattle.cx_state.proofs.TablesLemmas.{one_path}

abbrev pub FirstKept : Type 0
FirstKept = (part : PlainComponent) (form : PlainForm) (h : History) (look : Look) (kept : Samples) → AreKept part (and_now h 0 look) 0 form (samples_after part (says look) 0 form kept)

abbrev pub LaterKept : Type 0
LaterKept = (part : PlainComponent) (form : PlainForm) (h : History) (t : ℕ) (look : Look) (kept : Samples) → AreKept part h t form kept → AreKept part (and_now h (suc t) look) (suc t) form (samples_after part (says look) (suc t) form kept)

-- what is known of the samples, once those of cycle t are taken
module _ (first : FirstKept) (later : LaterKept) (part : PlainComponent) (form : PlainForm) (look : Look) (kept : Samples) where
  pub kept_now : (t : ℕ) (h : History) → KeptBefore part h t form kept → AreKept part (and_now h t look) t form (samples_after part (says look) t form kept)
  kept_now zero h before = first part form h look kept
  kept_now (suc t) h before = later part form h t look kept before

  tested_now : (tested : PortRef → Bool) (h k : History) (t : ℕ) → ((port : PortRef) (at : ℕ) → tested port ≡ true → h port at ≡ k port at) → (port : PortRef) (at : ℕ) → tested port ≡ true → sampled_now tested h t look port at ≡ and_now k t look port at
  tested_now tested h k t same port at is = ap (λ b. b && and_now h t look port at) is ∙ now (nat_eq t at)
    where
      now : (b : Bool) → (if b then is_one (truth_of (look port)) else h port at) ≡ (if b then is_one (truth_of (look port)) else k port at)
      now true = refl
      now false = same port at is

  pub knows_now : (t : ℕ) (h : History) → Knows part form t h kept → Knows part form (suc t) (sampled_now (is_tested form) h t look) (samples_after part (says look) t form kept)
  knows_now t h knows = record {
    history = and_now knows.history t look;
    same = tested_now (is_tested form) h knows.history t knows.same;
    before = kept_now t knows.history knows.before;
  }

abbrev pub SamplesGive : PlainComponent → PlainForm → ℕ → Samples → Type 0
SamplesGive part form t kept =
    (h : History) → AreKept part h t form kept
    → (active_by part kept t form ≡ active_at part h t form) × (begun_by part kept t form ≡ begun_at part h t form)
    × (active_in h t (form_flat part form 0 []) ≡ active_at part h t form) × (looked_at h t (form_flat part form 0 []) ≡ begun_at part h t form)

-- the laws of samples, of one cycle
pub gives_cycle : (part : PlainComponent) (form : PlainForm) (t : ℕ) (kept : Samples) → ((h : History) → AreKept part h t form kept → active_by part kept t form ≡ active_at part h t form) → ((h : History) → AreKept part h t form kept → begun_by part kept t form ≡ begun_at part h t form)
    → ((h : History) → active_in h t (form_flat part form 0 []) ≡ active_at part h t form) → ((h : History) → looked_at h t (form_flat part form 0 []) ≡ begun_at part h t form) → SamplesGive part form t kept
gives_cycle part form t kept active begun groups ports h are = (active h are, begun h are, groups h, ports h)

pub are_sampled : (part : PlainComponent) (form : PlainForm) (look : Look) (kept next : Samples) → FirstKept → LaterKept → (t : ℕ) → (h : History) × KeptBefore part h t form kept → next ≡ samples_after part (says look) t form kept → AreSampled part t form next
are_sampled part form look kept next first later t (h, before) e = (and_now h t look, subst (λ x. AreKept part (and_now h t look) t form x) (sym e) (kept_now first later part form look kept t h before))

-- THE CYCLE by its samples
module _ (first : FirstKept) (later : LaterKept) (i : Instance) (held : Held) (u : State) (form : PlainForm) (t : ℕ) (h : History) (kept next : Samples) (taken : next ≡ samples_after (part_of i) (says (seen i held nothing u)) t form kept)
    (knows : Knows (part_of i) form t h kept) (gives : SamplesGive (part_of i) form t next) where
  abbrev k : History
  k = and_now knows.history t (seen i held nothing u)

  pub next_known : Knows (part_of i) form (suc t) (samples_now i held form h t u) next
  next_known = subst (λ x. Knows (part_of i) form (suc t) (samples_now i held form h t u) x) (sym taken) (knows_now first later (part_of i) form (seen i held nothing u) kept t h knows)

  are : AreKept (part_of i) k t form next
  are = subst (λ x. AreKept (part_of i) k t form x) (sym taken) (kept_now first later (part_of i) form (seen i held nothing u) kept t knows.history knows.before)

  same : (port : PortRef) (at : ℕ) → is_tested form port ≡ true → samples_now i held form h t u port at ≡ k port at
  same = tested_now first later (part_of i) form (seen i held nothing u) kept (is_tested form) h knows.history t knows.same

  active : active_in (samples_now i held form h t u) t (form_flat (part_of i) form 0 []) ≡ active_by (part_of i) next t form
  active =
      active_same (λ g. Unit {0}) (λ port. is_tested form port ≡ true) (samples_now i held form h t u) k same t (form_flat (part_of i) form 0 []) (tested_fine (part_of i) form)
      ∙ (gives k are).2 ∙ sym (gives k are).0

  looked : looked_at (samples_now i held form h t u) t (form_flat (part_of i) form 0 []) ≡ begun_by (part_of i) next t form
  looked =
      looked_same (λ g. Unit {0}) (λ port. is_tested form port ≡ true) (samples_now i held form h t u) k same t (form_flat (part_of i) form 0 []) (tested_fine (part_of i) form)
      ∙ (gives k are).3 ∙ sym (gives k are).1

  pub own_is : own_island i held form t (samples_now i held form h t u) u
      ≡ unless_unclear (first_unclear (seen i held nothing u) (begun_by (part_of i) next t form)) (cycle_of i held (entries (active_by (part_of i) next t form)) (form_drives (part_of i) form) u)
  own_is =
      ap (λ ports. unless_unclear (first_unclear (seen i held nothing u) ports) (cycle_of i held (entries (active_in (samples_now i held form h t u) t (form_flat (part_of i) form 0 []))) (form_drives (part_of i) form) u)) looked
      ∙ ap (λ es. unless_unclear (first_unclear (seen i held nothing u) (begun_by (part_of i) next t form)) (cycle_of i held (entries es) (form_drives (part_of i) form) u)) active

module _ (d : PlainDesign) (n t : ℕ) (form : PlainForm) (part : PlainComponent) (old : List PlainInstance) (kept next : Samples) (is_part : HasPart d n part) (first : FirstKept) (later : LaterKept)
    (gives : (path : Path) → IsNumber d n path → SamplesGive (part_of (instance_at (tree_of d) path)) form t next) where
  -- what was taken is what is seen at a path
  taken_there : (look : Look) → next ≡ samples_after part (says look) t form kept → (path : Path) → IsNumber d n path → (now : Look) → look ≡ now → next ≡ samples_after (part_of (instance_at (tree_of d) path)) (says now) t form kept
  taken_there look taken path number now sees = taken ∙ ap (λ (l : Look). samples_after part (says l) t form kept) sees ∙ ap (λ (p : PlainComponent). samples_after p (says now) t form kept) (is_part path number)

  unclear_there : (look : Look) (f : Option Fault) → first_unclear look (begun_by part next t form) ≡ f → (path : Path) → IsNumber d n path → (now : Look) → look ≡ now → first_unclear now (begun_by (part_of (instance_at (tree_of d) path)) next t form) ≡ f
  unclear_there look f is path number now sees =
      ap (λ (p : PlainComponent). first_unclear now (begun_by p next t form)) (sym (is_part path number)) ∙ ap (λ (l : Look). first_unclear l (begun_by part next t form)) (sym sees) ∙ is

  told_own : (told : PortFault) → told.instance ≡ n → (path : Path) → IsNumber d n path → TellsFault (tree_of d) (fault_along path (fault_at told.kind told.port)) told
  told_own told is path number =
      subst (λ m. TellsFault (tree_of d) (fault_along path (fault_at told.kind told.port)) (record { kind = told.kind; instance = m; port = told.port })) (sym is) (tells_own d n path told.kind told.port number)

  -- a port that begins is no value
  pub island_unclear : (told : PortFault) → SamplesTaken d old n part form t kept next (Some told) → IslandTaken d old old n form t kept next (Err told)
  island_unclear told taken path s h number stands knows =
      let i = instance_at (tree_of d) path in
      let held = inputs_held old n in
      let u = under_path path s in
      let sees = taken.sees path s number stands in
      let there = taken_there taken.look taken.taken path number (seen i held nothing u) sees in
      let fault = unclear_there taken.look (Some (fault_at told.kind told.port)) taken.unclear.0 path number (seen i held nothing u) sees in (
        next_known first later i held u form t h kept next there knows (gives path number),
        (
          fault_at told.kind told.port,
          told_own told taken.unclear.1 path number,
          own_is first later i held u form t h kept next there knows (gives path number)
              ∙ ap (λ o. unless_unclear o (cycle_of i held (entries (active_by (part_of i) next t form)) (form_drives (part_of i) form) u)) fault,
          refl,
        ),
      )

  -- none is
  pub island_clear : (new : List PlainInstance) (active : Active) (cells : List ℕ) (r : Result (Unit {0}) PortFault) → SamplesTaken d old n part form t kept next None → HasActive active (active_by part next t form) → ListDriven d n cells (λ p. form_drives p form)
      → Cycled d old new n active (listed_in cells) r → IslandTaken d old new n form t kept next r
  island_clear new active cells r taken has lists cycled path s h number stands knows =
      let i = instance_at (tree_of d) path in
      let held = inputs_held old n in
      let u = under_path path s in
      let sees = taken.sees path s number stands in
      let there = taken_there taken.look taken.taken path number (seen i held nothing u) sees in
      let clear = unclear_there taken.look None taken.unclear path number (seen i held nothing u) sees in
      let acts : plain_active i active ≡ entries (active_by (part_of i) next t form) =
      entries_are i active (active_by part next t form) has ∙ ap (λ (p : PlainComponent). entries (active_by p next t form)) (is_part path number) in
      let set : listed_in cells ≡ form_drives (part_of i) form = fun_ext (λ c. lists path c number) in
      let ends : EndsAs d path s old new r (cycle_of i held (entries (active_by (part_of i) next t form)) (form_drives (part_of i) form) u) =
      subst (λ (x : Set). EndsAs d path s old new r (cycle_of i held (entries (active_by (part_of i) next t form)) x u)) set
      (subst (λ (a : acting.Active). EndsAs d path s old new r (cycle_of i held a (listed_in cells) u)) acts (cycled path s number stands)) in (
        next_known first later i held u form t h kept next there knows (gives path number),
        subst (λ x. TurnTold d path s old new (cycle_as r) x)
            (sym (own_is first later i held u form t h kept next there knows (gives path number)
            ∙ ap (λ o. unless_unclear o (cycle_of i held (entries (active_by (part_of i) next t form)) (form_drives (part_of i) form) u)) clear))
            (ends_told d path s old new r (cycle_of i held (entries (active_by (part_of i) next t form)) (form_drives (part_of i) form) u) ends),
      )

-- what is kept of an island that is shown
pub island_kept : (d : PlainDesign) (n : ℕ) (form : PlainForm) (t left : ℕ) (samples : List Bool) (cells : List ℕ) → IsShown d n (AnIsland form t left samples cells) → (h : History) × IsAtCycle d n form t left h samples cells
island_kept d n form t left samples cells (o, (h, e, at)) = (h, at)

-- its cycle holds every input as before
pub island_held : (d : PlainDesign) (old new : List PlainInstance) (n : ℕ) (form : PlainForm) (t left : ℕ) (samples next : List Bool) (cells : List ℕ) (r : Result (Unit {0}) PortFault) → IslandTaken d old new n form t (samples_of samples) (samples_of next) r
    → (h : History) × IsAtCycle d n form t left h samples cells → (path : Path) (s : State) → IsNumber d n path → StandsFor (tree_of d) old s → HeldAlike old new
island_held d old new n form t left samples next cells r taken (h, at) path s number stands =
    let i = instance_at (tree_of d) path in
    by_turn r (own_island i (inputs_held old n) form t (samples_now i (inputs_held old n) form h t (under_path path s)) (under_path path s)) (taken path s h number stands (at.knows path number)).1
  where
    by_turn : (r : Result (Unit {0}) PortFault) (x : answers.Turn State Fault) → TurnTold d path s old new (cycle_as r) x → HeldAlike old new
    by_turn (Ok u) x told = told.3
    by_turn (Err f) x told = subst (λ rows. HeldAlike old rows) (sym told.3) (λ m input. refl)

-- AN ISLAND'S TURN
module _ (d : PlainDesign) (old new : List PlainInstance) (n k : ℕ) (form : PlainForm) (t : ℕ) (samples : List Bool) (cells : List ℕ) where
  pub island_ends : HasRested d old new n (λ part. form_drives part form) → HasStepped d old new n (AnIsland form t zero samples cells) k (Ok None)
  island_ends rests = record {
    tells = λ path s o number stands shown.
        subst (λ x. StepTold d n path s new (Ok None) (step (instance_at (tree_of d) path) (inputs_held old n) x k (under_path path s))) (sym shown.1) (rests.rests path s number stands, tt);
    held = λ m input le. rests.held m input;
  }

  module _ (left : ℕ) (next : List Bool) (held : HeldAlike old new) where
    pub island_goes : (strand : Strand) → plain_strand strand ≡ AnIsland form (suc t) left next cells → length next ≡ length samples → IslandTaken d old new n form t (samples_of samples) (samples_of next) (Ok tt) → HasStepped d old new n (AnIsland form t (suc left) samples cells) k (Ok (Some strand))
    island_goes strand is same taken = record {
      tells = λ path s o number stands (h, e, at).
          let i = instance_at (tree_of d) path in
          let u = under_path path s in
          let now = samples_now i (inputs_held old n) form h t u in
          let turn = taken path s h number stands (at.knows path number) in
          let went = turn.1 in
          let shown : Shows d n (plain_strand strand) (InIsland form (suc t) left now) =
          subst (λ p. Shows d n p (InIsland form (suc t) left now)) (sym is) (
            now,
            refl,
            record {
              stands = at.stands;
              island = at.island;
              room = subst (λ m. form_ifs form ≤ m) (sym same) at.room;
              driven = at.driven;
              ascending = at.ascending;
              within = at.within;
              knows = λ other there. subst (λ p. Knows (part_of (instance_at (tree_of d) p)) form (suc t) now (samples_of next)) (one_path d n path other number there) turn.0;
              whole = λ other there. (let w = at.whole other there in omega (arith, w));
            },
          ) in
          subst (λ x. StepTold d n path s new (Ok (Some strand)) (step i (inputs_held old n) x k u)) (sym e)
          (subst (λ x. StepTold d n path s new (Ok (Some strand)) (turned x u (InIsland form (suc t) left now))) (sym went.1) (went.2, shown));
      held = λ m input le. held m input;
    }

    pub island_stops : (told : PortFault) → IslandTaken d old new n form t (samples_of samples) (samples_of next) (Err told) → HasStepped d old new n (AnIsland form t (suc left) samples cells) k (Err told)
    island_stops told taken = record {
      tells = λ path s o number stands (h, e, at).
          let i = instance_at (tree_of d) path in
          let u = under_path path s in
          let now = samples_now i (inputs_held old n) form h t u in
          let stopped = (taken path s h number stands (at.knows path number)).1 in
          subst (λ x. StepTold d n path s new (Err told) (step i (inputs_held old n) x k u)) (sym e)
          (subst (λ x. StepTold d n path s new (Err told) (turned x u (InIsland form (suc t) left now))) (sym stopped.2) stopped.1);
      held = λ m input le. held m input;
    }
