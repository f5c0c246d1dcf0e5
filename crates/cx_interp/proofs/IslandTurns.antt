-- A cycle of an island, from the samples that were taken.
use Rattle.std.proofs.Common.{◌≡◌, ℕ, false, List, [], Option, Some, None, Result, Ok, Err, sym, ap, ◌∙◌, subst, refl}
use Rattle.cx_meaning.specs.Designs.{PlainComponent, PlainDesign, PlainForm}
use Rattle.cx_meaning.specs.Instances.{Instance, Path, State, Set, part_of, instance_at, tree_of}
use Rattle.cx_meaning.specs.Active as acting
use Rattle.cx_meaning.specs.Active.{nothing, entries, Entry}
use Rattle.cx_meaning.specs.Cycles.{Fault, fault_at, Ended, Goes, Faults, cycle, cycle_of, every_cell}
use Rattle.cx_meaning.specs.Sights.{Held, Look, seen}
use Rattle.cx_meaning.specs.Islands.{History, active_in, form_flat, first_unclear, turn_of, unless_unclear}
use Rattle.cx_laws.specs.Samples.{Samples, says, active_by, begun_by, samples_after}
use Rattle.cx_laws.specs.SampledIslands.{sampled_turn}
use Rattle.cx_design.specs.declared.actives.PortFault.{PortFault}
use Rattle.cx_design.specs.declared.actives.Active.{Active}
use Rattle.cx_design.specs.PlainActives.{plain_active, TellsFault}
use Rattle.cx_state.specs.Tables.{IsNumber}
use Rattle.cx_state.specs.States.{PlainInstance, inputs_held, IsStateOf, StandsFor, under_path, put_path}
use Rattle.cx_eval.specs.Evaluated.{Cycled, EndsAs, fault_along}
use Rattle.cx_frames.specs.Rests.{IsUndriven, IsSettledAt}
use Rattle.cx_turns.specs.declared.turns.Turn.TheVariants as turns
use Rattle.cx_turns.specs.Groups.{Driving}
use Rattle.cx_turns.specs.Turns.{IsBusy, TellsTurn, cycle_as}
use Rattle.cx_turns.proofs.PathLemmas.{under_put, put_put, settled_under}
use Rattle.cx_turns.proofs.IslandLemmas.{entries_are}
use Rattle.cx_turns.proofs.TestLemmas.{tells_own}
use Rattle.cx_turns.proofs.TurnLemmas.{still_busy, rest_settled}
use Rattle.cx_turns.specs.Islands.{HasPart, SamplesTaken}
use Rattle.cx_turns.specs.Rooms.{HasActive}
use Rattle.cx_interp.specs.IslandCycles.{CycleTaken}

module _ (d : PlainDesign) (n t : ℕ) (form : PlainForm) (driving : Driving) (kept next : Samples) (part : PlainComponent) (look : Look) (rows : List PlainInstance)
    (is_part : (path : Path) → IsNumber d n path → part ≡ part_of (instance_at (tree_of d) path))
    (is_look : (path : Path) (s : State) → IsNumber d n path → StandsFor (tree_of d) rows s → look ≡ seen (instance_at (tree_of d) path) (inputs_held rows n) nothing (under_path path s))
    (taken : next ≡ samples_after part (says look) t form kept) where
  look_now : (path : Path) (s now : State) → IsNumber d n path → StandsFor (tree_of d) rows (put_path path now s) → look ≡ seen (instance_at (tree_of d) path) (inputs_held rows n) nothing now
  look_now path s now number stands =
      subst (λ (y : State). look ≡ seen (instance_at (tree_of d) path) (inputs_held rows n) nothing y) (under_put path now s) (is_look path (put_path path now s) number stands)

  -- the samples are those of the state at a path
  pub sampled_there : (path : Path) (s now : State) → IsNumber d n path → StandsFor (tree_of d) rows (put_path path now s)
      → next ≡ samples_after (part_of (instance_at (tree_of d) path)) (says (seen (instance_at (tree_of d) path) (inputs_held rows n) nothing now)) t form kept
  sampled_there path s now number stands =
      subst (λ (p : PlainComponent). next ≡ samples_after p (says (seen (instance_at (tree_of d) path) (inputs_held rows n) nothing now)) t form kept) (is_part path number)
      (subst (λ (l : Look). next ≡ samples_after part (says l) t form kept) (look_now path s now number stands) taken)

  -- and so is what the first unclear port is
  pub unclear_there : (f : Option Fault) → first_unclear look (begun_by part next t form) ≡ f → (path : Path) (s now : State) → IsNumber d n path → StandsFor (tree_of d) rows (put_path path now s)
      → first_unclear (seen (instance_at (tree_of d) path) (inputs_held rows n) nothing now) (begun_by (part_of (instance_at (tree_of d) path)) next t form) ≡ f
  unclear_there f e path s now number stands =
      subst (λ (p : PlainComponent). first_unclear (seen (instance_at (tree_of d) path) (inputs_held rows n) nothing now) (begun_by p next t form) ≡ f) (is_part path number)
      (subst (λ (l : Look). first_unclear l (begun_by part next t form) ≡ f) (look_now path s now number stands) e)

  -- A PORT THAT BEGINS IS NO VALUE: its fault is that of the cycle
  pub cycle_unclear : (f : Fault) (told : PortFault) → IsStateOf d rows → first_unclear look (begun_by part next t form) ≡ Some f
      → ((path : Path) → IsNumber d n path → TellsFault (tree_of d) (fault_along path f) told) → CycleTaken d rows rows n form driving t kept next (turns.Faults told)
  cycle_unclear f told fits e tells = record {
    tells = λ path s now number settled busy stands.
        let i : Instance = instance_at (tree_of d) path in
        let held : Held = inputs_held rows n in (
          sampled_there path s now number stands,
          (
            f,
            tells path number,
            ap (λ (o : Option Fault). unless_unclear o (cycle i held (entries (active_by (part_of i) next t form)) now)) (unclear_there (Some f) e path s now number stands),
            refl,
          ),
        );
    fits = fits;
  }

  -- THE CYCLE OF LISTED CELLS, of which the others are not driven, where no port that begins is unclear
  module _ (new : List PlainInstance) (active : Active) (list : List Entry) (is_list : list ≡ active_by part next t form) (acts : (i : Instance) → plain_active i active ≡ entries list)
      (undriven : (path : Path) (c : ℕ) → IsNumber d n path → driving (instance_at (tree_of d) path) c ≡ false → IsUndriven (part_of (instance_at (tree_of d) path)) (entries list) c)
      (suffices : (path : Path) (held : Held) (act : acting.Active) (listed : Set) (s : State) → ((c : ℕ) → listed c ≡ false → IsUndriven (part_of (instance_at (tree_of d) path)) act c)
      → ((c : ℕ) → listed c ≡ false → IsSettledAt (instance_at (tree_of d) path) s c) → cycle_of (instance_at (tree_of d) path) held act listed s ≡ cycle_of (instance_at (tree_of d) path) held act every_cell s) where
    told_by : (path : Path) (s now : State) (driven : Set) (x : Ended) (r : Result (Unit {0}) PortFault) → ((after : State) → x ≡ Goes after → IsBusy driven (under_path path s) after)
        → EndsAs d path (put_path path now s) rows new r x → TellsTurn d path s rows new driven (cycle_as r) (turn_of x)
    told_by path s now driven (Goes after) (Ok u) busy (ends, stands, alike) = (after, refl, subst (λ (y : State). StandsFor (tree_of d) new y) (put_put path after now s) stands, busy after refl, alike)
    told_by path s now driven (Goes after) (Err f) busy (ends, stands, alike) = absurd (ends f refl)
    told_by path s now driven (Faults f) r busy (told, is, tells, same) = subst (λ q. TellsTurn d path s rows new driven (cycle_as q) (turn_of (Faults f))) (sym is) (f, tells, refl, same)

    active_there : (path : Path) → IsNumber d n path → entries list ≡ entries (active_by (part_of (instance_at (tree_of d) path)) next t form)
    active_there path number = ap entries (is_list ∙ ap (λ (p : PlainComponent). active_by p next t form) (is_part path number))

    pub cycle_clear : (listed : Set) → ((path : Path) (c : ℕ) → IsNumber d n path → listed c ≡ false → driving (instance_at (tree_of d) path) c ≡ false) → (r : Result (Unit {0}) PortFault) → IsStateOf d new → first_unclear look (begun_by part next t form) ≡ None
        → Cycled d rows new n active listed r → CycleTaken d rows new n form driving t kept next (cycle_as r)
    cycle_clear listed covers r fits clear cycled = record {
      tells = λ path s now number settled busy stands.
          let i : Instance = instance_at (tree_of d) path in
          let held : Held = inputs_held rows n in
          let act : acting.Active = entries list in
          let whole : cycle_of i held act (driving i) now ≡ cycle_of i held act every_cell now =
          suffices path held act (driving i) now (λ c e. undriven path c number e) (λ c e. rest_settled i (driving i) (under_path path s) now (settled_under (tree_of d) path s settled) busy c e) in
          let same : cycle_of i held act listed now ≡ cycle_of i held act every_cell now =
          suffices path held act listed now (λ c e. undriven path c number (covers path c number e)) (λ c e. rest_settled i (driving i) (under_path path s) now (settled_under (tree_of d) path s settled) busy c (covers path c number e)) in
          let ends : EndsAs d path (put_path path now s) rows new r (cycle_of i held act every_cell now) =
          subst (EndsAs d path (put_path path now s) rows new r) same
          (subst (λ (y : State). EndsAs d path (put_path path now s) rows new r (cycle_of i held act listed y)) (under_put path now s)
          (subst (λ (a : acting.Active). EndsAs d path (put_path path now s) rows new r (cycle_of i held a listed (under_path path (put_path path now s)))) (acts i) (cycled path (put_path path now s) number stands))) in
          let turn : turn_of (cycle_of i held act every_cell now) ≡ sampled_turn i held form t next now =
          ap (λ (a : acting.Active). turn_of (cycle i held a now)) (active_there path number)
          ∙ sym (ap (λ (o : Option Fault). unless_unclear o (cycle i held (entries (active_by (part_of i) next t form)) now)) (unclear_there None clear path s now number stands)) in (
            sampled_there path s now number stands,
            subst (λ u. TellsTurn d path s rows new (driving i) (cycle_as r) u) turn
                (told_by path s now (driving i) (cycle_of i held act every_cell now) r
                (λ after e. still_busy i held act (driving i) (driving i) (under_path path s) now after (λ c off. off) busy (whole ∙ e)) ends),
          );
      fits = fits;
    }

-- A CYCLE, by what was told of its samples
module _ (d : PlainDesign) (n t : ℕ) (form : PlainForm) (driving : Driving) (kept next : Samples) (part : PlainComponent) (rows : List PlainInstance) (is_part : HasPart d n part) where
  pub taken_unclear : (told : PortFault) → SamplesTaken d rows n part form t kept next (Some told) → IsStateOf d rows → CycleTaken d rows rows n form driving t kept next (turns.Faults told)
  taken_unclear told one fits =
      cycle_unclear d n t form driving kept next part one.look rows is_part one.sees one.taken (fault_at told.kind told.port) told fits one.unclear.0
      (λ path number.
      subst (λ m. TellsFault (tree_of d) (fault_along path (fault_at told.kind told.port)) (record { kind = told.kind; instance = m; port = told.port })) (sym one.unclear.1) (tells_own d n path told.kind told.port number))

  pub taken_clear : (new : List PlainInstance) (active : Active) (h : History) (r : Result (Unit {0}) PortFault) → SamplesTaken d rows n part form t kept next None → IsStateOf d new → HasActive active (active_by part next t form)
      → active_by part next t form ≡ active_in h t (form_flat part form 0 [])
      → ((i : Instance) (c : ℕ) → driving i c ≡ false → IsUndriven (part_of i) (entries (active_in h t (form_flat (part_of i) form 0 []))) c)
      → ((path : Path) (held : Held) (act : acting.Active) (listed : Set) (s : State) → ((c : ℕ) → listed c ≡ false → IsUndriven (part_of (instance_at (tree_of d) path)) act c)
      → ((c : ℕ) → listed c ≡ false → IsSettledAt (instance_at (tree_of d) path) s c) → cycle_of (instance_at (tree_of d) path) held act listed s ≡ cycle_of (instance_at (tree_of d) path) held act every_cell s)
      → (listed : Set) → ((path : Path) (c : ℕ) → IsNumber d n path → listed c ≡ false → driving (instance_at (tree_of d) path) c ≡ false)
      → Cycled d rows new n active listed r → CycleTaken d rows new n form driving t kept next (cycle_as r)
  taken_clear new active h r one fits has list undriven suffices listed covers cycled =
      cycle_clear d n t form driving kept next part one.look rows is_part one.sees one.taken new active (active_by part next t form) refl (λ i. entries_are i active (active_by part next t form) has)
      (λ path c number off.
      subst (λ (x : List Entry). IsUndriven (part_of (instance_at (tree_of d) path)) (entries x) c)
      (sym (list ∙ ap (λ (p : PlainComponent). active_in h t (form_flat p form 0 [])) (is_part path number))) (undriven (instance_at (tree_of d) path) c off))
      suffices listed covers r fits one.unclear cycled
