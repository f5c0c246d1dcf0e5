-- What runs from a state come to, told by cycles; and that it carries over, with the scripts, to what makes the same cycles.
use Rattle.std.proofs.Common.{◌≡◌, ℕ, suc, ◌≤◌, Bool, true, false, List, ◌∙◌}
use Rattle.cx_meaning.specs.Answers.{End, More}
use Rattle.cx_meaning.specs.Designs.{PlainDesign}
use Rattle.cx_meaning.specs.Instances.{State, tree_of, words_of}
use Rattle.cx_emitted.specs.Scripts.{Stay, Undone, here, further, Passes, over, waits, runs}
use Rattle.cx_emitted.specs.Stays.{run_from}

-- done comes in a cycle up to this number, or in none
pub data ComesBy {S : Type 0} (cycle : Bool → S → Bool → S → Type 0) (s : S) (bound : ℕ) : Type 0 where
  done_in : {last next : S} (turns : ℕ) → turns ≤ bound → Undone cycle s turns last → cycle true last true next → ComesBy cycle s bound
  none : {t : S} → Undone cycle s (suc bound) t → ComesBy cycle s bound

-- done comes first in this cycle, with these words
pub record EndsBy {S : Type 0} (cycle : Bool → S → Bool → S → Type 0) (words : S → List (List ℕ)) (s : S) (turns : ℕ) (left : List (List ℕ)) : Type 0 where
  pub last : S
  pub next : S
  pub undone : Undone cycle s turns last
  pub done : cycle true last true next
  pub told : words last ≡ left

-- AHEAD of a state of the cycles is what is ahead of a state of the design
pub record Ahead (d : PlainDesign) (own : State) {S : Type 0} (cycle : Bool → S → Bool → S → Type 0) (words : S → List (List ℕ)) (s : S) : Type 0 where
  pub told : words s ≡ words_of (tree_of d) own
  pub ends : (budget turns : ℕ) (after : State) → run_from d own budget ≡ End after turns → (turns ≤ budget) × EndsBy cycle words s turns (words_of (tree_of d) after)
  pub goes_on : (budget : ℕ) → run_from d own budget ≡ More → (t : S) × Undone cycle s (suc budget) t
  pub comes : (budget : ℕ) → ComesBy cycle s budget

-- A SCRIPT LEADS from a first state to one of which this is ahead
pub record LeadsTo (d : PlainDesign) {S : Type 0} (cycle : Bool → S → Bool → S → Type 0) (words : S → List (List ℕ)) (first : S) (stays : List Stay) (own : State) : Type 0 where
  pub now : S
  pub passes : Passes cycle first stays now
  pub ahead : Ahead d own cycle words now

-- where one stands for the other, each cycle of the first is one of the second
module _ {S T : Type 0} (first : Bool → S → Bool → S → Type 0) (second : Bool → T → Bool → T → Type 0) (Stands : S → T → Type 0)
    (carry : (go : Bool) (s : S) (done : Bool) (t : S) (k : T) → Stands s k → first go s done t → (l : T) × second go k done l × Stands t l) where
  undone_carries : {s t : S} {n : ℕ} → Undone first s n t → (k : T) → Stands s k → (l : T) × Undone second k n l × Stands t l
  undone_carries here k h = (k, here, h)
  undone_carries {s} (further {t = t} c rest) k h =
      let x = carry true s false t k h c in
      let r = undone_carries rest x.0 x.2 in
      (r.0, further x.1 r.1, r.2)

  passes_carry : {s t : S} {stays : List Stay} → Passes first s stays t → (k : T) → Stands s k → (l : T) × Passes second k stays l × Stands t l
  passes_carry over k h = (k, over, h)
  passes_carry {s} (waits {t = t} c rest) k h =
      let x = carry false s false t k h c in
      let r = passes_carry rest x.0 x.2 in
      (r.0, waits x.1 r.1, r.2)
  passes_carry (runs {last = last} {t = t} undone c rest) k h =
      let u = undone_carries undone k h in
      let x = carry true last true t u.0 u.2 c in
      let r = passes_carry rest x.0 x.2 in
      (r.0, runs u.1 x.1 r.1, r.2)

  module _ (words : S → List (List ℕ)) (told : T → List (List ℕ)) (same : (s : S) (k : T) → Stands s k → told k ≡ words s) where
    ends_carry : (s : S) (k : T) → Stands s k → (turns : ℕ) (left : List (List ℕ)) → EndsBy first words s turns left → EndsBy second told k turns left
    ends_carry s k h turns left e =
        let u = undone_carries e.undone k h in
        let x = carry true e.last true e.next u.0 u.2 e.done in
        record { last = u.0; next = x.0; undone = u.1; done = x.1; told = same e.last u.0 u.2 ∙ e.told }

    comes_carry : (s : S) (k : T) → Stands s k → (bound : ℕ) → ComesBy first s bound → ComesBy second k bound
    comes_carry s k h bound (done_in {last = last} {next = next} turns within undone c) =
        let u = undone_carries undone k h in
        let x = carry true last true next u.0 u.2 c in
        done_in turns within u.1 x.1
    comes_carry s k h bound (none undone) = let u = undone_carries undone k h in none u.1

    ahead_carries : (d : PlainDesign) (own : State) (s : S) (k : T) → Stands s k → Ahead d own first words s → Ahead d own second told k
    ahead_carries d own s k h a = record {
      told = same s k h ∙ a.told;
      ends = λ budget turns after e. let x = a.ends budget turns after e in (x.0, ends_carry s k h turns (words_of (tree_of d) after) x.1);
      goes_on = λ budget e. let x = a.goes_on budget e in let u = undone_carries x.1 k h in (u.0, u.1);
      comes = λ budget. comes_carry s k h budget (a.comes budget);
    }

    -- SCRIPTS CARRY OVER, with what is ahead
    pub leads_carry : (d : PlainDesign) (s : S) (k : T) (stays : List Stay) (own : State) → Stands s k → LeadsTo d first words s stays own → LeadsTo d second told k stays own
    leads_carry d s k stays own h is =
        let r = passes_carry is.passes k h in
        record { now = r.0; passes = r.1; ahead = ahead_carries d own is.now r.0 r.2 is.ahead }
