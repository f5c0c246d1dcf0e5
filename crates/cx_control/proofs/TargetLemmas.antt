-- What a target is seen as: it is 1 only where a source is whose guard is 1; and where all that act on it are one assignment whose
-- guard is 1, it is that source.
use Rattle.std.proofs.Common.{◌≡◌, ℕ, ◌⊎◌, inl, inr, Bool, true, false, nat_eq, List, [], ◌∷◌, Option, Some, None, if◌then◌else◌, refl, sym, ap, ◌∙◌, subst}
use Rattle.std.specs.Prelude.{◌==◌}
use Rattle.std.proofs.lemmas.Bool.Decides.{eqb_tells}
use Rattle.std.proofs.lemmas.Bool.{eqb-true}
use Rattle.cx_text.specs.Members.{In}
use Rattle.cx_bits.specs.BitVector.{BitVector}
use Rattle.cx_meaning.specs.declared.ports.PortRef.{PortRef}
use Rattle.cx_meaning.specs.declared.sights.Seen.{Seen}
use Rattle.cx_meaning.specs.declared.sights.Seen.TheVariants.{Value, Conflict, Undefined}
use Rattle.cx_meaning.specs.Designs.{PlainAssign, PlainComponent, group_at}
use Rattle.cx_meaning.specs.Active.{Active, Owned, Acting, offset_of, same_port, source_order, drivers, only_at}
use Rattle.cx_meaning.specs.Truths.{Truth, One, Zero, truth_of}
use Rattle.cx_meaning.specs.Truths as truths
use Rattle.cx_meaning.specs.Sights.{Look, bit_of, guard_truth, Taken, Sources, Stopped, with_source, take_guard, taken, agreed, all_agreed, settle, target_seen}
use Rattle.cx_rules.specs.CallShape.{with_target}
use Rattle.cx_rules.proofs.FoundLemmas.{same_is}
use Rattle.cx_control.proofs.LeadsLemmas.{Stands, acting_stands}
use Rattle.cx_meaning.proofs.ActiveLemmas.{acting_has, group_stands}
use Rattle.cx_rules.proofs.ForeignLemmas.{OwnerOf, continuous, of_group, owner_of}

-- it is 1 only where a source is
pub record TakenFrom (look : Look) (acts : List Acting) : Type 0 where
  pub from : Acting
  pub acts_so : In acts from
  pub guard : guard_truth look from.offset from.assign.guard ≡ One
  pub source : truth_of (look from.assign.source.port) ≡ One

record FirstTaken (look : Look) (acts : List Acting) (source : PortRef) : Type 0 where
  from : Acting
  acts_so : In acts from
  guard : guard_truth look from.offset from.assign.guard ≡ One
  is : from.assign.source.port ≡ source

later_taken : (look : Look) (a : Acting) (acts : List Acting) (source : PortRef) → FirstTaken look acts source → FirstTaken look (a ∷ acts) source
later_taken look a acts source t = record { from = t.from; acts_so = inr t.acts_so; guard = t.guard; is = t.is }

sources_first : (source : PortRef) (rest : Taken) (s : PortRef) (more : List PortRef) → with_source source rest ≡ Sources (s ∷ more) → source ≡ s
sources_first source (Sources xs) s more e = cc
sources_first source (Stopped by) s more e = absurd (cc)

first_taken : (look : Look) (acts : List Acting) (s : PortRef) (more : List PortRef) → taken look acts ≡ Sources (s ∷ more) → FirstTaken look acts s
first_taken look [] s more e = absurd (cc)
first_taken look (a ∷ acts) s more e = by_guard (guard_truth look a.offset a.assign.guard) refl e (first_taken look acts s more)
  where
    by_guard : (t : Truth) → guard_truth look a.offset a.assign.guard ≡ t → take_guard t a.assign.source.port (taken look acts) ≡ Sources (s ∷ more) → (taken look acts ≡ Sources (s ∷ more) → FirstTaken look acts s) → FirstTaken look (a ∷ acts) s
    by_guard One is f later = record { from = a; acts_so = inl refl; guard = is; is = sources_first a.assign.source.port (taken look acts) s more f }
    by_guard Zero is f later = later_taken look a acts s (later f)
    by_guard truths.Conflict is f later = absurd (cc)
    by_guard truths.Undefined is f later = absurd (cc)

-- of sources that agree on 1 the first is
agreed_one : (x y : Seen) → truth_of (agreed x y) ≡ One → truth_of x ≡ One
agreed_one (Value a) (Value b) e = by (a.value == b.value) e
  where
    by : (t : Bool) → truth_of (if t then Value a else Conflict) ≡ One → truth_of (Value a) ≡ One
    by true f = f
    by false f = absurd (cc)
agreed_one (Value a) Conflict e = absurd (cc)
agreed_one (Value a) Undefined e = absurd (cc)
agreed_one Conflict y e = absurd (cc)
agreed_one Undefined y e = absurd (cc)

all_agreed_one : (look : Look) (s : PortRef) (more : List PortRef) → truth_of (all_agreed look s more) ≡ One → truth_of (look s) ≡ One
all_agreed_one look s [] e = e
all_agreed_one look s (t ∷ more) e = agreed_one (look s) (all_agreed look t more) e

pub target_one : (look : Look) (acts : List Acting) → truth_of (target_seen (bit_of false) look acts) ≡ One → TakenFrom look acts
target_one look acts e = by_taken (taken look acts) refl e
  where
    by_taken : (t : Taken) → taken look acts ≡ t → truth_of (settle (bit_of false) look t) ≡ One → TakenFrom look acts
    by_taken (Stopped (Value b)) is f = absurd (stopped acts is)
      where
        stopped : (xs : List Acting) → taken look xs ≡ Stopped (Value b) → ⊥
        stopped [] g = cc
        stopped (a ∷ rest) g = of_guard (guard_truth look a.offset a.assign.guard) (taken look rest) refl g (stopped rest)
          where
            of_guard : (t : Truth) (k : Taken) → taken look rest ≡ k → take_guard t a.assign.source.port k ≡ Stopped (Value b) → (taken look rest ≡ Stopped (Value b) → ⊥) → ⊥
            of_guard One (Sources xs) h j later = cc
            of_guard One (Stopped by) h j later = later (h ∙ j)
            of_guard Zero k h j later = later (h ∙ j)
            of_guard truths.Conflict k h j later = cc
            of_guard truths.Undefined k h j later = cc
    by_taken (Stopped Conflict) is f = absurd (cc)
    by_taken (Stopped Undefined) is f = absurd (cc)
    by_taken (Sources []) is f = absurd (cc)
    by_taken (Sources (s ∷ more)) is f =
        let t = first_taken look acts s more is in
        record { from = t.from; acts_so = t.acts_so; guard = t.guard; source = ap (λ p. truth_of (look p)) t.is ∙ all_agreed_one look s more f }

-- where all that act are one assignment, and its guard is 1
same_value : (b : BitVector) → agreed (Value b) (Value b) ≡ Value b
same_value b = by (eqb_tells b.value b.value)
  where
    by : (((b.value == b.value) ≡ true) × (b.value ≡ b.value)) ⊎ (((b.value == b.value) ≡ false) × (b.value ≡ b.value → ⊥)) → agreed (Value b) (Value b) ≡ Value b
    by (inl r) = ap (λ t. if t then Value b else Conflict) r.0
    by (inr r) = absurd (r.1 refl)

module _ (look : Look) (a : PlainAssign) (b : BitVector) (is_value : look a.source.port ≡ Value b) where
  abbrev AllSo : List Acting → Type 0
  AllSo acts = (x : Acting) → In acts x → (x.assign ≡ a) × (guard_truth look x.offset x.assign.guard ≡ One)

  all_taken : (acts : List Acting) → AllSo acts → settle (Value b) look (taken look acts) ≡ Value b
  all_taken [] each = refl
  all_taken (x ∷ rest) each =
      ap (λ t. settle (Value b) look (take_guard t x.assign.source.port (taken look rest))) (each x (inl refl)).1
      ∙ one_more (taken look rest) (all_taken rest (λ y i. each y (inr i)))
    where
      here : look x.assign.source.port ≡ Value b
      here = ap (λ (y : PlainAssign). look y.source.port) (each x (inl refl)).0 ∙ is_value

      one_more : (t : Taken) → settle (Value b) look t ≡ Value b → settle (Value b) look (with_source x.assign.source.port t) ≡ Value b
      one_more (Stopped by) e = e
      one_more (Sources []) e = here
      one_more (Sources (s ∷ more)) e = ap (λ v. agreed v (all_agreed look s more)) here ∙ ap (agreed (Value b)) e ∙ same_value b

  pub target_all : (undriven : Seen) (x : Acting) (rest : List Acting) → AllSo (x ∷ rest) → target_seen undriven look (x ∷ rest) ≡ Value b
  target_all undriven x rest each =
      ap (λ t. settle undriven look (take_guard t x.assign.source.port (taken look rest))) (each x (inl refl)).1
      ∙ some (taken look rest) ∙ sym (ap (λ t. settle (Value b) look (take_guard t x.assign.source.port (taken look rest))) (each x (inl refl)).1) ∙ all_taken (x ∷ rest) each
    where
      some : (t : Taken) → settle undriven look (with_source x.assign.source.port t) ≡ settle (Value b) look (with_source x.assign.source.port t)
      some (Stopped by) = refl
      some (Sources xs) = refl

-- WHAT ACTS on a port: assignments of the one group that is active, where no continuous one drives it
pub in_filter : (p : PortRef) (list : List PlainAssign) (a : PlainAssign) → In list a → same_port a.target p ≡ true → In (with_target p list) a
in_filter p [] a i e = absurd i
in_filter p (x ∷ list) a i e = by (same_port x.target p) refl i (in_filter p list a)
  where
    by : (b : Bool) → same_port x.target p ≡ b → In (x ∷ list) a → (In list a → same_port a.target p ≡ true → In (with_target p list) a) → In (if b then x ∷ with_target p list else with_target p list) a
    by true f (inl g) later = inl g
    by true f (inr j) later = inr (later j e)
    by false f (inl g) later = absurd (let h : same_port a.target p ≡ false = subst (λ (y : PlainAssign). same_port y.target p ≡ false) g f in both h)
      where
        both : same_port a.target p ≡ false → ⊥
        both h = cc
    by false f (inr j) later = later j e

pub of_filter : (p : PortRef) (list : List PlainAssign) (a : PlainAssign) → In (with_target p list) a → In list a × (same_port a.target p ≡ true)
of_filter p [] a i = absurd i
of_filter p (x ∷ list) a i = by (same_port x.target p) refl i (of_filter p list a)
  where
    by : (b : Bool) → same_port x.target p ≡ b → In (if b then x ∷ with_target p list else with_target p list) a → (In (with_target p list) a → In list a × (same_port a.target p ≡ true)) → In (x ∷ list) a × (same_port a.target p ≡ true)
    by true e (inl same) later = (inl same, ap (λ (y : PlainAssign). same_port y.target p) (sym same) ∙ e)
    by true e (inr j) later = let r = later j in (inr r.0, r.1)
    by false e j later = let r = later j in (inr r.0, r.1)

module _ (part : PlainComponent) (g : ℕ) (act : Active) (one : (h : ℕ) → act.offset h ≡ only_at g h) (p : PortRef)
    (bare : (o : Owned) → In (source_order part) o → o.owner ≡ None → o.assign.target ≡ p → ⊥) where
  only_group : (h k : ℕ) → only_at g h ≡ Some k → g ≡ h
  only_group h k e = by (nat_eq g h) refl e
    where
      by : (b : Bool) → nat_eq g h ≡ b → ◌≡◌ {A = Option ℕ} (if b then Some 0 else None) (Some k) → g ≡ h
      by true same f = eqb-true g h same
      by false differ f = absurd (cc)

  pub group_acts : (b : Acting) → In (drivers part act p) b → In (group_at part g).assigns b.assign × (b.assign.target ≡ p)
  group_acts b i = by_owner (owner_of part s.of s.is_in)
    where
      s : Stands act p (source_order part) b
      s = acting_stands act p (source_order part) b i

      target_is : b.assign.target ≡ p
      target_is = ap (λ (x : PlainAssign). x.target) s.assign ∙ s.target

      by_owner : OwnerOf part (Stands.of s) → In (group_at part g).assigns b.assign × (b.assign.target ≡ p)
      by_owner (continuous none j) = absurd (bare s.of s.is_in none s.target)
      by_owner (of_group h is j) =
          let same : g ≡ h = only_group h s.active.0 (sym (one h) ∙ ap (offset_of act) (sym is) ∙ s.active.1) in
          (subst (λ x. In (group_at part g).assigns x) (sym s.assign) (subst (λ n. In (group_at part n).assigns s.of.assign) (sym same) j), target_is)

  -- where one assignment of the group has the target, it alone acts
  pub record ActsAlone (a : PlainAssign) : Type 0 where
    pub first : Acting
    pub rest : List Acting
    pub are : drivers part act p ≡ first ∷ rest
    pub all : (b : Acting) → In (drivers part act p) b → b.assign ≡ a

  pub acts_alone : (a : PlainAssign) → with_target p (group_at part g).assigns ≡ a ∷ [] → In (group_at part g).assigns a → same_port a.target p ≡ true → act.offset g ≡ Some 0 → ActsAlone a
  acts_alone a alone stands target active = of_list (drivers part act p) refl there
    where
      there : In (drivers part act p) (record { offset = 0; assign = a })
      there = acting_has act p (source_order part) (record { owner = Some g; assign = a }) 0 (group_stands part g a stands) target active

      is_it : (b : Acting) → In (drivers part act p) b → b.assign ≡ a
      is_it b i = let r = group_acts b i in of_one (subst (λ l. In l b.assign) alone (in_filter p (group_at part g).assigns b.assign r.0 (same r.1)))
        where
          same : b.assign.target ≡ p → same_port b.assign.target p ≡ true
          same e = ap (λ q. same_port q p) e ∙ sym (ap (λ q. same_port q p) (same_is a.target p target)) ∙ target

          of_one : In (a ∷ []) b.assign → b.assign ≡ a
          of_one (inl e) = sym e
          of_one (inr none) = absurd none

      of_list : (l : List Acting) → drivers part act p ≡ l → In (drivers part act p) (record { offset = 0; assign = a }) → ActsAlone a
      of_list [] e i = absurd (subst (λ l. In l (record { offset = 0; assign = a })) e i)
      of_list (x ∷ xs) e i = record { first = x; rest = xs; are = e; all = is_it }
