-- What is seen as a value flows as that value.
use Rattle.std.proofs.Common.{◌≡◌, ℕ, inl, inr, Bool, true, false, ◌||◌, ◌&&◌, not, List, [], ◌∷◌, refl, sym, ap, ◌∙◌, subst}
use Rattle.std.specs.Prelude.{◌==◌, if◌then◌else◌, nat_le, nat_lt}
use Rattle.cx_text.specs.Members.{In}
use Rattle.cx_bits.specs.BitVector.{BitVector}
use Rattle.cx_meaning.specs.declared.ports.PortRef.{PortRef}
use Rattle.cx_meaning.specs.declared.ports.Comparison.{Comparison}
use Rattle.cx_meaning.specs.declared.sights.Seen.{Seen}
use Rattle.cx_meaning.specs.declared.sights.Seen.TheVariants.{Value, Conflict, Undefined}
use Rattle.cx_meaning.specs.Designs.{PlainGuard, Always, Atom, Negation, All, Any, Compared, Within, PlainGuards, no_guards, a_guard}
use Rattle.cx_meaning.specs.Active.{Acting}
use Rattle.cx_meaning.specs.Truths.{Truth, One, Zero, truth_of_bit, truth_of, not_truth, and_truth, or_truth, compares, compared}
use Rattle.cx_meaning.specs.Truths as truths
use Rattle.cx_meaning.specs.Sights.{Look, guard_truth, all_truth, any_truth, GuardNames, AnyNames, Taken, Sources, Stopped, with_source, take_guard, taken, all_agreed, settle, target_seen, TargetNeeds, IsTaken}
use Rattle.cx_meaning.proofs.SightsLaws.{undefined_value}
use Rattle.cx_laws.proofs.SightWidths.{first_agrees}
use Rattle.cx_control.specs.Flows.{Values, is_set, guard_on, all_on, any_on, first_on}

pub value_is : (a b : BitVector) → ◌≡◌ {A = Seen} (Value a) (Value b) → a ≡ b
value_is a b e = cc

-- what a truth says of a bit
abbrev pub Says : Truth → Bool → Type 0
Says One b = b ≡ true
Says Zero b = b ≡ false
Says truths.Conflict b = Unit {0}
Says truths.Undefined b = Unit {0}

says_not : (t : Truth) (b : Bool) → Says t b → Says (not_truth t) (not b)
says_not One b h = ap not h
says_not Zero b h = ap not h
says_not truths.Conflict b h = tt
says_not truths.Undefined b h = tt

says_and : (t u : Truth) (a b : Bool) → Says t a → Says u b → Says (and_truth t u) (a && b)
says_and One One a b h k = ap (λ x. x && b) h ∙ k
says_and One Zero a b h k = ap (λ x. x && b) h ∙ k
says_and One truths.Conflict a b h k = tt
says_and One truths.Undefined a b h k = tt
says_and Zero u a b h k = ap (λ x. x && b) h
says_and truths.Conflict One a b h k = tt
says_and truths.Conflict Zero a b h k = ap (λ x. a && x) k ∙ never a
  where
    never : (c : Bool) → (c && false) ≡ false
    never true = refl
    never false = refl
says_and truths.Conflict truths.Conflict a b h k = tt
says_and truths.Conflict truths.Undefined a b h k = tt
says_and truths.Undefined One a b h k = tt
says_and truths.Undefined Zero a b h k = ap (λ x. a && x) k ∙ never a
  where
    never : (c : Bool) → (c && false) ≡ false
    never true = refl
    never false = refl
says_and truths.Undefined truths.Conflict a b h k = tt
says_and truths.Undefined truths.Undefined a b h k = tt

says_or : (t u : Truth) (a b : Bool) → Says t a → Says u b → Says (or_truth t u) (a || b)
says_or One u a b h k = ap (λ x. x || b) h
says_or Zero One a b h k = ap (λ x. x || b) h ∙ k
says_or Zero Zero a b h k = ap (λ x. x || b) h ∙ k
says_or Zero truths.Conflict a b h k = tt
says_or Zero truths.Undefined a b h k = tt
says_or truths.Conflict One a b h k = ap (λ x. a || x) k ∙ ever a
  where
    ever : (c : Bool) → (c || true) ≡ true
    ever true = refl
    ever false = refl
says_or truths.Conflict Zero a b h k = tt
says_or truths.Conflict truths.Conflict a b h k = tt
says_or truths.Conflict truths.Undefined a b h k = tt
says_or truths.Undefined One a b h k = ap (λ x. a || x) k ∙ ever a
  where
    ever : (c : Bool) → (c || true) ≡ true
    ever true = refl
    ever false = refl
says_or truths.Undefined Zero a b h k = tt
says_or truths.Undefined truths.Conflict a b h k = tt
says_or truths.Undefined truths.Undefined a b h k = tt

says_bit : (b : Bool) → Says (truth_of_bit b) b
says_bit true = refl
says_bit false = refl

-- a look and values that agree where the look has a value
module _ (look : Look) (v : Values) where
  abbrev pub Right : PortRef → Type 0
  Right q = (b : BitVector) → look q ≡ Value b → v q ≡ b

  says_port : (q : PortRef) → Right q → Says (truth_of (look q)) (is_set (v q))
  says_port q r = go (look q) refl
    where
      go : (x : Seen) → look q ≡ x → Says (truth_of x) (is_set (v q))
      go (Value b) e = subst (λ c. Says (truth_of_bit (b.value == 1)) (is_set c)) (sym (r b e)) (says_bit (b.value == 1))
      go Conflict e = tt
      go Undefined e = tt

  says_compared : (c : Comparison) (p q : PortRef) → Right p → Right q → Says (compared c (look p) (look q)) (compares c (v p).value (v q).value)
  says_compared c p q r t = go (look p) (look q) refl refl
    where
      go : (x y : Seen) → look p ≡ x → look q ≡ y → Says (compared c x y) (compares c (v p).value (v q).value)
      go (Value a) (Value b) e f = subst (λ x. Says (truth_of_bit (compares c a.value b.value)) (compares c x.value (v q).value)) (sym (r a e))
          (subst (λ y. Says (truth_of_bit (compares c a.value b.value)) (compares c a.value y.value)) (sym (t b f)) (says_bit (compares c a.value b.value)))
      go (Value a) Conflict e f = tt
      go (Value a) Undefined e f = tt
      go Conflict y e f = tt
      go Undefined y e f = tt

  mutual
    says_guard : (o : ℕ) (g : PlainGuard) → ((q : PortRef) → GuardNames g q → Right q) → Says (guard_truth look o g) (guard_on v o g)
    says_guard o Always r = refl
    says_guard o (Atom p) r = says_port p.port (r p.port refl)
    says_guard o (Negation g) r = says_not (guard_truth look o g) (guard_on v o g) (says_guard o g r)
    says_guard o (All gs) r = says_all o gs r
    says_guard o (Any gs) r = says_any o gs r
    says_guard o (Compared c a b) r = says_compared c a.port b.port (r a.port (inl refl)) (r b.port (inr refl))
    says_guard o (Within from to) r = says_bit (nat_le from o && nat_lt o to)

    says_all : (o : ℕ) (gs : PlainGuards) → ((q : PortRef) → AnyNames gs q → Right q) → Says (all_truth look o gs) (all_on v o gs)
    says_all o no_guards r = refl
    says_all o (a_guard g gs) r = says_and (guard_truth look o g) (all_truth look o gs) (guard_on v o g) (all_on v o gs) (says_guard o g (λ q n. r q (inl n))) (says_all o gs (λ q n. r q (inr n)))

    says_any : (o : ℕ) (gs : PlainGuards) → ((q : PortRef) → AnyNames gs q → Right q) → Says (any_truth look o gs) (any_on v o gs)
    says_any o no_guards r = refl
    says_any o (a_guard g gs) r = says_or (guard_truth look o g) (any_truth look o gs) (guard_on v o g) (any_on v o gs) (says_guard o g (λ q n. r q (inl n))) (says_any o gs (λ q n. r q (inr n)))

  abbrev pub first_source : BitVector → List PortRef → BitVector
  first_source undriven [] = undriven
  first_source undriven (q ∷ qs) = v q

  stopped_sources : (x : Seen) (ss : List PortRef) → Stopped x ≡ Sources ss → ⊥
  stopped_sources x ss e = cc

  sources_are : (ss us : List PortRef) → Sources ss ≡ Sources us → ss ≡ us
  sources_are ss us e = cc

  -- the first source of those that are taken is the first that is on
  firsts : (undriven : BitVector) (acts : List Acting) (ss : List PortRef) → ((a : Acting) (q : PortRef) → In acts a → GuardNames a.assign.guard q → Right q)
      → taken look acts ≡ Sources ss → first_on v undriven acts ≡ first_source undriven ss
  firsts undriven [] ss r e = ap (first_source undriven) (sources_are [] ss e)
  firsts undriven (a ∷ rest) ss r e =
      by_guard (λ f. firsts undriven rest ss (λ c q i n. r c q (inr i) n) f) (guard_truth look a.offset a.assign.guard) (guard_on v a.offset a.assign.guard) (says_guard a.offset a.assign.guard (λ q n. r a q (inl refl) n)) e
    where
      by_rest : (t : Taken) → taken look rest ≡ t → with_source a.assign.source.port t ≡ Sources ss → v a.assign.source.port ≡ first_source undriven ss
      by_rest (Sources us) f g = ap (first_source undriven) (sources_are (a.assign.source.port ∷ us) ss g)
      by_rest (Stopped x) f g = absurd (stopped_sources x ss g)

      by_guard : (taken look rest ≡ Sources ss → first_on v undriven rest ≡ first_source undriven ss) → (t : Truth) (b : Bool) → Says t b → take_guard t a.assign.source.port (taken look rest) ≡ Sources ss
          → (if b then v a.assign.source.port else first_on v undriven rest) ≡ first_source undriven ss
      by_guard k One b h f = ap (λ x. if x then v a.assign.source.port else first_on v undriven rest) h ∙ by_rest (taken look rest) refl f
      by_guard k Zero b h f = ap (λ x. if x then v a.assign.source.port else first_on v undriven rest) h ∙ k f
      by_guard k truths.Conflict b h f = absurd (stopped_sources Conflict ss f)
      by_guard k truths.Undefined b h f = absurd (stopped_sources Undefined ss f)

  conflict_value : (b : BitVector) → Conflict ≡ Value b → ⊥
  conflict_value b e = cc

  all_first : (q : PortRef) (qs : List PortRef) (b : BitVector) → all_agreed look q qs ≡ Value b → look q ≡ Value b
  all_first q [] b e = e
  all_first q (n ∷ qs) b e = first_agrees (look q) (all_agreed look n qs) b e

  -- what stops is no value
  never_value : (acts : List Acting) (x : Seen) → taken look acts ≡ Stopped x → (b : BitVector) → x ≡ Value b → ⊥
  never_value [] x e b f = absurd (other e)
    where
      other : Sources [] ≡ Stopped x → ⊥
      other h = cc
  never_value (a ∷ rest) x e b f = by_guard (λ h. never_value rest x h b f) (guard_truth look a.offset a.assign.guard) e
    where
      by_rest : (taken look rest ≡ Stopped x → ⊥) → (t : Taken) → taken look rest ≡ t → with_source a.assign.source.port t ≡ Stopped x → ⊥
      by_rest k (Sources us) h g = other g
        where
          other : Sources (a.assign.source.port ∷ us) ≡ Stopped x → ⊥
          other k = cc
      by_rest k (Stopped y) h g = k (h ∙ g)

      by_guard : (taken look rest ≡ Stopped x → ⊥) → (t : Truth) → take_guard t a.assign.source.port (taken look rest) ≡ Stopped x → ⊥
      by_guard k One g = by_rest k (taken look rest) refl g
      by_guard k Zero g = k g
      by_guard k truths.Conflict g = let h : Conflict ≡ x = cc in conflict_value b (h ∙ f)
      by_guard k truths.Undefined g = let h : Undefined ≡ x = cc in undefined_value b (h ∙ f)

  -- a target
  pub target_flows : (undriven : Seen) (zero_bits : BitVector) → ((b : BitVector) → undriven ≡ Value b → zero_bits ≡ b) → (acts : List Acting) → ((q : PortRef) → TargetNeeds look acts q → Right q)
      → (b : BitVector) → target_seen undriven look acts ≡ Value b → first_on v zero_bits acts ≡ b
  target_flows undriven zero_bits z acts r b e = go (taken look acts) refl e
    where
      go : (t : Taken) → taken look acts ≡ t → settle undriven look t ≡ Value b → first_on v zero_bits acts ≡ b
      go (Stopped x) f g = absurd (never_value acts x f b g)
      go (Sources []) f g = firsts zero_bits acts [] (λ a q i n. r q (inl (a, i, n))) f ∙ z b g
      go (Sources (q ∷ qs)) f g =
          firsts zero_bits acts (q ∷ qs) (λ a u i n. r u (inl (a, i, n))) f ∙ r q (inr (subst (λ t. IsTaken t q) (sym f) (inl refl))) b (all_first q qs b g)
