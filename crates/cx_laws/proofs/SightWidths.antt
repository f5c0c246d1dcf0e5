-- Where the value of a target and the values that a cell's output looks at come from.
use Rattle.std.proofs.Common.{◌≡◌, ℕ, zero, suc, ◌+◌, inl, inr, ◌==◌, Bool, true, false, Option, Some, None, List, [], ◌∷◌, if◌then◌else◌, refl, sym, ap, ◌∙◌, subst, arith}
use Rattle.cx_text.specs.Members.{In}
use Rattle.cx_bits.specs.BitVector.{BitVector}
use Rattle.cx_prim.specs.declared.ports.PortRow.{PortRow}
use Rattle.cx_prim.specs.Rows.{Inputs, input}
use Rattle.cx_meaning.specs.declared.ports.PortRef.{PortRef}
use Rattle.cx_meaning.specs.declared.sights.Seen.{Seen}
use Rattle.cx_meaning.specs.declared.sights.Seen.TheVariants.{Value, Conflict, Undefined}
use Rattle.cx_meaning.specs.Active.{Acting}
use Rattle.cx_meaning.specs.Truths.{Truth, One, Zero}
use Rattle.cx_meaning.specs.Truths as truths
use Rattle.cx_meaning.specs.Sights.{Look, IsTaken, Taken, Sources, Stopped, guard_truth, take_guard, taken, agreed, all_agreed, settle, target_seen, Gathered, Given, Lacks, gather_port, gather, output_seen}
use Rattle.cx_bits.proofs.BitVectorLemmas.{none_is}
use Rattle.cx_meaning.proofs.SightsLaws.{option_is}

-- a value that several sources agree on is that of the first
pub first_agrees : (x y : Seen) (b : BitVector) → agreed x y ≡ Value b → x ≡ Value b
first_agrees (Value a) (Value c) b e = by (a.value == c.value) e
  where
    by : (t : Bool) → (if t then Value a else Conflict) ≡ Value b → Value a ≡ Value b
    by true e = e
    by false e = absurd (cc)
first_agrees (Value a) Conflict b e = absurd (cc)
first_agrees (Value a) Undefined b e = absurd (cc)
first_agrees Conflict y b e = e
first_agrees Undefined y b e = e

all_first : (look : Look) (source : PortRef) (rest : List PortRef) (b : BitVector) → all_agreed look source rest ≡ Value b → look source ≡ Value b
all_first look source [] b e = e
all_first look source (next ∷ rest) b e = first_agrees (look source) (all_agreed look next rest) b e

-- what stops a target is no value
abbrev StopsBy : Taken → Type 0
StopsBy (Sources sources) = Unit {0}
StopsBy (Stopped x) = (b : BitVector) → x ≡ Value b → ⊥

taken_stops : (look : Look) (acts : List Acting) → StopsBy (taken look acts)
taken_stops look [] = tt
taken_stops look (a ∷ rest) = by (guard_truth look a.offset a.assign.guard) (taken look rest) (taken_stops look rest)
  where
    by : (g : Truth) (t : Taken) → StopsBy t → StopsBy (take_guard g a.assign.source.port t)
    by One (Sources sources) h = tt
    by One (Stopped x) h = h
    by Zero t h = h
    by truths.Conflict t h = λ b e. cc
    by truths.Undefined t h = λ b e. cc

-- the first source is that of an active assignment
taken_source : (look : Look) (acts : List Acting) (s : PortRef) (ss : List PortRef) → taken look acts ≡ Sources (s ∷ ss) → (a : Acting) × In acts a × (a.assign.source.port ≡ s)
taken_source look [] s ss e = absurd (cc)
taken_source look (a ∷ rest) s ss e = by (guard_truth look a.offset a.assign.guard) (taken look rest) e (taken_source look rest s ss)
  where
    by : (g : Truth) (t : Taken) → take_guard g a.assign.source.port t ≡ Sources (s ∷ ss) → (t ≡ Sources (s ∷ ss) → (x : Acting) × In rest x × (x.assign.source.port ≡ s))
        → (x : Acting) × In (a ∷ rest) x × (x.assign.source.port ≡ s)
    by One (Sources xs) e h = (a, inl refl, cc)
    by One (Stopped x) e h = absurd (cc)
    by Zero t e h = let r = h e in (r.0, inr r.1, r.2)
    by truths.Conflict t e h = absurd (cc)
    by truths.Undefined t e h = absurd (cc)

-- A VALUE OF A TARGET is what it is undriven, or that of the source of an active assignment
pub data Comes (undriven : Seen) (look : Look) (acts : List Acting) (b : BitVector) : Type 0 where
  not_driven : undriven ≡ Value b → Comes undriven look acts b
  of_source : (a : Acting) → In acts a → IsTaken (taken look acts) a.assign.source.port → look a.assign.source.port ≡ Value b → Comes undriven look acts b

pub target_comes : (undriven : Seen) (look : Look) (acts : List Acting) (b : BitVector) → target_seen undriven look acts ≡ Value b → Comes undriven look acts b
target_comes undriven look acts b e = by (taken look acts) refl (taken_stops look acts) e
  where
    by : (t : Taken) → taken look acts ≡ t → StopsBy t → settle undriven look t ≡ Value b → Comes undriven look acts b
    by (Stopped x) f stops e = absurd (stops b e)
    by (Sources []) f stops e = not_driven e
    by (Sources (s ∷ ss)) f stops e =
        let r = taken_source look acts s ss f in
        of_source r.0 r.1 (subst (λ t. IsTaken t r.0.assign.source.port) (sym f) (inl (sym r.2))) (ap look r.2 ∙ all_first look s ss b e)

-- a port that is lacking is no value
abbrev LacksNoValue : Gathered → Type 0
LacksNoValue (Given inputs) = Unit {0}
LacksNoValue (Lacks p x) = (b : BitVector) → x ≡ Value b → ⊥

gather_lacks : (look : ℕ → Seen) (wanted : ℕ → Bool) (p : ℕ) (list : List PortRow) → LacksNoValue (gather look wanted p list)
gather_lacks look wanted p [] = tt
gather_lacks look wanted p (port ∷ list) = by (wanted p) (look p) (gather look wanted (suc p) list) (gather_lacks look wanted (suc p) list)
  where
    by : (w : Bool) (x : Seen) (g : Gathered) → LacksNoValue g → LacksNoValue (gather_port w p x g)
    by false x (Given inputs) h = tt
    by false x (Lacks q y) h = h
    by true (Value v) (Given inputs) h = tt
    by true (Value v) (Lacks q y) h = h
    by true Conflict g h = λ b e. cc
    by true Undefined g h = λ b e. cc

-- A VALUE OF AN OUTPUT is what the row gives for the values that are gathered
pub output_comes : (f : Inputs → Option BitVector) (look : ℕ → Seen) (wanted : ℕ → Bool) (p : ℕ) (list : List PortRow) (b : BitVector) → output_seen f (gather look wanted p list) ≡ Value b
    → (inputs : Inputs) × (gather look wanted p list ≡ Given inputs) × (f inputs ≡ Some b)
output_comes f look wanted p list b e = by (gather look wanted p list) refl (gather_lacks look wanted p list) e
  where
    by : (g : Gathered) → gather look wanted p list ≡ g → LacksNoValue g → output_seen f g ≡ Value b → (inputs : Inputs) × (gather look wanted p list ≡ Given inputs) × (f inputs ≡ Some b)
    by (Given inputs) is h e = (inputs, is, option_is (f inputs) b e)
    by (Lacks q x) is h e = absurd (h b e)

-- what is gathered at a port is its value, and the port is wanted
pub record Found (look : ℕ → Seen) (wanted : ℕ → Bool) (n : ℕ) (b : BitVector) : Type 0 where
  pub value : look n ≡ Value b
  pub wanted_there : wanted n ≡ true

entry_found : (w : Bool) (p : ℕ) (x : Seen) (g : Gathered) (xs : Inputs) → gather_port w p x g ≡ Given xs
    → (entry : Option BitVector) × (ys : Inputs) × (g ≡ Given ys) × (xs ≡ entry ∷ ys) × ((b : BitVector) → entry ≡ Some b → (x ≡ Value b) × (w ≡ true))
entry_found false p x (Given ys) xs is = (None, ys, refl, (let f : Given (None ∷ ys) ≡ Given xs = is in cc), λ b e. absurd (cc))
entry_found false p x (Lacks q y) xs is = absurd (cc)
entry_found true p (Value v) (Given ys) xs is = (Some v, ys, refl, (let f : Given (Some v ∷ ys) ≡ Given xs = is in cc), λ b e. (let f : Some v ≡ Some b = e in cc, refl))
entry_found true p (Value v) (Lacks q y) xs is = absurd (cc)
entry_found true p Conflict g xs is = absurd (cc)
entry_found true p Undefined g xs is = absurd (cc)

module _ (look : ℕ → Seen) (wanted : ℕ → Bool) where
  pub given_found : (p : ℕ) (list : List PortRow) (xs : Inputs) → gather look wanted p list ≡ Given xs → (k : ℕ) (b : BitVector) → input xs k ≡ Some b → Found look wanted (p + k) b
  given_found p [] xs is k b e = let f : [] ≡ xs = cc in absurd (none_is (input xs k) b (sym (ap (λ ys. input ys k) f)) e)
  given_found p (port ∷ list) xs is zero b e =
      let r = entry_found (wanted p) p (look p) (gather look wanted (suc p) list) xs is in
      let z : p + 0 ≡ p = omega arith in
      let h = r.4 b (ap (λ ys. input ys 0) (sym r.3) ∙ e) in
      record { value = ap look z ∙ h.0; wanted_there = ap wanted z ∙ h.1 }
  given_found p (port ∷ list) xs is (suc k) b e =
      let r = entry_found (wanted p) p (look p) (gather look wanted (suc p) list) xs is in
      let z : suc p + k ≡ p + suc k = omega arith in
      subst (λ n. Found look wanted n b) z (given_found (suc p) list r.1 r.2 k b (ap (λ ys. input ys (suc k)) (sym r.3) ∙ e))
