-- THE RULES ON STATE: what does not rest on state in an instance of the shared design does not in the instance of the design.
use Rattle.std.proofs.Common.{◌≡◌, ℕ, inl, inr, ◌⊎◌, List, Option, refl, sym, ap, ◌∙◌, subst}
use Rattle.cx_text.specs.declared.places.Place.{Place}
use Rattle.cx_meaning.specs.declared.ports.PortRef.{PortRef}
use Rattle.cx_meaning.specs.declared.ports.PortRef.TheVariants as ports
use Rattle.cx_meaning.specs.declared.ports.PlacedPort.{PlacedPort}
use Rattle.cx_meaning.specs.Designs.{PlainComponent, PlainForm, Empty, Enable, Seq, Par, If, While, Repeat, StaticSeq, StaticPar, StaticIf, StaticRepeat, Timed, PlainStatement}
use Rattle.cx_meaning.specs.Instances.{Instance, part_of}
use Rattle.cx_meaning.specs.Active.{Owned, nothing}
use Rattle.cx_rules.specs.Items.{Visited}
use Rattle.cx_rules.specs.Footprints.{AssignNames, Rests, Depends}
use Rattle.cx_rules.specs.ShapeRules.{BreaksDoneNotState, BreaksStaticTest, LeadsToInput, BreaksOutputNotState, BreaksKept}
use Rattle.cx_rewrites.specs.Moving.{moved_port, moved_owned, moved_form}
use Rattle.cx_rewrites.specs.Renaming.{renamed}
use Rattle.cx_rewrites.proofs.ReflectLemmas.{names_back}
use Rattle.cx_sharing.specs.Giving.{new_cell}
use Rattle.cx_sharing.proofs.UsedLemmas.{Inside}
use Rattle.cx_rewrites.proofs.MovedLists.{moved_visited}
use Rattle.cx_rewrites.proofs.PlaceRules.{ByAssign, ByStatement}
use Rattle.cx_sharing.proofs.SharedParts.{Shares, new_port}
use Rattle.cx_sharing.proofs.RestsShared.{HasInputs, rests_shared}
use Rattle.cx_sharing.proofs.CirclesShared.{nothing_covers, depends_comes_back}

-- ports that the renamed ones stand for
done_is : (cell : ℕ → ℕ) (p : PortRef) (g : ℕ) → renamed cell p ≡ ports.Done g → p ≡ ports.Done g
done_is cell (ports.Cell c n) g e = absurd (cc)
done_is cell (ports.Input n) g e = absurd (cc)
done_is cell (ports.Output n) g e = absurd (cc)
done_is cell (ports.Done h) g e = e
done_is cell (ports.Literal w v) g e = absurd (cc)

output_is : (cell : ℕ → ℕ) (p : PortRef) (n : ℕ) → renamed cell p ≡ ports.Output n → p ≡ ports.Output n
output_is cell (ports.Cell c m) n e = absurd (cc)
output_is cell (ports.Input m) n e = absurd (cc)
output_is cell (ports.Output m) n e = e
output_is cell (ports.Done g) n e = absurd (cc)
output_is cell (ports.Literal w v) n e = absurd (cc)

input_is : (cell : ℕ → ℕ) (p : PortRef) (n : ℕ) → renamed cell p ≡ ports.Input n → p ≡ ports.Input n
input_is cell (ports.Cell c m) n e = absurd (cc)
input_is cell (ports.Input m) n e = e
input_is cell (ports.Output m) n e = absurd (cc)
input_is cell (ports.Done g) n e = absurd (cc)
input_is cell (ports.Literal w v) n e = absurd (cc)

-- a static if whose ports are moved
pub record StaticIfBack (length : Option ℕ) (test : PlacedPort) (move : PortRef → PortRef) (form : PlainForm) : Type 0 where
  pub old : PlacedPort
  pub first : PlainStatement
  pub second : PlainStatement
  pub is : form ≡ StaticIf length old first second
  pub port : move old.port ≡ test.port

static_if_back : (move : PortRef → PortRef) (form : PlainForm) (length : Option ℕ) (test : PlacedPort) (a b : PlainStatement) → moved_form move form ≡ StaticIf length test a b → StaticIfBack length test move form
static_if_back move Empty length test a b e = absurd (cc)
static_if_back move (Enable g) length test a b e = absurd (cc)
static_if_back move (Seq parts) length test a b e = absurd (cc)
static_if_back move (Par arms) length test a b e = absurd (cc)
static_if_back move (If p comb x y) length test a b e = absurd (cc)
static_if_back move (While p comb x) length test a b e = absurd (cc)
static_if_back move (Repeat count x) length test a b e = absurd (cc)
static_if_back move (StaticSeq l parts) length test a b e = absurd (cc)
static_if_back move (StaticPar l arms) length test a b e = absurd (cc)
static_if_back move (StaticIf l p x y) length test a b e = record {
  old = p;
  first = x;
  second = y;
  is = let same : l ≡ length = cc in ap (λ k. StaticIf k p x y) same;
  port = let same : moved_port move p ≡ test = cc in ap (λ (z : PlacedPort). z.port) same;
}
static_if_back move (StaticRepeat l count x) length test a b e = absurd (cc)
static_if_back move (Timed k) length test a b e = absurd (cc)

module _ (i j : Instance) (shares : Shares i j) (inputs : HasInputs i) where
  abbrev move : PortRef → PortRef
  move = new_port shares

  pub restless_back : (q r : PortRef) → move r ≡ q → (Rests j q → ⊥) → Rests i r → ⊥
  restless_back q r e restless rests = restless (subst (Rests j) e (rests_shared i j shares inputs r rests))

  pub done_not_state_back : (o : Owned) (place : Place) (name : List ℕ) → BreaksDoneNotState j (moved_owned move o) place name → ByAssign BreaksDoneNotState i o
  done_not_state_back o place name (g, aim, (q, names, restless), told) =
      let r = names_back move o.assign q names in
      (_, _, (g, done_is (new_cell (part_of i)) o.assign.target g aim, (r.0, r.2, restless_back q r.0 r.1 restless), (refl, refl)))

  pub static_test_back : (v : Visited) (place : Place) (name : List ℕ) → BreaksStaticTest j (moved_visited move v) place name → ByStatement BreaksStaticTest i v
  static_test_back v place name (length, test, a, b, is, restless, told) =
      let r = static_if_back move v.form length test a b is in
      (_, _, (length, r.old, r.first, r.second, r.is, restless_back test.port r.old.port r.port restless, (refl, refl)))

  -- a port that leads to an input of the signature
  abbrev CellOf : PortRef → ℕ → Type 0
  CellOf r c = (n : ℕ) × (r ≡ ports.Cell c n)

  inside_itself : (r : PortRef) → Inside (part_of i) (CellOf r) r
  inside_itself (ports.Cell c n) = inr (n, refl)
  inside_itself (ports.Input n) = tt
  inside_itself (ports.Output n) = tt
  inside_itself (ports.Done g) = tt
  inside_itself (ports.Literal w v) = tt

  one_cell : (r : PortRef) (x y : ℕ) → CellOf r x → CellOf r y → x ≡ y
  one_cell r x y (n, e) (m, h) = let same : ports.Cell x n ≡ ports.Cell y m = sym e ∙ h in cc

  leads_back : (q r : PortRef) → move r ≡ q → LeadsToInput j q → LeadsToInput i r
  leads_back q r e (n, inl is) = (n, inl (input_is (new_cell (part_of i)) r n (e ∙ is)))
  leads_back q r e (n, inr depends) =
      let d : Depends j nothing (move r) (ports.Input n) = subst (λ p. Depends j nothing p (ports.Input n)) (sym e) depends in
      let b = depends_comes_back i j shares nothing nothing (λ g. refl) (CellOf r) (nothing_covers i j shares (CellOf r)) (λ x y first second a c. inl (one_cell r x y a c)) r (ports.Input n) (inside_itself r) d in
      (n, inr (subst (Depends i nothing r) (input_is (new_cell (part_of i)) b.0 n b.1) b.2))

  pub output_not_state_back : (o : Owned) (place : Place) (name : List ℕ) → BreaksOutputNotState j (moved_owned move o) place name → ByAssign BreaksOutputNotState i o
  output_not_state_back o place name (n, aim, (q, names, bad), told) =
      let r = names_back move o.assign q names in
      (_, _, (n, output_is (new_cell (part_of i)) o.assign.target n aim, (r.0, r.2, one r.0 r.1 bad), (refl, refl)))
    where
      one : (r : PortRef) → move r ≡ q → (Rests j q → ⊥) ⊎ LeadsToInput j q → (Rests i r → ⊥) ⊎ LeadsToInput i r
      one r e (inl restless) = inl (restless_back q r e restless)
      one r e (inr leads) = inr (leads_back q r e leads)

  -- what a static component keeps
  pub kept_back : (o : Owned) (place : Place) (name : List ℕ) → BreaksKept j (moved_owned move o) place name → ByAssign BreaksKept i o
  kept_back o place name (latency, static, owner, (n, names), told) =
      let r = names_back move o.assign (ports.Input n) names in
      (_, _, (latency, sym (ap (λ (x : PlainComponent). x.latency) shares.part) ∙ static, owner, (n, subst (AssignNames o.assign) (input_is (new_cell (part_of i)) r.0 n r.1) r.2), (refl, refl)))
