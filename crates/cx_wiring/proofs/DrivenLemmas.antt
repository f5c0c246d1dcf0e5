-- The drivers by their targets: each target once, with all its drivers.
use Rattle.std.proofs.Common.{◌≡◌, ℕ, ◌==◌, ◌&&◌, inr, Bool, true, false, if◌then◌else◌, List, [], ◌∷◌, refl, sym, ap, ◌∙◌, subst, arith}
use Rattle.std.proofs.lemmas.Bool.{eq-eqb}
use Rattle.cx_meaning.specs.declared.ports.PortRef.TheVariants as ports
use Rattle.cx_net.specs.Nets.{PlainNetTarget, ToPort, ToRegister, ToWire, ToHole, ToDone, PlainNetDriver}
use Rattle.cx_net.specs.NetMeaning.{same_target}
use Rattle.cx_wiring.specs.Trees.{is_same, rank_of, Driven, with_driver, driven}
use Rattle.cx_wiring.specs.Bounds.{AllDrive}
pub use Rattle.cx_wiring.specs.Bounds.{IsProper}
use Rattle.cx_wiring.proofs.TargetRanks.{same_rank}
use Rattle.cx_wiring.proofs.RankLemmas.{NotBefore, one_rank, behind_both, NoneBefore, IsSorted}

both_are : (a b : Bool) → (a && b) ≡ (if a then b else false)
both_are true b = refl
both_are false b = refl

-- the two tests of targets are one
alike : (a b : PlainNetTarget) → IsProper a → IsProper b → is_same a b ≡ same_target a b
alike (ToPort (ports.Cell c p)) (ToPort (ports.Cell d q)) x y = both_are (c == d) (p == q)
alike (ToPort (ports.Cell c p)) (ToPort (ports.Output m)) x y = refl
alike (ToPort (ports.Cell c p)) (ToRegister m) x y = refl
alike (ToPort (ports.Cell c p)) (ToWire m) x y = refl
alike (ToPort (ports.Cell c p)) (ToHole m) x y = refl
alike (ToPort (ports.Cell c p)) ToDone x y = refl
alike (ToPort (ports.Cell c p)) (ToPort (ports.Input i)) x y = absurd y
alike (ToPort (ports.Cell c p)) (ToPort (ports.Done i)) x y = absurd y
alike (ToPort (ports.Cell c p)) (ToPort (ports.Literal i j)) x y = absurd y
alike (ToPort (ports.Output n)) (ToPort (ports.Cell d q)) x y = refl
alike (ToPort (ports.Output n)) (ToPort (ports.Output m)) x y = refl
alike (ToPort (ports.Output n)) (ToRegister m) x y = refl
alike (ToPort (ports.Output n)) (ToWire m) x y = refl
alike (ToPort (ports.Output n)) (ToHole m) x y = refl
alike (ToPort (ports.Output n)) ToDone x y = refl
alike (ToPort (ports.Output n)) (ToPort (ports.Input i)) x y = absurd y
alike (ToPort (ports.Output n)) (ToPort (ports.Done i)) x y = absurd y
alike (ToPort (ports.Output n)) (ToPort (ports.Literal i j)) x y = absurd y
alike (ToRegister n) (ToPort (ports.Cell d q)) x y = refl
alike (ToRegister n) (ToPort (ports.Output m)) x y = refl
alike (ToRegister n) (ToRegister m) x y = refl
alike (ToRegister n) (ToWire m) x y = refl
alike (ToRegister n) (ToHole m) x y = refl
alike (ToRegister n) ToDone x y = refl
alike (ToRegister n) (ToPort (ports.Input i)) x y = absurd y
alike (ToRegister n) (ToPort (ports.Done i)) x y = absurd y
alike (ToRegister n) (ToPort (ports.Literal i j)) x y = absurd y
alike (ToWire n) (ToPort (ports.Cell d q)) x y = refl
alike (ToWire n) (ToPort (ports.Output m)) x y = refl
alike (ToWire n) (ToRegister m) x y = refl
alike (ToWire n) (ToWire m) x y = refl
alike (ToWire n) (ToHole m) x y = refl
alike (ToWire n) ToDone x y = refl
alike (ToWire n) (ToPort (ports.Input i)) x y = absurd y
alike (ToWire n) (ToPort (ports.Done i)) x y = absurd y
alike (ToWire n) (ToPort (ports.Literal i j)) x y = absurd y
alike (ToHole n) (ToPort (ports.Cell d q)) x y = refl
alike (ToHole n) (ToPort (ports.Output m)) x y = refl
alike (ToHole n) (ToRegister m) x y = refl
alike (ToHole n) (ToWire m) x y = refl
alike (ToHole n) (ToHole m) x y = refl
alike (ToHole n) ToDone x y = refl
alike (ToHole n) (ToPort (ports.Input i)) x y = absurd y
alike (ToHole n) (ToPort (ports.Done i)) x y = absurd y
alike (ToHole n) (ToPort (ports.Literal i j)) x y = absurd y
alike ToDone (ToPort (ports.Cell d q)) x y = refl
alike ToDone (ToPort (ports.Output m)) x y = refl
alike ToDone (ToRegister m) x y = refl
alike ToDone (ToWire m) x y = refl
alike ToDone (ToHole m) x y = refl
alike ToDone ToDone x y = refl
alike ToDone (ToPort (ports.Input i)) x y = absurd y
alike ToDone (ToPort (ports.Done i)) x y = absurd y
alike ToDone (ToPort (ports.Literal i j)) x y = absurd y
alike (ToPort (ports.Input i)) b x y = absurd x
alike (ToPort (ports.Done i)) b x y = absurd x
alike (ToPort (ports.Literal i j)) b x y = absurd x

wrong : {A : Type 0} → (m n : ℕ) → m ≡ n → (m ≡ n → ⊥) → A
wrong m n e f = absurd (f e)

one_target : (a b : PlainNetTarget) → IsProper a → IsProper b → ((rank_of a).kind ≡ (rank_of b).kind) × ((rank_of a).number ≡ (rank_of b).number) × ((rank_of a).port ≡ (rank_of b).port) → same_target a b ≡ true
one_target (ToPort (ports.Cell c p)) (ToPort (ports.Cell d q)) x y h = ap (λ t. if t then p == q else false) (eq-eqb c d h.1) ∙ eq-eqb p q h.2
one_target (ToPort (ports.Cell c p)) (ToPort (ports.Output m)) x y h = absurd (omega (arith, h.0))
one_target (ToPort (ports.Cell c p)) (ToRegister m) x y h = absurd (omega (arith, h.0))
one_target (ToPort (ports.Cell c p)) (ToWire m) x y h = absurd (omega (arith, h.0))
one_target (ToPort (ports.Cell c p)) (ToHole m) x y h = absurd (omega (arith, h.0))
one_target (ToPort (ports.Cell c p)) ToDone x y h = absurd (omega (arith, h.0))
one_target (ToPort (ports.Cell c p)) (ToPort (ports.Input i)) x y h = absurd y
one_target (ToPort (ports.Cell c p)) (ToPort (ports.Done i)) x y h = absurd y
one_target (ToPort (ports.Cell c p)) (ToPort (ports.Literal i j)) x y h = absurd y
one_target (ToPort (ports.Output n)) (ToPort (ports.Cell d q)) x y h = absurd (omega (arith, h.0))
one_target (ToPort (ports.Output n)) (ToPort (ports.Output m)) x y h = eq-eqb n m h.1
one_target (ToPort (ports.Output n)) (ToRegister m) x y h = absurd (omega (arith, h.0))
one_target (ToPort (ports.Output n)) (ToWire m) x y h = absurd (omega (arith, h.0))
one_target (ToPort (ports.Output n)) (ToHole m) x y h = absurd (omega (arith, h.0))
one_target (ToPort (ports.Output n)) ToDone x y h = absurd (omega (arith, h.0))
one_target (ToPort (ports.Output n)) (ToPort (ports.Input i)) x y h = absurd y
one_target (ToPort (ports.Output n)) (ToPort (ports.Done i)) x y h = absurd y
one_target (ToPort (ports.Output n)) (ToPort (ports.Literal i j)) x y h = absurd y
one_target (ToRegister n) (ToPort (ports.Cell d q)) x y h = absurd (omega (arith, h.0))
one_target (ToRegister n) (ToPort (ports.Output m)) x y h = absurd (omega (arith, h.0))
one_target (ToRegister n) (ToRegister m) x y h = eq-eqb n m h.1
one_target (ToRegister n) (ToWire m) x y h = absurd (omega (arith, h.0))
one_target (ToRegister n) (ToHole m) x y h = absurd (omega (arith, h.0))
one_target (ToRegister n) ToDone x y h = absurd (omega (arith, h.0))
one_target (ToRegister n) (ToPort (ports.Input i)) x y h = absurd y
one_target (ToRegister n) (ToPort (ports.Done i)) x y h = absurd y
one_target (ToRegister n) (ToPort (ports.Literal i j)) x y h = absurd y
one_target (ToWire n) (ToPort (ports.Cell d q)) x y h = absurd (omega (arith, h.0))
one_target (ToWire n) (ToPort (ports.Output m)) x y h = absurd (omega (arith, h.0))
one_target (ToWire n) (ToRegister m) x y h = absurd (omega (arith, h.0))
one_target (ToWire n) (ToWire m) x y h = eq-eqb n m h.1
one_target (ToWire n) (ToHole m) x y h = absurd (omega (arith, h.0))
one_target (ToWire n) ToDone x y h = absurd (omega (arith, h.0))
one_target (ToWire n) (ToPort (ports.Input i)) x y h = absurd y
one_target (ToWire n) (ToPort (ports.Done i)) x y h = absurd y
one_target (ToWire n) (ToPort (ports.Literal i j)) x y h = absurd y
one_target (ToHole n) (ToPort (ports.Cell d q)) x y h = absurd (omega (arith, h.0))
one_target (ToHole n) (ToPort (ports.Output m)) x y h = absurd (omega (arith, h.0))
one_target (ToHole n) (ToRegister m) x y h = absurd (omega (arith, h.0))
one_target (ToHole n) (ToWire m) x y h = absurd (omega (arith, h.0))
one_target (ToHole n) (ToHole m) x y h = eq-eqb n m h.1
one_target (ToHole n) ToDone x y h = absurd (omega (arith, h.0))
one_target (ToHole n) (ToPort (ports.Input i)) x y h = absurd y
one_target (ToHole n) (ToPort (ports.Done i)) x y h = absurd y
one_target (ToHole n) (ToPort (ports.Literal i j)) x y h = absurd y
one_target ToDone (ToPort (ports.Cell d q)) x y h = absurd (omega (arith, h.0))
one_target ToDone (ToPort (ports.Output m)) x y h = absurd (omega (arith, h.0))
one_target ToDone (ToRegister m) x y h = absurd (omega (arith, h.0))
one_target ToDone (ToWire m) x y h = absurd (omega (arith, h.0))
one_target ToDone (ToHole m) x y h = absurd (omega (arith, h.0))
one_target ToDone ToDone x y h = refl
one_target ToDone (ToPort (ports.Input i)) x y h = absurd y
one_target ToDone (ToPort (ports.Done i)) x y h = absurd y
one_target ToDone (ToPort (ports.Literal i j)) x y h = absurd y
one_target (ToPort (ports.Input i)) b x y h = absurd x
one_target (ToPort (ports.Done i)) b x y h = absurd x
one_target (ToPort (ports.Literal i j)) b x y h = absurd x

same_self : (a b : PlainNetTarget) → IsProper a → same_target a b ≡ true → IsProper b → same_target b a ≡ true
same_self a b x e y = let r = same_rank a b e in one_target b a y x (sym (ap (λ z. z.kind) r), sym (ap (λ z. z.number) r), sym (ap (λ z. z.port) r))

-- ENTRIES: each has proper drivers of its own target, and no other has its target
abbrev pub NoneHas : PlainNetTarget → List Driven → Type 0
NoneHas t [] = Unit {0}
NoneHas t (u ∷ us) = (same_target u.target t ≡ false) × NoneHas t us

abbrev pub AreEntries : List Driven → Type 0
AreEntries [] = Unit {0}
AreEntries (u ∷ us) = IsProper u.target × AllDrive (λ t. IsProper t × (same_target t u.target ≡ true)) u.drivers × NoneHas u.target us × AreEntries us

-- all entries stand nowhere before a rank
abbrev pub NoEntryBefore : PlainNetTarget → List Driven → Type 0
NoEntryBefore t [] = Unit {0}
NoEntryBefore t (u ∷ us) = NotBefore (rank_of u.target) (rank_of t) × NoEntryBefore t us

none_of_rank : (t : PlainNetTarget) (u : PlainNetTarget) → IsProper t → IsProper u → (NotBefore (rank_of u) (rank_of t) → NotBefore (rank_of t) (rank_of u) → ⊥) → NotBefore (rank_of u) (rank_of t) → same_target u t ≡ false
none_of_rank t u x y apart h = choice (same_target u t) refl
  where
    choice : (b : Bool) → same_target u t ≡ b → b ≡ false
    choice true e = absurd (apart h (subst (λ r. NotBefore (rank_of t) r) (sym (same_rank u t e)) (inr (refl, inr (refl, omega arith)))))
    choice false e = refl

-- behind an entry of another target, which the driver stands before, none has the driver's target
none_later : (t : PlainNetTarget) (u : PlainNetTarget) (us : List Driven) → IsProper t → IsProper u → same_target t u ≡ false → NotBefore (rank_of u) (rank_of t) → AreEntries us → NoEntryBefore u us → NoneHas t us
none_later t u [] x y apart h es after = tt
none_later t u (v ∷ vs) x y apart h es after = (
  none_of_rank t v.target x es.0 (λ a b. differ (one_target t u x y (one_rank (rank_of t) (rank_of u) (behind_both (rank_of t) (rank_of v.target) (rank_of u) b after.0) h))) (behind_both (rank_of v.target) (rank_of u) (rank_of t) after.0 h),
  none_later t u vs x y apart h es.3 after.1,
)
  where
    differ : same_target t u ≡ true → ⊥
    differ e = untrue (sym apart ∙ e)
      where
        untrue : false ≡ true → ⊥
        untrue f = cc

none_as : (t u : PlainNetTarget) (us : List Driven) → IsProper t → IsProper u → same_target t u ≡ true → AreEntries us → NoneHas u us → NoneHas t us
none_as t u [] x y e es n = tt
none_as t u (v ∷ vs) x y e es n = (choice (same_target v.target t) refl, none_as t u vs x y e es.3 n.1)
  where
    choice : (b : Bool) → same_target v.target t ≡ b → b ≡ false
    choice true f = absurd (untrue (sym n.0 ∙ one_target v.target u es.0 y (let r = same_rank v.target t f ∙ same_rank t u e in (ap (λ z. z.kind) r, ap (λ z. z.number) r, ap (λ z. z.port) r))))
      where
        untrue : false ≡ true → ⊥
        untrue g = cc
    choice false f = refl

all_as : (t u : PlainNetTarget) (ds : List PlainNetDriver) → IsProper t → IsProper u → same_target t u ≡ true → AllDrive (λ v. IsProper v × (same_target v u ≡ true)) ds → AllDrive (λ v. IsProper v × (same_target v t ≡ true)) ds
all_as t u [] x y e h = tt
all_as t u (d ∷ ds) x y e h =
    ((h.0.0, one_target d.target t h.0.0 x (let r = same_rank d.target u h.0.1 ∙ sym (same_rank t u e) in (ap (λ z. z.kind) r, ap (λ z. z.number) r, ap (λ z. z.port) r))), all_as t u ds x y e h.1)

-- each entry stands before none that it follows
abbrev pub InOrder : List Driven → Type 0
InOrder [] = Unit {0}
InOrder (u ∷ us) = NoEntryBefore u.target us × InOrder us

no_entry_before : (t : PlainNetTarget) (d : PlainNetDriver) (ts : List Driven) → NotBefore (rank_of d.target) (rank_of t) → NoEntryBefore t ts → NoEntryBefore t (with_driver d ts)
no_entry_before t d [] h n = (h, tt)
no_entry_before t d (u ∷ us) h n = choice (is_same d.target u.target)
  where
    choice : (b : Bool) → NoEntryBefore t (if b then record { target = d.target; drivers = d ∷ u.drivers } ∷ us else record { target = d.target; drivers = d ∷ [] } ∷ u ∷ us)
    choice true = (h, n.1)
    choice false = (h, n)

driven_before : (t : PlainNetTarget) (ds : List PlainNetDriver) → NoneBefore (rank_of t) ds → NoEntryBefore t (driven ds)
driven_before t [] n = tt
driven_before t (d ∷ ds) n = no_entry_before t d (driven ds) n.0 (driven_before t ds n.1)

entry_as : (t u : PlainNetTarget) (us : List Driven) → IsProper t → IsProper u → same_target t u ≡ true → NoEntryBefore u us → NoEntryBefore t us
entry_as t u [] x y e n = tt
entry_as t u (v ∷ vs) x y e n = (subst (λ r. NotBefore (rank_of v.target) r) (sym (same_rank t u e)) n.0, entry_as t u vs x y e n.1)

self_same : (t : PlainNetTarget) → IsProper t → same_target t t ≡ true
self_same t x = one_target t t x x (refl, refl, refl)

with_entries : (d : PlainNetDriver) (ts : List Driven) → IsProper d.target → AreEntries ts → InOrder ts → NoEntryBefore d.target ts → AreEntries (with_driver d ts) × InOrder (with_driver d ts)
with_entries d [] x es o n = ((x, ((x, self_same d.target x), tt), tt, tt), (tt, tt))
with_entries d (u ∷ us) x es o n = choice (is_same d.target u.target) refl
  where
    untrue : false ≡ true → ⊥
    untrue f = cc

    choice : (b : Bool) → is_same d.target u.target ≡ b
        → AreEntries (if b then record { target = d.target; drivers = d ∷ u.drivers } ∷ us else record { target = d.target; drivers = d ∷ [] } ∷ u ∷ us)
        × InOrder (if b then record { target = d.target; drivers = d ∷ u.drivers } ∷ us else record { target = d.target; drivers = d ∷ [] } ∷ u ∷ us)
    choice true e =
        let f : same_target d.target u.target ≡ true = sym (alike d.target u.target x es.0) ∙ e in
        ((x, ((x, self_same d.target x), all_as d.target u.target u.drivers x es.0 f es.1), none_as d.target u.target us x es.0 f es.3 es.2, es.3), (entry_as d.target u.target us x es.0 f o.0, o.1))
    choice false e =
        let f : same_target d.target u.target ≡ false = sym (alike d.target u.target x es.0) ∙ e in
        ((x, ((x, self_same d.target x), tt), (back (same_target u.target d.target) refl f, none_later d.target u.target us x es.0 f n.0 es.3 o.0), es), (n, o))
      where
        back : (b : Bool) → same_target u.target d.target ≡ b → same_target d.target u.target ≡ false → b ≡ false
        back true g f = absurd (untrue (sym f ∙ same_self u.target d.target es.0 g x))
        back false g f = refl

-- drivers in the order of targets make entries
pub driven_entries : (ds : List PlainNetDriver) → AllDrive IsProper ds → IsSorted ds → AreEntries (driven ds) × InOrder (driven ds)
driven_entries [] x s = (tt, tt)
driven_entries (d ∷ ds) x s = let k = driven_entries ds x.1 s.1 in with_entries d (driven ds) x.0 k.0 k.1 (driven_before d.target ds s.0)
