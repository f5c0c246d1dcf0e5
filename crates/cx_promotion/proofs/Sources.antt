-- WHAT A TARGET IS SEEN AS: by the same assignments at other offsets, and where each active one has the same source.
use Rattle.std.specs.Prelude.{◌≡◌, ℕ, ◌==◌, Bool, true, List, [], ◌∷◌, ◌++◌, if◌then◌else◌, refl}
use Rattle.std.proofs.Common.{ap, ◌∙◌, inl, inr, arith}
use Rattle.std.proofs.lemmas.Bool.Decides.{nat_tests}
use Rattle.cx_text.specs.Members.{In}
use Rattle.cx_meaning.specs.declared.ports.PortRef.{PortRef}
use Rattle.cx_meaning.specs.declared.sights.Seen.{Seen}
use Rattle.cx_meaning.specs.declared.sights.Seen.TheVariants as sights
use Rattle.cx_meaning.specs.Designs.{PlainGuard, Always, Atom, Negation, All, Any, Compared, Within, PlainGuards, no_guards, a_guard}
use Rattle.cx_meaning.specs.Active.{Acting}
use Rattle.cx_meaning.specs.Truths.{One, and_truth, or_truth, not_truth}
use Rattle.cx_meaning.specs.Sights.{Look, guard_truth, all_truth, any_truth, Sources, with_source, take_guard, taken, agreed, all_agreed, settle, target_seen}
use Rattle.cx_rules.specs.Items.{Range, ranges_of, ranges_in}
use Rattle.cx_promotion.proofs.Orders.{SameActing, no_more, one_more}

-- A GUARD WITHOUT % says the same at each offset
append_nil : (xs ys : List Range) → (xs ++ ys) ≡ [] → (xs ≡ []) × (ys ≡ [])
append_nil [] ys e = (refl, e)
append_nil (x ∷ xs) ys e = absurd (cc)

module _ (look : Look) (m n : ℕ) where
  mutual
    no_offset : (g : PlainGuard) → ranges_of g ≡ [] → guard_truth look m g ≡ guard_truth look n g
    no_offset Always e = refl
    no_offset (Atom p) e = refl
    no_offset (Negation g) e = ap not_truth (no_offset g e)
    no_offset (All gs) e = no_offset_all gs e
    no_offset (Any gs) e = no_offset_any gs e
    no_offset (Compared c a b) e = refl
    no_offset (Within from to) e = absurd (cc)

    no_offset_all : (gs : PlainGuards) → ranges_in gs ≡ [] → all_truth look m gs ≡ all_truth look n gs
    no_offset_all no_guards e = refl
    no_offset_all (a_guard g gs) e =
        let both = append_nil (ranges_of g) (ranges_in gs) e in
        ap (λ x. and_truth x (all_truth look m gs)) (no_offset g both.0) ∙ ap (λ x. and_truth (guard_truth look n g) x) (no_offset_all gs both.1)

    no_offset_any : (gs : PlainGuards) → ranges_in gs ≡ [] → any_truth look m gs ≡ any_truth look n gs
    no_offset_any no_guards e = refl
    no_offset_any (a_guard g gs) e =
        let both = append_nil (ranges_of g) (ranges_in gs) e in
        ap (λ x. or_truth x (any_truth look m gs)) (no_offset g both.0) ∙ ap (λ x. or_truth (guard_truth look n g) x) (no_offset_any gs both.1)

-- THE TARGET of the same assignments is seen alike
pub taken_same : (look : Look) {acts others : List Acting} → SameActing acts others → taken look acts ≡ taken look others
taken_same look no_more = refl
taken_same look (one_more a m n {rest = rest} {others = others} quiet later) =
    ap (λ t. take_guard t a.source.port (taken look rest)) (no_offset look m n a.guard quiet) ∙ ap (take_guard (guard_truth look n a.guard) a.source.port) (taken_same look later)

pub target_same : (undriven : Seen) (look : Look) {acts others : List Acting} → SameActing acts others → target_seen undriven look acts ≡ target_seen undriven look others
target_same undriven look same = ap (settle undriven look) (taken_same look same)

-- ONE SOURCE: each assignment is taken, and has this source
abbrev pub IsFrom : Look → PortRef → Acting → Type 0
IsFrom look q a = (guard_truth look a.offset a.assign.guard ≡ One) × (a.assign.source.port ≡ q)

abbrev AllFrom : Look → PortRef → List Acting → Type 0
AllFrom look q acts = (a : Acting) → In acts a → IsFrom look q a

equal_itself : (n : ℕ) → (n == n) ≡ true
equal_itself n = grind (arith, nat_tests)

agreed_itself : (x : Seen) → agreed x x ≡ x
agreed_itself (sights.Value a) = ap (λ (b : Bool). if b then sights.Value a else sights.Conflict) (equal_itself a.value)
agreed_itself sights.Conflict = refl
agreed_itself sights.Undefined = refl

-- so many copies of a source
data Copies (q : PortRef) : List PortRef → Type 0 where
  no_copy : Copies q []
  a_copy : {list : List PortRef} → Copies q list → Copies q (q ∷ list)

copies_agree : (look : Look) (q : PortRef) {list : List PortRef} → Copies q list → all_agreed look q list ≡ look q
copies_agree look q no_copy = refl
copies_agree look q (a_copy later) = ap (agreed (look q)) (copies_agree look q later) ∙ agreed_itself (look q)

taken_copies : (look : Look) (q : PortRef) (acts : List Acting) → AllFrom look q acts → (list : List PortRef) × (taken look acts ≡ Sources list) × Copies q list
taken_copies look q [] all = ([], refl, no_copy)
taken_copies look q (a ∷ rest) all =
    let later = taken_copies look q rest (λ x j. all x (inr j)) in
    let here = all a (inl refl) in (
      q ∷ later.0,
      ap (λ t. take_guard t a.assign.source.port (taken look rest)) here.0 ∙ ap (λ r. with_source r (taken look rest)) here.1 ∙ ap (with_source q) later.1,
      a_copy later.2,
    )

-- WHERE SOME ASSIGNMENT is active, the target is seen as the source
pub target_from : (undriven : Seen) (look : Look) (q : PortRef) (a : Acting) (rest : List Acting) → AllFrom look q (a ∷ rest) → target_seen undriven look (a ∷ rest) ≡ look q
target_from undriven look q a rest all =
    let later = taken_copies look q rest (λ x j. all x (inr j)) in
    let here = all a (inl refl) in
    ap (settle undriven look)
    (ap (λ t. take_guard t a.assign.source.port (taken look rest)) here.0 ∙ ap (λ r. with_source r (taken look rest)) here.1 ∙ ap (with_source q) later.1)
    ∙ copies_agree look q later.2

pub target_some : (undriven : Seen) (look : Look) (q : PortRef) (acts : List Acting) (a : Acting) → In acts a → ((b : Acting) → In acts b → IsFrom look q b) → target_seen undriven look acts ≡ look q
target_some undriven look q [] a j all = absurd j
target_some undriven look q (b ∷ rest) a j all = target_from undriven look q b rest all
