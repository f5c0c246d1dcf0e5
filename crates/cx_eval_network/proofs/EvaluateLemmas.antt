-- What marks of the ports of an instance, by their numbers there, come to.
use Rattle.std.proofs.Common.{◌≡◌, ℕ, zero, suc, ◌<◌, inl, true, false, Option, Some, None, List, [], ◌∷◌, ◌++◌, drop, get_or, length, map, refl, sym, ap, ◌∙◌, subst, arith}
use Rattle.std.specs.Prelude.{IfNone, option_to_list, slice_get}
use Rattle.std.proofs.lemmas.List.{append-nil}
use Rattle.cx_text.proofs.MemberLaws.{in_left, in_right}
use Rattle.cx_text.specs.Members.{In}
use Rattle.cx_meaning.specs.declared.ports.PortRef.{PortRef}
use Rattle.cx_meaning.specs.declared.ports.PlacedPort.{PlacedPort}
use Rattle.cx_meaning.specs.declared.sights.Seen.{Seen}
use Rattle.cx_meaning.specs.Active.{Owned, if_acting}
use Rattle.cx_meaning.specs.Designs.{PlainGuard, PlainGuards, Always, Atom, Negation, All, Any, Compared, Within, no_guards, a_guard}
use Rattle.cx_meaning.specs.Instances.{Instance}
use Rattle.cx_meaning.specs.Sights.{Look, guard_truth, all_truth, any_truth, target_seen}
use Rattle.cx_meaning.specs.Truths.{truth_of, not_truth, and_truth, or_truth, compared}
use Rattle.cx_rules.specs.Items.{operands_of, operands_in, sources_of}
use Rattle.cx_design_leads.specs.Nodes.{node_of}
use Rattle.cx_eval_drives.specs.declared.targets.Drive.{Drive}
use Rattle.cx_eval_drives.specs.Drives.{acting_of, drive_of}
use Rattle.cx_eval_drives.proofs.DriveLemmas.{seen_of, target_is}
use Rattle.cx_eval_network.specs.declared.marks.NodeMark.{NodeMark}
use Rattle.cx_eval_network.specs.declared.marks.NodeMark.TheVariants.{Unseen, Open, Known}
use Rattle.cx_eval_network.specs.Demands.{is_known, known_at}
use Rattle.cx_eval_network.specs.Evaluated.{Agree, Gives, by_mark, port_found, port_shown, truth_shown, all_shown, any_shown}
use Rattle.cx_eval_network.specs.LeadPorts.{named_by}
use Rattle.cx_eval_network.specs.Networks.{shown}
use Rattle.cx_eval_network.specs.Planned.{by_number, guard_plan, guard_plans, numbers_of, port_plan}
use Rattle.cx_eval_network.proofs.PlanLemmas.{numbers_of-append}

-- WHAT MARKS SHOW of what is known is what is seen
module _ (i : Instance) (look : Look) (own : List NodeMark) (agree : Agree i look own) where
  abbrev pub AllKnown : List ℕ → Type 0
  AllKnown ns = (m : ℕ) → In ns m → known_at own m ≡ true

  known_mark : (n : ℕ) (q : PortRef) → node_of i q ≡ Some n → known_at own n ≡ true → shown (slice_get own n) ≡ look q
  known_mark n q e known = by (slice_get own n) refl known
    where
      by : (o : Option NodeMark) → slice_get own n ≡ o → is_known o ≡ true → shown o ≡ look q
      by None is known = absurd (let no : false ≡ true = known in cc)
      by (Some Unseen) is known = absurd (let no : false ≡ true = known in cc)
      by (Some Open) is known = absurd (let no : false ≡ true = known in cc)
      by (Some (Known x)) is known = agree.known q n x e is

  port_is : (q : PortRef) → AllKnown (option_to_list (node_of i q)) → port_shown own (port_plan i q) ≡ look q
  port_is q = by (node_of i q) refl
    where
      by : (o : Option ℕ) → node_of i q ≡ o → AllKnown (option_to_list o) → port_shown own (by_number q o) ≡ look q
      by None is known = agree.fixed q is
      by (Some n) is known = known_mark n q is (known n (inl refl))

  pub source_gives : (q : PortRef) → Gives (look q) (port_found own (port_plan i q))
  source_gives q = by (node_of i q) refl
    where
      mark : (n : ℕ) → node_of i q ≡ Some n → (o : Option NodeMark) → slice_get own n ≡ o → Gives (look q) (by_mark n o)
      mark n is None f = tt
      mark n is (Some Unseen) f = tt
      mark n is (Some Open) f = tt
      mark n is (Some (Known x)) f = agree.known q n x is f

      by : (o : Option ℕ) → node_of i q ≡ o → Gives (look q) (port_found own (by_number q o))
      by None is = agree.fixed q is
      by (Some n) is = mark n is (slice_get own n) refl

  abbrev pub named : List PlacedPort → List ℕ
  named ps = numbers_of i (map (λ q. q.port) ps)

  named_more : (ps qs : List PlacedPort) → named (ps ++ qs) ≡ named ps ++ named qs
  named_more [] qs = refl
  named_more (p ∷ ps) qs = numbers_of-append i (p.port ∷ []) (map (λ q. q.port) (ps ++ qs)) ∙ more (node_of i p.port) (named_more ps qs)
    where
      more : (o : Option ℕ) → named (ps ++ qs) ≡ named ps ++ named qs → (option_to_list o ++ []) ++ named (ps ++ qs) ≡ (option_to_list o ++ named ps) ++ named qs
      more None e = e
      more (Some n) e = ap (λ ns. n ∷ ns) e

  in_front : (ps qs : List PlacedPort) → AllKnown (named (ps ++ qs)) → AllKnown (named ps)
  in_front ps qs known m h = known m (subst (λ ns. In ns m) (sym (named_more ps qs)) (in_left (named ps) (named qs) m h))

  in_back : (ps qs : List PlacedPort) → AllKnown (named (ps ++ qs)) → AllKnown (named qs)
  in_back ps qs known m h = known m (subst (λ ns. In ns m) (sym (named_more ps qs)) (in_right (named ps) (named qs) m h))

  one_known : (p : PlacedPort) (rest : List PlacedPort) → AllKnown (named (p ∷ rest)) → AllKnown (option_to_list (node_of i p.port))
  one_known p rest known m h = known m (in_left (option_to_list (node_of i p.port)) (named rest) m h)

  rest_known : (p : PlacedPort) (rest : List PlacedPort) → AllKnown (named (p ∷ rest)) → AllKnown (named rest)
  rest_known p rest known m h = known m (in_right (option_to_list (node_of i p.port)) (named rest) m h)

  mutual
    pub truth_is : (at : ℕ) (g : PlainGuard) → AllKnown (named (operands_of g)) → truth_shown own at (guard_plan i g) ≡ guard_truth look at g
    truth_is at Always known = refl
    truth_is at (Atom p) known = ap truth_of (port_is p.port (one_known p [] known))
    truth_is at (Negation g) known = ap not_truth (truth_is at g known)
    truth_is at (All gs) known = all_is at gs known
    truth_is at (Any gs) known = any_is at gs known
    truth_is at (Compared c a b) known =
        ap (λ x. compared c x (port_shown own (port_plan i b.port))) (port_is a.port (one_known a (b ∷ []) known))
        ∙ ap (compared c (look a.port)) (port_is b.port (one_known b [] (rest_known a (b ∷ []) known)))
    truth_is at (Within from to) known = refl

    all_is : (at : ℕ) (gs : PlainGuards) → AllKnown (named (operands_in gs)) → all_shown own at (guard_plans i gs) ≡ all_truth look at gs
    all_is at no_guards known = refl
    all_is at (a_guard g gs) known =
        ap (λ t. and_truth t (all_shown own at (guard_plans i gs))) (truth_is at g (in_front (operands_of g) (operands_in gs) known))
        ∙ ap (and_truth (guard_truth look at g)) (all_is at gs (in_back (operands_of g) (operands_in gs) known))

    any_is : (at : ℕ) (gs : PlainGuards) → AllKnown (named (operands_in gs)) → any_shown own at (guard_plans i gs) ≡ any_truth look at gs
    any_is at no_guards known = refl
    any_is at (a_guard g gs) known =
        ap (λ t. or_truth t (any_shown own at (guard_plans i gs))) (truth_is at g (in_front (operands_of g) (operands_in gs) known))
        ∙ ap (or_truth (guard_truth look at g)) (any_is at gs (in_back (operands_of g) (operands_in gs) known))

-- WHAT AN ASSIGNMENT NEEDS is what it names
module _ (i : Instance) (offset : Option ℕ → Option ℕ) where
  abbrev pub needed : List Owned → List ℕ
  needed owned = numbers_of i (named_by (acting_of offset owned))

  active_named : (a : Owned) (n off : ℕ) → Some off ≡ offset a.owner → In (numbers_of i (map (λ q. q.port) (sources_of a.assign))) n → In (needed (a ∷ [])) n
  active_named a n off e h = subst (λ o. In (numbers_of i (named_by (if_acting o a.assign []))) n) e (subst (λ qs. In (numbers_of i qs) n) (sym (append-nil (map (λ q. q.port) (sources_of a.assign)))) h)

  pub guard_needed : (a : Owned) (n off : ℕ) → Some off ≡ offset a.owner → In (numbers_of i (map (λ q. q.port) (operands_of a.assign.guard))) n → In (needed (a ∷ [])) n
  guard_needed a n off e h = active_named a n off e (in_right (option_to_list (node_of i a.assign.source.port)) (numbers_of i (map (λ q. q.port) (operands_of a.assign.guard))) n h)

  one_of : (a : Owned) (rest : List Owned) (n : ℕ) → In (needed (a ∷ [])) n → In (needed (a ∷ rest)) n
  one_of a rest n h = by (offset a.owner) h
    where
      by : (o : Option ℕ) → In (numbers_of i (named_by (if_acting o a.assign []))) n → In (numbers_of i (named_by (if_acting o a.assign (acting_of offset rest)))) n
      by None h = absurd h
      by (Some k) h =
          let names = map (λ q. q.port) (sources_of a.assign) in
          subst (λ ns. In ns n) (sym (numbers_of-append i names (named_by (acting_of offset rest))))
          (in_left (numbers_of i names) (needed rest) n (subst (λ qs. In (numbers_of i qs) n) (append-nil names) h))

  later_of : (a : Owned) (rest : List Owned) (n : ℕ) → In (needed rest) n → In (needed (a ∷ rest)) n
  later_of a rest n h = by (offset a.owner)
    where
      by : (o : Option ℕ) → In (numbers_of i (named_by (if_acting o a.assign (acting_of offset rest)))) n
      by None = h
      by (Some k) =
          let names = map (λ q. q.port) (sources_of a.assign) in
          subst (λ ns. In ns n) (sym (numbers_of-append i names (named_by (acting_of offset rest)))) (in_right (numbers_of i names) (needed rest) n h)

  pub needed_at : (owned : List Owned) (k : ℕ) (a : Owned) (rest : List Owned) (n : ℕ) → drop k owned ≡ a ∷ rest → In (needed (a ∷ [])) n → In (needed owned) n
  needed_at owned zero a rest n e h = subst (λ xs. In (needed xs) n) (sym e) (one_of a rest n h)
  needed_at [] (suc k) a rest n e h = absurd (cc)
  needed_at (x ∷ owned) (suc k) a rest n e h = later_of x owned n (needed_at owned k a rest n e h)

-- one of two lists that stand for the same
pub stand_at : {A B C : Type 0} (f : A → C) (g : B → C) (xs : List A) (ys : List B) (k : ℕ) (x : A) → map f xs ≡ map g ys → k < length xs → x ≡ get_or xs k x
    → (y : B) × (f x ≡ g y) × (drop k ys ≡ y ∷ drop (suc k) ys)
stand_at f g [] ys k x e lt is = absurd (omega (arith, lt))
stand_at f g (z ∷ xs) [] k x e lt is = absurd (cc)
stand_at f g (z ∷ xs) (y ∷ ys) zero x e lt is = (y, ap f is ∙ first e, refl)
  where
    first : f z ∷ map f xs ≡ g y ∷ map g ys → f z ≡ g y
    first e = cc
stand_at f g (z ∷ xs) (y ∷ ys) (suc k) x e lt is = stand_at f g xs ys k x (behind e) (omega (arith, lt)) is
  where
    behind : f z ∷ map f xs ≡ g y ∷ map g ys → map f xs ≡ map g ys
    behind e = cc

pub if_none : {A : Type 0} (o : Option A) (P Q : Type 0) → (P → Q) → IfNone o P → IfNone o Q
if_none None P Q f p = f p
if_none (Some x) P Q f p = p

-- all drivers are gone through
pub ended : (undriven x : Seen) (look : Look) (offset : Option ℕ → Option ℕ) (owned : List Owned) (left : ℕ) (d : Drive) → left ≡ 0 → d ≡ drive_of look offset (drop left owned) → x ≡ seen_of undriven d
    → x ≡ target_seen undriven look (acting_of offset owned)
ended undriven x look offset owned left d z e f = f ∙ ap (seen_of undriven) (e ∙ ap (λ n. drive_of look offset (drop n owned)) z) ∙ target_is undriven look offset owned
