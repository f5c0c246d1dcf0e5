-- THE ACTIVE ASSIGNMENTS of a port in both designs, which stand in one order.
use Rattle.std.specs.Prelude.{◌≡◌, ℕ, Bool, true, false, List, [], ◌∷◌, Option, Some, None, refl}
use Rattle.std.proofs.Common.{subst, sym, ap, ◌∙◌, inl, inr}
use Rattle.cx_meaning.specs.declared.ports.PortRef.{PortRef}
use Rattle.cx_meaning.specs.Designs.{PlainAssign}
use Rattle.cx_meaning.specs.Instances.{Instance}
use Rattle.cx_meaning.specs.Active.{Active, Acting, Owned, offset_of, if_acting, if_target, acting, same_port}
use Rattle.cx_text.specs.Members.{In}
use Rattle.cx_rules.specs.Items.{ranges_of}
use Rattle.cx_rules.specs.Footprints.{AssignNames}
use Rattle.cx_rules.specs.Ports.{is_primitive_enable}
use Rattle.cx_rules.specs.ShapeRules.{is_hole}
use Rattle.cx_rules.proofs.FoundLemmas.{same_is}
use Rattle.cx_promotion.specs.Made.{without_guard, OrderMade, no_assigns, stands, bared, dropped}
use Rattle.cx_text.proofs.BoolLaws.{not_both}

-- what is not active is left out, and so is what drives another port
pub not_active : (b : Bool) (act : Active) (o : Owned) (rest : List Acting) → offset_of act o.owner ≡ None → if_target b act o rest ≡ rest
not_active true act o rest none = ap (λ k. if_acting k o.assign rest) none
not_active false act o rest none = refl

pub not_target : (act : Active) (o : Owned) (p : PortRef) (rest : List Acting) → (o.assign.target ≡ p → ⊥) → if_target (same_port o.assign.target p) act o rest ≡ rest
not_target act o p rest other = by_test (same_port o.assign.target p) refl
  where
    by_test : (b : Bool) → same_port o.assign.target p ≡ b → if_target b act o rest ≡ rest
    by_test true e = absurd (other (same_is o.assign.target p e))
    by_test false e = refl

-- WHERE NO PROMOTED GROUP IS ACTIVE they are the same
module _ (i : Instance) (promoted : ℕ → Type 0) (act : Active) (p : PortRef) (idle : (g : ℕ) → promoted g → act.offset g ≡ None) where
  owner_idle : (o : Owned) (g : ℕ) → o.owner ≡ Some g → promoted g → offset_of act o.owner ≡ None
  owner_idle o g mine is = ap (offset_of act) mine ∙ idle g is

  pub acting_stays : {os ps : List Owned} → OrderMade i promoted os ps → acting act p ps ≡ acting act p os
  acting_stays no_assigns = refl
  acting_stays (stands {o = o} later) = ap (if_target (same_port o.assign.target p) act o) (acting_stays later)
  acting_stays (bared {o = o} {os = os} {ps = ps} g mine is enable later) =
      not_active (same_port o.assign.target p) act (without_guard o) (acting act p ps) (owner_idle o g mine is)
      ∙ acting_stays later
      ∙ sym (not_active (same_port o.assign.target p) act o (acting act p os) (owner_idle o g mine is))
  acting_stays (dropped {o = o} {os = os} g mine is hole later) =
      acting_stays later ∙ sym (not_active (same_port o.assign.target p) act o (acting act p os) (owner_idle o g mine is))

-- THE SAME ASSIGNMENTS, at other offsets, without %
pub data SameActing : List Acting → List Acting → Type 0 where
  no_more : SameActing [] []
  one_more : (a : PlainAssign) (m n : ℕ) {rest others : List Acting} → ranges_of a.guard ≡ [] → SameActing rest others
      → SameActing (record { offset = m; assign = a } ∷ rest) (record { offset = n; assign = a } ∷ others)

-- both are active or neither is
abbrev pub Both : Option ℕ → Option ℕ → Type 0
Both None None = Unit {0}
Both (Some m) (Some n) = Unit {0}
Both _ _ = ⊥

module _ (i : Instance) (promoted : ℕ → Type 0) (act other : Active) (p : PortRef) (no_hole : is_hole p ≡ false) (no_enable : is_primitive_enable i p ≡ false)
    (alike : (o : Option ℕ) → Both (offset_of act o) (offset_of other o)) where
  abbrev Quiet : List Owned → Type 0
  Quiet os = (o : Owned) (k : ℕ) → In os o → offset_of act o.owner ≡ Some k → ranges_of o.assign.guard ≡ []

  same_offset : (k j : Option ℕ) → Both k j → (a : PlainAssign) → ((m : ℕ) → k ≡ Some m → ranges_of a.guard ≡ []) → (rest others : List Acting) → SameActing rest others
      → SameActing (if_acting k a rest) (if_acting j a others)
  same_offset None None each a quiet rest others later = later
  same_offset (Some m) (Some n) each a quiet rest others later = one_more a m n (quiet m refl) later
  same_offset None (Some n) wrong a quiet rest others later = absurd wrong
  same_offset (Some m) None wrong a quiet rest others later = absurd wrong

  same_target : (b : Bool) (o : Owned) → ((m : ℕ) → offset_of act o.owner ≡ Some m → ranges_of o.assign.guard ≡ []) → (rest others : List Acting) → SameActing rest others
      → SameActing (if_target b act o rest) (if_target b other o others)
  same_target false o quiet rest others later = later
  same_target true o quiet rest others later = same_offset (offset_of act o.owner) (offset_of other o.owner) (alike o.owner) o.assign quiet rest others later

  not_here : (o : Owned) → is_primitive_enable i o.assign.target ≡ true → o.assign.target ≡ p → ⊥
  not_here o enable e = not_both (is_primitive_enable i p) (subst (λ t. is_primitive_enable i t ≡ true) e enable) no_enable

  -- at a port that is neither a done hole nor an enabling port
  pub acting_same : {os ps : List Owned} → OrderMade i promoted os ps → Quiet os → SameActing (acting act p os) (acting other p ps)
  acting_same no_assigns quiet = no_more
  acting_same (stands {o = o} {os = os} {ps = ps} later) quiet =
      same_target (same_port o.assign.target p) o (λ m. quiet o m (inl refl)) (acting act p os) (acting other p ps) (acting_same later (λ x k j. quiet x k (inr j)))
  acting_same (bared {o = o} {os = os} {ps = ps} g mine is enable later) quiet =
      subst (λ x. SameActing x (if_target (same_port o.assign.target p) other (without_guard o) (acting other p ps))) (sym (not_target act o p (acting act p os) (not_here o enable)))
      (subst (λ x. SameActing (acting act p os) x) (sym (not_target other (without_guard o) p (acting other p ps) (not_here o enable))) (acting_same later (λ x k j. quiet x k (inr j))))
  acting_same (dropped {o = o} {os = os} {ps = ps} g mine is hole later) quiet =
      let not_mine : o.assign.target ≡ p → ⊥ = λ e. not_both (is_hole p) (subst (λ t. is_hole t ≡ true) e hole) no_hole in
      subst (λ x. SameActing x (acting other p ps)) (sym (not_target act o p (acting act p os) not_mine)) (acting_same later (λ x k j. quiet x k (inr j)))

-- WHERE AN ACTIVE ASSIGNMENT COMES FROM
pub record From (act : Active) (p : PortRef) (list : List Owned) (a : Acting) : Type 0 where
  pub owned : Owned
  pub stands : In list owned
  pub target : owned.assign.target ≡ p
  pub active : offset_of act owned.owner ≡ Some a.offset
  pub same : a.assign ≡ owned.assign

later_from : {act : Active} {p : PortRef} {list : List Owned} {a : Acting} (o : Owned) → From act p list a → From act p (o ∷ list) a
later_from o f = record { owned = f.owned; stands = inr f.stands; target = f.target; active = f.active; same = f.same }

pub acting_from : (act : Active) (p : PortRef) (list : List Owned) (a : Acting) → In (acting act p list) a → From act p list a
acting_from act p [] a j = absurd j
acting_from act p (o ∷ rest) a j = by_target (λ k. later_from o (acting_from act p rest a k)) (same_port o.assign.target p) refl j
  where
    by_offset : (In (acting act p rest) a → From act p (o ∷ rest) a) → same_port o.assign.target p ≡ true → (k : Option ℕ) → offset_of act o.owner ≡ k → In (if_acting k o.assign (acting act p rest)) a → From act p (o ∷ rest) a
    by_offset below is None off k = below k
    by_offset below is (Some m) off (inl e) =
        record { owned = o; stands = inl refl; target = same_is o.assign.target p is; active = off ∙ ap (λ (x : Acting). Some x.offset) e; same = sym (ap (λ (x : Acting). x.assign) e) }
    by_offset below is (Some m) off (inr k) = below k

    by_target : (In (acting act p rest) a → From act p (o ∷ rest) a) → (b : Bool) → same_port o.assign.target p ≡ b → In (if_target b act o (acting act p rest)) a → From act p (o ∷ rest) a
    by_target below false is k = below k
    by_target below true is k = by_offset below is (offset_of act o.owner) refl k

-- an assignment of the new design, and the one from which it was made, which names what it names
pub record CameFrom (list : List Owned) (q : Owned) : Type 0 where
  pub owned : Owned
  pub stands : In list owned
  pub owner : owned.owner ≡ q.owner
  pub target : owned.assign.target ≡ q.assign.target
  pub source : owned.assign.source.port ≡ q.assign.source.port
  pub names : (r : PortRef) → AssignNames q.assign r → AssignNames owned.assign r

later_came : {list : List Owned} {q : Owned} (o : Owned) → CameFrom list q → CameFrom (o ∷ list) q
later_came o m = record { owned = m.owned; stands = inr m.stands; owner = m.owner; target = m.target; source = m.source; names = m.names }

came_itself : (list : List Owned) (o q : Owned) → o ≡ q → CameFrom (o ∷ list) q
came_itself list o q e = subst (λ x. CameFrom (o ∷ list) x) e (record { owned = o; stands = inl refl; owner = refl; target = refl; source = refl; names = λ r n. n })

bare_names : (o : Owned) (r : PortRef) → AssignNames (without_guard o).assign r → AssignNames o.assign r
bare_names o r (inl n) = absurd n
bare_names o r (inr e) = inr e

came_bare : (list : List Owned) (o q : Owned) → without_guard o ≡ q → CameFrom (o ∷ list) q
came_bare list o q e = subst (λ x. CameFrom (o ∷ list) x) e (record { owned = o; stands = inl refl; owner = refl; target = refl; source = refl; names = bare_names o })

-- one that is no done, and what was made of it
pub record WentTo (list : List Owned) (o : Owned) : Type 0 where
  pub owned : Owned
  pub stands : In list owned
  pub owner : owned.owner ≡ o.owner
  pub target : owned.assign.target ≡ o.assign.target

later_went : {list : List Owned} {o : Owned} (x : Owned) → WentTo list o → WentTo (x ∷ list) o
later_went x m = record { owned = m.owned; stands = inr m.stands; owner = m.owner; target = m.target }

module _ (i : Instance) (promoted : ℕ → Type 0) where
  pub came_from : {os ps : List Owned} → OrderMade i promoted os ps → (q : Owned) → In ps q → CameFrom os q
  came_from no_assigns q j = absurd j
  came_from (stands {o = o} {os = os} later) q (inl e) = came_itself os o q e
  came_from (stands {o = o} later) q (inr j) = later_came o (came_from later q j)
  came_from (bared {o = o} {os = os} g mine is enable later) q (inl e) = came_bare os o q e
  came_from (bared {o = o} g mine is enable later) q (inr j) = later_came o (came_from later q j)
  came_from (dropped {o = o} g mine is hole later) q j = later_came o (came_from later q j)

  pub went_to : {os ps : List Owned} → OrderMade i promoted os ps → (o : Owned) → In os o → is_hole o.assign.target ≡ false → WentTo ps o
  went_to no_assigns o j no_hole = absurd j
  went_to (stands {o = x} later) o (inl e) no_hole = record { owned = x; stands = inl refl; owner = ap (λ (y : Owned). y.owner) e; target = ap (λ (y : Owned). y.assign.target) e }
  went_to (stands {o = x} later) o (inr j) no_hole = later_went x (went_to later o j no_hole)
  went_to (bared {o = x} g mine is enable later) o (inl e) no_hole =
      record { owned = without_guard x; stands = inl refl; owner = ap (λ (y : Owned). y.owner) e; target = ap (λ (y : Owned). y.assign.target) e }
  went_to (bared {o = x} g mine is enable later) o (inr j) no_hole = later_went (without_guard x) (went_to later o j no_hole)
  went_to (dropped {o = x} g mine is hole later) o (inl e) no_hole =
      absurd (not_both (is_hole o.assign.target) (subst (λ (y : Owned). is_hole y.assign.target ≡ true) e hole) no_hole)
  went_to (dropped g mine is hole later) o (inr j) no_hole = went_to later o j no_hole
