-- For each input of a cell whether an assignment binds it, as marks are set.
use Rattle.std.proofs.Common.{◌≡◌, ◌≢◌, ℕ, zero, suc, ◌<◌, Bool, true, false, ◌||◌, not, ◌↔◌, nat_eq, List, [], ◌∷◌, ◌++◌, Option, Some, length, replicate, slice_get, set, refl, sym, ap, ◌∙◌, subst, arith, true≢false}
use Rattle.std.specs.List.{list_any}
use Rattle.std.proofs.lemmas.List.{length-set}
use Rattle.cx_text.proofs.MemberLaws.{in_at, number_in}
use Rattle.cx_meaning.specs.declared.ports.PortRef.{PortRef}
use Rattle.cx_meaning.specs.Designs.{PlainAssign}
use Rattle.cx_meaning.specs.Active.{same_port}
use Rattle.cx_rules.specs.ShapeRules.{some_target}
use Rattle.cx_rules.specs.InvokeShape.{input_port}
use Rattle.cx_shape_calls.specs.StaticInvokes.{is_bound, some_unbound, AreBound}
use Rattle.cx_shape_calls.proofs.BoolLemmas.{any_in, any_has, not_same}
use Rattle.cx_shape_calls.proofs.InvokeLemmas.{unbound_sound, unbound_complete}
use Rattle.cx_text.proofs.BoolLaws.{from_not, false_if, or_false}
use Rattle.cx_text.proofs.ListLaws.{there_below, set_same, set_other}
use Rattle.cx_text.proofs.NumberLaws.{from_eq}
use Rattle.cx_text.proofs.OptionLaws.{same_some, some_is}
use Rattle.std.proofs.lemmas.Bool.{not_from_false}

replicated : (count n : ℕ) → n < count → slice_get (replicate count false) n ≡ Some false
replicated zero n h = absurd (omega (arith, h))
replicated (suc count) zero h = refl
replicated (suc count) (suc n) h = replicated count n (omega (arith, h))

some_more : (test : PortRef → Bool) (inputs : List PlainAssign) (a : PlainAssign) → some_target test (inputs ++ a ∷ []) ≡ (some_target test inputs || test a.target)
some_more test [] a = or_false (test a.target)
some_more test (x ∷ inputs) a = ap (λ b. test x.target || b) (some_more test inputs a) ∙ grouped (test x.target) (some_target test inputs) (test a.target)
  where
    grouped : (a b c : Bool) → (a || (b || c)) ≡ ((a || b) || c)
    grouped true b c = refl
    grouped false b c = refl

module _ (c : ℕ) where
  -- one more assignment, which binds this input, or none
  module _ (inputs : List PlainAssign) (a : PlainAssign) (port : PortRef) (is : a.target ≡ port) (count : ℕ) (marks : List Bool) (bound : AreBound c inputs count marks)
      (found : Option ℕ) (finds : (n : ℕ) → (same_port (input_port c n) port ≡ true) ↔ (found ≡ Some n)) where
    with_one : (n : ℕ) (b : Bool) → same_port (input_port c n) port ≡ b → is_bound c (inputs ++ a ∷ []) n ≡ (is_bound c inputs n || b)
    with_one n b e = some_more (same_port (input_port c n)) inputs a ∙ ap (λ x. is_bound c inputs n || x) (ap (same_port (input_port c n)) is ∙ e)

    unless : (n : ℕ) → (found ≡ Some n → ⊥) → is_bound c (inputs ++ a ∷ []) n ≡ is_bound c inputs n
    unless n other = with_one n false (false_if (same_port (input_port c n) port) (λ e. absurd (other ((finds n).0 e)))) ∙ or_false (is_bound c inputs n)

    pub bound_same : ((n : ℕ) → n < count → found ≡ Some n → ⊥) → AreBound c (inputs ++ a ∷ []) count marks
    bound_same other = record { many = bound.many; tell = λ n h. bound.tell n h ∙ ap Some (sym (unless n (other n h))) }

    pub bound_one : (k : ℕ) → found ≡ Some k → k < length marks → AreBound c (inputs ++ a ∷ []) count (set marks k true)
    bound_one k f within = record { many = length-set marks k true ∙ bound.many; tell = λ n h. choice n h (nat_eq n k) refl }
      where
        right : (b : Bool) → (b || true) ≡ true
        right true = refl
        right false = refl

        choice : (n : ℕ) → n < count → (b : Bool) → nat_eq n k ≡ b → slice_get (set marks k true) n ≡ Some (is_bound c (inputs ++ a ∷ []) n)
        choice n h true e =
            let same : n ≡ k = from_eq n k e in
            let set_is : is_bound c (inputs ++ a ∷ []) n ≡ true = with_one n true ((finds n).1 (f ∙ ap Some (sym same))) ∙ right (is_bound c inputs n) in
            ap (slice_get (set marks k true)) same ∙ set_same marks k true within ∙ ap Some (sym set_is)
        choice n h false e =
            let other : n ≢ k = not_same n k e in
            set_other marks k n true other ∙ bound.tell n h ∙ ap Some (sym (unless n (λ g. other (sym (some_is k n (sym f ∙ g))))))

  one_truth : (x y : Bool) → (x ≡ true → y ≡ true) → (y ≡ true → x ≡ true) → x ≡ y
  one_truth true y f g = sym (f refl)
  one_truth false y f g = sym (false_if y (λ e. absurd (true≢false (sym (g e)))))

  -- a mark is not set exactly where an input is not bound
  pub some_mark : (inputs : List PlainAssign) (count : ℕ) (marks : List Bool) → AreBound c inputs count marks → list_any not marks ≡ some_unbound c inputs count
  some_mark inputs count marks bound = one_truth (list_any not marks) (some_unbound c inputs count) sound complete
    where
      sound : list_any not marks ≡ true → some_unbound c inputs count ≡ true
      sound h =
          let m = any_in not marks h in
          let n = number_in marks m.0 m.1 in
          let below : n.0 < count = subst (λ x. n.0 < x) bound.many (there_below marks n.0 m.0 n.1) in
          let told : is_bound c inputs n.0 ≡ m.0 = same_some (is_bound c inputs n.0) m.0 (sym (bound.tell n.0 below) ∙ n.1) in
          unbound_complete c inputs count n.0 below (told ∙ from_not m.0 m.2)

      complete : some_unbound c inputs count ≡ true → list_any not marks ≡ true
      complete h =
          let n = unbound_sound c inputs count h in
          any_has not marks (is_bound c inputs n.0) (in_at marks n.0 (is_bound c inputs n.0) (bound.tell n.0 n.1)) (not_from_false (is_bound c inputs n.0) n.2)
