-- THE GROUPS OF FLAT CONTROL: each is one that the statement enables, one that captures for an invoke in it, or a copy for one.
use Rattle.std.proofs.Common.{◌≡◌, ℕ, ◌<◌, ◌⊎◌, inl, inr, ⊎_elim, List, [], ◌∷◌, ◌++◌, length, map, Option, Some, None, refl, ap, arith}
use Rattle.std.specs.Prelude.{flat_map, take}
use Rattle.std.proofs.lemmas.List.{length-append, length-map}
use Rattle.cx_text.proofs.MemberLaws.{in_either, in_left, in_right}
use Rattle.cx_meaning.specs.declared.ports.PortRef.{PortRef}
use Rattle.cx_meaning.specs.Designs.{PlainInvoke, PlainComponent, PlainForm, Empty, Enable, Seq, Par, If, While, Repeat, StaticSeq, StaticPar, StaticIf, StaticRepeat, Timed, PlainStatement, Placed, PlainStatements, no_statements, a_statement}
use Rattle.cx_meaning.specs.Control.{with_comb, groups_in, groups_of, groups_in_all}
use Rattle.cx_text.specs.Members.{In}
use Rattle.cx_rewrites.specs.Moving.{moved_group}
use Rattle.cx_flattening.specs.Events.{the_invoke}
use Rattle.cx_flattening.specs.Copies.{copied_comb, copied_form, copied_statement, copied_statements}
use Rattle.cx_flattening.specs.Flattened.{Kids, kid_at, own_port, invoke_port, copies, flat_groups, copy_of, with_capture, inlined, flat_form, flat_statement, flat_statements}
use Rattle.cx_flattening.specs.Controlled.{timed_in, timed_of, timed_all}
use Rattle.cx_flattening.proofs.FlatGroups.{in_one_of}
use Rattle.cx_flattening.proofs.FlatActs.{copies_before, copy_within}

-- a group of a copy of control is the copy of one
module _ (f : PortRef → PortRef) (copy : ℕ → ℕ) (g : ℕ) where
  abbrev pub IsCopyIn : List ℕ → Type 0
  IsCopyIn gs = (h : ℕ) × In gs h × (copy h ≡ g)

  wider : (xs ys : List ℕ) → ((h : ℕ) → In xs h → In ys h) → IsCopyIn xs → IsCopyIn ys
  wider xs ys more r = (r.0, more r.0 r.1, r.2)

  both : (xs ys zs ws : List ℕ) → (In xs g → IsCopyIn zs) → (In ys g → IsCopyIn ws) → In (xs ++ ys) g → IsCopyIn (zs ++ ws)
  both xs ys zs ws one other i =
      ⊎_elim (λ j. wider zs (zs ++ ws) (λ h k. in_left zs ws h k) (one j)) (λ j. wider ws (zs ++ ws) (λ h k. in_right zs ws h k) (other j)) (in_either xs ys g i)

  with : (comb : Option ℕ) (xs ys : List ℕ) → (In xs g → IsCopyIn ys) → In (with_comb (copied_comb copy comb) xs) g → IsCopyIn (with_comb comb ys)
  with None xs ys one i = one i
  with (Some h) xs ys one (inl e) = (h, inl refl, e)
  with (Some h) xs ys one (inr i) = wider ys (h ∷ ys) (λ k j. inr j) (one i)

  mutual
    copied_form_back : (form : PlainForm) → In (groups_in (copied_form f copy form)) g → IsCopyIn (groups_in form)
    copied_form_back Empty i = absurd i
    copied_form_back (Enable h) (inl e) = (h, inl refl, e)
    copied_form_back (Enable h) (inr i) = absurd i
    copied_form_back (Seq parts) i = copied_all_back parts i
    copied_form_back (Par arms) i = copied_all_back arms i
    copied_form_back (If test comb a b) i =
        with comb (groups_of (copied_statement f copy a) ++ groups_of (copied_statement f copy b)) (groups_of a ++ groups_of b)
        (both (groups_of (copied_statement f copy a)) (groups_of (copied_statement f copy b)) (groups_of a) (groups_of b) (copied_back a) (copied_back b)) i
    copied_form_back (While test comb a) i = with comb (groups_of (copied_statement f copy a)) (groups_of a) (copied_back a) i
    copied_form_back (Repeat count a) i = copied_back a i
    copied_form_back (StaticSeq length parts) i = copied_all_back parts i
    copied_form_back (StaticPar length arms) i = copied_all_back arms i
    copied_form_back (StaticIf length test a b) i =
        both (groups_of (copied_statement f copy a)) (groups_of (copied_statement f copy b)) (groups_of a) (groups_of b) (copied_back a) (copied_back b) i
    copied_form_back (StaticRepeat length count a) i = copied_back a i
    copied_form_back (Timed k) i = absurd i

    pub copied_back : (s : PlainStatement) → In (groups_of (copied_statement f copy s)) g → IsCopyIn (groups_of s)
    copied_back (Placed form place) i = copied_form_back form i

    copied_all_back : (ss : PlainStatements) → In (groups_in_all (copied_statements f copy ss)) g → IsCopyIn (groups_in_all ss)
    copied_all_back no_statements i = absurd i
    copied_all_back (a_statement s ss) i =
        both (groups_of (copied_statement f copy s)) (groups_in_all (copied_statements f copy ss)) (groups_of s) (groups_in_all ss) (copied_back s) (copied_all_back ss) i

module _ (kids : Kids) (part : PlainComponent) (g : ℕ) where
  -- a group of the flat form of a statement with these groups and static invokes
  pub data Origin (gs ks : List ℕ) : Type 0 where
    of_own : In gs g → Origin gs ks
    capturing : (j : ℕ) (child : PlainComponent) → In ks j → kid_at kids (the_invoke part j).cell ≡ Some child → (the_invoke part j).captures ≡ Some g → Origin gs ks
    copied : (j h : ℕ) (child : PlainComponent) → In ks j → kid_at kids (the_invoke part j).cell ≡ Some child → In (groups_of child.control) h → copy_of kids part child j h ≡ g → Origin gs ks

  more : (gs hs ks ls : List ℕ) → ((h : ℕ) → In gs h → In hs h) → ((j : ℕ) → In ks j → In ls j) → Origin gs ks → Origin hs ls
  more gs hs ks ls groups invokes (of_own i) = of_own (groups g i)
  more gs hs ks ls groups invokes (capturing j child i its e) = capturing j child (invokes j i) its e
  more gs hs ks ls groups invokes (copied j h child i its k e) = copied j h child (invokes j i) its k e

  either : (xs ys gs hs ks ls : List ℕ) → (In xs g → Origin gs ks) → (In ys g → Origin hs ls) → In (xs ++ ys) g → Origin (gs ++ hs) (ks ++ ls)
  either xs ys gs hs ks ls one other i =
      ⊎_elim
      (λ j. more gs (gs ++ hs) ks (ks ++ ls) (λ h k. in_left gs hs h k) (λ h k. in_left ks ls h k) (one j))
      (λ j. more hs (gs ++ hs) ls (ks ++ ls) (λ h k. in_right gs hs h k) (λ h k. in_right ks ls h k) (other j))
      (in_either xs ys g i)

  combined : (comb : Option ℕ) (xs gs ks : List ℕ) → (In xs g → Origin gs ks) → In (with_comb comb xs) g → Origin (with_comb comb gs) ks
  combined None xs gs ks one i = one i
  combined (Some h) xs gs ks one (inl e) = of_own (inl e)
  combined (Some h) xs gs ks one (inr i) = more gs (h ∷ gs) ks ks (λ k j. inr j) (λ k j. j) (one i)

  captured_groups : (o : Option ℕ) (s : PlainStatement) → In (groups_in (with_capture o s)) g → In (groups_of s) g ⊎ (o ≡ Some g)
  captured_groups None (Placed form place) i = inl i
  captured_groups (Some c) s i = ⊎_elim (λ j. inl j) (λ j. inr (last j)) (in_either (groups_of s) (c ∷ []) g i)
    where
      last : In (c ∷ []) g → Some c ≡ Some g
      last (inl e) = ap Some e
      last (inr j) = absurd j

  timed_origin : (j : ℕ) → In (groups_in (inlined kids part (kid_at kids (the_invoke part j).cell) j (the_invoke part j))) g → Origin [] (j ∷ [])
  timed_origin j i = by (kid_at kids (the_invoke part j).cell) refl i
    where
      by : (o : Option PlainComponent) → kid_at kids (the_invoke part j).cell ≡ o → In (groups_in (inlined kids part o j (the_invoke part j))) g → Origin [] (j ∷ [])
      by None its k = absurd k
      by (Some child) its k =
          ⊎_elim
          (λ m. let r = copied_back (invoke_port kids part child (the_invoke part j)) (copy_of kids part child j) g child.control m in copied j r.0 child (inl refl) its r.1 r.2)
          (λ e. capturing j child (inl refl) its e)
          (captured_groups (the_invoke part j).captures (copied_statement (invoke_port kids part child (the_invoke part j)) (copy_of kids part child j) child.control) k)

  mutual
    form_origin : (form : PlainForm) → In (groups_in (flat_form kids part form)) g → Origin (groups_in form) (timed_in form)
    form_origin Empty i = absurd i
    form_origin (Enable h) i = of_own i
    form_origin (Seq parts) i = all_origin parts i
    form_origin (Par arms) i = all_origin arms i
    form_origin (If test comb a b) i =
        combined comb (groups_of (flat_statement kids part a) ++ groups_of (flat_statement kids part b)) (groups_of a ++ groups_of b) (timed_of a ++ timed_of b)
        (either (groups_of (flat_statement kids part a)) (groups_of (flat_statement kids part b)) (groups_of a) (groups_of b) (timed_of a) (timed_of b) (origin a) (origin b)) i
    form_origin (While test comb a) i = combined comb (groups_of (flat_statement kids part a)) (groups_of a) (timed_of a) (origin a) i
    form_origin (Repeat count a) i = origin a i
    form_origin (StaticSeq length parts) i = all_origin parts i
    form_origin (StaticPar length arms) i = all_origin arms i
    form_origin (StaticIf length test a b) i =
        either (groups_of (flat_statement kids part a)) (groups_of (flat_statement kids part b)) (groups_of a) (groups_of b) (timed_of a) (timed_of b) (origin a) (origin b) i
    form_origin (StaticRepeat length count a) i = origin a i
    form_origin (Timed j) i = timed_origin j i

    -- EACH GROUP OF A FLAT STATEMENT
    pub origin : (s : PlainStatement) → In (groups_of (flat_statement kids part s)) g → Origin (groups_of s) (timed_of s)
    origin (Placed form place) i = form_origin form i

    all_origin : (ss : PlainStatements) → In (groups_in_all (flat_statements kids part ss)) g → Origin (groups_in_all ss) (timed_all ss)
    all_origin no_statements i = absurd i
    all_origin (a_statement s ss) i =
        either (groups_of (flat_statement kids part s)) (groups_in_all (flat_statements kids part ss)) (groups_of s) (groups_in_all ss) (timed_of s) (timed_all ss) (origin s) (all_origin ss) i

module _ (kids : Kids) (part : PlainComponent) where
  -- a copy stands among the groups of the flat component
  pub copy_there : (j h : ℕ) (child : PlainComponent) → j < length part.invokes → kid_at kids (the_invoke part j).cell ≡ Some child → In (groups_of child.control) h → h < length child.groups
      → copy_of kids part child j h < length (flat_groups kids part)
  copy_there j h child less its used there =
      let within = copy_within kids part j h child its (in_one_of h (groups_of child.control) used) there in
      let before = copies_before kids part part.invokes j (length part.invokes) less less in
      let every : length (flat_map (copies kids part) (take (length part.invokes) part.invokes)) ≡ length (flat_map (copies kids part) part.invokes) = ap (λ l. length (flat_map (copies kids part) l)) (take_whole part.invokes) in
      let all = length-append (map (moved_group (own_port kids part)) part.groups) (flat_map (copies kids part) part.invokes) in
      let front = length-map part.groups (moved_group (own_port kids part)) in
      omega (arith, within, before, every, all, front)
    where
      take_whole : (xs : List PlainInvoke) → take (length xs) xs ≡ xs
      take_whole [] = refl
      take_whole (x ∷ xs) = ap (λ l. x ∷ l) (take_whole xs)

  pub own_there : (g : ℕ) → g < length part.groups → g < length (flat_groups kids part)
  own_there g less =
      let all = length-append (map (moved_group (own_port kids part)) part.groups) (flat_map (copies kids part) part.invokes) in
      let front = length-map part.groups (moved_group (own_port kids part)) in
      omega (arith, all, front)
