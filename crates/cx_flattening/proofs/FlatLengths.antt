-- LENGTHS: a statement of the flat component lasts as long as the statement, with the invokes in it; so does a copy of it in another
-- component, where each copied group lasts as long as the group.
use Rattle.std.proofs.Common.{◌≡◌, ℕ, zero, suc, ◌+◌, ◌*◌, ◌<◌, max, ⊎_elim, inl, inr, List, [], ◌∷◌, ◌++◌, length, Option, Some, None, refl, sym, ap, ◌∙◌, subst, arith}
use Rattle.std.proofs.lemmas.Option.{slice_get-get_or}
use Rattle.cx_text.proofs.MemberLaws.{in_either, in_left, in_right}
use Rattle.cx_meaning.specs.declared.ports.PortRef.{PortRef}
use Rattle.cx_meaning.specs.Designs.{PlainComponent, PlainForm, Empty, Enable, Seq, Par, If, While, Repeat, StaticSeq, StaticPar, StaticIf, StaticRepeat, Timed, PlainStatement, Placed, PlainStatements, no_statements, a_statement}
use Rattle.cx_meaning.specs.Instances.{Instance, Node, Cells, no_cells, a_primitive, an_instance, OfInstance, part_of, cell_at}
use Rattle.cx_meaning.specs.Control.{with_comb, groups_in, groups_of, groups_in_all}
use Rattle.cx_meaning.specs.Islands.{group_length, or_zero, form_length, length_of, sum_length, max_length}
use Rattle.cx_text.specs.Members.{In}
use Rattle.cx_rules.specs.Invokes.{invoke_at, capture_length, cycles_of, invoke_length, form_lasts, lasts, sum_lasts, max_lasts}
use Rattle.cx_flattening.specs.Events.{no_invoke, the_invoke}
use Rattle.cx_flattening.specs.Copies.{copied_comb, copied_form, copied_statement, copied_statements}
use Rattle.cx_flattening.specs.Flattened.{Kids, kid_at, flat_kids, flat_part, invoke_port, copy_of, with_capture, inlined, flat_form, flat_statement, flat_statements}
use Rattle.cx_flattening.specs.Fair.{IsFair, AllFair, AllFairBelow}
use Rattle.cx_flattening.specs.Controlled.{timed_in, timed_of, timed_all, IsControlled, AllControlled, AllControlledBelow}
use Rattle.cx_flattening.proofs.CopiedControl.{statement_twice}
use Rattle.cx_flattening.proofs.FlatGroups.{in_one_of, own-length, copy-length}
use Rattle.cx_flattening.proofs.LevelSights.{kid-static}

-- how long an invoke takes whose number is there
pub invoke_takes : (part : PlainComponent) (j n : ℕ) → j < length part.invokes → (the_invoke part j).latency ≡ Some n
    → invoke_length (invoke_at part j) ≡ or_zero (the_invoke part j).latency + capture_length (the_invoke part j).captures
invoke_takes part j n there e = ap invoke_length (slice_get-get_or part.invokes j no_invoke there) ∙ takes (the_invoke part j).latency e
  where
    takes : (o : Option ℕ) → o ≡ Some n → cycles_of o (the_invoke part j).captures ≡ or_zero o + capture_length (the_invoke part j).captures
    takes None e = absurd (cc)
    takes (Some m) e = refl

-- a statement's groups, each with a copy as long as it
abbrev pub Lasting : PlainComponent → PlainComponent → (ℕ → ℕ) → List ℕ → Type 0
Lasting J K copy list = (g : ℕ) → In list g → group_length J (copy g) ≡ group_length K g

pub lasting_left : (J K : PlainComponent) (copy : ℕ → ℕ) (xs ys : List ℕ) → Lasting J K copy (xs ++ ys) → Lasting J K copy xs
lasting_left J K copy xs ys h g i = h g (in_left xs ys g i)

pub lasting_right : (J K : PlainComponent) (copy : ℕ → ℕ) (xs ys : List ℕ) → Lasting J K copy (xs ++ ys) → Lasting J K copy ys
lasting_right J K copy xs ys h g i = h g (in_right xs ys g i)

abbrev pub AllThere : List ℕ → ℕ → Type 0
AllThere list n = (g : ℕ) → In list g → g < n

pub there_left : (xs ys : List ℕ) (n : ℕ) → AllThere (xs ++ ys) n → AllThere xs n
there_left xs ys n h g i = h g (in_left xs ys g i)

pub there_right : (xs ys : List ℕ) (n : ℕ) → AllThere (xs ++ ys) n → AllThere ys n
there_right xs ys n h g i = h g (in_right xs ys g i)

-- the groups of a copy are the copies of the groups
module _ (f : PortRef → PortRef) (copy : ℕ → ℕ) where
  copied_both : (xs ys zs ws : List ℕ) (g : ℕ) → (In xs g → In zs (copy g)) → (In ys g → In ws (copy g)) → In (xs ++ ys) g → In (zs ++ ws) (copy g)
  copied_both xs ys zs ws g one other i = ⊎_elim (λ j. in_left zs ws (copy g) (one j)) (λ j. in_right zs ws (copy g) (other j)) (in_either xs ys g i)

  copied_with : (comb : Option ℕ) (xs ys : List ℕ) (g : ℕ) → (In xs g → In ys (copy g)) → In (with_comb comb xs) g → In (with_comb (copied_comb copy comb) ys) (copy g)
  copied_with None xs ys g one i = one i
  copied_with (Some h) xs ys g one (inl e) = inl (ap copy e)
  copied_with (Some h) xs ys g one (inr i) = inr (one i)

  mutual
    pub copied_in : (form : PlainForm) (g : ℕ) → In (groups_in form) g → In (groups_in (copied_form f copy form)) (copy g)
    copied_in Empty g i = absurd i
    copied_in (Enable h) g (inl e) = inl (ap copy e)
    copied_in (Enable h) g (inr i) = absurd i
    copied_in (Seq parts) g i = copied_all parts g i
    copied_in (Par arms) g i = copied_all arms g i
    copied_in (If test comb a b) g i =
        copied_with comb (groups_of a ++ groups_of b) (groups_of (copied_statement f copy a) ++ groups_of (copied_statement f copy b)) g
        (copied_both (groups_of a) (groups_of b) (groups_of (copied_statement f copy a)) (groups_of (copied_statement f copy b)) g (copied_one a g) (copied_one b g)) i
    copied_in (While test comb a) g i = copied_with comb (groups_of a) (groups_of (copied_statement f copy a)) g (copied_one a g) i
    copied_in (Repeat count a) g i = copied_one a g i
    copied_in (StaticSeq length parts) g i = copied_all parts g i
    copied_in (StaticPar length arms) g i = copied_all arms g i
    copied_in (StaticIf length test a b) g i = copied_both (groups_of a) (groups_of b) (groups_of (copied_statement f copy a)) (groups_of (copied_statement f copy b)) g (copied_one a g) (copied_one b g) i
    copied_in (StaticRepeat length count a) g i = copied_one a g i
    copied_in (Timed k) g i = absurd i

    pub copied_one : (s : PlainStatement) (g : ℕ) → In (groups_of s) g → In (groups_of (copied_statement f copy s)) (copy g)
    copied_one (Placed form place) g i = copied_in form g i

    copied_all : (ss : PlainStatements) (g : ℕ) → In (groups_in_all ss) g → In (groups_in_all (copied_statements f copy ss)) (copy g)
    copied_all no_statements g i = absurd i
    copied_all (a_statement s ss) g i = copied_both (groups_of s) (groups_in_all ss) (groups_of (copied_statement f copy s)) (groups_in_all (copied_statements f copy ss)) g (copied_one s g) (copied_all ss g) i

-- a copy behind which a group captures
capture_lasts : (J : PlainComponent) (f : PortRef → PortRef) (copy : ℕ → ℕ) (o : Option ℕ) (s : PlainStatement) → ((g : ℕ) → o ≡ Some g → group_length J (copy g) ≡ Some 1)
    → form_length J (copied_form f copy (with_capture o s)) ≡ length_of J (copied_statement f copy s) + capture_length o
capture_lasts J f copy None (Placed form place) h = plus (form_length J (copied_form f copy form))
  where
    plus : (a : ℕ) → a ≡ a + 0
    plus a = omega arith
capture_lasts J f copy (Some g) s h = ap (λ o. length_of J (copied_statement f copy s) + (or_zero o + 0)) (h g refl)

pub capture_in : (o : Option ℕ) (s : PlainStatement) (g : ℕ) → In (groups_of s) g → In (groups_in (with_capture o s)) g
capture_in None (Placed form place) g i = i
capture_in (Some h) s g i = in_left (groups_of s) (h ∷ []) g i

pub captures_in_it : (h : ℕ) (s : PlainStatement) → In (groups_in (with_capture (Some h) s)) h
captures_in_it h s = in_right (groups_of s) (h ∷ []) h (inl refl)

-- what is claimed of a tree
abbrev pub LastsAlike : Instance → Type 0
LastsAlike i = (J : PlainComponent) (f : PortRef → PortRef) (copy : ℕ → ℕ) → Lasting J (flat_part i) copy (groups_of (flat_part i).control)
    → length_of J (copied_statement f copy (flat_part i).control) ≡ lasts (part_of i) (part_of i).control

module _ (part : PlainComponent) (cells : Cells) (fair : IsFair (Node part cells)) (controlled : IsControlled (Node part cells))
    (below : (c : ℕ) (child : Instance) → cell_at cells c ≡ OfInstance child → LastsAlike child) where
  abbrev kids : Kids
  kids = flat_kids cells

  abbrev flat : PlainComponent
  flat = flat_part (Node part cells)

  -- the copies for invoke j, where they stand in a component
  pub invoke_lasting : (J : PlainComponent) (copy : ℕ → ℕ) (j : ℕ) (there : j < length part.invokes) (kid : PlainComponent) → kid_at kids (the_invoke part j).cell ≡ Some kid
      → Lasting J flat copy (groups_in (with_capture (the_invoke part j).captures (copied_statement (invoke_port kids part kid (the_invoke part j)) (copy_of kids part kid j) kid.control)))
      → Lasting J kid (λ g. copy (copy_of kids part kid j g)) (groups_of kid.control)
  invoke_lasting J copy j there kid its h g i =
      h (copy_of kids part kid j g) (capture_in (the_invoke part j).captures (copied_statement (invoke_port kids part kid (the_invoke part j)) (copy_of kids part kid j) kid.control) (copy_of kids part kid j g) (copied_one (invoke_port kids part kid (the_invoke part j)) (copy_of kids part kid j) kid.control g i))
      ∙ copy-length kids part j g kid there its (in_one_of g (groups_of kid.control) i) ((fair.targets.blocks (the_invoke part j).cell kid its).there g (in_one_of g (groups_of kid.control) i))

  module _ (J : PlainComponent) (f : PortRef → PortRef) (copy : ℕ → ℕ) where
    invoke_lasts : (j : ℕ) → j < length part.invokes → Lasting J flat copy (groups_in (inlined kids part (kid_at kids (the_invoke part j).cell) j (the_invoke part j)))
        → form_length J (copied_form f copy (inlined kids part (kid_at kids (the_invoke part j).cell) j (the_invoke part j))) ≡ invoke_length (invoke_at part j)
    invoke_lasts j there h =
        let v = the_invoke part j in
        let its = controlled.invokes j there in
        let kid = flat_part its.child in
        let at : kid_at kids v.cell ≡ Some kid = kid-static cells v.cell its.child its.stands its.static in
        let g = subst (λ o. Lasting J flat copy (groups_in (inlined kids part o j v))) at h in
        ap (λ o. form_length J (copied_form f copy (inlined kids part o j v))) at
        ∙ capture_lasts J f copy v.captures (copied_statement (invoke_port kids part kid v) (copy_of kids part kid j) kid.control) (captured v.captures (λ c e. its.captures c e) (copied_statement (invoke_port kids part kid v) (copy_of kids part kid j) kid.control) g)
        ∙ ap (λ n. n + capture_length v.captures)
        (ap (length_of J) (statement_twice f (invoke_port kids part kid v) copy (copy_of kids part kid j) kid.control)
        ∙ below v.cell its.child its.stands J (λ q. f (invoke_port kids part kid v q)) (λ n. copy (copy_of kids part kid j n)) (invoke_lasting J copy j there kid at g) ∙ sym (ap or_zero its.latency))
        ∙ sym (invoke_takes part j (lasts (part_of its.child) (part_of its.child).control) there its.latency)
      where
        captured : (o : Option ℕ) → ((c : ℕ) → o ≡ Some c → (c < length part.groups) × (group_length part c ≡ Some 1)) → (s : PlainStatement) → Lasting J flat copy (groups_in (with_capture o s))
            → (c : ℕ) → o ≡ Some c → group_length J (copy c) ≡ Some 1
        captured None its s h c e = absurd (cc)
        captured (Some d) its s h c e =
            let same : d ≡ c = cc in
            let k = its c e in
            subst (λ n. group_length J (copy n) ≡ Some 1) same
            (h d (captures_in_it d s) ∙ ap (λ n. group_length flat n) same ∙ own-length kids part c k.0 ∙ k.1)

    mutual
      pub form_lasting : (form : PlainForm) → AllThere (groups_in form) (length part.groups) → AllThere (timed_in form) (length part.invokes) → Lasting J flat copy (groups_in (flat_form kids part form))
          → form_length J (copied_form f copy (flat_form kids part form)) ≡ form_lasts part form
      form_lasting Empty own timed h = refl
      form_lasting (Enable g) own timed h = ap or_zero (h g (inl refl) ∙ own-length kids part g (own g (inl refl)))
      form_lasting (Seq ss) own timed h = refl
      form_lasting (Par arms) own timed h = refl
      form_lasting (If test comb a b) own timed h = refl
      form_lasting (While test comb a) own timed h = refl
      form_lasting (Repeat count a) own timed h = refl
      form_lasting (StaticSeq length ss) own timed h = sum_lasting ss own timed h
      form_lasting (StaticPar length arms) own timed h = max_lasting arms own timed h
      form_lasting (StaticIf length test a b) own timed h =
          ap (λ n. max n (length_of J (copied_statement f copy (flat_statement kids part b))))
          (one_lasting a (there_left (groups_of a) (groups_of b) _ own) (there_left (timed_of a) (timed_of b) _ timed) (lasting_left J flat copy (groups_of (flat_statement kids part a)) (groups_of (flat_statement kids part b)) h))
          ∙ ap (max (lasts part a))
          (one_lasting b (there_right (groups_of a) (groups_of b) _ own) (there_right (timed_of a) (timed_of b) _ timed) (lasting_right J flat copy (groups_of (flat_statement kids part a)) (groups_of (flat_statement kids part b)) h))
      form_lasting (StaticRepeat length count a) own timed h = ap (λ n. count * n) (one_lasting a own timed h)
      form_lasting (Timed k) own timed h = invoke_lasts k (timed k (inl refl)) h

      pub one_lasting : (s : PlainStatement) → AllThere (groups_of s) (length part.groups) → AllThere (timed_of s) (length part.invokes) → Lasting J flat copy (groups_of (flat_statement kids part s))
          → length_of J (copied_statement f copy (flat_statement kids part s)) ≡ lasts part s
      one_lasting (Placed form place) own timed h = form_lasting form own timed h

      sum_lasting : (ss : PlainStatements) → AllThere (groups_in_all ss) (length part.groups) → AllThere (timed_all ss) (length part.invokes) → Lasting J flat copy (groups_in_all (flat_statements kids part ss))
          → sum_length J (copied_statements f copy (flat_statements kids part ss)) ≡ sum_lasts part ss
      sum_lasting no_statements own timed h = refl
      sum_lasting (a_statement s ss) own timed h =
          ap (λ n. n + sum_length J (copied_statements f copy (flat_statements kids part ss)))
          (one_lasting s (there_left (groups_of s) (groups_in_all ss) _ own) (there_left (timed_of s) (timed_all ss) _ timed) (lasting_left J flat copy (groups_of (flat_statement kids part s)) (groups_in_all (flat_statements kids part ss)) h))
          ∙ ap (λ n. lasts part s + n)
          (sum_lasting ss (there_right (groups_of s) (groups_in_all ss) _ own) (there_right (timed_of s) (timed_all ss) _ timed) (lasting_right J flat copy (groups_of (flat_statement kids part s)) (groups_in_all (flat_statements kids part ss)) h))

      max_lasting : (ss : PlainStatements) → AllThere (groups_in_all ss) (length part.groups) → AllThere (timed_all ss) (length part.invokes) → Lasting J flat copy (groups_in_all (flat_statements kids part ss))
          → max_length J (copied_statements f copy (flat_statements kids part ss)) ≡ max_lasts part ss
      max_lasting no_statements own timed h = refl
      max_lasting (a_statement s ss) own timed h =
          ap (λ n. max n (max_length J (copied_statements f copy (flat_statements kids part ss))))
          (one_lasting s (there_left (groups_of s) (groups_in_all ss) _ own) (there_left (timed_of s) (timed_all ss) _ timed) (lasting_left J flat copy (groups_of (flat_statement kids part s)) (groups_in_all (flat_statements kids part ss)) h))
          ∙ ap (max (lasts part s))
          (max_lasting ss (there_right (groups_of s) (groups_in_all ss) _ own) (there_right (timed_of s) (timed_all ss) _ timed) (lasting_right J flat copy (groups_of (flat_statement kids part s)) (groups_in_all (flat_statements kids part ss)) h))

mutual
  -- THE CONTROL OF A STATIC CHILD, copied, lasts as long as the child's
  pub control_lasts : (i : Instance) → AllFair i → AllControlled i → LastsAlike i
  control_lasts (Node part cells) fair controlled J f copy h =
      one_lasting part cells fair.0 controlled.0 (kids_last cells fair.1 controlled.1) J f copy part.control controlled.0.enables controlled.0.timed h

  pub kids_last : (cells : Cells) → AllFairBelow cells → AllControlledBelow cells → (c : ℕ) (child : Instance) → cell_at cells c ≡ OfInstance child → LastsAlike child
  kids_last no_cells fair controlled c child e = absurd (cc)
  kids_last (a_primitive row rest) fair controlled zero child e = absurd (cc)
  kids_last (a_primitive row rest) fair controlled (suc c) child e = kids_last rest fair controlled c child e
  kids_last (an_instance other rest) fair controlled zero child e = let same : other ≡ child = cc in subst LastsAlike same (control_lasts other fair.0 controlled.0)
  kids_last (an_instance other rest) fair controlled (suc c) child e = kids_last rest fair.1 controlled.1 c child e
