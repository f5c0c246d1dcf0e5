-- The list of the breaks of a component's statements has those of its static invokes, and no others.
use Rattle.std.proofs.Common.{◌≡◌, ◌+◌, ◌<◌, ℕ, Bool, true, List, [], ◌∷◌, Option, Some, None, length, slice_get, refl, sym, ap, ◌∙◌, subst, arith, true≢false}
use Rattle.cx_text.specs.declared.places.Place.{Place}
use Rattle.cx_meaning.specs.Designs.{PlainInvoke, PlainComponent, PlainDesign, component_at, PlainForm, Empty, Enable, Seq, Par, If, While, Repeat, StaticSeq, StaticPar, StaticIf, StaticRepeat, Timed}
use Rattle.cx_meaning.specs.Instances.{Instance, part_of}
use Rattle.cx_text.specs.Members.{In}
use Rattle.cx_rules.specs.Ports.{component_of, cell_name}
use Rattle.cx_rules.specs.Items.{Visited, statements_in}
use Rattle.cx_rules.specs.Invokes.{invoke_at, invoke_in}
use Rattle.cx_rules.specs.InvokeShape.{InvokeBreak, BreaksInvoke}
use Rattle.cx_rules.specs.Spots.{AStatement, Spot, OnStatement}
use Rattle.cx_design_parts.specs.Breaks.{Broken}
use Rattle.cx_design_parts.specs.Numbered.{numbered}
use Rattle.cx_design_parts.specs.Answers.{AreBreaksBy}
use Rattle.cx_design_parts.proofs.Lists.{in_numbered, numbered_in}
use Rattle.cx_meaning.proofs.DesignsLemmas.{same_part as part_is}
use Rattle.cx_text.proofs.ListLaws.{there_below, there_at}
use Rattle.cx_text.proofs.OptionLaws.{same_some}
use Rattle.cx_shape_calls.specs.CallBreaks.{InvokesIn}
use Rattle.cx_shape_calls.specs.StaticInvokes.{AreMarksOf, or_false, invoked_name, invoke_breaks, statement_breaks_at}
use Rattle.cx_shape_calls.proofs.BreakLemmas.{told, told_in, told_has, itself, same_spot}

-- a statement with the number of a static invoke is that invoke
invoke_is : (f : PlainForm) (n : ℕ) (ns : List ℕ) → invoke_in f ≡ n ∷ ns → f ≡ Timed n
invoke_is Empty n ns e = absurd (cc)
invoke_is (Enable g) n ns e = absurd (cc)
invoke_is (Seq parts) n ns e = absurd (cc)
invoke_is (Par arms) n ns e = absurd (cc)
invoke_is (If test comb a b) n ns e = absurd (cc)
invoke_is (While test comb a) n ns e = absurd (cc)
invoke_is (Repeat count a) n ns e = absurd (cc)
invoke_is (StaticSeq l parts) n ns e = absurd (cc)
invoke_is (StaticPar l arms) n ns e = absurd (cc)
invoke_is (StaticIf l test a b) n ns e = absurd (cc)
invoke_is (StaticRepeat l count a) n ns e = absurd (cc)
invoke_is (Timed k) n ns e = let same : k ≡ n = cc in ap Timed same

module _ (d : PlainDesign) (k : ℕ) (within : k < length d.components) (marks : List Bool)
    (are : AreMarksOf (component_of d k) (length (component_at d k).invokes) marks) where
  abbrev i : Instance
  i = component_of d k

  abbrev part : PlainComponent
  part = component_at d k

  abbrev own : ℕ → Spot
  own m = record { component = k; part = AStatement m }

  abbrev found : List Broken
  found = numbered (statement_breaks_at d k marks) 0 (statements_in part)

  abbrev Holds : Broken → Type 0
  Holds b = InvokesIn d k b.rule b.spot b.place b.name

  same_part : part_of i ≡ part
  same_part = part_is d (length d.components) k

  -- a mark that is set is that of an invoke that breaks the rule
  marked : (n : ℕ) → or_false (slice_get marks n) ≡ true → (w : PlainInvoke) × (invoke_at part n ≡ Some w) × InvokeBreak i w
  marked n h = choice (slice_get marks n) refl h
    where
      choice : (o : Option Bool) → slice_get marks n ≡ o → or_false o ≡ true → (w : PlainInvoke) × (invoke_at part n ≡ Some w) × InvokeBreak i w
      choice None e u = absurd (true≢false (sym u))
      choice (Some b) e u =
          let short : n < length part.invokes = subst (λ m. n < m) are.many (there_below marks n b e) in
          let w = there_at part.invokes n short in
          let t = are.tell n w.0 short (ap (λ p. invoke_at p n) same_part ∙ w.1) in
          let same : b ≡ t.0 = same_some b t.0 (sym e ∙ t.1) in
          (w.0, w.1, t.2.0 (sym same ∙ u))

  statement_holds : (m : ℕ) (v : Visited) (b : Broken) → slice_get (statements_in part) m ≡ Some v → In (statement_breaks_at d k marks m v) b → Holds b
  statement_holds m v b stands h = choice (invoke_in v.form) refl h
    where
      choice : (ns : List ℕ) → invoke_in v.form ≡ ns → In (invoke_breaks part marks (own m) v.place ns) b → Holds b
      choice [] e u = absurd u
      choice (n ∷ ns) e u =
          let name = invoked_name part (invoke_at part n) in
          let t = told_in (or_false (slice_get marks n)) (own m) v.place name b u in
          let w = marked n t.0 in
          let called : name ≡ cell_name (part_of i).cells w.0.cell = ap (invoked_name part) w.1 ∙ ap (λ p. cell_name p.cells w.0.cell) (sym same_part) in
          let on : OnStatement BreaksInvoke d (own m) v.place name =
          record {
            within = within;
            number = m;
            is = refl;
            statement = v;
            stands = stands;
            breaks = (n, w.0, invoke_is v.form n ns e, ap (λ p. invoke_at p n) same_part ∙ w.1, w.2, (refl, called));
          } in
          subst Holds t.1 ((refl, on), refl)

  statement_has : (m : ℕ) (v : Visited) (place : Place) (name : List ℕ) → slice_get (statements_in part) m ≡ Some v → BreaksInvoke i v place name → In found (told (own m) place name)
  statement_has m v place name stands b =
      let n = b.0 in
      let w = b.1 in
      let there : invoke_at part n ≡ Some w = ap (λ p. invoke_at p n) (sym same_part) ∙ b.3 in
      let t = are.tell n w (there_below part.invokes n w there) b.3 in
      let set : or_false (slice_get marks n) ≡ true = ap or_false t.1 ∙ t.2.1 b.4 in
      let called : name ≡ invoked_name part (invoke_at part n) = b.5.1 ∙ ap (λ p. cell_name p.cells w.cell) same_part ∙ sym (ap (invoked_name part) there) in
      let e : m ≡ 0 + m = omega arith in
      in_numbered (statement_breaks_at d k marks) 0 (statements_in part) m v (told (own m) place name) stands
      (subst (λ x. In (statement_breaks_at d k marks x v) (told (own m) place name)) e
      (subst (λ ns. In (invoke_breaks part marks (own m) v.place ns) (told (own m) place name)) (sym (ap invoke_in b.2))
      (told_has (or_false (slice_get marks n)) (own m) v.place place (invoked_name part (invoke_at part n)) name set b.5.0 called)))

  pub are_invokes : AreBreaksBy (InvokesIn d k) found
  are_invokes = record {
    by_family = λ b h.
        let r = numbered_in (statement_breaks_at d k marks) 0 (statements_in part) b h in
        let e : 0 + r.0 ≡ r.0 = omega arith in
        statement_holds r.0 r.1 b r.2 (subst (λ n. In (statement_breaks_at d k marks n r.1) b) e r.3);
    all_family = λ rule spot place name h.
        let o = h.0.1 in
        itself found rule spot (own o.number) place name h.0.0 (same_spot k spot (AStatement o.number) h.1 o.is)
        (statement_has o.number o.statement place name (subst (λ c. slice_get (statements_in (component_at d c)) o.number ≡ Some o.statement) h.1 o.stands)
        (subst (λ c. BreaksInvoke (component_of d c) o.statement place name) h.1 o.breaks));
  }
