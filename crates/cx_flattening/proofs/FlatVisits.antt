-- THE STATEMENTS of a flat component are those of the component, each flattened, and in place of an invoke those of its copy.
use Rattle.std.proofs.Common.{◌≡◌, ℕ, List, [], ◌∷◌, ◌++◌, refl, sym, ap, ap₂, ◌∙◌}
use Rattle.std.specs.Prelude.{flat_map}
use Rattle.std.proofs.lemmas.List.{append-nil}
use Rattle.std.proofs.lemmas.Grind.{flat_map-append}
use Rattle.cx_text.specs.declared.places.Place.{Place}
use Rattle.cx_meaning.specs.Designs.{PlainComponent, PlainForm, Empty, Enable, Seq, Par, If, While, Repeat, StaticSeq, StaticPar, StaticIf, StaticRepeat, Timed, PlainStatement, Placed, PlainStatements, no_statements, a_statement}
use Rattle.cx_meaning.specs.Control.{groups_in, groups_of, groups_in_all}
use Rattle.cx_rules.specs.Items.{Context, InStatic, Branch, below_dynamic, Visited, visit, visit_parts, visit_all}
use Rattle.cx_flattening.specs.Flattened.{Kids, flat_form, flat_statement, flat_statements}
use Rattle.cx_flattening.specs.Controlled.{timed_in, timed_of, timed_all}
use Rattle.cx_flattening.proofs.FlatLasts.{Forms, both_forms, headed}
use Rattle.cx_flattening.proofs.FlatLengths.{AllThere, there_left, there_right}
use Rattle.cx_flattening.proofs.FlatStands.{with_in}

module _ (kids : Kids) (part : PlainComponent) where
  abbrev pub flattened_one : Context → Place → PlainForm → Visited
  flattened_one c place form = record { context = c; form = flat_form kids part form; place = place }

  -- what a statement becomes
  abbrev pub become : Context → Place → PlainForm → List Visited
  become c place Empty = flattened_one c place Empty ∷ []
  become c place (Enable g) = flattened_one c place (Enable g) ∷ []
  become c place (Seq ss) = flattened_one c place (Seq ss) ∷ []
  become c place (Par arms) = flattened_one c place (Par arms) ∷ []
  become c place (If test comb a b) = flattened_one c place (If test comb a b) ∷ []
  become c place (While test comb a) = flattened_one c place (While test comb a) ∷ []
  become c place (Repeat count a) = flattened_one c place (Repeat count a) ∷ []
  become c place (StaticSeq written ss) = flattened_one c place (StaticSeq written ss) ∷ []
  become c place (StaticPar written arms) = flattened_one c place (StaticPar written arms) ∷ []
  become c place (StaticIf written test a b) = flattened_one c place (StaticIf written test a b) ∷ []
  become c place (StaticRepeat written count a) = flattened_one c place (StaticRepeat written count a) ∷ []
  become c place (Timed k) = visit c (Placed (flat_form kids part (Timed k)) place)

  abbrev pub becomes : Visited → List Visited
  becomes v = become v.context v.place v.form

  both_become : (xs ys zs ws : List Visited) → xs ≡ flat_map becomes zs → ys ≡ flat_map becomes ws → xs ++ ys ≡ flat_map becomes (zs ++ ws)
  both_become xs ys zs ws e f = ap₂ (λ a b. a ++ b) e f ∙ sym (flat_map-append becomes zs ws)

  mutual
    pub flat_visits : (c : Context) (s : PlainStatement) → visit c (flat_statement kids part s) ≡ flat_map becomes (visit c s)
    flat_visits c (Placed form place) = form_visits c form place

    form_visits : (c : Context) (form : PlainForm) (place : Place) → visit c (Placed (flat_form kids part form) place) ≡ become c place form ++ flat_map becomes (visit_parts c form)
    form_visits c Empty place = refl
    form_visits c (Enable g) place = refl
    form_visits c (Seq ss) place = ap (λ l. flattened_one c place (Seq ss) ∷ l) (all_visits (below_dynamic c) ss)
    form_visits c (Par arms) place = ap (λ l. flattened_one c place (Par arms) ∷ l) (all_visits (below_dynamic c) arms)
    form_visits c (If test comb a b) place =
        ap (λ l. flattened_one c place (If test comb a b) ∷ l)
        (both_become (visit (below_dynamic c) (flat_statement kids part a)) (visit (below_dynamic c) (flat_statement kids part b)) (visit (below_dynamic c) a) (visit (below_dynamic c) b)
        (flat_visits (below_dynamic c) a) (flat_visits (below_dynamic c) b))
    form_visits c (While test comb a) place = ap (λ l. flattened_one c place (While test comb a) ∷ l) (flat_visits (below_dynamic c) a)
    form_visits c (Repeat count a) place = ap (λ l. flattened_one c place (Repeat count a) ∷ l) (flat_visits (below_dynamic c) a)
    form_visits c (StaticSeq written ss) place = ap (λ l. flattened_one c place (StaticSeq written ss) ∷ l) (all_visits InStatic ss)
    form_visits c (StaticPar written arms) place = ap (λ l. flattened_one c place (StaticPar written arms) ∷ l) (all_visits InStatic arms)
    form_visits c (StaticIf written test a b) place =
        ap (λ l. flattened_one c place (StaticIf written test a b) ∷ l)
        (both_become (visit Branch (flat_statement kids part a)) (visit Branch (flat_statement kids part b)) (visit Branch a) (visit Branch b) (flat_visits Branch a) (flat_visits Branch b))
    form_visits c (StaticRepeat written count a) place = ap (λ l. flattened_one c place (StaticRepeat written count a) ∷ l) (flat_visits InStatic a)
    form_visits c (Timed k) place = sym (append-nil (visit c (Placed (flat_form kids part (Timed k)) place)))

    all_visits : (c : Context) (ss : PlainStatements) → visit_all c (flat_statements kids part ss) ≡ flat_map becomes (visit_all c ss)
    all_visits c no_statements = refl
    all_visits c (a_statement s ss) = both_become (visit c (flat_statement kids part s)) (visit_all c (flat_statements kids part ss)) (visit c s) (visit_all c ss) (flat_visits c s) (all_visits c ss)

-- THE GROUPS AND INVOKES of statements inside are there, where those of all are
module _ (n m : ℕ) where
  abbrev pub AreThere : PlainForm → Type 0
  AreThere form = AllThere (groups_in form) n × AllThere (timed_in form) m

  mutual
    pub there_one : (c : Context) (s : PlainStatement) → AllThere (groups_of s) n → AllThere (timed_of s) m → Forms AreThere (visit c s)
    there_one c (Placed form place) own timed = there_form c form place own timed

    there_form : (c : Context) (form : PlainForm) (place : Place) → AllThere (groups_in form) n → AllThere (timed_in form) m → Forms AreThere (visit c (Placed form place))
    there_form c Empty place own timed = headed AreThere c Empty place (own, timed) (λ v i. absurd i)
    there_form c (Enable g) place own timed = headed AreThere c (Enable g) place (own, timed) (λ v i. absurd i)
    there_form c (Seq ss) place own timed = headed AreThere c (Seq ss) place (own, timed) (there_all (below_dynamic c) ss own timed)
    there_form c (Par arms) place own timed = headed AreThere c (Par arms) place (own, timed) (there_all (below_dynamic c) arms own timed)
    there_form c (If test comb a b) place own timed =
        let groups : AllThere (groups_of a ++ groups_of b) n = λ g i. own g (with_in comb (groups_of a ++ groups_of b) g i) in
        headed AreThere c (If test comb a b) place (own, timed)
        (both_forms AreThere (visit (below_dynamic c) a) (visit (below_dynamic c) b)
        (there_one (below_dynamic c) a (there_left (groups_of a) (groups_of b) n groups) (there_left (timed_of a) (timed_of b) m timed))
        (there_one (below_dynamic c) b (there_right (groups_of a) (groups_of b) n groups) (there_right (timed_of a) (timed_of b) m timed)))
    there_form c (While test comb a) place own timed =
        headed AreThere c (While test comb a) place (own, timed) (there_one (below_dynamic c) a (λ g i. own g (with_in comb (groups_of a) g i)) timed)
    there_form c (Repeat count a) place own timed = headed AreThere c (Repeat count a) place (own, timed) (there_one (below_dynamic c) a own timed)
    there_form c (StaticSeq written ss) place own timed = headed AreThere c (StaticSeq written ss) place (own, timed) (there_all InStatic ss own timed)
    there_form c (StaticPar written arms) place own timed = headed AreThere c (StaticPar written arms) place (own, timed) (there_all InStatic arms own timed)
    there_form c (StaticIf written test a b) place own timed =
        headed AreThere c (StaticIf written test a b) place (own, timed)
        (both_forms AreThere (visit Branch a) (visit Branch b)
        (there_one Branch a (there_left (groups_of a) (groups_of b) n own) (there_left (timed_of a) (timed_of b) m timed))
        (there_one Branch b (there_right (groups_of a) (groups_of b) n own) (there_right (timed_of a) (timed_of b) m timed)))
    there_form c (StaticRepeat written count a) place own timed = headed AreThere c (StaticRepeat written count a) place (own, timed) (there_one InStatic a own timed)
    there_form c (Timed k) place own timed = headed AreThere c (Timed k) place (own, timed) (λ v i. absurd i)

    there_all : (c : Context) (ss : PlainStatements) → AllThere (groups_in_all ss) n → AllThere (timed_all ss) m → Forms AreThere (visit_all c ss)
    there_all c no_statements own timed = λ v i. absurd i
    there_all c (a_statement s ss) own timed =
        both_forms AreThere (visit c s) (visit_all c ss)
        (there_one c s (there_left (groups_of s) (groups_in_all ss) n own) (there_left (timed_of s) (timed_all ss) m timed))
        (there_all c ss (there_right (groups_of s) (groups_in_all ss) n own) (there_right (timed_of s) (timed_all ss) m timed))
