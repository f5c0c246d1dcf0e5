-- CONTROL OF THE PROMOTED TREE: its invokes stay; static control stays; runs of enables of promoted groups are static seqs.
use Rattle.std.proofs.Common.{◌≡◌, ℕ, suc, ◌-◌, nat_eq, nat_lt, Bool, true, false, ◌&&◌, List, [], ◌∷◌, ◌++◌, Option, Some, None, map, option_map, append_assoc, refl, sym, ap, ap₂, ◌∙◌, subst}
use Rattle.std.specs.Prelude.{if◌then◌else◌}
use Rattle.std.proofs.lemmas.List.{append-nil}
use Rattle.cx_text.specs.declared.places.Place.{Place}
use Rattle.cx_ast.specs.declared.components.Attribute.{Attribute}
use Rattle.cx_ast.specs.declared.components.Mark.{Mark}
use Rattle.cx_ast.specs.declared.statements.BindItem.{BindItem}
use Rattle.cx_ast.specs.PlainStatements as statements
use Rattle.cx_ast.specs.PlainTree as ast
use Rattle.cx_ast.specs.PlainTree.{PlainTree}
use Rattle.cx_meaning.specs.Designs.{PlainStatement, PlainStatements, Placed, no_statements, a_statement}
use Rattle.cx_meaning.specs.Designs as plain
use Rattle.cx_meaning.specs.Instances.{Instance}
use Rattle.cx_numbering.specs.DesignOf.{number_or_0, Invoke, Next, placed_of, is_static_invoke, past, invoke_form, invokes_in, invokes_else, invokes_of, invokes_all, group_number, comb_number, of_block, form_of, else_of, block_of, parts_of, all_of, first, control_invokes, control_of}
use Rattle.cx_rewrites.specs.Beside.{joined}
use Rattle.cx_promotion.specs.Made.{IsRun, no_more, one_more, FormMade, empty, enable, seq, collapsed, par, if_made, while_made, repeat_made, static, timed, StatementMade, placed, PartsMade, no_parts, a_part, a_run, ArmsMade, no_arms, an_arm}
use Rattle.cx_promotion.specs.Rewriting.{PIECE, BELOW_CONTROL, is_run, close, cut, cut_if, promote_form, promote_else, promote_all, promote_block, made_tree}
use Rattle.cx_promote.proofs.PartsPromoted.{twin, placed-made, group_names-made, static-made, past-made, first-made}
use Rattle.cx_meaning.proofs.DesignsLemmas.{if_is, while_is, static_if_is}

-- INVOKES of control stay
invokes_first : (s : statements.PlainStatement) (ss : statements.PlainStatements) → invokes_all (statements.StatementThen s ss) ≡ invokes_all (statements.StatementThen s statements.NoStatements) ++ invokes_all ss
invokes_first (statements.Placed attributes form place) ss = ap (λ list. list ++ invokes_all ss) (sym (append-nil (invokes_in form place)))

invokes_listed : (xs ys : List statements.PlainStatement) → invokes_all (statements.statements_of (xs ++ ys)) ≡ invokes_all (statements.statements_of xs) ++ invokes_all (statements.statements_of ys)
invokes_listed [] ys = refl
invokes_listed (statements.Placed attributes form place ∷ xs) ys =
    ap (λ list. invokes_in form place ++ list) (invokes_listed xs ys) ∙ sym (append_assoc (invokes_in form place) (invokes_all (statements.statements_of xs)) (invokes_all (statements.statements_of ys)))

module _ (long : List ℕ → Bool) where
  invokes_closed : (piece : List statements.PlainStatement) (later : statements.PlainStatements) → invokes_all (close long piece later) ≡ invokes_all (statements.statements_of piece) ++ invokes_all later
  invokes_closed [] later = refl
  invokes_closed (s ∷ []) later = invokes_first s later
  invokes_closed (s ∷ t ∷ rest) later = refl

  invokes_cut : (piece : List statements.PlainStatement) (count : ℕ) (ss : statements.PlainStatements) → invokes_all (cut long piece count ss) ≡ invokes_all (statements.statements_of piece) ++ invokes_all ss
  invokes_cut piece count statements.NoStatements = invokes_closed piece statements.NoStatements
  invokes_cut piece count (statements.StatementThen s ss) =
      by (is_run long s) (nat_eq count PIECE) (λ piece many. invokes_cut piece many ss)
      ∙ ap (λ list. invokes_all (statements.statements_of piece) ++ list) (sym (invokes_first s ss))
    where
      by : (run full : Bool) → ((opened : List statements.PlainStatement) (many : ℕ) → invokes_all (cut long opened many ss) ≡ invokes_all (statements.statements_of opened) ++ invokes_all ss)
          → invokes_all (if run then (if full then close long piece (cut long (s ∷ []) 1 ss) else cut long (piece ++ (s ∷ [])) (suc count) ss) else close long piece (statements.StatementThen s (cut long [] 0 ss)))
          ≡ (invokes_all (statements.statements_of piece)) ++ (invokes_all (statements.StatementThen s statements.NoStatements) ++ invokes_all ss)
      by true true later = invokes_closed piece (cut long (s ∷ []) 1 ss) ∙ ap (λ list. (invokes_all (statements.statements_of piece)) ++ list) (later (s ∷ []) 1)
      by true false later =
          later (piece ++ (s ∷ [])) (suc count) ∙ ap (λ list. list ++ invokes_all ss) (invokes_listed piece (s ∷ [])) ∙ append_assoc (invokes_all (statements.statements_of piece)) (invokes_all (statements.StatementThen s statements.NoStatements)) (invokes_all ss)
      by false full later =
          invokes_closed piece (statements.StatementThen s (cut long [] 0 ss))
          ∙ ap (λ list. (invokes_all (statements.statements_of piece)) ++ list) (invokes_first s (cut long [] 0 ss) ∙ ap (λ list. (invokes_all (statements.StatementThen s statements.NoStatements)) ++ list) (later [] 0))

  invokes_cut_if : (b : Bool) (ss : statements.PlainStatements) → invokes_all (cut_if long b ss) ≡ invokes_all ss
  invokes_cut_if true ss = invokes_cut [] 0 ss
  invokes_cut_if false ss = refl

  mutual
    pub form_invokes : (below : ℕ) (form : statements.PlainForm) (place : Place) → invokes_in (promote_form long below form) place ≡ invokes_in form place
    form_invokes below (statements.Enable group marks) place = refl
    form_invokes below (statements.Seq marks block) place = block_invokes (below - 1) true block
    form_invokes below (statements.Par marks block) place = block_invokes (below - 1) false block
    form_invokes below (statements.StaticSeq written marks block) place = refl
    form_invokes below (statements.StaticPar written marks block) place = refl
    form_invokes below (statements.If test comb body otherwise) place = ap₂ ◌++◌ (block_invokes (below - 1) true body) (else_invokes (below - 1) otherwise)
    form_invokes below (statements.StaticIf written test body otherwise) place = refl
    form_invokes below (statements.While test comb body) place = block_invokes (below - 1) true body
    form_invokes below (statements.Repeat count body) place = block_invokes (below - 1) true body
    form_invokes below (statements.StaticRepeat written count body) place = refl
    form_invokes below (statements.Invoke cell inputs outputs) place = refl
    form_invokes below (statements.StaticInvoke written cell inputs outputs) place = refl

    else_invokes : (below : ℕ) (otherwise : statements.PlainElse) → invokes_else (promote_else long below otherwise) ≡ invokes_else otherwise
    else_invokes below statements.NoElse = refl
    else_invokes below (statements.Else block) = block_invokes below true block

    all_invokes : (below : ℕ) (ss : statements.PlainStatements) → invokes_all (promote_all long below ss) ≡ invokes_all ss
    all_invokes below statements.NoStatements = refl
    all_invokes below (statements.StatementThen (statements.Placed attributes form place) ss) = ap₂ ◌++◌ (form_invokes below form place) (all_invokes below ss)

    pub block_invokes : (below : ℕ) (in_order : Bool) (block : statements.PlainBlock) → invokes_of (promote_block long below in_order block) ≡ invokes_of block
    block_invokes below in_order (statements.Braces ss place) = invokes_cut_if (in_order && nat_lt 0 below) (promote_all long below ss) ∙ all_invokes below ss

module _ (tree : PlainTree) (part : ast.PlainComponent) (i : Instance) where
  abbrev other : ast.PlainComponent
  other = twin tree part i

  pub number-made : (name : List ℕ) → group_number (made_tree tree) other name ≡ group_number tree part name
  number-made name = ap (number_or_0 name) (group_names-made tree part i)

  comb-made : (o : Option (List ℕ)) → comb_number (made_tree tree) other o ≡ comb_number tree part o
  comb-made None = refl
  comb-made (Some name) = ap Some (number-made name)

  -- WHAT STAYS AS IT IS stands for the same
  of_block-stays : (in_static : Bool) (place : Place) (ss : PlainStatements) → of_block (made_tree tree) other in_static place ss ≡ of_block tree part in_static place ss
  of_block-stays in_static place no_statements = refl
  of_block-stays in_static place (a_statement s no_statements) = refl
  of_block-stays true place (a_statement s (a_statement t rest)) = refl
  of_block-stays false place (a_statement s (a_statement t rest)) = refl

  -- an invoke at which the word static does not stand
  abbrev an_invoke : List ℕ → List BindItem → List BindItem → Place → Invoke
  an_invoke cell inputs outputs place = record { cell = cell; written = false; length = None; inputs = inputs; outputs = outputs; place = place }

  invoke_form-stays : (in_static : Bool) (n : Next) → invoke_form (made_tree tree) other in_static n ≡ invoke_form tree part in_static n
  invoke_form-stays true n = refl
  invoke_form-stays false n = refl

  mutual
    form-stays : (n : Next) (place : Place) (form : statements.PlainForm) → form_of (made_tree tree) other n place form ≡ form_of tree part n place form
    form-stays n place (statements.Enable group marks) = ap plain.Enable (number-made group)
    form-stays n place (statements.Seq marks block) = ap plain.Seq (parts-stay n block)
    form-stays n place (statements.Par marks block) = ap plain.Par (parts-stay n block)
    form-stays n place (statements.StaticSeq written marks block) = ap (plain.StaticSeq written) (parts-stay n block)
    form-stays n place (statements.StaticPar written marks block) = ap (plain.StaticPar written) (parts-stay n block)
    form-stays n place (statements.If test comb block otherwise) =
        if_is (placed-made tree part i test) (comb-made comb) (block-stays false n block)
        (ap (λ m. else_of (made_tree tree) other false m place otherwise) (past-made tree part i n (invokes_of block)) ∙ else-stays false (past tree part n (invokes_of block)) place otherwise)
    form-stays n place (statements.StaticIf written test block otherwise) =
        static_if_is written (placed-made tree part i test) (block-stays true n block)
        (ap (λ m. else_of (made_tree tree) other true m place otherwise) (past-made tree part i n (invokes_of block)) ∙ else-stays true (past tree part n (invokes_of block)) place otherwise)
    form-stays n place (statements.While test comb body) = while_is (placed-made tree part i test) (comb-made comb) (block-stays false n body)
    form-stays n place (statements.Repeat count body) = ap (plain.Repeat count) (block-stays false n body)
    form-stays n place (statements.StaticRepeat written count body) = ap (plain.StaticRepeat written count) (block-stays true n body)
    form-stays n place (statements.Invoke cell inputs outputs) =
        ap (λ in_static. invoke_form (made_tree tree) other in_static n) (static-made tree part i (an_invoke cell inputs outputs place))
        ∙ invoke_form-stays (is_static_invoke tree part (an_invoke cell inputs outputs place)) n
    form-stays n place (statements.StaticInvoke written cell inputs outputs) = refl

    else-stays : (in_static : Bool) (n : Next) (place : Place) (otherwise : statements.PlainElse) → else_of (made_tree tree) other in_static n place otherwise ≡ else_of tree part in_static n place otherwise
    else-stays in_static n place statements.NoElse = refl
    else-stays in_static n place (statements.Else block) = block-stays in_static n block

    block-stays : (in_static : Bool) (n : Next) (block : statements.PlainBlock) → block_of (made_tree tree) other in_static n block ≡ block_of tree part in_static n block
    block-stays in_static n (statements.Braces list place) = ap (of_block (made_tree tree) other in_static place) (all-stay n list) ∙ of_block-stays in_static place (all_of tree part n list)

    parts-stay : (n : Next) (block : statements.PlainBlock) → parts_of (made_tree tree) other n block ≡ parts_of tree part n block
    parts-stay n (statements.Braces list place) = all-stay n list

    all-stay : (n : Next) (list : statements.PlainStatements) → all_of (made_tree tree) other n list ≡ all_of tree part n list
    all-stay n statements.NoStatements = refl
    all-stay n (statements.StatementThen (statements.Placed attributes form place) rest) =
        ap₂ a_statement (ap (λ f. Placed f place) (form-stays n place form)) (ap (λ m. all_of (made_tree tree) other m rest) (past-made tree part i n (invokes_in form place)) ∙ all-stay (past tree part n (invokes_in form place)) rest)

  -- the invokes of a component's control stay
  pub control_invokes-made : (long : List ℕ → Bool) (o : Option statements.PlainBlock) → control_invokes (made_tree tree) other (option_map (promote_block long BELOW_CONTROL true) o) ≡ control_invokes tree part o
  control_invokes-made long None = refl
  control_invokes-made long (Some block) = block_invokes long BELOW_CONTROL true block

  -- WHAT IS PROMOTED, by which groups are
  module _ (long : List ℕ → Bool) (promoted : ℕ → Type 0) (are : (name : List ℕ) → long name ≡ true → promoted (group_number tree part name)) where
    -- an enable of a promoted group
    record Enabled : Type 0 where
      attributes : List Attribute
      group : List ℕ
      marks : List Mark
      place : Place
      is : long group ≡ true

    abbrev an_enabled : List Attribute → (group : List ℕ) → List Mark → Place → long group ≡ true → Enabled
    an_enabled attributes group marks place is = record { attributes = attributes; group = group; marks = marks; place = place; is = is }

    abbrev spelled : Enabled → statements.PlainStatement
    spelled e = statements.Placed e.attributes (statements.Enable e.group e.marks) e.place

    abbrev enabled : Enabled → PlainStatement
    enabled e = Placed (plain.Enable (group_number tree part e.group)) e.place

    abbrev ran : List Enabled → PlainStatements
    ran [] = no_statements
    ran (e ∷ es) = a_statement (enabled e) (ran es)

    is_ran : (es : List Enabled) → IsRun promoted (ran es)
    is_ran [] = no_more
    is_ran (e ∷ es) = one_more (are e.group e.is) (is_ran es)

    ran-made : (n : Next) (es : List Enabled) → all_of (made_tree tree) other n (statements.statements_of (map spelled es)) ≡ ran es
    ran-made n [] = refl
    ran-made n (e ∷ es) =
        ap₂ (λ g ss. a_statement (Placed (plain.Enable g) e.place) ss) (number-made e.group) (ran-made n es)

    ran-invokes : (es : List Enabled) → invokes_all (statements.statements_of (map spelled es)) ≡ []
    ran-invokes [] = refl
    ran-invokes (e ∷ es) = ran-invokes es

    joined_one : (es : List Enabled) (e : Enabled) (later : PlainStatements) → joined (ran (es ++ (e ∷ []))) later ≡ joined (ran es) (a_statement (enabled e) later)
    joined_one [] e later = refl
    joined_one (x ∷ es) e later = ap (a_statement (enabled x)) (joined_one es e later)

    spelled_one : (es : List Enabled) (e : Enabled) → map spelled (es ++ (e ∷ [])) ≡ map spelled es ++ (spelled e ∷ [])
    spelled_one [] e = refl
    spelled_one (x ∷ es) e = ap (λ list. spelled x ∷ list) (spelled_one es e)

    abbrev Parts : PlainStatements → PlainStatements → Type 0
    Parts ss tt = PartsMade promoted ss tt

    -- an open piece is closed
    closed_made : (es : List Enabled) (n : Next) (older : PlainStatements) (later : statements.PlainStatements) → Parts older (all_of (made_tree tree) other n later)
        → Parts (joined (ran es) older) (all_of (made_tree tree) other n (close long (map spelled es) later))
    closed_made [] n older later h = h
    closed_made (e ∷ []) n older later h =
        subst (λ g. Parts (a_statement (enabled e) older) (a_statement (Placed (plain.Enable g) e.place) (all_of (made_tree tree) other n later))) (sym (number-made e.group))
        (a_part (placed enable) h)
    closed_made (e ∷ f ∷ es) n older later h =
        let same : past (made_tree tree) other n (invokes_all (statements.statements_of (map spelled (e ∷ f ∷ es)))) ≡ n = ap (past (made_tree tree) other n) (ran-invokes (e ∷ f ∷ es)) in
        subst (λ m. Parts (joined (ran (e ∷ f ∷ es)) older)
        (a_statement (Placed (plain.StaticSeq None (all_of (made_tree tree) other n (statements.statements_of (map spelled (e ∷ f ∷ es))))) e.place) (all_of (made_tree tree) other m later))) (sym same)
        (subst (λ ss. Parts (joined (ran (e ∷ f ∷ es)) older) (a_statement (Placed (plain.StaticSeq None ss) e.place) (all_of (made_tree tree) other n later))) (sym (ran-made n (e ∷ f ∷ es)))
        (a_run (is_ran (e ∷ f ∷ es)) h))

    -- the numbers behind a statement, and behind a block
    next_made : (n : Next) (below : ℕ) (form : statements.PlainForm) (place : Place) → past (made_tree tree) other n (invokes_in (promote_form long below form) place) ≡ past tree part n (invokes_in form place)
    next_made n below form place = ap (past (made_tree tree) other n) (form_invokes long below form place) ∙ past-made tree part i n (invokes_in form place)

    next_behind : (n : Next) (below : ℕ) (block : statements.PlainBlock) → past (made_tree tree) other n (invokes_of (promote_block long below true block)) ≡ past tree part n (invokes_of block)
    next_behind n below block = ap (past (made_tree tree) other n) (block_invokes long below true block) ∙ past-made tree part i n (invokes_of block)

    -- a statement that ends a run
    ended_made : (es : List Enabled) (n : Next) (below : ℕ) (attributes : List Attribute) (form : statements.PlainForm) (place : Place) (ss cut_ss : statements.PlainStatements)
        → FormMade promoted (form_of tree part n place form) (form_of (made_tree tree) other n place (promote_form long below form))
        → Parts (all_of tree part (past tree part n (invokes_in form place)) ss) (all_of (made_tree tree) other (past tree part n (invokes_in form place)) cut_ss)
        → Parts (joined (ran es) (all_of tree part n (statements.StatementThen (statements.Placed attributes form place) ss)))
        (all_of (made_tree tree) other n (close long (map spelled es) (statements.StatementThen (statements.Placed attributes (promote_form long below form) place) cut_ss)))
    ended_made es n below attributes form place ss cut_ss one more =
        closed_made es n (all_of tree part n (statements.StatementThen (statements.Placed attributes form place) ss)) (statements.StatementThen (statements.Placed attributes (promote_form long below form) place) cut_ss)
        (subst (λ m. Parts (a_statement (Placed (form_of tree part n place form) place) (all_of tree part (past tree part n (invokes_in form place)) ss))
        (a_statement (Placed (form_of (made_tree tree) other n place (promote_form long below form)) place) (all_of (made_tree tree) other m cut_ss))) (sym (next_made n below form place))
        (a_part (placed one) more))

    -- an enable of a group that is promoted goes on with a run
    abbrev Goes : Next → ℕ → statements.PlainStatements → Type 0
    Goes n below ss = (es : List Enabled) (count : ℕ) → Parts (joined (ran es) (all_of tree part n ss)) (all_of (made_tree tree) other n (cut long (map spelled es) count (promote_all long below ss)))

    enabled_made : (es : List Enabled) (count : ℕ) (n : Next) (below : ℕ) (attributes : List Attribute) (group : List ℕ) (marks : List Mark) (place : Place) (ss : statements.PlainStatements) (b : Bool)
        → long group ≡ b → Goes n below ss
        → Parts (joined (ran es) (all_of tree part n (statements.StatementThen (statements.Placed attributes (statements.Enable group marks) place) ss)))
        (all_of (made_tree tree) other n (if b then (if nat_eq count PIECE then close long (map spelled es) (cut long (statements.Placed attributes (statements.Enable group marks) place ∷ []) 1 (promote_all long below ss))
        else cut long (map spelled es ++ (statements.Placed attributes (statements.Enable group marks) place ∷ [])) (suc count) (promote_all long below ss))
        else close long (map spelled es) (statements.StatementThen (statements.Placed attributes (statements.Enable group marks) place) (cut long [] 0 (promote_all long below ss)))))
    enabled_made es count n below attributes group marks place ss true is goes = by (nat_eq count PIECE)
      where
        by : (full : Bool) → Parts (joined (ran es) (a_statement (enabled (an_enabled attributes group marks place is)) (all_of tree part n ss)))
            (all_of (made_tree tree) other n (if full then close long (map spelled es) (cut long (spelled (an_enabled attributes group marks place is) ∷ []) 1 (promote_all long below ss)) else cut long (map spelled es ++ (spelled (an_enabled attributes group marks place is) ∷ [])) (suc count) (promote_all long below ss)))
        by true = closed_made es n (a_statement (enabled (an_enabled attributes group marks place is)) (all_of tree part n ss)) (cut long (spelled (an_enabled attributes group marks place is) ∷ []) 1 (promote_all long below ss)) (goes ((an_enabled attributes group marks place is) ∷ []) 1)
        by false =
            subst (λ old. Parts old (all_of (made_tree tree) other n (cut long (map spelled es ++ (spelled (an_enabled attributes group marks place is) ∷ [])) (suc count) (promote_all long below ss)))) (joined_one es (an_enabled attributes group marks place is) (all_of tree part n ss))
            (subst (λ list. Parts (joined (ran (es ++ ((an_enabled attributes group marks place is) ∷ []))) (all_of tree part n ss)) (all_of (made_tree tree) other n (cut long list (suc count) (promote_all long below ss)))) (spelled_one es (an_enabled attributes group marks place is))
            (goes (es ++ ((an_enabled attributes group marks place is) ∷ [])) (suc count)))
    enabled_made es count n below attributes group marks place ss false is goes =
        ended_made es n below attributes (statements.Enable group marks) place ss (cut long [] 0 (promote_all long below ss))
        (subst (λ g. FormMade promoted (plain.Enable (group_number tree part group)) (plain.Enable g)) (sym (number-made group)) enable)
        (goes [] 0)

    -- A BLOCK: one statement stays alone, and several are a seq, or one static seq
    cut_one : (s : statements.PlainStatement) → cut long [] 0 (statements.StatementThen s statements.NoStatements) ≡ statements.StatementThen s statements.NoStatements
    cut_one s = by (is_run long s)
      where
        by : (run : Bool) → (if run then (if nat_eq 0 PIECE then close long [] (cut long (s ∷ []) 1 statements.NoStatements) else cut long (s ∷ []) 1 statements.NoStatements)
            else close long [] (statements.StatementThen s (cut long [] 0 statements.NoStatements))) ≡ statements.StatementThen s statements.NoStatements
        by true = refl
        by false = refl

    cut_one_if : (b : Bool) (s : statements.PlainStatement) → cut_if long b (statements.StatementThen s statements.NoStatements) ≡ statements.StatementThen s statements.NoStatements
    cut_one_if true s = cut_one s
    cut_one_if false s = refl

    cut_none_if : (b : Bool) → cut_if long b statements.NoStatements ≡ statements.NoStatements
    cut_none_if true = refl
    cut_none_if false = refl

    not_gone : {ss : PlainStatements} (s : PlainStatement) (more : PlainStatements) → ss ≡ no_statements → Parts (a_statement s more) ss → ⊥
    not_gone s more e (a_part one rest) = absurd cc
    not_gone s more e (a_run run rest) = absurd cc

    several_made : (place : Place) (s t : PlainStatement) (more others : PlainStatements) → Parts (a_statement s (a_statement t more)) others
        → StatementMade promoted (Placed (plain.Seq (a_statement s (a_statement t more))) place) (of_block (made_tree tree) other false place others)
    several_made place s t more no_statements h = absurd (not_gone s (a_statement t more) refl h)
    several_made place s t more (a_statement (Placed form there) no_statements) h = placed (collapsed h)
    several_made place s t more (a_statement x (a_statement y rest)) h = placed (seq h)

    first_arm : {s t : PlainStatement} {ss tt : PlainStatements} → ArmsMade promoted (a_statement s ss) (a_statement t tt) → StatementMade promoted s t
    first_arm (an_arm one more) = one

    cut_if_made : (n : Next) (below : ℕ) (ss : statements.PlainStatements) (b : Bool) → Parts (all_of tree part n ss) (all_of (made_tree tree) other n (cut long [] 0 (promote_all long below ss)))
        → Parts (all_of tree part n ss) (all_of (made_tree tree) other n (promote_all long below ss)) → Parts (all_of tree part n ss) (all_of (made_tree tree) other n (cut_if long b (promote_all long below ss)))
    cut_if_made n below ss true one two = one
    cut_if_made n below ss false one two = two

    block_is : (n : Next) (below : ℕ) (place : Place) (ss : statements.PlainStatements) (b : Bool) → Parts (all_of tree part n ss) (all_of (made_tree tree) other n (cut_if long b (promote_all long below ss)))
        → ArmsMade promoted (all_of tree part n ss) (all_of (made_tree tree) other n (promote_all long below ss))
        → StatementMade promoted (of_block tree part false place (all_of tree part n ss)) (of_block (made_tree tree) other false place (all_of (made_tree tree) other n (cut_if long b (promote_all long below ss))))
    block_is n below place statements.NoStatements b parts arms =
        subst (λ ss. StatementMade promoted (Placed plain.Empty place) (of_block (made_tree tree) other false place (all_of (made_tree tree) other n ss))) (sym (cut_none_if b)) (placed empty)
    block_is n below place (statements.StatementThen (statements.Placed attributes form here) statements.NoStatements) b parts arms =
        subst (λ ss. StatementMade promoted (Placed (form_of tree part n here form) here) (of_block (made_tree tree) other false place (all_of (made_tree tree) other n ss)))
        (sym (cut_one_if b (statements.Placed attributes (promote_form long below form) here))) (first_arm arms)
    block_is n below place (statements.StatementThen (statements.Placed attributes form here) (statements.StatementThen (statements.Placed more next there) ss)) b parts arms =
        several_made place (Placed (form_of tree part n here form) here) (Placed (form_of tree part (past tree part n (invokes_in form here)) there next) there)
        (all_of tree part (past tree part (past tree part n (invokes_in form here)) (invokes_in next there)) ss) _ parts

    invoke_made : (in_static : Bool) (n : Next) → FormMade promoted (invoke_form tree part in_static n) (invoke_form (made_tree tree) other in_static n)
    invoke_made true n = timed
    invoke_made false n = enable

    mutual
      form_made : (n : Next) (below : ℕ) (place : Place) (form : statements.PlainForm) → FormMade promoted (form_of tree part n place form) (form_of (made_tree tree) other n place (promote_form long below form))
      form_made n below place (statements.Enable group marks) = subst (λ g. FormMade promoted (plain.Enable (group_number tree part group)) (plain.Enable g)) (sym (number-made group)) enable
      form_made n below place (statements.Seq marks block) = seq (parts_made n (below - 1) block)
      form_made n below place (statements.Par marks block) = par (arms_made n (below - 1) block)
      form_made n below place (statements.StaticSeq written marks block) =
          subst (λ f. FormMade promoted (form_of tree part n place (statements.StaticSeq written marks block)) f) (sym (form-stays n place (statements.StaticSeq written marks block))) (static refl)
      form_made n below place (statements.StaticPar written marks block) =
          subst (λ f. FormMade promoted (form_of tree part n place (statements.StaticPar written marks block)) f) (sym (form-stays n place (statements.StaticPar written marks block))) (static refl)
      form_made n below place (statements.If test comb body otherwise) =
          subst (λ m. FormMade promoted (form_of tree part n place (statements.If test comb body otherwise))
          (plain.If (placed_of (made_tree tree) other test) (comb_number (made_tree tree) other comb) (block_of (made_tree tree) other false n (promote_block long (below - 1) true body))
          (else_of (made_tree tree) other false m place (promote_else long (below - 1) otherwise)))) (sym (next_behind n (below - 1) body))
          (subst (λ p. FormMade promoted (form_of tree part n place (statements.If test comb body otherwise))
          (plain.If p (comb_number (made_tree tree) other comb) (block_of (made_tree tree) other false n (promote_block long (below - 1) true body))
          (else_of (made_tree tree) other false (past tree part n (invokes_of body)) place (promote_else long (below - 1) otherwise)))) (sym (placed-made tree part i test))
          (subst (λ o. FormMade promoted (form_of tree part n place (statements.If test comb body otherwise))
          (plain.If (placed_of tree part test) o (block_of (made_tree tree) other false n (promote_block long (below - 1) true body))
          (else_of (made_tree tree) other false (past tree part n (invokes_of body)) place (promote_else long (below - 1) otherwise)))) (sym (comb-made comb))
          (if_made (block_made n (below - 1) body) (else_made (past tree part n (invokes_of body)) (below - 1) place otherwise))))
      form_made n below place (statements.StaticIf written test body otherwise) =
          subst (λ f. FormMade promoted (form_of tree part n place (statements.StaticIf written test body otherwise)) f) (sym (form-stays n place (statements.StaticIf written test body otherwise))) (static refl)
      form_made n below place (statements.While test comb body) =
          subst (λ p. FormMade promoted (form_of tree part n place (statements.While test comb body))
          (plain.While p (comb_number (made_tree tree) other comb) (block_of (made_tree tree) other false n (promote_block long (below - 1) true body)))) (sym (placed-made tree part i test))
          (subst (λ o. FormMade promoted (form_of tree part n place (statements.While test comb body))
          (plain.While (placed_of tree part test) o (block_of (made_tree tree) other false n (promote_block long (below - 1) true body)))) (sym (comb-made comb))
          (while_made (block_made n (below - 1) body)))
      form_made n below place (statements.Repeat count body) = repeat_made (block_made n (below - 1) body)
      form_made n below place (statements.StaticRepeat written count body) =
          subst (λ f. FormMade promoted (form_of tree part n place (statements.StaticRepeat written count body)) f) (sym (form-stays n place (statements.StaticRepeat written count body))) (static refl)
      form_made n below place (statements.Invoke cell inputs outputs) =
          subst (λ in_static. FormMade promoted (form_of tree part n place (statements.Invoke cell inputs outputs)) (invoke_form (made_tree tree) other in_static n)) (sym (static-made tree part i (an_invoke cell inputs outputs place)))
          (invoke_made (is_static_invoke tree part (an_invoke cell inputs outputs place)) n)
      form_made n below place (statements.StaticInvoke written cell inputs outputs) = timed

      else_made : (n : Next) (below : ℕ) (place : Place) (otherwise : statements.PlainElse)
          → StatementMade promoted (else_of tree part false n place otherwise) (else_of (made_tree tree) other false n place (promote_else long below otherwise))
      else_made n below place statements.NoElse = placed empty
      else_made n below place (statements.Else block) = block_made n below block

      -- statements beside those that are promoted one by one
      each_made : (n : Next) (below : ℕ) (ss : statements.PlainStatements) → Parts (all_of tree part n ss) (all_of (made_tree tree) other n (promote_all long below ss))
      each_made n below statements.NoStatements = no_parts
      each_made n below (statements.StatementThen (statements.Placed attributes form place) ss) =
          subst (λ m. Parts (a_statement (Placed (form_of tree part n place form) place) (all_of tree part (past tree part n (invokes_in form place)) ss))
          (a_statement (Placed (form_of (made_tree tree) other n place (promote_form long below form)) place) (all_of (made_tree tree) other m (promote_all long below ss)))) (sym (next_made n below form place))
          (a_part (placed (form_made n below place form)) (each_made (past tree part n (invokes_in form place)) below ss))

      arms_all : (n : Next) (below : ℕ) (ss : statements.PlainStatements) → ArmsMade promoted (all_of tree part n ss) (all_of (made_tree tree) other n (promote_all long below ss))
      arms_all n below statements.NoStatements = no_arms
      arms_all n below (statements.StatementThen (statements.Placed attributes form place) ss) =
          subst (λ m. ArmsMade promoted (a_statement (Placed (form_of tree part n place form) place) (all_of tree part (past tree part n (invokes_in form place)) ss))
          (a_statement (Placed (form_of (made_tree tree) other n place (promote_form long below form)) place) (all_of (made_tree tree) other m (promote_all long below ss)))) (sym (next_made n below form place))
          (an_arm (placed (form_made n below place form)) (arms_all (past tree part n (invokes_in form place)) below ss))

      arms_made : (n : Next) (below : ℕ) (block : statements.PlainBlock) → ArmsMade promoted (parts_of tree part n block) (parts_of (made_tree tree) other n (promote_block long below false block))
      arms_made n below (statements.Braces ss place) = arms_all n below ss

      -- and those whose runs are cut
      cut_made : (n : Next) (below : ℕ) (ss : statements.PlainStatements) (es : List Enabled) (count : ℕ)
          → Parts (joined (ran es) (all_of tree part n ss)) (all_of (made_tree tree) other n (cut long (map spelled es) count (promote_all long below ss)))
      cut_made n below statements.NoStatements es count = closed_made es n no_statements statements.NoStatements no_parts
      cut_made n below (statements.StatementThen (statements.Placed attributes (statements.Enable group marks) place) ss) es count =
          enabled_made es count n below attributes group marks place ss (long group) refl (cut_made n below ss)
      cut_made n below (statements.StatementThen (statements.Placed attributes (statements.Seq marks block) place) ss) es count =
          ended_made es n below attributes (statements.Seq marks block) place ss (cut long [] 0 (promote_all long below ss)) (form_made n below place (statements.Seq marks block))
          (cut_made (past tree part n (invokes_in (statements.Seq marks block) place)) below ss [] 0)
      cut_made n below (statements.StatementThen (statements.Placed attributes (statements.Par marks block) place) ss) es count =
          ended_made es n below attributes (statements.Par marks block) place ss (cut long [] 0 (promote_all long below ss)) (form_made n below place (statements.Par marks block))
          (cut_made (past tree part n (invokes_in (statements.Par marks block) place)) below ss [] 0)
      cut_made n below (statements.StatementThen (statements.Placed attributes (statements.StaticSeq written marks block) place) ss) es count =
          ended_made es n below attributes (statements.StaticSeq written marks block) place ss (cut long [] 0 (promote_all long below ss)) (form_made n below place (statements.StaticSeq written marks block))
          (cut_made (past tree part n (invokes_in (statements.StaticSeq written marks block) place)) below ss [] 0)
      cut_made n below (statements.StatementThen (statements.Placed attributes (statements.StaticPar written marks block) place) ss) es count =
          ended_made es n below attributes (statements.StaticPar written marks block) place ss (cut long [] 0 (promote_all long below ss)) (form_made n below place (statements.StaticPar written marks block))
          (cut_made (past tree part n (invokes_in (statements.StaticPar written marks block) place)) below ss [] 0)
      cut_made n below (statements.StatementThen (statements.Placed attributes (statements.If test comb body otherwise) place) ss) es count =
          ended_made es n below attributes (statements.If test comb body otherwise) place ss (cut long [] 0 (promote_all long below ss)) (form_made n below place (statements.If test comb body otherwise))
          (cut_made (past tree part n (invokes_in (statements.If test comb body otherwise) place)) below ss [] 0)
      cut_made n below (statements.StatementThen (statements.Placed attributes (statements.StaticIf written test body otherwise) place) ss) es count =
          ended_made es n below attributes (statements.StaticIf written test body otherwise) place ss (cut long [] 0 (promote_all long below ss)) (form_made n below place (statements.StaticIf written test body otherwise))
          (cut_made (past tree part n (invokes_in (statements.StaticIf written test body otherwise) place)) below ss [] 0)
      cut_made n below (statements.StatementThen (statements.Placed attributes (statements.While test comb body) place) ss) es count =
          ended_made es n below attributes (statements.While test comb body) place ss (cut long [] 0 (promote_all long below ss)) (form_made n below place (statements.While test comb body))
          (cut_made (past tree part n (invokes_in (statements.While test comb body) place)) below ss [] 0)
      cut_made n below (statements.StatementThen (statements.Placed attributes (statements.Repeat times body) place) ss) es count =
          ended_made es n below attributes (statements.Repeat times body) place ss (cut long [] 0 (promote_all long below ss)) (form_made n below place (statements.Repeat times body))
          (cut_made (past tree part n (invokes_in (statements.Repeat times body) place)) below ss [] 0)
      cut_made n below (statements.StatementThen (statements.Placed attributes (statements.StaticRepeat written times body) place) ss) es count =
          ended_made es n below attributes (statements.StaticRepeat written times body) place ss (cut long [] 0 (promote_all long below ss)) (form_made n below place (statements.StaticRepeat written times body))
          (cut_made (past tree part n (invokes_in (statements.StaticRepeat written times body) place)) below ss [] 0)
      cut_made n below (statements.StatementThen (statements.Placed attributes (statements.Invoke cell inputs outputs) place) ss) es count =
          ended_made es n below attributes (statements.Invoke cell inputs outputs) place ss (cut long [] 0 (promote_all long below ss)) (form_made n below place (statements.Invoke cell inputs outputs))
          (cut_made (past tree part n (invokes_in (statements.Invoke cell inputs outputs) place)) below ss [] 0)
      cut_made n below (statements.StatementThen (statements.Placed attributes (statements.StaticInvoke written cell inputs outputs) place) ss) es count =
          ended_made es n below attributes (statements.StaticInvoke written cell inputs outputs) place ss (cut long [] 0 (promote_all long below ss)) (form_made n below place (statements.StaticInvoke written cell inputs outputs))
          (cut_made (past tree part n (invokes_in (statements.StaticInvoke written cell inputs outputs) place)) below ss [] 0)

      parts_made : (n : Next) (below : ℕ) (block : statements.PlainBlock) → Parts (parts_of tree part n block) (parts_of (made_tree tree) other n (promote_block long below true block))
      parts_made n below (statements.Braces ss place) = cut_if_made n below ss (nat_lt 0 below) (cut_made n below ss [] 0) (each_made n below ss)

      block_made : (n : Next) (below : ℕ) (block : statements.PlainBlock) → StatementMade promoted (block_of tree part false n block) (block_of (made_tree tree) other false n (promote_block long below true block))
      block_made n below (statements.Braces ss place) =
          block_is n below place ss (nat_lt 0 below) (cut_if_made n below ss (nat_lt 0 below) (cut_made n below ss [] 0) (each_made n below ss)) (arms_all n below ss)

    pub control_made : (o : Option statements.PlainBlock) → StatementMade promoted (control_of tree part o) (control_of (made_tree tree) other (option_map (promote_block long BELOW_CONTROL true) o))
    control_made None = placed empty
    control_made (Some block) =
        subst (λ n. StatementMade promoted (block_of tree part false (first tree part) block) (block_of (made_tree tree) other false n (promote_block long BELOW_CONTROL true block)))
        (sym (first-made tree part i)) (block_made (first tree part) BELOW_CONTROL block)
