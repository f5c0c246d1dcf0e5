-- In the design of a text no statement stands within more than 64 static ifs: each branch of a static if is a block, and a text has no more than
-- 64 of these one in the other.
use Rattle.std.proofs.Common.{◌≡◌, ℕ, zero, suc, ◌-◌, ◌≤◌, Bool, true, false, List, [], ◌∷◌, length, Option, Some, None, inl, inr, sym, subst, arith}
use Rattle.std.proofs.lemmas.List.{length-map}
use Rattle.cx_text.proofs.MemberLaws.{each_in, in_at}
use Rattle.cx_text.specs.declared.places.Place.{Place}
use Rattle.cx_ast.specs.declared.tokens.Token.{Token}
use Rattle.cx_ast.specs.PlainStatements as tree
use Rattle.cx_ast.specs.PlainStatements.{PlainForm, PlainElse, PlainBlock, statements_of, else_of}
use Rattle.cx_ast.specs.PlainTree as ast
use Rattle.cx_ast.specs.PlainTree.{PlainTree}
use Rattle.cx_grammar.specs.declared.terminals.Terminal.{Terminal}
use Rattle.cx_grammar.specs.declared.terminals.Terminal.TheVariants as t
use Rattle.cx_grammar.specs.Grammar.{Nest, Braces, Nested, Grammar, Empty, Pair, Choice, Spelling, Spells, Several_of}
use Rattle.cx_grammar.specs.Calyx as calyx
use Rattle.cx_grammar.specs.Calyx.{behind, before, within, pair, many, mapped, nest, spelled_within}
use Rattle.cx_grammar.specs.Parsing.{Parse}
use Rattle.cx_meaning.specs.Designs.{PlainStatements, no_statements, a_statement, PlainComponent, PlainDesign}
use Rattle.cx_text.specs.Members.{Each, In}
use Rattle.cx_numbering.specs.DesignOf.{Next, is_static_invoke, past, invokes_in, invokes_of, invoke_form, form_of, of_block, block_of, parts_of, all_of, first, control_of, component_of, design_of}
use Rattle.cx_numbering.specs.DesignOf as design
use Rattle.cx_names.proofs.Base.{some_at}
use Rattle.cx_names.proofs.Giving.{Asks, asks_nothing, Anything, Gives, anything, gives_empty, gives_pair, gives_choice, gives_many, gives_second, gives_right, gives_behind, gives_before, gives_mapped}
use Rattle.cx_names.proofs.There.{component_is}
use Rattle.cx_commands.specs.Unread.{HasTree}
use Rattle.cx_emitted.specs.Shallow.{FormShallow, Shallow, PartsShallow, IsShallow}
use Rattle.cx_compiler.specs.Texts.{IsDesignOf}

-- BLOCKS one in the other: no more than so many, the block itself among them
abbrev mutual
  pub FormFits : ℕ → PlainForm → Type 0
  FormFits n (tree.Enable group marks) = Unit {0}
  FormFits n (tree.Seq marks block) = BlockFits n block
  FormFits n (tree.Par marks block) = BlockFits n block
  FormFits n (tree.StaticSeq written marks block) = BlockFits n block
  FormFits n (tree.StaticPar written marks block) = BlockFits n block
  FormFits n (tree.If test comb block otherwise) = BlockFits n block × ElseFits n otherwise
  FormFits n (tree.StaticIf written test block otherwise) = BlockFits n block × ElseFits n otherwise
  FormFits n (tree.While test comb body) = BlockFits n body
  FormFits n (tree.Repeat count body) = BlockFits n body
  FormFits n (tree.StaticRepeat written count body) = BlockFits n body
  FormFits n (tree.Invoke cell inputs outputs) = Unit {0}
  FormFits n (tree.StaticInvoke written cell inputs outputs) = Unit {0}

  pub ElseFits : ℕ → PlainElse → Type 0
  ElseFits n tree.NoElse = Unit {0}
  ElseFits n (tree.Else block) = BlockFits n block

  pub BlockFits : ℕ → PlainBlock → Type 0
  BlockFits n (tree.Braces list place) = (1 ≤ n) × AllFit (n - 1) list

  pub AllFit : ℕ → tree.PlainStatements → Type 0
  AllFit n tree.NoStatements = Unit {0}
  AllFit n (tree.StatementThen (tree.Placed attributes form place) rest) = FormFits n form × AllFit n rest

-- FROM THE TREE TO THE DESIGN
module _ (whole : PlainTree) (part : ast.PlainComponent) where
  one_shallow : (static : Bool) (m : ℕ) (place : Place) (ss : PlainStatements) → PartsShallow m ss → Shallow m (of_block whole part static place ss)
  one_shallow static m place no_statements h = tt
  one_shallow static m place (a_statement s no_statements) h = h.0
  one_shallow true m place (a_statement s (a_statement u rest)) h = h
  one_shallow false m place (a_statement s (a_statement u rest)) h = h

  invoke_shallow : (static : Bool) (k : Next) (m : ℕ) → FormShallow m (invoke_form whole part static k)
  invoke_shallow true k m = tt
  invoke_shallow false k m = tt

  mutual
    form_shallow : (form : PlainForm) (k : Next) (place : Place) (n m : ℕ) → n ≤ m → FormFits n form → FormShallow m (form_of whole part k place form)
    form_shallow (tree.Enable group marks) k place n m less h = tt
    form_shallow (tree.Seq marks block) k place n m less h = parts_shallow block k n m less h
    form_shallow (tree.Par marks block) k place n m less h = parts_shallow block k n m less h
    form_shallow (tree.StaticSeq written marks block) k place n m less h = parts_shallow block k n m less h
    form_shallow (tree.StaticPar written marks block) k place n m less h = parts_shallow block k n m less h
    form_shallow (tree.If test comb block otherwise) k place n m less h = (lower_shallow false block k n m less h.0, otherwise_shallow false otherwise (past whole part k (invokes_of block)) place n m less h.1)
    form_shallow (tree.StaticIf written test block otherwise) k place n m less h = (
      some_level block n m less h.0,
      (block_shallow true block k n (m - 1) (omega (arith, less)) h.0, else_shallow true otherwise (past whole part k (invokes_of block)) place n (m - 1) (omega (arith, less)) h.1),
    )
    form_shallow (tree.While test comb body) k place n m less h = lower_shallow false body k n m less h
    form_shallow (tree.Repeat count body) k place n m less h = lower_shallow false body k n m less h
    form_shallow (tree.StaticRepeat written count body) k place n m less h = lower_shallow true body k n m less h
    form_shallow (tree.Invoke cell inputs outputs) k place n m less h =
        invoke_shallow (is_static_invoke whole part (record { cell = cell; written = false; length = None; inputs = inputs; outputs = outputs; place = place })) k m
    form_shallow (tree.StaticInvoke written cell inputs outputs) k place n m less h = tt

    some_level : (block : PlainBlock) (n m : ℕ) → n ≤ m → BlockFits n block → 1 ≤ m
    some_level (tree.Braces list place) n m less h = let own : 1 ≤ n = h.0 in omega (arith, less, own)

    parts_shallow : (block : PlainBlock) (k : Next) (n m : ℕ) → n ≤ m → BlockFits n block → PartsShallow m (parts_of whole part k block)
    parts_shallow (tree.Braces list place) k n m less h = all_shallow list k (n - 1) m (omega (arith, less)) h.1

    -- the statement of a block is a level deeper than the block
    block_shallow : (static : Bool) (block : PlainBlock) (k : Next) (n m : ℕ) → n - 1 ≤ m → BlockFits n block → Shallow m (block_of whole part static k block)
    block_shallow static (tree.Braces list place) k n m less h = one_shallow static m place (all_of whole part k list) (all_shallow list k (n - 1) m less h.1)

    lower_shallow : (static : Bool) (block : PlainBlock) (k : Next) (n m : ℕ) → n ≤ m → BlockFits n block → Shallow m (block_of whole part static k block)
    lower_shallow static (tree.Braces list place) k n m less h = one_shallow static m place (all_of whole part k list) (all_shallow list k (n - 1) m (omega (arith, less)) h.1)

    else_shallow : (static : Bool) (otherwise : PlainElse) (k : Next) (place : Place) (n m : ℕ) → n - 1 ≤ m → ElseFits n otherwise → Shallow m (design.else_of whole part static k place otherwise)
    else_shallow static tree.NoElse k place n m less h = tt
    else_shallow static (tree.Else block) k place n m less h = block_shallow static block k n m less h

    otherwise_shallow : (static : Bool) (otherwise : PlainElse) (k : Next) (place : Place) (n m : ℕ) → n ≤ m → ElseFits n otherwise → Shallow m (design.else_of whole part static k place otherwise)
    otherwise_shallow static tree.NoElse k place n m less h = tt
    otherwise_shallow static (tree.Else block) k place n m less h = lower_shallow static block k n m less h

    all_shallow : (list : tree.PlainStatements) (k : Next) (n m : ℕ) → n ≤ m → AllFit n list → PartsShallow m (all_of whole part k list)
    all_shallow tree.NoStatements k n m less h = tt
    all_shallow (tree.StatementThen (tree.Placed attributes form place) rest) k n m less h =
        (form_shallow form k place n m less h.0, all_shallow rest (past whole part k (invokes_in form place)) n m less h.1)

  abbrev ControlFits : Option PlainBlock → Type 0
  ControlFits control = ElseFits 64 (else_of control)

  control_shallow : (control : Option PlainBlock) → ControlFits control → Shallow 64 (control_of whole part control)
  control_shallow None h = tt
  control_shallow (Some block) h = block_shallow false block (first whole part) 64 64 (omega arith) h

-- FROM THE GRAMMAR TO THE TREE: what holds of all that a grammar spells
abbrev pub StatementFits : ℕ → tree.PlainStatement → Type 0
StatementFits n (tree.Placed attributes form place) = FormFits n form

abbrev pub OtherwiseFits : ℕ → Option PlainBlock → Type 0
OtherwiseFits n otherwise = ElseFits n (else_of otherwise)

pub all_fit : (n : ℕ) (ss : List tree.PlainStatement) → Each (StatementFits n) ss → AllFit n (statements_of ss)
all_fit n [] h = tt
all_fit n (tree.Placed attributes form place ∷ ss) h = (h.0, all_fit n ss h.1)

module _ (n : ℕ) (spelled : (n : Nest) → Spelling (Nested n)) (deep : (ts : List Token) (b : PlainBlock) (rest : List Token) → spelled Braces ts b rest → BlockFits n b) where
  abbrev asks : Asks
  asks = asks_nothing spelled

  -- BLOCKS
  blocks : Gives asks calyx.block (BlockFits n)
  unfolding calyx.block
  blocks ts b rest k s = (deep ts b rest s, tt)

  others : Gives asks calyx.otherwise (OtherwiseFits n)
  unfolding calyx.otherwise
  others =
      gives_choice asks (mapped (λ x. Some x) (behind t.Else calyx.block)) (Empty None) (OtherwiseFits n)
      (gives_mapped asks (λ x. Some x) (behind t.Else calyx.block) (BlockFits n) (OtherwiseFits n) (gives_behind asks t.Else calyx.block (BlockFits n) blocks) (λ b h. h))
      (gives_empty asks None (OtherwiseFits n) tt)

  controls : Gives asks calyx.control (OtherwiseFits n)
  unfolding calyx.control
  controls =
      gives_choice asks (mapped (λ x. Some x) (behind t.Control calyx.block)) (Empty None) (OtherwiseFits n)
      (gives_mapped asks (λ x. Some x) (behind t.Control calyx.block) (BlockFits n) (OtherwiseFits n) (gives_behind asks t.Control calyx.block (BlockFits n) blocks) (λ b h. h))
      (gives_empty asks None (OtherwiseFits n) tt)

  marked : Gives asks calyx.marked_block (λ v. BlockFits n v.1)
  unfolding calyx.marked_block
  marked = gives_right asks calyx.marks calyx.block (BlockFits n) blocks

  repeats : Gives asks calyx.repeat_rest (λ v. BlockFits n v.1)
  unfolding calyx.repeat_rest
  repeats = gives_right asks calyx.number calyx.block (BlockFits n) blocks

  branches : Gives asks (pair calyx.block calyx.otherwise) (λ v. BlockFits n v.0 × OtherwiseFits n v.1)
  branches = gives_pair asks (λ (x : PlainBlock) (y : Option PlainBlock). (x, y)) calyx.block calyx.otherwise (BlockFits n) (OtherwiseFits n) (λ v. BlockFits n v.0 × OtherwiseFits n v.1) blocks others (λ x y p q. (p, q))

  -- FORMS
  abbrev LaterFits : (Option ℕ → PlainForm) → Type 0
  LaterFits f = (l : Option ℕ) → FormFits n (f l)

  abbrev PlacedFits : PlainForm × Place → Type 0
  PlacedFits v = FormFits n v.0

  ifs : Gives asks calyx.if_rest (FormFits n)
  unfolding calyx.if_rest
  ifs =
      gives_second asks calyx.if_of calyx.operand (pair calyx.comb (pair calyx.block calyx.otherwise)) (λ v. BlockFits n v.1.0 × OtherwiseFits n v.1.1) (FormFits n)
      (gives_right asks calyx.comb (pair calyx.block calyx.otherwise) (λ v. BlockFits n v.0 × OtherwiseFits n v.1) branches)
      (λ o v h. h)

  whiles : Gives asks calyx.while_rest (FormFits n)
  unfolding calyx.while_rest
  whiles =
      gives_second asks calyx.while_of calyx.operand (pair calyx.comb calyx.block) (λ v. BlockFits n v.1) (FormFits n)
      (gives_right asks calyx.comb calyx.block (BlockFits n) blocks)
      (λ o v h. h)

  static_ifs : Gives asks calyx.static_if_rest LaterFits
  unfolding calyx.static_if_rest
  static_ifs =
      gives_second asks calyx.static_if_of calyx.operand (pair calyx.block calyx.otherwise) (λ v. BlockFits n v.0 × OtherwiseFits n v.1) LaterFits branches
      (λ o v h l. h)

  statics : Gives asks calyx.static_rest LaterFits
  unfolding calyx.static_rest
  statics ts f rest k (inl s) =
      gives_behind asks t.Seq (mapped calyx.static_seq_of calyx.marked_block) LaterFits (gives_mapped asks calyx.static_seq_of calyx.marked_block (λ v. BlockFits n v.1) LaterFits marked (λ v h l. h)) ts f rest k s
  statics ts f rest k (inr (inl s)) =
      gives_behind asks t.Par (mapped calyx.static_par_of calyx.marked_block) LaterFits (gives_mapped asks calyx.static_par_of calyx.marked_block (λ v. BlockFits n v.1) LaterFits marked (λ v h l. h)) ts f rest k s
  statics ts f rest k (inr (inr (inl s))) = gives_behind asks t.If calyx.static_if_rest LaterFits static_ifs ts f rest k s
  statics ts f rest k (inr (inr (inr (inl s)))) =
      gives_behind asks t.Repeat (mapped calyx.static_repeat_of calyx.repeat_rest) LaterFits (gives_mapped asks calyx.static_repeat_of calyx.repeat_rest (λ v. BlockFits n v.1) LaterFits repeats (λ v h l. h)) ts f rest k s
  statics ts f rest k (inr (inr (inr (inr s)))) =
      gives_behind asks t.Invoke (mapped calyx.static_invoke_of calyx.invoke_rest) LaterFits
      (gives_mapped asks calyx.static_invoke_of calyx.invoke_rest Anything LaterFits (anything asks calyx.invoke_rest) (λ v h l. tt)) ts f rest k s

  static_forms : Gives asks calyx.static_form (FormFits n)
  unfolding calyx.static_form
  static_forms = gives_second asks (λ l f. f l) calyx.optional_length calyx.static_rest LaterFits (FormFits n) statics (λ l f h. h l)

  enables : Gives asks calyx.enable PlacedFits
  unfolding calyx.enable
  enables = gives_pair asks calyx.enable_of calyx.name (before calyx.marks t.Semicolon) Anything Anything PlacedFits (anything asks calyx.name) (anything asks (before calyx.marks t.Semicolon)) (λ x y p q. tt)

  seqs : Gives asks calyx.seq PlacedFits
  unfolding calyx.seq
  seqs = gives_second asks calyx.seq_of (calyx.sign t.Seq) calyx.marked_block (λ v. BlockFits n v.1) PlacedFits marked (λ p v h. h)

  pars : Gives asks calyx.par PlacedFits
  unfolding calyx.par
  pars = gives_second asks calyx.par_of (calyx.sign t.Par) calyx.marked_block (λ v. BlockFits n v.1) PlacedFits marked (λ p v h. h)

  if_forms : Gives asks calyx.if_form PlacedFits
  unfolding calyx.if_form
  if_forms = gives_second asks calyx.form_of (calyx.sign t.If) calyx.if_rest (FormFits n) PlacedFits ifs (λ p f h. h)

  while_forms : Gives asks calyx.while_form PlacedFits
  unfolding calyx.while_form
  while_forms = gives_second asks calyx.form_of (calyx.sign t.While) calyx.while_rest (FormFits n) PlacedFits whiles (λ p f h. h)

  repeat_forms : Gives asks calyx.repeat PlacedFits
  unfolding calyx.repeat
  repeat_forms = gives_second asks calyx.repeat_of (calyx.sign t.Repeat) calyx.repeat_rest (λ v. BlockFits n v.1) PlacedFits repeats (λ p v h. h)

  invokes : Gives asks calyx.invoke PlacedFits
  unfolding calyx.invoke
  invokes = gives_second asks calyx.invoke_of (calyx.sign t.Invoke) calyx.invoke_rest Anything PlacedFits (anything asks calyx.invoke_rest) (λ p v h. tt)

  static_statements : Gives asks calyx.static_statement PlacedFits
  unfolding calyx.static_statement
  static_statements = gives_second asks calyx.form_of (calyx.sign t.Static) calyx.static_form (FormFits n) PlacedFits static_forms (λ p f h. h)

  forms : Gives asks calyx.form PlacedFits
  unfolding calyx.form
  forms ts f rest k (inl s) = enables ts f rest k s
  forms ts f rest k (inr (inl s)) = seqs ts f rest k s
  forms ts f rest k (inr (inr (inl s))) = pars ts f rest k s
  forms ts f rest k (inr (inr (inr (inl s)))) = if_forms ts f rest k s
  forms ts f rest k (inr (inr (inr (inr (inl s))))) = while_forms ts f rest k s
  forms ts f rest k (inr (inr (inr (inr (inr (inl s)))))) = repeat_forms ts f rest k s
  forms ts f rest k (inr (inr (inr (inr (inr (inr (inl s))))))) = invokes ts f rest k s
  forms ts f rest k (inr (inr (inr (inr (inr (inr (inr s))))))) = static_statements ts f rest k s

  statements : Gives asks calyx.statement (StatementFits n)
  unfolding calyx.statement
  statements = gives_second asks calyx.statement_of calyx.attributes calyx.form PlacedFits (StatementFits n) forms (λ attrs f h. h)

  -- a block is a level above its statements
  braces : Gives asks (nest Braces) (BlockFits (suc n))
  unfolding nest calyx.statements
  braces =
      gives_second asks (λ place ss. tree.Braces (statements_of ss) place) (calyx.sign t.OpenBrace) (before calyx.statements t.CloseBrace) (Each (StatementFits n)) (BlockFits (suc n))
      (gives_before asks calyx.statements t.CloseBrace (Each (StatementFits n)) (gives_many asks calyx.statement (StatementFits n) statements))
      (λ place ss h. let level : n ≡ suc n - 1 = omega arith in (omega arith, subst (λ m. AllFit m (statements_of ss)) level (all_fit n ss h)))

  -- FILES
  bodies : Gives asks calyx.body (λ b. OtherwiseFits n b.1.1)
  unfolding calyx.body
  bodies =
      gives_behind asks t.OpenBrace (pair calyx.cells (pair calyx.wires_part (before calyx.control t.CloseBrace))) (λ b. OtherwiseFits n b.1.1)
      (gives_right asks calyx.cells (pair calyx.wires_part (before calyx.control t.CloseBrace)) (λ v. OtherwiseFits n v.1)
      (gives_right asks calyx.wires_part (before calyx.control t.CloseBrace) (OtherwiseFits n) (gives_before asks calyx.control t.CloseBrace (OtherwiseFits n) controls)))

  abbrev HasDepth : ast.PlainComponent → Type 0
  HasDepth part = OtherwiseFits n part.control

  components : Gives asks calyx.component HasDepth
  unfolding calyx.component
  components =
      gives_second asks calyx.component_of calyx.attributes (pair calyx.component_word (pair calyx.signature calyx.body)) (λ v. OtherwiseFits n v.1.1.1.1) HasDepth
      (gives_right asks calyx.component_word (pair calyx.signature calyx.body) (λ v. OtherwiseFits n v.1.1.1)
      (gives_right asks calyx.signature calyx.body (λ b. OtherwiseFits n b.1.1) bodies))
      (λ attrs v h. h)

  many_components : Gives asks calyx.components (Each HasDepth)
  unfolding calyx.components
  many_components = gives_many asks calyx.component HasDepth components

  files : Gives asks calyx.file (λ tree. Each HasDepth tree.components)
  unfolding calyx.file
  files =
      gives_second asks (λ is cs. record { imports = is; components = cs }) calyx.imports (Pair (λ c cs. c ∷ cs) calyx.component calyx.components) (Each HasDepth) (λ tree. Each HasDepth tree.components)
      (gives_pair asks (λ c cs. c ∷ cs) calyx.component calyx.components HasDepth (Each HasDepth) (Each HasDepth) components many_components (λ c cs h k. (h, k)))
      (λ is cs h. h)

blocks_within : (levels : ℕ) (ts : List Token) (b : PlainBlock) (rest : List Token) → spelled_within levels Braces ts b rest → BlockFits levels b
blocks_within zero ts b rest s = absurd s
blocks_within (suc levels) ts b rest s = (braces levels (spelled_within levels) (blocks_within levels) ts b rest tt s).0

-- the control of each component of a text
control_fits : (text : List ℕ) (tree : PlainTree) → HasTree text tree → (part : ast.PlainComponent) → In tree.components part → OtherwiseFits 64 part.control
unfolding Parse
control_fits text tree h part i = each_in (λ (p : ast.PlainComponent). OtherwiseFits 64 p.control) tree.components part (files 64 (spelled_within 64) (blocks_within 64) h.0 tree [] tt h.2).0 i

-- the design of a tree whose controls fit
pub tree_shallow : (whole : PlainTree) → ((part : ast.PlainComponent) → In whole.components part → OtherwiseFits 64 part.control) → IsShallow (design_of whole)
tree_shallow whole fits k within =
    let many : length (design_of whole).components ≡ length whole.components = length-map whole.components (component_of whole) in
    let part = some_at whole.components k (omega (arith, within, many)) in
    subst (λ (p : PlainComponent). Shallow 64 p.control) (sym (component_is whole k part.0 part.1))
    (control_shallow whole part.0 part.0.control (fits part.0 (in_at whole.components k part.0 part.1)))

-- IN THE DESIGN OF A TEXT
pub text_shallow : (text : List ℕ) (d : PlainDesign) → IsDesignOf text d → IsShallow d
text_shallow text d h = subst IsShallow (sym h.3) (tree_shallow h.0 (control_fits text h.0 h.1))
