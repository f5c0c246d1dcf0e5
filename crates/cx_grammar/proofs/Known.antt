-- One token of lookahead is enough for every production.
use Rattle.std.proofs.Common.{◌≡◌, Bool, true, false, ◌&&◌, refl, [], ◌∷◌}
use Rattle.std.specs.List.{list_all}
use Rattle.cx_grammar.specs.Terminals.{is_in}
use Rattle.cx_grammar.specs.Grammar.{Nest, Negation, Parens, Braces, Grammar, Empty, One, Pair, Choice, Several, Commas, Deeper, goes_on, nest_goes_on, starts, opening}
use Rattle.cx_grammar.specs.Reading.{is_plain}
use Rattle.cx_grammar.specs.Calyx.{attribute_number, attribute, attributes, mark, next_mark, more_marks, marks, import, port, some_ports, ports, outputs, reference, target, literal, operand, cmp, window_range, window, prefixed, unary, compared, comp, next_comp, more_comps, conj, next_conj, more_conjs, guard, guarded, guard_value, after_operand, value, bare_assign, assign, length_of, optional_length, group_word, assigns, bare_group, wire, wire_list, wires_part, next_number, more_numbers, numbers, cell_kind, cell, cell_list, cells, bind, some_binds, binds, block, control, comb, otherwise, marked_block, if_rest, while_rest, repeat_rest, static_if_rest, invoke_rest, static_rest, static_form, enable, seq, par, if_form, while_form, repeat, invoke, static_statement, form, statement, statements, nest, component_word, signature, body, component, imports, components, file}

pub plain_file : is_plain file ≡ true
unfolding attribute_number attribute attributes mark next_mark more_marks marks import port some_ports ports outputs reference target literal operand cmp window_range window prefixed unary compared comp next_comp more_comps conj next_conj more_conjs guard guarded guard_value after_operand value bare_assign assign length_of optional_length group_word assigns bare_group wire wire_list wires_part next_number more_numbers numbers cell_kind cell cell_list cells block control component_word signature body component imports components file
plain_file = refl

pub plain_negation : is_plain (nest Negation) ≡ true
unfolding reference target literal operand window_range window prefixed unary nest
plain_negation = refl

pub plain_parens : is_plain (nest Parens) ≡ true
unfolding reference target literal operand cmp window_range window prefixed unary compared comp next_comp more_comps conj next_conj more_conjs guard nest
plain_parens = refl

pub plain_braces : is_plain (nest Braces) ≡ true
unfolding attribute_number attribute attributes mark next_mark more_marks marks reference target literal operand bind some_binds binds block comb otherwise marked_block if_rest while_rest repeat_rest static_if_rest invoke_rest static_rest static_form enable seq par if_form while_form repeat invoke static_statement form statement statements length_of optional_length nest
plain_braces = refl

pub plain_nest : (n : Nest) → is_plain (nest n) ≡ true
plain_nest Negation = plain_negation
plain_nest Parens = plain_parens
plain_nest Braces = plain_braces

-- each part that nests begins with its own token
pub starts_nest : (n : Nest) → starts (nest n) ≡ opening n ∷ []
unfolding nest
starts_nest Negation = refl
starts_nest Parens = refl
starts_nest Braces = refl

-- and can go on with no other terminals than those that are listed
pub nest_within : (n : Nest) → list_all (λ u. is_in u (nest_goes_on n)) (goes_on (nest n)) ≡ true
unfolding attribute attribute_number attributes bind binds block cmp comb comp compared conj enable form guard if_form if_rest invoke invoke_rest length_of literal mark marked_block marks more_comps more_conjs more_marks nest next_comp next_conj next_mark operand optional_length otherwise par prefixed reference repeat repeat_rest seq some_binds statement statements static_form static_if_rest static_rest static_statement target unary while_form while_rest window window_range
nest_within Negation = refl
nest_within Parens = refl
nest_within Braces = refl

-- a text of the grammar needs nothing nested, where the second choice is taken
abbrev pub is_shallow : {A : Type 0} → Grammar A → Bool
is_shallow (Empty x) = true
is_shallow (One set v) = true
is_shallow (Pair join g h) = is_shallow g && is_shallow h
is_shallow (Choice g h) = is_shallow h
is_shallow (Several whole g) = true
is_shallow (Commas whole g) = is_shallow g
is_shallow (Deeper n) = false

pub shallow_nest : (n : Nest) → is_shallow (nest n) ≡ true
unfolding attribute attribute_number attributes bind binds block cmp comb comp compared conj enable form guard if_form if_rest invoke invoke_rest length_of literal mark marked_block marks more_comps more_conjs more_marks nest next_comp next_conj next_mark operand optional_length otherwise par prefixed reference repeat repeat_rest seq some_binds statement statements static_form static_if_rest static_rest static_statement target unary while_form while_rest window window_range
shallow_nest Negation = refl
shallow_nest Parens = refl
shallow_nest Braces = refl
