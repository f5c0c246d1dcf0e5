use Rattle.std.proofs.Common.{inr, arith}
use Rattle.cx_lex.specs.Views.{kind_of}
use Rattle.cx_lex.proofs.WholeLemmas.{Lexing-fault, Lexing-advances, Lexing-end, one_tokens, no_fault, same_fault}
use Rattle.cx_lex.proofs.lexing.lex.Goals as goal

-- a fault is the first one of the text
pub returns-in-Err-clause-fault : goal.returns-in-Err-clause-fault
returns-in-Err-clause-fault c = inr (Lexing-fault c.args.text.now c.loop-byte.cursor c.loop-byte.rest.now c.loop-byte.tokens.items c.in-Some.byte.now c.in-Some.after.now c.in-Err.kind c.place-place.result c.loop-byte.invariant c.in-Some.ensures.cases.0 c.in-Err.ensures c.place-place.ensures)

pub returns-in-Err-clause-all_tokens : goal.returns-in-Err-clause-all_tokens
returns-in-Err-clause-all_tokens c =
    let first = Lexing-fault c.args.text.now c.loop-byte.cursor c.loop-byte.rest.now c.loop-byte.tokens.items c.in-Some.byte.now c.in-Some.after.now c.in-Err.kind c.place-place.result c.loop-byte.invariant c.in-Some.ensures.cases.0 c.in-Err.ensures c.place-place.ensures in
    λ wanted lexed. absurd (no_fault c.args.text.now wanted c.in-Err.kind c.place-place.result lexed first)

pub returns-in-Err-clause-all_faults : goal.returns-in-Err-clause-all_faults
returns-in-Err-clause-all_faults c =
    let first = Lexing-fault c.args.text.now c.loop-byte.cursor c.loop-byte.rest.now c.loop-byte.tokens.items c.in-Some.byte.now c.in-Some.after.now c.in-Err.kind c.place-place.result c.loop-byte.invariant c.in-Some.ensures.cases.0 c.in-Err.ensures c.place-place.ensures in
    λ kind place other. inr (same_fault c.args.text.now c.in-Err.kind kind c.place-place.result place first other)

-- an item is passed
pub overflow_sub-rest : goal.overflow_sub-rest
overflow_sub-rest c =
    let step = Lexing-advances c.args.text.now c.loop-byte.cursor c.loop-byte.rest.now c.loop-byte.tokens.items c.in-Some.byte.now c.in-Some.after.now (kind_of c.in-Ok.front.0) c.in-Ok.front.1.now c.place-place.result c.loop-byte.invariant c.in-Some.ensures.cases.0 c.in-Ok.ensures c.place-place.ensures in
    let shorter = step.shorter in
    omega arith

pub skip-requires : goal.skip-requires
skip-requires c =
    let step = Lexing-advances c.args.text.now c.loop-byte.cursor c.loop-byte.rest.now c.loop-byte.tokens.items c.in-Some.byte.now c.in-Some.after.now (kind_of c.in-Ok.front.0) c.in-Ok.front.1.now c.place-place.result c.loop-byte.invariant c.in-Some.ensures.cases.0 c.in-Ok.ensures c.place-place.ensures in
    step.room

pub loop-byte-smaller : goal.loop-byte-smaller
loop-byte-smaller c =
    let step = Lexing-advances c.args.text.now c.loop-byte.cursor c.loop-byte.rest.now c.loop-byte.tokens.items c.in-Some.byte.now c.in-Some.after.now (kind_of c.in-Ok.front.0) c.in-Ok.front.1.now c.place-place.result c.loop-byte.invariant c.in-Some.ensures.cases.0 c.in-Ok.ensures c.place-place.ensures in
    step.shorter

pub loop-byte-preserved : goal.loop-byte-preserved
loop-byte-preserved c =
    let step = Lexing-advances c.args.text.now c.loop-byte.cursor c.loop-byte.rest.now c.loop-byte.tokens.items c.in-Some.byte.now c.in-Some.after.now (kind_of c.in-Ok.front.0) c.in-Ok.front.1.now c.place-place.result c.loop-byte.invariant c.in-Some.ensures.cases.0 c.in-Ok.ensures c.place-place.ensures in
    step.next c.skip.new.cursor c.push.new.tokens.items c.skip.ensures c.in_ok-push.ensures.ok

-- at the end all tokens are there
pub returns-clause-tokens : goal.returns-clause-tokens
returns-clause-tokens c = Lexing-end c.args.text.now c.loop-byte.cursor c.loop-byte.rest.now c.loop-byte.tokens.items c.loop-byte.invariant c.in_default.ensures.cases

pub returns-clause-all_tokens : goal.returns-clause-all_tokens
returns-clause-all_tokens c =
    let lexed = Lexing-end c.args.text.now c.loop-byte.cursor c.loop-byte.rest.now c.loop-byte.tokens.items c.loop-byte.invariant c.in_default.ensures.cases in
    λ wanted other. one_tokens c.args.text.now c.loop-byte.tokens.items wanted lexed other

pub returns-clause-all_faults : goal.returns-clause-all_faults
returns-clause-all_faults c =
    let lexed = Lexing-end c.args.text.now c.loop-byte.cursor c.loop-byte.rest.now c.loop-byte.tokens.items c.loop-byte.invariant c.in_default.ensures.cases in
    λ kind place fault. no_fault c.args.text.now c.loop-byte.tokens.items kind place lexed fault
