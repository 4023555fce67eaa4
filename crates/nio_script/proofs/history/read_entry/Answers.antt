use Rattle.std.proofs.Common.{refl}
use Rattle.nio_script.proofs.EntryTexts.{finds_none, no_entry_unsplit, no_entry_uncalled, no_entry_of_rules}
use Rattle.nio_script.proofs.EntryTexts.{finds_entry}
use Rattle.nio_script.proofs.history.read_entry.Goals as goal

pub returns-in_default : goal.returns-in_default
returns-in_default c =
    finds_none _ _ refl (no_entry_unsplit c.args.rules c.args.number c.args.line.now c.in_default.ensures.only)

pub returns-in_default-2 : goal.returns-in_default-2
returns-in_default-2 c =
    finds_none _ _ refl
    (no_entry_uncalled c.args.rules c.args.number c.args.line.now c.in-Some.call.now c.in-Some.reply.now
    c.in-Some.ensures.only (rw c.in_default-2.is at c.in_ok-line.ensures))

pub returns-then-is_call_of : goal.returns-then-is_call_of
returns-then-is_call_of c =
    finds_entry c.args.rules c.args.number c.args.line.now c.in-Some.call.now c.in-Some.reply.now c.in-Some.ensures.only
    c.in-Some-2.line c.in-Some.ensures.found
    (rw c.in-Some-2.is at c.in_ok-line.ensures) (c.if-is_call_of.ensures.0 refl)

pub returns : goal.returns
returns c =
    finds_none _ _ refl
    (no_entry_of_rules c.args.rules c.args.number c.args.line.now c.in-Some.call.now c.in-Some.reply.now
    c.in-Some.ensures.only c.in-Some-2.line
    (rw c.in-Some-2.is at c.in_ok-line.ensures) (λ known. let no = c.if-is_call_of.ensures.1 known in cc))
