use Rattle.std.proofs.Common.{false, subst}
use Rattle.nio_audit.specs.Bounds.{IsBounded}
use Rattle.nio_audit.specs.StateOf.{state_with}
use Rattle.nio_audit.specs.StepNumbers.{number_of}
use Rattle.nio_audit.proofs.state.StateTables.apply.Goals as goal
use Rattle.nio_history.specs.declared.act.Act.{Act}

pub claim_again-requires : goal.claim_again-requires
claim_again-requires c =
    subst (λ (a : Act). IsBounded (state_with c.args.self.now (λ _ _. false)) (number_of a)) c.in-ClaimAgain.is
    (c.requires (λ _ _. false))

pub reopen-requires : goal.reopen-requires
reopen-requires c =
    subst (λ (a : Act). IsBounded (state_with c.args.self.now (λ _ _. false)) (number_of a)) c.in-Reopen.is
    (c.requires (λ _ _. false))

pub returns-in-MakeChannel : goal.returns-in-MakeChannel
returns-in-MakeChannel c = rw c.in-MakeChannel.is (c.make_channel.ensures c.args.me)

pub returns-in-Claim : goal.returns-in-Claim
returns-in-Claim c = rw c.in-Claim.is c.claim.ensures

pub returns-in-TakeTurn : goal.returns-in-TakeTurn
returns-in-TakeTurn c = rw c.in-TakeTurn.is c.take_turn.ensures

pub returns-in-GiveTurn : goal.returns-in-GiveTurn
returns-in-GiveTurn c = rw c.in-GiveTurn.is (c.give_turn.ensures c.args.me)

pub returns-in-Mark : goal.returns-in-Mark
returns-in-Mark c = rw c.in-Mark.is (c.mark.ensures c.args.me)

pub returns-in-ShutBit : goal.returns-in-ShutBit
returns-in-ShutBit c = rw c.in-ShutBit.is c.shut.ensures

pub returns-in-ClaimAgain : goal.returns-in-ClaimAgain
returns-in-ClaimAgain c = rw c.in-ClaimAgain.is (c.claim_again.ensures c.in-ClaimAgain.field-3)

pub returns-in-PutFree : goal.returns-in-PutFree
returns-in-PutFree c = rw c.in-PutFree.is (c.put_free.ensures c.args.me)

pub returns-in-TakeFree : goal.returns-in-TakeFree
returns-in-TakeFree c = rw c.in-TakeFree.is c.take_free.ensures

pub returns-in-Reopen : goal.returns-in-Reopen
returns-in-Reopen c = rw c.in-Reopen.is (c.reopen.ensures c.args.me)

pub take_touched-requires : goal.take_touched-requires
take_touched-requires c =
    subst (λ (a : Act). IsBounded (state_with c.args.self.now (λ _ _. false)) (number_of a)) c.in-TakeTouched.is
    (c.requires (λ _ _. false))

pub returns-in-Unpin : goal.returns-in-Unpin
returns-in-Unpin c = rw c.in-Unpin.is c.unpin.ensures

pub returns-in-Touch : goal.returns-in-Touch
returns-in-Touch c = rw c.in-Touch.is (c.touch.ensures c.in-Touch.field-2)

pub returns-in-TakeTouched : goal.returns-in-TakeTouched
returns-in-TakeTouched c = rw c.in-TakeTouched.is (c.take_touched.ensures c.args.me c.in-TakeTouched.field-2)
