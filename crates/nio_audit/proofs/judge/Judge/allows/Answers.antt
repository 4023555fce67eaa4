use Rattle.nio_audit.proofs.judge.Judge.allows.Goals as goal

pub returns-in-Claim : goal.returns-in-Claim
returns-in-Claim c = rw c.in-Claim.is (c.may_claim.ensures c.in-Claim.field-3)

pub returns-in-Enrol : goal.returns-in-Enrol
returns-in-Enrol c = rw c.in-Enrol.is (c.may_enrol.ensures c.in-Enrol.field-4)

pub returns-in-SetMode : goal.returns-in-SetMode
returns-in-SetMode c = rw c.in-SetMode.is (c.may_set_mode.ensures c.in-SetMode.field-2)

pub returns-in-ClaimAgain : goal.returns-in-ClaimAgain
returns-in-ClaimAgain c = rw c.in-ClaimAgain.is (c.may_claim_again.ensures c.in-ClaimAgain.field-4)

pub returns-in-Reopen : goal.returns-in-Reopen
returns-in-Reopen c = rw c.in-Reopen.is (c.may_reopen.ensures c.in-Reopen.field-2)
