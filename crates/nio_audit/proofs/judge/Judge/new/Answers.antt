use Rattle.nio_audit.proofs.Opening.{follows-none}
use Rattle.nio_audit.proofs.judge.Judge.new.Goals as goal

pub returns-clause-follows : goal.returns-clause-follows
returns-clause-follows c =
    follows-none c.new.ensures c.new-2.ensures.due c.new-2.ensures.before c.new-3.ensures.channels c.new-3.ensures.keys
    c.new-4.ensures
