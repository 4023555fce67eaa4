use Rattle.std.proofs.Common.{List, [], ◌∷◌, ◌++◌, Err, Result, ap, ◌∙◌, subst}
use Rattle.nio_language.specs.declared.reply.Reply.TheVariants as reply
use Rattle.nio_sole.proofs.PipeLines.{pipe_lacks, pipe_made, pipe_refused, pipe_unplaced, said_so}
use Rattle.nio_sole.specs.declared.desk.OwnedPipe.{OwnedPipe}
use Rattle.nio_sole.proofs.pipes.pipe.Goals as goal
use Rattle.nio_steps.specs.Calls.{CallClause}
use Rattle.nio_steps.specs.PipeCalls.{MakesPipe, PipeEnds}
use Rattle.nio_steps.specs.declared.refusal.PipeMakeError.{PipeMakeError}
use Rattle.nio_words.specs.Passes.{limits_of}
use Rattle.nio_words.specs.Views.{view}

pub returns-in-Err : goal.returns-in-Err
returns-in-Err c =
    pipe_unplaced c.args.w.now c.args.d.now c.args.me c.args.target c.reserve.new.self c.requires
    c.reserve.ensures.items

pub returns-in-Ok-held_pipe : goal.returns-in-Ok-held_pipe
returns-in-Ok-held_pipe c =
    let x : OwnedPipe = record { reader = c.args.me; writer = c.args.target; pipe = c.in-Ok-held_pipe.pipe } in
    said_so (λ j. reply.Ends (c.source.ensures j) (c.sink.ensures j))
    (pipe_made c.args.w.now c.args.d.now c.held_pipe.new.p c.args.me c.args.target _ c.push_reserved.new.self c.requires
    c.in-Ok-held_pipe.ensures.call c.in-Ok-held_pipe.ensures.ready c.in-Ok-held_pipe.ensures.ends
    c.in-Ok-held_pipe.ensures.empty
    (c.push_reserved.ensures.items ∙ ap (λ (xs : List OwnedPipe). xs ++ x ∷ []) c.reserve.ensures.items))

pub returns-in-Err-ChannelsSpent : goal.returns-in-Err-ChannelsSpent
returns-in-Err-ChannelsSpent c =
    let w = c.args.w.now in
    let call =
    subst (λ (e : PipeMakeError). CallClause {R = Result PipeEnds PipeMakeError} c.args.me (MakesPipe (limits_of w))
    (view w c.args.d.now.pass) (view w c.held_pipe.new.p) (Err e))
    c.in-Err-ChannelsSpent.field-0-is c.in-Err-ChannelsSpent.ensures.call in
    pipe_refused w c.args.d.now c.held_pipe.new.p c.args.me c.args.target c.reserve.new.self c.requires
    call c.in-Err-ChannelsSpent.ensures.ready c.reserve.ensures.items

pub returns-in-Err-Memory : goal.returns-in-Err-Memory
returns-in-Err-Memory c =
    let w = c.args.w.now in
    let call =
    subst (λ (e : PipeMakeError). CallClause {R = Result PipeEnds PipeMakeError} c.args.me (MakesPipe (limits_of w))
    (view w c.args.d.now.pass) (view w c.held_pipe.new.p) (Err e))
    c.in-Err-Memory.field-0-is c.in-Err-Memory.ensures.call in
    pipe_lacks w c.args.d.now c.held_pipe.new.p c.args.me c.args.target c.reserve.new.self c.requires
    call c.in-Err-Memory.ensures.ready c.reserve.ensures.items
