use Rattle.std.proofs.Common.{ℕ, List, map, ap}
use denote.Ref.{Bor}
use Rattle.nio_language.proofs.CallParts.{reads_call_where_ok, no_word}
use Rattle.nio_language.proofs.parse.call.read_call.Goals as goal

pub returns-in-Some-read : goal.returns-in-Some-read
returns-in-Some-read c =
    reads_call_where_ok c.in-Some.word.now.now c.in-Some-read.word (map (λ w. w.now) c.in-Some.args.now)
    (map (λ w. w.now) c.args.words.now) c.read_arguments.result c.in-Some-read.ensures
    (ap (map (λ (w : Bor (List ℕ)). w.now)) c.in-Some.ensures.cases.0)
    c.read_arguments.ensures

pub returns-in-None : goal.returns-in-None
returns-in-None c =
    no_word c.in-Some.word.now.now (map (λ w. w.now) c.in-Some.args.now)
    (map (λ w. w.now) c.args.words.now) c.in-None.ensures
    (ap (map (λ (w : Bor (List ℕ)). w.now)) c.in-Some.ensures.cases.0)
