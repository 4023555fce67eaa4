-- A call by its word.
use Rattle.std.proofs.Common.{◌≡◌, Result, sym, subst}
use Rattle.std.specs.declared.alloc.AllocError.{AllocError}
use Rattle.nio_base.specs.declared.numbers.CallerNo.{CallerNo}
use Rattle.nio_language.specs.declared.call.Call.{Call}
use Rattle.nio_language.specs.declared.reply.Reply.{Reply}
use Rattle.nio_serial.specs.Lines.{call_plan}
use Rattle.nio_sole.proofs.Desks.{places_same}
use Rattle.nio_sole.specs.Asked.{MayAsk, Asks}
use Rattle.nio_sole.specs.Makes.{MayMake, Makes, MakesCall}
use Rattle.nio_sole.specs.Stands.{progress_of, HasPlaces}
use Rattle.nio_sole.specs.declared.desk.Desk.{Desk}
use Rattle.nio_words.specs.Passes.{limits_of}
use Rattle.nio_words.specs.declared.words.Pass.{Pass}
use Rattle.nio_words.specs.declared.words.Words.{Words}

pub may_make : {w : Words} {d : Desk} {me : CallerNo} {word it : Call} → word ≡ it → MayMake w d me word
    → MayMake w d me it
may_make {w = w} {d = d} {me = me} is may = subst (λ (x : Call). MayMake w d me x) is may

pub may_ask : {w : Words} {d : Desk} {me : CallerNo} {word it : Call} → word ≡ it → MayMake w d me word
    → MayAsk w d.pass me it
may_ask is may = (may_make is may).ask

pub makes_by : (w : Words) (d d' : Desk) (me : CallerNo) {word it : Call} (result : Result Reply AllocError) → word ≡ it
    → MakesCall (λ plan. plan) w d d' me it result → MakesCall (λ plan. plan) w d d' me word result
makes_by w d d' me result is made = subst (λ (x : Call). MakesCall (λ plan. plan) w d d' me x result) (sym is) made

pub asked_by : {w : Words} {d : Desk} {q : Pass} {me : CallerNo} {word it : Call} {r : Reply} → word ≡ it
    → HasPlaces w d → Asks w d.pass q me it r
    → Makes w d (record d { pass = q }) me (call_plan (limits_of w) (progress_of d) me word) r
asked_by {w = w} {d = d} {q = q} {me = me} {r = r} is places asked =
    subst (λ (x : Call). Makes w d (record d { pass = q }) me (call_plan (limits_of w) (progress_of d) me x) r) (sym is)
    (record {
      call = asked.call (progress_of d);
      ready = asked.ready;
      places = places_same q (asked.call (progress_of d)) places;
    })

-- that the call of a word may be made, and that a word's call was made
pub ruleset by_word = (may_make, may_ask, makes_by)
