-- What callers have on the tables that tests begin with.
use Rattle.std.proofs.Common.{◌≡◌, List, ◌∷◌, ◌++◌, [], false, refl, ap, ◌∙◌, sym, subst, arith}
use Rattle.nio_base.specs.Limits.{IsFit}
use Rattle.nio_base.specs.declared.limits.Limits.{Limits}
use Rattle.nio_base.specs.declared.numbers.CallerNo.{CallerNo}
use Rattle.nio_base.specs.declared.numbers.ChanId.{ChanId}
use Rattle.nio_channel.proofs.Idle.{zero_other, unpinned_same, selector_same, channel_same}
use Rattle.nio_channel.specs.Idle.{AreIdle, zero, one, first_selector}
use Rattle.nio_history.proofs.PassViews.{selector_after}
use Rattle.nio_history.specs.Conditions.{IsSelector}
use Rattle.nio_history.specs.Histories.{event_of}
use Rattle.nio_history.specs.PassViews.{ActsClause, HasChannel, HasNoPin}
use Rattle.nio_history.specs.declared.act.Act.{Act}
use Rattle.nio_history.specs.declared.act.Act.TheVariants.{DrawBit}
use Rattle.nio_words.specs.Drawing.{Draws}
use Rattle.nio_words.specs.Passes.{IsFirstPass, IsReady, limits_of}
use Rattle.nio_words.specs.Sharing.{HandsOver}
use Rattle.nio_words.specs.Views.{view}
use Rattle.nio_words.specs.declared.words.Pass.{Pass}
use Rattle.nio_words.specs.declared.words.Words.{Words}
use Rattle.nio_table_tests.specs.Callers.{AreDrawn, MayCall}

pub both_drawn : {w : Words} {p q r : Pass} → IsFirstPass w p → Draws w p q zero false → Draws w q r one false
    → AreDrawn w r
both_drawn made first second =
    let once = first.only made.only in
    let twice = second.only once.0 in
    record {
      zero_ready = record { pass = second.pass; number = second.keeps zero (first.holds refl) };
      one_ready = record { pass = second.pass; number = second.holds refl };
      only = twice.0;
      seen = twice.1
          ∙ ap (λ es. es ++ event_of one (DrawBit one false) ∷ [])
          (once.1 ∙ ap (λ es. es ++ event_of zero (DrawBit zero false) ∷ []) made.unseen);
    }

pub first_fits : (w : Words) {l : Limits} → limits_of w ≡ l → IsFit l → IsSelector (limits_of w) first_selector
first_fits w same fit =
    let some = fit.some_selectors in
    subst (λ (k : Limits). IsSelector k first_selector) (sym same) (omega (arith, some))

-- ---- the other caller's number is handed over

pub may_stay : {w : Words} {before after given : Pass} → HandsOver w one before after given → AreIdle w before
    → MayCall w after zero
may_stay {w = w} {before = before} {after = after} over idle = record {
  ready = record { pass = over.sees.pass; number = (over.numbers zero).1 (idle.zero_ready.number, zero_other) };
  unpinned = unpinned_same w before after zero over.sees.sight idle.zero_unpinned;
  selector = selector_same w before after over.sees.sight idle.selector;
}

pub may_go : {w : Words} {before after given : Pass} → HandsOver w one before after given → AreIdle w before
    → MayCall w given one
may_go {w = w} {before = before} {given = given} over idle = record {
  ready = record { pass = over.sees.given_pass; number = (over.given_number one).1 refl };
  unpinned = unpinned_same w before given one over.sees.given_sight idle.one_unpinned;
  selector = selector_same w before given over.sees.given_sight idle.selector;
}

pub both_have : {w : Words} {before after given : Pass} → HandsOver w one before after given → (c : ChanId)
    → HasChannel (view w before) c → HasChannel (view w after) c × HasChannel (view w given) c
both_have {w = w} {before = before} {after = after} {given = given} over c has = (
  channel_same w before after over.sees.sight has,
  channel_same w before given over.sees.given_sight has,
)

-- ---- after a call of the caller

pub may_after : {w : Words} {p q : Pass} {me : CallerNo} {acts : List Act} → ActsClause me acts (view w p) (view w q)
    → IsReady w q me → HasNoPin (view w q) me → MayCall w p me → MayCall w q me
may_after clause ready unpinned may =
    record { ready = ready; unpinned = unpinned; selector = selector_after clause may.selector }
