-- A desk at which nothing was done yet.
use Rattle.std.proofs.Common.{◌≡◌, ℕ, Option, None, List, [], option_map, refl, ap, sym, subst, ◌∙◌}
use mathlib.Core.Path.{fun_ext}
use Rattle.nio_base.specs.Limits.{IsFit}
use Rattle.nio_base.specs.declared.numbers.CallerNo.{CallerNo}
use Rattle.nio_history.specs.Histories.{state_after, mine}
use Rattle.nio_history.specs.declared.event.Event.{Event}
use Rattle.nio_plain.specs.ScriptState.{script_opening}
use Rattle.nio_serial.specs.Between.{IsBetween}
use Rattle.nio_serial.specs.Documented.{Progress, Selecting, documented, nothing_yet}
use Rattle.nio_sole.proofs.Desks.{none_made, nothing_there}
use Rattle.nio_sole.specs.Drawn.{AreEmpty, HasDrawn}
use Rattle.nio_sole.specs.Made.{HasMade}
use Rattle.nio_sole.specs.Said.{state_at}
use Rattle.nio_sole.specs.Stands.{Stands, closings_of, group_of, pipes_of, progress_of, selecting_of, selections_of}
use Rattle.nio_sole.specs.Stands.{slot}
use Rattle.nio_sole.specs.declared.desk.Desk.{Desk}
use Rattle.nio_sole.specs.declared.desk.Shut.{Shut}
use Rattle.nio_words.specs.Rule.{HasBit}
use Rattle.nio_words.specs.Passes.{HoldSame, IsPassOf, acts_seen, limits_of, seen, state_seen}
use Rattle.nio_words.specs.declared.words.Pass.{Pass}
use Rattle.nio_words.specs.declared.words.Words.{Words}

pub idle_desk : (d : Desk) → ((s : ℕ) → slot d.selections.items s ≡ None)
    → ((s : ℕ) → slot d.closings.items s ≡ None) → d.group ≡ None → d.pipes.items ≡ [] → progress_of d ≡ nothing_yet
idle_desk d selections closings group pipes =
    let selecting : selections_of d.selections.items ≡ (λ (s : ℕ). let x : Option Selecting = None in x) =
    fun_ext (λ s. ap (option_map selecting_of) (selections s)) in
    let closing : closings_of d.closings.items ≡ (λ (s : ℕ). let x : Option CallerNo = None in x) =
    fun_ext (λ s. ap (option_map (λ (x : Shut). x.caller)) (closings s)) in
    rw (selecting, closing, ap group_of group, ap pipes_of pipes) refl

-- it stands, where its pass has seen the draws alone and holds every number
pub stands_open : (w : Words) (p : Pass) (d : Desk) → IsFit (limits_of w) → HasDrawn w p (limits_of w).callers
    → IsPassOf w d.pass → seen d.pass ≡ seen p → HoldSame p d.pass → AreEmpty d.selections (limits_of w).selectors
    → AreEmpty d.closings (limits_of w).selectors → d.pipes.items ≡ [] → progress_of d ≡ nothing_yet → Stands w d
stands_open w p d fit drawn is_pass same numbers selections closings pipes idle = record {
  fit = fit;
  ready = λ n below. record {
    pass = is_pass;
    number = subst (λ (k : ℕ). HasBit k n.0) (sym numbers) (drawn.holds n below);
  };
  places = record {
    selections = selections.len;
    closings = closings.len;
    selects = λ s x at. nothing_there (sym (selections.none s) ∙ at);
    closes = λ s x at. nothing_there (sym (closings.none s) ∙ at);
    pipes = none_made pipes;
  };
  between = ∣ between ∣₁;
  made = ∣ made ∣₁;
}
  where
    between : IsBetween (limits_of w) (state_seen d.pass) (progress_of d)
    between =
        subst (λ (x : Progress). IsBetween (limits_of w) (state_seen d.pass) x) (sym idle)
        (subst (λ (es : List Event). IsBetween (limits_of w) (state_after es) nothing_yet) (sym same)
        drawn.drawn.between)

    made : (n : CallerNo) → HasMade (limits_of w) (acts_seen d.pass n) n (progress_of d)
    made n =
        subst (λ (x : Progress). HasMade (limits_of w) (acts_seen d.pass n) n x) (sym idle)
        (subst (λ (es : List Event). HasMade (limits_of w) (mine n es) n nothing_yet) (sym same) (drawn.drawn.made n))

pub opening_state : (p : Pass) (d : Desk) → seen d.pass ≡ seen p → progress_of d ≡ nothing_yet
    → documented (state_seen p) nothing_yet ≡ script_opening → state_at d ≡ script_opening
opening_state p d same idle opening =
    ap (documented (state_seen d.pass)) idle
    ∙ (ap (λ (es : List Event). documented (state_after es) nothing_yet) same ∙ opening)
