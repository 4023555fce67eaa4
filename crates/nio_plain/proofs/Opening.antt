-- Opening a selector, over the parts of a state.
use Rattle.std.proofs.Common.{◌≡◌, ℕ, ◌<◌, ◌≤◌, Bool, true, false, sym, ap, ◌∙◌, List}
use Rattle.nio_base.specs.declared.limits.Limits.{Limits}
use Rattle.nio_group.specs.Group.{Group}
use Rattle.nio_history.specs.State.{put, with_selector}
use Rattle.nio_history.specs.declared.found.Chan.{Chan}
use Rattle.nio_language.specs.declared.reply.Reply.TheVariants as reply
use Rattle.nio_plain.proofs.Found.{find_unmade, find_spent}
use Rattle.nio_plain.proofs.Parts.{makes-made}
use Rattle.nio_plain.specs.PlainState.{SelectorRow, no_selector, new_selector, state_from}
use Rattle.nio_plain.specs.ScriptState.{ScriptState, with_shared, Pipe}
use Rattle.nio_plain.specs.Seq.Replies.{unchanged, replied}
use Rattle.nio_plain.specs.Seq.Opening.{selector_call, selector_made}

module _ (l : Limits) (group : Group) (pipes : List Pipe) (interrupted : ℕ → Bool) (mark : ℕ) (chan : ℕ → Chan)
    (row : ℕ → SelectorRow) where
  abbrev st : ScriptState
  st = state_from group pipes interrupted mark chan row

  module _ (n : ℕ) (is_made : (k : ℕ) → k < n → (row k).made ≡ true)
      (is_unmade : (k : ℕ) → n ≤ k → (row k).made ≡ false) where
    pub selector_call-spent : l.selectors ≤ n → selector_call l st ≡ unchanged st reply.SelectorsSpent
    unfolding selector_call
    selector_call-spent h =
        ap (selector_made st) (find_spent (λ s. (row s).made) l.selectors n is_made is_unmade h)

    pub selector_call-found : n < l.selectors
        → selector_call l st ≡ replied st (reply.Selector (record { 0 = n })) (with_selector st.shared n true)
    unfolding selector_call
    selector_call-found h =
        ap (selector_made st) (find_unmade (λ s. (row s).made) l.selectors n is_made is_unmade h)

  -- the state with a selector more
  pub state-new_selector : (n : ℕ) → row n ≡ no_selector
      → state_from group pipes interrupted mark chan (put row n new_selector)
      ≡ with_shared st (with_selector st.shared n true)
  state-new_selector n e =
      ap (λ (r : SelectorRow). state_from group pipes interrupted mark chan (put row n (record r { made = true })))
      (sym e) ∙ makes-made group pipes interrupted mark chan n true row
