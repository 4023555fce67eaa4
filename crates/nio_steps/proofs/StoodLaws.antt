-- Each looked key of a selection with the selector's list stood so after the selection had begun.
use Rattle.std.proofs.Common.{◌≡◌, Some, [], ◌∷◌, ◌++◌, refl, ap, sym, ◌∙◌, eq-eqb}
use Rattle.std.specs.List.{Contains}
use Rattle.std.proofs.lemmas.List.{append-nil}
use Rattle.std.proofs.lemmas.List.Elements.{All-weaker, All-contains_itself}
use Rattle.nio_history.proofs.OneMore.{mine-append}
use Rattle.nio_history.specs.Histories.{mine, event_of}
use Rattle.nio_history.specs.declared.act.Act.TheVariants.{BeginLook}
use Rattle.nio_steps.proofs.BeginLaws.{begin-parts, cut_at_begin}
use Rattle.nio_steps.proofs.OwnActs.{mine-own_first}
use Rattle.nio_steps.proofs.StoodMoments.{key-stood, opened-at}
use Rattle.nio_steps.specs.ListLaws.{ListedKeysStood, StoodSo}

pub listed_keys_stood : ListedKeysStood
listed_keys_stood l n start opening later s mode known found selection legal knows run =
    let act = BeginLook s found in
    let e = event_of n act in
    let opened = opening ++ e ∷ [] in
    let first : mine n (e ∷ later) ≡ act ∷ mine n later = mine-own_first n e later (eq-eqb n.0 n.0 refl) in
    let own : mine n (opening ++ e ∷ later) ≡ mine n opening ++ act ∷ mine n later = mine-append n opening (e ∷ later)
    ∙ ap (λ xs. mine n opening ++ xs) first in
    let begun = begin-parts s mode (Some known) (mine n (opening ++ e ∷ later)) selection run in
    let cut = cut_at_begin s mode (Some known) (mine n (opening ++ e ∷ later)) selection begun (mine n opening) found
    (mine n later) own in
    let own_opened : mine n opened ≡ begun.gate ∷ begun.take ∷ begun.look ∷ [] = mine-append n opening (e ∷ [])
    ∙ (ap (λ xs. mine n opening ++ xs) (mine-own_first n e [] (eq-eqb n.0 n.0 refl))
    ∙ (ap (λ xs. xs ++ act ∷ []) cut.0 ∙ ap (λ x. begun.gate ∷ begun.take ∷ x ∷ []) cut.1)) in
    let own_later : mine n later ≡ begun.keys ∷ (begun.over ++ []) = cut.2
    ∙ ap (λ xs. begun.keys ∷ xs) (sym (append-nil begun.over)) in
    let o = opened-at l n start opened later s mode known (mine n (opening ++ e ∷ later)) selection [] begun legal knows
    own_opened own_later in
    All-weaker (Contains selection.looked) (StoodSo s (start ++ opened) later)
    (λ key there.
    let stood = key-stood l n start opened later s known selection.bound selection.looked [] o key there in
    record {
      valid = record {
        past = stood.valid.past;
        rest = stood.valid.rest;
        parts = stood.valid.parts;
        stood = stood.valid.fact;
      };
      interest = stood.interest;
    })
    selection.looked (All-contains_itself selection.looked)
