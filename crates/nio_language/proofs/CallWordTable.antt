-- The table of call words has each word, under its own text alone.
use Rattle.std.proofs.Common.{◌≡◌, ℕ, List, [], ◌∷◌, Bool, true, false, cond, Option, Some, None, IfSome, refl, sym}
use Rattle.std.proofs.Common.{subst, ◌∙◌, find}
use Rattle.std.specs.Prelude.{⊤}
use Rattle.std.specs.List.{list_all}
use Rattle.std.specs.Str.{bytes_eq}
use Rattle.std.proofs.lemmas.Bool.{and_parts}
use Rattle.std.proofs.lemmas.Option.{none-some, same_Some}
use Rattle.std.proofs.lemmas.Slice.Eq.{bytes_eq-Decides}
use Rattle.nio_language.specs.CallWords.{call_word_text}
use Rattle.nio_language.specs.Reading.{Reads}
use Rattle.nio_language.specs.declared.call_word.CallWord.{CallWord}
use Rattle.nio_language.specs.declared.call_word.CallWord.TheVariants as word
use Rattle.nio_language.specs.declared.call_word.CallerWord.TheVariants as on_caller
use Rattle.nio_language.specs.declared.call_word.ChannelWord.TheVariants as on_channel
use Rattle.nio_language.specs.declared.call_word.KeyOpsWord.TheVariants as on_key_ops
use Rattle.nio_language.specs.declared.call_word.KeyWord.TheVariants as on_key
use Rattle.nio_language.specs.declared.call_word.LoneWord.TheVariants as alone
use Rattle.nio_language.specs.declared.call_word.SelectorWord.TheVariants as on_selector
use Rattle.nio_language.specs.declared.call_word.TheConstants.{CALL_WORDS}
use Rattle.nio_language.specs.declared.group_word.GroupWord.TheVariants as group

pub in_table : (w : CallWord) → find (λ v. bytes_eq (call_word_text v) (call_word_text w)) CALL_WORDS ≡ Some w
in_table (word.Alone alone.Selector) = refl
in_table (word.Alone _) = refl
in_table (word.OnSelector on_selector.Failed) = refl
in_table (word.OnSelector _) = refl
in_table (word.OnChannel on_channel.IsBlocking) = refl
in_table (word.OnChannel _) = refl
in_table (word.OnKey on_key.Valid) = refl
in_table (word.OnKey _) = refl
in_table (word.OnKeyOps on_key_ops.Iset) = refl
in_table (word.OnKeyOps _) = refl
in_table (word.OnCaller on_caller.Interrupt) = refl
in_table (word.OnCaller _) = refl
in_table (word.OnGroup group.Gopen) = refl
in_table (word.OnGroup _) = refl
in_table _ = refl

-- what is found is the first element or behind it
found_at : {X : Type 0} (q : X → Bool) (y x : X) (rest : Option X) (b : Bool) → (b ≡ true → q y ≡ true)
    → (rest ≡ Some x → q x ≡ true) → cond b (Some y) rest ≡ Some x → q x ≡ true
found_at q y x rest true here later e = subst (λ z. q z ≡ true) (same_Some y x e) (here refl)
found_at q y x rest false here later e = later e

found_passes : {X : Type 0} (p : X → Bool) (xs : List X) (x : X) → find p xs ≡ Some x → p x ≡ true
found_passes p [] x e = absurd (none-some x e)
found_passes p (y ∷ ys) x e = found_at p y x (find p ys) (p y) (λ is. is) (found_passes p ys x) e

-- what holds of each word of the table holds of one that is found
pub found_has : {X : Type 0} (q p : X → Bool) (xs : List X) (x : X) → list_all q xs ≡ true → find p xs ≡ Some x
    → q x ≡ true
found_has q p [] x all e = absurd (none-some x e)
found_has q p (y ∷ ys) x all e =
    let parts = and_parts (q y) (list_all q ys) all in
    found_at q y x (find p ys) (p y) (λ _. parts.0) (found_has q p ys x parts.1) e

found_text : (text : List ℕ) (r : Option CallWord)
    → find (λ w. bytes_eq (call_word_text w) text) CALL_WORDS ≡ r
    → IfSome r (λ w. ⊤ × (text ≡ call_word_text w))
found_text text None e = tt
found_text text (Some w) e = (
  tt,
  sym ((bytes_eq-Decides (call_word_text w) text).0
      (found_passes (λ v. bytes_eq (call_word_text v) text) CALL_WORDS w e)),
)

pub reads_call_word : (text : List ℕ) (r : Option CallWord)
    → r ≡ find (λ w. bytes_eq (call_word_text w) text) CALL_WORDS
    → Reads (λ _. ⊤) call_word_text text r
reads_call_word text r e = record {
  found = found_text text r (sym e);
  only = λ w _ is. e ∙ rw is (in_table w);
}
