-- What lines find in a pipe: lemmas of lines one after the other, and of lines that leave what is known.
use Rattle.std.proofs.Common.{◌≡◌, ◌≢◌, ℕ, ◌≤◌, List, [], ◌∷◌, ◌++◌, length, drop}
use Rattle.std.proofs.Common.{refl, sym, subst, arith, ⊎_elim}
use mathlib.Core.List.{IsPrefix}
use Rattle.nio_base.specs.declared.numbers.ChanId.{ChanId}
use Rattle.nio_language.specs.WordRows.{PipeUse, neither}
use Rattle.nio_language.specs.declared.call.Call.TheVariants as call
use Rattle.nio_language.specs.declared.reply.Reply.{Reply}
use Rattle.nio_race_text.specs.declared.call.RaceCall.{RaceCall}
use Rattle.nio_race_text.specs.declared.call.RaceCall.TheVariants.{Script, Block}
use Rattle.nio_race.specs.PipeFinds.{Awaited, LineFinds, LineTakes, LinesFind, LinesTake, ReadFinds, UseFinds, UseTakes}
use Rattle.nio_race.specs.PipeFinds.{WriteFinds}
use Rattle.nio_race.specs.Piping.{use_of}
use Rattle.nio_sole.proofs.ChannelNames.{same_or_other}

-- ---- beginnings

pub prefix_drop : (xs ys zs : List ℕ) → IsPrefix xs (ys ++ zs) → IsPrefix (drop (length ys) xs) zs
prefix_drop xs [] zs begins = begins
prefix_drop [] (y ∷ ys) zs begins = (zs, refl)
prefix_drop (x ∷ xs) (y ∷ ys) zs begins = prefix_drop xs ys zs (begins.0, cc (begins.1))

pub prefix_none : (xs : List ℕ) → IsPrefix xs [] → xs ≡ []
prefix_none [] begins = refl
prefix_none (x ∷ xs) begins = absurd (cc (begins.1))

-- ---- lines and later ones

pub find_append : (c : ChanId) (xs ys : List (RaceCall × Reply)) (first between last : Awaited)
    → LinesFind c xs first between → LinesFind c ys between last → LinesFind c (xs ++ ys) first last
find_append c [] ys first between last front later = subst (λ (a : Awaited). LinesFind c ys a last) front later
find_append c (x ∷ xs) ys first between last front later =
    (front.0, (front.1.0, find_append c xs ys front.0 between last front.1.1 later))

pub take_append : (c : ChanId) (xs ys : List (RaceCall × Reply)) (first between last : ℕ)
    → LinesTake c xs first between → LinesTake c ys between last → LinesTake c (xs ++ ys) first last
take_append c [] ys first between last front later = subst (λ (n : ℕ). LinesTake c ys n last) front later
take_append c (x ∷ xs) ys first between last front later =
    (front.0, (front.1.0, take_append c xs ys front.0 between last front.1.1 later))

-- ---- one line

pub one_finds : (c : ChanId) (line : RaceCall) (r : Reply) (before after : Awaited) → LineFinds c line r before after
    → LinesFind c ((line, r) ∷ []) before after
one_finds c line r before after finds = (after, (finds, refl))

pub one_takes : (c : ChanId) (line : RaceCall) (r : Reply) (before after : ℕ) → LineTakes c line r before after
    → LinesTake c ((line, r) ∷ []) before after
one_takes c line r before after takes = (after, (takes, refl))

-- what a line does on the bytes of pipes
abbrev pub use_in : RaceCall → PipeUse
use_in (Script word) = use_of word
use_in (Block s) = neither

pub finds_none : (c : ChanId) (line : RaceCall) (r : Reply) (x : Awaited) → use_in line ≡ neither
    → LineFinds c line r x x
finds_none c (Script word) r x is = subst (λ (u : PipeUse). UseFinds c u r x x) (sym is) refl
finds_none c (Block s) r x is = refl

pub takes_none : (c : ChanId) (line : RaceCall) (r : Reply) (room : ℕ) → use_in line ≡ neither
    → LineTakes c line r room room
takes_none c (Script word) r room is = subst (λ (u : PipeUse). UseTakes c u r room room) (sym is) refl
takes_none c (Block s) r room is = refl

-- ---- a read

module _ (c : ChanId) (n : ℕ) (r : Reply) where
  pub read_finds_here : (x : ChanId) (before after : Awaited) → c ≡ x → ReadFinds n before r after
      → LineFinds x (Script (call.Pread c n)) r before after
  read_finds_here x before after same finds =
      (λ _. finds, λ other. absurd (other same))

  pub read_finds_elsewhere : (x : ChanId) (before : Awaited) → (x ≡ c → ⊥)
      → LineFinds x (Script (call.Pread c n)) r before before
  read_finds_elsewhere x before other = (λ same. absurd (other (sym same)), λ _. refl)

-- ---- lines that leave no more room than they found

abbrev pub KeepsRoom : ChanId → RaceCall → Reply → Type 0
KeepsRoom c line r = (room : ℕ) → (left : ℕ) × (LineTakes c line r room left × (left ≤ room))

module _ (c : ChanId) (bytes : List ℕ) (r : Reply) where
  pub write_takes_here : (x : ChanId) (before after : ℕ) → c ≡ x → WriteFinds bytes before r after
      → LineTakes x (Script (call.Pwrite c bytes)) r before after
  write_takes_here x before after same finds =
      (λ _. finds, λ other. absurd (other same))

  pub write_takes_elsewhere : (x : ChanId) → (x ≡ c → ⊥) → KeepsRoom x (Script (call.Pwrite c bytes)) r
  write_takes_elsewhere x other = λ room. (room, ((λ same. absurd (other (sym same)), λ _. refl), omega arith))

  -- where the reply leaves what is known of the room
  pub write_keeps_room : (x : ChanId) → ((room : ℕ) → WriteFinds bytes room r room)
      → KeepsRoom x (Script (call.Pwrite c bytes)) r
  write_keeps_room x leaves = λ room. (room, ((λ _. leaves room, λ _. refl), omega arith))

module _ (c : ChanId) (r : Reply) where
  pub close_takes_here : (x : ChanId) (room : ℕ) → c ≡ x → LineTakes x (Script (call.Closec c)) r room 0
  close_takes_here x room same = (λ _. refl, λ other. absurd (other same))

  pub close_keeps_room : (x : ChanId) → KeepsRoom x (Script (call.Closec c)) r
  close_keeps_room x =
      λ room. ⊎_elim
      (λ (same : c ≡ x). by_left room 0 ((λ _. refl), (λ other. absurd (other same))) (omega arith))
      (λ (other : c ≢ x).
      by_left room room ((λ same. absurd (other same)), (λ _. refl)) (omega arith))
      (same_or_other c x)
    where
      by_left : (room left : ℕ) → LineTakes x (Script (call.Closec c)) r room left → left ≤ room
          → (left : ℕ) × (LineTakes x (Script (call.Closec c)) r room left × (left ≤ room))
      by_left room left takes few = (left, (takes, few))
