-- Keys that are removed one after the other: the state after so many of them, in closed form.
use Rattle.std.proofs.Common.{◌≡◌, ℕ, ◌==◌, nat_lt, Bool, true, false, cond, not, ◌&&◌, ◌||◌, None, refl, ap, sym, ◌∙◌}
use Rattle.std.proofs.Common.{subst, eqb-true}
use Rattle.std.proofs.lemmas.Bool.{and_parts}
use Rattle.nio_base.specs.declared.numbers.CallerNo.{CallerNo}
use Rattle.nio_base.specs.declared.numbers.SelNo.{SelNo}
use Rattle.nio_base.specs.Numbers.{last_serial}
use Rattle.nio_history.specs.State.{State, put_at, with_key, with_put_due}
use Rattle.nio_history.specs.declared.found.Mark.{Mark}
use Rattle.nio_history.specs.declared.found.Stage.{Stage}
use Rattle.nio_plain.proofs.Places.{put_at_same}
use Rattle.nio_plain.specs.Seq.Removing.{removed_key, unselected, without_keys_where}
use Rattle.nio_steps.specs.Perform.{perform}
use Rattle.nio_steps.specs.Plan.{when}
use Rattle.nio_steps.specs.Looking.{remove_cancelled}
use Rattle.nio_steps.specs.Steps.{put_free}
use Rattle.nio_serial.proofs.Base.{put_at-back}
use Rattle.nio_serial.specs.Between.{AreTouched}
use Rattle.nio_serial.specs.Documented.{settled, settled_mark, settled_state}

-- what is put at a pair of numbers, where both the new value and the others are those of a function
pub put_at-is : {A : Type 0} (f g : ℕ → ℕ → A) (s i : ℕ) (y : A) → y ≡ g s i
    → ((t j : ℕ) → ((t == s) && (j == i)) ≡ false → f t j ≡ g t j)
    → (t j : ℕ) → put_at f s i y t j ≡ g t j
put_at-is {A = A} f g s i y new old t j = by_place ((t == s) && (j == i)) refl
  where
    by_place : (b : Bool) → ((t == s) && (j == i)) ≡ b → cond b y (f t j) ≡ g t j
    by_place true here =
        let both = and_parts (t == s) (j == i) here in
        let first : t ≡ s = eqb-true t s both.0 in
        let second : j ≡ i = eqb-true j i both.1 in
        subst (λ (m : ℕ). y ≡ g m j) (sym first) (subst (λ (m : ℕ). y ≡ g s m) (sym second) new)
    by_place false other = old t j other

-- a removed key, whether it was cancelled or not
abbrev pub gone : Stage → Stage
gone k = record k { removed = true }

-- the keys that go are removed, and their indexes are free where they free
abbrev pub removed_where : State → (ℕ → ℕ → Bool) → (Stage → Bool) → State
removed_where st goes frees = record st {
  key = λ t i. cond (goes t i) (gone (st.key t i)) (st.key t i);
  free = λ t i. (goes t i && frees (st.key t i)) || st.free t i;
}

-- then each cancelled key that isn't removed is at a touched index, as before
pub removed-touched : (st : State) (goes : ℕ → ℕ → Bool) (frees : Stage → Bool) (t : ℕ) → AreTouched st t
    → AreTouched (removed_where st goes frees) t
removed-touched st goes frees t was = λ i. by_goes i (goes t i)
  where
    by_goes : (i : ℕ) (b : Bool) → (cond b (gone (st.key t i)) (st.key t i)).cancelled ≡ true
        → (cond b (gone (st.key t i)) (st.key t i)).removed ≡ false → st.touched t i ≡ true
    by_goes i true cancelled there = absurd (cc there)
    by_goes i false cancelled there = was i cancelled there

module _ (st : State) (frees : Stage → Bool) where
  pub removed_none : (goes : ℕ → ℕ → Bool) → ((t i : ℕ) → goes t i ≡ false) → st ≡ removed_where st goes frees
  removed_none goes none = λ j. record st {
    key = λ t i. cond (sym (none t i) j) (gone (st.key t i)) (st.key t i);
    free = λ t i. (sym (none t i) j && frees (st.key t i)) || st.free t i;
  }

  pub removed_same : (goes goes' : ℕ → ℕ → Bool) → ((t i : ℕ) → goes t i ≡ goes' t i)
      → removed_where st goes frees ≡ removed_where st goes' frees
  removed_same goes goes' same = λ j. record st {
    key = λ t i. cond (same t i j) (gone (st.key t i)) (st.key t i);
    free = λ t i. (same t i j && frees (st.key t i)) || st.free t i;
  }

  -- one key more
  module _ (goes goes' : ℕ → ℕ → Bool) (s i : ℕ) (here : goes' s i ≡ true)
      (others : (t j : ℕ) → ((t == s) && (j == i)) ≡ false → goes' t j ≡ goes t j) where
    again : (b : Bool) (k : Stage) → gone (cond b (gone k) k) ≡ gone k
    again true k = refl
    again false k = refl

    more_free : (b : Bool) (f r : Bool) → (f || ((b && f) || r)) ≡ (f || r)
    more_free b true r = refl
    more_free true false r = refl
    more_free false false r = refl

    -- its index is free where it frees
    pub removed_more : let now = removed_where st goes frees in
        record now {
          key = put_at now.key s i (gone (now.key s i));
          free =
              put_at now.free s i (frees (st.key s i) || now.free s i);
        } ≡ removed_where st goes' frees
    removed_more =
        let now = removed_where st goes frees in
        λ j. record st {
          key = λ t n. put_at-is now.key (removed_where st goes' frees).key s i (gone (now.key s i))
              (again (goes s i) (st.key s i) ∙ ap (λ b. cond b (gone (st.key s i)) (st.key s i)) (sym here))
              (λ t' n' other. ap (λ b. cond b (gone (st.key t' n')) (st.key t' n')) (sym (others t' n' other))) t n j;
          free = λ t n. put_at-is now.free (removed_where st goes' frees).free s i (frees (st.key s i) || now.free s i)
              (more_free (goes s i) (frees (st.key s i)) (st.free s i)
              ∙ ap (λ b. (b && frees (st.key s i)) || st.free s i) (sym here))
              (λ t' n' other. ap (λ b. (b && frees (st.key t' n')) || st.free t' n') (sym (others t' n' other))) t n j;
        }

-- as a script sees it
settled_gone : (b : Bool) (k : Stage) → settled (cond b (gone k) k) ≡ cond b (removed_key (settled k)) (settled k)
settled_gone true k = refl
settled_gone false k = refl

settled_gone_mark : (b : Bool) (k : Stage) (m : Mark)
    → settled_mark (cond b (gone k) k) m ≡ cond b (unselected (settled_mark k m)) (settled_mark k m)
settled_gone_mark true k m = refl
settled_gone_mark false k m = refl

pub settled-removed : (st : State) (frees : Stage → Bool) (s : ℕ) (test : ℕ → Bool)
    → ((k : Stage) → frees (settled k) ≡ frees k)
    → settled_state (removed_where st (λ t i. (t == s) && test i) frees) ≡ without_keys_where
    (settled_state st) s test frees
settled-removed st frees s test alike = λ j. record (settled_state st) {
  key = λ t i. settled_gone ((t == s) && test i) (st.key t i) j;
  mark = λ t i. settled_gone_mark ((t == s) && test i) (st.key t i) (st.mark t i) j;
  free = λ t i. (((t == s) && test i) && sym (alike (st.key t i)) j) || st.free t i;
}

-- ---- the steps

-- a key that is removed, and its index put where there is a next serial
pub removal-performed : (st : State) (me : CallerNo) (s : SelNo) (i : ℕ) → st.put_due s.0 i ≡ false
    → st.taker s.0 i ≡ None
    → let k = st.key s.0 i in
    perform me (remove_cancelled s i k) st
    ≡ record {
      answer = tt;
      state =
          record st {
            key = put_at st.key s.0 i (gone k);
            free =
                put_at st.free s.0 i (nat_lt k.serial last_serial || st.free s.0 i);
          };
    }
removal-performed st me s i none_due untaken = by_serial (nat_lt k.serial last_serial) refl
  where
    k : Stage
    k = st.key s.0 i

    due : Bool → Bool
    due b = st.put_due s.0 i || (st.begun s.0 && (not k.removed && b))

    removed : Bool → State
    removed b = with_put_due (with_key st s.0 i (gone k)) s.0 i (due b)

    not_due : (begun r : Bool) → (begun && (r && false)) ≡ false
    not_due true true = refl
    not_due true false = refl
    not_due false r = refl

    by_serial : (b : Bool) → nat_lt k.serial last_serial ≡ b
        → perform me (when b (put_free s i)) (removed (nat_lt k.serial last_serial))
        ≡ record {
          answer = tt;
          state =
              record st { key = put_at st.key s.0 i (gone k); free = put_at st.free s.0 i (b || st.free s.0 i) };
        }
    by_serial true e = λ j. record {
      answer = tt;
      state = record (with_key st s.0 i (gone k)) {
        free = put_at st.free s.0 i true;
        taker = put_at_same st.taker s.0 i None untaken j;
        put_due = put_at-back st.put_due s.0 i (due (nat_lt k.serial last_serial)) false none_due j;
      };
    }
    by_serial false e = λ j. record {
      answer = tt;
      state = record (with_key st s.0 i (gone k)) {
        free = sym (put_at_same st.free s.0 i (st.free s.0 i) refl) j;
        put_due = put_at_same st.put_due s.0 i (due (nat_lt k.serial last_serial))
            (none_due ∙ sym (ap due e ∙ (λ n. none_due n || not_due (st.begun s.0) (not k.removed) n))) j;
      };
    }
