-- Each step keeps the rule of a line.
use Rattle.std.proofs.Common.{◌≡◌, ◌≢◌, ℕ, ◌<◌, zero, suc, true, List, [], ◌∷◌, ◌++◌, length, slice_set, refl, ap, sym}
use Rattle.std.proofs.Common.{◌∙◌, subst, true≢false, arith, length-append}
use Rattle.std.proofs.lemmas.List.{append_assoc}
use mathlib.Core.Option.{some, some-ne-none, some-injective}
use lib.ListN.{get_elem?}
use Rattle.crossbeam_channel.specs.Fifo.{Pushes, Pops, Forks, Merges, Learns}
use Rattle.nio_line.specs.Hands.{sends, receives, new_hand, AreEnds, Carries, IsOrdered, Receives, Knows, joined}
use Rattle.nio_line.specs.declared.hand.Hand.{Hand}
use Rattle.nio_line.specs.declared.hand.Part.{Part}
use Rattle.nio_line.specs.declared.hand.Part.TheVariants as part

-- the whole, before it is parted, neither sends nor receives
whole_is_silent : (p : Part) → p ≡ part.Whole → sends p ≡ true → ⊥
whole_is_silent part.Whole is e = true≢false (sym e)
whole_is_silent part.Sends is e = absurd (cc)
whole_is_silent part.Receives is e = true≢false (sym e)
whole_is_silent part.Both is e = true≢false (sym e)
whole_is_silent part.Spent is e = true≢false (sym e)

whole_is_deaf : (p : Part) → p ≡ part.Whole → receives p ≡ true → ⊥
whole_is_deaf part.Whole is e = true≢false (sym e)
whole_is_deaf part.Sends is e = true≢false (sym e)
whole_is_deaf part.Receives is e = absurd (cc)
whole_is_deaf part.Both is e = absurd (cc)
whole_is_deaf part.Spent is e = true≢false (sym e)

module _ {T : Type 0} where
  -- ---- which parts the two passes have

  second_is_silent : (p q : Part) (x y : Hand T) (items : List T) → AreEnds p q x y items → sends q ≡ true → ⊥
  second_is_silent part.Whole q x y items ends e = ends
  second_is_silent part.Sends part.Whole x y items ends e = ends
  second_is_silent part.Sends part.Sends x y items ends e = ends
  second_is_silent part.Sends part.Receives x y items ends e = true≢false (sym e)
  second_is_silent part.Sends part.Both x y items ends e = ends
  second_is_silent part.Sends part.Spent x y items ends e = ends
  second_is_silent part.Receives q x y items ends e = ends
  second_is_silent part.Both q x y items ends e = ends
  second_is_silent part.Spent part.Whole x y items ends e = ends
  second_is_silent part.Spent part.Sends x y items ends e = ends
  second_is_silent part.Spent part.Receives x y items ends e = ends
  second_is_silent part.Spent part.Both x y items ends e = true≢false (sym e)
  second_is_silent part.Spent part.Spent x y items ends e = ends

  first_is_deaf : (p q : Part) (x y : Hand T) (items : List T) → AreEnds p q x y items → receives p ≡ true → ⊥
  first_is_deaf part.Whole q x y items ends e = ends
  first_is_deaf part.Sends q x y items ends e = true≢false (sym e)
  first_is_deaf part.Receives q x y items ends e = ends
  first_is_deaf part.Both q x y items ends e = ends
  first_is_deaf part.Spent q x y items ends e = true≢false (sym e)

  -- ---- sending

  sent_more : (x y : Hand T) (items : List T) (message : T) → Carries x.room x.sent y.received items
      → length items < x.room → Carries x.room (x.sent ++ message ∷ []) y.received (items ++ message ∷ [])
  sent_more x y items message carries free = record {
    order = ap (λ (l : List T). l ++ message ∷ []) carries.order ∙ append_assoc y.received items (message ∷ []);
    fits = omega (arith, length-append items (message ∷ []), free);
  }

  more_sent : (p q : Part) (x y : Hand T) (items : List T) (message : T) → AreEnds p q x y items → sends p ≡ true
      → length items < x.room → AreEnds p q (record x { sent = x.sent ++ message ∷ [] }) y (items ++ message ∷ [])
  more_sent part.Whole q x y items message ends e free = ends
  more_sent part.Sends part.Whole x y items message ends e free = ends
  more_sent part.Sends part.Sends x y items message ends e free = ends
  more_sent part.Sends part.Receives x y items message ends e free =
      (sent_more x y items message ends.0 free, ends.1)
  more_sent part.Sends part.Both x y items message ends e free = ends
  more_sent part.Sends part.Spent x y items message ends e free = ends
  more_sent part.Receives q x y items message ends e free = ends
  more_sent part.Both q x y items message ends e free = ends
  more_sent part.Spent q x y items message ends e free = absurd (true≢false (sym e))

  module _ (n pass : ℕ) (v : Hand T) (message : T) (able : sends v.part ≡ true) (roomy : v.room ≡ n) where
    pub pushes : Pushes IsOrdered n pass v message (λ w. w ≡ record v { sent = v.sent ++ message ∷ [] })
    pushes items views free kept at = by_views views pass kept at
      where
        by_views : (views : List (Hand T)) (pass : ℕ) → IsOrdered items views → get_elem? views pass ≡ some v
            → (w : Hand T) × IsOrdered (items ++ message ∷ []) (slice_set views pass w)
            × (w ≡ record v { sent = v.sent ++ message ∷ [] })
        by_views [] pass kept at = absurd kept
        by_views (x ∷ []) zero kept at =
            absurd (whole_is_silent v.part (ap (λ (u : Hand T). u.part) (sym (some-injective x v at)) ∙ kept.0) able)
        by_views (x ∷ []) (suc pass) kept at = absurd (some-ne-none v (sym at))
        by_views (x ∷ y ∷ []) zero kept at = (
          record v { sent = v.sent ++ message ∷ [] },
          more_sent v.part y.part v y items message
              (subst (λ (u : Hand T). AreEnds u.part y.part u y items) (some-injective x v at) kept) able
              (omega (arith, free, roomy)),
          refl,
        )
        by_views (x ∷ y ∷ []) (suc zero) kept at =
            absurd (second_is_silent x.part y.part x y items kept
            (ap (λ (u : Hand T). sends u.part) (some-injective y v at) ∙ able))
        by_views (x ∷ y ∷ []) (suc (suc pass)) kept at = absurd (some-ne-none v (sym at))
        by_views (x ∷ y ∷ z ∷ later) pass kept at = absurd kept

  -- ---- receiving

  got_more : (room : ℕ) (sent received items : List T) (message : T) → Carries room sent received (message ∷ items)
      → Carries room sent (received ++ message ∷ []) items
  got_more room sent received items message carries = record {
    order = carries.order ∙ sym (append_assoc received (message ∷ []) items);
    fits = omega (arith, carries.fits);
  }

  more_received : (p q : Part) (x y : Hand T) (items : List T) (message : T) → AreEnds p q x y (message ∷ items)
      → receives q ≡ true → AreEnds p q x (record y { received = y.received ++ message ∷ [] }) items
  more_received part.Whole q x y items message ends e = ends
  more_received part.Sends part.Whole x y items message ends e = ends
  more_received part.Sends part.Sends x y items message ends e = ends
  more_received part.Sends part.Receives x y items message ends e =
      (got_more x.room x.sent y.received items message ends.0, ends.1)
  more_received part.Sends part.Both x y items message ends e = ends
  more_received part.Sends part.Spent x y items message ends e = ends
  more_received part.Receives q x y items message ends e = ends
  more_received part.Both q x y items message ends e = ends
  more_received part.Spent part.Whole x y items message ends e = ends
  more_received part.Spent part.Sends x y items message ends e = ends
  more_received part.Spent part.Receives x y items message ends e = ends
  more_received part.Spent part.Both x y items message ends e =
      got_more y.room y.sent y.received items message ends
  more_received part.Spent part.Spent x y items message ends e = ends

  -- ---- what both know

  both_know : (p q : Part) (x y : Hand T) (items : List T) → AreEnds p q x y items → q ≡ part.Both
      → Carries y.room y.sent y.received items
  both_know part.Whole q x y items ends e = absurd ends
  both_know part.Sends part.Whole x y items ends e = absurd ends
  both_know part.Sends part.Sends x y items ends e = absurd ends
  both_know part.Sends part.Receives x y items ends e = absurd (cc)
  both_know part.Sends part.Both x y items ends e = absurd ends
  both_know part.Sends part.Spent x y items ends e = absurd ends
  both_know part.Receives q x y items ends e = absurd ends
  both_know part.Both q x y items ends e = absurd ends
  both_know part.Spent part.Whole x y items ends e = absurd ends
  both_know part.Spent part.Sends x y items ends e = absurd ends
  both_know part.Spent part.Receives x y items ends e = absurd ends
  both_know part.Spent part.Both x y items ends e = ends
  both_know part.Spent part.Spent x y items ends e = absurd ends

  module _ (pass : ℕ) (v : Hand T) (able : receives v.part ≡ true) where
    pub learns : Learns IsOrdered pass v (Knows v)
    learns items views kept at both = by_views views pass kept at
      where
        by_views : (views : List (Hand T)) (pass : ℕ) → IsOrdered items views → get_elem? views pass ≡ some v
            → Carries v.room v.sent v.received items
        by_views [] pass kept at = absurd kept
        by_views (x ∷ []) zero kept at =
            absurd (whole_is_deaf v.part (ap (λ (u : Hand T). u.part) (sym (some-injective x v at)) ∙ kept.0) able)
        by_views (x ∷ []) (suc pass) kept at = absurd (some-ne-none v (sym at))
        by_views (x ∷ y ∷ []) zero kept at =
            absurd (first_is_deaf x.part y.part x y items kept
            (ap (λ (u : Hand T). receives u.part) (some-injective x v at) ∙ able))
        by_views (x ∷ y ∷ []) (suc zero) kept at =
            both_know x.part v.part x v items
            (subst (λ (u : Hand T). AreEnds x.part u.part x u items) (some-injective y v at) kept) both
        by_views (x ∷ y ∷ []) (suc (suc pass)) kept at = absurd (some-ne-none v (sym at))
        by_views (x ∷ y ∷ z ∷ later) pass kept at = absurd kept

    pub pops : Pops IsOrdered pass v (Receives v)
    pops message items views kept at = by_views views pass kept at
      where
        then : (p : Part) (x : Hand T) → AreEnds p v.part x v (message ∷ items)
            → Receives v message (record v { received = v.received ++ message ∷ [] })
        then p x ends = record {
          after = refl;
          next = λ both.
              let carries = both_know p v.part x v (message ∷ items) ends both in
              (items, append_assoc v.received (message ∷ []) items ∙ sym carries.order);
        }

        by_views : (views : List (Hand T)) (pass : ℕ) → IsOrdered (message ∷ items) views
            → get_elem? views pass ≡ some v → (w : Hand T) × IsOrdered items (slice_set views pass w)
            × Receives v message w
        by_views [] pass kept at = absurd kept
        by_views (x ∷ []) zero kept at =
            absurd (whole_is_deaf v.part (ap (λ (u : Hand T). u.part) (sym (some-injective x v at)) ∙ kept.0) able)
        by_views (x ∷ []) (suc pass) kept at = absurd (some-ne-none v (sym at))
        by_views (x ∷ y ∷ []) zero kept at =
            absurd (first_is_deaf x.part y.part x y (message ∷ items) kept
            (ap (λ (u : Hand T). receives u.part) (some-injective x v at) ∙ able))
        by_views (x ∷ y ∷ []) (suc zero) kept at =
            let ends : AreEnds x.part v.part x v (message ∷ items) =
            subst (λ (u : Hand T). AreEnds x.part u.part x u (message ∷ items)) (some-injective y v at) kept in (
              record v { received = v.received ++ message ∷ [] },
              more_received x.part v.part x v items message ends able,
              then x.part x ends,
            )
        by_views (x ∷ y ∷ []) (suc (suc pass)) kept at = absurd (some-ne-none v (sym at))
        by_views (x ∷ y ∷ z ∷ later) pass kept at = absurd kept

  -- ---- parting and joining

  two_have_no_whole : (p q : Part) (x y : Hand T) (items : List T) → AreEnds p q x y items
      → (p ≢ part.Whole) × (q ≢ part.Whole)
  two_have_no_whole part.Whole q x y items ends = absurd ends
  two_have_no_whole part.Sends part.Whole x y items ends = absurd ends
  two_have_no_whole part.Sends part.Sends x y items ends = absurd ends
  two_have_no_whole part.Sends part.Receives x y items ends = ((λ e. absurd (cc)), (λ e. absurd (cc)))
  two_have_no_whole part.Sends part.Both x y items ends = absurd ends
  two_have_no_whole part.Sends part.Spent x y items ends = absurd ends
  two_have_no_whole part.Receives q x y items ends = absurd ends
  two_have_no_whole part.Both q x y items ends = absurd ends
  two_have_no_whole part.Spent part.Whole x y items ends = absurd ends
  two_have_no_whole part.Spent part.Sends x y items ends = absurd ends
  two_have_no_whole part.Spent part.Receives x y items ends = absurd ends
  two_have_no_whole part.Spent part.Both x y items ends = ((λ e. absurd (cc)), (λ e. absurd (cc)))
  two_have_no_whole part.Spent part.Spent x y items ends = absurd ends

  module _ (pass : ℕ) (v : Hand T) (whole : v.part ≡ part.Whole) (room : ℕ) where
    pub parts : Forks IsOrdered pass v (new_hand part.Sends room) (new_hand part.Receives room)
    parts items views kept at = by_views views pass kept at
      where
        empty : (items : List T) → items ≡ [] → Carries room [] [] items
        empty items e = record { order = sym e; fits = omega (arith, ap length e) }

        by_views : (views : List (Hand T)) (pass : ℕ) → IsOrdered items views → get_elem? views pass ≡ some v
            → IsOrdered items (slice_set views pass (new_hand part.Sends room) ++ new_hand part.Receives room ∷ [])
        by_views [] pass kept at = absurd kept
        by_views (x ∷ []) zero kept at = (empty items kept.1, refl)
        by_views (x ∷ []) (suc pass) kept at = absurd (some-ne-none v (sym at))
        by_views (x ∷ y ∷ []) zero kept at =
            absurd ((two_have_no_whole x.part y.part x y items kept).0
            (ap (λ (u : Hand T). u.part) (some-injective x v at) ∙ whole))
        by_views (x ∷ y ∷ []) (suc zero) kept at =
            absurd ((two_have_no_whole x.part y.part x y items kept).1
            (ap (λ (u : Hand T). u.part) (some-injective y v at) ∙ whole))
        by_views (x ∷ y ∷ []) (suc (suc pass)) kept at = absurd (some-ne-none v (sym at))
        by_views (x ∷ y ∷ z ∷ later) pass kept at = absurd kept

  are_joined : (p q : Part) (x y : Hand T) (items : List T) → AreEnds p q x y items → sends p ≡ true
      → Carries y.room x.sent y.received items
  are_joined part.Whole q x y items ends e = absurd ends
  are_joined part.Sends part.Whole x y items ends e = absurd ends
  are_joined part.Sends part.Sends x y items ends e = absurd ends
  are_joined part.Sends part.Receives x y items ends e = record {
    order = ends.0.order;
    fits = omega (arith, ends.0.fits, ends.1);
  }
  are_joined part.Sends part.Both x y items ends e = absurd ends
  are_joined part.Sends part.Spent x y items ends e = absurd ends
  are_joined part.Receives q x y items ends e = absurd ends
  are_joined part.Both q x y items ends e = absurd ends
  are_joined part.Spent q x y items ends e = absurd (true≢false (sym e))

  module _ (pass : ℕ) (v : Hand T) (other : ℕ) (w : Hand T) (hears : receives v.part ≡ true)
      (able : sends w.part ≡ true) where
    pub merges : Merges IsOrdered pass v other w (joined v w) (new_hand part.Spent 0)
    merges items views kept at differ there = by_views views pass other kept at differ there
      where
        by_views : (views : List (Hand T)) (pass other : ℕ) → IsOrdered items views → get_elem? views pass ≡ some v
            → (other ≡ pass → ⊥) → get_elem? (slice_set views pass (joined v w)) other ≡ some w
            → IsOrdered items (slice_set (slice_set views pass (joined v w)) other (new_hand part.Spent 0))
        by_views [] pass other kept at differ there = absurd kept
        by_views (x ∷ []) zero other kept at differ there =
            absurd (whole_is_deaf v.part (ap (λ (u : Hand T). u.part) (sym (some-injective x v at)) ∙ kept.0) hears)
        by_views (x ∷ []) (suc pass) other kept at differ there = absurd (some-ne-none v (sym at))
        by_views (x ∷ y ∷ []) zero other kept at differ there =
            absurd (first_is_deaf x.part y.part x y items kept
            (ap (λ (u : Hand T). receives u.part) (some-injective x v at) ∙ hears))
        by_views (x ∷ y ∷ []) (suc zero) zero kept at differ there =
            are_joined w.part v.part w v items
            (subst (λ (u : Hand T). AreEnds w.part u.part w u items) (some-injective y v at)
            (subst (λ (u : Hand T). AreEnds u.part y.part u y items) (some-injective x w there) kept)) able
        by_views (x ∷ y ∷ []) (suc zero) (suc zero) kept at differ there = absurd (differ refl)
        by_views (x ∷ y ∷ []) (suc zero) (suc (suc other)) kept at differ there = absurd (some-ne-none w (sym there))
        by_views (x ∷ y ∷ []) (suc (suc pass)) other kept at differ there = absurd (some-ne-none v (sym at))
        by_views (x ∷ y ∷ z ∷ later) pass other kept at differ there = absurd kept
