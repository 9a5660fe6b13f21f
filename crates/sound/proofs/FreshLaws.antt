-- The fresh analyzer: its answer by the first question that failed, and that it holds nothing and is sound with the stores that were lent.
-- Assumes nothing.
use Prim.Native.Nat.{ℕ, zero, suc}
use native.Mathlib.Omega.{arith}
use mathlib.Core.Path.{◌≡◌, refl, ap, sym, ◌∙◌, subst}
use mathlib.Core.Bool.{Bool, true, false, ◌&&◌, cond}
use lib.Dec.{T, leb, eqb, leb-zero}
use borrow.Author.Tests.{le-leb, eqb-false}
use Rattle.bars.specs.Lists.{every, last}
use Rattle.strokes.specs.declared.Rooms.{Rooms}
use Rattle.strokes.specs.declared.Stand.{Stand}
use Rattle.machine.specs.FeedQuestions.{or_else}
use Rattle.machine.specs.Stand.{Settings, fresh}
use Rattle.machine.specs.Soundness.{is_setting, is_places, settings_pass, rooms_pass, settings_sound, counts_fit, bars_of, few_strokes, raw_pass, merged_pass, rises, bar_times, merged_times, times_rise, strokes_pass, asked, elements_kept, newest_in, newest_last, lists_sound, sound_but, sound}
use Rattle.strokes.specs.StateRead.{settings_of, state_of, bar_counts, fractal_counts, strokes_with, total, stores_sized, counts_sized, elements_sized, sized}
use Rattle.strokes.specs.Lent.{Stores}
use Rattle.sound.specs.FreshStand.{is_asked, or_default, rooms_of, columns_agree, rooms_fit, question17, question3, fresh_failed, empty_stand, first_stand, no_stand, fresh_by, fresh_of}
use Rattle.sound.specs.StandSound.{stores_sound}
use Rattle.arith.proofs.Tests.{and_false}

-- ---- the answer

-- the settings are asked first, and question 3 where they pass
first_three : (a b c d : Bool) (n : ℕ) → n ≡ or_else a 1 (or_else b 2 (or_else c 17 0)) → (n ≡ 0 → ⊥) → n ≡ or_else a 1 (or_else b 2 (or_else c 17 (or_else d 3 0)))
unfolding or_else
first_three true true true d n e z = absurd (z e)
first_three true true false d n e z = e
first_three true false c d n e z = e
first_three false b c d n e z = e

the-last : (a b c d : Bool) → 0 ≡ or_else a 1 (or_else b 2 (or_else c 17 0)) → or_else d 3 0 ≡ or_else a 1 (or_else b 2 (or_else c 17 (or_else d 3 0)))
unfolding or_else
the-last true true true d e = refl
the-last true true false d e = absurd (omega arith)
the-last true false c d e = absurd (omega arith)
the-last false b c d e = absurd (omega arith)

module _ (minimum most power ratio : ℕ) (m : Stores) where
  pub failed_before : (n : ℕ) → n ≡ or_else (is_asked minimum) 1 (or_else (is_asked most) 2 (or_else (question17 power ratio) 17 0)) → (n ≡ 0 → ⊥) → n ≡ fresh_failed minimum most power ratio m
  unfolding fresh_failed
  failed_before = first_three (is_asked minimum) (is_asked most) (question17 power ratio) (question3 m)

  pub by_rooms : (rooms : Rooms) (x y t : Bool) → 0 ≡ or_else (is_asked minimum) 1 (or_else (is_asked most) 2 (or_else (question17 power ratio) 17 0)) → rooms ≡ rooms_of m → x ≡ columns_agree rooms m
      → y ≡ rooms_fit rooms → (x && y) ≡ t → or_else t 3 0 ≡ fresh_failed minimum most power ratio m
  unfolding fresh_failed question3
  by_rooms rooms x y t z r ex ey e =
      let a : columns_agree (rooms_of m) m ≡ x = sym (ex ∙ ap (λ (k : Rooms). columns_agree k m) r) in
      let b : rooms_fit (rooms_of m) ≡ y = sym (ey ∙ ap rooms_fit r) in
      let q : (columns_agree (rooms_of m) m && rooms_fit (rooms_of m)) ≡ t = (λ i. a i && b i) ∙ e in
      ap (λ (k : Bool). or_else k 3 0) (sym q) ∙ the-last (is_asked minimum) (is_asked most) (question17 power ratio) (question3 m) z

failed_by : (n minimum most power ratio : ℕ) (m : Stores) → (fresh_by n minimum most power ratio m).refused ≡ n
unfolding fresh_by
failed_by zero minimum most power ratio m = refl
failed_by (suc n) minimum most power ratio m = refl

begun_by : (n minimum most power ratio : ℕ) (m : Stores) → n ≡ 0 → (fresh_by n minimum most power ratio m).stand ≡ first_stand minimum most power ratio m
unfolding fresh_by
begun_by zero minimum most power ratio m z = refl
begun_by (suc n) minimum most power ratio m z = absurd (omega arith)

-- what a fresh analyzer answers, by the two claims on new_stand
module _ (minimum most power ratio : ℕ) (m : Stores) where
  pub refused-is : (fresh_of minimum most power ratio m).refused ≡ fresh_failed minimum most power ratio m
  unfolding fresh_of
  refused-is = failed_by (fresh_failed minimum most power ratio m) minimum most power ratio m

  pub begun_is : fresh_failed minimum most power ratio m ≡ 0 → (fresh_of minimum most power ratio m).stand ≡ first_stand minimum most power ratio m
  unfolding fresh_of
  begun_is z = begun_by (fresh_failed minimum most power ratio m) minimum most power ratio m z

-- ---- it holds nothing

empty-state : (minimum most power ratio : ℕ) (rooms : Rooms) (m : Stores) → state_of (empty_stand minimum most power ratio rooms) m ≡ fresh
unfolding state_of empty_stand bar_counts fractal_counts strokes_with fresh
empty-state minimum most power ratio rooms m = refl

by_failed-state : (minimum most power ratio : ℕ) (m : Stores) (n : ℕ) → state_of (fresh_by n minimum most power ratio m).stand m ≡ fresh
unfolding fresh_by first_stand no_stand
by_failed-state minimum most power ratio m zero = empty-state (or_default minimum 6) (or_default most 50) power ratio (rooms_of m) m
by_failed-state minimum most power ratio m (suc n) = empty-state 0 0 0 0 (record { raw = 0; unfinished = 0; strokes = 0 }) m

pub fresh-state : (minimum most power ratio : ℕ) (m : Stores) → state_of (fresh_of minimum most power ratio m).stand m ≡ fresh
unfolding fresh_of
fresh-state minimum most power ratio m = by_failed-state minimum most power ratio m (fresh_failed minimum most power ratio m)

-- ---- it has the places that were asked for

by_failed-places : (minimum most power ratio : ℕ) (m : Stores) (n : ℕ) → (fresh_by n minimum most power ratio m).refused ≡ 0
    → ((fresh_by n minimum most power ratio m).stand.power_places ≡ power) × ((fresh_by n minimum most power ratio m).stand.ratio_places ≡ ratio)
unfolding fresh_by first_stand empty_stand
by_failed-places minimum most power ratio m zero z = (refl, refl)
by_failed-places minimum most power ratio m (suc n) z = absurd (omega arith)

pub fresh-places : (minimum most power ratio : ℕ) (m : Stores) → (fresh_of minimum most power ratio m).refused ≡ 0
    → ((fresh_of minimum most power ratio m).stand.power_places ≡ power) × ((fresh_of minimum most power ratio m).stand.ratio_places ≡ ratio)
unfolding fresh_of
fresh-places minimum most power ratio m = by_failed-places minimum most power ratio m (fresh_failed minimum most power ratio m)

-- ---- it is sound

-- a setting that was asked is 1 to 64 once 0 was replaced by a default that is
setting : (n d : ℕ) → is_asked n ≡ true → is_setting d ≡ true → is_setting (or_default n d) ≡ true
unfolding is_asked is_setting or_default
setting n d h k = by (eqb n 0) refl
  where
    by : (b : Bool) → eqb n 0 ≡ b → leb 1 (cond (eqb n 0) d n) && leb (cond (eqb n 0) d n) 64 ≡ true
    by true e = rw e k
    by false e = rw (e, h, le-leb 1 n (omega (arith, eqb-false n 0 e)))

passed : (p q d r : Bool) → or_else p 1 (or_else q 2 (or_else d 17 (or_else r 3 0))) ≡ 0 → (p ≡ true) × (q ≡ true) × (d ≡ true) × (r ≡ true)
unfolding or_else
passed true true true true e = (refl, refl, refl, refl)
passed true true true false e = absurd (omega arith)
passed true true false r e = absurd (omega arith)
passed true false d r e = absurd (omega arith)
passed false q d r e = absurd (omega arith)

fresh-settings : (minimum most power ratio : ℕ) (m : Stores) → fresh_failed minimum most power ratio m ≡ 0
    → (settings_sound (settings_of (empty_stand (or_default minimum 6) (or_default most 50) power ratio (rooms_of m))) ≡ true) × (columns_agree (rooms_of m) m ≡ true)
unfolding fresh_failed question17 question3 settings_sound settings_of empty_stand rooms_pass settings_pass rooms_fit
fresh-settings minimum most power ratio m e =
    let p = passed (is_asked minimum) (is_asked most) (question17 power ratio) (question3 m) e in
    let r = both_true (columns_agree (rooms_of m) m) (rooms_fit (rooms_of m)) p.3 in
    (rw (r.1, setting minimum 6 p.0 six, setting most 50 p.1 fifty, p.2), r.0)
  where
    six : is_setting 6 ≡ true
    six = refl

    fifty : is_setting 50 ≡ true
    fifty = refl

    both_true : (a b : Bool) → (a && b) ≡ true → (a ≡ true) × (b ≡ true)
    both_true true b e = (refl, e)
    both_true false b e = absurd (subst T (sym e) tt)

fresh_lists : (c : Settings) → (counts_fit c fresh && lists_sound c.most fresh) && newest_last fresh ≡ true
unfolding counts_fit lists_sound newest_last fresh few_strokes raw_pass merged_pass times_rise strokes_pass elements_kept rises bar_times merged_times every last asked newest_in bars_of
fresh_lists c = rw (leb-zero c.raw_room, leb-zero c.unfinished_room, leb-zero c.stroke_room, leb-zero c.most)

empty-counts : (a b power ratio : ℕ) (rooms : Rooms) (m : Stores) → stores_sized (empty_stand a b power ratio rooms) m ≡ true → sized (empty_stand a b power ratio rooms) m ≡ true
unfolding sized counts_sized elements_sized empty_stand bar_counts total every
empty-counts a b power ratio rooms m k = rw (k, leb-zero rooms.raw, leb-zero rooms.unfinished, leb-zero rooms.strokes)

empty-sound : (a b power ratio : ℕ) (rooms : Rooms) (m : Stores) → settings_sound (settings_of (empty_stand a b power ratio rooms)) ≡ true → stores_sized (empty_stand a b power ratio rooms) m ≡ true
    → sized (empty_stand a b power ratio rooms) m && sound (settings_of (empty_stand a b power ratio rooms)) (state_of (empty_stand a b power ratio rooms) m) ≡ true
unfolding sound sound_but
empty-sound a b power ratio rooms m h k = rw (empty-counts a b power ratio rooms m k, empty-state a b power ratio rooms m, h) (fresh_lists (settings_of (empty_stand a b power ratio rooms)))

-- columns that agree have the recorded lengths
pub agree_sized : (s : Stand) (m : Stores) (t r : Bool) → r ≡ columns_agree s.rooms m → r ≡ t → stores_sized s m ≡ t
unfolding columns_agree stores_sized
agree_sized s m t r e h = sym e ∙ h

by_failed : (minimum most power ratio : ℕ) (m : Stores) (n : ℕ) → n ≡ fresh_failed minimum most power ratio m → (fresh_by n minimum most power ratio m).refused ≡ 0
    → sized (fresh_by n minimum most power ratio m).stand m && sound (settings_of (fresh_by n minimum most power ratio m).stand) (state_of (fresh_by n minimum most power ratio m).stand m) ≡ true
unfolding fresh_by first_stand empty_stand
by_failed minimum most power ratio m zero e z =
    let f = fresh-settings minimum most power ratio m (sym e) in
    let s = empty_stand (or_default minimum 6) (or_default most 50) power ratio (rooms_of m) in
    empty-sound (or_default minimum 6) (or_default most 50) power ratio (rooms_of m) m f.0 (agree_sized s m true true (sym f.1) refl)
by_failed minimum most power ratio m (suc n) e z = absurd (omega arith)

-- a fresh analyzer that was not refused is sound with the stores that were lent
pub fresh-sound : (minimum most power ratio : ℕ) (m : Stores) → (fresh_of minimum most power ratio m).refused ≡ 0
    → sized (fresh_of minimum most power ratio m).stand m && sound (settings_of (fresh_of minimum most power ratio m).stand) (state_of (fresh_of minimum most power ratio m).stand m) ≡ true
unfolding fresh_of
fresh-sound minimum most power ratio m = by_failed minimum most power ratio m (fresh_failed minimum most power ratio m) refl

-- ---- one that was refused is sound with no stores

no_sound : (m : Stores) → stores_sound no_stand m ≡ false
unfolding stores_sound sound sound_but settings_sound rooms_pass settings_of no_stand empty_stand
no_sound m = and_false (sized no_stand m)

by_refused : (minimum most power ratio : ℕ) (m : Stores) (n : ℕ) → ((fresh_by n minimum most power ratio m).refused ≡ 0 → ⊥) → stores_sound (fresh_by n minimum most power ratio m).stand m ≡ false
unfolding fresh_by
by_refused minimum most power ratio m zero z = absurd (z refl)
by_refused minimum most power ratio m (suc n) z = no_sound m

pub fresh_unsound : (minimum most power ratio : ℕ) (m : Stores) → ((fresh_of minimum most power ratio m).refused ≡ 0 → ⊥) → stores_sound (fresh_of minimum most power ratio m).stand m ≡ false
unfolding fresh_of
fresh_unsound minimum most power ratio m = by_refused minimum most power ratio m (fresh_failed minimum most power ratio m)

-- question 17, by its two tests
pub places-asked : (power ratio : ℕ) (x y h : Bool) → x ≡ is_places power → y ≡ is_places ratio → h ≡ (x && y) → h ≡ question17 power ratio
unfolding question17
places-asked power ratio x y h p q e = e ∙ (λ i. p i && q i)

-- the first question that failed, where the third was asked of the rooms and of the columns
pub failed-is : (minimum most power ratio : ℕ) (m : Stores) (rooms : Rooms) (x y h : Bool) (n : ℕ) → rooms ≡ rooms_of m → x ≡ columns_agree rooms m → y ≡ rooms_fit rooms → h ≡ (x && y)
    → n ≡ or_else (is_asked minimum) 1 (or_else (is_asked most) 2 (or_else (question17 power ratio) 17 (or_else h 3 0))) → n ≡ fresh_failed minimum most power ratio m
unfolding fresh_failed question3
failed-is minimum most power ratio m rooms x y h n r ex ey eh e =
    let a : x ≡ columns_agree (rooms_of m) m = ex ∙ ap (λ (z : Rooms). columns_agree z m) r in
    let b : y ≡ rooms_fit (rooms_of m) = ey ∙ ap rooms_fit r in
    e ∙ ap (λ (t : Bool). or_else (is_asked minimum) 1 (or_else (is_asked most) 2 (or_else (question17 power ratio) 17 (or_else t 3 0)))) (eh ∙ (λ i. a i && b i))
