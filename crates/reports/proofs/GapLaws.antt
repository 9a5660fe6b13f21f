-- What a sound stand gives the gap reports. Assumes nothing.
use Prim.Native.Nat.{ℕ, zero, suc, ◌+◌, ◌-◌, ◌≤◌, ◌<◌}
use native.Mathlib.Omega.{arith}
use mathlib.Core.Path.{◌≡◌, refl, ap, sym, ◌∙◌, subst}
use mathlib.Core.Bool.{Bool, true, false, ◌&&◌}
use mathlib.Core.List.{List, [], map}
use mathlib.Core.Option.{some-injective}
use lib.ListN.{length, take, get_or, length-map, get_or-map}
use lib.Seq.{length-take-le}
use lib.Dec.{leb, ltb}
use lib.Ieee.{Float}
use borrow.Author.Tests.{le-leb, ltb-true}
use Rattle.bars.specs.declared.gaps.Gap.{Gap}
use Rattle.bars.specs.declared.refusals.Question.{Question}
use Rattle.std.specs.Prelude as Std
use Rattle.bars.specs.Gaps.{NoGap, gap_number, gap_values, gap_covered, pair_if, gap_at, gap_among, unless_short, gaps_of, GapColumns, GapsListed, gaps_listed, list_if, list_gaps, written}
use Rattle.bars.proofs.GapPairs.{gaps-length}
use Rattle.strokes.specs.declared.Stand.{Stand}
use Rattle.strokes.specs.Lent.{Stores}
use Rattle.named.specs.ReportQuestions.{question14}
use Rattle.named.proofs.StrokeAt.{nth-at}
use Rattle.question4.specs.Question4.{question4}
use Rattle.question4.proofs.Question4Passed.{is-sound}
use Rattle.sound.proofs.SoundFacts.{sound_fit}
use Rattle.std.proofs.Common.{Ok, Err, IsErrAnd, ◌⊎◌, inl, inr}
use Rattle.bars.specs.Refusals.{number}
use Rattle.bars.specs.declared.refusals.Question.TheVariants.{MinimumLength, MostStrokes, Rooms, Sound, Time, Prices, Volumes, LowAtMostHigh, NotEarlier, RawRoom, UnfinishedRoom, StrokeRoom, Exists, OutputRoom, Summary, Places, Record, Digits}
use Rattle.reports.specs.Code.FirstQuestions.{if_sound}
use Rattle.reports.proofs.FirstLaws.{handed_up, ok_same, err_ok, unsound, sound_no}
use Rattle.reports.specs.GapAnswers.{kept_prices, pair_by, gap_report, ListedAt, GapsAnswered, gaps_answered, gaps_fit, gaps_by, gaps_report}

-- the rows of the kept raw bars are there
rows-there : (s : Stand) (m : Stores) → question4 s m ≡ true → s.raw ≤ length m.raw.prices
rows-there s m e =
    let f = sound_fit s m (is-sound s m e) in
    rw f.raw.prices f.few-raw

-- ---- one pair

pub pair_no : (s : Stand) (m : Stores) (i : ℕ) (e : Question) (r : Std.Result (Std.Option Gap) Question) → IsErrAnd r (λ y. y ≡ e) → Err e ≡ if_sound (question4 s m) (tt {0}) → r ≡ gap_report s m i
unfolding gap_report pair_by
pair_no s m i e r h g = sound_no (question4 s m) tt e r (λ q. pair_by q (gap_at s.ratio_places (kept_prices s m) i)) refl h g

among_all : (d : ℕ) (ps : List (List Float)) (n i : ℕ) → n ≤ length ps → gap_among d ps n i ≡ gap_at d (take n ps) i
unfolding gap_among unless_short
among_all d ps n i h = ap (λ (t : Bool). unless_short t (gap_at d (take n ps) i)) (le-leb n (length ps) h)

pub pair_yes : (s : Stand) (m : Stores) (i : ℕ) (r : Std.Result (Std.Option Gap) Question) → question4 s m ≡ true → r ≡ gap_among s.ratio_places m.raw.prices s.raw i → r ≡ gap_report s m i
unfolding gap_report pair_by kept_prices
pair_yes s m i r e w =
    w
    ∙ among_all s.ratio_places m.raw.prices s.raw i (rows-there s m e)
    ∙ ap (λ (t : Bool). pair_by t (gap_at s.ratio_places (kept_prices s m) i)) (sym e)

-- what is read within a column, whatever stands for a place outside it
column_at : {B : Type 0} (f : Std.Option Gap → B) (gs : List (Std.Option Gap)) (i : ℕ) (z : B) → i < length gs → f (get_or gs i NoGap) ≡ get_or (map f gs) i z
column_at f gs i z h =
    let w : i < length (map f gs) = omega (arith, length-map gs f) in
    sym (get_or-map f gs i NoGap) ∙ some-injective _ _ (sym (nth-at (map f gs) i (f NoGap) w) ∙ nth-at (map f gs) i z w)

-- by question 4, and by whether there is such a pair
listed_if : (q t : Bool) (d : ℕ) (ps : List (List Float)) (i : ℕ) (g : Std.Option Gap) → ltb (i + 1) (length ps) ≡ t → pair_by q (pair_if t (get_or (gaps_of d ps) i NoGap)) ≡ Ok g → ListedAt d ps i g
unfolding pair_by pair_if
listed_if false t d ps i g e f = err_ok Sound g f
listed_if true false d ps i g e f = err_ok Exists g f
listed_if true true d ps i g e f =
    let gs = gaps_of d ps in
    let w : i < length gs = omega (arith, ltb-true (i + 1) (length ps) e, gaps-length d ps) in
    subst (ListedAt d ps i) (ok_same (get_or gs i NoGap) g f)
    (record {
      within = w;
      number = column_at gap_number gs i 0 w;
      values = column_at gap_values gs i [] w;
      covered = column_at gap_covered gs i false w;
    })

pub pair_listed : (s : Stand) (m : Stores) (i : ℕ) (r : Std.Result (Std.Option Gap) Question) → r ≡ gap_report s m i → (g : Std.Option Gap) → r ≡ Ok g → ListedAt s.ratio_places (kept_prices s m) i g
unfolding gap_report gap_at
pair_listed s m i r e g f =
    let ps = kept_prices s m in
    listed_if (question4 s m) (ltb (i + 1) (length ps)) s.ratio_places ps i g refl (sym e ∙ f)

-- ---- all pairs

pub gaps_no : (s : Stand) (m : Stores) (d : GapColumns) (e : Question) (r : Std.Result ℕ Question) → IsErrAnd r (λ y. y ≡ e) → Err e ≡ if_sound (question4 s m) (tt {0}) → gaps_answered r d ≡ gaps_report s m d
unfolding gaps_report gaps_by
gaps_no s m d e r h g =
    let gs = gaps_of s.ratio_places (kept_prices s m) in
    let u = unsound (question4 s m) (tt {0}) e g in
    ap (λ (x : Std.Result ℕ Question). gaps_answered x d) (handed_up r e h ∙ ap Err u.1) ∙ ap (λ (t : Bool). gaps_by t (gaps_fit d gs) gs d) (sym u.0)

-- what is answered of n bars, by the listing's number
count_if : ℕ → ℕ → Std.Result ℕ Question
count_if zero n = Ok (n - 1)
count_if (suc q) n = Err OutputRoom

told : ℕ → GapsListed → GapsAnswered
told n l = gaps_answered (count_if l.number n) l.columns

-- a listing where all bars are there, by whether each column has a place for each pair
told_if : (k v c : Bool) (p : ℕ) (ps : List (List Float)) (n : ℕ) (d : GapColumns) → length (gaps_of p (take n ps)) ≡ n - 1
    → told n (list_if true k v c p ps n d) ≡ gaps_by true (k && (v && c)) (gaps_of p (take n ps)) d
unfolding told list_if gaps_by count_if
told_if false v c p ps n d h = refl
told_if true false c p ps n d h = refl
told_if true true false p ps n d h = refl
told_if true true true p ps n d h = λ i. gaps_answered (Ok (sym h i)) (written (gaps_of p (take n ps)) (sym h i) d)

told-all : (p : ℕ) (ps : List (List Float)) (n : ℕ) (d : GapColumns) → n ≤ length ps
    → told n (list_gaps p ps n d) ≡ gaps_by true (gaps_fit d (gaps_of p (take n ps))) (gaps_of p (take n ps)) d
unfolding list_gaps gaps_fit question14
told-all p ps n d h =
    let gs = gaps_of p (take n ps) in
    let e : length gs ≡ n - 1 = gaps-length p (take n ps) ∙ ap (λ (k : ℕ). k - 1) (length-take-le n ps h) in
    let fit : ℕ → Bool = λ j. (leb j (length d.kinds) && (leb j (length d.values) && leb j (length d.covered))) in
    ap (λ (t : Bool). told n (list_if t (leb (n - 1) (length d.kinds)) (leb (n - 1) (length d.values)) (leb (n - 1) (length d.covered)) p ps n d)) (le-leb n (length ps) h)
    ∙ told_if (leb (n - 1) (length d.kinds)) (leb (n - 1) (length d.values)) (leb (n - 1) (length d.covered)) p ps n d e
    ∙ ap (λ (j : ℕ). gaps_by true (fit j) gs d) (sym e)

-- of the questions 14 has the number 14, and none 0
only_14 : (e : Question) (n : ℕ) → number e ≡ n → (n ≡ 14) ⊎ (n ≡ 0) → e ≡ OutputRoom
only_14 MinimumLength n h w = elim w [ inl x ↦ absurd (omega arith) | inr x ↦ absurd (omega arith) ]
only_14 MostStrokes n h w = elim w [ inl x ↦ absurd (omega arith) | inr x ↦ absurd (omega arith) ]
only_14 Rooms n h w = elim w [ inl x ↦ absurd (omega arith) | inr x ↦ absurd (omega arith) ]
only_14 Sound n h w = elim w [ inl x ↦ absurd (omega arith) | inr x ↦ absurd (omega arith) ]
only_14 Time n h w = elim w [ inl x ↦ absurd (omega arith) | inr x ↦ absurd (omega arith) ]
only_14 Prices n h w = elim w [ inl x ↦ absurd (omega arith) | inr x ↦ absurd (omega arith) ]
only_14 Volumes n h w = elim w [ inl x ↦ absurd (omega arith) | inr x ↦ absurd (omega arith) ]
only_14 LowAtMostHigh n h w = elim w [ inl x ↦ absurd (omega arith) | inr x ↦ absurd (omega arith) ]
only_14 NotEarlier n h w = elim w [ inl x ↦ absurd (omega arith) | inr x ↦ absurd (omega arith) ]
only_14 RawRoom n h w = elim w [ inl x ↦ absurd (omega arith) | inr x ↦ absurd (omega arith) ]
only_14 UnfinishedRoom n h w = elim w [ inl x ↦ absurd (omega arith) | inr x ↦ absurd (omega arith) ]
only_14 StrokeRoom n h w = elim w [ inl x ↦ absurd (omega arith) | inr x ↦ absurd (omega arith) ]
only_14 Exists n h w = elim w [ inl x ↦ absurd (omega arith) | inr x ↦ absurd (omega arith) ]
only_14 OutputRoom n h w = refl
only_14 Summary n h w = elim w [ inl x ↦ absurd (omega arith) | inr x ↦ absurd (omega arith) ]
only_14 Places n h w = elim w [ inl x ↦ absurd (omega arith) | inr x ↦ absurd (omega arith) ]
only_14 Record n h w = elim w [ inl x ↦ absurd (omega arith) | inr x ↦ absurd (omega arith) ]
only_14 Digits n h w = elim w [ inl x ↦ absurd (omega arith) | inr x ↦ absurd (omega arith) ]

number_if : (k v c : Bool) (p : ℕ) (ps : List (List Float)) (n : ℕ) (d : GapColumns) (x : ℕ) → x ≡ (list_if true k v c p ps n d).number → (x ≡ 14) ⊎ (x ≡ 0)
unfolding list_if
number_if false v c p ps n d x h = inl h
number_if true false c p ps n d x h = inl h
number_if true true false p ps n d x h = inl h
number_if true true true p ps n d x h = inr h

module _ (s : Stand) (m : Stores) (d d' : GapColumns) where
  told_is : (q : ℕ) → question4 s m ≡ true → gaps_listed q d' ≡ list_gaps s.ratio_places m.raw.prices s.raw d → told s.raw (gaps_listed q d') ≡ gaps_report s m d
  unfolding gaps_report kept_prices
  told_is q e w =
      ap (told s.raw) w
      ∙ told-all s.ratio_places m.raw.prices s.raw d (rows-there s m e)
      ∙ ap (λ (t : Bool). gaps_by t (gaps_fit d (gaps_of s.ratio_places (kept_prices s m))) (gaps_of s.ratio_places (kept_prices s m)) d) (sym e)

  -- refused, by question 14 alone
  fourteen : (e : Question) → question4 s m ≡ true → gaps_listed (number e) d' ≡ list_gaps s.ratio_places m.raw.prices s.raw d → e ≡ OutputRoom
  unfolding list_gaps
  fourteen e q w =
      let n = s.raw in
      let ps = m.raw.prices in
      let p = s.ratio_places in
      only_14 e (number e) refl
      (number_if (leb (n - 1) (length d.kinds)) (leb (n - 1) (length d.values)) (leb (n - 1) (length d.covered)) p ps n d (number e)
      (ap (λ (l : GapsListed). l.number) w ∙ ap (λ (t : Bool). (list_if t (leb (n - 1) (length d.kinds)) (leb (n - 1) (length d.values)) (leb (n - 1) (length d.covered)) p ps n d).number) (le-leb n (length ps) (rows-there s m q))))

  pub gaps-refused : (e : Question) (r : Std.Result ℕ Question) → IsErrAnd r (λ y. y ≡ e) → question4 s m ≡ true → gaps_listed (number e) d' ≡ list_gaps s.ratio_places m.raw.prices s.raw d → gaps_answered r d' ≡ gaps_report s m d
  unfolding told count_if
  gaps-refused e r h q w =
      let f = fourteen e q w in
      ap (λ (x : Std.Result ℕ Question). gaps_answered x d') (handed_up r e h ∙ ap Err f) ∙ told_is 14 q (ap (λ (x : Question). gaps_listed (number x) d') (sym f) ∙ w)

  pub gaps_yes : (n : ℕ) → question4 s m ≡ true → gaps_listed 0 d' ≡ list_gaps s.ratio_places m.raw.prices s.raw d → n ≡ s.raw - 1 → gaps_answered (Ok n) d' ≡ gaps_report s m d
  unfolding told count_if
  gaps_yes n e w k = (λ i. gaps_answered (Ok (k i)) d') ∙ told_is 0 e w
