-- Questions 18 and 19 and the bar of a text, by what the code keeps of its record. Assumes nothing.
use mathlib.Core.Path.{◌≡◌, refl, sym, ap, ◌∙◌, subst}
use Prim.Native.Nat.{ℕ, zero, suc, ◌≤◌, ◌<◌}
use native.Mathlib.Nat.{min-eq_left, le_of_lt}
use mathlib.Core.Bool.{Bool, true, false, cond}
use mathlib.Core.List.{List, [], ◌∷◌, ◌++◌}
use mathlib.Core.Option.{Option, none, some}
use lib.ListN.{length}
use lib.Ieee.Fits.{and_l, and_r}
use borrow.Author.Tests.{le-leb, lt-leb, ltb-true}
use Rattle.arith.proofs.Tests.{and_true, holds, yes}
use Rattle.bars.specs.declared.Bar.{Bar}
use Rattle.bars.specs.Lists.{every}
use Rattle.bars.specs.Questions.{first_failed}
use lib.IntN.{pos}
use Rattle.std.specs.Prelude.{None, Some}
use Rattle.bars.specs.declared.refusals.Question.{Question}
use Rattle.bars.specs.Refusals.{number}
use Rattle.bars.proofs.Asked.{above}
use Rattle.csv_text.specs.declared.records.Fields.{Fields}
use Rattle.csv_text.specs.Written.{Field, Record, Digits, IsNumber, IsRecord, fields_of, text_of}
use Rattle.csv_text.specs.Reading.{record_at}
use Rattle.csv_text.specs.Values.{digits_of, whole_number, few_digits, question19, value_of, seconds_of, bar_of, nearest_of}
use Rattle.csv_text.specs.Records.{Read, Refused, question18, answered, asked19, read_text, unless_failed, asked5to8, read_record}
use Rattle.csv_text.specs.Code.Numerals.{numeral_of}
use Rattle.csv_text.specs.Code.Fields.{numerals_of, ReadsRecord, is_few, few_digits_in, Fits, FieldsFit, bar_in}
use Rattle.csv_text.proofs.BothWays.{reads-back}
use Rattle.csv_text.proofs.FewDigits.{capped_below, few-is}

-- ---- one field

digits_append : (a b : List ℕ) → Digits a → Digits b → Digits (a ++ b)
digits_append [] b h k = k
digits_append (x ∷ a) b h k = (h.0, digits_append a b h.1 k)

field_few : (f : Field) → IsNumber f.number → is_few (numeral_of f.number) ≡ few_digits f
unfolding is_few numeral_of few_digits
field_few f h = few-is (digits_of f.number) (digits_append f.number.whole f.number.places h.whole-digits h.place-digits)

-- where its digits are few, the code has them all
module _ (f : Field) (few : is_few (numeral_of f.number) ≡ true) where
  field_below : whole_number (digits_of f.number) < 1000000000000000
  unfolding is_few numeral_of
  field_below = ltb-true _ _ (sym (capped_below (whole_number (digits_of f.number))) ∙ few)

  field_kept : (numeral_of f.number).digits ≡ whole_number (digits_of f.number)
  unfolding numeral_of
  field_kept = min-eq_left (le_of_lt field_below)

  field_fits : IsNumber f.number → Fits (numeral_of f.number)
  unfolding is_few numeral_of
  field_fits h = record { digits = ltb-true _ _ few; places = h.few-places }

-- ---- all seven

few-same : (r : Record) → IsRecord r → few_digits_in (numerals_of r) ≡ question19 r
unfolding few_digits_in numerals_of question19 every fields_of
few-same r h =
    let n = h.numbers in
    rw (
      field_few r.time n.0,
      field_few r.«open» n.1.0,
      field_few r.close n.1.1.0,
      field_few r.high n.1.1.1.0,
      field_few r.low n.1.1.1.1.0,
      field_few r.vol n.1.1.1.1.1.0,
      field_few r.amount n.1.1.1.1.1.1.0,
      and_true (few_digits r.amount),
    )
    refl

record AllFew (f : Fields) : Type 0 where
  time : is_few f.time ≡ true
  «open» : is_few f.«open» ≡ true
  close : is_few f.close ≡ true
  high : is_few f.high ≡ true
  low : is_few f.low ≡ true
  vol : is_few f.vol ≡ true
  amount : is_few f.amount ≡ true

all-few : (f : Fields) → few_digits_in f ≡ true → AllFew f
unfolding few_digits_in
all-few f e =
    let t = holds e in
    let t1 = and_r (is_few f.time) _ t in
    let t2 = and_r (is_few f.«open») _ t1 in
    let t3 = and_r (is_few f.close) _ t2 in
    let t4 = and_r (is_few f.high) _ t3 in
    let t5 = and_r (is_few f.low) _ t4 in
    record {
      time = yes _ (and_l (is_few f.time) _ t);
      «open» = yes _ (and_l (is_few f.«open») _ t1);
      close = yes _ (and_l (is_few f.close) _ t2);
      high = yes _ (and_l (is_few f.high) _ t3);
      low = yes _ (and_l (is_few f.low) _ t4);
      vol = yes _ (and_l (is_few f.vol) (is_few f.amount) t5);
      amount = yes _ (and_r (is_few f.vol) (is_few f.amount) t5);
    }

value-kept : (f : Field) → is_few (numeral_of f.number) ≡ true → nearest_of f.number.minus (numeral_of f.number).digits (length f.number.places) ≡ value_of f
unfolding value_of
value-kept f few = ap (λ (n : ℕ). nearest_of f.number.minus n (length f.number.places)) (field_kept f few)

bar-kept : (place : ℕ) (r : Record) → few_digits_in (numerals_of r) ≡ true → bar_in (pos place) (numerals_of r) ≡ bar_of place r
unfolding bar_in bar_of numerals_of numeral_of seconds_of
bar-kept place r e =
    let few = all-few (numerals_of r) e in
    rw (
      field_kept r.time few.time,
      value-kept r.«open» few.«open»,
      value-kept r.close few.close,
      value-kept r.high few.high,
      value-kept r.low few.low,
      value-kept r.vol few.vol,
      value-kept r.amount few.amount,
    )
    refl

fits_all_lem : (r : Record) → IsRecord r → few_digits_in (numerals_of r) ≡ true → FieldsFit (numerals_of r)
unfolding numerals_of fields_of
fits_all_lem r h e =
    let n = h.numbers in
    let few = all-few (numerals_of r) e in
    record {
      time = field_fits r.time few.time n.0;
      «open» = field_fits r.«open» few.«open» n.1.0;
      close = field_fits r.close few.close n.1.1.0;
      high = field_fits r.high few.high n.1.1.1.0;
      low = field_fits r.low few.low n.1.1.1.1.0;
      vol = field_fits r.vol few.vol n.1.1.1.1.1.0;
      amount = field_fits r.amount few.amount n.1.1.1.1.1.1.0;
    }

-- ---- the text

-- the code has the fields f of the record at the text's beginning, which is n bytes long
record IsRecordAt (t : List ℕ) (f : Fields) (n : ℕ) : Type 0 where
  written : Record
  is : record_at t ≡ some written
  fields : f ≡ numerals_of written
  bytes : n ≡ length (text_of written)

record-at : (t : List ℕ) (f : Fields) (n : ℕ) → ReadsRecord (record_at t) (Some (f, n)) → IsRecordAt t f n
record-at t f n h = go (record_at t) refl h
  where
    go : (o : Option Record) → record_at t ≡ o → ReadsRecord o (Some (f, n)) → IsRecordAt t f n
    go none p h = absurd h
    go (some r) p h = record { written = r; is = p; fields = h.0; bytes = h.1 }

no_record : (t : List ℕ) → ReadsRecord (record_at t) None → record_at t ≡ none
no_record t h = go (record_at t) h
  where
    go : (o : Option Record) → ReadsRecord o None → o ≡ none
    go none h = refl
    go (some r) h = absurd h

pub text_far : (place : ℕ) (t : List ℕ) → 2147483647 < place → Refused 18 ≡ read_text place t
unfolding read_text question18 asked19
text_far place t h = ap (asked19 place) (sym (ap (λ (b : Bool). cond b (record_at t) none) (lt-leb place 2147483647 h)))

module _ (place : ℕ) (t : List ℕ) (near : place ≤ 2147483647) where
  asked : read_text place t ≡ asked19 place (record_at t)
  unfolding read_text question18
  asked = ap (asked19 place) (ap (λ (b : Bool). cond b (record_at t) none) (le-leb place 2147483647 near))

  pub text_18 : ReadsRecord (record_at t) None → Refused 18 ≡ read_text place t
  unfolding asked19
  text_18 h = sym (asked ∙ ap (asked19 place) (no_record t h))

  module _ (f : Fields) (n : ℕ) (h : ReadsRecord (record_at t) (Some (f, n))) where
    w : IsRecordAt t f n
    w = record-at t f n h

    is-record : IsRecord w.written
    is-record = (reads-back.only t w.written w.is).0

    by_19 : (b : Bool) → few_digits_in f ≡ b → answered place w.written b ≡ read_text place t
    unfolding asked19
    by_19 b e =
        ap (answered place w.written) (sym e ∙ ap few_digits_in w.fields ∙ few-same w.written is-record) ∙ sym (asked ∙ ap (asked19 place) w.is)

    pub text_19 : few_digits_in f ≡ false → Refused 19 ≡ read_text place t
    unfolding answered
    text_19 e = by_19 false e

    pub text_fits : few_digits_in f ≡ true → FieldsFit f
    text_fits e = subst FieldsFit (sym w.fields) (fits_all_lem w.written is-record (sym (ap few_digits_in w.fields) ∙ e))

    pub text_read : (b : Bar) → few_digits_in f ≡ true → b ≡ bar_in (pos place) f → Read b n ≡ read_text place t
    unfolding answered
    text_read b e q =
        ap (λ (z : Bar). Read z n) (q ∙ ap (bar_in (pos place)) w.fields ∙ bar-kept place w.written (sym (ap few_digits_in w.fields) ∙ e))
        ∙ ap (Read (bar_of place w.written)) w.bytes ∙ by_19 true e

-- ---- then 5 to 8

pub record-refused : (place : ℕ) (t : List ℕ) (k : ℕ) → Refused k ≡ read_text place t → Refused k ≡ read_record place t
unfolding read_record asked5to8
record-refused place t k e = ap asked5to8 e

module _ (place : ℕ) (t : List ℕ) (b : Bar) (n : ℕ) (e : Read b n ≡ read_text place t) where
  pub record-asked : 0 ≡ first_failed none b → Read b n ≡ read_record place t
  unfolding read_record asked5to8 unless_failed
  record-asked h = ap (λ (k : ℕ). unless_failed k b n) h ∙ ap asked5to8 e

  pub record-failed : (q : Question) → number q ≡ first_failed none b → Refused (number q) ≡ read_record place t
  unfolding read_record asked5to8 unless_failed
  record-failed q h = some_number (number q) (above q) ∙ ap (λ (k : ℕ). unless_failed k b n) h ∙ ap asked5to8 e
    where
      some_number : (k : ℕ) → (k ≡ 0 → ⊥) → Refused k ≡ unless_failed k b n
      some_number zero z = absurd (z refl)
      some_number (suc k) z = refl
