-- What the code reads at a text's beginning, beside the definitions: bytes, digits, numbers and fields. Assumes nothing.
use mathlib.Core.Path.{◌≡◌, refl, sym, ap, ◌∙◌, subst}
use Prim.Native.Nat.{ℕ, ◌+◌, ◌*◌, min, ◌≤◌, ◌<◌}
use native.Mathlib.Omega.{arith}
use mathlib.Core.Bool.{Bool, true, false, cond}
use mathlib.Core.List.{List, [], ◌∷◌, ◌++◌}
use mathlib.Core.Option.{Option, none, some}
use lib.ListN.{length, take, drop}
use lib.Dec.{eqb, leb}
use denote.Ref.{Bor}
use borrow.Author.Tests.{le-leb, lt-leb}
use Rattle.std.specs.Prelude as Std
use Rattle.std.specs.Prelude.{None, Some}
use Rattle.std.specs.List.{fold}
use Rattle.std.specs.Cmp.Lexicographic.{pointwise}
use Rattle.std.specs.Prelude.{MatchOption}
use Rattle.arith.proofs.Tests.{and_true, holds, fails}
use Rattle.bars.specs.Lists.{fold_left}
use Rattle.csv_text.specs.declared.numerals.Numeral.{Numeral}
use Rattle.csv_text.specs.Written.{Number, Field, is_digit, minus_byte, point_byte, quote_byte, comma_byte}
use Rattle.csv_text.specs.Reading.{begins, behind, digits_at, behind_digits, places_read, point_read, whole_read, sign_read, number_at, plain, closed, quote_read, field_at, next_at, is_empty, and_then, whole_only, time_at}
use Rattle.csv_text.specs.Code.Numerals.{at_most, with_digit, numeral_of, Reads, PointRead}
use Rattle.csv_text.proofs.Bytes.{digits_split, digits-none, digits_cons}
use Rattle.std.specs.List.{AllWithin, HoldsAt}
use Rattle.std.specs.Option.{unwrap_or}
use Rattle.std.proofs.lemmas.Iterator.{index_from_first}
use native.Mathlib.Numerals.{add-one}
use Rattle.csv_text.proofs.FewDigits.{fold_append, whole_capped}

-- ---- digits

pub folds : {A B : Type 0} (f : B → A → B) (b : B) (l : List A) → fold f b l ≡ fold_left f b l
unfolding fold_left
folds f b [] = refl
folds f b (a ∷ l) = folds f (f b a) l

-- a sum that stops at a higher number first
pub stopped : (n d : ℕ) → min (min (min (n * 10) 18446744073709551615 + d) 18446744073709551615) 1000000000000000 ≡ at_most (n * 10 + d)
stopped n d = omega arith

-- `begins` and `behind` as the library tells a text's first byte
first-is : (b : ℕ) (t : List ℕ) → pointwise eqb (take 1 t) (b ∷ []) ≡ begins b t
unfolding begins
first-is b [] = refl
first-is b (x ∷ l) = and_true (eqb x b)

behind-is : (t : List ℕ) → drop 1 t ≡ behind t
unfolding behind
behind-is [] = refl
behind-is (x ∷ l) = refl

pub byte-behind : (b : ℕ) (t : List ℕ) (r : Std.Option (Bor (List ℕ)))
    → MatchOption r (pointwise eqb (take 1 t) (b ∷ []) ≡ false) (λ x. (pointwise eqb (take 1 t) (b ∷ []) ≡ true) × (x.now ≡ drop 1 t) × (length x.now + 1 ≡ length t))
    → MatchOption r (begins b t ≡ false) (λ x. (begins b t ≡ true) × (x.now ≡ behind t))
byte-behind b t None h = sym (first-is b t) ∙ h
byte-behind b t (Some x) h = (sym (first-is b t) ∙ h.0, h.1 ∙ behind-is t)

-- where the first byte that is no digit stands
pub digits-end : (t : List ℕ) (r : Std.Option ℕ)
    → MatchOption r (AllWithin (λ b. is_digit b ≡ true) t 0 (length t)) (λ i. (i < length t) × HoldsAt (λ b. is_digit b ≡ false) t i × AllWithin (λ b. is_digit b ≡ true) t 0 i)
    → length (digits_at t) ≡ unwrap_or r (length t)
digits-end = index_from_first (λ t. length (digits_at t)) (λ b. is_digit b ≡ false) (λ b. is_digit b ≡ true) none_here
    (λ b t h. ap length (digits-none (b ∷ t) (fails h)))
    (λ b t h. ap length (digits_cons b t (holds h)) ∙ sym (add-one (length (digits_at t))))
  where
    none_here : length (digits_at []) ≡ 0
    none_here = ap length (digits-none [] tt)

take_all : (l r : List ℕ) → take (length l) (l ++ r) ≡ l
take_all [] r = refl
take_all (x ∷ l) r = ap {B = List ℕ} (λ z. x ∷ z) (take_all l r)

drop_all : (l r : List ℕ) → drop (length l) (l ++ r) ≡ r
drop_all [] r = refl
drop_all (x ∷ l) r = drop_all l r

pub digits-are : (t : List ℕ) → take (length (digits_at t)) t ≡ digits_at t
digits-are t = ap (take (length (digits_at t))) (digits_split t) ∙ take_all (digits_at t) (behind_digits t)

pub rest-is : (t : List ℕ) → drop (length (digits_at t)) t ≡ behind_digits t
rest-is t = ap (drop (length (digits_at t))) (digits_split t) ∙ drop_all (digits_at t) (behind_digits t)

-- ---- a number, from the point on

-- the code's numeral of digits before the point, which make n, and ps behind it
numeral_is : (m : Bool) (n value : ℕ) (ds ps : List ℕ) → n ≡ fold_left with_digit 0 ds → value ≡ fold_left with_digit n ps
    → record { minus = m; digits = value; places = length ps } ≡ numeral_of (record { minus = m; whole = ds; places = ps })
unfolding numeral_of
numeral_is m n value ds ps e f =
    ap (λ (d : ℕ). record { minus = m; digits = d; places = length ps }) (f ∙ ap (λ (z : ℕ). fold_left with_digit z ps) e ∙ sym (fold_append with_digit ds ps 0) ∙ whole_capped (ds ++ ps))

-- a number as it is read
abbrev own : Number → Number
own n = n

abbrev Read : Type 0
Read = Std.Option (Numeral × Bor (List ℕ))

pub point_none : (t : Bor (List ℕ)) (m : Bool) (n : ℕ) → begins point_byte t.now ≡ false → PointRead t.now m n (Some (record { minus = m; digits = n; places = 0 }, t))
unfolding point_read fold_left
point_none t m n b ds e = subst (λ (z : Bool). Reads own (point_read m ds z t.now) (Some (record { minus = m; digits = n; places = 0 }, t))) (sym b) (numeral_is m n n ds [] e refl, refl)

places_0 : (m : Bool) (ds ps w : List ℕ) → length ps ≡ 0 → places_read m ds ps w ≡ none
unfolding places_read
places_0 m ds [] w h = refl
places_0 m ds (p ∷ ps) w h = absurd (omega (arith, h))

places_23 : (m : Bool) (ds ps w : List ℕ) → 22 < length ps → places_read m ds ps w ≡ none
unfolding places_read
places_23 m ds [] w h = refl
places_23 m ds (p ∷ ps) w h = ap (λ (b : Bool). cond b (some (record { minus = m; whole = ds; places = p ∷ ps }, w)) none) (lt-leb (length (p ∷ ps)) 22 h)

places_22 : (m : Bool) (ds ps w : List ℕ) → (length ps ≡ 0 → ⊥) → length ps ≤ 22 → places_read m ds ps w ≡ some (record { minus = m; whole = ds; places = ps }, w)
unfolding places_read
places_22 m ds [] w z h = absurd (z refl)
places_22 m ds (p ∷ ps) w z h = ap (λ (b : Bool). cond b (some (record { minus = m; whole = ds; places = p ∷ ps }, w)) none) (le-leb (length (p ∷ ps)) 22 h)

-- the digits ps behind the point
module _ (t u : List ℕ) (m : Bool) (n : ℕ) (b : (begins point_byte t ≡ true) × (u ≡ behind t)) (ps : List ℕ) (p : ps ≡ digits_at u) where
  behind_point : (ds : List ℕ) (r : Read) → Reads own (places_read m ds ps (behind_digits u)) r → Reads own (point_read m ds (begins point_byte t) t) r
  unfolding point_read
  behind_point ds r h =
      subst (λ (z : Bool). Reads own (point_read m ds z t) r) (sym b.0)
      (subst (λ (v : List ℕ). Reads own (places_read m ds (digits_at v) (behind_digits v)) r) b.1 (subst (λ (l : List ℕ). Reads own (places_read m ds l (behind_digits u)) r) p h))

  pub point_0 : length ps ≡ 0 → PointRead t m n None
  point_0 z ds e = behind_point ds None (subst (λ o. Reads own o None) (sym (places_0 m ds ps _ z)) tt)

  pub point_23 : 22 < length ps → PointRead t m n None
  point_23 h ds e = behind_point ds None (subst (λ o. Reads own o None) (sym (places_23 m ds ps _ h)) tt)

  pub point_22 : (rest : Bor (List ℕ)) (value : ℕ) → rest.now ≡ behind_digits u → (length ps ≡ 0 → ⊥) → length ps ≤ 22 → value ≡ fold with_digit n ps
      → PointRead t m n (Some (record { minus = m; digits = value; places = length ps }, rest))
  point_22 rest value w z h v ds e =
      behind_point ds _
      (subst (λ o. Reads own o (Some (record { minus = m; digits = value; places = length ps }, rest))) (sym (places_22 m ds ps (behind_digits u) z h)) (numeral_is m n value ds ps e (v ∙ folds with_digit n ps), w))

-- ---- a number, from its first digit on

module _ (t : List ℕ) (m : Bool) (ds : List ℕ) (d : ds ≡ digits_at t) where
  pub whole-none : length ds ≡ 0 → Reads own (whole_read m (digits_at t) (behind_digits t)) None
  unfolding whole_read
  whole-none z = subst (λ (l : List ℕ). Reads own (whole_read m l (behind_digits t)) None) d (go ds z)
    where
      go : (l : List ℕ) → length l ≡ 0 → Reads own (whole_read m l (behind_digits t)) None
      go [] h = tt
      go (x ∷ l) h = absurd (omega (arith, h))

  pub whole-some : (rest : List ℕ) (value : ℕ) (r : Read) → rest ≡ behind_digits t → (length ds ≡ 0 → ⊥) → value ≡ fold with_digit 0 ds → PointRead rest m value r
      → Reads own (whole_read m (digits_at t) (behind_digits t)) r
  unfolding whole_read
  whole-some rest value r w z v p =
      subst (λ (l : List ℕ). Reads own (whole_read m l (behind_digits t)) r) d
      (go ds z (subst (λ (u : List ℕ). Reads own (point_read m ds (begins point_byte u) u) r) w (p ds (v ∙ folds with_digit 0 ds))))
    where
      go : (l : List ℕ) → (length l ≡ 0 → ⊥) → Reads own (point_read m l (begins point_byte (behind_digits t)) (behind_digits t)) r → Reads own (whole_read m l (behind_digits t)) r
      go [] h p = absurd (h refl)
      go (x ∷ l) h p = p

sign_some : (t u : List ℕ) (r : Read) → (begins minus_byte t ≡ true) × (u ≡ behind t) → Reads own (whole_read true (digits_at u) (behind_digits u)) r → Reads own (number_at t) r
unfolding number_at sign_read
sign_some t u r b h =
    subst (λ (z : Bool). Reads own (sign_read z t) r) (sym b.0) (subst (λ (v : List ℕ). Reads own (whole_read true (digits_at v) (behind_digits v)) r) b.1 h)

pub sign_none : (t : List ℕ) (r : Read) → begins minus_byte t ≡ false → Reads own (whole_read false (digits_at t) (behind_digits t)) r → Reads own (number_at t) r
unfolding number_at sign_read
sign_none t r b h = subst (λ (z : Bool). Reads own (sign_read z t) r) (sym b) h

-- ---- its minus

negated : Option (Number × List ℕ) → Option (Number × List ℕ)
negated none = none
negated (some (n, t)) = some (record { minus = true; whole = n.whole; places = n.places }, t)

whole-negated : (ds t : List ℕ) → whole_read true ds t ≡ negated (whole_read false ds t)
unfolding whole_read point_read places_read negated
whole-negated [] t = refl
whole-negated (d ∷ ds) t = pointed (begins point_byte t)
  where
    few : (z : Bool) (ps w : List ℕ)
        → cond z (some (record { minus = true; whole = d ∷ ds; places = ps }, w)) none ≡ negated (cond z (some (record { minus = false; whole = d ∷ ds; places = ps }, w)) none)
    few false ps w = refl
    few true ps w = refl

    placed : (ps w : List ℕ) → places_read true (d ∷ ds) ps w ≡ negated (places_read false (d ∷ ds) ps w)
    placed [] w = refl
    placed (p ∷ ps) w = few (leb (length (p ∷ ps)) 22) (p ∷ ps) w

    pointed : (z : Bool) → point_read true (d ∷ ds) z t ≡ negated (point_read false (d ∷ ds) z t)
    pointed false = refl
    pointed true = placed (digits_at (behind t)) (behind_digits (behind t))

negated_none : (o : Option (Number × List ℕ)) → Reads own o None → Reads own (negated o) None
unfolding negated
negated_none none h = h
negated_none (some (a, t)) h = absurd h

negated_some : (o : Option (Number × List ℕ)) (n : Numeral) (u : Bor (List ℕ)) → Reads own o (Some (n, u)) → Reads own (negated o) (Some (record { minus = true; digits = n.digits; places = n.places }, u))
unfolding numeral_of negated
negated_some none n u h = absurd h
negated_some (some (a, t)) n u h = (ap (λ (k : Numeral). record { minus = true; digits = k.digits; places = k.places }) h.0, h.1)

-- behind a minus
module _ (t u : List ℕ) (b : (begins minus_byte t ≡ true) × (u ≡ behind t)) where
  pub minus_none : Reads own (whole_read false (digits_at u) (behind_digits u)) None → Reads own (number_at t) None
  minus_none h = sign_some t u None b (subst (λ o. Reads own o None) (sym (whole-negated (digits_at u) (behind_digits u))) (negated_none _ h))

  pub minus_some : (n : Numeral) (v : Bor (List ℕ)) → Reads own (whole_read false (digits_at u) (behind_digits u)) (Some (n, v))
      → Reads own (number_at t) (Some (record { minus = true; digits = n.digits; places = n.places }, v))
  minus_some n v h = sign_some t u _ b (subst (λ o. Reads own o (Some (record { minus = true; digits = n.digits; places = n.places }, v))) (sym (whole-negated (digits_at u) (behind_digits u))) (negated_some _ n v h))

-- ---- a field

abbrev number_of : Field → Number
number_of f = f.number

plain-reads : (o : Option (Number × List ℕ)) (r : Read) → Reads own o r → Reads number_of (plain o) r
unfolding plain
plain-reads none None h = h
plain-reads none (Some a) h = h
plain-reads (some (n, u)) None h = h
plain-reads (some (n, u)) (Some a) h = h

pub field_plain : (t : List ℕ) (r : Read) → begins quote_byte t ≡ false → Reads own (number_at t) r → Reads number_of (field_at t) r
unfolding field_at quote_read
field_plain t r b h = subst (λ (z : Bool). Reads number_of (quote_read z t) r) (sym b) (plain-reads (number_at t) r h)

closed_bad : (o : Option (Number × List ℕ)) → Reads own o None → Reads number_of (closed o) None
unfolding closed
closed_bad none h = h
closed_bad (some (a, u)) h = absurd h

closed_open : (o : Option (Number × List ℕ)) (n : Numeral) (u : Bor (List ℕ)) → Reads own o (Some (n, u)) → begins quote_byte u.now ≡ false → Reads number_of (closed o) None
unfolding closed
closed_open none n u h b = absurd h
closed_open (some (a, v)) n u h b =
    subst (λ (z : Bool). Reads number_of (cond z (some (record { quoted = true; number = a }, behind v)) none) None) (sym (ap (begins quote_byte) (sym h.1) ∙ b)) tt

closed_is : (o : Option (Number × List ℕ)) (n : Numeral) (u rest : Bor (List ℕ)) → Reads own o (Some (n, u)) → (begins quote_byte u.now ≡ true) × (rest.now ≡ behind u.now) → Reads number_of (closed o) (Some (n, rest))
unfolding closed
closed_is none n u rest h b = absurd h
closed_is (some (a, v)) n u rest h b =
    subst (λ (z : Bool). Reads number_of (cond z (some (record { quoted = true; number = a }, behind v)) none) (Some (n, rest))) (sym (ap (begins quote_byte) (sym h.1) ∙ b.0)) (h.0, b.1 ∙ ap behind h.1)

-- behind a quote
module _ (t u : List ℕ) (b : (begins quote_byte t ≡ true) × (u ≡ behind t)) where
  quoted : (r : Read) → Reads number_of (closed (number_at u)) r → Reads number_of (field_at t) r
  unfolding field_at quote_read
  quoted r h = subst (λ (z : Bool). Reads number_of (quote_read z t) r) (sym b.0) (subst (λ (v : List ℕ). Reads number_of (closed (number_at v)) r) b.1 h)

  pub field_bad : Reads own (number_at u) None → Reads number_of (field_at t) None
  field_bad h = quoted None (closed_bad _ h)

  pub field_open : (n : Numeral) (v : Bor (List ℕ)) → Reads own (number_at u) (Some (n, v)) → begins quote_byte v.now ≡ false → Reads number_of (field_at t) None
  field_open n v h q = quoted None (closed_open _ n v h q)

  pub field_closed : (n : Numeral) (v rest : Bor (List ℕ)) → Reads own (number_at u) (Some (n, v)) → (begins quote_byte v.now ≡ true) × (rest.now ≡ behind v.now) → Reads number_of (field_at t) (Some (n, rest))
  field_closed n v rest h q = quoted _ (closed_is _ n v rest h q)

-- ---- with a comma before it

pub next-some : (t u : List ℕ) (r : Read) → (begins comma_byte t ≡ true) × (u ≡ behind t) → Reads number_of (field_at u) r → Reads number_of (next_at t) r
unfolding next_at
next-some t u r b h =
    subst (λ (z : Bool). Reads number_of (cond z (field_at (behind t)) none) r) (sym b.0) (subst (λ (v : List ℕ). Reads number_of (field_at v) r) b.1 h)

pub next-none : (t : List ℕ) → begins comma_byte t ≡ false → Reads number_of (next_at t) None
unfolding next_at
next-none t b = subst (λ (z : Bool). Reads number_of (cond z (field_at (behind t)) none) None) (sym b) tt

-- ---- the time

time_by : (o : Option (Field × List ℕ)) (n : Numeral) (u : Bor (List ℕ)) → Reads number_of o (Some (n, u)) → n.places ≡ 0 → Reads number_of (and_then o whole_only) (Some (n, u))
unfolding and_then whole_only is_empty numeral_of
time_by none n u h z = h
time_by (some (f, v)) n u h z = go f.number.places (sym (ap (λ (k : Numeral). k.places) h.0) ∙ z)
  where
    go : (l : List ℕ) → length l ≡ 0 → Reads number_of (cond (is_empty l) (some (f, v)) none) (Some (n, u))
    go [] q = h
    go (x ∷ l) q = absurd (omega (arith, q))

time-not : (o : Option (Field × List ℕ)) (n : Numeral) (u : Bor (List ℕ)) → Reads number_of o (Some (n, u)) → (n.places ≡ 0 → ⊥) → Reads number_of (and_then o whole_only) None
unfolding and_then whole_only is_empty numeral_of
time-not none n u h z = absurd h
time-not (some (f, v)) n u h z = go f.number.places (λ q. z (ap (λ (k : Numeral). k.places) h.0 ∙ q))
  where
    go : (l : List ℕ) → (length l ≡ 0 → ⊥) → Reads number_of (cond (is_empty l) (some (f, v)) none) None
    go [] q = absurd (q refl)
    go (x ∷ l) q = tt

time_bad : (o : Option (Field × List ℕ)) → Reads number_of o None → Reads number_of (and_then o whole_only) None
unfolding and_then
time_bad none h = h
time_bad (some (f, u)) h = absurd h

pub time-is : (t : List ℕ) (n : Numeral) (u : Bor (List ℕ)) → Reads number_of (field_at t) (Some (n, u)) → n.places ≡ 0 → Reads number_of (time_at t) (Some (n, u))
unfolding time_at
time-is t n u h z = time_by (field_at t) n u h z

pub time_point : (t : List ℕ) (n : Numeral) (u : Bor (List ℕ)) → Reads number_of (field_at t) (Some (n, u)) → (n.places ≡ 0 → ⊥) → Reads number_of (time_at t) None
unfolding time_at
time_point t n u h z = time-not (field_at t) n u h z

pub time-none : (t : List ℕ) → Reads number_of (field_at t) None → Reads number_of (time_at t) None
unfolding time_at
time-none t h = time_bad (field_at t) h
