-- Reading and writing, both ways: the proof of `ReadsBack` of specs/Claims.antt. `..-told` goes from what is read to its text, `..-back` from the text to what is read. Assumes nothing.
use mathlib.Core.Path.{◌≡◌, refl, sym, ap, ◌∙◌, subst}
use Prim.Native.Nat.{ℕ, ◌≤◌}
use mathlib.Core.Bool.{Bool, true, false, not, ◌&&◌, cond, true≢false}
use mathlib.Core.List.{List, [], ◌∷◌, ◌++◌, append_assoc}
use mathlib.Core.Option.{Option, none, some}
use lib.ListN.{length}
use lib.Dec.{T, leb, eqb, leb→le, eqb→eq, T_not, not_T}
use borrow.Author.Tests.{le-leb}
use Rattle.arith.proofs.Tests.{no, holds}
use Rattle.csv_text.specs.Written.{Number, Field, Record, is_digit, Digits, IsNumber, IsRecord, fields_of, signed, pointed, number_text, in_quotes, field_text, more_text, fields_text, end_text, text_of, minus_byte, point_byte, quote_byte, comma_byte, cr_byte, lf_byte}
use Rattle.csv_text.specs.Reading.{begins, behind, digits_at, behind_digits, places_read, point_read, whole_read, sign_read, number_at, plain, closed, quote_read, field_at, next_at, is_empty, end_at, and_then, whole_only, time_at, ended, record_at}
use Rattle.csv_text.specs.Claims.{BeginsWith, ReadsBack}
use Rattle.csv_text.proofs.Bytes.{begins-is, digits_split, digits-all, stops, free, free_stops, free_point, digits-back, behind-back}

-- what is read has P, with the text behind it
abbrev pub Told : {A : Type 0} → (A → List ℕ → Type 0) → Option (A × List ℕ) → Type 0
Told P none = Unit {0}
Told P (some (a, u)) = P a u

told_cond : {A : Type 0} (P : A → List ℕ → Type 0) (b : Bool) (o : Option (A × List ℕ)) → (b ≡ true → Told P o) → Told P (cond b o none)
told_cond P true o f = f refl
told_cond P false o f = tt

signed-append : (m : Bool) (a v : List ℕ) → signed m (a ++ v) ≡ signed m a ++ v
unfolding signed
signed-append true a v = refl
signed-append false a v = refl

-- ---- a number

-- n is a number, and its text with u behind it is t
abbrev pub NumberRead : List ℕ → Number → List ℕ → Type 0
NumberRead t n u = IsNumber n × (t ≡ number_text n ++ u)

-- with the digits ds before the point, and v behind them
module _ (t : List ℕ) (m : Bool) (ds : List ℕ) (d+ : ds ≡ [] → ⊥) (digits : Digits ds) where
  places-told : (ps v : List ℕ) → Digits ps → t ≡ signed m (ds ++ (point_byte ∷ (ps ++ v))) → Told (NumberRead t) (places_read m ds ps v)
  unfolding places_read number_text pointed
  places-told [] v a e = tt
  places-told (p ∷ ps) v a e =
      told_cond (NumberRead t) (leb (length (p ∷ ps)) 22) _
      (λ h. (
        record { some_digit = d+; whole-digits = digits; place-digits = a; few-places = leb→le (length (p ∷ ps)) 22 (holds h) },
        e ∙ ap (signed m) (sym (append_assoc ds (point_byte ∷ p ∷ ps) v)) ∙ signed-append m (ds ++ point_byte ∷ p ∷ ps) v,
      ))

  point_told : (b : Bool) (v : List ℕ) → (b ≡ true → v ≡ point_byte ∷ behind v) → t ≡ signed m (ds ++ v) → Told (NumberRead t) (point_read m ds b v)
  unfolding point_read number_text pointed
  point_told false v f e = (
    record { some_digit = d+; whole-digits = digits; place-digits = tt; few-places = leb→le 0 22 tt },
    e ∙ ap (signed m) (sym (append_assoc ds [] v)) ∙ signed-append m (ds ++ []) v,
  )
  point_told true v f e =
      places-told (digits_at (behind v)) (behind_digits (behind v)) (digits-all (behind v))
      (e ∙ ap (λ (w : List ℕ). signed m (ds ++ w)) (f refl) ∙ ap (λ (w : List ℕ). signed m (ds ++ (point_byte ∷ w))) (digits_split (behind v)))

whole-told : (t : List ℕ) (m : Bool) (ds v : List ℕ) → Digits ds → t ≡ signed m (ds ++ v) → Told (NumberRead t) (whole_read m ds v)
unfolding whole_read
whole-told t m [] v a e = tt
whole-told t m (d ∷ ds) v a e = point_told t m (d ∷ ds) (λ p. not-empty d ds p) a (begins point_byte v) v (begins-is point_byte v) e
  where
    not-empty : (d : ℕ) (ds : List ℕ) → d ∷ ds ≡ [] → ⊥
    not-empty d ds p = subst (λ (l : List ℕ). full l) p tt
      where
        full : List ℕ → Type 0
        full [] = ⊥
        full (x ∷ l) = Unit {0}

pub number-told : (t : List ℕ) → Told (NumberRead t) (number_at t)
unfolding number_at sign_read signed
number-told t = go (begins minus_byte t) (begins-is minus_byte t)
  where
    go : (b : Bool) → (b ≡ true → t ≡ minus_byte ∷ behind t) → Told (NumberRead t) (sign_read b t)
    go true f = whole-told t true (digits_at (behind t)) (behind_digits (behind t)) (digits-all (behind t)) (f refl ∙ ap {B = List ℕ} (λ r. minus_byte ∷ r) (digits_split (behind t)))
    go false f = whole-told t false (digits_at t) (behind_digits t) (digits-all t) (digits_split t)

-- from the text: by the places
module _ (m : Bool) (ws : List ℕ) where
  back_point : (ps v : List ℕ) → Digits ps → length ps ≤ 22 → T (free v)
      → point_read m ws (begins point_byte (pointed ps ++ v)) (pointed ps ++ v) ≡ some (record { minus = m; whole = ws; places = ps }, v)
  unfolding point_read places_read pointed begins behind
  back_point [] v a h s = ap (λ (b : Bool). point_read m ws b v) (free_point v s)
  back_point (p ∷ ps) v a h s =
      ap (λ (l : List ℕ). places_read m ws l (behind_digits ((p ∷ ps) ++ v))) (digits-back (p ∷ ps) v a (free_stops v s))
      ∙ ap (λ (l : List ℕ). places_read m ws (p ∷ ps) l) (behind-back (p ∷ ps) v a (free_stops v s))
      ∙ ap (λ (b : Bool). cond b (some (record { minus = m; whole = ws; places = p ∷ ps }, v)) none) (le-leb (length (p ∷ ps)) 22 h)

stops_pointed : (ps v : List ℕ) → T (free v) → T (stops (pointed ps ++ v))
unfolding pointed is_digit
stops_pointed [] v s = free_stops v s
stops_pointed (p ∷ ps) v s = tt

back_whole : (m : Bool) (ws ps v : List ℕ) → (ws ≡ [] → ⊥) → Digits ws → Digits ps → length ps ≤ 22 → T (free v)
    → whole_read m (digits_at (ws ++ pointed ps ++ v)) (behind_digits (ws ++ pointed ps ++ v)) ≡ some (record { minus = m; whole = ws; places = ps }, v)
unfolding whole_read
back_whole m [] ps v e a b h s = absurd (e refl)
back_whole m (w ∷ ws) ps v e a b h s =
    ap (λ (l : List ℕ). whole_read m (digits_at l) (behind_digits l)) (append_assoc (w ∷ ws) (pointed ps) v)
    ∙ ap (λ (l : List ℕ). whole_read m l (behind_digits ((w ∷ ws) ++ (pointed ps ++ v)))) (digits-back (w ∷ ws) (pointed ps ++ v) a (stops_pointed ps v s))
    ∙ ap (λ (l : List ℕ). whole_read m (w ∷ ws) l) (behind-back (w ∷ ws) (pointed ps ++ v) a (stops_pointed ps v s))
    ∙ back_point m (w ∷ ws) ps v b h s

-- without a minus a number begins with a digit, and so with no other byte
digit_first : (b : ℕ) (ws v : List ℕ) → (ws ≡ [] → ⊥) → Digits ws → T (not (is_digit b)) → begins b (ws ++ v) ≡ false
unfolding begins
digit_first b [] v e a d = absurd (e refl)
digit_first b (w ∷ ws) v e a d = no (eqb w b) (not_T (eqb w b) (λ q. T_not (is_digit b) d (subst (λ (z : ℕ). T (is_digit z)) (eqb→eq w b q) a.0)))

signed_back : (m : Bool) (ws ps v : List ℕ) → (ws ≡ [] → ⊥) → Digits ws → Digits ps → length ps ≤ 22 → T (free v)
    → number_at (signed m (ws ++ pointed ps) ++ v) ≡ some (record { minus = m; whole = ws; places = ps }, v)
unfolding number_at sign_read signed begins behind is_digit
signed_back true ws ps v e a b h s = back_whole true ws ps v e a b h s
signed_back false ws ps v e a b h s =
    ap (λ (z : Bool). sign_read z (ws ++ pointed ps ++ v)) (ap (begins minus_byte) (append_assoc ws (pointed ps) v) ∙ digit_first minus_byte ws (pointed ps ++ v) e a tt)
    ∙ back_whole false ws ps v e a b h s

pub number-back : (n : Number) (v : List ℕ) → IsNumber n → T (free v) → number_at (number_text n ++ v) ≡ some (n, v)
unfolding number_text
number-back n v h s = signed_back n.minus n.whole n.places v h.some_digit h.whole-digits h.place-digits h.few-places s

-- ---- a field

abbrev pub FieldRead : List ℕ → Field → List ℕ → Type 0
FieldRead t f u = IsNumber f.number × (t ≡ field_text f ++ u)

plain-told : (t : List ℕ) (o : Option (Number × List ℕ)) → Told (NumberRead t) o → Told (FieldRead t) (plain o)
unfolding plain field_text in_quotes
plain-told t none h = tt
plain-told t (some (n, u)) h = h

closed-told : (t w : List ℕ) (o : Option (Number × List ℕ)) → t ≡ quote_byte ∷ w → Told (NumberRead w) o → Told (FieldRead t) (closed o)
unfolding closed field_text in_quotes
closed-told t w none e h = tt
closed-told t w (some (n, u)) e h =
    told_cond (FieldRead t) (begins quote_byte u) _
    (λ q. (
      h.0,
      e ∙ ap {B = List ℕ} (λ r. quote_byte ∷ r) (h.1 ∙ ap (λ (r : List ℕ). number_text n ++ r) (begins-is quote_byte u q) ∙ sym (append_assoc (number_text n) (quote_byte ∷ []) (behind u))),
    ))

pub field_told : (t : List ℕ) → Told (FieldRead t) (field_at t)
unfolding field_at quote_read
field_told t = go (begins quote_byte t) (begins-is quote_byte t)
  where
    go : (b : Bool) → (b ≡ true → t ≡ quote_byte ∷ behind t) → Told (FieldRead t) (quote_read b t)
    go true f = closed-told t (behind t) (number_at (behind t)) (f refl) (number-told (behind t))
    go false f = plain-told t (number_at t) (number-told t)

no_quote : (m : Bool) (ws ps v : List ℕ) → (ws ≡ [] → ⊥) → Digits ws → begins quote_byte (signed m (ws ++ pointed ps) ++ v) ≡ false
unfolding begins signed is_digit
no_quote true ws ps v e a = refl
no_quote false ws ps v e a = ap (begins quote_byte) (append_assoc ws (pointed ps) v) ∙ digit_first quote_byte ws (pointed ps ++ v) e a tt

quoted-back : (q : Bool) (n : Number) (v : List ℕ) → IsNumber n → T (free v) → field_at (in_quotes q (number_text n) ++ v) ≡ some (record { quoted = q; number = n }, v)
unfolding field_at quote_read in_quotes plain closed begins behind is_digit number_text
quoted-back true n v h s = ap closed (ap number_at (append_assoc (number_text n) (quote_byte ∷ []) v) ∙ number-back n (quote_byte ∷ v) h tt)
quoted-back false n v h s =
    ap (λ (b : Bool). quote_read b (number_text n ++ v)) (no_quote n.minus n.whole n.places v h.some_digit h.whole-digits)
    ∙ ap plain (number-back n v h s)

pub field_back : (f : Field) (v : List ℕ) → IsNumber f.number → T (free v) → field_at (field_text f ++ v) ≡ some (f, v)
unfolding field_text
field_back f v h s = quoted-back f.quoted f.number v h s

-- ---- with a comma before it

abbrev pub NextRead : List ℕ → Field → List ℕ → Type 0
NextRead t f u = IsNumber f.number × (t ≡ comma_byte ∷ field_text f ++ u)

pub next-told : (t : List ℕ) → Told (NextRead t) (next_at t)
unfolding next_at
next-told t = told_cond (NextRead t) (begins comma_byte t) (field_at (behind t)) (λ q. moved (field_at (behind t)) (begins-is comma_byte t q) (field_told (behind t)))
  where
    moved : (o : Option (Field × List ℕ)) → t ≡ comma_byte ∷ behind t → Told (FieldRead (behind t)) o → Told (NextRead t) o
    moved none e h = tt
    moved (some (f, u)) e h = (h.0, e ∙ ap {B = List ℕ} (λ r. comma_byte ∷ r) h.1)

pub next-back : (f : Field) (l : List Field) (v : List ℕ) → IsNumber f.number → T (free (more_text l ++ v)) → next_at (more_text (f ∷ l) ++ v) ≡ some (f, more_text l ++ v)
unfolding next_at begins behind more_text
next-back f l v h s = ap field_at (append_assoc (field_text f) (more_text l) v) ∙ field_back f (more_text l ++ v) h s

-- behind fields that are read, with a comma or with the record's end
pub free_more : (l : List Field) (v : List ℕ) → T (free v) → T (free (more_text l ++ v))
unfolding more_text is_digit
free_more [] v s = s
free_more (f ∷ l) v s = tt

-- ---- the time

empty-is : (l : List ℕ) → is_empty l ≡ true → l ≡ []
unfolding is_empty
empty-is [] e = refl
empty-is (x ∷ l) e = absurd (true≢false (sym e))

abbrev pub TimeRead : List ℕ → Field → List ℕ → Type 0
TimeRead t f u = FieldRead t f u × (f.number.places ≡ [])

pub time-told : (t : List ℕ) → Told (TimeRead t) (time_at t)
unfolding time_at
time-told t = go (field_at t) (field_told t)
  where
    go : (o : Option (Field × List ℕ)) → Told (FieldRead t) o → Told (TimeRead t) (and_then o whole_only)
    go none h = tt
    go (some (f, u)) h = told_cond (TimeRead t) (is_empty f.number.places) (some (f, u)) (λ e. (h, empty-is f.number.places e))

pub time-back : (f : Field) (v : List ℕ) → IsNumber f.number → f.number.places ≡ [] → T (free v) → time_at (field_text f ++ v) ≡ some (f, v)
unfolding time_at and_then whole_only is_empty
time-back f v h e s =
    ap (λ (o : Option (Field × List ℕ)). and_then o whole_only) (field_back f v h s) ∙ ap (λ (l : List ℕ). cond (is_empty l) (some (f, v)) none) e

-- ---- the end

pub record EndRead (t : List ℕ) (c : Bool) : Type 0 where
  pub rest : List ℕ
  pub is : t ≡ end_text c ++ rest
  pub last : c ≡ false → rest ≡ []

-- what is read has Q
abbrev pub ToldBy : {A : Type 0} → (A → Type 0) → Option A → Type 0
ToldBy Q none = Unit {0}
ToldBy Q (some a) = Q a

pub end-told : (t : List ℕ) → ToldBy (EndRead t) (end_at t)
unfolding end_at is_empty end_text
end-told [] = record { rest = []; is = refl; last = λ e. refl }
end-told (x ∷ l) = go (begins cr_byte (x ∷ l)) (begins lf_byte (behind (x ∷ l))) (begins-is cr_byte (x ∷ l)) (begins-is lf_byte (behind (x ∷ l)))
  where
    go : (a b : Bool) → (a ≡ true → x ∷ l ≡ cr_byte ∷ behind (x ∷ l)) → (b ≡ true → behind (x ∷ l) ≡ lf_byte ∷ behind (behind (x ∷ l)))
        → ToldBy (EndRead (x ∷ l)) (cond (a && b) (some true) none)
    go true true f g =
        record { rest = behind (behind (x ∷ l)); is = f refl ∙ ap {B = List ℕ} (λ r. cr_byte ∷ r) (g refl); last = λ e. absurd (true≢false e) }
    go true false f g = tt
    go false b f g = tt

pub end_back : (c : Bool) (rest : List ℕ) → (c ≡ false → rest ≡ []) → end_at (end_text c ++ rest) ≡ some c
unfolding end_at is_empty end_text begins behind
end_back true rest f = refl
end_back false rest f = ap end_at (f refl)

free_end : (c : Bool) (rest : List ℕ) → (c ≡ false → rest ≡ []) → T (free (end_text c ++ rest))
unfolding end_text is_digit
free_end true rest f = tt
free_end false rest f = subst (λ (l : List ℕ). T (free l)) (sym (f refl)) tt

-- ---- the record

pub then_is : {A B : Type 0} (o : Option (A × List ℕ)) (k : A → List ℕ → Option B) (a : A) (u : List ℕ) → o ≡ some (a, u) → and_then o k ≡ k a u
unfolding and_then
then_is o k a u e = ap (λ z. and_then z k) e

then_told : {A B : Type 0} (P : A → List ℕ → Type 0) (Q : B → Type 0) (o : Option (A × List ℕ)) (k : A → List ℕ → Option B) → Told P o → ((a : A) (u : List ℕ) → P a u → ToldBy Q (k a u)) → ToldBy Q (and_then o k)
unfolding and_then
then_told P Q none k h f = tt
then_told P Q (some (a, u)) k h f = f a u h

more_cons : (t : List ℕ) (f : Field) (u : List ℕ) (l : List Field) (v : List ℕ) → NextRead t f u → u ≡ more_text l ++ v → t ≡ more_text (f ∷ l) ++ v
unfolding more_text
more_cons t f u l v h e = h.1 ∙ ap {B = List ℕ} (λ r. comma_byte ∷ r) (ap (λ (r : List ℕ). field_text f ++ r) e ∙ sym (append_assoc (field_text f) (more_text l) v))

-- seven fields read, one behind the other
module _ (t0 t1 t2 t3 t4 t5 t6 t7 : List ℕ) (f0 f1 f2 f3 f4 f5 f6 : Field)
    (h0 : TimeRead t0 f0 t1) (h1 : NextRead t1 f1 t2) (h2 : NextRead t2 f2 t3) (h3 : NextRead t3 f3 t4) (h4 : NextRead t4 f4 t5) (h5 : NextRead t5 f5 t6) (h6 : NextRead t6 f6 t7) where
  pub all_text : t0 ≡ fields_text (f0 ∷ f1 ∷ f2 ∷ f3 ∷ f4 ∷ f5 ∷ f6 ∷ []) ++ t7
  unfolding fields_text more_text
  all_text =
      h0.0.1
      ∙ ap (λ (r : List ℕ). field_text f0 ++ r)
      (more_cons t1 f1 t2 (f2 ∷ f3 ∷ f4 ∷ f5 ∷ f6 ∷ []) t7 h1
      (more_cons t2 f2 t3 (f3 ∷ f4 ∷ f5 ∷ f6 ∷ []) t7 h2
      (more_cons t3 f3 t4 (f4 ∷ f5 ∷ f6 ∷ []) t7 h3
      (more_cons t4 f4 t5 (f5 ∷ f6 ∷ []) t7 h4
      (more_cons t5 f5 t6 (f6 ∷ []) t7 h5
      (more_cons t6 f6 t7 [] t7 h6 refl))))))
      ∙ sym (append_assoc (field_text f0) (more_text (f1 ∷ f2 ∷ f3 ∷ f4 ∷ f5 ∷ f6 ∷ [])) t7)

  all_told : (o : Option Bool) → ToldBy (EndRead t7) o
      → ToldBy (λ r. IsRecord r × BeginsWith t0 r) (ended (λ crlf. record { time = f0; «open» = f1; close = f2; high = f3; low = f4; vol = f5; amount = f6; crlf = crlf }) o)
  unfolding ended fields_of text_of
  all_told none e = tt
  all_told (some c) e = (
    record { numbers = (h0.0.0, (h1.0, (h2.0, (h3.0, (h4.0, (h5.0, (h6.0, tt))))))); whole_seconds = h0.1 },
    record {
      rest = e.rest;
      is =
          all_text ∙ ap (λ (r : List ℕ). fields_text (f0 ∷ f1 ∷ f2 ∷ f3 ∷ f4 ∷ f5 ∷ f6 ∷ []) ++ r) e.is
          ∙ sym (append_assoc (fields_text (f0 ∷ f1 ∷ f2 ∷ f3 ∷ f4 ∷ f5 ∷ f6 ∷ [])) (end_text c) e.rest);
      last = e.last;
    },
  )

pub record-told : (t : List ℕ) → ToldBy (λ r. IsRecord r × BeginsWith t r) (record_at t)
unfolding record_at
record-told t =
    then_told (TimeRead t) _ (time_at t) _ (time-told t)
    (λ f0 t1 h0. then_told (NextRead t1) _ (next_at t1) _ (next-told t1)
    (λ f1 t2 h1. then_told (NextRead t2) _ (next_at t2) _ (next-told t2)
    (λ f2 t3 h2. then_told (NextRead t3) _ (next_at t3) _ (next-told t3)
    (λ f3 t4 h3. then_told (NextRead t4) _ (next_at t4) _ (next-told t4)
    (λ f4 t5 h4. then_told (NextRead t5) _ (next_at t5) _ (next-told t5)
    (λ f5 t6 h5. then_told (NextRead t6) _ (next_at t6) _ (next-told t6)
    (λ f6 t7 h6. all_told t t1 t2 t3 t4 t5 t6 t7 f0 f1 f2 f3 f4 f5 f6 h0 h1 h2 h3 h4 h5 h6 (end_at t7) (end-told t7))))))))

pub record-back : (r : Record) (rest : List ℕ) → IsRecord r → (r.crlf ≡ false → rest ≡ []) → record_at (text_of r ++ rest) ≡ some r
unfolding record_at text_of fields_text fields_of ended and_then
record-back r rest h f =
    let v = end_text r.crlf ++ rest in
    let s = free_end r.crlf rest f in
    let n = h.numbers in
    let l5 : List Field = r.amount ∷ [] in
    let l4 : List Field = r.vol ∷ l5 in
    let l3 : List Field = r.low ∷ l4 in
    let l2 : List Field = r.high ∷ l3 in
    let l1 : List Field = r.close ∷ l2 in
    let l0 : List Field = r.«open» ∷ l1 in
    rw (
      append_assoc (field_text r.time ++ more_text l0) (end_text r.crlf) rest,
      append_assoc (field_text r.time) (more_text l0) v,
      time-back r.time (more_text l0 ++ v) n.0 h.whole_seconds (free_more l0 v s),
      next-back r.«open» l1 v n.1.0 (free_more l1 v s),
      next-back r.close l2 v n.1.1.0 (free_more l2 v s),
      next-back r.high l3 v n.1.1.1.0 (free_more l3 v s),
      next-back r.low l4 v n.1.1.1.1.0 (free_more l4 v s),
      next-back r.vol l5 v n.1.1.1.1.1.0 (free_more l5 v s),
      next-back r.amount [] v n.1.1.1.1.1.1.0 (free_more [] v s),
      last_end r.crlf rest f,
    )
  where
    last_end : (c : Bool) (rest : List ℕ) → (c ≡ false → rest ≡ []) → end_at (more_text [] ++ (end_text c ++ rest)) ≡ some c
    last_end c rest f = end_back c rest f

pub reads-back : ReadsBack
reads-back =
    record {
      back = λ t r h b. ap record_at b.is ∙ record-back r b.rest h b.last;
      only = λ t r e. subst (λ (o : Option Record). ToldBy (λ q. IsRecord q × BeginsWith t q) o) e (record-told t);
    }
