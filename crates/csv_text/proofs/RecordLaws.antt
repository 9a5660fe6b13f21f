-- What the code reads of a record, beside the definitions: its end, its fields and its length. Assumes nothing.
use mathlib.Core.Path.{◌≡◌, refl, sym, ap, ◌∙◌, subst}
use Prim.Native.Nat.{ℕ, ◌-◌, ◌≤◌}
use native.Mathlib.Omega.{arith}
use mathlib.Core.Bool.{Bool, true, false, ◌&&◌, cond}
use mathlib.Core.List.{List, [], ◌∷◌, ◌++◌}
use mathlib.Core.Option.{Option, none, some}
use lib.ListN.{length, length-append}
use denote.Ref.{Bor}
use Rattle.std.specs.Prelude as Std
use Rattle.std.specs.Prelude.{MatchOption, None, Some}
use Rattle.csv_text.specs.declared.numerals.Numeral.{Numeral}
use Rattle.csv_text.specs.Written.{Field, fields_of, fields_text, end_text, text_of, cr_byte, lf_byte}
use Rattle.csv_text.specs.Reading.{begins, behind, is_empty, end_at, and_then, time_at, next_at, ended, record_at}
use Rattle.csv_text.specs.Code.Numerals.{numeral_of, Reads}
use Rattle.csv_text.specs.Code.Fields.{numerals_of, ReadsRecord, ReadsEnd}
use Rattle.csv_text.proofs.Bytes.{begins-is}
use Rattle.csv_text.proofs.BothWays.{Told, TimeRead, NextRead, time-told, next-told, all_text}

-- ---- the end

pub end_of_text : (t : Bor (List ℕ)) → length t.now ≡ 0 → ReadsEnd t.now (end_at t.now) (Some t)
unfolding end_at is_empty end_text
end_of_text t h = go t.now refl h
  where
    go : (u : List ℕ) → u ≡ t.now → length u ≡ 0 → ReadsEnd u (end_at u) (Some t)
    go [] e h = e
    go (x ∷ u) e h = absurd (omega (arith, h))

pub end_no_cr : (t : List ℕ) → (length t ≡ 0 → ⊥) → begins cr_byte t ≡ false → ReadsEnd t (end_at t) None
unfolding end_at is_empty
end_no_cr [] h b = absurd (h refl)
end_no_cr (x ∷ t) h b = subst (λ (z : Bool). ReadsEnd (x ∷ t) (cond (z && begins lf_byte t) (some true) none) None) (sym b) tt

-- where the text goes on with CR, LF ends the record
pub end-crlf : (t u : List ℕ) (r : Std.Option (Bor (List ℕ))) → (begins cr_byte t ≡ true) × (u ≡ behind t) → MatchOption r (begins lf_byte u ≡ false) (λ x. (begins lf_byte u ≡ true) × (x.now ≡ behind u)) → ReadsEnd t (end_at t) r
unfolding end_at is_empty end_text
end-crlf t u r b h = subst (λ (v : List ℕ). ReadsEnd v (end_at v) r) (sym starts) (subst (λ (z : Bool). ReadsEnd (cr_byte ∷ u) (cond z (some true) none) r) refl (go r h))
  where
    starts : t ≡ cr_byte ∷ u
    starts = begins-is cr_byte t b.0 ∙ ap {B = List ℕ} (λ v. cr_byte ∷ v) (sym b.1)

    go : (r : Std.Option (Bor (List ℕ))) → MatchOption r (begins lf_byte u ≡ false) (λ x. (begins lf_byte u ≡ true) × (x.now ≡ behind u)) → ReadsEnd (cr_byte ∷ u) (cond (begins lf_byte u) (some true) none) r
    go None h = subst (λ (z : Bool). ReadsEnd (cr_byte ∷ u) (cond z (some true) none) None) (sym h) tt
    go (Some x) h =
        subst (λ (z : Bool). ReadsEnd (cr_byte ∷ u) (cond z (some true) none) (Some x)) (sym h.0)
        (ap {B = List ℕ} (λ v. cr_byte ∷ v) (begins-is lf_byte u h.0 ∙ ap {B = List ℕ} (λ v. lf_byte ∷ v) (sym h.1)))

-- ---- the fields

-- o reads a field whose numeral is n, and u is the text behind it
pub record IsRead (o : Option (Field × List ℕ)) (n : Numeral) (u : List ℕ) : Type 0 where
  pub field : Field
  pub is : o ≡ some (field, u)
  pub numeral : n ≡ numeral_of field.number

pub is_read : (o : Option (Field × List ℕ)) (n : Numeral) (u : Bor (List ℕ)) → Reads (λ (f : Field). f.number) o (Some (n, u)) → IsRead o n u.now
is_read none n u h = absurd h
is_read (some (f, v)) n u h = record { field = f; is = ap (λ (w : List ℕ). some (f, w)) (sym h.1); numeral = h.0 }

pub not_read : (o : Option (Field × List ℕ)) → Reads (λ (f : Field). f.number) o None → o ≡ none
not_read none h = refl
not_read (some a) h = absurd h

-- ---- the end, as it is read

pub record IsEnd (t rest : List ℕ) : Type 0 where
  pub crlf : Bool
  pub is : end_at t ≡ some crlf
  pub text : t ≡ end_text crlf ++ rest

pub is-end : (t : List ℕ) (rest : Bor (List ℕ)) → ReadsEnd t (end_at t) (Some rest) → IsEnd t rest.now
is-end t rest h = go (end_at t) refl h
  where
    go : (o : Option Bool) → end_at t ≡ o → ReadsEnd t o (Some rest) → IsEnd t rest.now
    go none p h = absurd h
    go (some c) p h = record { crlf = c; is = p; text = h }

pub not_end : (t : List ℕ) → ReadsEnd t (end_at t) None → end_at t ≡ none
not_end t h = go (end_at t) h
  where
    go : (o : Option Bool) → ReadsEnd t o None → o ≡ none
    go none h = refl
    go (some c) h = absurd h

-- ---- the record: seven fields, one behind the other, up to the first that is missing

told_at : {A : Type 0} (P : A → List ℕ → Type 0) (o : Option (A × List ℕ)) (a : A) (u : List ℕ) → Told P o → o ≡ some (a, u) → P a u
told_at P o a u h e = subst (λ z. Told P z) e h

none_read : (t : List ℕ) → record_at t ≡ none → ReadsRecord (record_at t) None
none_read t e = subst (λ o. ReadsRecord o None) (sym e) tt

-- the text is the fields' text, the end's and what is behind them
within : (t x y g rest : List ℕ) → t ≡ x ++ g → g ≡ y ++ rest → length rest ≤ length t
within t x y g rest e h =
    let l = ap length e ∙ length-append x g in
    let k = ap length h ∙ length-append y rest in
    omega arith

ends : (t x y g rest : List ℕ) → t ≡ x ++ g → g ≡ y ++ rest → length t - length rest ≡ length (x ++ y)
ends t x y g rest e h =
    let l = ap length e ∙ length-append x g in
    let k = ap length h ∙ length-append y rest in
    let r = length-append x y in
    omega arith

pub stop_0 : (t : List ℕ) → time_at t ≡ none → ReadsRecord (record_at t) None
unfolding record_at and_then
stop_0 t e = none_read t (rw e refl)

module _ (t : List ℕ) {n0 : Numeral} {a : List ℕ} (r0 : IsRead (time_at t) n0 a) where
  pub stop_1 : next_at a ≡ none → ReadsRecord (record_at t) None
  unfolding record_at and_then
  stop_1 e = none_read t (rw (r0.is, e) refl)

  module _ {n1 : Numeral} {b : List ℕ} (r1 : IsRead (next_at a) n1 b) where
    pub stop_2 : next_at b ≡ none → ReadsRecord (record_at t) None
    unfolding record_at and_then
    stop_2 e = none_read t (rw (r0.is, r1.is, e) refl)

    module _ {n2 : Numeral} {c : List ℕ} (r2 : IsRead (next_at b) n2 c) where
      pub stop_3 : next_at c ≡ none → ReadsRecord (record_at t) None
      unfolding record_at and_then
      stop_3 e = none_read t (rw (r0.is, r1.is, r2.is, e) refl)

      module _ {n3 : Numeral} {d : List ℕ} (r3 : IsRead (next_at c) n3 d) where
        pub stop_4 : next_at d ≡ none → ReadsRecord (record_at t) None
        unfolding record_at and_then
        stop_4 e = none_read t (rw (r0.is, r1.is, r2.is, r3.is, e) refl)

        module _ {n4 : Numeral} {e : List ℕ} (r4 : IsRead (next_at d) n4 e) where
          pub stop_5 : next_at e ≡ none → ReadsRecord (record_at t) None
          unfolding record_at and_then
          stop_5 e = none_read t (rw (r0.is, r1.is, r2.is, r3.is, r4.is, e) refl)

          module _ {n5 : Numeral} {f : List ℕ} (r5 : IsRead (next_at e) n5 f) where
            pub stop_6 : next_at f ≡ none → ReadsRecord (record_at t) None
            unfolding record_at and_then
            stop_6 e = none_read t (rw (r0.is, r1.is, r2.is, r3.is, r4.is, r5.is, e) refl)

            module _ {n6 : Numeral} {g : List ℕ} (r6 : IsRead (next_at f) n6 g) where
              pub stop_7 : end_at g ≡ none → ReadsRecord (record_at t) None
              unfolding record_at and_then ended
              stop_7 e = none_read t (rw (r0.is, r1.is, r2.is, r3.is, r4.is, r5.is, r6.is, e) refl)

              all-fields : t ≡ fields_text (r0.field ∷ r1.field ∷ r2.field ∷ r3.field ∷ r4.field ∷ r5.field ∷ r6.field ∷ []) ++ g
              all-fields =
                  all_text t a b c d e f g r0.field r1.field r2.field r3.field r4.field r5.field r6.field
                  (told_at (TimeRead t) (time_at t) _ _ (time-told t) r0.is)
                  (told_at (NextRead a) (next_at a) _ _ (next-told a) r1.is)
                  (told_at (NextRead b) (next_at b) _ _ (next-told b) r2.is)
                  (told_at (NextRead c) (next_at c) _ _ (next-told c) r3.is)
                  (told_at (NextRead d) (next_at d) _ _ (next-told d) r4.is)
                  (told_at (NextRead e) (next_at e) _ _ (next-told e) r5.is)
                  (told_at (NextRead f) (next_at f) _ _ (next-told f) r6.is)

              pub record_read : {rest : List ℕ} → IsEnd g rest → ReadsRecord (record_at t) (Some (record { time = n0; «open» = n1; close = n2; high = n3; low = n4; vol = n5; amount = n6 }, length t - length rest))
              unfolding record_at and_then ended numerals_of text_of fields_of
              record_read {rest} z =
                  rw (r0.is, r1.is, r2.is, r3.is, r4.is, r5.is, r6.is, z.is) (
                    rw (r0.numeral, r1.numeral, r2.numeral, r3.numeral, r4.numeral, r5.numeral, r6.numeral) refl,
                    ends t (fields_text (r0.field ∷ r1.field ∷ r2.field ∷ r3.field ∷ r4.field ∷ r5.field ∷ r6.field ∷ [])) (end_text z.crlf) g rest all-fields z.text,
                  )

              pub rest_within : {rest : List ℕ} → IsEnd g rest → length rest ≤ length t
              rest_within {rest} z = within t (fields_text (r0.field ∷ r1.field ∷ r2.field ∷ r3.field ∷ r4.field ∷ r5.field ∷ r6.field ∷ [])) (end_text z.crlf) g rest all-fields z.text
