-- Lists of items that are read one after the other, and columns that are written so, from place 0 on.
-- Assumes nothing.
use Prim.Native.Nat.{ℕ, zero, suc, ◌+◌, ◌≤◌, ◌<◌}
use native.Mathlib.Omega.{arith}
use native.Mathlib.Nat.{zero-add}
use mathlib.Core.Path.{◌≡◌, refl, ap, sym, ◌∙◌}
use mathlib.Core.List.{List, [], ◌∷◌, ◌++◌, map, map-append}
use lib.ListN.{length, drop, get_or, set, length-append, length-map}
use lib.Seq.{drop-cons, append_snoc, set-append_seam}
use Rattle.strokes.specs.FractalRows.{pasted}
use Rattle.zones.specs.Code.StrokesRead.{items_from}

module _ {A : Type 0} where
  pub items_length : (g : ℕ → A) (p n : ℕ) → length (items_from g p n) ≡ n
  unfolding items_from
  items_length g p zero = refl
  items_length g p (suc n) = ap suc (items_length g (suc p) n)

  -- one more at the end
  pub items_more : (g : ℕ → A) (p n : ℕ) → items_from g p (n + 1) ≡ items_from g p n ++ g (p + n) ∷ []
  unfolding items_from
  items_more g p zero = let e : p ≡ p + 0 = omega arith in ap (λ (x : ℕ). g x ∷ []) e
  items_more g p (suc n) =
      let e : suc p + n ≡ p + suc n = omega arith in
      let d : suc n + 1 ≡ suc (n + 1) = omega arith in
      ap (items_from g p) d ∙ ap (λ (l : List A). g p ∷ l) (items_more g (suc p) n ∙ ap (λ (x : ℕ). items_from g (suc p) n ++ g x ∷ []) e)

  -- read the same item by item
  pub items_same : (g h : ℕ → A) (p q n : ℕ) → ((j : ℕ) → j < n → g (p + j) ≡ h (q + j)) → items_from g p n ≡ items_from h q n
  unfolding items_from
  items_same g h p q zero e = refl
  items_same g h p q (suc n) e =
      let a : p ≡ p + 0 = omega arith in
      let b : q + 0 ≡ q = omega arith in
      let k = ap g a ∙ e 0 (omega arith) ∙ ap h b in
      λ i. k i ∷ items_same g h (suc p) (suc q) n (λ j t. ap g (move p j) ∙ e (suc j) (omega arith) ∙ ap h (sym (move q j))) i
    where
      move : (x j : ℕ) → suc x + j ≡ x + suc j
      move x j = omega arith

  pub items_map : {B : Type 0} (f : A → B) (g : ℕ → A) (p n : ℕ) → map f (items_from g p n) ≡ items_from (λ (i : ℕ). f (g i)) p n
  unfolding items_from
  items_map f g p zero = refl
  items_map f g p (suc n) = ap (λ l. f (g p) ∷ l) (items_map f g (suc p) n)

  -- ---- a column that is written from place 0 on

  front_is : (d r : List A) → pasted d 0 r ≡ r ++ drop (length r) d
  unfolding pasted
  front_is d r = ap (λ (k : ℕ). r ++ drop k d) (zero-add (length r))

  pub put_none : (d : List A) → d ≡ pasted d 0 []
  unfolding pasted
  put_none d = refl

  pub put_more : (d r : List A) (v : A) → length r < length d → set (pasted d 0 r) (length r) v ≡ pasted d 0 (r ++ v ∷ [])
  put_more d r v h =
      let n = length r in
      let e : suc n ≡ length (r ++ v ∷ []) = omega (arith, length-append r (v ∷ [])) in
      ap (λ (l : List A). set l n v) (front_is d r ∙ ap (λ (l : List A). r ++ l) (drop-cons d n v h))
      ∙ set-append_seam r (get_or d n v) (drop (suc n) d) v
      ∙ sym (append_snoc r v (drop (suc n) d))
      ∙ ap (λ (k : ℕ). (r ++ v ∷ []) ++ drop k d) e
      ∙ sym (front_is d (r ++ v ∷ []))

-- the next row of a column
pub row-turn : {A B : Type 0} (row : A → B) (g : ℕ → A) (d l : List B) (p j : ℕ) (v : B) → l ≡ pasted d 0 (map row (items_from g p j)) → j < length d → v ≡ row (g (p + j))
    → set l j v ≡ pasted d 0 (map row (items_from g p (j + 1)))
row-turn row g d l p j v e h q =
    let r = map row (items_from g p j) in
    let n : length r ≡ j = length-map (items_from g p j) row ∙ items_length g p j in
    ap (λ x. set x j v) e
    ∙ ap (λ (k : ℕ). set (pasted d 0 r) k v) (sym n)
    ∙ put_more d r v (omega arith)
    ∙ ap (λ x. pasted d 0 (r ++ x ∷ [])) q
    ∙ ap (pasted d 0) (sym (ap (map row) (items_more g p j) ∙ map-append row (items_from g p j) (g (p + j) ∷ [])))

-- all rows
pub row-end : {A B : Type 0} (row : A → B) (g : ℕ → A) (d l : List B) (p j n : ℕ) → l ≡ pasted d 0 (map row (items_from g p j)) → j ≤ n → n ≤ j → l ≡ pasted d 0 (map row (items_from g p n))
row-end row g d l p j n e h k = let q : j ≡ n = omega arith in e ∙ ap (λ (x : ℕ). pasted d 0 (map row (items_from g p x))) q
