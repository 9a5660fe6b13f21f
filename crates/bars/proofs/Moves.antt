-- Rows of a list replaced one by one: the laws of a loop that copies, of one that moves rows down, and of one that moves them up, for every type of row.
-- Assumes nothing.
use Prim.Native.Nat.{ℕ, zero, suc, ◌+◌, ◌-◌, ◌<◌, ◌≤◌}
use mathlib.Core.List.{List, [], ◌∷◌, ◌++◌, append-nil, append_assoc}
use mathlib.Core.Path.{◌≡◌, refl, ap, sym, ◌∙◌}
use native.Mathlib.Nat.{zero-add, suc-add, le_refl}
use native.Mathlib.Numerals.{add-one}
use native.Mathlib.Omega.{arith}
use lib.ListN.{length, take, drop, get_or, set, length-drop, get_or-append, drop_of_length-le}
use lib.Seq.{paste-zero, paste-suc, length_paste_head, length-paste, take-paste, drop-paste, drop-drop, take_all, take-nil}
use lib.Seq.{drop-cons, set-append_left, take-set-lt, take-suc-set, append_snoc, length-take-le, get_or-append-add, get_or-drop, get_or-take}
use Rattle.bars.specs.Lists.{copied}

module _ {A : Type 0} where
  -- ---- what a copy of n rows reads as

  pub length-copied : (d s : List A) (at from n : ℕ) → at + n ≤ length d → from + n ≤ length s → length (copied d at s from n) ≡ length d
  unfolding copied
  length-copied d s at from n hd hs = length-paste d at (drop from s) n hd (rw length-drop (omega arith))

  pub take-copied : (d s : List A) (at from n : ℕ) → at + n ≤ length d → from + n ≤ length s → take (at + n) (copied d at s from n) ≡ take at d ++ take n (drop from s)
  unfolding copied
  take-copied d s at from n hd hs = take-paste d at (drop from s) n (omega arith) (rw length-drop (omega arith))

  pub drop-copied : (d s : List A) (at from n : ℕ) → at + n ≤ length d → from + n ≤ length s → drop (at + n) (copied d at s from n) ≡ drop (at + n) d
  unfolding copied
  drop-copied d s at from n hd hs = drop-paste d at (drop from s) n (omega arith) (rw length-drop (omega arith))

  -- the run that is copied, of the rows up to its end
  pub run_is : (l : List A) (from n : ℕ) → take n (drop from l) ≡ drop from (take (from + n) l)
  run_is l zero n = rw (zero-add n)
  run_is [] (suc from) n = take-nil n ∙ sym (ap (drop (suc from)) (take-nil (suc from + n)))
  run_is (a ∷ l) (suc from) n = rw (suc-add from n) (run_is l from n)

  -- ---- a loop that copies, the first row first

  pub copied_none : (d s : List A) (at from : ℕ) → d ≡ copied d at s from 0
  unfolding copied
  copied_none d s at from = paste-zero d at (drop from s)

  -- j rows are copied, and the next one, v, is written to place k
  pub copied-turn : (d s l : List A) (at from j k : ℕ) (z v : A)
      → l ≡ copied d at s from j
      → at + j < length d
      → from + j < length s
      → k ≡ at + j
      → v ≡ get_or s (from + j) z
      → set l k v ≡ copied d at s from (j + 1)
  unfolding copied
  copied-turn d s l at from j k z v e hd hs p q =
      let h : j < length (drop from s) = rw length-drop (omega arith) in
      rw (e, p, q, add-one) (rw (← get_or-drop from s j z) (paste-suc d at (drop from s) j z hd h))

  -- the same from place 0 to place 0
  pub copy_turn : (d s l : List A) (j : ℕ) (z v : A) → l ≡ copied d 0 s 0 j → j < length d → j < length s → v ≡ get_or s j z → set l j v ≡ copied d 0 s 0 (j + 1)
  copy_turn d s l j z v e hd hs q =
      let h : 0 + j ≡ j = zero-add j in
      copied-turn d s l 0 0 j j z v e (omega arith) (omega arith) (sym h) (rw h q)

  -- ---- the same within one list, down

  -- a row that is still to be moved is as it was
  down_read : (s : List A) (at from j : ℕ) (z : A) → at ≤ from → from + j < length s → get_or (copied s at s from j) (from + j) z ≡ get_or s (from + j) z
  unfolding copied
  down_read s at from j z h k =
      let p = take at s ++ take j (drop from s) in
      let g : length p ≡ at + j = length_paste_head s at (drop from s) j (omega arith) (rw length-drop (omega arith)) in
      let e : from + j ≡ length p + (from - at) = omega arith in
      let f : at + j + (from - at) ≡ from + j = omega arith in
      ap (λ (m : ℕ). get_or (p ++ drop (at + j) s) m z) e
      ∙ get_or-append-add p (drop (at + j) s) (from - at) z
      ∙ get_or-drop (at + j) s (from - at) z
      ∙ ap (λ (m : ℕ). get_or s m z) f

  pub down_turn : (s l : List A) (at from j : ℕ) (z v : A)
      → l ≡ copied s at s from j
      → at ≤ from
      → from + j < length s
      → v ≡ get_or l (from + j) z
      → set l (at + j) v ≡ copied s at s from (j + 1)
  down_turn s l at from j z v e h k q =
      copied-turn s s l at from j (at + j) z v e (omega arith) k refl (q ∙ ap (λ (x : List A). get_or x (from + j) z) e ∙ down_read s at from j z h k)

  -- ---- the same within one list, up, the last row first: the rows from the i-th on are moved

  copied-back : (d s : List A) (at from n : ℕ) (z : A) → at < length d → from < length s → set (copied d (suc at) s (suc from) n) at (get_or s from z) ≡ copied d at s from (suc n)
  unfolding copied
  copied-back d s at from n z hd hs =
      let x = get_or s from z in
      let q = take n (drop (suc from) s) in
      let r = drop (suc at + n) d in
      let l : length (take (suc at) d) ≡ suc at = length-take-le (suc at) d hd in
      let h : at < length (take (suc at) d) = omega arith in
      let i : suc at + n ≡ at + suc n = omega arith in
      ap (λ (w : List A). set w at x) (append_assoc (take (suc at) d) q r)
      ∙ set-append_left (take (suc at) d) (q ++ r) at x h
      ∙ ap (λ (w : List A). w ++ (q ++ r)) (sym (take-set-lt (suc at) d at x (omega arith)) ∙ take-suc-set d at x hd)
      ∙ append_snoc (take at d) x (q ++ r)
      ∙ sym (append_assoc (take at d) (x ∷ q) r)
      ∙ (λ t. take at d ++ take (suc n) (sym (drop-cons s from z hs) t) ++ drop (i t) d)

  -- a row that is still to be moved is as it was
  up_read : (s : List A) (at from i m j : ℕ) (z : A) → from ≤ at → at + i ≤ length s → j < i → get_or (copied s (at + i) s (from + i) m) (from + j) z ≡ get_or s (from + j) z
  unfolding copied
  up_read s at from i m j z h k b =
      let q : length (take (at + i) s) ≡ at + i = length-take-le (at + i) s k in
      ap (λ (w : List A). get_or w (from + j) z) (append_assoc (take (at + i) s) (take m (drop (from + i) s)) (drop (at + i + m) s))
      ∙ get_or-append (take (at + i) s) (take m (drop (from + i) s) ++ drop (at + i + m) s) z (from + j) (omega arith)
      ∙ get_or-take (at + i) s (from + j) z (omega arith)

  pub up_turn : (s l : List A) (at from n j : ℕ) (z v : A)
      → l ≡ copied s (at + (j + 1)) s (from + (j + 1)) (n - (j + 1))
      → from ≤ at
      → at + n ≤ length s
      → j < n
      → v ≡ get_or l (from + j) z
      → set l (at + j) v ≡ copied s (at + j) s (from + j) (n - j)
  up_turn s l at from n j z v e h k b q =
      let i = j + 1 in
      let a : at + i ≡ suc (at + j) = omega arith in
      let f : from + i ≡ suc (from + j) = omega arith in
      let m : n - j ≡ suc (n - i) = omega arith in
      let r : v ≡ get_or s (from + j) z = q ∙ ap (λ (w : List A). get_or w (from + j) z) e ∙ up_read s at from i (n - i) j z h (omega arith) (omega arith) in
      (λ t. set ((e ∙ (λ u. copied s (a u) s (f u) (n - i))) t) (at + j) (r t))
      ∙ copied-back s s (at + j) (from + j) (n - i) z (omega arith) (omega arith)
      ∙ ap (copied s (at + j) s (from + j)) (sym m)

  -- ---- a part that was lent

  -- d after its part from `at` on, `&mut d[at..]`, was lent to a copy of the first n rows of `&s[from..]`
  pub part_copied : (d s p r : List A) (at from n : ℕ)
      → at + n ≤ length d
      → p ≡ take (length s - from) (drop from s)
      → r ≡ copied (take (length d - at) (drop at d)) 0 p 0 n
      → take at d ++ (r ++ drop (length d - at) (drop at d)) ≡ copied d at s from n
  unfolding copied
  part_copied d s p r at from n h i e =
      let whole : (x : List A) (a : ℕ) → take (length x - a) (drop a x) ≡ drop a x = λ x a. take_all (length x - a) (drop a x) (rw length-drop (le_refl (length x - a))) in
      let none : drop (length d - at) (drop at d) ≡ [] = drop_of_length-le (drop at d) {i = length d - at} (rw length-drop (le_refl (length d - at))) in
      rw (none, append-nil, e, i, whole s from, whole d at, zero-add, drop-drop) (sym (append_assoc (take at d) (take n (drop from s)) (drop (at + n) d)))
