-- A part of a list that is lent, and put back changed: it is what was put back, and every part beside it is as it was.
-- Assumes nothing.
use mathlib.Core.Path.{◌≡◌, sym, ap, ◌∙◌}
use mathlib.Core.List.{List, ◌++◌}
use mathlib.Core.Logic.{◌⊎◌, inl, inr}
use Prim.Native.Nat.{ℕ, ◌+◌, ◌-◌, ◌≤◌}
use native.Mathlib.Omega.{arith}
use lib.ListN.{length, take, drop}
use lib.Seq.{length-take-le, take-add, take-take, take_at, drop_at, drop-drop}
use borrow.Rule.Slice.PartMut.{post_of, put_mid, take_put, drop_put}

module _ {A : Type 0} where
  -- k elements from the j-th on, by those before their end
  upto : (j k : ℕ) (xs : List A) → j ≤ length xs → take k (drop j xs) ≡ drop j (take (j + k) xs)
  upto j k xs h = sym (ap (drop j) (take-add j k xs) ∙ drop_at (take j xs) (take k (drop j xs)) j (length-take-le j xs h))

  -- from the a-th to before the e-th
  module _ (a e : ℕ) (xs ys : List A) (order : a ≤ e) (within : e ≤ length xs) (long : length ys ≡ e - a) where
    abbrev back : List A
    back = put_mid a (e - a) xs ys

    pub lent_back : (k : ℕ) → k ≡ e - a → take k (drop a back) ≡ ys
    lent_back k h =
        ap (take k) (drop_at (take a xs) (ys ++ post_of a (e - a) xs) a (length-take-le a xs (omega arith)))
        ∙ take_at ys (post_of a (e - a) xs) k (omega arith)

    pub lent_beside : (j k : ℕ) → (j + k ≤ a) ⊎ (e ≤ j) → length back ≡ length xs → take k (drop j back) ≡ take k (drop j xs)
    lent_beside j k (inl h) l =
        upto j k back (omega arith)
        ∙ ap (drop j) (sym (take-take (j + k) a back h) ∙ ap (take (j + k)) (take_put a (e - a) xs ys (omega arith)) ∙ take-take (j + k) a xs h)
        ∙ sym (upto j k xs (omega arith))
    lent_beside j k (inr h) l =
        let n : e + (j - e) ≡ j = omega arith in
        ap (take k) (rw n at (sym (drop-drop (j - e) e back) ∙ ap (drop (j - e)) (drop_put a e xs ys order within long) ∙ drop-drop (j - e) e xs))
