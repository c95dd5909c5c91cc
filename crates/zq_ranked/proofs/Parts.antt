-- Parts of two lists one after another.
use Rattle.std.proofs.Common.{◌≡◌, ℕ, ◌+◌, List, ◌++◌, length, take, drop}
use Rattle.std.proofs.Math.Seq.{drop-append-add, take-append-add}

module _ {X : Type 0} where
  -- what is dropped past the first list
  pub drop_second : (l s : List X) (n w : ℕ) → n ≡ length l + w → drop n (l ++ s) ≡ drop w s
  drop_second l s n w e = rw e (drop-append-add l s w)

  -- what is taken past the first list
  pub take_second : (l s : List X) (n w : ℕ) → n ≡ length l + w → take n (l ++ s) ≡ l ++ take w s
  take_second l s n w e = rw e (take-append-add l s w)
