-- The floor that is written is read.

use Rattle.std.proofs.Common.{◌≡◌, ◌<◌, ◌≤◌, ◌+◌, ◌^◌, List, ℕ, length, take, drop, refl, ◌∙◌, ap, arith, length-append}
use Rattle.std.specs.Int.{from_be_bytes, to_be_bytes, w64}
use Rattle.std.specs.Prelude.{Bool, false, nat_lt, if◌then◌else◌}
use Rattle.std.proofs.lemmas.Bool.Decides.{nat_tests}
use Rattle.std.proofs.lemmas.Nat.{from_be_bytes-to_be_bytes_8}
use Rattle.zq_wal.specs.Format.{floor_of, payload_over}

-- it has its eight bytes
pub eight_before : (n : ℕ) (body : List ℕ) → length (payload_over n body) ≡ 8 + length body
eight_before n body = length-append (to_be_bytes w64 n) body

pub front_is_floor : (n : ℕ) (body : List ℕ) → take 8 (payload_over n body) ≡ to_be_bytes w64 n
front_is_floor n body = refl

pub rest_is_body : (n : ℕ) (body : List ℕ) → drop 8 (payload_over n body) ≡ body
rest_is_body n body = refl

pub floor_again : (n : ℕ) (body : List ℕ) → n < 2 ^ 64 → floor_of (payload_over n body) ≡ n
unfolding floor_of
floor_again n body fits =
    let long : nat_lt (length (payload_over n body)) 8 ≡ false = let e = eight_before n body in grind (arith, nat_tests, e) in
    ap (λ (b : Bool). if b then 0 else from_be_bytes w64 (take 8 (payload_over n body))) long ∙ ap (from_be_bytes w64) (front_is_floor n body)
    ∙ from_be_bytes-to_be_bytes_8 n fits

pub floor_written : (n : ℕ) (body : List ℕ) → n < 2 ^ 64 → floor_of (payload_over n body) ≤ n
floor_written n body fits = let is = floor_again n body fits in omega (arith, is)
