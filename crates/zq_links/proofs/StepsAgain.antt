-- Where a stream of pieces stands is read again as it was written.

use Rattle.std.proofs.Common.{ap, append_assoc, List, Ok, refl, ℕ, ◌++◌, ◌∙◌, ◌≡◌}
use Rattle.std.specs.Int.{to_be_bytes, w32, w64}
use Rattle.zq_fields.proofs.Again.{u32_read, u64_read}
use Rattle.zq_links.specs.Numbers.{IsNumber, IsShortNumber, u32_at, u64_at}
use Rattle.zq_links.specs.Steps.{IsSpot, IsStep, spot_at, spot_bytes, step_at, step_bytes}
use Rattle.zq_links.specs.declared.spot.Spot.{Spot}

pub u32_again : (n : ℕ) (rest : List ℕ) → IsShortNumber n →
    u32_at (to_be_bytes w32 n ++ rest) ≡ Ok (n, rest)
u32_again n rest fits = rw (u32_read n rest fits) refl

pub u64_again : (n : ℕ) (rest : List ℕ) → IsNumber n →
    u64_at (to_be_bytes w64 n ++ rest) ≡ Ok (n, rest)
u64_again n rest fits = rw (u64_read n rest fits) refl

spot_of : (s : Spot) (b0 b1 b2 : List ℕ) → u64_at b0 ≡ Ok (s.key, b1) →
    u64_at b1 ≡ Ok (s.member, b2) → spot_at b0 ≡ Ok (s, b2)
unfolding spot_at
spot_of s b0 b1 b2 key member = rw (key, member) refl

pub spot_again : (s : Spot) (rest : List ℕ) → IsSpot s →
    spot_at (spot_bytes s ++ rest) ≡ Ok (s, rest)
unfolding spot_bytes
spot_again s rest sound =
    let key = to_be_bytes w64 s.key in
    let member = to_be_bytes w64 s.member in
    ap spot_at (append_assoc key member rest)
    ∙ spot_of s (key ++ (member ++ rest)) (member ++ rest) rest
    (u64_again s.key (member ++ rest) sound.key) (u64_again s.member rest sound.member)

step_of : (life number : ℕ) (next : Spot) (b0 b1 b2 b3 : List ℕ) → u64_at b0 ≡ Ok (life, b1) →
    u32_at b1 ≡ Ok (number, b2) → spot_at b2 ≡ Ok (next, b3) →
    step_at b0 ≡ Ok ((life, number, next), b3)
unfolding step_at
step_of life number next b0 b1 b2 b3 first second third = rw (first, second, third) refl

-- the parts that are appended are those of a step
pub step_written : (life number : ℕ) (next : Spot) (b0 b1 b2 b3 : List ℕ) →
    b1 ≡ b0 ++ to_be_bytes w64 life → b2 ≡ b1 ++ to_be_bytes w32 number →
    b3 ≡ b2 ++ spot_bytes next → b3 ≡ b0 ++ step_bytes life number next
unfolding step_bytes
step_written life number next b0 b1 b2 b3 first second third =
    let x = to_be_bytes w64 life in
    let y = to_be_bytes w32 number in
    let z = spot_bytes next in
    third
    ∙ (ap (λ b. b ++ z) (second ∙ ap (λ b. b ++ y) first)
    ∙ (append_assoc (b0 ++ x) y z ∙ append_assoc b0 x (y ++ z)))

-- whatever follows it
pub step_again : (life number : ℕ) (next : Spot) (rest : List ℕ) → IsStep life number next →
    step_at (step_bytes life number next ++ rest) ≡ Ok ((life, number, next), rest)
unfolding step_bytes
step_again life number next rest sound =
    let x = to_be_bytes w64 life in
    let y = to_be_bytes w32 number in
    let z = spot_bytes next in
    ap step_at (append_assoc x (y ++ z) rest ∙ ap (λ bytes. x ++ bytes) (append_assoc y z rest))
    ∙ step_of life number next (x ++ (y ++ (z ++ rest))) (y ++ (z ++ rest)) (z ++ rest) rest
    (u64_again life (y ++ (z ++ rest)) sound.life) (u32_again number (z ++ rest) sound.number)
    (spot_again next rest sound.next)
