-- A tag has 32 bytes.

use Rattle.sha2.specs.Sha256.{digest_bytes, sha256}
use Rattle.std.proofs.Common.{arith, length, List, refl, suc, zero, ℕ, ◌*◌, ◌≡◌}
use Rattle.std.proofs.lemmas.List.{length-append}
use Rattle.zq_wire.specs.Hmac.{hmac}

-- a digest has four bytes for each of its words
digest_long : (words : List ℕ) (n : ℕ) → length (digest_bytes words n) ≡ 4 * n
unfolding digest_bytes
digest_long words zero = refl
digest_long words (suc n) = simp length-append (omega (arith, digest_long words n))

pub hmac_long : (key message : List ℕ) → length (hmac key message) ≡ 32
unfolding sha256
hmac_long key message = digest_long _ 8
