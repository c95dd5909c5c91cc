-- HMAC-SHA-256 (RFC 2104) as a function on lists of bytes.
use Rattle.sha2.specs.Sha256.{sha256}
use Rattle.std.specs.Prelude.{List, bit_xor, if◌then◌else◌, length, map, nat_lt, replicate, ℕ, ◌++◌, ◌-◌}

-- the bytes, and zeros behind them up to a block of SHA-256
abbrev pub filled : List ℕ → List ℕ
filled bytes = bytes ++ replicate (64 - length bytes) 0

-- the key as a block: one that is longer than a block is hashed first
abbrev pub key_block : List ℕ → List ℕ
key_block key = filled (if nat_lt 64 (length key) then sha256 key else key)

-- each byte with the bits of this one turned
abbrev pub masked : ℕ → List ℕ → List ℕ
masked mask block = map (λ byte. bit_xor byte mask) block

-- the tag of a message by a key
abbrev pub hmac : List ℕ → List ℕ → List ℕ
hmac key message = sha256
    (masked 0x5C (key_block key) ++ sha256 (masked 0x36 (key_block key) ++ message))
