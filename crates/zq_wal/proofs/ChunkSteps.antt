-- One byte more of a chunk.

use Rattle.std.proofs.Common.{◌≡◌, ◌≢◌, inl, inr, ◌⊎◌, ℕ, List, [], ◌∷◌, ◌++◌, refl, sym, ◌∙◌, ap, arith, append_assoc, Bor}
use Rattle.std.specs.Prelude.{Bool, IfNone, IfSome, Option, None, Some, true, false, ◌||◌, ◌==◌}
use Rattle.std.specs.List.{list_any}
use Rattle.std.proofs.lemmas.Bool.Decides.{nat_tests}
use Rattle.std.proofs.lemmas.List.{append-nil}
use Rattle.zq_wal.specs.Chunk.{IsChunk, behind, with_rest}
use Rattle.zq_wal.specs.declared.chunk.Chunk.{Chunk}
use Rattle.zq_wal.specs.Format.{checked, checked_bytes, decoded, meant, unescaped, with_front}
use Rattle.zq_wal.proofs.Escaping.{behind_nothing, behind_one}

or_nothing : (a : Bool) → (a || false) ≡ a
or_nothing true = refl
or_nothing false = refl

or_more : (a b c : Bool) → (a || (b || c)) ≡ ((a || b) || c)
or_more true b c = refl
or_more false b c = refl

pub any_push : {X : Type 0} (test : X → Bool) (xs : List X) (x : X) → list_any test (xs ++ x ∷ []) ≡ (list_any test xs || test x)
any_push test [] x = or_nothing (test x)
any_push test (y ∷ xs) x = ap (λ b. test y || b) (any_push test xs x) ∙ or_more (test y) (list_any test xs) (test x)

-- no byte has come
pub fresh_chunk : (chunk : Chunk) → chunk.has_zero ≡ false → chunk.spoilt ≡ false → chunk.escaped ≡ false → chunk.bytes.items ≡ [] → IsChunk [] chunk
fresh_chunk chunk no_zero clean plain none = record {
  zero = no_zero;
  means = λ more. behind_nothing (unescaped false more) ∙ ap (λ (l : List ℕ). behind l (unescaped false more)) (sym none)
      ∙ ap (λ (b : Bool). behind chunk.bytes.items (unescaped b more)) (sym plain) ∙ ap (λ (b : Bool). with_rest b chunk.bytes.items (unescaped chunk.escaped more)) (sym clean);
}

-- what one byte makes of a chunk
module _ (bytes : List ℕ) (byte : ℕ) (old new : Chunk) (is : IsChunk bytes old) (zero : new.has_zero ≡ (old.has_zero || (byte == 0))) where
  zero_on : new.has_zero ≡ list_any (λ b. b == 0) (bytes ++ byte ∷ [])
  zero_on = zero ∙ ap (λ b. b || (byte == 0)) is.zero ∙ sym (any_push (λ (b : ℕ). b == 0) bytes byte)

  next_byte : (more : List ℕ) → unescaped false ((bytes ++ byte ∷ []) ++ more) ≡ with_rest old.spoilt old.bytes.items (unescaped old.escaped (byte ∷ more))
  next_byte more = ap (unescaped false) (append_assoc bytes (byte ∷ []) more) ∙ is.means (byte ∷ more)

  stepped : ((more : List ℕ) → with_rest old.spoilt old.bytes.items (unescaped old.escaped (byte ∷ more)) ≡ with_rest new.spoilt new.bytes.items (unescaped new.escaped more)) → IsChunk (bytes ++ byte ∷ []) new
  stepped step = record { zero = zero_on; means = λ more. next_byte more ∙ step more }

  pub spoilt_step : old.spoilt ≡ true → new.spoilt ≡ true → IsChunk (bytes ++ byte ∷ []) new
  spoilt_step was now = stepped (λ more. ap (λ (b : Bool). with_rest b old.bytes.items (unescaped old.escaped (byte ∷ more))) was
      ∙ sym (ap (λ (b : Bool). with_rest b new.bytes.items (unescaped new.escaped more)) now))

  pub escape_step : old.escaped ≡ false → byte ≡ 254 → new.escaped ≡ true → new.spoilt ≡ old.spoilt → new.bytes.items ≡ old.bytes.items → IsChunk (bytes ++ byte ∷ []) new
  escape_step was is_escape now spoilt same = stepped (λ more.
      ap (λ (b : Bool). with_rest old.spoilt old.bytes.items (unescaped b (byte ∷ more))) was
      ∙ ap (λ (b : ℕ). with_rest old.spoilt old.bytes.items (unescaped false (b ∷ more))) is_escape
      ∙ ap (λ (b : Bool). with_rest old.spoilt old.bytes.items (unescaped b more)) (sym now)
      ∙ ap (λ (b : Bool). with_rest b old.bytes.items (unescaped new.escaped more)) (sym spoilt)
      ∙ ap (λ (l : List ℕ). with_rest new.spoilt l (unescaped new.escaped more)) (sym same))

  -- where the byte is no escape, what it stands for comes before the rest
  no_escape : (escaped : Bool) (more : List ℕ) → (escaped ≡ true) ⊎ (byte ≢ 254) → unescaped escaped (byte ∷ more) ≡ with_front (meant escaped byte) (unescaped false more)
  no_escape true more either = refl
  no_escape false more (inl wrong) = absurd (cc)
  no_escape false more (inr other) = grind (arith, nat_tests, other)

  pub wrong_step : (old.escaped ≡ true) ⊎ (byte ≢ 254) → meant old.escaped byte ≡ None → old.spoilt ≡ false → new.spoilt ≡ true → IsChunk (bytes ++ byte ∷ []) new
  wrong_step either none was now = stepped (λ more.
      ap (λ (b : Bool). with_rest b old.bytes.items (unescaped old.escaped (byte ∷ more))) was
      ∙ ap (behind old.bytes.items) (no_escape old.escaped more either ∙ ap (λ (o : Option ℕ). with_front o (unescaped false more)) none)
      ∙ sym (ap (λ (b : Bool). with_rest b new.bytes.items (unescaped new.escaped more)) now))

  pub byte_step : (m : ℕ) → (old.escaped ≡ true) ⊎ (byte ≢ 254) → meant old.escaped byte ≡ Some m → old.spoilt ≡ false → new.spoilt ≡ false → new.escaped ≡ false →
      new.bytes.items ≡ old.bytes.items ++ m ∷ [] → IsChunk (bytes ++ byte ∷ []) new
  byte_step m either some was clean plain longer = stepped (λ more.
      ap (λ (b : Bool). with_rest b old.bytes.items (unescaped old.escaped (byte ∷ more))) was
      ∙ ap (behind old.bytes.items) (no_escape old.escaped more either ∙ ap (λ (o : Option ℕ). with_front o (unescaped false more)) some)
      ∙ behind_one old.bytes.items m (unescaped false more)
      ∙ ap (λ (l : List ℕ). behind l (unescaped false more)) (sym longer)
      ∙ ap (λ (b : Bool). behind new.bytes.items (unescaped b more)) (sym plain)
      ∙ sym (ap (λ (b : Bool). with_rest b new.bytes.items (unescaped new.escaped more)) clean))

-- what a whole chunk is
module _ (bytes : List ℕ) (chunk : Chunk) (is : IsChunk bytes chunk) where
  whole : unescaped false bytes ≡ with_rest chunk.spoilt chunk.bytes.items (unescaped chunk.escaped [])
  whole = ap (unescaped false) (sym (append-nil bytes)) ∙ is.means []

  pub spoilt_is_none : chunk.spoilt ≡ true → decoded bytes ≡ None
  spoilt_is_none spoilt = ap checked (whole ∙ ap (λ (b : Bool). with_rest b chunk.bytes.items (unescaped chunk.escaped [])) spoilt)

  rest_none : (spoilt : Bool) (front : List ℕ) → with_rest spoilt front None ≡ None
  rest_none true front = refl
  rest_none false front = refl

  pub escaped_is_none : chunk.escaped ≡ true → decoded bytes ≡ None
  escaped_is_none escaped = ap checked (whole ∙ ap (λ (b : Bool). with_rest chunk.spoilt chunk.bytes.items (unescaped b [])) escaped ∙ rest_none chunk.spoilt chunk.bytes.items)

  pub decoded_is_checked : chunk.spoilt ≡ false → chunk.escaped ≡ false → decoded bytes ≡ checked_bytes chunk.bytes.items
  decoded_is_checked clean plain = ap checked (whole ∙ ap (λ (b : Bool). with_rest b chunk.bytes.items (unescaped chunk.escaped [])) clean
      ∙ ap (λ (b : Bool). behind chunk.bytes.items (unescaped b [])) plain ∙ ap (λ (l : List ℕ). Some l) (append-nil chunk.bytes.items))

-- the answer of a chunk is that of what its bytes stand for
pub payload_some : (chunk : Chunk) (result : Option (Bor (List ℕ))) → chunk.spoilt ≡ false → chunk.escaped ≡ false → IfSome result (λ p. checked_bytes chunk.bytes.items ≡ Some p.now) →
    IfSome result (λ p. (bytes : List ℕ) → IsChunk bytes chunk → decoded bytes ≡ Some p.now)
payload_some chunk (Some p) clean plain some = λ bytes is. decoded_is_checked bytes chunk is clean plain ∙ some
payload_some chunk None clean plain some = tt

pub payload_none : (chunk : Chunk) (result : Option (Bor (List ℕ))) → chunk.spoilt ≡ false → chunk.escaped ≡ false → IfNone result (checked_bytes chunk.bytes.items ≡ None) →
    IfNone result ((bytes : List ℕ) → IsChunk bytes chunk → decoded bytes ≡ None)
payload_none chunk (Some p) clean plain none = tt
payload_none chunk None clean plain none = λ bytes is. decoded_is_checked bytes chunk is clean plain ∙ none
