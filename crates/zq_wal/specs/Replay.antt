-- Taking records again.

use Rattle.std.specs.Prelude.{List, [], ◌∷◌, ℕ, ◌≡◌}

-- what taking these payloads makes of the first, one after another
abbrev pub Replayed : {R : Type 0} → (R → List ℕ → R → Type 0) → R → List (List ℕ) → R → Type 0
Replayed replays first [] last = last ≡ first
Replayed {R} replays first (payload ∷ payloads) last =
    (next : R) × replays first payload next × Replayed replays next payloads last
