-- What is taken for the path of a folder.
use Rattle.std.specs.Prelude.{ℕ, ◌&&◌, ◌==◌, Bool, List, length, nat_le, not}
use Rattle.std.specs.List.{list_all}

-- 1 to 3072 bytes, none of them 0
abbrev pub is_folder : List ℕ → Bool
is_folder text = nat_le 1 (length text)
    && (nat_le (length text) 3072 && list_all (λ byte. not (byte == 0)) text)
