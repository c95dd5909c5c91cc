-- A word at its place.

use Rattle.std.proofs.Common.{List, Some, Vec, ap, length, slice_get, sym, ℕ, ◌<◌, ◌∙◌, ◌≡◌}
use Rattle.std.proofs.lemmas.Option.{slice_get-get_or, slice_get-map}
use Rattle.std.specs.Option.{option_map}
use Rattle.std.specs.Prelude.{get_or}
use Rattle.std.specs.declared.alloc.Global.{Global}
use Rattle.zq_words.specs.Words.{views}

pub word_at : (words : List (Vec ℕ Global)) (i : ℕ) (word : Vec ℕ Global) (now : List ℕ) → i < length words → word ≡ get_or words i word → now ≡ word.items → slice_get (views words) i ≡ Some now
word_at words i word now within is shown =
    slice_get-map (λ w. w.items) words i ∙ ap (option_map (λ w. w.items)) (slice_get-get_or words i word within) ∙ ap (λ w. Some w.items) (sym is) ∙ ap (λ w. Some w) (sym shown)
