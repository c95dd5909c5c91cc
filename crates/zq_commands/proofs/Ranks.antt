-- The reply that is a rank, from the number of pairs that go before or after.

use Rattle.std.proofs.Common.{Bool, List, Some, ap, inl, option_map, sym, ℕ, ℤ, ◌∙◌, ◌≡◌}
use Rattle.std.specs.Prelude.{count_by}
use Rattle.zq_commands.specs.Running.{IsReadAs}
use Rattle.zq_model.specs.Moves.{Queue, score_in}
use Rattle.zq_model.specs.Readings.{is_before, rank_in, turned_rank_in}
use Rattle.zq_semantics.specs.Replies.{bytes_of, count_reply, place_reply}
use Rattle.zq_semantics.specs.Run.{Takes}
use Rattle.zq_words.specs.Words.{Word}

pub rank_read : (q : Queue) (m : List ℕ) (score : ℤ) (total : ℕ) (bytes : Word) → score_in q m ≡ Some score → total ≡ count_by (λ p. is_before p (score, m)) q →
    bytes ≡ bytes_of (count_reply total) → (takes : Takes) (short : Bool) → IsReadAs takes (place_reply (rank_in q m)) bytes short
rank_read q m score total bytes there is says takes short =
    inl (says ∙ ap (λ n. bytes_of (count_reply n)) is
    ∙ sym (ap (λ r. bytes_of (place_reply (option_map (λ s. count_by (λ p. is_before p (s, m)) q) r))) there))

pub turned_rank_read : (q : Queue) (m : List ℕ) (score : ℤ) (total : ℕ) (bytes : Word) → score_in q m ≡ Some score → total ≡ count_by (λ p. is_before (score, m) p) q →
    bytes ≡ bytes_of (count_reply total) → (takes : Takes) (short : Bool) → IsReadAs takes (place_reply (turned_rank_in q m)) bytes short
turned_rank_read q m score total bytes there is says takes short =
    inl (says ∙ ap (λ n. bytes_of (count_reply n)) is
    ∙ sym (ap (λ r. bytes_of (place_reply (option_map (λ s. count_by (λ p. is_before (s, m) p) q) r))) there))
