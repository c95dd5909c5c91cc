-- A command over the book of one heap.

use Rattle.std.proofs.Common.{ap, arith, get_or, inl, refl, subst, suc, sym, zero, ℤ, ◌<◌, ◌∙◌}
use Rattle.std.proofs.lemmas.Bool.{eq-eqb}
use Rattle.std.proofs.lemmas.List.{append_cancel_left}
use Rattle.std.specs.Prelude.{List, [], ℕ, ◌++◌, ◌∷◌, ◌≡◌}
use Rattle.zq_commands.specs.Commands.{HasBooks}
use Rattle.zq_commands.specs.Lending.{HasBook}
use Rattle.zq_commands.specs.VecBooks.{IsRecordedOn, lending_of}
use Rattle.zq_model.specs.Books.{Book, Record, steps_of}
use Rattle.zq_model.specs.Reach.{IsWorked}
use Rattle.zq_model.specs.Heaps.{heap_of}
use Rattle.zq_model.specs.Rule.{Rule}
use Rattle.zq_semantics.proofs.Narrow.{same_heap}
use Rattle.zq_semantics.specs.Run.{IsRun}
use Rattle.zq_spread.proofs.Twins.{AreTwins, IsTwin, begun_twin, run_twins}
use Rattle.zq_spread.specs.Answers.{HasWorked}
use Rattle.zq_spread.specs.Commanded.{IsAnswered, IsAppended}
use Rattle.zq_words.specs.Command.{Command, Del, Ping, Zadd, ZaddIncr, Zcard, Zcount, Zincrby, Zpopmin, Zpopnear, Zrange, Zrank, Zrem, Zrevrank, Zscore}
use Rattle.zq_words.specs.Heaps.{heaps_of}
use Rattle.zq_words.specs.Words.{Word}
use Rattle.zq_words.specs.declared.heaps.Heaps.TheVariants.{One}

-- a member of the heap lies in its book
here : (key member : List ℕ) (h K : ℕ) (book : Book) → book.heap ≡ h → book.heaps ≡ K → heap_of key member K ≡ h → HasBook key member (lending_of (book ∷ []))
here key member h K book heap heaps is = (book, inl refl, eq-eqb _ _ (ap (heap_of key member) heaps ∙ is ∙ sym heap))

-- what holds of the one element holds at each place
at_one : {X : Type 0} (P : X → Type 0) (x : X) → P x → (k : ℕ) (d : X) → k < 1 → P (get_or (x ∷ []) k d)
at_one P x is zero d within = is
at_one P x is (suc k) d within = absurd (omega arith)

-- so does each member that a command of one heap names
pub home_alone : (command : Command) (h K : ℕ) (book : Book) → book.heap ≡ h → book.heaps ≡ K → heaps_of command K ≡ One h → HasBooks command (lending_of (book ∷ []))
home_alone (Ping message) h K book heap heaps is = tt
home_alone (Zadd key flags []) h K book heap heaps is = absurd (cc)
home_alone (Zadd key flags ((score, member) ∷ [])) h K book heap heaps is =
    at_one (λ (pair : ℤ × Word). HasBook key pair.1 (lending_of (book ∷ []))) (score, member) (here key member h K book heap heaps (same_heap _ _ is))
home_alone (Zadd key flags (a ∷ b ∷ pairs)) h K book heap heaps is = absurd (cc)
home_alone (ZaddIncr key flags increment member) h K book heap heaps is = here key member h K book heap heaps (same_heap _ _ is)
home_alone (Zincrby key increment member) h K book heap heaps is = here key member h K book heap heaps (same_heap _ _ is)
home_alone (Zrem key []) h K book heap heaps is = absurd (cc)
home_alone (Zrem key (member ∷ [])) h K book heap heaps is = at_one (λ m. HasBook key m (lending_of (book ∷ []))) member (here key member h K book heap heaps (same_heap _ _ is))
home_alone (Zrem key (a ∷ b ∷ members)) h K book heap heaps is = absurd (cc)
home_alone (Zscore key member) h K book heap heaps is = here key member h K book heap heaps (same_heap _ _ is)
home_alone (Zrank key member) h K book heap heaps is = absurd (cc)
home_alone (Zrevrank key member) h K book heap heaps is = absurd (cc)
home_alone (Zcard key) h K book heap heaps is = tt
home_alone (Zcount key min max) h K book heap heaps is = tt
home_alone (Zrange key range is_turned with_scores) h K book heap heaps is = tt
home_alone (Zpopmin key count) h K book heap heaps is = tt
home_alone (Zpopnear key) h K book heap heaps is = tt
home_alone (Del keys) h K book heap heaps is = tt

-- what a twin's records are, are the steps of the book that was found
pub appended : (begun found new left : Book) (records : List Record) → new.tail ≡ begun.tail ++ records → IsTwin begun.tail found.tail new left → IsAppended left found (steps_of records)
appended begun found new left records tail is =
    let same : is.records ≡ records = append_cancel_left begun.tail is.records records (sym is.mine ∙ tail) in
    record { records = is.records; tail = is.theirs; recorded = ap steps_of (sym same) }

-- a command that ran over the book of a heap where a call began is what the call does
pub answered_by : (rule : Rule) (site stamp : ℕ) (command : Command) (reply : Word) (begun new found : Book) → IsRun rule site stamp command (begun ∷ []) (new ∷ []) reply → IsRecordedOn begun new → new.stamp ≡ stamp →
    IsWorked begun found stamp [] → HasWorked (IsAnswered rule site stamp command reply) new found stamp
answered_by rule site stamp command reply begun new found ran went stamped is =
    let other = run_twins rule site stamp command (begun ∷ []) (found ∷ []) (new ∷ []) reply (begun_twin begun found stamp is, tt) ran in
    let worked : IsWorked new found stamp (steps_of went.records) = subst (λ s. IsWorked new found s (steps_of went.records)) stamped (went.worked found [] (subst (λ s. IsWorked begun found s []) (sym stamped) is)) in
    (steps_of went.records, worked, answer begun found new went.records went.tail other.0 other.1 other.2)
  where
    answer : (begun found new : Book) (records : List Record) → new.tail ≡ begun.tail ++ records → (left : List Book) → IsRun rule site stamp command (found ∷ []) left reply →
        AreTwins (begun ∷ []) (found ∷ []) (new ∷ []) left → IsAnswered rule site stamp command reply (found ∷ []) (steps_of records ∷ [])
    answer begun found new records tail [] ran are = absurd are
    answer begun found new records tail (left ∷ []) ran are = record { left = left ∷ []; ran = ran; appended = (appended begun found new left records tail are.0, tt) }
    answer begun found new records tail (left ∷ more ∷ rest) ran are = absurd are.1
