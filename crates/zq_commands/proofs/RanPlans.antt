-- What a loop over the parts of a command comes to.

use Rattle.std.proofs.Common.{Bool, None, Option, ap, arith, false, inl, inr, refl, subst, suc, sym, true, true≢false, zero, ℤ, ◌∙◌}
use Rattle.std.proofs.lemmas.Bool.{cond-true}
use Rattle.std.specs.Prelude.{List, Some, [], codes, drop, length, slice_get, take, ℕ, ◌++◌, ◌+◌, ◌∷◌, ◌≡◌}
use Rattle.zq_commands.proofs.InTurn.{StandsAfter, moves_split, stands_cut, stands_whole}
use Rattle.zq_commands.specs.Stopped.{want_of}
use Rattle.zq_commands.specs.Lending.{Lending, queues_in}
use Rattle.zq_commands.specs.Commands.{IsRunOver, is_reading}
use Rattle.zq_commands.specs.Running.{EndsOver, IsReadAs, part, whole}
use Rattle.zq_commands.specs.declared.stopped.Stopped.{Stopped}
use Rattle.zq_commands.specs.declared.stopped.Stopped.TheVariants.{NoMemory, Worn}
use Rattle.zq_model.specs.Moves.{Move, Queues, after_all}
use Rattle.zq_model.specs.Books.{Book}
use Rattle.zq_semantics.specs.Plan.{Part, Plan, in_turn, lets, moves_in_turn, one, plan_of, raise, raise_if, raising, reading, sum_of}
use Rattle.zq_semantics.specs.Replies.{Error, NullBulk, Reply, bytes_of, count_reply, number_text}
use Rattle.zq_semantics.specs.Run as run
use Rattle.zq_semantics.specs.Run.{ForMoves, ForReply, IsWhy, IsWhyOf, Memory, Number, Runs, Takes, Want, cut_error, takes_of}
use Rattle.zq_resp.specs.Reply.{reply_bytes}
use Rattle.zq_resp.specs.declared.reply.Reply as resp
use Rattle.zq_words.specs.Command.{Command, Del, Ping, Zadd, ZaddIncr, Zcard, Zcount, Zincrby, Zpopmin, Zpopnear, Zrange, Zrank, Zrem, Zrevrank, Zscore}
use Rattle.zq_words.specs.Words.{Word, is_in_range}
use Rattle.zq_words.specs.declared.flags.Flags.{Flags}

pub drop_at : {X : Type 0} (xs : List X) (i : ℕ) (x : X) → slice_get xs i ≡ Some x → drop i xs ≡ x ∷ drop (i + 1) xs
drop_at [] i x at = absurd (cc)
drop_at (y ∷ xs) zero x at = let same : y ≡ x = cc in ap (λ z. z ∷ xs) same
drop_at (y ∷ xs) (suc i) x at = let next : suc i + 1 ≡ suc (i + 1) = omega arith in drop_at xs i x at ∙ ap (λ n. x ∷ drop n (y ∷ xs)) (sym next)

after_front : {X : Type 0} (front rest : List X) (x : X) → slice_get (front ++ x ∷ rest) (length front) ≡ Some x
after_front [] rest x = refl
after_front (y ∷ front) rest x = after_front front rest x

-- why a move that takes memory alone was not made
pub why_made : (site : ℕ) (books : List Book) (move : Move) (cut : Stopped) → (cut ≡ Worn → IsWhy site (Some move) books Number) → (cut ≡ NoMemory → IsWhy site (Some move) books Number → ⊥) →
    IsWhyOf ForMoves site (Some move) books (want_of cut)
why_made site books move Worn worn memory = worn refl
why_made site books move NoMemory worn memory = memory refl

module _ {X : Type 0} (f : Queues → X → Part) (site stamp : ℕ) (xs : List X) (s t : Lending) (counted done : ℕ) where
  pub ran_whole : (takes : Takes) → StandsAfter f site stamp xs (length xs) s t counted done → (bytes : Word) → (short : Bool) → bytes ≡ bytes_of (count_reply counted) →
      EndsOver site stamp takes (in_turn f xs (queues_in s)) cut_error s t bytes short
  ran_whole takes here bytes short is =
      let all = stands_whole f site stamp xs s t counted done here in
      whole all.0 (is ∙ ap (λ n. bytes_of (count_reply n)) all.1)

  -- the move that was to come next
  pub next_move : (i : ℕ) (x : X) (move : Move) → StandsAfter f site stamp xs i s t counted done → slice_get xs i ≡ Some x → (f (queues_in t) x).moves ≡ move ∷ [] →
      slice_get (moves_in_turn f xs (queues_in s)) done ≡ Some move
  next_move i x move here at is =
      let front = moves_in_turn f (take i xs) (queues_in s) in
      let later = moves_in_turn f (drop (i + 1) xs) (after_all (f (queues_in t) x).moves (queues_in t)) in
      let rest : moves_in_turn f (drop i xs) (queues_in t) ≡ move ∷ later
      = ap (λ ys. moves_in_turn f ys (queues_in t)) (drop_at xs i x at) ∙ ap (λ ms. ms ++ later) is in
      ap (λ ms. slice_get ms done) (moves_split f site stamp xs i s t counted done here ∙ ap (λ ms. front ++ ms) rest)
      ∙ ap (slice_get (front ++ move ∷ later)) here.made ∙ after_front front later move

  -- where the part at i, which was to make this move, was refused
  pub ran_cut : (cut : Stopped) (i : ℕ) (x : X) (move : Move) → StandsAfter f site stamp xs i s t counted done → slice_get xs i ≡ Some x → (f (queues_in t) x).moves ≡ move ∷ [] →
      (cut ≡ Worn → IsWhy site (Some move) t.books Number) → (cut ≡ NoMemory → IsWhy site (Some move) t.books Number → ⊥) → (bytes : Word) → (short : Bool) → bytes ≡ bytes_of (cut_error done (want_of cut)) →
      (want_of cut ≡ Memory → short ≡ true) → EndsOver site stamp ForMoves (in_turn f xs (queues_in s)) cut_error s t bytes short
  ran_cut cut i x move here at is worn memory bytes short says told =
      let stands = stands_cut f site stamp xs i s t counted done here in
      part done (want_of cut) stands.0 stands.1
      (subst (λ o. IsWhyOf ForMoves site o t.books (want_of cut)) (sym (next_move i x move here at is)) (why_made site t.books move cut worn memory)) says told

-- a plan of one move, which was not made
pub ran_refused : (site stamp : ℕ) (plan : Plan) (move : Move) (cut : Stopped) (old new : Lending) (bytes : Word) (short : Bool) → plan.moves ≡ move ∷ [] → new ≡ old →
    (cut ≡ Worn → IsWhy site (Some move) old.books Number) → (cut ≡ NoMemory → IsWhy site (Some move) old.books Number → ⊥) → bytes ≡ bytes_of (cut_error 0 (want_of cut)) →
    (want_of cut ≡ Memory → short ≡ true) → EndsOver site stamp ForMoves plan cut_error old new bytes short
ran_refused site stamp plan move cut old new bytes short is same worn memory says told =
    subst (λ l. EndsOver site stamp ForMoves plan cut_error old l bytes short) (sym same)
    (part 0 (want_of cut) (omega arith) refl (subst (λ moves. IsWhyOf ForMoves site (slice_get moves 0) old.books (want_of cut)) (sym is) (why_made site old.books move cut worn memory)) says told)

-- the plan of a sum in range
pub raise_in : (key member : Word) (old : Option ℤ) (increment : ℤ) → is_in_range (sum_of old increment) ≡ true →
    raise key member old increment ≡ record { moves = one key member (raising old increment); reply = number_text (sum_of old increment) }
raise_in key member old increment within =
    cond-true (is_in_range (sum_of old increment)) (record { moves = one key member (raising old increment); reply = number_text (sum_of old increment) })
    (reading (Error (codes "ERR result out of range") None)) within

-- the plan that the flags let
pub raise_let : (flags : Flags) (key member : Word) (old : Option ℤ) (increment : ℤ) → lets flags old (sum_of old increment) ≡ true →
    raise_if flags key member old increment ≡ raise key member old increment
raise_let flags key member old increment passes = cond-true (lets flags old (sum_of old increment)) (raise key member old increment) (reading NullBulk) passes

-- a plan that only reads, whole or without its reply for want of memory
pub reading_ran : (site stamp : ℕ) (is_long : Bool) (counted : ℕ) (reply : Reply) (cut : ℕ → Want → Reply) (lent : Lending) (bytes : Word) (short : Bool) → cut 0 Memory ≡ cut_error 0 Memory →
    IsReadAs (ForReply is_long counted) reply bytes short → EndsOver site stamp (ForReply is_long counted) (reading reply) cut lent lent bytes short
reading_ran site stamp is_long counted reply cut lent bytes short error (inl says) = whole refl says
reading_ran site stamp is_long counted reply cut lent bytes short error (inr (lacks, says, told)) = part 0 Memory (omega arith) refl lacks (says ∙ sym (ap bytes_of error)) (λ _. told)

-- one that counts none before may find no memory where it counts some
pub read_wider : (is_long : Bool) (counted : ℕ) (reply : Reply) (bytes : Word) (short : Bool) → IsReadAs (ForReply is_long 0) reply bytes short → IsReadAs (ForReply is_long counted) reply bytes short
read_wider is_long counted reply bytes short (inl says) = inl says
read_wider is_long counted reply bytes short (inr (inl long, says, told)) = inr (inl long, says, told)
read_wider is_long counted reply bytes short (inr (inr many, says, told)) = absurd (omega (arith, many))

-- a command that only reads
pub ran_read : (site stamp : ℕ) (command : Command) (lent : Lending) (bytes : Word) (short : Bool) → is_reading command ≡ true →
    IsReadAs (takes_of command (queues_in lent)) (plan_of command (queues_in lent)).reply bytes short → IsRunOver site stamp command lent lent bytes short
ran_read site stamp (Ping message) lent bytes short reads says = reading_ran site stamp _ _ _ _ lent bytes short refl says
ran_read site stamp (Zscore key member) lent bytes short reads says = reading_ran site stamp _ _ _ _ lent bytes short refl says
ran_read site stamp (Zcard key) lent bytes short reads says = reading_ran site stamp _ _ _ _ lent bytes short refl says
ran_read site stamp (Zcount key min max) lent bytes short reads says = reading_ran site stamp _ _ _ _ lent bytes short refl says
ran_read site stamp (Zrank key member) lent bytes short reads says = reading_ran site stamp _ _ _ _ lent bytes short refl says
ran_read site stamp (Zrevrank key member) lent bytes short reads says = reading_ran site stamp _ _ _ _ lent bytes short refl says
ran_read site stamp (Zrange key range is_turned with_scores) lent bytes short reads says = reading_ran site stamp _ _ _ _ lent bytes short refl says
ran_read site stamp (Zadd key flags pairs) lent bytes short reads says = absurd (true≢false (sym reads))
ran_read site stamp (ZaddIncr key flags increment member) lent bytes short reads says = absurd (true≢false (sym reads))
ran_read site stamp (Zincrby key increment member) lent bytes short reads says = absurd (true≢false (sym reads))
ran_read site stamp (Zrem key members) lent bytes short reads says = absurd (true≢false (sym reads))
ran_read site stamp (Zpopmin key count) lent bytes short reads says = absurd (true≢false (sym reads))
ran_read site stamp (Zpopnear key) lent bytes short reads says = absurd (true≢false (sym reads))
ran_read site stamp (Del keys) lent bytes short reads says = absurd (true≢false (sym reads))

-- what is short is not less so
pub ends_shorter : (site stamp : ℕ) (takes : Takes) (plan : Plan) (cut : ℕ → Want → Reply) (old new : Lending) (reply told : resp.Reply) (less short : Bool) → told ≡ reply →
    (less ≡ true → short ≡ true) → EndsOver site stamp takes plan cut old new (reply_bytes reply) less → EndsOver site stamp takes plan cut old new (reply_bytes told) short
ends_shorter site stamp takes plan cut old new reply told less short same more (whole lent says) = whole lent (ap reply_bytes same ∙ says)
ends_shorter site stamp takes plan cut old new reply told less short same more (part k want low lent why says memory) =
    part k want low lent why (ap reply_bytes same ∙ says) (λ e. more (memory e))

-- over the books as they were foreseen it runs as over those before
pub ran_foreseen : (site stamp : ℕ) (asked command : Command) (old seen new : Lending) (bytes : Word) (short : Bool) → asked ≡ command → seen ≡ old →
    IsRunOver site stamp asked seen new bytes short → IsRunOver site stamp command old new bytes short
ran_foreseen site stamp asked command old seen new bytes short is same runs =
    subst (λ lent. IsRunOver site stamp command lent new bytes short) same (subst (λ q. IsRunOver site stamp q seen new bytes short) is runs)

-- a reply that is read off, where it is not short
pub read_whole : (takes : Takes) (reply : Reply) (bytes : Word) (short : Bool) → IsReadAs takes reply bytes short → short ≡ false → bytes ≡ bytes_of reply
read_whole takes reply bytes short (inl says) not = says
read_whole takes reply bytes short (inr (lacks, says, told)) not = absurd (true≢false (sym told ∙ not))

-- it runs over the books alone
pub ran_books : (site stamp : ℕ) (takes : Takes) (plan : Plan) (cut : ℕ → Want → Reply) (old new : Lending) (bytes : Word) (short : Bool) →
    EndsOver site stamp takes plan cut old new bytes short → Runs site stamp takes plan cut old.books new.books bytes
ran_books site stamp takes plan cut old new bytes short (whole lent says) = run.whole (ap (λ (l : Lending). l.books) lent) says
ran_books site stamp takes plan cut old new bytes short (part k want low lent why says memory) = run.part k want low (ap (λ (l : Lending). l.books) lent) why says

pub ran_rule : (site stamp : ℕ) (takes : Takes) (plan : Plan) (cut : ℕ → Want → Reply) (old new : Lending) (bytes : Word) (short : Bool) →
    EndsOver site stamp takes plan cut old new bytes short → new.rule ≡ old.rule
ran_rule site stamp takes plan cut old new bytes short (whole lent says) = ap (λ (l : Lending). l.rule) lent
ran_rule site stamp takes plan cut old new bytes short (part k want low lent why says memory) = ap (λ (l : Lending). l.rule) lent

pub ran_heaps : (site stamp : ℕ) (takes : Takes) (plan : Plan) (cut : ℕ → Want → Reply) (old new : Lending) (bytes : Word) (short : Bool) →
    EndsOver site stamp takes plan cut old new bytes short → new.heaps ≡ old.heaps
ran_heaps site stamp takes plan cut old new bytes short (whole lent says) = ap (λ (l : Lending). l.heaps) lent
ran_heaps site stamp takes plan cut old new bytes short (part k want low lent why says memory) = ap (λ (l : Lending). l.heaps) lent
