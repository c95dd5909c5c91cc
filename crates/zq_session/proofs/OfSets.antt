-- The books of a server of a site that one session alone uses, by the set of operations of which they have the images.

use Rattle.std.proofs.Common.{Bool, List, Some, [], ap, arith, false, inl, inr, length, map, refl, subst, suc, sym, take, true, true≢false, zero, ℕ, ◌+◌, ◌<◌, ◌∙◌, ◌∷◌, ◌≡◌, ◌≤◌, ◌⊎◌}
use Rattle.std.proofs.lemmas.List.{length-map}
use Rattle.std.proofs.lemmas.List.FromFn.{length-map-range_with_len}
use Rattle.std.proofs.lemmas.Option.{none-some, same_Some}
use Rattle.std.specs.List.{range_with_len}
use Rattle.std.specs.Prelude.{Err, None, Ok, Option, if◌then◌else◌, slice_get}
use Rattle.zq_commands.specs.Beginning.{begun}
use Rattle.zq_commands.specs.SiteBooks.{empty_book}
use Rattle.zq_model.specs.Books.{Book}
use Rattle.zq_model.proofs.JoinImages.{image_of-nothing}
use Rattle.zq_model.proofs.Membership.{in_taken}
use Rattle.zq_model.specs.Bounded.{HasShortNames}
use Rattle.zq_model.specs.Meaning.{IsWholeQueue}
use Rattle.zq_model.proofs.MeantQueues.{whole_queue_is}
use Rattle.zq_model.specs.Operation.{Operation}
use Rattle.zq_model.specs.Queue.{queue_of}
use Rattle.zq_model.specs.Rule.{Greatest}
use Rattle.zq_model.specs.Sets.{IsClosed, IsHeaps, IsIn, IsWorld, SITES}
use Rattle.zq_model.specs.Lent.{books_after, queues_of}
use Rattle.zq_model.specs.Moves.{Move, Queues}
use Rattle.zq_notes.proofs.ReadOff.{for_reply, listed_short}
use Rattle.zq_notes.specs.Readings.{IsOrShort, is_list}
use Rattle.zq_semantics.specs.Plan.{Plan, plan_of}
use Rattle.zq_semantics.specs.Replies.{Reply, bytes_of}
use Rattle.zq_semantics.specs.Run.{ForReply, IsReadShort, IsWhy, MayLack, Memory, Number, Runs, Takes, Want, cut_error, cut_pop, cut_reply, part, popped_of, takes_of, whole}
use Rattle.zq_posheap.proofs.Lists.{behind}
use Rattle.zq_resp.specs.Request.{IsRequest}
use Rattle.zq_semantics.proofs.BooksOf.{with_at_here}
use Rattle.zq_semantics.proofs.FewMembers.{few_members}
use Rattle.zq_semantics.proofs.InRange.{AreShort, moves_sound}
use Rattle.zq_semantics.proofs.KeptRuns.{short_over}
use Rattle.zq_semantics.proofs.MovedBooks.{all_stand, closed_then, world_then}
use Rattle.zq_semantics.proofs.Questions.{questions_read}
use Rattle.zq_semantics.proofs.SiteBooks as site
use Rattle.zq_semantics.specs.Books.{AreBooksOf, AreSound, AreUnworn, greatest_stamp}
use Rattle.zq_semantics.specs.Reading.{answer_of, answer_over, heaps_in, is_question, is_reading, queues_over}
use Rattle.zq_semantics.specs.State.{State, after_move, after_moves, home_of, is_spent, operation_by, standing}
use Rattle.zq_session.specs.Meaning.{HasAll, HasImageOf, IsAnswer, IsOfSet}
use Rattle.zq_session.specs.Plain.{RunsCommand, RunsReading, SITE, next_begun, no_keys, pings, runs, unread, worn}
use Rattle.zq_words.proofs.CommandLimits.{within_limits}
use Rattle.zq_words.specs.Command.{Command, Del, Ping, Zadd, ZaddIncr, Zcard, Zcount, Zincrby, Zpopmin, Zpopnear, Zrange, Zrank, Zrem, Zrevrank, Zscore, command_of}
use Rattle.zq_words.specs.Limits.{IsWithinLimits}
use Rattle.zq_words.specs.Shown.{takes_memory}
use Rattle.zq_words.specs.Words.{Word}

-- ---- nothing done

number_at : (a n i k : ℕ) → slice_get (range_with_len a n) i ≡ Some k → k ≡ a + i
number_at a zero i k at = absurd (none-some k at)
number_at a (suc n) zero k at = let same = same_Some a k at in omega (arith, same)
number_at a (suc n) (suc i) k at = let rest = number_at (a + 1) n i k at in omega (arith, rest)

empty_has : (K heap : ℕ) → HasImageOf K [] heap (empty_book K Greatest heap)
empty_has K heap = record { heap_is = refl; heaps = refl; ruled = refl; state = sym (image_of-nothing [] heap (λ o none. absurd none)) }

pub opens : (K : ℕ) → IsHeaps K → IsOfSet K [] (no_keys K)
opens K heaps = record {
  heaps = heaps;
  world = record { each = λ o none. absurd none; one = λ o p none. absurd none };
  closed = record { before = λ o none. absurd none };
  short = λ o none. absurd none;
  number = length-map-range_with_len (empty_book K Greatest) 0 K;
  each = λ heap book at.
      let from = behind (empty_book K Greatest) (range_with_len 0 K) heap book at in
      let is = number_at 0 K heap from.0 from.1 in
      let same : heap ≡ from.0 = omega (arith, is) in
      subst (HasImageOf K [] heap) (ap (empty_book K Greatest) same ∙ from.2) (empty_has K heap);
}

-- ---- the state of a site

-- a number of the book, and 0 where there is none
abbrev number_of : (Book → ℕ) → Option Book → ℕ
number_of f None = 0
number_of f (Some b) = f b

-- the site has the set, and its heaps the stamps and the counts of these books
abbrev standing_at : List Operation → List Book → State
standing_at S books = record {
  made = [];
  sets = λ _. S;
  stamps = λ _ heap. number_of (λ b. b.stamp) (slice_get books heap);
  counts = λ _ heap. number_of (λ b. b.count) (slice_get books heap);
}

books_of : (K : ℕ) (S : List Operation) (books : List Book) → IsOfSet K S books → AreBooksOf Greatest K (standing_at S books) SITE books
books_of K S books of = record {
  number = of.number;
  each = λ heap b at.
      let its = of.each heap b at in
      record {
        heap = its.heap_is;
        heaps = its.heaps;
        ruled = its.ruled;
        state = its.state;
        stamp = sym (ap (number_of (λ c. c.stamp)) at);
        count = sym (ap (number_of (λ c. c.count)) at);
      };
}

-- ---- queues

pub queues_are : (K : ℕ) (S : List Operation) (books : List Book) → IsOfSet K S books → queues_of Greatest books ≡ queues_over Greatest S (heaps_in K)
queues_are K S books of = site.queues_are Greatest K (standing_at S books) SITE books (books_of K S books of)

pub queues_meant : (K : ℕ) (S : List Operation) (books : List Book) → IsOfSet K S books → (key : List ℕ) → IsWholeQueue Greatest S key (queues_of Greatest books key)
queues_meant K S books of key =
    let some = of.heaps.0 in
    subst (λ (queues : Queues). IsWholeQueue Greatest S key (queues key)) (sym (queues_are K S books of)) (whole_queue_is Greatest K S key of.world (omega (arith, some)))

members_begun : (stamp : ℕ) (books : List Book) → map (λ (b : Book). b.state.members) (map (begun stamp) books) ≡ map (λ (b : Book). b.state.members) books
members_begun stamp [] = refl
members_begun stamp (b ∷ books) = ap (λ rest. b.state.members ∷ rest) (members_begun stamp books)

pub queues_begun : (books : List Book) → queues_of Greatest (next_begun books) ≡ queues_of Greatest books
queues_begun books = λ i key. queue_of Greatest key (members_begun (greatest_stamp books + 1) books i)

pub of_set_begun : (K : ℕ) (S : List Operation) (books : List Book) → IsOfSet K S books → IsOfSet K S (next_begun books)
of_set_begun K S books of =
    let next = begun (greatest_stamp books + 1) in
    record {
      heaps = of.heaps;
      world = of.world;
      closed = of.closed;
      short = of.short;
      number = length-map books next ∙ of.number;
      each = λ heap book at.
          let from = behind next books heap book at in
          let its = of.each heap from.0 from.1 in
          subst (HasImageOf K S heap) from.2 (record { heap_is = its.heap_is; heaps = its.heaps; ruled = its.ruled; state = its.state });
    }

-- ---- a request that only reads

reads_only : (command : Command) (queues : Queues) → is_reading command ≡ true → (plan_of command queues).moves ≡ []
reads_only (Zscore key member) queues reads = refl
reads_only (Zcard key) queues reads = refl
reads_only (Zcount key min max) queues reads = refl
reads_only (Zrank key member) queues reads = refl
reads_only (Zrevrank key member) queues reads = refl
reads_only (Zrange key range is_turned with_scores) queues reads = refl
reads_only (Ping message) queues reads = absurd (true≢false (sym reads))
reads_only (Zadd key flags pairs) queues reads = absurd (true≢false (sym reads))
reads_only (ZaddIncr key flags increment member) queues reads = absurd (true≢false (sym reads))
reads_only (Zincrby key increment member) queues reads = absurd (true≢false (sym reads))
reads_only (Zrem key members) queues reads = absurd (true≢false (sym reads))
reads_only (Zpopmin key count) queues reads = absurd (true≢false (sym reads))
reads_only (Zpopnear key) queues reads = absurd (true≢false (sym reads))
reads_only (Del keys) queues reads = absurd (true≢false (sym reads))

-- it asks for no memory but for its reply
not_takes : (command : Command) → is_reading command ≡ true → takes_memory (Ok command) ≡ false
not_takes (Zscore key member) reads = refl
not_takes (Zcard key) reads = refl
not_takes (Zcount key min max) reads = refl
not_takes (Zrank key member) reads = refl
not_takes (Zrevrank key member) reads = refl
not_takes (Zrange key range is_turned with_scores) reads = refl
not_takes (Ping message) reads = refl
not_takes (Zadd key flags pairs) reads = absurd (true≢false (sym reads))
not_takes (ZaddIncr key flags increment member) reads = refl
not_takes (Zincrby key increment member) reads = refl
not_takes (Zrem key members) reads = refl
not_takes (Zpopmin key count) reads = refl
not_takes (Zpopnear key) reads = refl
not_takes (Del keys) reads = refl

no_move : (site k : ℕ) (books : List Book) → IsWhy site (slice_get [] k) books Number → ⊥
no_move site zero books why = why
no_move site (suc k) books why = why

module _ (K : ℕ) (S : List Operation) where
  none_moved : (is_long : Bool) (counted : ℕ) (plan : Plan) (cut : ℕ → Want → Reply) (site stamp : ℕ) (old new : List Book) (bytes : Word) → plan.moves ≡ [] → cut 0 ≡ cut_error 0 → IsOfSet K S old →
      Runs site stamp (ForReply is_long counted) plan cut old new bytes →
      IsOfSet K S new × ((bytes ≡ bytes_of plan.reply) ⊎ (IsReadShort is_long counted × (bytes ≡ bytes_of (cut_error 0 Memory))))
  none_moved is_long counted plan cut site stamp old new bytes none error of (whole books says) =
      (subst (IsOfSet K S) (sym (books ∙ ap (λ moves. books_after site stamp moves old) none)) of, inl says)
  none_moved is_long counted plan cut site stamp old new bytes none error of (part k Number few books why says) =
      absurd (no_move site k new (subst (λ moves. IsWhy site (slice_get moves k) new Number) none why))
  none_moved is_long counted plan cut site stamp old new bytes none error of (part k Memory few books why says) =
      let most = ap length none in
      let first : k ≡ 0 = omega (arith, few, most) in
      let same : new ≡ old = books ∙ ap (λ n. books_after site stamp (take n plan.moves) old) first in
      (subst (IsOfSet K S) (sym same) of, inr (why, says ∙ ap (λ n. bytes_of (cut n Memory)) first ∙ ap (λ f. bytes_of (f Memory)) error))

  cut_none : (command : Command) (queues : Queues) → cut_reply command queues 0 ≡ cut_error 0
  cut_none command queues = elim (popped_of command) as (λ o. (λ want. cut_pop o queues 0 want) ≡ cut_error 0) [ None ↦ refl | Some popped ↦ refl ]

  module _ (old new : List Book) (bytes : Word) (of : IsOfSet K S old) where
    stays : new ≡ old → IsOfSet K S new
    stays same = subst (IsOfSet K S) (sym same) of

    -- the set stays, and the reply is an answer
    abbrev IsReadAs : Bool → Word → Type 0
    IsReadAs is_list answer = IsOfSet K S new × IsAnswer old is_list answer bytes

    mid : IsOfSet K S (next_begun old)
    mid = of_set_begun K S old of

    few : (key : List ℕ) → length (queues_of Greatest (next_begun old) key) ≤ 288230376151711744
    few key = few_members K S of.world key Greatest (queues_of Greatest (next_begun old) key) (queues_meant K S (next_begun old) mid key)

    read_by : (command : Command) (queues : Queues) → queues ≡ queues_of Greatest (next_begun old) → is_reading command ≡ true →
        Runs SITE (greatest_stamp old + 1) (takes_of command queues) (plan_of command queues) (cut_reply command queues) (next_begun old) new bytes →
        IsOfSet K S new × IsOrShort (is_list queues (Ok command)) (bytes_of (plan_of command queues).reply) bytes
    read_by command queues same reads ran =
        let takes = for_reply command queues reads in
        let read = none_moved takes.0 takes.1 (plan_of command queues) (cut_reply command queues) SITE (greatest_stamp old + 1) (next_begun old) new bytes (reads_only command queues reads) (cut_none command queues) mid
        (subst (λ t. Runs SITE (greatest_stamp old + 1) t (plan_of command queues) (cut_reply command queues) (next_begun old) new bytes) takes.2 ran) in (
          read.0,
          elim read.1 [
            | inl says ↦ inl says
            | inr short ↦ inr (
              listed_short command queues reads (λ key. subst (λ (q : Queues). length (q key) ≤ 288230376151711744) (sym same) (few key))
                  (subst (λ t. MayLack t 0 None []) (sym takes.2) short.0),
              short.1,
            )
          ],
        )

    command_read : (command : Command) → is_reading command ≡ true → RunsCommand old command new bytes →
        IsReadAs (is_list (queues_of Greatest old) (Ok command)) (bytes_of (plan_of command (queues_of Greatest old)).reply)
    command_read command reads (pings message is same says) = absurd (true≢false (sym (ap is_reading (sym is) ∙ reads)))
    command_read command reads (unread takes same says) = absurd (true≢false (sym takes ∙ not_takes command reads))
    command_read command reads (worn apart last same says) = (stays same, inr (last, says))
    command_read command reads (runs apart low ran) =
        let queues = queues_of Greatest (next_begun old) in
        let read = read_by command queues refl reads ran in
        (read.0, inl (subst (λ (q : Queues). IsOrShort (is_list q (Ok command)) (bytes_of (plan_of command q).reply) bytes) (queues_begun old) read.1))

    pub reads_set : (words : List Word) → is_question words ≡ true → RunsReading old (command_of words) new bytes →
        IsOfSet K S new × IsAnswer old (is_list (queues_of Greatest old) (command_of words)) (answer_of Greatest K S words) bytes
    reads_set words question answered =
        subst (λ (q : Queues). IsOfSet K S new × IsAnswer old (is_list (queues_of Greatest old) (command_of words)) (answer_over q (command_of words)) bytes) (queues_are K S old of)
        (elim (command_of words) as (λ r. command_of words ≡ r → RunsReading old r new bytes → IsReadAs (is_list (queues_of Greatest old) r) (answer_over (queues_of Greatest old) r)) [
          | Ok command ↦ λ read ran. command_read command (questions_read words command question read) ran
          | Err why ↦ λ _ ran. (stays ran.0, inl (inl ran.1))
        ] refl answered)

-- ---- every request

-- a closed set of one world with short names
record IsSound (K : ℕ) (S : List Operation) : Type 0 where
  world : IsWorld K S
  closed : IsClosed S
  short : (o : Operation) → IsIn o S → HasShortNames o

site_below : SITE < SITES
unfolding SITES
site_below = omega arith

of_books : (K : ℕ) (st : State) (books : List Book) → IsHeaps K → AreBooksOf Greatest K st SITE books → IsSound K (st.sets SITE) → IsOfSet K (st.sets SITE) books
of_books K st books heaps are sound = record {
  heaps = heaps;
  world = sound.world;
  closed = sound.closed;
  short = sound.short;
  number = are.number;
  each = λ heap b at.
      let is = are.each heap b at in
      record { heap_is = is.heap; heaps = is.heaps; ruled = is.ruled; state = is.state };
}

module _ (K : ℕ) (heaps : IsHeaps K) (stamp : ℕ) where
  first_stands : (st : State) (move : Move) (moves : List Move) → standing K SITE stamp (move ∷ moves) st ≡ suc (length moves) →
      (is_spent st SITE (home_of K move) ≡ false) × (standing K SITE stamp moves (after_move K SITE stamp move st) ≡ length moves)
  first_stands st move moves all =
      let rest = standing K SITE stamp moves (after_move K SITE stamp move st) in
      elim (is_spent st SITE (home_of K move)) as (λ b. (if b then 0 else suc rest) ≡ suc (length moves) → (b ≡ false) × (rest ≡ length moves)) [
        | true ↦ λ none. absurd (omega (arith, none))
        | false ↦ λ same. (refl, omega (arith, same))
      ] all

  -- moves that all stand add to the set
  grows : (moves : List Move) (st : State) → AreSound moves → standing K SITE stamp moves st ≡ length moves → IsSound K (st.sets SITE) →
      IsSound K ((after_moves K SITE stamp moves st).sets SITE) × HasAll ((after_moves K SITE stamp moves st).sets SITE) (st.sets SITE)
  grows [] st sound all is = (is, λ o i. i)
  grows (move ∷ moves) st sound all is =
      let stands = first_stands st move moves all in
      let its = sound move (inl refl) in
      let o = operation_by st SITE (home_of K move) move in
      let same : (after_move K SITE stamp move st).sets SITE ≡ o ∷ st.sets SITE = with_at_here st.sets SITE (o ∷ st.sets SITE) in
      let more = grows moves (after_move K SITE stamp move st) (λ m i. sound m (inr i)) stands.1 (record {
        world = world_then Greatest K SITE stamp heaps site_below st is.world is.closed move its stands.0;
        closed = closed_then Greatest K SITE stamp heaps site_below st is.world is.closed move its stands.0;
        short = subst (λ S. (p : Operation) → IsIn p S → HasShortNames p) (sym same) (λ p i. elim i [
          | inl e ↦ subst HasShortNames e (record { key = its.key; member = its.member })
          | inr there ↦ is.short p there
        ]);
      }) in
      (more.0, λ p i. more.1 p (subst (IsIn p) (sym same) (inr i)))

-- books of a closed set that has all of S
abbrev Grown : ℕ → List Operation → List Book → Type 0
Grown K S new = (T : List Operation) × IsOfSet K T new × HasAll T S

moved_set : (K : ℕ) (S : List Operation) (stamp : ℕ) (moves : List Move) (mid new : List Book) → IsOfSet K S mid → AreSound moves → AreUnworn new → new ≡ books_after SITE stamp moves mid →
    Grown K S new
moved_set K S stamp moves mid new of sound unworn is =
    let st = standing_at S mid in
    let stands = all_stand Greatest K SITE stamp of.heaps site_below moves st mid new of.world of.closed sound (books_of K S mid of) unworn is in
    let more = grows K of.heaps stamp moves st sound stands.0 (record { world = of.world; closed = of.closed; short = of.short }) in
    ((after_moves K SITE stamp moves st).sets SITE, of_books K (after_moves K SITE stamp moves st) new of.heaps stands.1 more.0, more.1)

module _ (K : ℕ) (S : List Operation) (old new : List Book) (bytes : Word) (of : IsOfSet K S old) (unworn : AreUnworn new) where
  kept : new ≡ old → Grown K S new
  kept same = (S, subst (IsOfSet K S) (sym same) of, λ o i. i)

  plan_grown : (takes : Takes) (stamp : ℕ) (plan : Plan) (cut : ℕ → Want → Reply) → AreSound plan.moves → Runs SITE stamp takes plan cut (next_begun old) new bytes → Grown K S new
  plan_grown takes stamp plan cut sound (whole books says) = moved_set K S stamp plan.moves (next_begun old) new (of_set_begun K S old of) sound unworn books
  plan_grown takes stamp plan cut sound (part k want few books why says) =
      moved_set K S stamp (take k plan.moves) (next_begun old) new (of_set_begun K S old of) (λ m i. sound m (in_taken m k plan.moves i)) unworn books

  command_grown : (command : Command) → IsWithinLimits command → RunsCommand old command new bytes → Grown K S new
  command_grown command limits (pings message is same says) = kept same
  command_grown command limits (unread takes same says) = kept same
  command_grown command limits (worn apart last same says) = kept same
  command_grown command limits (runs apart low ran) =
      let mid = next_begun old in
      let short = subst AreShort (sym (queues_are K S mid (of_set_begun K S old of))) (short_over Greatest K S (heaps_in K) of.world of.short) in
      plan_grown _ (greatest_stamp old + 1) (plan_of command (queues_of Greatest mid)) (cut_reply command (queues_of Greatest mid))
      (moves_sound command (queues_of Greatest mid) limits short) ran

  pub goes_on : (words : List Word) → IsRequest words → RunsReading old (command_of words) new bytes → Grown K S new
  goes_on words is answered =
      elim (command_of words) as (λ r. command_of words ≡ r → RunsReading old r new bytes → Grown K S new) [
        | Ok command ↦ λ read ran. command_grown command (within_limits words command is.limits.each is.limits.count read) ran
        | Err why ↦ λ _ ran. kept ran.0
      ] refl answered
