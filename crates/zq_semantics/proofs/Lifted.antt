-- A command that works in one heap runs over its book alone as over all books.
use Rattle.std.proofs.Common.{Bool, List, None, Option, Some, [], ap, arith, false, inl, inr, refl, subst, suc, sym, true, true≢false, zero, ℕ, ℤ, ◌++◌, ◌∙◌, ◌∷◌, ◌≡◌}
use Rattle.std.proofs.lemmas.Bool.{cond-false, ne_eqb}
use Rattle.std.specs.Prelude.{if◌then◌else◌, is_some, take}
use Rattle.zq_model.specs.Books.{Book}
use Rattle.zq_model.proofs.Membership.{any_in, any_some, in_right, in_union}
use Rattle.zq_model.specs.Heaps.{heap_of}
use Rattle.zq_model.specs.Rule.{Rule}
use Rattle.zq_model.specs.Sets.{IsIn}
use Rattle.zq_model.proofs.Read.{in_place}
use Rattle.zq_model.specs.Lent.{AreLent, books_after, is_home, made, made_in, queues_of}
use Rattle.zq_model.specs.Moves.{Move, Queues, score_in}
use Rattle.zq_semantics.proofs.Narrow.{plan_alone, same_heap}
use Rattle.zq_model.specs.Operation.{Drop, Put}
use Rattle.zq_semantics.specs.Plan.{Part, Plan, counts, lets, nothing, one, plan_of, sum_of}
use Rattle.zq_words.specs.declared.flags.Flags.{Flags}
use Rattle.zq_semantics.specs.Replies.{Reply}
use Rattle.zq_semantics.specs.Run.{ForCopies, ForMoves, ForReply, IsRun, IsWhy, IsWhyOf, MayLack, Memory, Number, Runs, Takes, Want, cut_pop, cut_reply, is_worn, part, popped_of, takes_of, whole}
use Rattle.zq_words.specs.Command.{Command, Del, Ping, Zadd, ZaddIncr, Zcard, Zcount, Zincrby, Zpopmin, Zpopnear, Zrange, Zrank, Zrem, Zrevrank, Zscore}
use Rattle.zq_words.specs.Heaps.{heaps_of}
use Rattle.zq_words.specs.Words.{Word, is_in_range}
use Rattle.zq_words.specs.declared.heaps.Heaps.TheVariants.{One}

-- each move's member lies in the heap
abbrev AreHome : ℕ → ℕ → List Move → Type 0
AreHome K h moves = (move : Move) → IsIn move moves → heap_of move.key move.member K ≡ h

home_one : (K h : ℕ) (move : Move) → heap_of move.key move.member K ≡ h → AreHome K h (move ∷ [])
home_one K h move at other (inl same) = subst (λ (m : Move). heap_of m.key m.member K ≡ h) same at
home_one K h move at other (inr none) = absurd none

-- the moves of a plan, where a test has to pass
home_part : (K h : ℕ) (b : Bool) (first second : Plan) → AreHome K h first.moves → AreHome K h second.moves → AreHome K h (if b then first else second).moves
home_part K h true first second a b = a
home_part K h false first second a b = b

home_none : (K h : ℕ) → AreHome K h []
home_none K h move here = absurd here

abbrev put_given : Word → Word → ℤ → Flags → Queues → Part
put_given key member score flags queues = record { moves = one key member (Put score); is_counted = counts flags (score_in (queues key) member) score }

moves_home : (K h : ℕ) (command : Command) (queues : Queues) → heaps_of command K ≡ One h → AreHome K h (plan_of command queues).moves
moves_home K h (Zadd key flags ((score, member) ∷ [])) queues is move here =
    elim (lets flags (score_in (queues key) member) score) as (λ b. IsIn move ((if b then put_given key member score flags queues else nothing).moves ++ []) → heap_of move.key move.member K ≡ h) [
      | true ↦ λ there. home_one K h _ (same_heap _ _ is) move there
      | false ↦ λ there. absurd there
    ] here
moves_home K h (Zrem key (member ∷ [])) queues is move here =
    elim (is_some (score_in (queues key) member)) as (λ b. IsIn move ((if b then record { moves = one key member Drop; is_counted = true } else nothing).moves ++ []) → heap_of move.key move.member K ≡ h) [
      | true ↦ λ there. home_one K h _ (same_heap _ _ is) move there
      | false ↦ λ there. absurd there
    ] here
moves_home K h (Zincrby key increment member) queues is move here =
    home_part K h (is_in_range (sum_of (score_in (queues key) member) increment)) _ _ (home_one K h _ (same_heap _ _ is)) (home_none K h) move here
moves_home K h (ZaddIncr key flags increment member) queues is move here =
    home_part K h (lets flags (score_in (queues key) member) (sum_of (score_in (queues key) member) increment)) _ _
    (home_part K h (is_in_range (sum_of (score_in (queues key) member) increment)) _ _ (home_one K h _ (same_heap _ _ is)) (home_none K h)) (home_none K h) move here
moves_home K h (Zscore key member) queues is move here = absurd here
moves_home K h (Zadd key flags []) queues is move here = absurd (cc)
moves_home K h (Zadd key flags (a ∷ b ∷ pairs)) queues is move here = absurd (cc)
moves_home K h (Zrem key []) queues is move here = absurd (cc)
moves_home K h (Zrem key (a ∷ b ∷ members)) queues is move here = absurd (cc)
moves_home K h (Zcard key) queues is move here = absurd (cc)
moves_home K h (Zcount key min max) queues is move here = absurd (cc)
moves_home K h (Zrank key member) queues is move here = absurd (cc)
moves_home K h (Zrevrank key member) queues is move here = absurd (cc)
moves_home K h (Zrange key range is_turned with_scores) queues is move here = absurd (cc)
moves_home K h (Zpopmin key count) queues is move here = absurd (cc)
moves_home K h (Zpopnear key) queues is move here = absurd (cc)
moves_home K h (Del keys) queues is move here = absurd (cc)
moves_home K h (Ping message) queues is move here = absurd (cc)

pub not_popping : (K h : ℕ) (command : Command) → heaps_of command K ≡ One h → popped_of command ≡ None
not_popping K h (Zadd key flags ((score, member) ∷ [])) is = refl
not_popping K h (Zrem key (member ∷ [])) is = refl
not_popping K h (Zincrby key increment member) is = refl
not_popping K h (ZaddIncr key flags increment member) is = refl
not_popping K h (Zscore key member) is = refl
not_popping K h (Zadd key flags []) is = absurd (cc)
not_popping K h (Zadd key flags (a ∷ b ∷ pairs)) is = absurd (cc)
not_popping K h (Zrem key []) is = absurd (cc)
not_popping K h (Zrem key (a ∷ b ∷ members)) is = absurd (cc)
not_popping K h (Zcard key) is = absurd (cc)
not_popping K h (Zcount key min max) is = absurd (cc)
not_popping K h (Zrank key member) is = absurd (cc)
not_popping K h (Zrevrank key member) is = absurd (cc)
not_popping K h (Zrange key range is_turned with_scores) is = absurd (cc)
not_popping K h (Zpopmin key count) is = absurd (cc)
not_popping K h (Zpopnear key) is = absurd (cc)
not_popping K h (Del keys) is = absurd (cc)
not_popping K h (Ping message) is = absurd (cc)

-- what it takes memory for has nothing to do with the queues
pub takes_same : (K h : ℕ) (command : Command) (queues others : Queues) → heaps_of command K ≡ One h → takes_of command queues ≡ takes_of command others
takes_same K h (Zadd key flags pairs) queues others is = refl
takes_same K h (Zrem key members) queues others is = refl
takes_same K h (Zincrby key increment member) queues others is = refl
takes_same K h (ZaddIncr key flags increment member) queues others is = refl
takes_same K h (Zscore key member) queues others is = refl
takes_same K h (Zcard key) queues others is = absurd (cc)
takes_same K h (Zcount key min max) queues others is = absurd (cc)
takes_same K h (Zrank key member) queues others is = absurd (cc)
takes_same K h (Zrevrank key member) queues others is = absurd (cc)
takes_same K h (Zrange key range is_turned with_scores) queues others is = absurd (cc)
takes_same K h (Zpopmin key count) queues others is = refl
takes_same K h (Zpopnear key) queues others is = refl
takes_same K h (Del keys) queues others is = refl
takes_same K h (Ping message) queues others is = refl

-- a command that pops nothing is cut with the same words whatever the queues
pub cut_same : (command : Command) (queues others : Queues) (k : ℕ) (want : Want) → popped_of command ≡ None → cut_reply command queues k want ≡ cut_reply command others k want
cut_same command queues others k want none = ap (λ popped. cut_pop popped queues k want) none ∙ sym (ap (λ popped. cut_pop popped others k want) none)

-- ---- books

-- books of other heaps
abbrev AreApart : ℕ → ℕ → List Book → Type 0
AreApart K h books = (b : Book) → IsIn b books → (b.heaps ≡ K) × (b.heap ≡ h → ⊥)

module _ (K h site stamp : ℕ) where
  made_apart : (move : Move) (books : List Book) → heap_of move.key move.member K ≡ h → AreApart K h books → made site stamp move books ≡ books
  made_apart move [] at are = refl
  made_apart move (b ∷ books) at are =
      let its = are b (inl refl) in
      let away : is_home move b ≡ false = ne_eqb _ _ (λ same. its.1 (sym same ∙ ap (heap_of move.key move.member) its.0 ∙ at)) in
      let first = cond-false (is_home move b) (made_in site stamp move b) b away in
      let rest = made_apart move books at (λ c here. are c (inr here)) in
      λ i. first i ∷ rest i

  abbrev moved : Move → Book → Book
  moved move b = if is_home move b then made_in site stamp move b else b

  made_among : (move : Move) (front back : List Book) (b : Book) → heap_of move.key move.member K ≡ h → AreApart K h front → AreApart K h back →
      made site stamp move (front ++ b ∷ back) ≡ front ++ moved move b ∷ back
  made_among move [] back b at before behind = let rest = made_apart move back at behind in λ i. moved move b ∷ rest i
  made_among move (c ∷ front) back b at before behind =
      let its = before c (inl refl) in
      let away : is_home move c ≡ false = ne_eqb _ _ (λ same. its.1 (sym same ∙ ap (heap_of move.key move.member) its.0 ∙ at)) in
      let first = cond-false (is_home move c) (made_in site stamp move c) c away in
      let rest = made_among move front back b at (λ d here. before d (inr here)) behind in
      λ i. first i ∷ rest i

  after_among : (moves : List Move) (front back : List Book) (b : Book) → AreHome K h moves → AreApart K h front → AreApart K h back →
      books_after site stamp moves (front ++ b ∷ back) ≡ front ++ (books_after site stamp moves (b ∷ []) ++ back)
  after_among [] front back b home before behind = refl
  after_among (move ∷ moves) front back b home before behind =
      ap (books_after site stamp moves) (made_among move front back b (home move (inl refl)) before behind)
      ∙ after_among moves front back (moved move b) (λ m here. home m (inr here)) before behind

  in_take : (k : ℕ) (moves : List Move) (move : Move) → IsIn move (take k moves) → IsIn move moves
  in_take zero moves move here = absurd here
  in_take (suc k) [] move here = absurd here
  in_take (suc k) (m ∷ moves) move (inl same) = inl same
  in_take (suc k) (m ∷ moves) move (inr later) = inr (in_take k moves move later)

  why_among : (next : Option Move) (front back : List Book) (b : Book) (want : Want) → IsWhy site next (b ∷ []) want → IsWhy site next (front ++ b ∷ back) want
  why_among next front back b Memory why = tt
  why_among None front back b Number why = why
  why_among (Some move) front back b Number why =
      let worn = λ (c : Book). if is_home move c then is_worn site c else false in
      let found = any_some worn (b ∷ []) why in
      let same : b ≡ found.0 = elim found.1 [ inl same ↦ same | inr none ↦ absurd none ] in
      any_in worn (front ++ b ∷ back) b (in_right b front (b ∷ back) (inl refl)) (ap worn same ∙ found.2)

  -- and the other way round, where the move is made in this book's heap
  why_alone : (move : Move) (front back : List Book) (b : Book) → heap_of move.key move.member K ≡ h → AreApart K h front → AreApart K h back →
      IsWhy site (Some move) (front ++ b ∷ back) Number → IsWhy site (Some move) (b ∷ []) Number
  why_alone move front back b at before behind why =
      let worn = λ (c : Book). if is_home move c then is_worn site c else false in
      let found = any_some worn (front ++ b ∷ back) why in
      let away = λ (c : Book) (its : (c.heaps ≡ K) × (c.heap ≡ h → ⊥)).
      cond-false (is_home move c) (is_worn site c) false (ne_eqb _ _ (λ same. its.1 (sym same ∙ ap (heap_of move.key move.member) its.0 ∙ at))) in
      let same : b ≡ found.0 = elim (in_union found.0 front (b ∷ back) found.1) [
        | inl first ↦ absurd (true≢false (sym found.2 ∙ away found.0 (before found.0 first)))
        | inr (inl same) ↦ same
        | inr (inr later) ↦ absurd (true≢false (sym found.2 ∙ away found.0 (behind found.0 later)))
      ] in
      any_in worn (b ∷ []) b (inl refl) (ap worn same ∙ found.2)

  lack_among : (takes : Takes) (next : Option Move) (front back : List Book) (b : Book) →
      ((move : Move) → next ≡ Some move → heap_of move.key move.member K ≡ h) → AreApart K h front → AreApart K h back →
      MayLack takes site next (b ∷ []) → MayLack takes site next (front ++ b ∷ back)
  lack_among (ForReply is_long counted) next front back b home before behind lacks = lacks
  lack_among ForMoves None front back b home before behind lacks = lacks
  lack_among ForMoves (Some move) front back b home before behind lacks = λ worn. lacks (why_alone move front back b (home move refl) before behind worn)
  lack_among ForCopies None front back b home before behind lacks = lacks
  lack_among ForCopies (Some move) front back b home before behind lacks = tt

  why_among_of : (takes : Takes) (next : Option Move) (front back : List Book) (b : Book) (want : Want) →
      ((move : Move) → next ≡ Some move → heap_of move.key move.member K ≡ h) → AreApart K h front → AreApart K h back →
      IsWhyOf takes site next (b ∷ []) want → IsWhyOf takes site next (front ++ b ∷ back) want
  why_among_of takes next front back b Memory home before behind why = lack_among takes next front back b home before behind why
  why_among_of takes next front back b Number home before behind why = why_among next front back b Number why

  runs_among : (takes : Takes) (plan : Plan) (cut : ℕ → Want → Reply) (front back : List Book) (old new : Book) (reply : Word) → AreHome K h plan.moves → AreApart K h front → AreApart K h back →
      Runs site stamp takes plan cut (old ∷ []) (new ∷ []) reply → Runs site stamp takes plan cut (front ++ old ∷ back) (front ++ new ∷ back) reply
  runs_among takes plan cut front back old new reply home before behind (whole is says) =
      whole (ap (λ books. front ++ (books ++ back)) is ∙ sym (after_among plan.moves front back old home before behind)) says
  runs_among takes plan cut front back old new reply home before behind (part k want within is why says) =
      part k want within
      (ap (λ books. front ++ (books ++ back)) is ∙ sym (after_among (take k plan.moves) front back old (λ m here. home m (in_take k plan.moves m here)) before behind))
      (why_among_of takes _ front back new want (λ move next. home move (in_place plan.moves k move next)) before behind why) says

-- ---- books around one

lent_before : (K : ℕ) (front back : List Book) (old : Book) → AreLent K (front ++ old ∷ back) → AreApart K old.heap front
lent_before K [] back old are b here = absurd here
lent_before K (c ∷ front) back old are b (inl same) =
    let low = are.1 old (in_right old front (old ∷ back) (inl refl)) in
    (sym (ap (λ (d : Book). d.heaps) same) ∙ are.0.heaps, λ heap. let its : c.heap ≡ b.heap = ap (λ (d : Book). d.heap) same in absurd (omega (arith, low, its, heap)))
lent_before K (c ∷ front) back old are b (inr later) = lent_before K front back old are.2 b later

lent_all : (K : ℕ) (books : List Book) (b : Book) → AreLent K books → IsIn b books → b.heaps ≡ K
lent_all K [] b are here = absurd here
lent_all K (c ∷ books) b are (inl same) = sym (ap (λ (d : Book). d.heaps) same) ∙ are.0.heaps
lent_all K (c ∷ books) b are (inr later) = lent_all K books b are.2 later

lent_behind : (K : ℕ) (front back : List Book) (old : Book) → AreLent K (front ++ old ∷ back) → AreApart K old.heap back
lent_behind K [] back old are b here = (lent_all K back b are.2 here, λ heap. let low = are.1 b here in absurd (omega (arith, low, heap)))
lent_behind K (c ∷ front) back old are b here = lent_behind K front back old are.2 b here

pub run_alone : (rule : Rule) (K site stamp : ℕ) (command : Command) (front back : List Book) (old new : Book) (reply : Word) → AreLent K (front ++ old ∷ back) →
    heaps_of command K ≡ One old.heap → IsRun rule site stamp command (old ∷ []) (new ∷ []) reply → IsRun rule site stamp command (front ++ old ∷ back) (front ++ new ∷ back) reply
run_alone rule K site stamp command front back old new reply are one_ runs =
    let alone = queues_of rule (old ∷ []) in
    let all = queues_of rule (front ++ old ∷ back) in
    let plans : plan_of command alone ≡ plan_of command all = plan_alone rule K command (front ++ old ∷ back) old are (in_right old front (old ∷ back) (inl refl)) one_ in
    let cuts : cut_reply command alone ≡ cut_reply command all = λ i k want. cut_same command alone all k want (not_popping K old.heap command one_) i in
    subst (λ takes. Runs site stamp takes (plan_of command all) (cut_reply command all) (front ++ old ∷ back) (front ++ new ∷ back) reply) (takes_same K old.heap command alone all one_)
    (subst (λ plan. Runs site stamp (takes_of command alone) plan (cut_reply command all) (front ++ old ∷ back) (front ++ new ∷ back) reply) plans
    (subst (λ cut. Runs site stamp (takes_of command alone) (plan_of command alone) cut (front ++ old ∷ back) (front ++ new ∷ back) reply) cuts
    (runs_among K old.heap site stamp (takes_of command alone) (plan_of command alone) (cut_reply command alone) front back old new reply (moves_home K old.heap command alone one_)
    (lent_before K front back old are) (lent_behind K front back old are) runs)))
