-- Books that are alike but for their bases, their stamps and what of their tails was there before: a command runs over them alike.

use Rattle.std.proofs.Common.{ap, arith, refl, subst, sym, ◌∙◌}
use Rattle.std.proofs.lemmas.List.{append-nil, append_assoc}
use Rattle.std.specs.List.{list_any}
use Rattle.std.specs.Prelude.{Bool, List, None, Option, Some, [], false, if◌then◌else◌, map, slice_get, slice_index, take, true, ℕ, ◌++◌, ◌+◌, ◌==◌, ◌∷◌, ◌≡◌, ◌||◌}
use Rattle.zq_model.specs.Books.{Book, Made, Record}
use Rattle.zq_model.specs.Reach.{IsWorked}
use Rattle.zq_model.specs.Heaps.{heap_of}
use Rattle.zq_model.specs.Image.{image_after}
use Rattle.zq_model.specs.Operation.{operation_over}
use Rattle.zq_model.specs.Queue.{queue_of}
use Rattle.zq_model.specs.Rule.{Rule}
use Rattle.zq_model.specs.Sets.{LAST}
use Rattle.zq_model.specs.Lent.{books_after, is_home, made, made_in, operation_in, queues_of}
use Rattle.zq_model.specs.Moves.{Move, Queues}
use Rattle.zq_semantics.specs.Plan.{Plan}
use Rattle.zq_semantics.specs.Procedures.{Procedure, RunsAll, RunsProcedure, procedure_of}
use Rattle.zq_semantics.specs.Replies.{Reply}
use Rattle.zq_semantics.specs.Run.{ForCopies, ForMoves, ForReply, IsRun, IsWhyOf, LAST_COUNT, MayLack, Memory, Number, Runs, Takes, Want, is_worn, part, whole}
use Rattle.zq_words.specs.Command.{Command}
use Rattle.zq_words.specs.Words.{Word}

-- both went on from these tails with the same records
pub record IsTwin (a b : List Record) (x y : Book) : Type 0 where
  pub heap : x.heap ≡ y.heap
  pub heaps : x.heaps ≡ y.heaps
  pub state : x.state ≡ y.state
  pub count : x.count ≡ y.count
  pub records : List Record
  pub mine : x.tail ≡ a ++ records
  pub theirs : y.tail ≡ b ++ records

-- and each of these books from those of the first lists
abbrev pub AreTwins : List Book → List Book → List Book → List Book → Type 0
AreTwins [] [] [] [] = Unit {0}
AreTwins (a ∷ us) (b ∷ vs) (x ∷ xs) (y ∷ ys) = IsTwin a.tail b.tail x y × AreTwins us vs xs ys
AreTwins us vs xs ys = ⊥

-- a book that was cut and dated by a call is like the one found
pub begun_twin : (b a : Book) (stamp : ℕ) → IsWorked b a stamp [] → IsTwin b.tail a.tail b a
begun_twin b a stamp is = record {
  heap = is.heap;
  heaps = is.heaps;
  state = is.state;
  count = let e = is.count in omega (arith, e);
  records = [];
  mine = sym (append-nil b.tail);
  theirs = sym (append-nil a.tail);
}

-- ---- moves

made_twin : (a b : List Record) (site stamp : ℕ) (move : Move) (x y : Book) → IsTwin a b x y → IsTwin a b (made_in site stamp move x) (made_in site stamp move y)
made_twin a b site stamp move x y is =
    let same : operation_in site move x ≡ operation_in site move y = λ i. operation_over (is.heap i) (is.state i).vector site move.key move.member move.act in
    let last : Record = record { stamp = stamp; change = Made (operation_in site move y) } in
    record {
      heap = is.heap;
      heaps = is.heaps;
      state = λ i. image_after (same i) (is.state i);
      count = ap (λ n. n + 1) is.count;
      records = is.records ++ last ∷ [];
      mine = (λ i. is.mine i ++ (let r : Record = record { stamp = stamp; change = Made (same i) } in r) ∷ []) ∙ append_assoc a is.records (last ∷ []);
      theirs = ap (λ t. t ++ last ∷ []) is.theirs ∙ append_assoc b is.records (last ∷ []);
    }

one_of : (a b : List Record) (p q : Bool) (x y u v : Book) → p ≡ q → IsTwin a b u v → IsTwin a b x y → IsTwin a b (if p then u else x) (if q then v else y)
one_of a b true true x y u v e moved left = moved
one_of a b true false x y u v e moved left = absurd (cc)
one_of a b false true x y u v e moved left = absurd (cc)
one_of a b false false x y u v e moved left = left

same_home : (a b : List Record) (move : Move) (x y : Book) → IsTwin a b x y → is_home move x ≡ is_home move y
same_home a b move x y is = λ i. heap_of move.key move.member (is.heaps i) == is.heap i

made_twins : (site stamp : ℕ) (move : Move) (us vs xs ys : List Book) → AreTwins us vs xs ys → AreTwins us vs (made site stamp move xs) (made site stamp move ys)
made_twins site stamp move [] [] [] [] are = tt
made_twins site stamp move [] [] [] (y ∷ ys) are = elim are [ ]
made_twins site stamp move [] [] (x ∷ xs) ys are = elim are [ ]
made_twins site stamp move [] (b ∷ vs) xs ys are = elim are [ ]
made_twins site stamp move (a ∷ us) [] xs ys are = elim are [ ]
made_twins site stamp move (a ∷ us) (b ∷ vs) [] ys are = elim are [ ]
made_twins site stamp move (a ∷ us) (b ∷ vs) (x ∷ xs) [] are = elim are [ ]
made_twins site stamp move (a ∷ us) (b ∷ vs) (x ∷ xs) (y ∷ ys) are = (
  one_of a.tail b.tail (is_home move x) (is_home move y) x y (made_in site stamp move x) (made_in site stamp move y) (same_home a.tail b.tail move x y are.0) (made_twin a.tail b.tail site stamp move x y are.0) are.0,
  made_twins site stamp move us vs xs ys are.1,
)

pub after_twins : (site stamp : ℕ) (moves : List Move) (us vs xs ys : List Book) → AreTwins us vs xs ys → AreTwins us vs (books_after site stamp moves xs) (books_after site stamp moves ys)
after_twins site stamp [] us vs xs ys are = are
after_twins site stamp (move ∷ moves) us vs xs ys are =
    after_twins site stamp moves us vs (made site stamp move xs) (made site stamp move ys) (made_twins site stamp move us vs xs ys are)

-- ---- what a plan and a cut look at

same_members : (us vs xs ys : List Book) → AreTwins us vs xs ys → map (λ (b : Book). b.state.members) xs ≡ map (λ (b : Book). b.state.members) ys
same_members [] [] [] [] are = refl
same_members [] [] [] (y ∷ ys) are = elim are [ ]
same_members [] [] (x ∷ xs) ys are = elim are [ ]
same_members [] (b ∷ vs) xs ys are = elim are [ ]
same_members (a ∷ us) [] xs ys are = elim are [ ]
same_members (a ∷ us) (b ∷ vs) [] ys are = elim are [ ]
same_members (a ∷ us) (b ∷ vs) (x ∷ xs) [] are = elim are [ ]
same_members (a ∷ us) (b ∷ vs) (x ∷ xs) (y ∷ ys) are = λ i. (are.0.state i).members ∷ same_members us vs xs ys are.1 i

same_queues : (rule : Rule) (us vs xs ys : List Book) → AreTwins us vs xs ys → queues_of rule xs ≡ queues_of rule ys
same_queues rule us vs xs ys are = λ i. λ key. queue_of rule key (same_members us vs xs ys are i)

abbrev is_worn_for : ℕ → Move → Book → Bool
is_worn_for site move book = if is_home move book then is_worn site book else false

same_worn : (a b : List Record) (site : ℕ) (move : Move) (x y : Book) → IsTwin a b x y → is_worn_for site move x ≡ is_worn_for site move y
same_worn a b site move x y is =
    let home = same_home a b move x y is in
    let worn : is_worn site x ≡ is_worn site y = λ i. (slice_index (is.state i).vector site == LAST) || (is.count i == LAST_COUNT) in
    λ i. if home i then worn i else false

same_any : (site : ℕ) (move : Move) (us vs xs ys : List Book) → AreTwins us vs xs ys → list_any (is_worn_for site move) xs ≡ list_any (is_worn_for site move) ys
same_any site move [] [] [] [] are = refl
same_any site move [] [] [] (y ∷ ys) are = elim are [ ]
same_any site move [] [] (x ∷ xs) ys are = elim are [ ]
same_any site move [] (b ∷ vs) xs ys are = elim are [ ]
same_any site move (a ∷ us) [] xs ys are = elim are [ ]
same_any site move (a ∷ us) (b ∷ vs) [] ys are = elim are [ ]
same_any site move (a ∷ us) (b ∷ vs) (x ∷ xs) [] are = elim are [ ]
same_any site move (a ∷ us) (b ∷ vs) (x ∷ xs) (y ∷ ys) are = λ i. same_worn a.tail b.tail site move x y are.0 i || same_any site move us vs xs ys are.1 i

lack_twins : (takes : Takes) (site : ℕ) (next : Option Move) (us vs xs ys : List Book) → AreTwins us vs xs ys → MayLack takes site next xs → MayLack takes site next ys
lack_twins (ForReply is_long counted) site next us vs xs ys are lacks = lacks
lack_twins ForMoves site None us vs xs ys are lacks = lacks
lack_twins ForMoves site (Some move) us vs xs ys are lacks = λ worn. lacks (same_any site move us vs xs ys are ∙ worn)
lack_twins ForCopies site None us vs xs ys are lacks = lacks
lack_twins ForCopies site (Some move) us vs xs ys are lacks = tt

why_twins : (takes : Takes) (site : ℕ) (next : Option Move) (want : Want) (us vs xs ys : List Book) → AreTwins us vs xs ys → IsWhyOf takes site next xs want → IsWhyOf takes site next ys want
why_twins takes site next Memory us vs xs ys are why = lack_twins takes site next us vs xs ys are why
why_twins takes site None Number us vs xs ys are why = why
why_twins takes site (Some move) Number us vs xs ys are why = sym (same_any site move us vs xs ys are) ∙ why

-- ---- runs

runs_twins : (site stamp : ℕ) (takes : Takes) (plan : Plan) (cut : ℕ → Want → Reply) (us vs xs ys new : List Book) (reply : Word) → AreTwins us vs xs ys → Runs site stamp takes plan cut xs new reply →
    (left : List Book) × Runs site stamp takes plan cut ys left reply × AreTwins us vs new left
runs_twins site stamp takes plan cut us vs xs ys new reply are (whole is answer) =
    let left = books_after site stamp plan.moves ys in
    let twins : AreTwins us vs new left = subst (λ n. AreTwins us vs n left) (sym is) (after_twins site stamp plan.moves us vs xs ys are) in
    (left, whole refl answer, twins)
runs_twins site stamp takes plan cut us vs xs ys new reply are (part k want most is why answer) =
    let left = books_after site stamp (take k plan.moves) ys in
    let twins : AreTwins us vs new left = subst (λ n. AreTwins us vs n left) (sym is) (after_twins site stamp (take k plan.moves) us vs xs ys are) in
    (left, part k want most refl (why_twins takes site (slice_get plan.moves k) want us vs new left twins why) answer, twins)

-- a procedure that ran over books runs over those that are like them
procedure_twins : (rule : Rule) (site stamp : ℕ) (p : Procedure) (us vs xs ys new : List Book) (reply : Word) → AreTwins us vs xs ys → RunsProcedure rule site stamp p xs new reply →
    (left : List Book) × RunsProcedure rule site stamp p ys left reply × AreTwins us vs new left
procedure_twins rule site stamp p us vs xs ys new reply are ran =
    let same = same_queues rule us vs xs ys are in
    runs_twins site stamp (p.takes (queues_of rule ys)) (p.plan (queues_of rule ys)) (p.cut (queues_of rule ys)) us vs xs ys new reply are
    (subst (λ (q : Queues). Runs site stamp (p.takes q) (p.plan q) (p.cut q) xs new reply) same ran)

-- so does a command
pub run_twins : (rule : Rule) (site stamp : ℕ) (command : Command) (us vs new : List Book) (reply : Word) → AreTwins us vs us vs → IsRun rule site stamp command us new reply →
    (left : List Book) × IsRun rule site stamp command vs left reply × AreTwins us vs new left
run_twins rule site stamp command us vs new reply are ran = procedure_twins rule site stamp (procedure_of command) us vs us vs new reply are ran

-- and so do procedures, one after the other
pub each_twins : (rule : Rule) (site stamp : ℕ) (ps : List Procedure) (us vs xs ys new : List Book) (replies : List Word) → AreTwins us vs xs ys → RunsAll rule site stamp ps xs new replies →
    (left : List Book) × RunsAll rule site stamp ps ys left replies × AreTwins us vs new left
each_twins rule site stamp [] us vs xs ys new [] are ran = (ys, refl, subst (λ n. AreTwins us vs n ys) (sym ran) are)
each_twins rule site stamp [] us vs xs ys new (reply ∷ replies) are ran = absurd ran
each_twins rule site stamp (p ∷ ps) us vs xs ys new [] are ran = absurd ran
each_twins rule site stamp (p ∷ ps) us vs xs ys new (reply ∷ replies) are ran =
    let first = procedure_twins rule site stamp p us vs xs ys ran.0 reply are ran.1 in
    let rest = each_twins rule site stamp ps us vs ran.0 first.0 new replies first.2 ran.2 in
    (rest.0, (first.0, first.1, rest.1), rest.2)
