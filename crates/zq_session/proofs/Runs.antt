-- Runs of requests and their replies, one after the other.
use Rattle.std.proofs.Common.{◌≡◌, ◌≢◌, ℕ, List, [], ◌∷◌, ◌++◌, refl, sym, ap, ◌∙◌, subst, append_assoc, append-nil, arith}
use Rattle.zq_resp.specs.declared.reply.Reply.{Reply}
use Rattle.zq_resp.specs.Reply.{all_bytes, reply_bytes}
use Rattle.zq_resp.specs.Stream.{Requests}
use Rattle.zq_session.specs.Session.{Relation, Runs, IsAnswered, IsBegun, IsStopped}

all_bytes-append : (xs ys : List Reply) → all_bytes (xs ++ ys) ≡ all_bytes xs ++ all_bytes ys
all_bytes-append [] ys = refl
all_bytes-append (x ∷ xs) ys = ap (λ bytes. reply_bytes x ++ bytes) (all_bytes-append xs ys) ∙ sym (append_assoc (reply_bytes x) (all_bytes xs) (all_bytes ys))

pub runs-join : {S : Type 0} (answers : Relation S) (a b c : S) (xs ys : Requests) (rs ss : List Reply)
    → Runs answers a xs rs b → Runs answers b ys ss c → Runs answers a (xs ++ ys) (rs ++ ss) c
runs-join answers a b c [] ys [] ss p q = subst (λ s. Runs answers s ys ss c) (sym p) q
runs-join answers a b c (x ∷ xs) ys (r ∷ rs) ss p q = (p.0, p.1, runs-join answers p.0 b c xs ys rs ss p.2 q)
runs-join answers a b c [] ys (r ∷ rs) ss p q = absurd p
runs-join answers a b c (x ∷ xs) ys [] ss p q = absurd p

pub some_reply : (reply : Reply) → reply ∷ [] ≢ []
some_reply reply = λ none. absurd cc

pub answered-none : {S : Type 0} (answers : Relation S) (s : S) → IsAnswered answers s s [] []
answered-none answers s = ([], refl, refl)

pub answered-one : {S : Type 0} (answers : Relation S) (a b : S) (request : List (List ℕ)) (reply : Reply)
    → answers a request reply b → IsAnswered answers a b (request ∷ []) (reply_bytes reply)
answered-one answers a b request reply h = (reply ∷ [], (b, h, refl), sym (append-nil (reply_bytes reply)))

pub answered-join : {S : Type 0} (answers : Relation S) (a b c : S) (xs ys : Requests) (first second : List ℕ)
    → IsAnswered answers a b xs first → IsAnswered answers b c ys second → IsAnswered answers a c (xs ++ ys) (first ++ second)
answered-join answers a b c xs ys first second p q =
    (p.0 ++ q.0, runs-join answers a b c xs ys p.0 q.0 p.1 q.1, rw (p.2, q.2) (sym (all_bytes-append p.0 q.0)))

-- The reply was made and not written.
pub stopped-one : {S : Type 0} (answers : Relation S) (a b : S) (request : List (List ℕ)) (reply : Reply)
    → answers a request reply b → IsStopped answers a b (request ∷ []) [] (reply ∷ [])
stopped-one answers a b request reply h = record {
  first = request ∷ [];
  others = [];
  split = refl;
  replies = [];
  runs = (b, h, refl);
  at_most_one = omega arith;
  all_else = λ none. refl;
  written = refl;
}

-- All was written.
pub stopped-whole : {S : Type 0} (answers : Relation S) (a b : S) (requests : Requests) (bytes : List ℕ)
    → IsAnswered answers a b requests bytes → IsStopped answers a b requests bytes []
stopped-whole answers a b requests bytes p = record {
  first = requests;
  others = [];
  split = sym (append-nil requests);
  replies = p.0;
  runs = subst (λ replies. Runs answers a requests replies b) (sym (append-nil p.0)) p.1;
  at_most_one = omega arith;
  all_else = λ none. refl;
  written = p.2;
}

pub stopped-begun : {S : Type 0} (answers : Relation S) (a b : S) (requests : Requests) (bytes : List ℕ) (unwritten : List Reply)
    → IsStopped answers a b requests bytes unwritten → IsBegun answers a b requests bytes
stopped-begun answers a b requests bytes unwritten p = (
  p.first,
  p.others,
  all_bytes unwritten,
  p.split,
  (p.replies ++ unwritten, p.runs, rw p.written (sym (all_bytes-append p.replies unwritten))),
)

-- What is answered whole is begun.
pub begun-whole : {S : Type 0} (answers : Relation S) (a b : S) (requests : Requests) (bytes : List ℕ)
    → IsAnswered answers a b requests bytes → IsBegun answers a b requests bytes
begun-whole answers a b requests bytes p =
    (requests, [], [], sym (append-nil requests), subst (IsAnswered answers a b requests) (sym (append-nil bytes)) p)

-- Some are answered, and of those that follow the first.
pub stopped-join : {S : Type 0} (answers : Relation S) (a b c : S) (xs ys : Requests) (first second : List ℕ) (unwritten : List Reply)
    → IsAnswered answers a b xs first → IsStopped answers b c ys second unwritten → IsStopped answers a c (xs ++ ys) (first ++ second) unwritten
stopped-join answers a b c xs ys first second unwritten p q = record {
  first = xs ++ q.first;
  others = q.others;
  split = ap (λ l. xs ++ l) q.split ∙ sym (append_assoc xs q.first q.others);
  replies = p.0 ++ q.replies;
  runs = subst (λ replies. Runs answers a (xs ++ q.first) replies c) (sym (append_assoc p.0 q.replies unwritten))
      (runs-join answers a b c xs q.first p.0 (q.replies ++ unwritten) p.1 q.runs);
  at_most_one = q.at_most_one;
  all_else = q.all_else;
  written = rw (p.2, q.written) (sym (all_bytes-append p.0 q.replies));
}
