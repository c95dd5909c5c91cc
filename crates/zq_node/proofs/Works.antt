-- How the work of a node goes on.

use Rattle.std.proofs.Common.{ap, inl, inr, refl, subst, sym}
use Rattle.std.specs.Prelude.{List, None, [], ℕ, ◌++◌, ◌≢◌, ◌∷◌, ◌⊎◌}
use Rattle.zq_dots.specs.Placed.{Placed}
use Rattle.zq_model.proofs.Membership.{in_left, in_right, in_union}
use Rattle.zq_model.specs.Sets.{IsIn}
use Rattle.zq_node.proofs.Called.{HasOperation, called_on, in_stays, known_by, seen_after}
use Rattle.zq_node.proofs.Changed.{parked_before, parked_still}
use Rattle.zq_node.specs.Calls.{Asked, Call, Copied, Drained, IsCalled, IsKnownTo, Merged, Portioned, Saw, Took, TookAll, TookOver}
use Rattle.zq_node.specs.Parked.{Entries, IsParked, IsUpdated, place_of}
use Rattle.zq_node.specs.Work.{IsOwed, IsWork}
use Rattle.zq_shard.specs.declared.taken.Taken.{Taken}
use Rattle.zq_shard.specs.declared.taken.Taken.TheVariants.{Early}
use Rattle.zq_spread.specs.declared.pass.Pass.{Pass}
use Rattle.zq_spread.specs.declared.site.Site.{Site}

module _ (site : Site) (ops : List Placed) where
  -- no call
  pub idle : (parked : Entries) (pass : Pass) → IsWork site ops parked parked pass pass
  idle parked pass = record { calls = []; called = refl; only = λ c none. absurd none; kept = λ o is. inl is; found = λ o is. inl is }

  only_one : (parked : Entries) (x : Call) → IsOwed ops parked x → (c : Call) → IsIn c (x ∷ []) → IsOwed ops parked c
  only_one parked x owed c here = elim here [ inl same ↦ subst (IsOwed ops parked) same owed | inr none ↦ absurd none ]

  -- a look at a vector
  pub saw : (parked : Entries) (before after : Pass) (heap : ℕ) (vector : List ℕ) → IsCalled site before after (Saw heap vector) → IsWork site ops parked parked before after
  saw parked before after heap vector is = record {
    calls = Saw heap vector ∷ [];
    called = (after, is, refl);
    only = only_one parked (Saw heap vector) tt;
    kept = λ o here. inl here;
    found = λ o here. inl here;
  }

  -- an operation that was handed to the site, where what is parked stays
  pub took : (parked : Entries) (before after : Pass) (o : Placed) (answer : Taken) → IsIn o ops ⊎ IsParked parked o → IsCalled site before after (Took o answer) → IsWork site ops parked parked before after
  took parked before after o answer from is = record {
    calls = Took o answer ∷ [];
    called = (after, is, refl);
    only = only_one parked (Took o answer) from;
    kept = λ p here. inl here;
    found = λ p here. inl here;
  }

  -- one that was parked, was taken and was let go
  pub let_go : (parked left : Entries) (before after : Pass) (o : Placed) (answer : Taken) → IsParked parked o → answer ≢ Early → IsUpdated parked left (place_of o) None →
      IsCalled site before after (Took o answer) → IsWork site ops parked left before after
  let_go parked left before after o answer here late gone is = record {
    calls = Took o answer ∷ [];
    called = (after, is, refl);
    only = only_one parked (Took o answer) (inr here);
    kept = λ p there. elim (parked_still parked left o p gone here there) [ inl stays ↦ inl stays | inr same ↦ inr (answer, late, inl (ap (λ q. Took q answer) (sym same))) ];
    found = λ p there. inl (parked_before parked left (place_of o) p gone there);
  }

  -- some of the operations that were heard were parked
  pub parked_more : (parked left : Entries) (pass : Pass) → ((o : Placed) → IsParked parked o → IsParked left o) → ((o : Placed) → IsParked left o → IsParked parked o ⊎ IsIn o ops) →
      IsWork site ops parked left pass pass
  parked_more parked left pass kept found = record { calls = []; called = refl; only = λ c none. absurd none; kept = λ o is. inl (kept o is); found = found }

  owed_before : (x y : Entries) → ((o : Placed) → IsParked y o → IsParked x o ⊎ IsIn o ops) → (c : Call) → IsOwed ops y c → IsOwed ops x c
  owed_before x y found (Took o answer) owed = elim owed [
    | inl here ↦ inl here
    | inr there ↦ (elim (found o there) [ inl before ↦ inr before | inr here ↦ inl here ])
  ]
  owed_before x y found (TookAll heap batch answer) owed = owed
  owed_before x y found (Merged shard) owed = absurd owed
  owed_before x y found (TookOver shard) owed = absurd owed
  owed_before x y found (Saw heap vector) owed = tt
  owed_before x y found (Asked heap vector answer) owed = absurd owed
  owed_before x y found (Copied heap shard) owed = absurd owed
  owed_before x y found (Portioned heap spot limits portion) owed = absurd owed
  owed_before x y found (Drained heap vector most answer) owed = absurd owed

  -- and what was done after it
  pub further : (x y z : Entries) (a b c : Pass) → IsWork site ops x y a b → IsWork site ops y z b c → IsWork site ops x z a c
  further x y z a b c one other = record {
    calls = one.calls ++ other.calls;
    called = called_on site a b c one.calls other.calls one.called other.called;
    only = λ call here. elim (in_union call one.calls other.calls here) [
      | inl first ↦ one.only call first
      | inr then ↦ owed_before x y one.found call (other.only call then)
    ];
    kept = λ o here. elim (one.kept o here) [
      | inl stays ↦ (elim (other.kept o stays) [
        | inl there ↦ inl there
        | inr taken ↦ inr (taken.0, taken.1, in_right (Took o taken.0) one.calls other.calls taken.2)
      ])
      | inr taken ↦ inr (taken.0, taken.1, in_left (Took o taken.0) one.calls other.calls taken.2)
    ];
    found = λ o there. elim (other.found o there) [ inl here ↦ one.found o here | inr of ↦ inr of ];
  }

  -- the same, of more operations
  pub of_more : (all : List Placed) (x y : Entries) (a b : Pass) → ((o : Placed) → IsIn o ops → IsIn o all) → IsWork site ops x y a b → IsWork site all x y a b
  of_more all x y a b within is = record {
    calls = is.calls;
    called = is.called;
    only = λ c here. owed_more all x within c (is.only c here);
    kept = is.kept;
    found = λ o there. elim (is.found o there) [ inl here ↦ inl here | inr of ↦ inr (within o of) ];
  }
    where
      owed_more : (all : List Placed) (x : Entries) → ((o : Placed) → IsIn o ops → IsIn o all) → (c : Call) → IsOwed ops x c → IsOwed all x c
      owed_more all x within (Took o answer) owed = elim owed [ inl here ↦ inl (within o here) | inr there ↦ inr there ]
      owed_more all x within (TookAll heap batch answer) owed = λ o here. within o (owed o here)
      owed_more all x within (Merged shard) owed = absurd owed
      owed_more all x within (TookOver shard) owed = absurd owed
      owed_more all x within (Saw heap vector) owed = tt
      owed_more all x within (Asked heap vector answer) owed = absurd owed
      owed_more all x within (Copied heap shard) owed = absurd owed
      owed_more all x within (Portioned heap spot limits portion) owed = absurd owed
      owed_more all x within (Drained heap vector most answer) owed = absurd owed

  -- what is known or parked stays so
  pub stays_heard : (x y : Entries) (a b : Pass) (o : Placed) → IsWork site ops x y a b → IsKnownTo a o ⊎ IsParked x o → IsKnownTo b o ⊎ IsParked y o
  stays_heard x y a b o is (inl known) = inl (seen_after (HasOperation o) (in_stays o) site a b o.operation.heap is.calls is.called known)
  stays_heard x y a b o is (inr parked) = elim (is.kept o parked) [
    | inl stays ↦ inr stays
    | inr taken ↦ inl (known_by site a b o is.calls is.called taken)
  ]
