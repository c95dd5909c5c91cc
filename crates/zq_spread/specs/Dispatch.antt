-- What a command of a site comes to, by the heaps that it works in.

use Rattle.std.specs.List.{range_with_len}
use Rattle.std.specs.Prelude.{Bool, List, [], length, map, true, ℕ, ◌∷◌, ◌≡◌, ◌≤◌, ◌⊎◌}
use Rattle.zq_dots.specs.Rule.{rule_of}
use Rattle.zq_model.specs.Books.{Book, Step}
use Rattle.zq_model.specs.Rule.{Rule}
use Rattle.zq_model.specs.Sets.{IsIn}
use Rattle.zq_model.specs.Lent.{queues_of}
use Rattle.zq_semantics.specs.Doing.{drawn}
use Rattle.zq_spread.specs.Calls.{IsCall, heaps_of}
use Rattle.zq_spread.specs.Commanded.{IsAnswered, short_reply, worn_reply}
use Rattle.zq_spread.specs.Turns.{HasHeldOnce}
use Rattle.zq_spread.specs.Worn.{IsBusyIn, IsPassedOver, IsWornIn}
use Rattle.zq_spread.specs.declared.locked_heap.LockedHeap.{LockedHeap}
use Rattle.zq_spread.specs.declared.pass.Pass.{Pass}
use Rattle.zq_spread.specs.declared.site.Site.{Site}
use Rattle.zq_ticketlock.specs.declared.turns.Entry.{Entry}
use Rattle.zq_words.specs.Command.{Command, Zpopnear}
use Rattle.zq_words.specs.Heaps as named
use Rattle.zq_words.specs.Words.{Word}
use Rattle.zq_words.specs.declared.heaps.Heaps.{Heaps}
use Rattle.zq_words.specs.declared.heaps.Heaps.TheVariants.{All, Near, NoHeap, One}

-- all heaps of the site, by rising number
abbrev pub all_heaps : Site → List ℕ
all_heaps site = range_with_len 0 (heaps_of site)

-- refused, since a lock of these heaps or the stamp is at its last value
abbrev pub IsWornOut : List ℕ → Word → Pass → Pass → Type 0
IsWornOut heaps reply before after = (reply ≡ worn_reply) × IsWornIn heaps before after

-- the same, or since there was no memory to hold more heaps than one, and then no lock was taken
abbrev pub IsTurnedAway : List ℕ → Word → Pass → Pass → Type 0
IsTurnedAway heaps reply before after = IsWornOut heaps reply before after
    ⊎ ((reply ≡ short_reply) × (after ≡ before))

-- one of the books has a member of the key
abbrev pub HasQueued : Rule → List ℕ → List Book → Type 0
HasQueued rule key books = 1 ≤ length (queues_of rule books key)

-- and of that from which ZPOPNEAR pops
abbrev pub HasNear : Rule → Command → List Book → Type 0
HasNear rule (Zpopnear key) books = HasQueued rule key books
HasNear rule command books = ⊥

-- what the site's command does at a stamp, with this reply, over the books that its call found
abbrev pub DoesCommand : Site → ℕ → Command → Word → List Book → List (List Step) → Type 0
DoesCommand site stamp command reply =
    IsAnswered (rule_of site.rule) site.number stamp command reply

-- and what it does over two heaps that are drawn, where one of them has a member of the key
abbrev pub DoesNear : Site → ℕ → Command → Word → List Book → List (List Step) → Type 0
DoesNear site stamp command reply found steps = DoesCommand site stamp command reply found steps
    × HasNear (rule_of site.rule) command found

-- a call of the command in these heaps
abbrev pub IsCommand : Site → Command → Word → Pass → Pass → List ℕ → Type 0
IsCommand site command reply before after heaps =
    IsCall (DoesCommand site after.stamp command reply) before after heaps

-- it has held each of these heaps once
abbrev pub HasHeldEach : Pass → Pass → List ℕ → Type 0
HasHeldEach before after heaps = (h : ℕ) → IsIn h heaps → HasHeldOnce before after h

-- such a call, which has found these values there
abbrev pub IsCommandOver : Site → Command → Word → Pass → Pass → List ℕ → List LockedHeap → Type 0
IsCommandOver site command reply before after heaps found =
    (call : IsCommand site command reply before after heaps) × (call.found ≡ found)
    × HasHeldEach before after heaps

-- such a call, where there was enough from the first, or one of the books that it found has a
-- member of the key
abbrev pub HasAnswered : Site → Command → List ℕ → Bool → Word → Pass → Pass → List ℕ → Type 0
HasAnswered site command key enough reply before after heaps =
    (call : IsCommand site command reply before after heaps)
    × ((enough ≡ true) ⊎ HasQueued (rule_of site.rule) key
    (map (λ (x : LockedHeap). x.book) call.found)) × HasHeldEach before after heaps

-- ZPOPNEAR has held each of these heaps twice: first its book had no member of the key, and was let
-- go as it was given
abbrev pub HasPassedOver : Command → Pass → Pass → List ℕ → Type 0
HasPassedOver (Zpopnear key) before after heaps = (h : ℕ) → IsIn h heaps → (last : Entry LockedHeap)
    × IsPassedOver key (last ∷ []) before after h
HasPassedOver command before after heaps = ⊥

-- the same, but that it may not have come to hold each of them again
abbrev pub HasFoundNone : Command → Pass → Pass → List ℕ → Type 0
HasFoundNone (Zpopnear key) before after heaps = (h : ℕ) → IsIn h heaps →
    (later : List (Entry LockedHeap)) × IsPassedOver key later before after h
HasFoundNone command before after heaps = ⊥

-- a call of ZPOPNEAR in the heaps that it drew, where one of them has a member of the key, or in
-- all, where it has passed over those; or the refusal of the one or of the other
abbrev pub IsNear : Site → Command → Word → Pass → Pass → List ℕ → Type 0
IsNear site command reply before after drawn =
    IsCall (DoesNear site after.stamp command reply) before after drawn
    ⊎ ((IsCommand site command reply before after (all_heaps site)
    × HasPassedOver command before after drawn)
    ⊎ (IsTurnedAway drawn reply before after
    ⊎ (IsWornOut (all_heaps site) reply before after
    × HasFoundNone command before after drawn)))

-- a command that needs no heap is answered over no books, and leaves the pass; one of a member is a
-- call in its heap; ZPOPNEAR is a call in the two heaps that it draws where one of them has a
-- member of the key, or in all; any other is a call in all heaps; else it is refused
abbrev pub IsCalledIn : Heaps → Site → Command → ℕ → ℕ → Word → Pass → Pass → Type 0
IsCalledIn NoHeap site command w1 w2 reply before after = (after ≡ before)
    × DoesCommand site after.stamp command reply [] []
IsCalledIn (One heap) site command w1 w2 reply before after =
    IsCommand site command reply before after (heap ∷ []) ⊎ IsWornOut (heap ∷ []) reply before after
IsCalledIn Near site command w1 w2 reply before after =
    IsNear site command reply before after (drawn (heaps_of site) w1 w2)
IsCalledIn All site command w1 w2 reply before after =
    IsCommand site command reply before after (all_heaps site)
    ⊎ IsTurnedAway (all_heaps site) reply before after

-- a command that works in these heaps was refused since one of them is another's
abbrev pub IsBusyWith : Heaps → Site → Pass → Pass → Type 0
IsBusyWith NoHeap site before after = ⊥
IsBusyWith (One heap) site before after = IsBusyIn (heap ∷ []) before after
IsBusyWith Near site before after = IsBusyIn (all_heaps site) before after
IsBusyWith All site before after = IsBusyIn (all_heaps site) before after

-- the command was called by the two words, and answered with these bytes
abbrev pub IsCalled : Site → Command → ℕ → ℕ → Word → Pass → Pass → Type 0
IsCalled site command w1 w2 reply before after =
    IsCalledIn (named.heaps_of command (heaps_of site)) site command w1 w2 reply before after
