-- Further requests on keys, and what a site is asked by the words of one, or the first refusal.
use Rattle.std.specs.List.{find}
use Rattle.std.specs.Option.{option_map}
use Rattle.std.specs.Prelude.{Err, List, None, Ok, Option, Result, Some, [], codes, if◌then◌else◌, int_lt, pos, ℤ, ◌∷◌}
use Rattle.zq_dialect.specs.declared.further.Further.{Further}
use Rattle.zq_dialect.specs.declared.further.Further.TheVariants as further
use Rattle.zq_words.specs.Bounds.{bound_of}
use Rattle.zq_words.specs.Calls.{Call, Exist, PopLast, RemoveRange, Scores, TypeOf}
use Rattle.zq_words.specs.Words.{Word, is, whole_of}
use Rattle.zq_words.specs.declared.range.Range.TheVariants.{ByPlace, ByScore}
use Rattle.zq_words.specs.declared.refused.Refused.{Refused}
use Rattle.zq_words.specs.declared.refused.Refused.TheVariants as refused

-- what is asked, or the first refusal
abbrev pub Asking : Type 0
Asking = Result Call Refused

-- what comes of a value where there is one, and else the refusal
abbrev pub or_refused : {X : Type 0} → Refused → Option X → (X → Asking) → Asking
or_refused why None f = Err why
or_refused why (Some x) f = f x

abbrev pub further_names : List (Word × Further)
further_names =
    (codes "ZMSCORE", further.Zmscore) ∷ (codes "EXISTS", further.Exists)
    ∷ (codes "TYPE", further.TypeOf) ∷ (codes "ZPOPMAX", further.Zpopmax)
    ∷ (codes "ZREMRANGEBYSCORE", further.Zremrangebyscore)
    ∷ (codes "ZREMRANGEBYRANK", further.Zremrangebyrank) ∷ []

abbrev pub further_of : Word → Option Further
further_of word = option_map (λ row. row.1) (find (λ row. is word row.0) further_names)

-- so many of the last pairs, as ZPOPMIN has so many of the first
abbrev pub pop_last : Word → ℤ → Asking
pop_last key count = if int_lt count (pos 0) then Err refused.Negative else Ok (PopLast key count)

-- the two words are min and max
abbrev pub scores_removed : Word → Word → Word → Asking
scores_removed key a b =
    or_refused refused.Bound (bound_of a)
    (λ min. or_refused refused.Bound (bound_of b) (λ max.
    Ok (RemoveRange key (ByScore min max None))))

abbrev pub places_removed : Word → Word → Word → Asking
places_removed key a b =
    or_refused refused.Whole (whole_of a)
    (λ start. or_refused refused.Whole (whole_of b) (λ stop.
    Ok (RemoveRange key (ByPlace start stop))))

-- what the request of this name asks with these words after it
abbrev pub asked_by : Further → List Word → Asking
asked_by further.Zmscore (key ∷ member ∷ members) = Ok (Scores key (member ∷ members))
asked_by further.Exists (key ∷ keys) = Ok (Exist (key ∷ keys))
asked_by further.TypeOf (key ∷ []) = Ok (TypeOf key)
asked_by further.Zpopmax (key ∷ []) = Ok (PopLast key (pos 1))
asked_by further.Zpopmax (key ∷ count ∷ []) =
    or_refused refused.Whole (whole_of count) (pop_last key)
asked_by further.Zremrangebyscore (key ∷ a ∷ b ∷ []) = scores_removed key a b
asked_by further.Zremrangebyrank (key ∷ a ∷ b ∷ []) = places_removed key a b
asked_by _ _ = Err refused.Words

-- what is asked by a further request, none where it is another, or the first refusal
abbrev pub Finding : Type 0
Finding = Result (Option Call) Refused

abbrev pub found_by : Asking → Finding
found_by (Ok call) = Ok (Some call)
found_by (Err why) = Err why

abbrev pub finding : Option Further → List Word → Finding
finding None words = Ok None
finding (Some known) words = found_by (asked_by known words)

-- what a request's words ask
abbrev pub call_of : List Word → Finding
call_of [] = Ok None
call_of (word ∷ words) = finding (further_of word) words
