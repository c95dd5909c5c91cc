-- What further requests say beside commands.

use Rattle.std.proofs.Common.{Bool, Err, List, None, Ok, Option, Some, [], ap, arith, codes, cond, false, int_lt, option_map, pos, refl, sym, true, ℤ, ◌∙◌, ◌∷◌, ◌≡◌}
use Rattle.std.proofs.lemmas.Option.{none-some, same_Some}
use Rattle.std.proofs.lemmas.Slice.Eq.{bytes_eq-Decides}
use Rattle.std.specs.List.{find}
use Rattle.std.specs.Str.{bytes_eq, str_to_ascii_lowercase}
use Rattle.zq_dialect.proofs.OlderNames.{others_stay}
use Rattle.zq_dialect.specs.Further.{Finding, call_of, finding, found_by, further_names, or_refused, pop_last}
use Rattle.zq_dialect.specs.FurtherLaws.{BoundsInward, FewBoundsStay, FurtherStay, LastPopped, NamesApart, PlacesRemoved, ScoresRemoved, last_of, removal_of}
use Rattle.zq_dialect.specs.Names.{name_of, names}
use Rattle.zq_dialect.specs.Said.{said_of, saying}
use Rattle.zq_dialect.specs.declared.further.Further.{Further}
use Rattle.zq_dialect.specs.declared.further.Further.TheVariants as further
use Rattle.zq_dialect.specs.declared.name.Name.{Name}
use Rattle.zq_dialect.specs.declared.name.Name.TheVariants as name
use Rattle.zq_words.specs.Bounds.{bound_of}
use Rattle.zq_words.specs.Calls.{PopLast, RemoveRange}
use Rattle.zq_words.specs.Command.{Zpopmin, Zrange, names as command_names, or_else, zpopmin}
use Rattle.zq_words.specs.Words.{Word, is, whole_of}
use Rattle.zq_words.specs.declared.bound.Bound.{Bound}
use Rattle.zq_words.specs.declared.name.Name.{Name as Command}
use Rattle.zq_words.specs.declared.range.Range.TheVariants.{ByPlace, ByScore}
use Rattle.zq_words.specs.declared.refused.Refused.TheVariants as refused

-- what a word names tells by its small letters
abbrev further_by : Word → Option Further
further_by low = option_map (λ row. row.1) (find (λ row. bytes_eq low (str_to_ascii_lowercase row.0)) further_names)

abbrev named_by : Word → Option Name
named_by low = option_map (λ row. row.1) (find (λ row. bytes_eq low (str_to_ascii_lowercase row.0)) names)

abbrev command_by : Word → Option Command
command_by low = option_map (λ row. row.1) (find (λ row. bytes_eq low (str_to_ascii_lowercase row.0)) command_names)

same_letters : (word name : Word) → is word name ≡ true → str_to_ascii_lowercase word ≡ str_to_ascii_lowercase name
same_letters word name e = (bytes_eq-Decides (str_to_ascii_lowercase word) (str_to_ascii_lowercase name)).0 e

-- what holds of each row
abbrev Each : (Word × Further → Type 0) → List (Word × Further) → Type 0
Each P [] = Unit {0}
Each P (row ∷ rows) = P row × Each P rows

-- the row of a name that is found
found_row : (word : Word) (P : Word × Further → Type 0) (rows : List (Word × Further)) (known : Further) → Each P rows →
    option_map (λ row. row.1) (find (λ row. is word row.0) rows) ≡ Some known → (row : Word × Further) × (is word row.0 ≡ true) × (row.1 ≡ known) × P row
found_row word P [] known all e = absurd (none-some _ e)
found_row word P (row ∷ rows) known all e = by (is word row.0) refl (λ f. found_row word P rows known all.1 f) e
  where
    by : (b : Bool) → is word row.0 ≡ b →
        (option_map (λ row. row.1) (find (λ row. is word row.0) rows) ≡ Some known → (row : Word × Further) × (is word row.0 ≡ true) × (row.1 ≡ known) × P row) →
        option_map (λ row. row.1) (cond b (Some row) (find (λ row. is word row.0) rows)) ≡ Some known → (row : Word × Further) × (is word row.0 ≡ true) × (row.1 ≡ known) × P row
    by true t later f = (row, t, same_Some _ _ f, all.0)
    by false t later f = later f

-- the row's name is no command's
abbrev IsApart : Word × Further → Type 0
IsApart row = command_by (str_to_ascii_lowercase row.0) ≡ None

pub names_apart : NamesApart
names_apart word known e =
    let row = found_row word IsApart further_names known (refl, (refl, (refl, (refl, (refl, (refl, tt)))))) e in
    ap command_by (same_letters word row.0.0 row.1) ∙ row.3

-- nor one of those whose words are rewritten, but for one
abbrev IsUnnamed : Word × Further → Type 0
IsUnnamed row = (row.1 ≡ further.Zremrangebyscore → ⊥) → named_by (str_to_ascii_lowercase row.0) ≡ None

pub further_stay : FurtherStay
further_stay word words known e other =
    let row = found_row word IsUnnamed further_names known
    (λ _. refl, (λ _. refl, (λ _. refl, (λ _. refl, (λ not. absurd (not refl), (λ _. refl, tt)))))) e in
    others_stay word words (ap named_by (same_letters word row.0.0 row.1) ∙ row.3 (λ is. other (sym row.2 ∙ is)))

said_by : (known : Option Name) (word : Word) (words : List Word) → name_of word ≡ known → said_of (word ∷ words) ≡ saying known word words
said_by known word words e = ap (λ found. saying found word words) e

removes : (word : Word) → is word (codes "ZREMRANGEBYSCORE") ≡ true → name_of word ≡ Some name.Zremrangebyscore
removes word e = ap named_by (same_letters word (codes "ZREMRANGEBYSCORE") e)

pub bounds_inward : BoundsInward
bounds_inward word key a b words e = said_by (Some name.Zremrangebyscore) word (key ∷ a ∷ b ∷ words) (removes word e)

pub few_bounds_stay : FewBoundsStay
few_bounds_stay word [] e h = said_by (Some name.Zremrangebyscore) word [] (removes word e)
few_bounds_stay word (key ∷ []) e h = said_by (Some name.Zremrangebyscore) word (key ∷ []) (removes word e)
few_bounds_stay word (key ∷ a ∷ []) e h = said_by (Some name.Zremrangebyscore) word (key ∷ a ∷ []) (removes word e)
few_bounds_stay word (key ∷ a ∷ b ∷ words) e h = absurd (omega (arith, h))

asked_so : (name word : Word) (words : List Word) → is word name ≡ true → call_of (word ∷ words) ≡ finding (further_by (str_to_ascii_lowercase name)) words
asked_so name word words e = ap (λ found. finding found words) (ap further_by (same_letters word name e))

by_bounds : (key : Word) (a b : Option Bound) →
    ◌≡◌ {A = Finding} (found_by (or_refused refused.Bound a (λ min. or_refused refused.Bound b (λ max. Ok (RemoveRange key (ByScore min max None))))))
    (removal_of (or_else refused.Bound a (λ first. or_else refused.Bound b (λ second. or_else refused.Whole (Some None) (λ given. Ok (Zrange key (ByScore first second given) false false))))))
by_bounds key None b = refl
by_bounds key (Some min) None = refl
by_bounds key (Some min) (Some max) = refl

pub scores_removed_so : ScoresRemoved
scores_removed_so word key a b e = asked_so (codes "ZREMRANGEBYSCORE") word (key ∷ a ∷ b ∷ []) e ∙ by_bounds key (bound_of a) (bound_of b)

by_places : (key : Word) (a b : Option ℤ) →
    ◌≡◌ {A = Finding} (found_by (or_refused refused.Whole a (λ start. or_refused refused.Whole b (λ stop. Ok (RemoveRange key (ByPlace start stop))))))
    (removal_of (or_else refused.Whole a (λ first. or_else refused.Whole b (λ last. Ok (Zrange key (ByPlace first last) false false)))))
by_places key None b = refl
by_places key (Some start) None = refl
by_places key (Some start) (Some stop) = refl

pub places_removed_so : PlacesRemoved
places_removed_so word key a b e = asked_so (codes "ZREMRANGEBYRANK") word (key ∷ a ∷ b ∷ []) e ∙ by_places key (whole_of a) (whole_of b)

by_sign : (key : Word) (count : ℤ) (b : Bool) →
    ◌≡◌ {A = Finding} (found_by (cond b (Err refused.Negative) (Ok (PopLast key count)))) (last_of (cond b (Err refused.Negative) (Ok (Zpopmin key count))))
by_sign key count true = refl
by_sign key count false = refl

by_count : (key : Word) (n : Option ℤ) → ◌≡◌ {A = Finding} (found_by (or_refused refused.Whole n (pop_last key))) (last_of (or_else refused.Whole n (zpopmin key)))
by_count key None = refl
by_count key (Some n) = by_sign key n (int_lt n (pos 0))

pub last_popped : LastPopped
last_popped word [] e = asked_so (codes "ZPOPMAX") word [] e
last_popped word (key ∷ []) e = asked_so (codes "ZPOPMAX") word (key ∷ []) e
last_popped word (key ∷ n ∷ []) e = asked_so (codes "ZPOPMAX") word (key ∷ n ∷ []) e ∙ by_count key (whole_of n)
last_popped word (key ∷ n ∷ m ∷ words) e = asked_so (codes "ZPOPMAX") word (key ∷ n ∷ m ∷ words) e
