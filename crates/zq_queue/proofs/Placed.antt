-- Each member of either form has a place.
use Rattle.std.proofs.Common.{ap, sym, ◌∙◌}
use Rattle.std.proofs.lemmas.Bool.{cond-false}
use Rattle.std.proofs.lemmas.List.{append-nil, append_assoc, map-set}
use Rattle.std.proofs.lemmas.Option.{slice_get-get_or}
use Rattle.std.specs.FinMap.{get}
use Rattle.std.specs.Global.{Box, Vec}
use Rattle.std.specs.Prelude.{IfSome, List, None, Option, Some, [], false, get_or, if◌then◌else◌, length, slice_get, slice_set, ℕ, ℤ, ◌++◌, ◌<◌, ◌∷◌, ◌≡◌}
use Rattle.zq_model.specs.Image.{Entry, is_bare}
use Rattle.zq_model.specs.Rule.{Rule}
use Rattle.zq_posheap.proofs.Lists.{behind, mapped_at, option_map_some, set_again}
use Rattle.zq_posheap.specs.Members.{AreListed, Members}
use Rattle.zq_queue.proofs.Eithers.{few_entries, few_there, many_entries}
use Rattle.zq_queue.proofs.Fews.{lists_few}
use Rattle.zq_queue.proofs.Helds.{get-entries_of}
use Rattle.zq_queue.specs.Few.{AreApart, entries_by, names_in, row_of, rows_of}
use Rattle.zq_queue.specs.Form.{IsFormOf, entries_in, places_in}
use Rattle.zq_queue.specs.declared.few.Member.{Member}
use Rattle.zq_queue.specs.declared.indexed.Indexed.{Indexed}
use Rattle.zq_queue.specs.declared.members.Form.{Form}
use Rattle.zq_queue.specs.declared.members.Form.TheVariants.{Few, Many}

-- a name that a list's map has stands in it
listed_few : (list : List Member) → AreApart list → (name : List ℕ) (entry : Entry) → get (entries_by list) name ≡ Some entry → (i : ℕ) × (slice_get (names_in list) i ≡ Some name)
listed_few list apart name entry got =
    let at = ((lists_few list apart).has (entry, name)).1 got in
    let row : slice_get (rows_of list) at.0 ≡ Some (entry, name) = slice_get-get_or (rows_of list) at.0 (entry, name) at.1 ∙ ap (λ r. Some r) at.2 in
    let member = behind row_of list at.0 (entry, name) row in
    (at.0, mapped_at (λ (m : Member). m.name) list at.0 member.0 member.1 ∙ ap (λ (r : Entry × List ℕ). Some r.1) member.2)

-- each member of a form has a place
abbrev pub AreAt : Form → Type 0
AreAt form = (name : List ℕ) (entry : Entry) → get (entries_in form) name ≡ Some entry → (i : ℕ) × (slice_get (places_in form) i ≡ Some name)

pub few_listed : (rule : Rule) (form : Form) (list : Vec Member) → form ≡ Few list → IsFormOf rule form → AreAt form
few_listed rule form list is its name entry got =
    let at = listed_few list.items (few_there rule form list list.items is (λ k. list.items) its).apart name entry
    (ap (λ m. get m name) (few_entries rule form list list.items is (λ k. list.items) its) ∙ got) in
    (at.0, ap (λ ps. slice_get ps at.0) (ap places_in is) ∙ at.1)

pub many_listed : (rule : Rule) (form : Form) (many : Box Indexed) (x : Members Entry) → form ≡ Many many → x ≡ many.value → IsFormOf rule form → AreListed x → AreAt form
many_listed rule form many x is value its listed name entry got =
    let got' = ap (λ m. get m name) (many_entries rule form many x is value its) ∙ got in
    let held = option_map_some (λ (p : ℤ × Entry). p.1) (get x.held name) entry (sym (get-entries_of x.held name) ∙ got') in
    let at = listed name held.0 held.1 in
    (at.0, ap (λ ps. slice_get ps at.0) (ap places_in is ∙ ap (λ (y : Members Entry). y.places) (sym value)) ∙ at.1)

-- a walk over a list, of which some are done and some left, goes on to the next one
pub next_name : {X : Type 0} (done done' left rest all : List X) (name : X) → done' ≡ done ++ name ∷ [] → left ≡ name ∷ rest → done ++ left ≡ all → done' ++ rest ≡ all
next_name done done' left rest all name more next so =
    ap (λ xs. xs ++ rest) more ∙ append_assoc done (name ∷ []) rest ∙ ap (λ ys. done ++ ys) (sym next) ∙ so

-- and is over where none is left
pub no_name_left : {X : Type 0} (done left all : List X) → left ≡ [] → done ++ left ≡ all → done ≡ all
no_name_left done left all none so = sym (append-nil done) ∙ ap (λ ys. done ++ ys) (sym none) ∙ so

-- a name that is added has an entry that is not bare
pub name_added : (entry : Entry) (old new : List (List ℕ)) (name : List ℕ) → is_bare entry ≡ false → new ≡ (if is_bare entry then old else old ++ name ∷ []) → new ≡ old ++ name ∷ []
name_added entry old new name some is = is ∙ cond-false (is_bare entry) old (old ++ name ∷ []) some

-- what each outcome says is said of it more weakly
pub some_map : {X : Type 0} {P Q : X → Type 0} (r : Option X) → IfSome r P → ((x : X) → P x → Q x) → IfSome r Q
some_map None p f = tt
some_map (Some x) p f = f x p

-- a member with another entry keeps its name
pub names_set : (xs : List Member) (i : ℕ) (m : Member) (entry : Entry) → i < length xs → m ≡ get_or xs i m → names_in (slice_set xs i (record { name = m.name; entry = entry })) ≡ names_in xs
names_set xs i m entry within is =
    map-set (λ (x : Member). x.name) xs i (record { name = m.name; entry = entry })
    ∙ set_again (names_in xs) i m.name (mapped_at (λ (x : Member). x.name) xs i m (slice_get-get_or xs i m within ∙ ap (λ x. Some x) (sym is)))

-- where an entry is not bare, what is chosen by that is the second
pub not_bare : {X : Type 0} (entry : Entry) (x y z : X) → is_bare entry ≡ false → z ≡ y → z ≡ (if is_bare entry then x else y)
not_bare entry x y z some same = same ∙ sym (cond-false (is_bare entry) x y some)
