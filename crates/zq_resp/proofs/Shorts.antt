-- A short request, one word further, and whole.
use Rattle.std.proofs.Common.{◌≡◌, ℕ, ◌+◌, ◌*◌, ◌<◌, ◌≤◌, List, [], ◌∷◌, ◌++◌, length, map, set, take, drop, inl, All, false, Some, refl, sym, ap, subst, ◌∙◌, arith}
use Rattle.std.specs.List.{flat_map}
use Rattle.std.proofs.lemmas.List.{flat_map_more, length-map, length-take, map-set, take-append-drop, take-map, take_more_set}
use Rattle.std.proofs.Math.Seq.{take-add}
use Rattle.std.specs.declared.vec.Vec.{Vec}
use Rattle.std.specs.declared.alloc.Global.{Global}
use Rattle.zq_resp.specs.Front.{Got}
use Rattle.zq_resp.specs.Grammar.{request_at}
use Rattle.zq_resp.specs.Request.{AreWords, IsWord}
use Rattle.zq_resp.specs.Spelling.{number_line, word_text}
use Rattle.zq_resp.specs.Stream.{is_inside}
use Rattle.zq_resp.specs.Suspended.{views}
use Rattle.zq_resp.proofs.Spelled.{request_again}

-- nothing is kept
pub none_kept : (had : List ℕ) → is_inside (Some had) ≡ false → had ≡ []
none_kept [] outside = refl
none_kept (b ∷ had) outside = absurd cc

-- a word in the place of one that was there
pub put_again : (words : List (Vec ℕ Global)) (new : Vec ℕ Global) (place : ℕ) (word : List ℕ) → place < length words → new.items ≡ word → take (place + 1) (map (λ w. w.items) (set words place new)) ≡ take place (map (λ w. w.items) words) ++ word ∷ []
put_again words new place word within is =
    ap (take (place + 1)) (map-set (λ w. w.items) words place new)
    ∙ (take_more_set (map (λ w. w.items) words) place new.items (omega (arith, length-map words (λ w. w.items)))
    ∙ ap (λ last. take place (map (λ w. w.items) words) ++ last ∷ []) is)

-- a word behind the spelling of others
pub one_more : (bytes head word : List ℕ) (at taken : ℕ) (found : List (List ℕ)) → take at bytes ≡ head ++ flat_map word_text found → word_text word ≡ take taken (drop at bytes) → take (at + taken) bytes ≡ head ++ flat_map word_text (found ++ word ∷ [])
one_more bytes head word at taken found spelled is =
    take-add at taken bytes
    ∙ (ap (λ front. front ++ take taken (drop at bytes)) spelled
    ∙ (ap (λ text. (head ++ flat_map word_text found) ++ text) (sym is) ∙ flat_map_more word_text head found word))

-- the words that a count's line says, with their spelling
pub is_found : (bytes : List ℕ) (count at : ℕ) (words : List (List ℕ)) → length words ≡ count → AreWords words → at ≤ 16777216 → take at bytes ≡ (42 ∷ number_line count) ++ flat_map word_text words → request_at bytes ≡ Got (words, drop at bytes)
is_found bytes count at words counted are small spelled =
    ap request_at (sym (take-append-drop at bytes))
    ∙ request_again (take at bytes) (drop at bytes) words
    (record {
      limits = are;
      spells = inl (spelled ∙ ap (λ n. (42 ∷ number_line n) ++ flat_map word_text words) (sym counted));
      small = omega (arith, length-take at bytes);
    })

-- as many words as the count says, of those in a vector
pub cut_found : (bytes : List ℕ) (count at done : ℕ) (words cut : Vec (Vec ℕ Global) Global) → done ≡ count → count ≤ 9 → done ≤ length words.items → at ≤ 4 + 106 * done → All IsWord (take done (views words)) → take at bytes ≡ (42 ∷ number_line count) ++ flat_map word_text (take done (views words)) → cut.items ≡ take count words.items
    → AreWords (views cut) × (request_at bytes ≡ Got (views cut, drop at bytes))
cut_found bytes count at done words cut all few there small each spelled cuts =
    let found = take done (views words) in
    let viewed : views cut ≡ take done (views words) = ap (map (λ w. w.items)) cuts ∙ (sym (take-map (λ w. w.items) count words.items) ∙ ap (λ n. take n (views words)) (sym all)) in
    let counted : length (take done (views words)) ≡ count = omega (arith, length-take done (views words), length-map words.items (λ w. w.items)) in
    let are : AreWords (take done (views words)) = record { count = omega (arith, counted); each = each } in (
      subst (λ words. AreWords words) (sym viewed) are,
      is_found bytes count at found counted are (omega arith) spelled ∙ ap (λ words. Got (words, drop at bytes)) (sym viewed),
    )
