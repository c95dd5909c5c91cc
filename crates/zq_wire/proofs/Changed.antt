-- A greeting that was changed on the way is answered for by another message.

use Rattle.std.proofs.Common.{ap, append_assoc, arith, drop, inl, inr, length, List, None, Option, Some, refl, sym, take, ℕ, [], ◌∷◌, ◌++◌, ◌+◌, ◌*◌, ◌≡◌, ◌≢◌, ◌⊎◌, ◌∙◌}
use Rattle.std.proofs.Math.Seq.{drop-append_seam, take-append_seam}
use Rattle.std.proofs.lemmas.List.{length-append, take_all}
use Rattle.std.specs.Int.{to_be_bytes, w64}
use Rattle.std.specs.Prelude.{flat_map}
use Rattle.zq_dots.specs.declared.rule.Rule.{Rule}
use Rattle.zq_wire.proofs.Exactly.{by_secret_since}
use Rattle.zq_wire.proofs.Parts.{answer_long}
use Rattle.zq_wire.specs.GreetingLaws.{ChangedCollides, HasLengths, greeting_of_peer, own_claimant, peer_answer, peer_claimant}
use Rattle.zq_wire.specs.Said.{Claimant, answer, claim, covered, greeting, said_by}
use Rattle.zq_wire.specs.Told.{IsTold, IsToldIfNew, Told, form_of, told_in}
use Rattle.zq_wire.specs.declared.form.Form.{Form}
use Rattle.zq_wire.specs.declared.form.Form.TheVariants.{New}
use Rattle.zq_wire.specs.declared.side.Secret.{Secret}
use Rattle.zq_wire.specs.declared.side.Side.{Side}

-- two texts with fronts of one length
split_equal : (a b c d : List ℕ) → length a ≡ length b → a ++ c ≡ b ++ d → (a ≡ b) × (c ≡ d)
split_equal a b c d long same =
    let front : take (length a) (a ++ c) ≡ take (length b) (b ++ d) = λ i. take (long i) (same i) in
    let back : drop (length a) (a ++ c) ≡ drop (length b) (b ++ d) = λ i. drop (long i) (same i) in
    (sym (take-append_seam a c) ∙ (front ∙ take-append_seam b d), sym (drop-append_seam a c) ∙ (back ∙ drop-append_seam b d))

-- the length of a greeting in the new form, with a nonce
new_long : (told : Told) (site heaps : ℕ) (rule : Rule) (nonce : List ℕ) → IsTold heaps told → length nonce ≡ 16 → length (greeting (Some told) site heaps rule (Some nonce)) ≡ 55 + 8 * heaps
new_long told site heaps rule nonce whole long =
    let a = whole.name_long in
    let b = whole.start_long in
    let c = whole.counters_long in
    simp length-append (omega (arith, a, b, c, long))

greeting_long : (told : Option Told) (site heaps : ℕ) (rule : Rule) (nonce : List ℕ) → form_of told ≡ New → IsToldIfNew heaps told → length nonce ≡ 16 → length (greeting told site heaps rule (Some nonce)) ≡ 55 + 8 * heaps
greeting_long None site heaps rule nonce is whole long = cc
greeting_long (Some told) site heaps rule nonce is whole long = new_long told site heaps rule nonce whole long

counters_long : (counters : List ℕ) → length (flat_map (to_be_bytes w64) counters) ≡ 8 * length counters
counters_long [] = refl
counters_long (c ∷ counters) = omega (arith, counters_long counters)

told_long : (side : Side) (secret : Secret) → HasLengths side secret → IsToldIfNew side.heaps (told_in New side)
told_long side secret lengths =
    let few = lengths.few in
    let many = lengths.counters in
    let all : take 16 side.counters.now ≡ side.counters.now = take_all 16 side.counters.now (omega (arith, few, many)) in
    record {
      name_long = lengths.run;
      start_long = refl;
      counters_long = counters_long (take 16 side.counters.now) ∙ ap (λ n. 8 * n) (ap length all ∙ lengths.counters);
    }

said_long : (side : Side) (secret : Secret) → side.secret ≡ Some secret → side.form ≡ New → HasLengths side secret → length (said_by side) ≡ 55 + 8 * side.heaps
said_long side secret some in_form lengths = rw (in_form, some) (greeting_long (told_in New side) side.site side.heaps side.rule secret.nonce refl (told_long side secret lengths) lengths.nonce)

-- two claims that are the same name the same greetings
greetings_same : (v w : ℕ) (a b c d : Claimant) → length a.nonce ≡ length c.nonce → length b.nonce ≡ length d.nonce → length a.greeting ≡ length b.greeting → length c.greeting ≡ length d.greeting
    → claim v a b ≡ claim w c d → (a.greeting ≡ c.greeting) × (b.greeting ≡ d.greeting)
greetings_same v w a b c d first second left right same =
    let nonces : a.nonce ++ (b.nonce ++ (a.greeting ++ b.greeting)) ≡ c.nonce ++ (d.nonce ++ (c.greeting ++ d.greeting)) = ap (drop 3) same in
    let (_, others) = split_equal a.nonce c.nonce (b.nonce ++ (a.greeting ++ b.greeting)) (d.nonce ++ (c.greeting ++ d.greeting)) first nonces in
    let (_, greetings) = split_equal b.nonce d.nonce (a.greeting ++ b.greeting) (c.greeting ++ d.greeting) second others in
    let long : length a.greeting ≡ length c.greeting = omega (arith, ap length greetings, length-append a.greeting b.greeting, length-append c.greeting d.greeting, left, right) in
    split_equal a.greeting c.greeting b.greeting d.greeting long greetings

whole_if_new : (form : Form) (bytes : List ℕ) → form ≡ New → covered form bytes ≡ bytes
whole_if_new form bytes is = ap (λ f. covered f bytes) is

one_differs : (a b c d : List ℕ) → (a ≢ b) ⊎ (c ≢ d) → a ≡ b → c ≡ d → ⊥
one_differs a b c d (inl other) same again = other same
one_differs a b c d (inr other) same again = other again

pub changed_collides : ChangedCollides
changed_collides side secret came more again sender hearer peer version run own used some in_form lengths came_long heard changed h =
    let said : List ℕ = said_by side in
    let w = by_secret_since side (said_by side) secret (came ++ (answer secret.key.now again sender hearer ++ more)) peer version run own used some h in
    let one : Claimant = peer_claimant side w.told peer w.nonce in
    let other : Claimant = own_claimant side (said_by side) secret in
    let whole : length (greeting_of_peer side w.told peer w.nonce) ≡ 55 + 8 * side.heaps =
    greeting_long w.told peer side.heaps side.rule w.nonce (w.agrees.form ∙ in_form) w.agrees.whole w.nonce_long in
    let own_whole : length (said_by side) ≡ 55 + 8 * side.heaps = said_long side secret some in_form lengths in
    let texts : came ++ (answer secret.key.now again sender hearer ++ more) ≡ greeting_of_peer side w.told peer w.nonce ++ (peer_answer side (said_by side) secret w.told peer version w.nonce ++ w.frames) =
    w.said ∙ append_assoc (greeting_of_peer side w.told peer w.nonce) (peer_answer side (said_by side) secret w.told peer version w.nonce) w.frames in
    let (came_is, answers) = split_equal came (greeting_of_peer side w.told peer w.nonce) _ _ (came_long ∙ (own_whole ∙ sym whole)) texts in
    let tags_long : length (answer secret.key.now again sender hearer) ≡ length (peer_answer side (said_by side) secret w.told peer version w.nonce) =
    answer_long secret.key.now again sender hearer ∙ sym (answer_long secret.key.now version (peer_claimant side w.told peer w.nonce) (own_claimant side (said_by side) secret)) in
    let (tags, _) = split_equal (answer secret.key.now again sender hearer) (peer_answer side (said_by side) secret w.told peer version w.nonce) more w.frames tags_long answers in
    let one_is : (peer_claimant side w.told peer w.nonce).greeting ≡ greeting_of_peer side w.told peer w.nonce = whole_if_new side.form (greeting_of_peer side w.told peer w.nonce) in_form in
    let other_is : (own_claimant side (said_by side) secret).greeting ≡ said_by side = whole_if_new side.form (said_by side) in_form in
    let lengths_same : length (peer_claimant side w.told peer w.nonce).greeting ≡ length (own_claimant side (said_by side) secret).greeting =
    ap length one_is ∙ (whole ∙ (sym own_whole ∙ sym (ap length other_is))) in
    let nonces : length sender.nonce ≡ length w.nonce = heard.sender_nonce ∙ sym w.nonce_long in
    let own_nonces : length hearer.nonce ≡ length secret.nonce = heard.hearer_nonce ∙ sym lengths.nonce in (
      claim version (peer_claimant side w.told peer w.nonce) (own_claimant side (said_by side) secret),
      record {
        differ = λ same.
            let (sent, got) = greetings_same again version sender hearer (peer_claimant side w.told peer w.nonce) (own_claimant side (said_by side) secret) nonces own_nonces heard.lengths lengths_same same in
            one_differs sender.greeting came hearer.greeting (said_by side) changed (sent ∙ (one_is ∙ sym came_is)) (got ∙ other_is);
        same = tags;
      },
    )
